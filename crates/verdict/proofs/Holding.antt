-- The queries told one by one: which of them stay true, and which stay false, under each minimal explanation.
-- Assumes nothing.
use mathlib.Core.Path.{◌≡◌, refl, sym, ap, ◌∙◌}
use mathlib.Core.Bool.{Bool, true, false, not, ◌&&◌, ◌||◌, and-true, and-false, or-true, false≢true}
use Prim.Native.Nat.{ℕ, ◌^◌, ◌<◌}
use lib.Bits.{bit_or}
use lib.Dec.{eqb}
use borrow.Author.Tests.{eqb-true}
use Rattle.words.specs.Choice.{pick}
use Rattle.words.specs.Bits.{has, word}
use Rattle.words.specs.OneBit.{without_bit, BitOf}
use Rattle.words.proofs.Tests.{Gives, and_true_l}
use Rattle.words.proofs.Bits.{has-and, has-or, has-zero}
use Rattle.words.proofs.Words.{is_word, has_without_one, without_one_lt}
use Rattle.logic.specs.declared.value.Value.{Value}
use Rattle.logic.specs.Value.{is_true, is_false}
use Rattle.verdict.specs.declared.counts.Counts.{Counts}
use Rattle.verdict.specs.Counting.{told_with}

-- a bit told by the test t: e says whether it is this bit, l whether it was still to come
told : (a l p t e : Bool) → Gives e l → (e ≡ true → p ≡ t)
    → pick t (a && (l || p)) ((a && (l || p)) && not e) ≡ (a && ((l && not e) || p))
told a l p true true g f = rw (g refl, f refl)
told a l p true false g f = rw (and-true l)
told a l p false true g f = rw (g refl, f refl) (and-false (a && true) ∙ sym (and-false a))
told a l p false false g f = and-true (a && (l || p)) ∙ rw (and-true l)

-- ---- a word w₀ of which the bits that fail a test go, bit by bit; left has those to come
module _ (w₀ : ℕ) (p : ℕ → Bool) where
  pub record Kept (w left : ℕ) : Type 0 where
    pub fits : w < 2 ^ 64
    pub bits_are : (q : ℕ) → q < 64 → has w q ≡ (has w₀ q && (has left q || p q))

  pub kept-start : (left : ℕ) → w₀ < 2 ^ 64 → ((q : ℕ) → Gives (has w₀ q) (has left q)) → Kept w₀ left
  kept-start left h g = record { fits = h; bits_are = λ q l. here (has w₀ q) (has left q) (p q) (g q) }
    where
      here : (a b c : Bool) → Gives a b → a ≡ (a && (b || c))
      here true true c g = refl
      here true false c g = absurd (false≢true (g refl))
      here false b c g = refl

  pub kept-end : {w : ℕ} → Kept w 0 → w ≡ word 64 (λ q. has w₀ q && p q)
  kept-end {w} k =
      is_word 64 w _ k.fits
      (λ q l. k.bits_are q l ∙ ap (λ (b : Bool). has w₀ q && (b || p q)) (has-zero q))

  -- bit i is told: it stays where the test passes
  module _ {w left i : ℕ} (k : Kept w left) (b : BitOf left i) where
    picked : (t : Bool) (q : ℕ) → q < 64
        → has (pick t w (without_bit w i)) q ≡ pick t (has w q) (has w q && not (eqb q i))
    picked true q l = refl
    picked false q l = has_without_one 64 w i q b.small l

    picked-lt : (t : Bool) → pick t w (without_bit w i) < 2 ^ 64
    picked-lt true = k.fits
    picked-lt false = without_one_lt 64 w i k.fits

    pub kept_next : (t : Bool) → t ≡ p i → Kept (pick t w (without_bit w i)) (without_bit left i)
    kept_next t e = record {
      fits = picked-lt t;
      bits_are = λ q l.
          picked t q l
          ∙ ap (λ (x : Bool). pick t x (x && not (eqb q i))) (k.bits_are q l)
          ∙ told (has w₀ q) (has left q) (p q) t (eqb q i)
          (λ z. ap (has left) (eqb-true q i z) ∙ b.there)
          (λ z. ap p (eqb-true q i z) ∙ sym e)
          ∙ ap (λ (x : Bool). has w₀ q && (x || p q)) (sym (has_without_one 64 left i q b.small l));
    }

-- the counts k, where the queries have the values v in a minimal explanation that is counted already
abbrev kept_by : Counts → (ℕ → Value) → Counts
kept_by k v = record {
  minimal = k.minimal;
  follows = word 64 (λ q. has k.follows q && is_true (v q));
  denied = word 64 (λ q. has k.denied q && is_false (v q));
}

-- counts whose parts are the same are the same
counts_alike : {m n f g d e : ℕ} → m ≡ n → f ≡ g → d ≡ e
    → ◌≡◌ {A = Counts} (record { minimal = m; follows = f; denied = d })
    (record { minimal = n; follows = g; denied = e })
counts_alike a b c = rw (a, b, c)

-- ---- the counts k while the values v of queries are told; left has the queries to come
pub record Telling (k : Counts) (v : ℕ → Value) (r : Counts) (left : ℕ) : Type 0 where
  pub minimal-is : r.minimal ≡ k.minimal
  pub follows_kept : Kept k.follows (λ q. is_true (v q)) r.follows left
  pub denied_kept : Kept k.denied (λ q. is_false (v q)) r.denied left
  pub left-asked : (q : ℕ) → Gives (has left q) (has (bit_or k.follows k.denied) q)

module _ {k : Counts} {v : ℕ → Value} where
  -- before the first
  pub telling_start : k.follows < 2 ^ 64 → k.denied < 2 ^ 64
      → Telling k v k (bit_or k.follows k.denied)
  telling_start h g = record {
    minimal-is = refl;
    follows_kept = kept-start k.follows _ _ h
        (λ q z. has-or k.follows k.denied q ∙ ap (λ (b : Bool). b || has k.denied q) z);
    denied_kept = kept-start k.denied _ _ g
        (λ q z. has-or k.follows k.denied q ∙ ap (λ (b : Bool). has k.follows q || b) z
        ∙ or-true (has k.follows q));
    left-asked = λ q z. z;
  }

  module _ {r : Counts} {left : ℕ} (t : Telling k v r left) where
    -- a query to come is asked
    pub telling-asked : {q : ℕ} → BitOf left q → BitOf (bit_or k.follows k.denied) q
    telling-asked {q} b = record { small = b.small; there = t.left-asked q b.there }

    -- query q is told
    next : {q : ℕ} (x : Value) → BitOf left q → x ≡ v q → Telling k v (told_with r q x) (without_bit left q)
    next {q} x b e = record {
      minimal-is = t.minimal-is;
      follows_kept = kept_next k.follows _ t.follows_kept b (is_true x) (ap is_true e);
      denied_kept = kept_next k.denied _ t.denied_kept b (is_false x) (ap is_false e);
      left-asked = λ i z. t.left-asked i (and_true_l (has left i) _ (sym (has-and left _ i) ∙ z));
    }

    pub telling_next : {q : ℕ} {x : Value} {r₁ : Counts} {left₁ : ℕ} → BitOf left q → x ≡ v q → r₁ ≡ told_with r q x
        → left₁ ≡ without_bit left q → Telling k v r₁ left₁
    telling_next {q} {x} b e f g = rw (f, g) (next x b e)

    -- all are told
    pub telling_end : left ≡ 0 → r ≡ kept_by k v
    telling_end e =
        let f = kept-end k.follows (λ q. is_true (v q)) (rw e at t.follows_kept) in
        let d = kept-end k.denied (λ q. is_false (v q)) (rw e at t.denied_kept) in
        counts_alike t.minimal-is f d
