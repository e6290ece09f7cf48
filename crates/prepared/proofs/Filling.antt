-- How the tables fill, clause by clause. Assumes nothing.
use mathlib.Core.Path.{◌≡◌, refl, sym, ap, ap₂, ◌∙◌}
use mathlib.Core.Bool.{Bool, true, false, ◌&&◌, ◌||◌}
use mathlib.Core.List.{List}
use Prim.Native.Nat.{ℕ, suc, ◌+◌, ◌^◌, ◌<◌}
use native.Mathlib.Omega.{arith}
use native.Mathlib.Numerals.{add-one}
use lib.Bits.{bit_or}
use lib.Dec.{eqb, leb}
use lib.ListN.{length, get_or, set, length-set}
use lib.Pow.{pow_pos}
use lib.Seq.{get_or-set_same, get_or-set_other}
use borrow.Author.Tests.{eqb-true, eqb-false, eq-eqb, ne_eqb}
use Rattle.words.specs.Choice.{pick}
use Rattle.words.specs.Bits.{has}
use Rattle.words.specs.OneBit.{with_bit, without_bit, BitOf}
use Rattle.words.proofs.Bits.{has-zero, has-or}
use Rattle.words.proofs.Words.{word_lt, has_word, is_word}
use Rattle.words.proofs.BitWalks.{has_with, with_lt, without_here, without_other}
use Rattle.program.specs.Case.{head_at, kind_at, plain_at, negated_at}
use Rattle.program.specs.Program.{names, depends_on}
use Rattle.program.proofs.Heads.{head-lt}
use Rattle.prepared.specs.Dependents.{dependents_of, Dependents, Spread}
use Rattle.prepared.specs.Chains.{last_of, Lasts, Linked}

-- an entry written at i: f i there, what it was elsewhere
entry_set : (t : List ℕ) (i x : ℕ) (f : ℕ → ℕ) → i < length t → x ≡ f i
    → (j : ℕ) → ((j ≡ i → ⊥) → get_or t j 0 ≡ f j) → get_or (set t i x) j 0 ≡ f j
entry_set t i x f l e j other = go (eqb j i) refl
  where
    go : (b : Bool) → eqb j i ≡ b → get_or (set t i x) j 0 ≡ f j
    go true q = rw (eqb-true j i q) (get_or-set_same t i x 0 l ∙ e)
    go false q = get_or-set_other t i j x 0 (eqb-false j i q) ∙ other (eqb-false j i q)

-- ---- one head spread over the atoms of a word
-- the atoms left bring the table u to what the whole word makes of t
module _ (t : List ℕ) (w h : ℕ) where
  pub record Spreading (u : List ℕ) (left : ℕ) : Type 0 where
    pub size_is : length u ≡ 64
    pub entry-is : (i : ℕ) → i < 64 → with_bit (has left i) (get_or u i 0) h ≡ with_bit (has w i) (get_or t i 0) h

  pub spreading_next : (u : List ℕ) (left j b : ℕ) → Spreading u left → BitOf left j → b ≡ 2 ^ h
      → Spreading (set u j (bit_or (get_or u j 0) b)) (without_bit left j)
  spreading_next u left j b p q e = record {
    size_is = simp length-set p.size_is;
    entry-is = λ i l. go i l (eqb i j) refl ∙ p.entry-is i l;
  }
    where
      long : j < length u
      long = omega (arith, p.size_is, q.small)

      here : with_bit (has (without_bit left j) j) (get_or (set u j (bit_or (get_or u j 0) b)) j 0) h
          ≡ with_bit (has left j) (get_or u j 0) h
      here =
          ap₂ (λ (s : Bool) (x : ℕ). with_bit s x h) (without_here left j q) (get_or-set_same u j _ 0 long)
          ∙ ap (bit_or (get_or u j 0)) e ∙ ap (λ (s : Bool). with_bit s (get_or u j 0) h) (sym q.there)

      go : (i : ℕ) → i < 64 → (s : Bool) → eqb i j ≡ s
          → with_bit (has (without_bit left j) i) (get_or (set u j (bit_or (get_or u j 0) b)) i 0) h
          ≡ with_bit (has left i) (get_or u i 0) h
      go i l true z = rw (eqb-true i j z) here
      go i l false z =
          let ne = eqb-false i j z in
          ap₂ (λ (s : Bool) (x : ℕ). with_bit s x h) (without_other left j q i l ne) (get_or-set_other u j i _ 0 ne)

  pub spreading_end : (u : List ℕ) (left : ℕ) → Spreading u left → left ≡ 0 → Spread t w h u
  spreading_end u left p e = record {
    size_is = p.size_is;
    entry-is = λ i l. ap (λ (s : Bool). with_bit s (get_or u i 0) h) (sym (ap (λ (x : ℕ). has x i) e ∙ has-zero i))
        ∙ p.entry-is i l;
  }

-- ---- the dependents of an atom
dependents_lt : (cl : List ℕ) (n i : ℕ) → dependents_of cl n i < 2 ^ 64
unfolding dependents_of
dependents_lt cl n i = word_lt 64 _

pub dependents_has : (cl : List ℕ) (n i a : ℕ) → a < 64
    → has (dependents_of cl n i) a ≡ depends_on cl n a i
unfolding dependents_of
dependents_has cl n i a l = has_word 64 (λ b. depends_on cl n b i) a l

-- no clause names nothing
pub dependents_none : (cl : List ℕ) (i : ℕ) → 0 ≡ dependents_of cl 0 i
unfolding dependents_of
dependents_none cl i = is_word 64 0 _ (pow_pos 64) (λ a l. has-zero a)

and_comm : (a b : Bool) → (a && b) ≡ (b && a)
and_comm true true = refl
and_comm true false = refl
and_comm false true = refl
and_comm false false = refl

-- one clause more adds its head
dependents_more : (cl : List ℕ) (k i : ℕ)
    → with_bit (names cl k i) (dependents_of cl k i) (head_at cl k) ≡ dependents_of cl (suc k) i
unfolding dependents_of
dependents_more cl k i =
    is_word 64 _ (λ a. depends_on cl (suc k) a i)
    (with_lt (names cl k i) 64 (dependents_of cl k i) (head_at cl k) (dependents_lt cl k i) (head-lt cl k))
    (λ a l. has_with (names cl k i) (dependents_of cl k i) (head_at cl k) a
    ∙ ap₂ ◌||◌ (dependents_has cl k i a l) (and_comm (names cl k i) (eqb a (head_at cl k))))

pub dependents_next : (cl t u : List ℕ) (k : ℕ) → Dependents cl k t
    → Spread t (bit_or (plain_at cl k) (negated_at cl k)) (head_at cl k) u → Dependents cl (k + 1) u
dependents_next cl t u k d s i l =
    s.entry-is i l
    ∙ ap₂ (λ (b : Bool) (w : ℕ). with_bit b w (head_at cl k)) (has-or (plain_at cl k) (negated_at cl k) i) (d i l)
    ∙ dependents_more cl k i ∙ ap (λ (m : ℕ). dependents_of cl m i) (sym (add-one k))

-- ---- the chains
module _ (cl : List ℕ) (k : ℕ) where
  last_more : (a : ℕ) (t : Bool) → eqb a (head_at cl k) ≡ t
      → pick (t && leb 2 (kind_at cl k)) (suc k) (last_of cl a k) ≡ last_of cl a (k + 1)
  unfolding last_of
  last_more a t e =
      ap (λ (b : Bool). pick (b && leb 2 (kind_at cl k)) (suc k) (last_of cl a k)) (sym e)
      ∙ ap (last_of cl a) (sym (add-one k))

  pub lasts_next : (last : List ℕ) (x : ℕ) → length last ≡ 64 → Lasts cl k last
      → x ≡ pick (leb 2 (kind_at cl k)) (k + 1) (get_or last (head_at cl k) 0)
      → Lasts cl (k + 1) (set last (head_at cl k) x)
  lasts_next last x s g e a l =
      let h = head_at cl k in
      entry_set last h x (λ b. last_of cl b (k + 1)) (omega (arith, head-lt cl k))
      (e ∙ ap₂ (pick (leb 2 (kind_at cl k))) (add-one k) (g h (head-lt cl k)) ∙ last_more h true (eq-eqb h h refl))
      a (λ ne. g a l ∙ last_more a false (ne_eqb a h ne))

  pub linked-next : (prev : List ℕ) (x : ℕ) → k < length prev → Linked cl k prev → x ≡ last_of cl (head_at cl k) k
      → Linked cl (k + 1) (set prev k x)
  linked-next prev x s g e j l =
      entry_set prev k x (λ i. last_of cl (head_at cl i) i) s e j (λ ne. g j (omega arith))
