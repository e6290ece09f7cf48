-- How the numbers are given, round after round: the atoms left after k rounds are those from which a chain of k
-- dependencies starts. Assumes nothing.
use mathlib.Core.Path.{◌≡◌, refl, sym, ap, ap₂, ◌∙◌}
use mathlib.Core.Bool.{Bool, true, false, not, ◌&&◌, and-false, and-true, true≢false}
use mathlib.Core.List.{List}
use mathlib.Core.Logic.{◌⊎◌, inl, inr}
use Prim.Native.Nat.{ℕ, suc, ◌+◌, ◌-◌, ◌^◌, ◌≤◌, ◌<◌}
use native.Mathlib.Nat.{lt_of_le_of_lt, lt_of_lt_of_le}
use native.Mathlib.Numerals.{add-one}
use native.Mathlib.Omega.{arith}
use lib.Bits.{bit_and, and_le_l}
use lib.Dec.{eqb, ltb}
use lib.ListN.{length, get_or, set, replicate, length-set, get_or-replicate}
use lib.Pow.{pow_mono}
use lib.Seq.{get_or-set_same, get_or-set_other}
use borrow.Author.Tests.{eqb-true, eqb-false, lt-ltb, le-ltb}
use Rattle.words.specs.Choice.{pick}
use Rattle.words.specs.Below.{any}
use Rattle.words.specs.Bits.{has, word}
use Rattle.words.specs.OneBit.{without_bit, BitOf}
use Rattle.words.proofs.Tests.{lt-or-le}
use Rattle.words.proofs.Below.{any_ext, any_below}
use Rattle.words.proofs.Bits.{has-zero, has-and, has-not, has_ext, has_above}
use Rattle.words.proofs.Words.{has_lowest}
use Rattle.words.proofs.BitWalks.{without_here, without_other}
use Rattle.prepared.specs.Dependents.{touched_by}
use Rattle.prepared.proofs.Touching.{has_touched_by}
use Rattle.layering.specs.Layers.{chain_heads, least_number}
use Rattle.layering.specs.Numbers.{linked_by, Given, Numbered}
use Rattle.layering.proofs.Chains.{heads-lt, chain-zero, chain-suc, chain_shorter, heads_stay, number_is}

-- ---- one number given to the atoms of a word
-- the atoms left bring the entries u to what the whole word makes of t
module _ (t : List ℕ) (w k : ℕ) where
  pub record Giving (u : List ℕ) (left : ℕ) : Type 0 where
    pub size_is : length u ≡ 64
    pub entry-is : (a : ℕ) → a < 64 → pick (has left a) k (get_or u a 0) ≡ pick (has w a) k (get_or t a 0)

  pub giving_next : (u : List ℕ) (left j : ℕ) → Giving u left → BitOf left j → Giving (set u j k) (without_bit left j)
  giving_next u left j p q = record {
    size_is = simp length-set p.size_is;
    entry-is = λ a l. go a l (eqb a j) refl ∙ p.entry-is a l;
  }
    where
      long : j < length u
      long = omega (arith, p.size_is, q.small)

      go : (a : ℕ) → a < 64 → (s : Bool) → eqb a j ≡ s
          → pick (has (without_bit left j) a) k (get_or (set u j k) a 0) ≡ pick (has left a) k (get_or u a 0)
      go a l true z =
          rw (eqb-true a j z, without_here left j q, q.there) (get_or-set_same u j k 0 long)
      go a l false z =
          let ne = eqb-false a j z in
          ap₂ (λ (s : Bool) (x : ℕ). pick s k x) (without_other left j q a l ne) (get_or-set_other u j a k 0 ne)

  pub giving_end : (u : List ℕ) (left : ℕ) → Giving u left → left ≡ 0 → Given t w k u
  giving_end u left p e = record {
    size_is = p.size_is;
    entry-is = λ a l. ap (λ (s : Bool). pick s k (get_or u a 0)) (sym (ap (λ (x : ℕ). has x a) e ∙ has-zero a))
        ∙ p.entry-is a l;
  }

-- ---- rounds
module _ (n : ℕ) (t : List ℕ) where
  abbrev r : ℕ → ℕ → Bool
  r = linked_by t

  -- k rounds are done: left are the heads of chains of k, and the others have their numbers
  pub record Peeled (k left : ℕ) (u : List ℕ) : Type 0 where
    pub size_is : length u ≡ 64
    pub left_is : left ≡ chain_heads n r k
    pub entry-is : (a : ℕ) → a < 64 → get_or u a 0 ≡ pick (ltb a n && not (has left a)) (least_number n r a) 0

  pub peeled_start : (all : ℕ) → all + 1 ≡ 2 ^ n → Peeled 0 all (replicate 64 0)
  peeled_start all e = record {
    size_is = refl;
    left_is = first;
    entry-is = λ a l. get_or-replicate 64 a 0 0 l
        ∙ sym (ap (λ (b : Bool). pick b (least_number n r a) 0) (none (ltb a n) (has all a)
        (has_lowest n all a e)));
  }
    where
      first : all ≡ chain_heads n r 0
      first = has_ext n all (chain_heads n r 0) (omega (arith, e)) (heads-lt n r 0)
          (λ a l. has_lowest n all a e ∙ lt-ltb a n l ∙ sym (chain-zero n r a l))

      none : (x y : Bool) → y ≡ x → (x && not y) ≡ false
      none true y q = ap not q
      none false y q = refl

  module _ (m : n ≤ 64) where
    -- of the heads of chains of k, those that depend on one of them are the heads of chains of k + 1
    pub lowered : (k left : ℕ) → left ≡ chain_heads n r k
        → bit_and left (word 64 (touched_by t left)) ≡ chain_heads n r (suc k)
    lowered k left e =
        has_ext n _ _ (lt_of_le_of_lt (and_le_l left _) (rw e (heads-lt n r k))) (heads-lt n r (suc k))
        (λ a l. has-and left (word 64 (touched_by t left)) a
        ∙ ap₂ ◌&&◌ (ap (λ (w : ℕ). has w a) e)
        (has_touched_by t left a (omega arith) ∙ any_below n 64 _ m (λ b g. outside a b g) ∙ turned a l)
        ∙ both (has (chain_heads n r k) a) (has (chain_heads n r (suc k)) a) (chain_shorter n r k a l))
      where
        both : (x y : Bool) → (y ≡ true → x ≡ true) → (x && y) ≡ y
        both true y h = refl
        both false true h = h refl
        both false false h = refl

        outside : (a b : ℕ) → n ≤ b → (has left b && r a b) ≡ false
        outside a b g = ap (λ (x : Bool). x && r a b) (has_above n left b (rw e (heads-lt n r k)) g)

        swap : (x y : Bool) → (x && y) ≡ (y && x)
        swap true y = sym (and-true y)
        swap false y = sym (and-false y)

        turned : (a : ℕ) → a < n → any n (λ b. has left b && r a b) ≡ has (chain_heads n r (suc k)) a
        turned a l =
            any_ext n (λ b. has left b && r a b) (λ b. r a b && has (chain_heads n r k) b)
            (λ b g. swap (has left b) (r a b) ∙ ap (λ (w : ℕ). r a b && has w b) e) ∙ sym (chain-suc n r k a l)

    -- one round more: the atoms that fall out get the number k
    pub peeled_next : (k left next : ℕ) (u v : List ℕ) → Peeled k left u
        → next ≡ bit_and left (word 64 (touched_by t left))
        → Given u (bit_and left (2 ^ 64 - 1 - next)) k v
        → Peeled (k + 1) next v
    peeled_next k left next u v p e g = record {
      size_is = g.size_is;
      left_is = is ∙ ap (chain_heads n r) (sym (add-one k));
      entry-is = λ a l. g.entry-is a l
          ∙ ap₂ (λ (s : Bool) (x : ℕ). pick s k x) (fallen a l) (p.entry-is a l)
          ∙ entry a (has left a) (has next a) refl refl (lt-or-le a n);
    }
      where
        is : next ≡ chain_heads n r (suc k)
        is = e ∙ lowered k left p.left_is

        next-lt : next < 2 ^ n
        next-lt = rw is (heads-lt n r (suc k))

        left_lt : left < 2 ^ n
        left_lt = rw p.left_is (heads-lt n r k)

        at_next : (a : ℕ) → has next a ≡ has (chain_heads n r (suc k)) a
        at_next a = ap (λ (w : ℕ). has w a) is

        at_left : (a : ℕ) → has left a ≡ has (chain_heads n r k) a
        at_left a = ap (λ (w : ℕ). has w a) p.left_is

        fallen : (a : ℕ) → a < 64 → has (bit_and left (2 ^ 64 - 1 - next)) a ≡ (has left a && not (has next a))
        fallen a l = has-and left _ a ∙ ap (λ (b : Bool). has left a && b) (has-not 64 next a fits l)
          where
            fits : next < 2 ^ 64
            fits = lt_of_lt_of_le next-lt (pow_mono m)

        -- a is below n and was left, or it isn't
        entry : (a : ℕ) (x y : Bool) → has left a ≡ x → has next a ≡ y → (a < n) ⊎ (n ≤ a)
            → pick (x && not y) k (pick (ltb a n && not x) (least_number n r a) 0)
            ≡ pick (ltb a n && not y) (least_number n r a) 0
        entry a x y ex ey (inr h) =
            let fx : x ≡ false = sym ex ∙ has_above n left a left_lt h in
            rw (fx, le-ltb a n h)
        entry a true true ex ey (inl h) = rw (lt-ltb a n h)
        entry a true false ex ey (inl h) =
            rw (lt-ltb a n h) (sym (number_is n r k a h (sym (at_left a) ∙ ex) (sym (at_next a) ∙ ey)))
        entry a false true ex ey (inl h) =
            absurd (true≢false
            (sym (at_left a ∙ chain_shorter n r k a h (sym (at_next a) ∙ ey)) ∙ ex))
        entry a false false ex ey (inl h) = refl

    -- a round that changes nothing
    pub peeled_end : (k left : ℕ) (u : List ℕ) → k ≤ n → Peeled k left u
        → bit_and left (word 64 (touched_by t left)) ≡ left
        → Numbered n t left u
    peeled_end k left u few p e =
        let f : chain_heads n r (suc k) ≡ chain_heads n r k = sym (lowered k left p.left_is) ∙ e ∙ p.left_is in
        let q : n - k + k ≡ n = omega (arith, few) in
        record {
          stuck_are = p.left_is ∙ sym (heads_stay n r k (n - k) f) ∙ ap (chain_heads n r) q;
          size_is = p.size_is;
          entry-is = p.entry-is;
        }
