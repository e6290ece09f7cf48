-- Laws of costs: a larger set costs at least as much; and the cost of the set in a lane, summed price by price.
-- Assumes nothing.
use mathlib.Core.Path.{◌≡◌, refl, ap, ap₂, ◌∙◌}
use mathlib.Core.Bool.{Bool, true, false, ◌||◌, false≢true}
use mathlib.Core.List.{List}
use Prim.Native.Nat.{ℕ, zero, suc, ◌+◌, ◌*◌, ◌^◌, ◌≤◌, ◌<◌}
use native.Mathlib.Nat.{zero-lt-suc}
use native.Mathlib.Omega.{arith}
use lib.Bits.{bit_or}
use lib.Dec.{ltb}
use lib.ListN.{get_or}
use borrow.Author.Tests.{lt-ltb}
use Rattle.words.specs.Choice.{pick}
use Rattle.words.specs.Below.{sum}
use Rattle.words.specs.Bits.{has, word}
use Rattle.words.specs.OneBit.{without_bit, BitOf}
use Rattle.words.proofs.Tests.{Gives}
use Rattle.words.proofs.Bits.{has-or}
use Rattle.words.proofs.Words.{has_word}
use Rattle.words.proofs.Sums.{sum_ext, sum-le, sum_mono, sum_no_bits, sum_without}
use Rattle.program.specs.declared.cause.Additions.{Additions}
use Rattle.program.specs.declared.cause.Causes.{Causes}
use Rattle.program.specs.Setting.{additions_of}
use Rattle.planes.specs.Planes.{at}
use Rattle.planes.specs.Fill.{Filled}
use Rattle.cost.specs.Cost.{cost_of, cost_under, priced_in}

-- the atoms for which x adds something
abbrev pub adds : Additions → ℕ → Bool
adds x a = has x.facts a || has x.assumptions a

pub cost_mono : (pr : List ℕ) (x y : Additions) → ((a : ℕ) → a < 64 → Gives (adds x a) (adds y a))
    → cost_of pr x ≤ cost_of pr y
unfolding cost_of
cost_mono pr x y h = sum_mono 64 _ _ (λ a l. more (adds x a) (adds y a) (get_or pr a 0) (h a l))
  where
    more : (s t : Bool) (n : ℕ) → Gives s t → pick s n 0 ≤ pick t n 0
    more false t n g = omega arith
    more true true n g = omega arith
    more true false n g = absurd (false≢true (g refl))

-- ---- the atoms with a price
pub priced_is : (pr : List ℕ) → priced_in pr ≡ word 64 (λ a. ltb 0 (get_or pr a 0))
unfolding priced_in
priced_is pr = refl

-- an atom without a price costs nothing
priced_only : (pr : List ℕ) (t : Bool) (a : ℕ) → a < 64
    → pick (has (priced_in pr) a) (pick t (get_or pr a 0) 0) 0 ≡ pick t (get_or pr a 0) 0
unfolding priced_in
priced_only pr t a l =
    ap (λ (b : Bool). pick b (pick t (get_or pr a 0) 0) 0) (has_word 64 (λ i. ltb 0 (get_or pr i 0)) a l)
    ∙ go t (get_or pr a 0)
  where
    go : (t : Bool) (n : ℕ) → pick (ltb 0 n) (pick t n 0) 0 ≡ pick t n 0
    go true zero = refl
    go false zero = refl
    go t (suc n) = ap (λ (b : Bool). pick b (pick t (suc n) 0) 0) (lt-ltb 0 (suc n) (zero-lt-suc n))

-- ---- the cost of the set in lane j of the planes x and y, price by price
-- what atom a costs there
abbrev pub price_at : List ℕ → List ℕ → List ℕ → ℕ → ℕ → ℕ
price_at pr x y j a = pick (at x j a || at y j a) (get_or pr a 0) 0

-- left has the atoms to come
pub record Paying (pr x y : List ℕ) (j cost left : ℕ) : Type 0 where
  pub total_is : cost + sum 64 (λ a. pick (has left a) (price_at pr x y j a) 0) ≡ sum 64 (price_at pr x y j)

pub paying_start : (pr x y : List ℕ) (j : ℕ) → Paying pr x y j 0 (priced_in pr)
paying_start pr x y j =
    let e = sum_ext 64 (λ a. pick (has (priced_in pr) a) (price_at pr x y j a) 0) (price_at pr x y j)
    (λ a l. priced_only pr (at x j a || at y j a) a l) in
    record { total_is = omega (arith, e) }

pub price-is : (pr x y : List ℕ) (j a : ℕ) {t : Bool} {n : ℕ} → t ≡ has (bit_or (get_or x a 0) (get_or y a 0)) j
    → n ≡ pick t (get_or pr a 0) 0 → n ≡ price_at pr x y j a
price-is pr x y j a e f =
    f ∙ ap (λ (b : Bool). pick b (get_or pr a 0) 0) (e ∙ has-or (get_or x a 0) (get_or y a 0) j)

module _ {pr x y : List ℕ} {j cost left : ℕ} (p : Paying pr x y j cost left) where
  module _ {a n : ℕ} (b : BitOf left a) (e : n ≡ price_at pr x y j a) where
    pub paying_next : Paying pr x y j (cost + n) (without_bit left a)
    paying_next = record { total_is = omega (arith, p.total_is, e, sum_without left a b (price_at pr x y j)) }

    pub paying_few : ((i : ℕ) → get_or pr i 0 < 2 ^ 32) → cost + n ≤ 64 * 2 ^ 32
    paying_few f =
        let all = sum-le 64 (2 ^ 32) (price_at pr x y j) (λ i l. low (at x j i || at y j i) (f i)) in
        omega (arith, p.total_is, e, sum_without left a b (price_at pr x y j))
      where
        low : (t : Bool) {k : ℕ} → k < 2 ^ 32 → pick t k 0 ≤ 2 ^ 32
        low true h = omega arith
        low false h = omega arith

  pub paying_end : left ≡ 0 → j < 64 → (causes : Causes) (s : ℕ) → Filled causes s x y
      → cost ≡ cost_under pr causes (s + j)
  unfolding cost_of
  paying_end e h causes s f =
      let none = rw e at p.total_is in
      let set = sum_ext 64 (price_at pr x y j) (λ a. pick (adds (additions_of causes (s + j)) a) (get_or pr a 0) 0)
      (λ a l. ap₂ (λ (u v : Bool). pick (u || v) (get_or pr a 0) 0)
      (f.facts_are j a h l) (f.assumptions_are j a h l)) in
      omega (arith, none, sum_no_bits 64 (price_at pr x y j), set)
