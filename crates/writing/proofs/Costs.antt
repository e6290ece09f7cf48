-- Laws of the costs of a table of prices: each is of an atom of the case, none is of an atom that has one, and they
-- give the prices back.
--
--   CostFormed n r     the cost r is of one of n atoms, and its price is above 0 and at most 2,000,000
--   Fresh cs l         no row of l is of an atom that cs or a row of l before it has
-- Assumes nothing.
use mathlib.Core.Path.{◌≡◌, refl, ◌∙◌}
use mathlib.Core.Bool.{Bool, true, false}
use mathlib.Core.List.{List, [], ◌∷◌, ◌++◌, append-nil, append_assoc}
use mathlib.Core.Logic.{⊎_elim}
use Prim.Native.Nat.{ℕ, zero, suc, ◌≤◌, ◌<◌}
use native.Mathlib.Nat.{not-suc-le-zero, le_of_suc-le-suc, eq-or-lt_of_le}
use native.Mathlib.Omega.{arith}
use lib.Dec.{ltb}
use lib.ListN.{get_or}
use borrow.Author.Tests.{ltb-true, ltb-false}
use Rattle.words.specs.Choice.{pick, cons_if}
use Rattle.text.proofs.Each.{Each, each_append}
use Rattle.store.specs.Prices.{CostRow, has_cost, price_in}
use Rattle.store.proofs.Prices.{no_cost, has-cost-append, price-front, price-behind, one-price, one_without, one-other}
use Rattle.writing.specs.Used.{cost_of, costs_in}

-- the cost of one atom, where there is one

atom-price : (pr : List ℕ) (a : ℕ) → price_in (cons_if (ltb 0 (get_or pr a 0)) (cost_of pr a) []) a ≡ get_or pr a 0
atom-price pr a = one-price (cost_of pr a) (ltb 0 (get_or pr a 0)) ∙ go (ltb 0 (get_or pr a 0)) refl
  where
    go : (x : Bool) → ltb 0 (get_or pr a 0) ≡ x → pick x (get_or pr a 0) 0 ≡ get_or pr a 0
    go true e = refl
    go false e = omega (arith, ltb-false 0 (get_or pr a 0) e)

-- the costs of a table

module _ (pr : List ℕ) where
  pub costs_without : (n a : ℕ) → n ≤ a → has_cost (costs_in pr n) a ≡ false
  unfolding costs_in
  costs_without zero a l = no_cost a
  costs_without (suc n) a l =
      rw (
        has-cost-append (costs_in pr n) (cons_if (ltb 0 (get_or pr n 0)) (cost_of pr n) []) a,
        costs_without n a (omega arith),
      ) (one_without (cost_of pr n) a (λ e. omega arith) (ltb 0 (get_or pr n 0)))

  pub costs-price : (n a : ℕ) → a < n → price_in (costs_in pr n) a ≡ get_or pr a 0
  unfolding costs_in
  costs-price zero a l = absurd (not-suc-le-zero l)
  costs-price (suc n) a l =
      let one = cons_if (ltb 0 (get_or pr n 0)) (cost_of pr n) [] in
      ⊎_elim
      (λ (e : a ≡ n). rw e (price-behind (costs_in pr n) one n (costs_without n n (omega arith)) ∙ atom-price pr n))
      (λ (k : a < n).
      price-front (costs_in pr n) one a (one-other (cost_of pr n) a (λ e. omega arith) (ltb 0 (get_or pr n 0)))
      ∙ costs-price n a k)
      (eq-or-lt_of_le (le_of_suc-le-suc l))

-- each is of an atom below n

pub record CostFormed (n : ℕ) (r : CostRow) : Type 0 where
  pub atom-lt : r.atom < n
  pub price-some : 0 < r.price
  pub price-few : r.price ≤ 2000000

cost_mono : (n : ℕ) (l : List CostRow) → Each (CostFormed n) l → Each (CostFormed (suc n)) l
cost_mono n [] h = tt
cost_mono n (r ∷ l) h =
    let f = h.0.atom-lt in
    (record { atom-lt = omega arith; price-some = h.0.price-some; price-few = h.0.price-few }, cost_mono n l h.1)

one-formed : (pr : List ℕ) (a : ℕ) → get_or pr a 0 ≤ 2000000
    → Each (CostFormed (suc a)) (cons_if (ltb 0 (get_or pr a 0)) (cost_of pr a) [])
one-formed pr a h = go (ltb 0 (get_or pr a 0)) refl
  where
    go : (x : Bool) → ltb 0 (get_or pr a 0) ≡ x → Each (CostFormed (suc a)) (cons_if x (cost_of pr a) [])
    go true e = (record { atom-lt = omega arith; price-some = ltb-true 0 (get_or pr a 0) e; price-few = h }, tt)
    go false e = tt

pub costs-formed : (pr : List ℕ) (n : ℕ) → ((a : ℕ) → a < n → get_or pr a 0 ≤ 2000000)
    → Each (CostFormed n) (costs_in pr n)
unfolding costs_in
costs-formed pr zero h = tt
costs-formed pr (suc n) h =
    each_append (CostFormed (suc n)) (costs_in pr n) (cons_if (ltb 0 (get_or pr n 0)) (cost_of pr n) [])
    (cost_mono n (costs_in pr n) (costs-formed pr n (λ a l. h a (omega arith)))) (one-formed pr n (h n (omega arith)))

-- none is of an atom that has one

abbrev pub Fresh : List CostRow → List CostRow → Type 0
Fresh cs [] = Unit {0}
Fresh cs (r ∷ l) = (has_cost cs r.atom ≡ false) × Fresh (cs ++ (r ∷ [])) l

fresh_push : (cs l : List CostRow) (r : CostRow) → Fresh cs l → has_cost (cs ++ l) r.atom ≡ false
    → Fresh cs (l ++ (r ∷ []))
fresh_push cs [] r h k = ((rw append-nil at k), tt)
fresh_push cs (x ∷ l) r h k =
    (h.0, fresh_push (cs ++ (x ∷ [])) l r h.1 (rw append_assoc k))

pub costs-fresh : (pr : List ℕ) (n : ℕ) → Fresh [] (costs_in pr n)
unfolding costs_in
costs-fresh pr zero = tt
costs-fresh pr (suc n) = go (ltb 0 (get_or pr n 0)) (costs-fresh pr n)
  where
    go : (x : Bool) → Fresh [] (costs_in pr n) → Fresh [] (costs_in pr n ++ cons_if x (cost_of pr n) [])
    go true f = fresh_push [] (costs_in pr n) (cost_of pr n) f (costs_without pr n n (omega arith))
    go false f = rw append-nil f
