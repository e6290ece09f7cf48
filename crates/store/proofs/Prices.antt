-- Laws of prices: the bound of a price, the rows of costs one list behind another and with one more, and the table of
-- prices. Assumes nothing.
use mathlib.Core.Path.{◌≡◌, refl, sym, ap, ◌∙◌, subst}
use mathlib.Core.Bool.{Bool, true, false, ◌||◌, or-false, or_assoc}
use mathlib.Core.List.{List, [], ◌∷◌, ◌++◌}
use Prim.Native.Nat.{ℕ, ◌+◌, ◌*◌, ◌≤◌, ◌<◌}
use native.Mathlib.Nat.{mul-le-mul}
use native.Mathlib.Omega.{arith}
use lib.Dec.{eqb, ltb}
use lib.ListN.{length, get_or, set}
use lib.Seq.{get_or-set_same, get_or-set_other}
use borrow.Author.Tests.{eqb-true, eqb-false, eq-eqb, ne_eqb, lt-ltb, ltb-true}
use Rattle.words.specs.Choice.{pick, cons_if}
use Rattle.words.proofs.Lists.{list_of-at}
use Rattle.words.proofs.Tests.{by_test, or_false_l, or_false_r}
use Rattle.program.specs.Case.{price_size}
use Rattle.table.specs.Filled.{filled}
use Rattle.table.proofs.Filled.{filled_at}
use Rattle.table.proofs.Kept.{kept_refl, set-kept, filled_ext, filled_as}
use Rattle.store.specs.Prices.{supplement, CostRow, has_cost, price_in, prices_of}
use Rattle.store.specs.Stored.{with_price}

-- supplement

pub per_cent_few : (p s : ℕ) → p ≤ 2000000 → s ≤ 100 → p * s ≤ 200000000
per_cent_few p s h k = mul-le-mul h k

pub supplement-near : (p s : ℕ) → (100 * supplement p s ≤ p * s + 50) × (p * s < 100 * supplement p s + 50)
unfolding supplement
supplement-near p s = (omega arith, omega arith)

-- rows, one list behind another

pub no_cost : (a : ℕ) → has_cost [] a ≡ false
unfolding has_cost
no_cost a = refl

pub has-cost-append : (cs ds : List CostRow) (a : ℕ) → has_cost (cs ++ ds) a ≡ (has_cost cs a || has_cost ds a)
unfolding has_cost
has-cost-append [] ds a = refl
has-cost-append (r ∷ cs) ds a = rw (has-cost-append cs ds a, or_assoc)

first-other : (r : CostRow) (cs : List CostRow) (a : ℕ) → has_cost (r ∷ cs) a ≡ false
    → (eqb r.atom a ≡ false) × (has_cost cs a ≡ false)
unfolding has_cost
first-other r cs a h = (or_false_l (eqb r.atom a) (has_cost cs a) h, or_false_r (eqb r.atom a) (has_cost cs a) h)

pub price-front : (cs ds : List CostRow) (a : ℕ) → price_in ds a ≡ 0 → price_in (cs ++ ds) a ≡ price_in cs a
unfolding price_in
price-front [] ds a h = h
price-front (r ∷ cs) ds a h = rw (price-front cs ds a h)

pub price-behind : (cs ds : List CostRow) (a : ℕ) → has_cost cs a ≡ false → price_in (cs ++ ds) a ≡ price_in ds a
unfolding price_in
price-behind [] ds a h = refl
price-behind (r ∷ cs) ds a h = let k = first-other r cs a h in rw k.0 (price-behind cs ds a k.1)

-- one row, where the test holds

module _ (r : CostRow) where
  pub one-price : (b : Bool) → price_in (cons_if b r []) r.atom ≡ pick b r.price 0
  unfolding price_in
  one-price true = rw (eq-eqb r.atom r.atom refl)
  one-price false = refl

  module _ (i : ℕ) (n : r.atom ≡ i → ⊥) where
    pub one_without : (b : Bool) → has_cost (cons_if b r []) i ≡ false
    unfolding has_cost
    one_without true = rw (ne_eqb r.atom i n)
    one_without false = refl

    pub one-other : (b : Bool) → price_in (cons_if b r []) i ≡ 0
    unfolding price_in
    one-other true = rw (ne_eqb r.atom i n)
    one-other false = refl

-- rows with one more, of atom a with the price p

abbrev row : ℕ → ℕ → CostRow
row a p = record { atom = a; price = p }

module _ (a p : ℕ) where
  pub cost_push : (cs : List CostRow) (i : ℕ) → has_cost (cs ++ (row a p ∷ [])) i ≡ (has_cost cs i || eqb a i)
  unfolding has_cost
  cost_push [] i = or-false (eqb a i)
  cost_push (r ∷ cs) i = rw (cost_push cs i, or_assoc)

  push_same : (cs : List CostRow) → has_cost cs a ≡ false → price_in (cs ++ (row a p ∷ [])) a ≡ p
  push_same cs h = price-behind cs (row a p ∷ []) a h ∙ one-price (row a p) true

  push_other : (cs : List CostRow) (i : ℕ) → (a ≡ i → ⊥) → price_in (cs ++ (row a p ∷ [])) i ≡ price_in cs i
  push_other cs i h = price-front cs (row a p ∷ []) i (one-other (row a p) i h true)

-- the table

prices-at : (cs : List CostRow) (i : ℕ) → i < price_size → get_or (prices_of cs) i 0 ≡ price_in cs i
unfolding prices_of
prices-at cs i h = list_of-at price_size (price_in cs) i 0 h

pub no_prices : (t : List ℕ) → filled price_size [] t ≡ filled price_size (prices_of []) t
unfolding price_in
no_prices t = filled_ext price_size [] (prices_of []) t (λ i h. sym (prices-at [] i h))

module _ (cs : List CostRow) (t : List ℕ) (long : price_size ≤ length t) where
  pub price-at : (i : ℕ) → i < price_size → get_or (filled price_size (prices_of cs) t) i 0 ≡ price_in cs i
  price-at i h = filled_at price_size (prices_of cs) t i h long ∙ prices-at cs i h

  module _ (held : t ≡ filled price_size (prices_of cs) t) (a p : ℕ) (few : a < price_size)
      (fresh : has_cost cs a ≡ false) where
    stored_at : (i : ℕ) → i < price_size → get_or (set t a p) i 0 ≡ price_in (cs ++ (row a p ∷ [])) i
    stored_at i h =
        by_test (eqb a i)
        (λ e.
        let q = eqb-true a i e in
        subst (λ j. get_or (set t a p) j 0 ≡ price_in (cs ++ (row a p ∷ [])) j) q
        (get_or-set_same t a p 0 (omega arith) ∙ sym (push_same a p cs fresh)))
        (λ e.
        let n = eqb-false a i e in
        get_or-set_other t a i p 0 (λ q. n (sym q)) ∙ ap (λ l. get_or l i 0) held ∙ price-at i h
        ∙ sym (push_other a p cs i n))

    pub price_stored : let u = with_price t a p in u ≡ filled price_size (prices_of (cs ++ (row a p ∷ []))) u
    price_stored =
        rw (lt-ltb a 64 few)
        (filled_as price_size (prices_of (cs ++ (row a p ∷ []))) (set t a p)
        (λ i h. stored_at i h ∙ sym (prices-at (cs ++ (row a p ∷ [])) i h)))

-- a table in which at most one of the first 64 entries changes is kept behind them
pub price-kept : (t : List ℕ) (a p : ℕ) → with_price t a p ≡ filled price_size (with_price t a p) t
price-kept t a p =
    by_test (ltb a 64) (λ e. rw e (set-kept price_size t a p (ltb-true a 64 e))) (λ e. rw e (kept_refl price_size t))
