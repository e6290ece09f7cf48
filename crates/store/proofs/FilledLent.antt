-- Laws of the five tables filled in their sizes. Assumes nothing.
use mathlib.Core.Path.{◌≡◌, ap, ◌∙◌}
use mathlib.Core.List.{List}
use Prim.Native.Nat.{ℕ}
use Rattle.table.proofs.Filled.{filled-again}
use Rattle.table.proofs.Kept.{kept_refl, kept-filled}
use Rattle.store.specs.Lent.{Lent, lent, filled_with}
use Rattle.store.specs.Held.{Kept}

pub lent_same : {a b d e f a' b' d' e' f' : List ℕ} → a ≡ a' → b ≡ b' → d ≡ d' → e ≡ e' → f ≡ f'
    → lent a b d e f ≡ lent a' b' d' e' f'
lent_same p q r s t = λ i. lent (p i) (q i) (r i) (s i) (t i)

pub filled_with-again : (v w t : Lent) → filled_with v (filled_with w t) ≡ filled_with v t
filled_with-again v w t =
    lent_same (filled-again _ v.clauses w.clauses t.clauses)
    (filled-again _ v.constraints w.constraints t.constraints)
    (filled-again _ v.formula w.formula t.formula) (filled-again _ v.names w.names t.names)
    (filled-again _ v.prices w.prices t.prices)

pub kept_refl-all : (t : Lent) → Kept t t
kept_refl-all t =
    lent_same (kept_refl _ t.clauses) (kept_refl _ t.constraints) (kept_refl _ t.formula)
    (kept_refl _ t.names) (kept_refl _ t.prices)

-- filling keeps what is behind the sizes
pub filled_with-kept : (w t u : Lent) → u ≡ filled_with w t → Kept t u
filled_with-kept w t u e = rw e
    (lent_same (kept-filled _ w.clauses t.clauses) (kept-filled _ w.constraints t.constraints)
    (kept-filled _ w.formula t.formula) (kept-filled _ w.names t.names)
    (kept-filled _ w.prices t.prices))

module _ (t u : Lent) (h : Kept t u) where
  -- what fills u fills t
  pub kept-filled_with : (w : Lent) → filled_with w u ≡ filled_with w t
  kept-filled_with w = ap (filled_with w) h ∙ filled_with-again w u t

  pub kept_trans-all : (v : Lent) → Kept u v → Kept t v
  kept_trans-all v k = k ∙ kept-filled_with v
