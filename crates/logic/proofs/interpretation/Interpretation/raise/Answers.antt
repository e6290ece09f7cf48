-- `Interpretation::raise` meets its contract: where the code returns `self`, the greater value is the one the atom has,
-- and elsewhere it is the one decided. Assumes nothing.
use mathlib.Core.Path.{◌≡◌, sym, ◌∙◌}
use native.Mathlib.Omega.{arith}
use Prim.Native.Nat.{ℕ}
use Rattle.logic.specs.declared.value.Value.{Value}
use Rattle.logic.specs.declared.interpretation.Interpretation.{Interpretation}
use Rattle.logic.specs.Formula.{value_of}
use Rattle.logic.specs.Interpretation.{value_at, of_values}
use Rattle.logic.specs.Assigned.{assigned}
use Rattle.logic.proofs.Values.{is_true_lem, greater_false_r, greater-unknown-r, greater_true_r}
use Rattle.logic.proofs.Interpretations.{Good, values_ext, of_values-at, assigned-kept}
use Rattle.logic.proofs.interpretation.Interpretation.raise.Goals as goal

stays : (i : Interpretation) → Good i → (a : ℕ) (x : Value) → x ≡ value_at i a
    → i ≡ of_values (assigned (value_at i) a x)
stays i g a x e =
    sym
    (values_ext (assigned (value_at i) a x) (value_at i) (λ b l. assigned-kept (value_at i) a x e b) ∙ of_values-at i g)

pub returns-then-holds : goal.returns-then-holds
unfolding value_of
returns-then-holds c =
    let g : Good c.args.self = record { trues_fit = omega arith; falses_fit = omega arith; disjoint = c.requires.1 } in
    let e = is_true_lem (value_at c.args.self c.args.atom) (sym c.holds.ensures ∙ c.if-holds.true) in
    stays c.args.self g c.args.atom _ (rw (c.in-Unknown.is, e))

pub returns-in-True : goal.returns-in-True
returns-in-True c =
    rw (c.in-True.is, greater_true_r (value_at c.args.self c.args.atom)) c.decide.ensures

pub returns-else-holds : goal.returns-else-holds
unfolding value_of
returns-else-holds c =
    let v = value_at c.args.self c.args.atom in
    let h = sym c.holds.ensures ∙ c.if-holds.false in
    rw (c.in-Unknown.is, greater-unknown-r v h)
    c.decide-else-holds.ensures

pub returns-in-False : goal.returns-in-False
returns-in-False c =
    let g : Good c.args.self = record { trues_fit = omega arith; falses_fit = omega arith; disjoint = c.requires.1 } in
    stays c.args.self g c.args.atom _
    (rw c.in-False.is (greater_false_r (value_at c.args.self c.args.atom)))
