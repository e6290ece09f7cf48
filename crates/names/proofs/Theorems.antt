-- What is claimed of names is so. Assumes nothing.
use mathlib.Core.Path.{sym, subst}
use mathlib.Core.List.{[]}
use native.Mathlib.Omega.{arith}
use lib.ListN.{get_or}
use Rattle.names.specs.Compared.{compared_as}
use Rattle.names.specs.Claims.{OutcomeOf, ComparedExact}
use Rattle.names.proofs.Held.{all-named-at, held-row}
use Rattle.names.proofs.Outcomes.{outcome}

pub compared_exact : ComparedExact
compared_exact ns t h k i l w z =
    let few = h.few in
    subst (λ row. OutcomeOf (get_or ns i []) w (compared_as row w)) (sym (held-row h k i (omega arith)))
    (outcome (all-named-at h.all_named i l) z)
