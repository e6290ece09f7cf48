-- `show_case` meets its contract: what writing answers stands where it is the text's length or the output is too short,
-- and any other refusal is told. Assumes nothing.
use mathlib.Core.Path.{refl, sym, ap}
use native.Mathlib.Omega.{arith}
use borrow.Author.Rules.{rules}
use denote.Enum.Bare.{same_true, same_false}
use Rattle.refusals.specs.contracts.Refusal.{the_type}
use Rattle.refusals.specs.declared.Refusal.{Refusal}
use Rattle.refusals.specs.Refusal.{number_of}
use Rattle.refusals.proofs.Numbers.{number_some}
use Rattle.tidying.proofs.Written.{written_whole, written-short, written-refused, number_short}
use Rattle.tidying.proofs.operation.show_case.Goals as goal

pub returns-in-Ok : goal.returns-in-Ok
returns-in-Ok c = written_whole _ _ c.in-Ok.ensures refl

pub returns-in-Err : goal.returns-in-Err
returns-in-Err c =
    let short = same_true the_type (search rules) c.in-Err.refusal Refusal.ShortOutput (sym c.if-eq.ensures) in
    written-short _ _ c.in-Err.ensures (ap number_of short)

pub returns-in-Err-2 : goal.returns-in-Err-2
returns-in-Err-2 c =
    let some = number_some c.in-Err.refusal in
    let other = same_false the_type _ _ (sym c.if-eq.ensures) in
    written-refused _ _ c.in-Err.ensures (λ z. absurd (omega (arith, z, some))) (λ z. number_short _ z other)
    (rw c.from.ensures at c.show_refusal.ensures)
