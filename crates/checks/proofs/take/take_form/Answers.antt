-- `take::take_form` meets its contract: the checks in their order give the number of the refusal, and a line that
-- passes them is stored with all its names known. Assumes nothing.
use Rattle.std.proofs.Common.{rules, arith}
use Rattle.std.proofs.lemmas.Result.{err_from_is_err_and}
use Rattle.checks.proofs.Taking.{text-refused, names-many, room-refused, edition-refused}
use Rattle.checks.proofs.Taking.{form_storable, form-taken}
use Rattle.checks.proofs.take.take_form.Goals as goal

pub returns-in_err-check_text : goal.returns-in_err-check_text
returns-in_err-check_text c =
    let p = err_from_is_err_and c.from_residual.result c.from_residual.ensures.1 in
    rw (p.1, p.2) (text-refused c.requires.2 c.brings-b.ensures c.in_err-check_text.ensures)

pub returns-in_default : goal.returns-in_default
returns-in_default c =
    names-many c.requires.2 c.brings-b.ensures c.in_ok-check_text.ensures c.args.p c.requires.0
    c.in_default.ensures.stored (omega arith)

pub returns-in_err-check_room : goal.returns-in_err-check_room
returns-in_err-check_room c =
    let r = c.from_residual-in_err-check_room in
    let p = err_from_is_err_and r.result r.ensures.1 in
    rw (p.1, p.2)
    (room-refused c.requires.2 c.brings-b.ensures c.in_ok-check_text.ensures c.args.p c.requires.0
    c.in-Some.ensures.stored c.in-Some.ensures.few c.cost_atom-atom.ensures c.is_second.ensures
    (c.in_err-check_room.ensures _ c.in-Some.ensures.few))

pub returns-then-b-p : goal.returns-then-b-p
returns-then-b-p c =
    edition-refused c.requires.2 c.brings-b.ensures c.in_ok-check_text.ensures c.args.p c.requires.0
    c.in-Some.ensures.stored c.in-Some.ensures.few c.cost_atom-atom.ensures c.is_second.ensures
    (c.in_ok-check_room.ensures _ c.in-Some.ensures.few) c.requires.1.editions-few c.if-b-p.true

pub store_form-found-requires : goal.store_form-found-requires
store_form-found-requires c =
    let long = c.requires.0 in (
      record {
        clauses-long = long.clauses-long;
        constraints-long = long.constraints-long;
        formula-long = long.formula-long;
        names-long = search rules;
        prices-long = long.prices-long;
      },
      form_storable c.requires.2 c.brings-b.ensures c.in_ok-check_text.ensures c.args.p long
          c.in-Some.ensures.stored c.in-Some.ensures.few c.cost_atom-atom.ensures c.is_second.ensures
          (c.in_ok-check_room.ensures _ c.in-Some.ensures.few),
    )

pub returns : goal.returns
returns c =
    form-taken c.requires.2 c.brings-b.ensures c.in_ok-check_text.ensures c.args.p c.requires.0
    c.in-Some.ensures.stored c.in-Some.ensures.few c.cost_atom-atom.ensures c.is_second.ensures
    (c.in_ok-check_room.ensures _ c.in-Some.ensures.few) c.requires.1.editions-few c.if-b-p.false
    c.store_form-found.ensures c.with_cost.ensures
