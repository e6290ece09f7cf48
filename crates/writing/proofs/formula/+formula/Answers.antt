-- `formula::formula` meets its contract, by laws of the room for its parts and of what they leave; the measure is the
-- number of nodes left. Assumes nothing.
use native.Mathlib.Omega.{arith}
use Rattle.writing.proofs.Formulas.{place-within, name-room, word_room, operand-room, not-room, second-room}
use Rattle.writing.proofs.Formulas.{form-room, name-written, not_written, form-written}
use Rattle.writing.proofs.formula.+formula.Goals as goal

pub bounds-nodes-at : goal.bounds-nodes-at
bounds-nodes-at t c = omega (arith, place-within c.requires.1)

pub name-pen-requires : goal.name-pen-requires
name-pen-requires t c = (omega arith, name-room c.requires.1 (omega arith))

pub overflow_add-result : goal.overflow_add-result
overflow_add-result t c = omega (arith, place-within c.requires.1)

pub returns-then-node-lt64 : goal.returns-then-node-lt64
returns-then-node-lt64 t c =
    let h = c.requires.1 in
    name-written h (omega arith) c.name-pen.ensures

pub form_word-opened-requires : goal.form_word-opened-requires
form_word-opened-requires t c = word_room c.requires.1 (omega arith)

pub overflow_add-at : goal.overflow_add-at
overflow_add-at t c = omega (arith, place-within c.requires.1)

pub formula-a-requires : goal.formula-a-requires
formula-a-requires t c =
    let h = c.requires in
    (omega (arith, place-within h.1), (h.0, operand-room h.1 c.form_word-opened.ensures (omega arith)))

pub closing-pen-requires : goal.closing-pen-requires
closing-pen-requires t c =
    let h = c.requires.1 in
    not-room h c.form_word-opened.ensures c.formula-a.ensures (omega arith)

pub returns-then-node-eq64 : goal.returns-then-node-eq64
returns-then-node-eq64 t c =
    let h = c.requires.1 in
    not_written h c.form_word-opened.ensures c.formula-a.ensures (omega arith)
    c.closing-pen.ensures

pub formula-b-requires : goal.formula-b-requires
formula-b-requires t c =
    let h = c.requires in
    let x = c.formula-a.ensures in (
      omega (arith, place-within h.1, x.onward),
      (h.0, second-room h.1 c.form_word-opened.ensures x (omega arith)),
    )

pub closing-pen-requires-2 : goal.closing-pen-requires-2
closing-pen-requires-2 t c =
    let h = c.requires.1 in
    form-room h c.form_word-opened.ensures c.formula-a.ensures c.formula-b.ensures (omega arith)

pub returns : goal.returns
returns t c =
    let h = c.requires.1 in
    form-written h c.form_word-opened.ensures c.formula-a.ensures c.formula-b.ensures
    (omega arith) c.closing-pen-2.ensures
