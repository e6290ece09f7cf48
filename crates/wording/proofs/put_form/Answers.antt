-- `wording::put_form` meets its contract: the form is its opening, the name, and a bracket. Assumes nothing.
use native.Mathlib.Omega.{arith}
use Rattle.wording.proofs.Lines.{form-room, form-written}
use Rattle.wording.proofs.put_form.Goals as goal

pub put_text-name-requires : goal.put_text-name-requires
put_text-name-requires c = omega (arith, form-room)

pub put_name-end-requires : goal.put_name-end-requires
put_name-end-requires c = omega (arith, form-room)

pub put-requires : goal.put-requires
put-requires c = omega (arith, form-room)

pub returns : goal.returns
returns c = search form-written
