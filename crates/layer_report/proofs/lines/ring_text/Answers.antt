-- `ring_text` meets its contract: the line is its opening, the names, and its end. Assumes nothing.
use borrow.Author.Rules.{rules}
use native.Mathlib.Omega.{arith}
use Rattle.layer_report.proofs.Texts.{ring-room, ring-written}
use Rattle.layer_report.proofs.lines.ring_text.Goals as goal

pub put_names-end-requires : goal.put_names-end-requires
put_names-end-requires c = (search rules, search rules, omega (arith, ring-room))

pub put_text-requires : goal.put_text-requires
put_text-requires c = omega (arith, ring-room)

pub returns : goal.returns
returns c = search ring-written
