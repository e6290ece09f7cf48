-- `wording::cause_lines` meets its contract. The loop's invariant: what is written so far, and the lines from the
-- next setting on, make up the whole. Assumes nothing.
use Rattle.names.specs.Row.{name_in}
use Rattle.wording.specs.Text.{cause_line}
use Rattle.wording.proofs.Listings.{AtLine}
use Rattle.wording.proofs.cause_lines.Given as goal

abbrev pub invariant-loop-setting : goal.invariant-loop-setting
invariant-loop-setting l =
    AtLine (cause_line (name_in l.names) l.causes) l.list l.initial.out l.at l.setting-index l.place l.out
