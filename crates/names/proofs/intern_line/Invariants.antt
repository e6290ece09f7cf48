-- `names::intern_line` meets its contract. The invariant: the names from place at on, put into the rows so far, leave
-- what the names of the line leave. Assumes nothing.
use mathlib.Core.Path.{◌≡◌}
use Prim.Native.Nat.{◌≤◌, ◌-◌}
use lib.ListN.{length}
use Rattle.names.specs.Row.{rows}
use Rattle.names.proofs.LineNames.{Adding}
use Rattle.names.proofs.intern_line.Given as goal

abbrev pub invariant-loop-a : goal.invariant-loop-a
invariant-loop-a l = record {
  few : l.n ≤ 64;
  same-length : length l.names ≡ length l.initial.names;
  adding : Adding (rows l.count l.initial.names) l.l l.at (rows l.n l.names);
}

abbrev pub decreases-loop-a : goal.decreases-loop-a
decreases-loop-a l = length l.l - l.at
