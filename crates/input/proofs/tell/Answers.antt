-- `tell`: the program's name, and behind it the line of the fault. Assumes nothing.
use Rattle.std.proofs.Common.{ap, codes}
use Rattle.input.specs.Answering.{stream_of}
use Rattle.input.proofs.Answering.{told}
use Rattle.input.proofs.tell.Goals as goal

pub returns-in-Input : goal.returns-in-Input
returns-in-Input g c =
    told c.args.program.now (codes "standard input") (stream_of c.args.fault) _ _ _ _ c.in_ok-write.ensures.bytes
    (ap stream_of c.in-Input.is) c.tell_fault.ensures

pub returns-in-Output : goal.returns-in-Output
returns-in-Output g c =
    told c.args.program.now (codes "standard output") (stream_of c.args.fault) _ _ _ _ c.in_ok-write.ensures.bytes
    (ap stream_of c.in-Output.is) c.tell_fault-in-Output.ensures
