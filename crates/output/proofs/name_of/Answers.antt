-- The goals of `output::name_of`: its loop keeps the invariant, and each way out gives the name. Assumes nothing.
use Rattle.output.proofs.Names.{name-stops, name-whole}
use Rattle.output.proofs.name_of.Goals as goal

pub returns-then-b-eq0 : goal.returns-then-b-eq0
returns-then-b-eq0 c = name-stops c.args.names.now c.args.atom _ c.loop-i.invariant c.if-b-eq0.true

pub returns : goal.returns
returns c = name-whole c.args.names.now c.args.atom _ c.loop-i.invariant c.loop-i-test.false
