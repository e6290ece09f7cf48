-- RuleChains: the last rule of a head, and the walk along its rules.
-- Filling: how the tables fill, clause by clause.
-- Bodies: an atom's next value, by its rules and by the atoms that its clauses name.
-- Openings: the first round from what was prepared.
-- Touching: the heads that atoms touch, and the walk that gathers them.
-- Redoing: the step on the touched, undecided atoms alone is the step.
pub mod RuleChains
pub mod Filling
pub mod Bodies
pub mod Openings
pub mod Touching
pub mod Redoing
