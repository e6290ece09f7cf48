-- In reading order.
-- Step: one application of the step, atom by atom, and how many atoms it decides newly.
-- Rounds: the iterates from nothing decided, the round count, the settled interpretation and its decided atoms.
-- Completion: the weak completion, its models, the least model.
-- Check: what every operation on a case asks first.
-- Operation: what settling one setting answers.
-- Claims: what is claimed beyond the contracts.
pub mod Step
pub mod Rounds
pub mod Completion
pub mod Check
pub mod Operation
pub mod Claims
