-- Given: the bodies of an atom, and the value that they give it.
-- Programs: what holds of a program because it holds of its clauses.
-- Steady: programs whose step keeps the order of information.
-- Heads: programs whose heads are all below a number of atoms.
-- Reached: the rounds rise, and the state of the loop that counts them.
-- Settling: the rounds end, and stay where they have ended.
-- Models: the settled interpretation is the least model.
-- Theorems: a proof of each claim of specs/Claims.antt.
-- Definitions: the bodies of an atom in a table's clauses and in those that a set adds.
-- Alike: programs that settle alike.
-- Passes: the step by one pass over the clauses.
-- Asking: what every operation on a case asks first.
-- Answers: which refusal is due where one setting is settled, and the count of the settings.
-- Marked: the marked files settled by computation.
pub mod Given
pub mod Programs
pub mod Steady
pub mod Heads
pub mod Reached
pub mod Settling
pub mod Models
pub mod Theorems
pub mod Definitions
pub mod Alike
pub mod Passes
pub mod Asking
pub mod Answers
pub mod Marked
