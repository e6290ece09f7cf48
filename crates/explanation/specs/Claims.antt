-- What is claimed of constraints beyond the contracts. Proved in proofs/Theorems.antt.
-- From: document 02, [5] (head "false", as document 003 writes it); document 01, "Causes, settings, explanations" (head
-- "unknown", as document 000 writes it).
--
--   head_of k     the head of a constraint of kind k, where it is written as a rule: false for never, unknown for avoid
use Rattle.std.specs.Prelude.{◌≡◌, ℕ, zero, suc}
use Rattle.logic.specs.declared.value.Value.{Value}
use Rattle.logic.specs.declared.value.Value.TheVariants.{False, Unknown}
use Rattle.logic.specs.Value.{is_true, implies}
use Rattle.explanation.specs.Explanation.{met}

abbrev pub head_of : ℕ → Value
head_of zero = False
head_of (suc k) = Unknown

-- a constraint is met exactly where "its body then its head" is true
abbrev pub MetByHead : Type 0
MetByHead = (k : ℕ) (x : Value) → met k x ≡ is_true (implies x (head_of k))
