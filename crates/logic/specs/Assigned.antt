-- The values of the atoms with that of one replaced, as the methods that decide an atom promise it.
use Rattle.std.specs.Prelude.{ℕ, eqb}
use Rattle.words.specs.Choice.{pick}
use Rattle.logic.specs.declared.value.Value.{Value}

-- the values v, but x at atom a
abbrev pub assigned : (ℕ → Value) → ℕ → Value → ℕ → Value
assigned v a x b = pick (eqb b a) x (v b)
