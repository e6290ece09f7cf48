-- The walk over the bits of a word, from the lowest to the highest.
use Rattle.std.specs.Prelude.{◌≡◌, ℕ, Option, None, Some}
use Rattle.words.specs.declared.walk.Bits.{Bits}
use Rattle.words.specs.OneBit.{without_bit, LowestOf}

-- the walk before a step, the number of a bit where one is left, and the walk behind the step
abbrev pub Steps : Bits → Option ℕ → Bits → Type 0
Steps b None after = (b.left ≡ 0) × (after.left ≡ 0)
Steps b (Some i) after = LowestOf b.left i × (after.left ≡ without_bit b.left i)
