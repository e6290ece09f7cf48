-- What was read after a line: a comment says nothing, another line what its tokens say. Assumes nothing.
use mathlib.Core.Path.{◌≡◌}
use mathlib.Core.Bool.{true, false}
use mathlib.Core.List.{List}
use Prim.Native.Nat.{ℕ}
use Rattle.text.specs.Lines.{is_comment}
use Rattle.text.specs.Tokens.{tokens}
use Rattle.store.specs.Saying.{Said}
use Rattle.checks.specs.Checks.{said_with, said_after}

module _ (st : Said) (l : List ℕ) where
  pub after_comment : is_comment l ≡ true → said_after st l ≡ st
  unfolding said_after
  after_comment c = rw c

  pub after_line : is_comment l ≡ false → said_after st l ≡ said_with st (tokens l)
  unfolding said_after
  after_line c = rw c
