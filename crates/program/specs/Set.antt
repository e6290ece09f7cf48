-- Sets of the possible causes. The settings are those in which no cause has both a fact and an assumption.
-- From: document 01, "Causes, settings, explanations"; document 02, [10] (a cause of two choices gets a fact or
-- nothing).
use Rattle.std.specs.Prelude.{◌≡◌, true, false, ℕ, ◌^◌, ◌<◌}
use Rattle.words.specs.Bits.{has}
use Rattle.program.specs.declared.cause.Additions.{Additions}
use Rattle.program.specs.declared.cause.Causes.{Causes}

-- x is a set of the possible causes w: each may get a fact or nothing, one of three choices also an assumption or both
pub record SetOf (w : Causes) (x : Additions) : Type 0 where
  pub facts_fit : x.facts < 2 ^ 64
  pub assumptions_fit : x.assumptions < 2 ^ 64
  pub facts_of : (a : ℕ) → a < 64 → has x.facts a ≡ true → has w.all a ≡ true
  pub assumptions_of : (a : ℕ) → a < 64 → has x.assumptions a ≡ true → has w.all a ≡ true
  pub assumptions_free : (a : ℕ) → a < 64 → has x.assumptions a ≡ true → has w.twofold a ≡ false
