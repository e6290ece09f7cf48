-- The order of information: what one interpretation decides, another decides alike.
-- From: document 01, "Interpretations and the step" ("contained in"); document 000, the order of interpretations.
--
--   Leq x y          a decided value x is the value y
--   Contained v w    each atom that v decides has the same value in w
use Rattle.std.specs.Prelude.{◌≡◌, true, ℕ}
use Rattle.logic.specs.declared.value.Value.{Value}
use Rattle.logic.specs.Value.{is_true, is_false}

pub record Leq (x y : Value) : Type 0 where
  pub true_kept : is_true x ≡ true → is_true y ≡ true
  pub false_kept : is_false x ≡ true → is_false y ≡ true

abbrev pub Contained : (ℕ → Value) → (ℕ → Value) → Type 0
Contained v w = (a : ℕ) → Leq (v a) (w a)
