-- A form in front of items, by what they begin with. Assumes nothing.
use mathlib.Core.Path.{◌≡◌, refl}
use mathlib.Core.Bool.{false, true≢false}
use mathlib.Core.List.{List, ◌∷◌}
use mathlib.Core.Option.{Option}
use Prim.Native.Nat.{ℕ, ◌≤◌, ◌<◌}
use native.Mathlib.Omega.{arith}
use borrow.Author.Tests.{le-ltb, ne_eqb}
use Rattle.formulas.specs.Sentence.{Sentence}
use Rattle.formulas.specs.Items.{prepend, Item, with_form}
use Rattle.formulas.specs.Parsing.{Items, begins_formula, closed_among}
use Rattle.formulas.proofs.Reading.{FormRead, form-read}

-- A form with its operands

module _ (k : ℕ) (f : Sentence) where
  pub negation_items : (x : Items) → k ≡ 64
      → with_form k (prepend (Item.formula f) x) ≡ closed_among (Sentence.negation f) x
  unfolding with_form
  negation_items Option.none e = refl
  negation_items (Option.some m) e = rw e

  pub joined_items : (g : Sentence) (x : Items) → k ≤ 68 → (k ≡ 64 → ⊥)
      → with_form k (prepend (Item.formula f) (prepend (Item.formula g) x)) ≡ closed_among (Sentence.joined k f g) x
  unfolding with_form
  joined_items g Option.none h n = refl
  joined_items g (Option.some m) h n = rw (le-ltb 68 k h, ne_eqb k 64 n)

pub closed-among : (f : Sentence) (x : Items)
    → closed_among f (prepend Item.closing x) ≡ prepend (Item.formula f) x
closed-among f Option.none = refl
closed-among f (Option.some m) = refl

-- A form that lacks its word or an operand

module _ (k : ℕ) where
  read-other : {x y : Items} → FormRead k x y → 68 < k → begins_formula y ≡ false
  read-other FormRead.no-form h = refl
  read-other (FormRead.negation q) h = absurd (omega arith)
  read-other (FormRead.joined b q) h = absurd (omega arith)

  pub other_begins : (x : Items) → 68 < k → begins_formula (with_form k x) ≡ false
  other_begins x h = read-other (form-read k x) h

  read-operand : {x y : Items} → FormRead k x y → begins_formula x ≡ false → begins_formula y ≡ false
  read-operand FormRead.no-form h = refl
  read-operand (FormRead.negation q) h = absurd (true≢false h)
  read-operand (FormRead.joined b q) h = absurd (true≢false h)

  pub operand_begins : (x : Items) → begins_formula x ≡ false → begins_formula (with_form k x) ≡ false
  operand_begins x h = read-operand (form-read k x) h

  read-second : {f : Sentence} {m : List Item} {y : Items} → FormRead k (Option.some (Item.formula f ∷ m)) y
      → (k ≡ 64 → ⊥) → begins_formula (Option.some m) ≡ false → begins_formula y ≡ false
  read-second FormRead.no-form n h = refl
  read-second (FormRead.negation q) n h = absurd (n q)
  read-second (FormRead.joined b q) n h = absurd (true≢false h)

  -- a form that is no negation lacks its second operand
  pub second_begins : (f : Sentence) (x : Items) → (k ≡ 64 → ⊥) → begins_formula x ≡ false
      → begins_formula (with_form k (prepend (Item.formula f) x)) ≡ false
  second_begins f Option.none n h = operand_begins Option.none refl
  second_begins f (Option.some m) n h = read-second (form-read k (Option.some (Item.formula f ∷ m))) n h
