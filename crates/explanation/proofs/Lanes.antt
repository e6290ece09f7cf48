-- The 64 settings of a block, whose word of the row has become w: their bits, and those of the settings that lack one
-- digit of them. Assumes nothing.
use mathlib.Core.Path.{◌≡◌, refl, ap, ap₂, ◌∙◌}
use mathlib.Core.Bool.{Bool, true, false, ◌&&◌, ◌||◌, and-false}
use mathlib.Core.List.{List}
use Prim.Native.Nat.{ℕ, ◌+◌, ◌-◌, ◌*◌, ◌/◌, ◌%◌, ◌<◌}
use native.Mathlib.Omega.{arith}
use lib.ListN.{length, get_or, set}
use lib.Seq.{get_or-set_same, get_or-set_other}
use Rattle.words.specs.Bits.{has}
use Rattle.words.proofs.Below.{any_ext, any-or}
use Rattle.program.specs.declared.cause.Causes.{Causes}
use Rattle.program.specs.Setting.{choices_of, settings_of, additions_of}
use Rattle.program.proofs.Sets.{additions_facts_of, additions_assumptions_of}
use Rattle.explanation.specs.Covering.{some_dropped, Decodes}
use Rattle.explanation.specs.Row.{row_bit, dropped_at, Droppable, setting_bit, Block}
use Rattle.explanation.proofs.Dropping.{facts_le, assumptions_le, either_dropped}

and-or : (c u v : Bool) → (c && (u || v)) ≡ ((c && u) || (c && v))
and-or true u v = refl
and-or false u v = refl

module _ {p : ℕ → Bool} {first b e : ℕ} {causes : Causes} {weights x y row₀ : List ℕ}
    (k : Block p first b e causes weights x y row₀) (w : ℕ) where
  abbrev row : List ℕ
  row = set row₀ b w

  -- a setting below the first keeps its bit
  pub bit_below : (s : ℕ) → s < first → setting_bit row s ≡ setting_bit row₀ s
  bit_below s l =
      let ne : (59072 + s) / 64 ≡ b → ⊥ = λ z. omega (arith, k.place_is) in
      ap (λ (n : ℕ). has n ((59072 + s) % 64)) (get_or-set_other row₀ b ((59072 + s) / 64) w 0 ne)

  -- the setting of lane j
  pub bit_lane : b < length row₀ → (j : ℕ) → j < 64 → setting_bit row (first + j) ≡ has w j
  bit_lane inside j l =
      let q : (59072 + (first + j)) / 64 ≡ b = omega (arith, k.place_is) in
      let r : (59072 + (first + j)) % 64 ≡ j = omega (arith, k.place_is) in
      ap₂ (λ (i n : ℕ). has (get_or row i 0) n) q r
      ∙ ap (λ (n : ℕ). has n j) (get_or-set_same row₀ b w 0 inside)

  -- ---- lane j, whose setting is s
  module _ (j : ℕ) (l : j < 64) (m : first + j < settings_of causes) where
    abbrev s : ℕ
    s = first + j

    abbrev weight : ℕ → ℕ
    weight a = get_or weights a 0

    abbrev fact : ℕ → Bool
    fact a = has (additions_of causes s).facts a

    abbrev assumption : ℕ → Bool
    assumption a = has (additions_of causes s).assumptions a

    decodes : Decodes causes s (additions_of causes s)
    decodes = record { below = m; adds = refl }

    module _ (a : ℕ) (h : a < 64) where
      -- a digit of the cause a, where u says that s has it, whose dropping leads to the setting s - n at a place
      half : (place n : ℕ) (u : Bool) → (u ≡ true → has causes.all a ≡ true) → (u ≡ true → place ≡ 59072 + (s - n))
          → (has causes.all a && (u && row_bit row place)) ≡ (u && setting_bit row (s - n))
      half place n true f g = ap₂ (λ (t : Bool) (i : ℕ). t && row_bit row i) (f refl) (g refl)
      half place n false f g = and-false (has causes.all a)

      fact-place : fact a ≡ true → 64 * b - weight a + j ≡ 59072 + (s - 1 * weight a)
      fact-place z =
          omega (
            arith,
            k.place_is,
            facts_le causes s (additions_of causes s) decodes weights k.weights_are a
                (record { small = h; there = z }),
          )

      assumption-place : assumption a ≡ true → 64 * b - 2 * weight a + j ≡ 59072 + (s - 2 * weight a)
      assumption-place z =
          omega (
            arith,
            k.place_is,
            assumptions_le causes s (additions_of causes s) decodes weights k.weights_are a
                (record { small = h; there = z }),
          )

      -- the test of the cause a is that of what is added for it
      one : (has causes.all a && dropped_at row (64 * b) weights x y j a)
          ≡ (fact a && setting_bit row (s - 1 * weight a) || assumption a && setting_bit row (s - 2 * weight a))
      one =
          ap₂ (λ (u v : Bool). has causes.all a && (u && row_bit row (64 * b - weight a + j)
          || v && row_bit row (64 * b - 2 * weight a + j)))
          (k.filled.facts_are j a l h) (k.filled.assumptions_are j a l h)
          ∙ and-or (has causes.all a) _ _
          ∙ ap₂ ◌||◌
          (half _ (1 * weight a) (fact a) (additions_facts_of causes s a h) fact-place)
          (half _ (2 * weight a) (assumption a) (additions_assumptions_of causes s a h) assumption-place)

    -- the lanes found are those that lack one digit of a setting with its bit
    pub lane_dropped : (r : ℕ) → Droppable row (64 * b) causes.all weights x y r
        → has r j ≡ some_dropped (setting_bit row) (choices_of causes) s
    lane_dropped r d =
        d.lanes_are j l
        ∙ any_ext 64 _ _ one
        ∙ any-or 64 (λ a. fact a && setting_bit row (s - 1 * weight a))
        (λ a. assumption a && setting_bit row (s - 2 * weight a))
        ∙ either_dropped causes s (additions_of causes s) decodes weights k.weights_are (setting_bit row)
