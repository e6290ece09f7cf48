-- Which lanes explain: those of the true observations, the constraints taken one by one. Assumes nothing.
use mathlib.Core.Path.{◌≡◌, refl, sym, ap, ◌∙◌}
use mathlib.Core.Bool.{Bool, true, false, not, ◌&&◌, and-true}
use mathlib.Core.List.{List}
use Prim.Native.Nat.{ℕ, zero, suc, ◌+◌, ◌-◌, ◌^◌, ◌≤◌, ◌<◌}
use native.Mathlib.Numerals.{add-one}
use native.Mathlib.Omega.{arith}
use lib.Bits.{bit_and}
use Rattle.words.specs.Below.{every}
use Rattle.words.specs.Bits.{has}
use Rattle.words.proofs.Bits.{has-and, has-not}
use Rattle.logic.specs.declared.value.Value.{Value}
use Rattle.logic.specs.Formula.{value_of, body}
use Rattle.logic.specs.Interpretation.{value_at}
use Rattle.program.specs.declared.case.Case.{Case}
use Rattle.program.specs.declared.cause.Additions.{Additions}
use Rattle.program.specs.Case.{forbidden, forbidden_not, constraint_kind}
use Rattle.planes.specs.declared.plane.Lanes.{Lanes}
use Rattle.planes.specs.Planes.{column, Worth}
use Rattle.explanation.specs.Explanation.{observed_true, met, all_met, explains_under, settled_with, set_explains}

pub lacking_bits : (w v : ℕ) → v < 2 ^ 64 → (j : ℕ) → j < 64
    → has (bit_and w (2 ^ 64 - 1 - v)) j ≡ (has w j && not (has v j))
lacking_bits w v h j l = has-and w (2 ^ 64 - 1 - v) j ∙ ap (λ (t : Bool). has w j && t) (has-not 64 v j h l)

-- the value of the body of constraint k under v, and whether the constraint is met
abbrev pub body_value : List ℕ → (ℕ → Value) → ℕ → Value
body_value co v k = value_of v (body (forbidden co k) (forbidden_not co k))

abbrev pub is_met : List ℕ → (ℕ → Value) → ℕ → Bool
is_met co v k = met (constraint_kind co k) (body_value co v k)

-- ---- one constraint
-- ok has the lanes of w in which a constraint of kind k is met, where b says what its body is worth
abbrev pub MetLanes : ℕ → ℕ → Lanes → ℕ → Type 0
MetLanes w k b ok = (v : ℕ → Value) → Worth b v → (j : ℕ) → j < 64 → has ok j ≡ (has w j && met k (v j))

pub never_lanes : (w k : ℕ) (b : Lanes) → k ≡ 0 → MetLanes w k b (bit_and w b.falses)
never_lanes w k b e v h j l = rw e (has-and w b.falses j ∙ ap (λ (t : Bool). has w j && t) (h j l).is_false)

pub avoid_lanes : (w k : ℕ) (b : Lanes) (ok : ℕ) → (k ≡ 0 → ⊥)
    → ((j : ℕ) → j < 64 → has ok j ≡ (has w j && not (has b.trues j))) → MetLanes w k b ok
avoid_lanes w zero b ok n q v h j l = absurd (n refl)
avoid_lanes w (suc k) b ok n q v h j l = q j l ∙ ap (λ (t : Bool). has w j && not t) (h j l).is_true

-- ---- the constraints one by one
-- ok has the lanes of w in which the first k are met
pub record Passing (w : ℕ) (co t f : List ℕ) (n ok k : ℕ) : Type 0 where
  pub low : k ≤ n
  pub lanes_are : (j : ℕ) → j < 64 → has ok j ≡ (has w j && every k (is_met co (value_at (column t f j))))

module _ (w : ℕ) (co t f : List ℕ) (n : ℕ) where
  pub passing_start : Passing w co t f n w 0
  passing_start = record { low = omega arith; lanes_are = λ j l. sym (and-true (has w j)) }

  pub passing_next : (ok k ok₁ : ℕ) (b : Lanes) → Passing w co t f n ok k → k < n
      → Worth b (λ j. body_value co (value_at (column t f j)) k) → MetLanes ok (constraint_kind co k) b ok₁
      → Passing w co t f n ok₁ (k + 1)
  passing_next ok k ok₁ b p m h q = record {
    low = omega arith;
    lanes_are = λ j l. q _ h j l
        ∙ ap (λ (s : Bool). s && is_met co (value_at (column t f j)) k) (p.lanes_are j l)
        ∙ assoc (has w j) (every k (is_met co (value_at (column t f j)))) _
        ∙ ap (λ (i : ℕ). has w j && every i (is_met co (value_at (column t f j)))) (sym (add-one k));
  }
    where
      assoc : (x y z : Bool) → ((x && y) && z) ≡ (x && (y && z))
      assoc true y z = refl
      assoc false y z = refl

  pub passing_end : (ok k : ℕ) → Passing w co t f n ok k → k ≡ n
      → (j : ℕ) → j < 64 → has ok j ≡ (has w j && all_met co n (value_at (column t f j)))
  unfolding all_met
  passing_end ok k p e j l =
      p.lanes_are j l ∙ ap (λ (i : ℕ). has w j && every i (is_met co (value_at (column t f j)))) e

pub explaining_is : (c : Case) (co t f : List ℕ) (r : ℕ) (v : Lanes)
    → Worth v (λ j. value_of (value_at (column t f j)) (body c.plain c.negated))
    → ((j : ℕ) → j < 64 → has r j ≡ (has v.trues j && all_met co c.constraints (value_at (column t f j))))
    → (j : ℕ) → j < 64 → has r j ≡ explains_under c co (value_at (column t f j))
unfolding explains_under observed_true
explaining_is c co t f r v h q j l =
    q j l ∙ ap (λ (s : Bool). s && all_met co c.constraints (value_at (column t f j))) (h j l).is_true

pub set-explains : (c : Case) (cl co : List ℕ) (x : Additions)
    → set_explains c cl co x ≡ explains_under c co (settled_with c cl x)
unfolding set_explains
set-explains c cl co x = refl
