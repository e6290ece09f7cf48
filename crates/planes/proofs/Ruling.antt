-- The rules of a head one by one, in lanes: in each lane the best value so far and the rules left are always all.
-- Assumes nothing.
use mathlib.Core.Path.{◌≡◌, refl, sym, ap, ap₂, ◌∙◌}
use mathlib.Core.Bool.{◌&&◌, ◌||◌, and_comm, or_comm}
use mathlib.Core.List.{List}
use Prim.Native.Nat.{ℕ, suc, ◌-◌, ◌^◌, ◌≤◌, ◌<◌}
use native.Mathlib.Omega.{arith}
use lib.Bits.{bit_and, bit_or}
use Rattle.words.proofs.Bits.{has-zero, has-and, has-or}
use Rattle.logic.specs.declared.value.Value.{Value}
use Rattle.logic.specs.declared.value.Value.TheVariants.{False}
use Rattle.logic.specs.Value.{is_true, is_false, greater}
use Rattle.logic.specs.Interpretation.{value_at}
use Rattle.logic.proofs.Values.{true_greater, false_greater}
use Rattle.program.specs.Case.{head_at}
use Rattle.prepared.specs.Chains.{last_of, rule_value, rules_value}
use Rattle.prepared.proofs.RuleChains.{Along, along_start, along_end, along_next}
use Rattle.planes.specs.declared.plane.Lanes.{Lanes}
use Rattle.planes.specs.Planes.{column, Is, Worth}
use Rattle.planes.proofs.Columns.{all_lanes}

module _ (cl : List ℕ) (a n : ℕ) (t f : List ℕ) where
  -- in each lane the best so far and the rules up to k are all
  pub record Ruling (up down k : ℕ) : Type 0 where
    pub low : k ≤ n
    pub lanes : (j : ℕ) → j < 64
        → (x : Value) × Is (record { trues = up; falses = down }) j x × Along (value_at (column t f j)) cl a n x k

  pub ruling_start : (k : ℕ) → k ≡ last_of cl a n → Ruling 0 (2 ^ 64 - 1 - 0) k
  ruling_start k e = record {
    low = (along_start (value_at (column t f 0)) cl a n k e).low;
    lanes = λ j l. (
      False,
      record { is_true = has-zero j; is_false = all_lanes j l },
      along_start (value_at (column t f j)) cl a n k e,
    );
  }

  pub ruling_next : (up down k i : ℕ) (v : Lanes) → Ruling up down k → (m : ℕ) → k ≡ suc m
      → Worth v (λ j. rule_value (value_at (column t f j)) cl m) → i ≡ last_of cl (head_at cl m) m
      → Ruling (bit_or up v.trues) (bit_and down v.falses) i
  ruling_next up down k i v r m e w q = record {
    low = (next 0 (omega arith)).2.low;
    lanes = next;
  }
    where
      next : (j : ℕ) → j < 64 → (x : Value)
          × Is (record { trues = bit_or up v.trues; falses = bit_and down v.falses }) j x
          × Along (value_at (column t f j)) cl a n x i
      next j l =
          let h = r.lanes j l in
          let y = rule_value (value_at (column t f j)) cl m in (
            greater y h.0,
            record {
              is_true = has-or up v.trues j ∙ ap₂ ◌||◌ h.1.is_true (w j l).is_true
                  ∙ or_comm (is_true h.0) (is_true y) ∙ sym (true_greater y h.0);
              is_false = has-and down v.falses j ∙ ap₂ ◌&&◌ h.1.is_false (w j l).is_false
                  ∙ and_comm (is_false h.0) (is_false y) ∙ sym (false_greater y h.0);
            },
            along_next (value_at (column t f j)) cl a n h.0 k h.2 m e y i refl q,
          )

  pub ruling_end : (up down k : ℕ) → Ruling up down k → k ≡ 0
      → Worth (record { trues = up; falses = down }) (λ j. rules_value (value_at (column t f j)) cl a n)
  ruling_end up down k r e j l =
      let h = r.lanes j l in
      let q = along_end (value_at (column t f j)) cl a n h.0 k h.2 e in
      record { is_true = h.1.is_true ∙ ap is_true q; is_false = h.1.is_false ∙ ap is_false q }
