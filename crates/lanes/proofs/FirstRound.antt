-- Where the lanes stand after the first round: each lane has the opening with its additions. Assumes nothing.
use mathlib.Core.Path.{◌≡◌, sym, ap, ap₂, ◌∙◌}
use mathlib.Core.Bool.{not, ◌&&◌, ◌||◌}
use mathlib.Core.List.{List}
use Prim.Native.Nat.{ℕ, ◌-◌, ◌^◌, ◌<◌, min}
use native.Mathlib.Omega.{arith}
use lib.Bits.{bit_and}
use lib.Dec.{ltb}
use Rattle.words.specs.Bits.{has}
use Rattle.words.proofs.Bits.{has-zero, has-and, has-or, has-not, differs}
use Rattle.words.proofs.Words.{word_lt, has_word}
use Rattle.words.proofs.Sums.{sum_zeros}
use Rattle.words.proofs.Counts.{Within}
use Rattle.logic.specs.declared.interpretation.Interpretation.{Interpretation}
use Rattle.logic.specs.Interpretation.{nothing, same_in}
use Rattle.logic.proofs.Interpretations.{Good, nothing_good, changed, has-changed, some-changed}
use Rattle.program.specs.declared.cause.Additions.{Additions}
use Rattle.program.specs.Program.{program_with}
use Rattle.program.proofs.Heads.{heads-lt}
use Rattle.settle.specs.Rounds.{rounds, round_count}
use Rattle.settle.proofs.Steady.{program-steady}
use Rattle.settle.proofs.Reached.{rounds_good}
use Rattle.settle.proofs.Settling.{changes_before}
use Rattle.prepared.specs.declared.opening.Opening.{Opening}
use Rattle.prepared.specs.Opening.{opening_of, opened}
use Rattle.prepared.proofs.Openings.{opened-step}
use Rattle.round.specs.declared.redo.Changed.{Changed}
use Rattle.planes.specs.Planes.{at, column}
use Rattle.planes.specs.Fill.{Even}
use Rattle.round.specs.Begin.{decided_at, Opens}
use Rattle.lanes.specs.Rounds.{added_in}
use Rattle.planes.proofs.Columns.{column-is}
use Rattle.planes.proofs.Choosing.{differs_none}
use Rattle.lanes.proofs.LaneRounds.{Settling}

-- the planes ot, of and oh have the opening o in each lane, xs and ys what each lane adds
module _ (cl : List ℕ) (n : ℕ) (o : Opening) (eo : o ≡ opening_of cl n)
    (ot of oh xs ys t f : List ℕ) (et : Even o.trues ot) (ef : Even o.falses of) (eh : Even o.heads oh)
    (c : Changed) (b : Opens ot of oh xs ys t f c) where
  abbrev x : ℕ → Additions
  x = added_in xs ys

  facts_fit : (j : ℕ) → (x j).facts < 2 ^ 64
  facts_fit j = word_lt 64 (at xs j)

  assumptions_fit : (j : ℕ) → (x j).assumptions < 2 ^ 64
  assumptions_fit j = word_lt 64 (at ys j)

  heads_fit : o.heads < 2 ^ 64
  unfolding opening_of
  heads_fit = rw eo (heads-lt cl n)

  opened-is : (j : ℕ) → opened o (x j) ≡ rounds (program_with cl n (x j)) 1
  unfolding rounds
  opened-is j = ap (λ (q : Opening). opened q (x j)) eo ∙ opened-step cl n (x j) (facts_fit j) (assumptions_fit j)

  -- ---- lane j
  module _ (j : ℕ) (l : j < 64) where
    true_bit : (a : ℕ) → a < 64 → at t j a ≡ has (opened o (x j)).trues a
    true_bit a m =
        b.trues_are a m j l ∙ ap₂ ◌||◌ (et a m j l) (sym (has_word 64 (at xs j) a m))
        ∙ sym (has-or o.trues (x j).facts a)

    -- the assumptions that are no heads
    free-bit : (a : ℕ) → a < 64
        → has (bit_and (x j).assumptions (2 ^ 64 - 1 - o.heads)) a ≡ (at ys j a && not (at oh j a))
    free-bit a m =
        has-and (x j).assumptions _ a
        ∙ ap₂ ◌&&◌ (has_word 64 (at ys j) a m)
        (has-not 64 o.heads a heads_fit m ∙ ap not (sym (eh a m j l)))

    false_bit : (a : ℕ) → a < 64 → at f j a ≡ has (opened o (x j)).falses a
    false_bit a m =
        b.falses_are a m j l
        ∙ sym (has-and _ _ a
        ∙ ap₂ ◌&&◌
        (has-or o.falses _ a ∙ ap₂ ◌||◌ (sym (ef a m j l)) (free-bit a m))
        (has-not 64 (x j).facts a (facts_fit j) m ∙ ap not (has_word 64 (at xs j) a m)))

    first-column : column t f j ≡ rounds (program_with cl n (x j)) 1
    first-column =
        column-is t f j (opened o (x j)) (rw (opened-is j) (rounds_good (program_with cl n (x j)) 1)) true_bit false_bit
        ∙ opened-is j

    first_good : Good (column t f j)
    first_good = rw first-column (rounds_good (program_with cl n (x j)) 1)

    first-moved : (a : ℕ) → a < 64 → has (changed (column t f j) nothing) a ≡ decided_at t f j a
    first-moved a m =
        has-changed (column t f j) nothing a
        ∙ ap₂ ◌||◌
        (ap₂ differs (has_word 64 (at t j) a m) (has-zero a) ∙ differs_none (at t j a))
        (ap₂ differs (has_word 64 (at f j) a m) (has-zero a) ∙ differs_none (at f j a))

    first_lane : has c.lanes j ≡ ltb 0 (round_count (program_with cl n (x j)))
    unfolding rounds
    first_lane =
        b.lanes_are j l
        ∙ some-changed (column t f j) nothing first_good nothing_good (decided_at t f j) first-moved
        ∙ ap (λ (q : Interpretation). not (same_in nothing q)) first-column
        ∙ changes_before (program_with cl n (x j)) (program-steady cl n (x j)) 0

    first-atoms : Within 64 (changed (rounds (program_with cl n (x j)) 1) (rounds (program_with cl n (x j)) 0)) c.atoms
    unfolding rounds
    first-atoms a q h =
        b.atoms_are j a l q
        (sym (first-moved a q) ∙ ap (λ (w : Interpretation). has (changed w nothing) a) first-column ∙ h)

  pub settling_start : (m : ℕ) → Settling cl n x m t f c 0 0
  settling_start m = record {
    sizes = b.sizes;
    columns_are = first-column;
    lanes_are = first_lane;
    atoms_are = first-atoms;
    total_is = sym (sum_zeros m (λ j. min 0 (round_count (program_with cl n (x j)))) (λ j l. omega arith));
  }
