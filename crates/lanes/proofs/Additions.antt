-- What lanes add, where their planes are filled with what settings add. Assumes nothing.
use mathlib.Core.Path.{◌≡◌, sym, ap, ◌∙◌}
use mathlib.Core.List.{List}
use Prim.Native.Nat.{ℕ, ◌+◌, ◌≤◌, ◌<◌}
use native.Mathlib.Omega.{arith}
use Rattle.words.specs.Below.{sum}
use Rattle.words.proofs.Sums.{sum_ext}
use Rattle.words.proofs.Words.{is_word}
use Rattle.program.specs.declared.cause.Additions.{Additions}
use Rattle.program.specs.declared.cause.Causes.{Causes}
use Rattle.program.specs.Program.{program_with}
use Rattle.program.specs.Setting.{additions_of}
use Rattle.program.proofs.Sets.{additions_set}
use Rattle.settle.specs.declared.settle.Settled.{Settled}
use Rattle.settle.specs.Rounds.{settled}
use Rattle.planes.specs.Planes.{at}
use Rattle.planes.specs.Fill.{Filled}
use Rattle.lanes.specs.declared.rounds.Sums.{Sums}
use Rattle.lanes.specs.Rounds.{added_in, Settles}

module _ {causes : Causes} {s : ℕ} {x y : List ℕ} (g : Filled causes s x y) where
  -- lane j adds what setting s + j adds
  lane_adds : (j : ℕ) → j < 64 → added_in x y j ≡ additions_of causes (s + j)
  lane_adds j l =
      let a = additions_set causes (s + j) in
      let facts = is_word 64 _ (at x j) a.facts_fit (λ i m. sym (g.facts_are j i l m)) in
      let assumptions = is_word 64 _ (at y j) a.assumptions_fit (λ i m. sym (g.assumptions_are j i l m)) in
      sym (λ i. record { facts = facts i; assumptions = assumptions i })

  module _ (cl : List ℕ) (n : ℕ) where
    lane_settled : (j : ℕ) → j < 64
        → settled (program_with cl n (added_in x y j)) ≡ settled (program_with cl n (additions_of causes (s + j)))
    lane_settled j l = ap (λ (z : Additions). settled (program_with cl n z)) (lane_adds j l)

    lanes-sum : (m : ℕ) → m ≤ 64 → (h : Settled → ℕ)
        → sum m (λ j. h (settled (program_with cl n (added_in x y j))))
        ≡ sum m (λ j. h (settled (program_with cl n (additions_of causes (s + j)))))
    lanes-sum m k h = sum_ext m _ _ (λ j l. ap h (lane_settled j (omega arith)))

    pub settles_filled : {m : ℕ} {t f : List ℕ} {r : Sums} → m ≤ 64 → Settles cl n (added_in x y) m t f r
        → Settles cl n (λ j. additions_of causes (s + j)) m t f r
    settles_filled {m} k v = record {
      sizes = v.sizes;
      columns_are = λ j l. v.columns_are j l ∙ ap (λ (z : Settled). z.interpretation) (lane_settled j l);
      rounds_are = v.rounds_are ∙ lanes-sum m k (λ z. z.rounds);
      decided_are = v.decided_are ∙ lanes-sum m k (λ z. z.decided);
    }
