-- The rounds in lanes: each lane goes its own rounds and stays where it has settled, and the lanes that a round changes
-- are those whose round count it is below. Assumes nothing.
use mathlib.Core.Path.{◌≡◌, refl, sym, ap, ap₂, subst, ◌∙◌}
use mathlib.Core.Bool.{Bool, true, false, not}
use mathlib.Core.List.{List}
use mathlib.Core.Logic.{⊎_elim}
use Prim.Native.Nat.{ℕ, suc, ◌+◌, ◌^◌, ◌≤◌, ◌<◌, min}
use native.Mathlib.Numerals.{add-one}
use native.Mathlib.Omega.{arith}
use lib.Bits.{bit_and, and_lt}
use lib.Count.{ones, ones-le}
use lib.Dec.{ltb}
use borrow.Author.Tests.{eqb-true, ltb-true, ltb-false, lt-ltb, le-ltb}
use Rattle.words.specs.Below.{any, sum}
use Rattle.words.specs.Bits.{has, digit}
use Rattle.words.proofs.Tests.{true_or_false, lt-or-le}
use Rattle.words.proofs.Below.{any_found}
use Rattle.words.proofs.Bits.{has-zero}
use Rattle.words.proofs.Words.{zero-any}
use Rattle.words.proofs.Sums.{sum_ext, sum-add, sum-le, ones_lowest}
use Rattle.words.proofs.Counts.{Within}
use Rattle.logic.specs.declared.interpretation.Interpretation.{Interpretation}
use Rattle.logic.specs.Value.{is_decided}
use Rattle.logic.specs.Interpretation.{decided_in, Disjoint, same_in}
use Rattle.logic.proofs.Interpretations.{Good, changed, some-changed}
use Rattle.program.specs.declared.cause.Additions.{Additions}
use Rattle.program.specs.Program.{Clause, program_with}
use Rattle.settle.specs.Rounds.{rounds, round_count, settled}
use Rattle.settle.proofs.Steady.{Steady, program-steady}
use Rattle.settle.proofs.Reached.{rounds_good, rounds-rise, settled-decided}
use Rattle.settle.proofs.Settling.{rounds-settled, changes_before, round_count-le}
use Rattle.prepared.specs.Dependents.{touched_from}
use Rattle.prepared.proofs.Redoing.{redone, open_in, redone-step}
use Rattle.round.specs.declared.redo.Changed.{Changed}
use Rattle.planes.specs.Planes.{column, Planes, Sizes}
use Rattle.round.specs.Redo.{fresh, Redone}
use Rattle.lanes.specs.declared.rounds.Sums.{Sums}
use Rattle.lanes.specs.Rounds.{Settles}
use Rattle.planes.proofs.Columns.{column_good}
use Rattle.lanes.proofs.OneRound.{redone-column, moved_at}

-- k rounds and d decided atoms
abbrev pub sums : ℕ → ℕ → Sums
sums k d = record { rounds = k; decided = d }

one_more : (k r : ℕ) → min k r + digit (ltb k r) ≡ min (k + 1) r
one_more k r =
    ⊎_elim
    (λ (l : k < r). ap (λ (b : Bool). min k r + digit b) (lt-ltb k r l) ∙ omega arith)
    (λ (l : r ≤ k). ap (λ (b : Bool). min k r + digit b) (le-ltb k r l) ∙ omega arith)
    (lt-or-le k r)

-- where the lanes stand after k + 1 rounds, of which c is the last: lane j settles with the additions x j, and total
-- sums the round counts of the first m lanes, each as far as k
pub record Settling (cl : List ℕ) (n : ℕ) (x : ℕ → Additions) (m : ℕ) (t f : List ℕ) (c : Changed) (k total : ℕ)
    : Type 0 where
  pub sizes : Sizes t f
  pub columns_are : (j : ℕ) → j < 64 → column t f j ≡ rounds (program_with cl n (x j)) (suc k)
  pub lanes_are : (j : ℕ) → j < 64 → has c.lanes j ≡ ltb k (round_count (program_with cl n (x j)))
  pub atoms_are : (j : ℕ) → j < 64
      → Within 64 (changed (rounds (program_with cl n (x j)) (suc k)) (rounds (program_with cl n (x j)) k)) c.atoms
  pub total_is : total ≡ sum m (λ j. min k (round_count (program_with cl n (x j))))

module _ (cl : List ℕ) (n : ℕ) (x : ℕ → Additions) (m : ℕ) (few : m ≤ 64) where
  abbrev p : ℕ → List Clause
  p j = program_with cl n (x j)

  steady : (j : ℕ) → Steady (p j)
  steady j = program-steady cl n (x j)

  count-few : (j : ℕ) → round_count (p j) ≤ 64
  count-few j = round_count-le (p j) (steady j)

  module _ (t f : List ℕ) (c : Changed) (k total : ℕ) (s : Settling cl n x m t f c k total) where
    pub settling_planes : Planes t f
    settling_planes j l =
        subst (λ (i : Interpretation). Disjoint i) (sym (s.columns_are j l)) (rounds_good (p j) (suc k)).disjoint

    -- where a lane changes, there are fewer than 64 rounds so far
    pub settling_few : c.lanes < 2 ^ 64 → (c.lanes ≡ 0 → ⊥) → k < 64
    settling_few h ne =
        ⊎_elim
        (λ (z : any 64 (has c.lanes) ≡ true).
        let r = any_found 64 (has c.lanes) z in
        let before = ltb-true k (round_count (p r.0)) (sym (s.lanes_are r.0 r.1) ∙ r.2) in
        omega (arith, before, count-few r.0))
        (λ (z : any 64 (has c.lanes) ≡ false).
        absurd (ne (eqb-true c.lanes 0 (zero-any 64 c.lanes h ∙ ap not z))))
        (true_or_false (any 64 (has c.lanes)))

    pub settling_small : total ≤ 4096
    settling_small =
        let each = sum-le m 64 (λ j. min k (round_count (p j))) (λ j l. omega (arith, count-few j)) in
        omega (arith, each, s.total_is)

    -- also with the lanes that the round changed
    pub settling_total : (v : ℕ) → c.lanes < 2 ^ 64 → v < 2 ^ 64 → total + ones (bit_and c.lanes v) < 2 ^ 32
    settling_total v h i = omega (arith, settling_small, ones-le 64 (bit_and c.lanes v) (and_lt 64 _ _ h i))

    -- the round counts as far as k + 1: one more for each lane that the round changed
    total_next : (v : ℕ) → c.lanes < 2 ^ 64 → v < 2 ^ 64 → v + 1 ≡ 2 ^ m
        → total + ones (bit_and c.lanes v) ≡ sum m (λ j. min (k + 1) (round_count (p j)))
    total_next v h i e =
        ap₂ ◌+◌ s.total_is
        (ones_lowest c.lanes v m i few e
        ∙ sum_ext m (λ j. digit (has c.lanes j)) (λ j. digit (ltb k (round_count (p j))))
        (λ j l. ap digit (s.lanes_are j (omega arith))))
        ∙ sum-add m (λ j. min k (round_count (p j))) (λ j. digit (ltb k (round_count (p j))))
        ∙ sum_ext m _ (λ j. min (k + 1) (round_count (p j))) (λ j l. one_more k (round_count (p j)))

    -- one round more, of the heads that the last one touched
    module _ (heads : ℕ) (t₁ f₁ : List ℕ) (r : Changed) (h : heads ≡ touched_from cl n c.atoms)
        (e : Redone cl n heads t f t₁ f₁ r) (j : ℕ) (l : j < 64) where
      stepped : column t₁ f₁ j ≡ rounds (p j) (suc (suc k))
      unfolding rounds
      stepped =
          redone-column cl n heads t f t₁ f₁ r settling_planes e j l
          ∙ ap₂ (λ (i : Interpretation) (w : ℕ). redone cl n i (open_in i w)) (s.columns_are j l) h
          ∙ redone-step cl n (x j) (rounds (p j) k) (rounds (p j) (suc k)) refl c.atoms (s.atoms_are j l)
          (rounds-rise (p j) (steady j) k)

      stepped_good : Good (column t₁ f₁ j)
      stepped_good = rw stepped (rounds_good (p j) (suc (suc k)))

      lanes_next : has r.lanes j ≡ ltb (k + 1) (round_count (p j))
      lanes_next =
          e.lanes_are j l
          ∙ some-changed (column t₁ f₁ j) (column t f j) stepped_good (column_good t f j (settling_planes j l))
          (fresh is_decided cl n heads t f j) (moved_at cl n heads t f t₁ f₁ r settling_planes e j l)
          ∙ ap not (ap₂ same_in (s.columns_are j l) stepped)
          ∙ changes_before (p j) (steady j) (suc k)
          ∙ ap (λ (i : ℕ). ltb i (round_count (p j))) (sym (add-one k))

      atoms-next : Within 64 (changed (rounds (p j) (suc (k + 1))) (rounds (p j) (k + 1))) r.atoms
      atoms-next a q h =
          e.atoms_are j a l q
          (sym (moved_at cl n heads t f t₁ f₁ r settling_planes e j l a q)
          ∙ ap (λ (w : ℕ). has w a)
          (ap₂ changed stepped (s.columns_are j l)
          ∙ ap (λ (i : ℕ). changed (rounds (p j) (suc i)) (rounds (p j) i)) (sym (add-one k)))
          ∙ h)

    pub settling_next : (heads v : ℕ) (t₁ f₁ : List ℕ) (r : Changed) → c.lanes < 2 ^ 64 → v < 2 ^ 64 → v + 1 ≡ 2 ^ m
        → heads ≡ touched_from cl n c.atoms → Sizes t₁ f₁ → Redone cl n heads t f t₁ f₁ r
        → Settling cl n x m t₁ f₁ r (k + 1) (total + ones (bit_and c.lanes v))
    settling_next heads v t₁ f₁ r hc hv ev eh z e = record {
      sizes = z;
      columns_are = λ j l. stepped heads t₁ f₁ r eh e j l ∙ ap (λ (i : ℕ). rounds (p j) (suc i)) (sym (add-one k));
      lanes_are = lanes_next heads t₁ f₁ r eh e;
      atoms_are = atoms-next heads t₁ f₁ r eh e;
      total_is = total_next v hc hv ev;
    }

    -- where the round changed no lane
    module _ (z : c.lanes ≡ 0) where
      done : (j : ℕ) → j < 64 → round_count (p j) ≤ k
      done j l =
          ltb-false k (round_count (p j)) (sym (s.lanes_are j l) ∙ ap (λ (w : ℕ). has w j) z ∙ has-zero j)

      columns_end : (j : ℕ) → j < 64 → column t f j ≡ (settled (p j)).interpretation
      unfolding settled
      columns_end j l = s.columns_are j l ∙ rounds-settled (p j) (steady j) (suc k) (omega (arith, done j l))

      rounds-end : total ≡ sum m (λ j. (settled (p j)).rounds)
      unfolding settled
      rounds-end =
          s.total_is
          ∙ sum_ext m (λ j. min k (round_count (p j))) (λ j. round_count (p j))
          (λ j l. omega (arith, done j (omega arith)))

      -- d atoms are decided in the first m lanes
      pub settling_end : {d : ℕ} → d ≡ sum m (λ j. decided_in (column t f j)) → Settles cl n x m t f (sums total d)
      settling_end e = record {
        sizes = s.sizes;
        columns_are = columns_end;
        rounds_are = rounds-end;
        decided_are = e
            ∙ sum_ext m (λ j. decided_in (column t f j)) (λ j. (settled (p j)).decided)
            (λ j l. ap decided_in (columns_end j (omega arith)) ∙ sym (settled-decided (p j) (steady j)));
      }
