-- Rounds of a steady program: they rise, each that changes something decides more, what they decide newly sums up to
-- what is decided, and the state of the loop that counts them. Assumes nothing.
use mathlib.Core.Path.{◌≡◌, refl, sym, ap, ap₂, ◌∙◌}
use mathlib.Core.Bool.{Bool, true, false}
use mathlib.Core.List.{List}
use mathlib.Core.Logic.{◌⊎◌, ⊎_elim}
use Prim.Native.Nat.{ℕ, zero, suc, ◌+◌, ◌-◌, ◌≤◌, ◌<◌}
use native.Mathlib.Nat.{not-suc-le-zero}
use native.Mathlib.Numerals.{add-one}
use native.Mathlib.Omega.{arith}
use lib.Count.{ones}
use borrow.Author.Count.{below_more}
use Rattle.words.proofs.Below.{first-is}
use Rattle.words.proofs.Sums.{sum-none, sum_more}
use Rattle.logic.specs.declared.value.Value.{Value}
use Rattle.logic.specs.declared.interpretation.Interpretation.{Interpretation}
use Rattle.logic.specs.Interpretation.{nothing, value_at, decided_in}
use Rattle.logic.specs.Order.{Contained}
use Rattle.logic.proofs.Order.{leq_unknown}
use Rattle.logic.proofs.Interpretations.{Good, nothing_good, values_good, nothing-at, same_in-eq, same_in_refl}
use Rattle.logic.proofs.Decided.{decided-le, grow, newly-more}
use Rattle.program.specs.Program.{Clause}
use Rattle.settle.specs.declared.settle.Settled.{Settled}
use Rattle.settle.specs.declared.step.Stepped.{Stepped}
use Rattle.settle.specs.Step.{next_value, step, stepped}
use Rattle.settle.specs.Rounds.{rounds, unchanged, round_limit, round_count, decided_sum, settled}
use Rattle.settle.proofs.Steady.{Steady, step_mono}

pub good_decided : (i : Interpretation) → Good i → decided_in i ≤ 64
good_decided i g = decided-le 64 i g.trues_fit g.falses_fit g.disjoint

pub nothing_contained : (v : ℕ → Value) → Contained (value_at nothing) v
nothing_contained v a = rw (nothing-at a) (leq_unknown (v a))

abbrev pub made : Interpretation → ℕ → ℕ → Settled
made i k d = record { interpretation = i; rounds = k; decided = d }

settled-eq : {r s : Settled} → r.interpretation ≡ s.interpretation → r.rounds ≡ s.rounds
    → r.decided ≡ s.decided → r ≡ s
settled-eq e f g = λ j. record { interpretation = e j; rounds = f j; decided = g j }

-- i is reached by k rounds, each of which changed something
pub record Reached (p : List Clause) (i : Interpretation) (k : ℕ) : Type 0 where
  pub is : i ≡ rounds p k
  pub few : k ≤ decided_in i
  pub fresh : (j : ℕ) → j < k → unchanged p j ≡ false

module _ (p : List Clause) where
  pub step_good : (i : Interpretation) → Good (step p i)
  unfolding step
  step_good i = values_good (next_value p (value_at i))

  pub rounds_good : (k : ℕ) → Good (rounds p k)
  unfolding rounds
  rounds_good zero = nothing_good
  rounds_good (suc k) = step_good (rounds p k)

  pub settled_good : Good (settled p).interpretation
  unfolding settled
  settled_good = rounds_good (round_count p)

  pub reached_good : {i : Interpretation} {k : ℕ} → Reached p i k → Good i
  reached_good {i} {k} r = rw r.is (rounds_good k)

  pub start : Reached p nothing 0
  unfolding rounds
  start = record { is = refl; few = omega arith; fresh = λ j l. absurd (not-suc-le-zero l) }

module _ (p : List Clause) (s : Steady p) where
  pub rounds-rise : (k : ℕ) → Contained (value_at (rounds p k)) (value_at (step p (rounds p k)))
  unfolding rounds
  rounds-rise zero = nothing_contained _
  rounds-rise (suc k) = step_mono p s (rounds p k) (step p (rounds p k)) (rounds-rise k)

  -- the atoms newly decided by k rounds are those decided after them
  pub sum-decided : (k : ℕ) → decided_sum p k ≡ decided_in (rounds p k)
  unfolding rounds ones
  sum-decided zero = sum-none _
  sum-decided (suc k) =
      let i = rounds p k in
      let more = newly-more i (step p i) (rounds_good p k) (step_good p i) (rounds-rise k) in
      ap (decided_sum p) (sym (add-one k)) ∙ sym (sum_more k _) ∙ omega (arith, sum-decided k, more)

  pub settled-decided : (settled p).decided ≡ decided_in (settled p).interpretation
  unfolding settled
  settled-decided = sum-decided (round_count p)

  module _ {i : Interpretation} {k : ℕ} (r : Reached p i k) where
    pub onwards : (i ≡ step p i) ⊎ (decided_in i < decided_in (step p i))
    onwards = grow i (step p i) (reached_good p r) (step_good p i) (rw r.is (rounds-rise k))

    -- a round that changes the number of decided atoms
    module _ (t : Interpretation) (e : t ≡ step p i) (ne : decided_in t ≡ decided_in i → ⊥) where
      more : decided_in i < decided_in t
      more = ⊎_elim (λ q. absurd (ne (ap decided_in (e ∙ sym q)))) (λ q. rw e q) onwards

      falls : 64 - decided_in t < 64 - decided_in i
      falls = omega (arith, more, good_decided t (rw e (step_good p i)))

      next-is : t ≡ rounds p (suc k)
      unfolding rounds
      next-is = e ∙ ap (step p) r.is

      changed : (b : Bool) → unchanged p k ≡ b → b ≡ false
      changed false q = refl
      changed true q = absurd (ne (ap decided_in (next-is ∙ sym (same_in-eq _ _ q) ∙ sym r.is)))

      pub again : Reached p t (k + 1)
      again = record {
        is = next-is ∙ ap (rounds p) (sym (add-one k));
        few = omega (arith, more, r.few);
        fresh = below_more (λ j. unchanged p j ≡ false) k r.fresh (changed _ refl);
      }

    -- a round that does not
    pub ends : decided_in (step p i) ≡ decided_in i → k ≡ round_count p
    unfolding round_count rounds
    ends d =
        sym (first-is round_limit (unchanged p) 0 k (omega arith)
        (omega (arith, r.few, good_decided i (reached_good p r))) passes r.fresh)
      where
        stays : i ≡ step p i
        stays = ⊎_elim (λ q. q) (λ (q : decided_in i < decided_in (step p i)). absurd (omega arith)) onwards

        passes : unchanged p k ≡ true
        passes = same_in_refl _ _ (sym r.is ∙ stays ∙ ap (step p) r.is)

    -- the answer t of the step
    module _ (t : Stepped) (e : t ≡ stepped p i) where
      after : t.interpretation ≡ step p i
      after = ap (λ (x : Stepped). x.interpretation) e

      newly : t.decided + decided_in i ≡ decided_in t.interpretation
      newly =
          rw e (newly-more i (step p i) (reached_good p r) (step_good p i) (rw r.is (rounds-rise k)))

      module _ (ne : t.decided ≡ 0 → ⊥) where
        moved : decided_in t.interpretation ≡ decided_in i → ⊥
        moved q = ne (omega (arith, newly))

        pub newly-falls : 64 - decided_in t.interpretation < 64 - decided_in i
        newly-falls = falls t.interpretation after moved

        pub newly-again : Reached p t.interpretation (k + 1)
        newly-again = again t.interpretation after moved

      -- d atoms are newly decided so far
      module _ (d : ℕ) (z : d ≡ decided_sum p k) where
        pub sum-again : d + t.decided ≡ decided_sum p (k + 1)
        sum-again =
            ap₂ ◌+◌ z
            (ap (λ (x : Stepped). x.decided) e ∙ ap (λ (x : Interpretation). (stepped p x).decided) r.is)
            ∙ sum_more k (λ j. (stepped p (rounds p j)).decided)

        pub sum-few : d + t.decided ≤ 64
        sum-few = omega (arith, sum-again, sum-decided (k + 1), good_decided (rounds p (k + 1)) (rounds_good p (k + 1)))

        pub newly-ends : t.decided ≡ 0 → made i k d ≡ settled p
        unfolding settled
        newly-ends n =
            let found =
            ends (ap decided_in (sym after) ∙ sym newly ∙ ap (λ (x : ℕ). x + decided_in i) n ∙ omega arith) in
            settled-eq (r.is ∙ ap (rounds p) found) found (z ∙ ap (decided_sum p) found)
