-- Settling a steady program ends: the step keeps the settled interpretation, each round before it changed something,
-- and each round after it changes nothing. Assumes nothing.
use mathlib.Core.Path.{◌≡◌, refl, sym, ap, ◌∙◌, subst}
use mathlib.Core.Bool.{false, not, true≢false}
use mathlib.Core.List.{List}
use mathlib.Core.Logic.{◌⊎◌, inl, inr, ⊎_elim}
use Prim.Native.Nat.{ℕ, zero, suc, ◌+◌, ◌-◌, ◌≤◌, ◌<◌}
use native.Mathlib.Numerals.{add-one}
use native.Mathlib.Omega.{arith}
use lib.Dec.{ltb}
use borrow.Author.Tests.{lt-ltb, le-ltb}
use Rattle.words.proofs.Tests.{lt-or-le}
use Rattle.logic.specs.Interpretation.{decided_in}
use Rattle.logic.proofs.Interpretations.{same_in_refl}
use Rattle.logic.proofs.Decided.{grow}
use Rattle.program.specs.Program.{Clause}
use Rattle.settle.specs.Step.{step}
use Rattle.settle.specs.Rounds.{rounds, unchanged, round_count}
use Rattle.settle.proofs.Steady.{Steady}
use Rattle.settle.proofs.Reached.{Reached, good_decided, rounds_good, rounds-rise, start, onwards, again, ends}

-- k rounds changed something, and one more does not
pub record Ended (p : List Clause) (k : ℕ) : Type 0 where
  pub fixed : rounds p k ≡ step p (rounds p k)
  pub reached : Reached p (rounds p k) k

module _ (p : List Clause) (s : Steady p) where
  ended-count : (k : ℕ) → Ended p k → k ≡ round_count p
  ended-count k d = ends p s d.reached (ap decided_in (sym d.fixed))

  -- each of the rounds from k on decides one atom more, until the step keeps one
  search_ended : (d k : ℕ) → Reached p (rounds p k) k → 64 < k + d → Ended p (round_count p)
  unfolding rounds
  search_ended zero k r h = absurd (omega (arith, r.few, good_decided (rounds p k) (rounds_good p k)))
  search_ended (suc d) k r h = go (search_ended d (suc k)) (onwards p s r)
    where
      moved : decided_in (rounds p k) < decided_in (step p (rounds p k)) → Reached p (rounds p (suc k)) (suc k)
      moved q = rw add-one at (again p s r (step p (rounds p k)) refl (λ e. omega arith))

      go : (Reached p (rounds p (suc k)) (suc k) → 64 < suc k + d → Ended p (round_count p))
          → (rounds p k ≡ step p (rounds p k)) ⊎ (decided_in (rounds p k) < decided_in (step p (rounds p k)))
          → Ended p (round_count p)
      go f (inl e) = let x : Ended p k = record { fixed = e; reached = r } in subst (Ended p) (ended-count k x) x
      go f (inr q) = f (moved q) (omega arith)

  pub settled-ended : Ended p (round_count p)
  unfolding rounds
  settled-ended = search_ended 65 0 (start p) (omega arith)

  -- a round that changes something decides one atom more at least
  pub changed-more : (k : ℕ) → unchanged p k ≡ false → decided_in (rounds p k) < decided_in (rounds p (suc k))
  unfolding rounds
  changed-more k h =
      ⊎_elim (λ (e : rounds p k ≡ rounds p (suc k)). absurd (true≢false (sym (same_in_refl _ _ e) ∙ h))) (λ q. q)
      (grow (rounds p k) (rounds p (suc k)) (rounds_good p k) (rounds_good p (suc k)) (rounds-rise p s k))

  -- from the round count on the rounds stay what they are
  rounds_stay : (d : ℕ) → rounds p (round_count p + d) ≡ rounds p (round_count p)
  unfolding rounds
  rounds_stay zero = let e : round_count p + 0 ≡ round_count p = omega arith in ap (rounds p) e
  rounds_stay (suc d) =
      let e : round_count p + suc d ≡ suc (round_count p + d) = omega arith in
      ap (rounds p) e ∙ ap (step p) (rounds_stay d) ∙ sym settled-ended.fixed

  pub rounds-settled : (k : ℕ) → round_count p ≤ k → rounds p k ≡ rounds p (round_count p)
  rounds-settled k l =
      let e : k ≡ round_count p + (k - round_count p) = omega arith in
      ap (rounds p) e ∙ rounds_stay (k - round_count p)

  -- a round changes something exactly before the round count
  pub changes_before : (k : ℕ) → not (unchanged p k) ≡ ltb k (round_count p)
  changes_before k =
      ⊎_elim
      (λ (l : k < round_count p). ap not (settled-ended.reached.fresh k l) ∙ sym (lt-ltb k (round_count p) l))
      (λ (l : round_count p ≤ k).
      ap not (same_in_refl _ _ (rounds-settled k l ∙ sym (rounds-settled (suc k) (omega arith))))
      ∙ sym (le-ltb k (round_count p) l))
      (lt-or-le k (round_count p))

  pub round_count-le : round_count p ≤ 64
  round_count-le =
      let r = settled-ended.reached in
      omega (arith, r.few, good_decided (rounds p (round_count p)) (rounds_good p (round_count p)))
