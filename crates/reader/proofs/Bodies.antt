-- No body of an accepted file has more than 11 literals: neither in its lines, as written, nor in what was read.
--
--   Few l     where the line l is no comment, its body has at most 11 literals
-- Assumes nothing.
use mathlib.Core.Path.{◌≡◌, subst}
use mathlib.Core.Bool.{true, false}
use mathlib.Core.List.{List, [], ◌∷◌}
use Prim.Native.Nat.{ℕ, ◌≤◌}
use Rattle.words.proofs.Tests.{by_test}
use Rattle.text.specs.Lines.{lines, is_comment}
use Rattle.text.specs.Tokens.{tokens}
use Rattle.text.proofs.Each.{Each}
use Rattle.grammar.specs.Bringing.{brings}
use Rattle.grammar.specs.LineOf.{line_of}
use Rattle.store.specs.Saying.{Said, nothing_said}
use Rattle.store.proofs.BodySizes.{Within, said-within}
use Rattle.checks.specs.Checks.{named_with, line_refusal, said_after}
use Rattle.checks.proofs.Passing.{line-passes}
use Rattle.checks.proofs.After.{after_comment, after_line}
use Rattle.reader.specs.Reading.{Outcome, read_file}
use Rattle.reader.specs.Claims.{said_through, all_pass}
use Rattle.reader.proofs.FirstBad.{first_passes, accepted_through}

abbrev pub Few : List ℕ → Type 0
Few l = is_comment l ≡ false → (brings (line_of (tokens l))).literals ≤ 11

line-few : (st : Said) (l : List ℕ) → line_refusal st l ≡ 0 → Few l
line-few st l e c = (line-passes st l e c).1.text.literals-few

line-within : (st : Said) (l : List ℕ) → Within 11 st → line_refusal st l ≡ 0 → Within 11 (said_after st l)
line-within st l h e =
    by_test (is_comment l) (λ c. rw (after_comment st l c) h)
    (λ c. rw (after_line st l c) (said-within 11 (named_with st (tokens l)) h (line_of (tokens l)) (line-few st l e c)))

lines-few : (ls : List (List ℕ)) (st : Said) → all_pass ls st ≡ true → Each Few ls
lines-few [] st h = tt
lines-few (l ∷ ls) st h =
    let p = first_passes l ls st h in
    (line-few st l p.0, lines-few ls (said_after st l) p.1)

lines-within : (ls : List (List ℕ)) (st : Said) → Within 11 st → all_pass ls st ≡ true → Within 11 (said_through ls st)
unfolding said_through
lines-within [] st h p = h
lines-within (l ∷ ls) st h p =
    let q = first_passes l ls st p in
    lines-within ls (said_after st l) (line-within st l h q.0) q.1

module _ (f : List ℕ) (st : Said) (e : read_file f ≡ Outcome.case st) where
  pub accepted-lines : Each Few (lines f)
  accepted-lines = lines-few (lines f) nothing_said (accepted_through f st e).0

  pub accepted_bodies : Within 11 st
  accepted_bodies =
      let p = accepted_through f st e in
      subst (Within 11) p.2 (lines-within (lines f) nothing_said tt p.0)
