-- What is known of a case that writing does not refuse. Assumes nothing.
use mathlib.Core.Path.{◌≡◌, refl}
use mathlib.Core.Bool.{Bool, true, false, not, ◌&&◌}
use mathlib.Core.List.{[], ◌∷◌}
use Prim.Native.Nat.{ℕ, ◌≤◌}
use lib.Dec.{leb}
use lib.ListN.{length}
use borrow.Author.Tests.{leb-true, not-true}
use Rattle.words.specs.Choice.{check}
use Rattle.words.proofs.Checks.{none-failed}
use Rattle.words.proofs.Tests.{and_true_l, and_true_r}
use Rattle.program.specs.declared.case.Case.{Case}
use Rattle.store.specs.Lent.{Lent}
use Rattle.reader.specs.Operation.{tables_fit}
use Rattle.spelling.specs.Page.{some_long_line}
use Rattle.writing.specs.Operation.{writable, case_lines, case_text, write_refusal}

pub record Unrefused (c : Case) (t : Lent) : Type 0 where
  pub tables-fit : tables_fit t ≡ true
  pub can_write : writable c t ≡ true
  pub lines-short : some_long_line (case_lines c t) ≡ false
  pub text-short : length (case_text c t) ≤ 32768

-- the tests of the refusals, but for that of the room
abbrev lines_fit : Case → Lent → Bool
lines_fit c t = not (some_long_line (case_lines c t)) && leb (length (case_text c t)) 32768

tests_pass : (c : Case) (t : Lent) (n : ℕ) → write_refusal c t n ≡ 0
    → (tables_fit t ≡ true) × (writable c t ≡ true) × (lines_fit c t ≡ true)
unfolding write_refusal
tests_pass c t n h =
    let room = check 19 (leb (length (case_text c t)) n) ∷ [] in
    let p = none-failed (check 1 (tables_fit t) ∷ check 13 (writable c t) ∷ check 18 (lines_fit c t) ∷ room) refl h in
    (p.0, p.1.0, p.1.1.0)

pub unrefused : (c : Case) (t : Lent) (n : ℕ) → write_refusal c t n ≡ 0 → Unrefused c t
unrefused c t n h =
    let p = tests_pass c t n h in
    let lines = not (some_long_line (case_lines c t)) in
    let short = leb (length (case_text c t)) 32768 in
    record {
      tables-fit = p.0;
      can_write = p.1;
      lines-short = not-true (some_long_line (case_lines c t)) (and_true_l lines short p.2);
      text-short = leb-true (length (case_text c t)) 32768 (and_true_r lines short p.2);
    }
