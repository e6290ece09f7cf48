-- What is claimed of tidied files is so. Assumes nothing.
use native.Mathlib.Omega.{arith}
use Rattle.store.specs.Tables.{case_said}
use Rattle.report.proofs.FileTexts.{file-cut, file-length}
use Rattle.tidying.specs.Text.{tables_said, longest_text, tidy_said}
use Rattle.tidying.specs.Claims.{TidyFits, TidyCut, TidyRefusals}
use Rattle.tidying.proofs.Written.{limit_refusal, written-length}
use Rattle.tidying.proofs.Writable.{said_fit, accepted-writable}

pub tidy_fits : TidyFits
unfolding tidy_said
tidy_fits f =
    file-length tidy_said f longest_text (omega arith) (λ st z e. written-length (case_said st) (tables_said st))

pub tidy_cut : TidyCut
tidy_cut f k h = file-cut tidy_said f k h

pub tidy_refusals : TidyRefusals
tidy_refusals f st e = limit_refusal (case_said st) (tables_said st) (said_fit st) (accepted-writable f st e)
