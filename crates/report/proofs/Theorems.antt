-- What is claimed of reports is so. Assumes nothing.
use mathlib.Core.Path.{◌≡◌, refl, sym, ap, ◌∙◌}
use mathlib.Core.List.{List, map}
use Prim.Native.Nat.{ℕ}
use native.Mathlib.Omega.{arith}
use lib.ListN.{length, take}
use Rattle.words.specs.Lists.{list_of}
use Rattle.words.proofs.Lists.{list_of_ext, list_of-map, list_of_is}
use Rattle.logic.specs.Formula.{Formula}
use Rattle.logic.specs.Nodes.{formula_of}
use Rattle.program.specs.Case.{nodes_of}
use Rattle.explanation.specs.Judge.{Judge}
use Rattle.verdict.specs.declared.verdict.Verdict.TheVariants.{Unexplained}
use Rattle.verdict.specs.Walk.{verdict_of, verdicts_of, verdict_number}
use Rattle.verdict.proofs.Verdicts.{verdict_alike, verdicts_length, verdicts_at}
use Rattle.store.specs.Saying.{Said}
use Rattle.store.specs.Tables.{case_said}
use Rattle.report.specs.Report.{list_length, formula_table, causes_said, judge_in, minimals_of, totals_of, name_of}
use Rattle.report.specs.Report.{said_text, outcome_text}
use Rattle.report.specs.Claims.{report_limit, ReportFits, ReportCut, judge_on, verdict_on}
use Rattle.report.specs.Claims.{VerdictsOnQueries, OneQuery}
use Rattle.wording.proofs.Listings.{answer-one}
use Rattle.report.proofs.Accepted.{said-formulas, said-length}
use Rattle.report.proofs.FileTexts.{file-read, file-cut, file-length}

pub report_fits : ReportFits
report_fits f = file-length said_text f report_limit (omega arith) (λ st z e. said-length f st e)

pub report_cut : ReportCut
report_cut f k h = file-cut said_text f k h

verdicts_listed : (J : Judge) (l : List ℕ) → verdicts_of J l ≡ list_of J.queries (λ q. verdict_of J q l)
verdicts_listed J l =
    let n = verdicts_length J l in
    sym (list_of_is (verdicts_of J l) Unexplained _ (λ q k. sym (verdicts_at J l q (rw n at k))))
    ∙ ap (λ (m : ℕ). list_of m (λ q. verdict_of J q l)) n

-- query q of the formula table
abbrev query_of : Said → ℕ → Formula
query_of st q = formula_of (nodes_of (case_said st).nodes (formula_table st) q)

pub verdicts_on_queries : VerdictsOnQueries
verdicts_on_queries f st e =
    let n = length st.queries in
    let l = minimals_of st in
    verdicts_listed (judge_in st) l
    ∙ list_of_ext n _ _ (λ q k. verdict_alike (judge_in st) (judge_on st (query_of st q)) q 0 (λ s. refl) l)
    ∙ sym (list_of-map n (query_of st) (verdict_on st))
    ∙ ap (map (verdict_on st)) (said-formulas f st e)

pub one-query : OneQuery
unfolding said_text
one-query f st g h e q =
    file-read said_text f h
    ∙ ap (outcome_text said_text) e
    ∙ rw (verdicts_on_queries f st e, q)
    (answer-one (name_of st) (causes_said st) (verdict_number (verdict_on st g)) (totals_of st)
    (take list_length (minimals_of st)))
