-- The prices of an accepted file are at most 2,000,000. Assumes nothing.
use mathlib.Core.Path.{◌≡◌, sym, ap, ◌∙◌}
use mathlib.Core.Bool.{Bool, true, false}
use mathlib.Core.List.{List, [], ◌∷◌}
use Prim.Native.Nat.{ℕ, ◌≤◌, ◌<◌}
use native.Mathlib.Omega.{arith}
use lib.Dec.{eqb}
use lib.ListN.{get_or}
use Rattle.words.specs.Choice.{pick}
use Rattle.words.proofs.Tests.{by_test}
use Rattle.program.specs.Case.{price_size}
use Rattle.text.specs.Lines.{lines, is_comment}
use Rattle.text.specs.Tokens.{tokens}
use Rattle.text.proofs.Each.{Each, each_append}
use Rattle.table.specs.Filled.{padded}
use Rattle.table.proofs.Filled.{filled-exact, padded-length}
use Rattle.grammar.specs.Line.{Line}
use Rattle.grammar.specs.Bringing.{brings}
use Rattle.grammar.specs.LineOf.{line_of}
use Rattle.store.specs.Prices.{CostRow, price_of, price_in, prices_of}
use Rattle.store.specs.Saying.{Said, nothing_said, said_by}
use Rattle.store.proofs.Prices.{price-at}
use Rattle.checks.specs.Checks.{named_with, line_refusal, said_after}
use Rattle.checks.proofs.Passing.{line-passes}
use Rattle.checks.proofs.After.{after_comment, after_line}
use Rattle.reader.specs.Reading.{Outcome, read_file}
use Rattle.reader.specs.Claims.{said_through, all_pass}
use Rattle.reader.proofs.FirstBad.{first_passes, accepted_through}
use Rattle.report.specs.Report.{price_table}

abbrev Low : CostRow → Type 0
Low r = r.price ≤ 2000000

abbrev AllLow : Said → Type 0
AllLow st = Each Low st.costs

-- A line more, whose price worked out is not too high

said-low : (st : Said) (y : Line) → AllLow st → price_of (brings y).price (brings y).supplement ≤ 2000000
    → AllLow (said_by st y)
unfolding said_by
said-low st Line.skipped r h = r
said-low st Line.no_form r h = r
said-low st (Line.clause k w l) r h = r
said-low st (Line.constraint k l) r h = r
said-low st (Line.seen x) r h = r
said-low st (Line.query f) r h = r
said-low st (Line.cost w p s) r h = each_append Low st.costs _ r (h, tt)
said-low st (Line.atom w) r h = r
said-low st (Line.edition e) r h = r

line_low : (st : Said) (l : List ℕ) → AllLow st → line_refusal st l ≡ 0 → AllLow (said_after st l)
line_low st l r e =
    by_test (is_comment l) (λ c. rw (after_comment st l c) r)
    (λ c.
    let p = line-passes st l e c in
    rw (after_line st l c) (said-low (named_with st (tokens l)) (line_of (tokens l)) r p.1.room.worked_out_few))

through_low : (ls : List (List ℕ)) (st : Said) → AllLow st → all_pass ls st ≡ true → AllLow (said_through ls st)
unfolding said_through
through_low [] st r h = r
through_low (l ∷ ls) st r h =
    let p = first_passes l ls st h in
    through_low ls (said_after st l) (line_low st l r p.0) p.1

accepted-low : (f : List ℕ) (st : Said) → read_file f ≡ Outcome.case st → AllLow st
accepted-low f st e =
    let a = accepted_through f st e in
    rw a.2 at (through_low (lines f) nothing_said tt a.0)

-- The table

pick_low : (b : Bool) {x y : ℕ} → x ≤ 2000000 → y ≤ 2000000 → pick b x y ≤ 2000000
pick_low true h k = h
pick_low false h k = k

price_in-low : (cs : List CostRow) (a : ℕ) → Each Low cs → price_in cs a ≤ 2000000
unfolding price_in
price_in-low [] a h = omega arith
price_in-low (r ∷ cs) a h = pick_low (eqb r.atom a) h.0 (price_in-low cs a h.1)

price-of : (st : Said) (a : ℕ) → a < price_size → get_or (price_table st) a 0 ≡ price_in st.costs a
price-of st a h =
    let cs = st.costs in
    let zeros = padded price_size [] in
    let room = padded-length price_size [] in
    ap (λ (l : List ℕ). get_or l a 0) (sym (filled-exact price_size (prices_of cs) zeros room))
    ∙ price-at cs zeros (omega arith) a h

pub accepted-price : (f : List ℕ) (st : Said) → read_file f ≡ Outcome.case st → (a : ℕ) → a < price_size
    → get_or (price_table st) a 0 ≤ 2000000
accepted-price f st e a h = rw (price-of st a h) (price_in-low st.costs a (accepted-low f st e))
