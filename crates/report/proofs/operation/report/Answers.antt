-- `report` meets its contract: where reading refuses, the text is the refusal's, and otherwise the tables hold what the
-- file says, the question is answered, and the text is the answer's. Assumes nothing.
use Rattle.store.specs.Lent.{lent}
use Rattle.report.specs.Report.{said_text}
use Rattle.report.proofs.Reported.{accepted-held, read_refused-shown, read-accepted, read_is_ok, read-answered}
use Rattle.report.proofs.operation.report.Goals as goal

pub returns-in-Err : goal.returns-in-Err
returns-in-Err c =
    let t = c.read-found.new in
    let filled = lent t.clauses t.constraints t.formula t.names t.prices in
    read_refused-shown {u = filled} c.in-Err.ensures said_text c.from.ensures c.show_refusal.ensures

pub unwrap-a-requires : goal.unwrap-a-requires
unwrap-a-requires c =
    let t = c.read-found.new in
    let filled = lent t.clauses t.constraints t.formula t.names t.prices in
    read_is_ok {u = filled} c.in-Ok.ensures c.ask.ensures

pub invariant_of-words : goal.invariant_of-words
invariant_of-words c =
    let t = c.read-found.new in
    let filled = lent t.clauses t.constraints t.formula t.names t.prices in
    let h = accepted-held (read-accepted {u = filled} c.in-Ok.ensures) in
    record { few = h.2; held = h.3 }

pub causes_in-causes-requires : goal.causes_in-causes-requires
causes_in-causes-requires c =
    let t = c.read-found.new in
    let filled = lent t.clauses t.constraints t.formula t.names t.prices in
    let h = accepted-held (read-accepted {u = filled} c.in-Ok.ensures) in
    (h.0, h.1, c.heads.ensures)

pub shared_ref_as_front-answer : goal.shared_ref_as_front-answer
shared_ref_as_front-answer c =
    let t = c.read-found.new in
    let filled = lent t.clauses t.constraints t.formula t.names t.prices in
    let s = read-answered {u = filled} c.in-Ok.ensures c.ask.ensures c.causes_in-causes.ensures c.unwrap-a.ensures in
    s.queries_fit

pub show-requires : goal.show-requires
show-requires c =
    let t = c.read-found.new in
    let filled = lent t.clauses t.constraints t.formula t.names t.prices in
    let s = read-answered {u = filled} c.in-Ok.ensures c.ask.ensures c.causes_in-causes.ensures c.unwrap-a.ensures in
    (s.names_fit, s.text-fits)

pub returns : goal.returns
returns c =
    let t = c.read-found.new in
    let filled = lent t.clauses t.constraints t.formula t.names t.prices in
    let s = read-answered {u = filled} c.in-Ok.ensures c.ask.ensures c.causes_in-causes.ensures c.unwrap-a.ensures in
    rw s.text-is at c.show.ensures
