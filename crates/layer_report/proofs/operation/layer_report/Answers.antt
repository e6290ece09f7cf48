-- `layer_report` meets its contract: where reading refuses, the text is the refusal's, and otherwise the tables hold
-- what the file says, and the text is that of what *layers* answers. Assumes nothing.
use Rattle.store.specs.Lent.{lent}
use Rattle.report.proofs.Reported.{none_full, read-refused, read-accepted}
use Rattle.layer_report.proofs.Answers.{refused_reported, layers_is_ok, accepted_shows}
use Rattle.layer_report.proofs.operation.layer_report.Goals as goal

pub returns-in-Err : goal.returns-in-Err
returns-in-Err c =
    let t = c.read-found.new in
    let filled = lent t.clauses t.constraints t.formula t.names t.prices in
    let no = read-refused {u = filled} c.in-Err.ensures in
    refused_reported {u = filled} none_full c.in-Err.ensures no (rw c.from.ensures at c.show_refusal.ensures)

pub unwrap-requires : goal.unwrap-requires
unwrap-requires c =
    let t = c.read-found.new in
    let filled = lent t.clauses t.constraints t.formula t.names t.prices in
    layers_is_ok (read-accepted {u = filled} c.in-Ok.ensures) _ c.layers.ensures

pub show-requires : goal.show-requires
show-requires c =
    let t = c.read-found.new in
    let filled = lent t.clauses t.constraints t.formula t.names t.prices in
    (accepted_shows (read-accepted {u = filled} c.in-Ok.ensures) c.layers.ensures c.unwrap.ensures).told

pub returns : goal.returns
returns c =
    let t = c.read-found.new in
    let filled = lent t.clauses t.constraints t.formula t.names t.prices in
    record {
      text = _;
      text_of = (accepted_shows (read-accepted {u = filled} c.in-Ok.ensures) c.layers.ensures c.unwrap.ensures).text_of;
      shown = c.show.ensures;
    }
