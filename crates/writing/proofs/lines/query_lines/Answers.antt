-- The goals of `lines::query_lines`: its loop keeps the invariant, and each way out gives what is promised.
-- Assumes nothing.
use native.Mathlib.Omega.{arith}
use Rattle.writing.proofs.Formulas.{lent_one, lent-room, lent_written}
use Rattle.writing.proofs.Growing.{list_grows, entry-start, entry-room, entry_more, entry-end}
use Rattle.writing.proofs.lines.query_lines.Goals as goal

pub loop-q-init : goal.loop-q-init
loop-q-init c = entry-start (list_grows _) _ _ _

pub overflow_add-end : goal.overflow_add-end
overflow_add-end c = omega (arith, (c.requires.3 c.loop-q.q (omega arith)).0)

pub slice_bounds-query_line-end : goal.slice_bounds-query_line-end
slice_bounds-query_line-end c = omega (arith, (c.requires.3 c.loop-q.q (omega arith)).0)

pub query_line-page-requires : goal.query_line-page-requires
query_line-page-requires c =
    let a = c.args in (
      c.requires.1,
      lent_one a.nodes.now a.formula.now c.loop-q.q (c.requires.3 c.loop-q.q (omega arith)).1,
      lent-room a.nodes.now a.formula.now c.loop-q.q a.names.now
          (entry-room (list_grows _) c.loop-q.invariant (omega arith) c.requires.4),
    )

pub loop-q-preserved : goal.loop-q-preserved
loop-q-preserved c =
    let a = c.args in
    entry_more (list_grows _) c.loop-q.invariant (omega arith)
    (lent_written a.nodes.now a.formula.now c.loop-q.q a.names.now c.query_line-page.ensures)

pub returns : goal.returns
returns c = entry-end (list_grows _) c.loop-q.invariant (omega arith)
