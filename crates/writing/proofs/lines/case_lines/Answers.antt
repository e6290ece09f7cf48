-- `lines::case_lines` meets its contract: the lines of each kind behind those of the kinds before it.
-- Assumes nothing.
use Rattle.store.specs.LentTables.{lent_of}
use Rattle.writing.proofs.Fitting.{fit_atoms, fit_names, fit_prices, fit_formula, fit_clauses, fit_kinds}
use Rattle.writing.proofs.Fitting.{fit_constraints, fit_bars, fit_queries}
use Rattle.writing.proofs.CaseTexts.{case-start, case-room_for, case-room-last, case-end}
use Rattle.writing.proofs.CaseTexts.{behind-atom, behind-edition, behind-clause, behind-constraint, behind-seen}
use Rattle.writing.proofs.CaseTexts.{behind-negated, behind-query}
use Rattle.writing.proofs.lines.case_lines.Goals as goal

pub invariant_of-clauses : goal.invariant_of-clauses
invariant_of-clauses c =
    let fit = fit_clauses c.args.c (lent_of c.args.t) c.requires.0 in
    record { few = fit.0; held = fit.1 }

pub atom_lines-named-requires : goal.atom_lines-named-requires
atom_lines-named-requires c =
    let x = c.args.c in
    let t = lent_of c.args.t in
    let left = case-start x t c.args.out.now in
    (fit_atoms x t c.requires.0, fit_names x t c.requires.0, case-room_for x t _ _ left c.requires.1)

pub edition_lines-edited-requires : goal.edition_lines-edited-requires
edition_lines-edited-requires c =
    let x = c.args.c in
    let t = lent_of c.args.t in
    let left = behind-atom x t c.atom_lines-named.ensures in
    case-room_for x t _ _ left c.requires.1

pub clause_lines-ruled-requires : goal.clause_lines-ruled-requires
clause_lines-ruled-requires c =
    let x = c.args.c in
    let t = lent_of c.args.t in
    let left = behind-edition x t c.atom_lines-named.ensures c.edition_lines-edited.ensures in
    (fit_names x t c.requires.0, fit_kinds x t c.requires.0, case-room_for x t _ _ left c.requires.1)

pub constraint_lines-bounded-requires : goal.constraint_lines-bounded-requires
constraint_lines-bounded-requires c =
    let x = c.args.c in
    let t = lent_of c.args.t in
    let few = fit_constraints x t c.requires.0 in
    let left = behind-clause x t c.atom_lines-named.ensures c.edition_lines-edited.ensures
    c.clause_lines-ruled.ensures in
    (few.0, fit_names x t c.requires.0, few.1, fit_bars x t c.requires.0, case-room_for x t _ _ left c.requires.1)

pub seen_lines-seen-requires : goal.seen_lines-seen-requires
seen_lines-seen-requires c =
    let x = c.args.c in
    let t = lent_of c.args.t in
    let left = behind-constraint x t c.atom_lines-named.ensures c.edition_lines-edited.ensures
    c.clause_lines-ruled.ensures
    c.constraint_lines-bounded.ensures in
    (fit_names x t c.requires.0, case-room_for x t _ _ left c.requires.1)

pub seen_lines-observed-requires : goal.seen_lines-observed-requires
seen_lines-observed-requires c =
    let x = c.args.c in
    let t = lent_of c.args.t in
    let left = behind-seen x t c.atom_lines-named.ensures c.edition_lines-edited.ensures c.clause_lines-ruled.ensures
    c.constraint_lines-bounded.ensures c.seen_lines-seen.ensures in
    (fit_names x t c.requires.0, case-room_for x t _ _ left c.requires.1)

pub query_lines-asked-requires : goal.query_lines-asked-requires
query_lines-asked-requires c =
    let x = c.args.c in
    let t = lent_of c.args.t in
    let few = fit_queries x t c.requires.0 in
    let left = behind-negated x t c.atom_lines-named.ensures c.edition_lines-edited.ensures c.clause_lines-ruled.ensures
    c.constraint_lines-bounded.ensures c.seen_lines-seen.ensures c.seen_lines-observed.ensures in
    (few.0, fit_names x t c.requires.0, fit_formula x t c.requires.0, few.1, case-room_for x t _ _ left c.requires.1)

pub cost_lines-requires : goal.cost_lines-requires
cost_lines-requires c =
    let x = c.args.c in
    let t = lent_of c.args.t in
    let left = behind-query x t c.atom_lines-named.ensures c.edition_lines-edited.ensures c.clause_lines-ruled.ensures
    c.constraint_lines-bounded.ensures c.seen_lines-seen.ensures c.seen_lines-observed.ensures
    c.query_lines-asked.ensures in (
      fit_atoms x t c.requires.0,
      fit_names x t c.requires.0,
      fit_prices x t c.requires.0,
      case-room-last x t left c.requires.1,
    )

pub returns : goal.returns
returns c =
    let x = c.args.c in
    let t = lent_of c.args.t in
    let left = behind-query x t c.atom_lines-named.ensures c.edition_lines-edited.ensures c.clause_lines-ruled.ensures
    c.constraint_lines-bounded.ensures c.seen_lines-seen.ensures c.seen_lines-observed.ensures
    c.query_lines-asked.ensures in
    case-end x t left c.cost_lines.ensures
