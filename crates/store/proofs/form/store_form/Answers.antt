-- `form::store_form` meets its contract: each arm by the law of its kind of line. Assumes nothing.
use mathlib.Core.Logic.{inl, inr}
use borrow.Author.Rules.{rules}
use Rattle.store.proofs.Stored.{clause-kind, head-onward, head-within, clause-room, constraint-room}
use Rattle.store.proofs.Stored.{skipped_stored, no_form_stored, clause_stored, constraint_stored}
use Rattle.store.proofs.Stored.{seen_stored, query-room, query_stored}
use Rattle.store.proofs.Stored.{name-onward, name-within, price-few, supplement-few, cost_stored}
use Rattle.store.proofs.Stored.{atom_stored, edition_stored}
use Rattle.store.proofs.form.store_form.Goals as goal

pub store_clause-requires : goal.store_clause-requires
store_clause-requires c = search (rules, clause-kind, head-onward, head-within, clause-room)

pub store_constraint-requires : goal.store_constraint-requires
store_constraint-requires c = search (rules, constraint-room)

pub store_query-requires : goal.store_query-requires
store_query-requires c = search (rules, query-room)

pub slice_bounds-atom_of-end : goal.slice_bounds-atom_of-end
slice_bounds-atom_of-end c = search (rules, name-onward, name-within)

pub price_of-requires : goal.price_of-requires
price_of-requires c = search (rules, price-few, supplement-few)

pub returns-in_default : goal.returns-in_default
returns-in_default c = search (rules, no_form_stored)

pub returns-in-Skipped : goal.returns-in-Skipped
returns-in-Skipped c =
    let s = c.requires.1 in
    let i = c.in-Some.is in
    elim c.in-Skipped.is [ inl e ↦ skipped_stored s i e | inr t ↦ atom_stored s i t.2 ]

pub returns-in-Clause : goal.returns-in-Clause
returns-in-Clause c = search (rules, clause_stored)

pub returns-in-Constraint : goal.returns-in-Constraint
returns-in-Constraint c = search (rules, constraint_stored)

pub returns-in-Seen : goal.returns-in-Seen
returns-in-Seen c = search (rules, seen_stored)

pub returns-in-Query : goal.returns-in-Query
returns-in-Query c = search (rules, query_stored)

pub returns-in-Cost : goal.returns-in-Cost
returns-in-Cost c = search (rules, cost_stored)

pub returns-in-Edition : goal.returns-in-Edition
returns-in-Edition c = search (rules, edition_stored)
