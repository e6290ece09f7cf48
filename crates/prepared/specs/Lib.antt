-- In reading order.
-- Dependents: the heads of the clauses that name an atom, and the heads that a changed atom touches.
-- Opening: the first round, with nothing added and with a set's additions.
-- Chains: the rules of a head from the last to the first, and what they are worth.
-- Prepared: all that is prepared once a case.
pub mod Dependents
pub mod Opening
pub mod Chains
pub mod Prepared
