-- `chain::fill` meets its contract: the tables keep their sizes and hold the chains of the clauses passed.
-- Assumes nothing.
use mathlib.Core.Path.{◌≡◌}
use lib.ListN.{length}
use Rattle.prepared.specs.Chains.{Lasts, Linked}
use Rattle.prepared.proofs.chain.fill.Given as goal

abbrev pub invariant-loop-k : goal.invariant-loop-k
invariant-loop-k l =
    (length l.last ≡ 64) × (length l.prev ≡ 256) × Lasts l.clauses.words.now l.k l.last
    × Linked l.clauses.words.now l.k l.prev
