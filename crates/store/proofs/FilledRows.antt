-- The rows of tables that are filled with clauses, constraints and queries.
--
--   no_row, no_constraint   a row of zeros
--   ClauseIs ..             the three words of clause k of a table are a row's; ConstraintIs is alike
-- Assumes nothing.
use mathlib.Core.Path.{◌≡◌, refl, ◌∙◌}
use mathlib.Core.List.{List, [], ◌∷◌}
use Prim.Native.Nat.{ℕ, zero, suc, ◌+◌, ◌*◌, ◌≤◌, ◌<◌}
use native.Mathlib.Nat.{not-suc-le-zero, le_of_suc-le-suc}
use native.Mathlib.Omega.{arith}
use lib.ListN.{length, take, drop, get_or, length-drop}
use lib.Seq.{ext_get_or, get_or-take, get_or-drop, length-take-le}
use Rattle.logic.specs.Formula.{Formula}
use Rattle.logic.specs.Nodes.{nodes}
use Rattle.program.specs.Case.{clause_size, constraint_size, formula_size, part_size, plain_at, negated_at, forbidden}
use Rattle.program.specs.Case.{forbidden_not, constraint_kind, nodes_of}
use Rattle.table.specs.Filled.{filled, padded}
use Rattle.table.proofs.Filled.{filled-length, padded-at}
use Rattle.table.proofs.Rows.{filled-row-at}
use Rattle.store.specs.Saying.{ClauseRow, ConstraintRow}
use Rattle.store.specs.Tables.{clause_words, constraint_words, formula_parts, node_counts}
use Rattle.store.proofs.Rows.{clause_row_words, constraint_row_words, clause-rows, constraint-rows, formula-rows}

abbrev pub no_row : ClauseRow
no_row = record { head = 0; kind = 0; plain = 0; negated = 0 }

abbrev pub no_constraint : ConstraintRow
no_constraint = record { plain = 0; negated = 0; kind = 0 }

-- Clauses

pub record ClauseIs (cl : List ℕ) (k : ℕ) (r : ClauseRow) : Type 0 where
  pub first-is : get_or cl (3 * k) 0 ≡ r.head + 64 * r.kind
  pub plain-is : plain_at cl k ≡ r.plain
  pub negated-is : negated_at cl k ≡ r.negated

module _ (cs : List ClauseRow) (old : List ℕ) (long : clause_size ≤ length old) (few : length cs ≤ 256) where
  abbrev cl : List ℕ
  cl = filled clause_size (clause_words cs) old

  clause-word : (k j i : ℕ) → k < length cs → j < 3 → i ≡ 3 * k + j
      → get_or cl i 0 ≡ get_or (clause_row_words (get_or cs k no_row)) j 0
  clause-word k j i l m e = filled-row-at clause-rows clause_size no_row cs old k j i long (omega arith) l m e

  pub clause-is : (k : ℕ) → k < length cs → ClauseIs cl k (get_or cs k no_row)
  clause-is k l = record {
    first-is = clause-word k 0 _ l (omega arith) (omega arith);
    plain-is = clause-word k 1 _ l (omega arith) (omega arith);
    negated-is = clause-word k 2 _ l (omega arith) (omega arith);
  }

-- Constraints

pub record ConstraintIs (co : List ℕ) (k : ℕ) (r : ConstraintRow) : Type 0 where
  pub plain-is : forbidden co k ≡ r.plain
  pub negated-is : forbidden_not co k ≡ r.negated
  pub kind-is : constraint_kind co k ≡ r.kind

module _ (cs : List ConstraintRow) (old : List ℕ) (long : constraint_size ≤ length old) (few : length cs ≤ 32) where
  abbrev co : List ℕ
  co = filled constraint_size (constraint_words cs) old

  constraint-word : (k j i : ℕ) → k < length cs → j < 3 → i ≡ 3 * k + j
      → get_or co i 0 ≡ get_or (constraint_row_words (get_or cs k no_constraint)) j 0
  constraint-word k j i l m e =
      filled-row-at constraint-rows constraint_size no_constraint cs old k j i long (omega arith) l m e

  pub constraint-is : (k : ℕ) → k < length cs → ConstraintIs co k (get_or cs k no_constraint)
  constraint-is k l = record {
    plain-is = constraint-word k 0 _ l (omega arith) (omega arith);
    negated-is = constraint-word k 1 _ l (omega arith) (omega arith);
    kind-is = constraint-word k 2 _ l (omega arith) (omega arith);
  }

-- Queries

count_at : (fs : List Formula) (q : ℕ) → q < length fs
    → get_or (node_counts fs) q 0 ≡ length (nodes (get_or fs q Formula.truth))
count_at [] q h = absurd (not-suc-le-zero h)
count_at (f ∷ fs) zero h = refl
count_at (f ∷ fs) (suc q) h = count_at fs q (le_of_suc-le-suc h)

-- query q of a list, which fits a part
module _ (fs : List Formula) (few : length fs ≤ 16) (q : ℕ) (l : q < length fs) where
  abbrev xs : List ℕ
  xs = nodes (get_or fs q Formula.truth)

  pub count-is : get_or (padded 16 (node_counts fs)) q 0 ≡ length xs
  count-is = padded-at 16 (node_counts fs) q (omega arith) ∙ count_at fs q l

  module _ (old : List ℕ) (long : formula_size ≤ length old) where
    abbrev part : List ℕ
    part = drop (part_size * q) (filled formula_size (formula_parts fs) old)

    node-is : (j : ℕ) → j < part_size → get_or part j 0 ≡ get_or xs j 0
    node-is j m =
        get_or-drop (part_size * q) _ j 0
        ∙ filled-row-at formula-rows formula_size Formula.truth fs old q j _ long (omega arith) l m refl
        ∙ padded-at part_size xs j m

    pub formula-is : length xs ≤ part_size
        → nodes_of (padded 16 (node_counts fs)) (filled formula_size (formula_parts fs) old) q ≡ xs
    unfolding nodes_of
    formula-is small =
        let n : length (take (length xs) part) ≡ length xs =
        length-take-le (length xs) part (rw (length-drop, filled-length) (omega arith)) in
        rw count-is
        (ext_get_or 0 _ xs n (λ j h. get_or-take (length xs) part j 0 (omega arith) ∙ node-is j (omega arith)))
