-- What was read is well formed: within the limits, over its names only, and of the listed shapes. Assumes nothing.
--
--   Rows P m l           at most m entries, and P holds of each
--   BitsBelow n p q      every bit of the two words names one of n atoms
--   NamesFormed ns       at most 64 names, which are names and differ
--   ClauseFormed n c     a clause over n atoms; ConstraintFormed and QueryFormed are alike
--   IsEdition e          there is an edition e
--   WellFormed st        what was read is well formed
use mathlib.Core.Path.{◌≡◌, refl}
use mathlib.Core.Bool.{true, false}
use mathlib.Core.List.{List, [], ◌∷◌, ◌++◌}
use Prim.Native.Nat.{ℕ, ◌^◌, ◌≤◌, ◌<◌}
use native.Mathlib.Nat.{lt_of_lt_of_le}
use native.Mathlib.Omega.{arith}
use lib.Pow.{pow_mono}
use lib.ListN.{length, length-append}
use Rattle.logic.specs.Formula.{Formula, depth, over}
use Rattle.logic.specs.Nodes.{nodes}
use Rattle.logic.specs.Claims.{Spells}
use Rattle.program.specs.Case.{part_size}
use Rattle.program.specs.Sound.{is_edition, bare, shaped}
use Rattle.names.specs.Names.{with_names}
use Rattle.names.proofs.Distinct.{Distinct}
use Rattle.text.proofs.Each.{Each, each_append, each_gives}
use Rattle.names.proofs.Adding.{distinct_none, with_names-length, with_names-distinct, with_names-each}
use Rattle.store.specs.Saying.{ClauseRow, ConstraintRow, Said, nothing_said, renamed}
use Rattle.store.proofs.Formulas.{over_mono}
use Rattle.checks.specs.Naming.{IsName}

-- Rows

pub record Rows {A : Type 0} (P : A → Type 0) (m : ℕ) (l : List A) : Type 0 where
  pub few : length l ≤ m
  pub each : Each P l

rows_none : {A : Type 0} (P : A → Type 0) (m : ℕ) → Rows P m []
rows_none P m = record { few = omega arith; each = tt }

module _ {A : Type 0} (P : A → Type 0) (m : ℕ) (l : List A) where
  pub rows_push : (x : A) → Rows P m l → length l < m → P x → Rows P m (l ++ (x ∷ []))
  rows_push x r h p =
      record { few = rw length-append (omega arith); each = each_append P l (x ∷ []) r.each (p, tt) }

  rows_give : (Q : A → Type 0) → ((x : A) → P x → Q x) → Rows P m l → Rows Q m l
  rows_give Q f r = record { few = r.few; each = each_gives P Q f l r.each }

-- The parts, over n atoms

pub record BitsBelow (n p q : ℕ) : Type 0 where
  pub plain-lt : p < 2 ^ n
  pub negated-lt : q < 2 ^ n

pub record NamesFormed (ns : List (List ℕ)) : Type 0 where
  pub rows : Rows IsName 64 ns
  pub distinct : Distinct ns

pub record ClauseFormed (n : ℕ) (c : ClauseRow) : Type 0 where
  pub head-lt : c.head < n
  pub below : BitsBelow n c.plain c.negated
  pub shape : shaped c.kind (bare c.plain c.negated) ≡ true

pub record ConstraintFormed (n : ℕ) (c : ConstraintRow) : Type 0 where
  pub below : BitsBelow n c.plain c.negated
  pub some : bare c.plain c.negated ≡ false
  pub kind-lt : c.kind < 2

pub record QueryFormed (n : ℕ) (f : Formula) : Type 0 where
  pub over-atoms : over n f ≡ true
  pub not_deep : depth f ≤ 16
  pub nodes-few : length (nodes f) ≤ part_size

abbrev pub IsEdition : ℕ → Type 0
IsEdition e = is_edition e ≡ true

-- and so its nodes are exactly one formula
pub query-spells : {n : ℕ} {f : Formula} → QueryFormed n f → Spells n (nodes f) f
query-spells r = record { nodes_are = refl; over-atoms = r.over-atoms; not_deep = r.not_deep }

-- All of it

pub record WellFormed (st : Said) : Type 0 where
  pub names : NamesFormed st.names
  pub clauses : Rows (ClauseFormed (length st.names)) 256 st.clauses
  pub constraints : Rows (ConstraintFormed (length st.names)) 32 st.constraints
  pub observed : BitsBelow (length st.names) st.plain st.negated
  pub queries : Rows (QueryFormed (length st.names)) 16 st.queries
  pub editions : Rows IsEdition 1 st.editions

-- by its parts
pub well_formed : {st : Said} → NamesFormed st.names → Rows (ClauseFormed (length st.names)) 256 st.clauses
    → Rows (ConstraintFormed (length st.names)) 32 st.constraints
    → BitsBelow (length st.names) st.plain st.negated
    → Rows (QueryFormed (length st.names)) 16 st.queries → Rows IsEdition 1 st.editions → WellFormed st
well_formed ns cs ds o fs es =
    record { names = ns; clauses = cs; constraints = ds; observed = o; queries = fs; editions = es }

pub nothing-formed : WellFormed nothing_said
nothing-formed =
    well_formed (record { rows = rows_none IsName 64; distinct = distinct_none }) (rows_none _ 256)
    (rows_none _ 32) (record { plain-lt = omega arith; negated-lt = omega arith }) (rows_none _ 16) (rows_none _ 1)

-- More names

module _ (m n : ℕ) (h : m ≤ n) where
  below_mono : (p q : ℕ) → BitsBelow m p q → BitsBelow n p q
  below_mono p q b = record {
    plain-lt = lt_of_lt_of_le b.plain-lt (pow_mono h);
    negated-lt = lt_of_lt_of_le b.negated-lt (pow_mono h);
  }

  clause_mono : (c : ClauseRow) → ClauseFormed m c → ClauseFormed n c
  clause_mono c r = record { head-lt = omega (arith, r.head-lt); below = below_mono _ _ r.below; shape = r.shape }

  constraint_mono : (c : ConstraintRow) → ConstraintFormed m c → ConstraintFormed n c
  constraint_mono c r = record { below = below_mono _ _ r.below; some = r.some; kind-lt = r.kind-lt }

  query_mono : (f : Formula) → QueryFormed m f → QueryFormed n f
  query_mono f r =
      record { over-atoms = over_mono m n h f r.over-atoms; not_deep = r.not_deep; nodes-few = r.nodes-few }

names-formed : (ns ws : List (List ℕ)) → NamesFormed ns → Each IsName ws → length (with_names ns ws) ≤ 64
    → NamesFormed (with_names ns ws)
names-formed ns ws r k few = record {
  rows = record { few = few; each = with_names-each IsName ns ws r.rows.each k };
  distinct = with_names-distinct ns ws r.distinct;
}

pub renamed-formed : (st : Said) (ws : List (List ℕ)) → WellFormed st → Each IsName ws
    → length (with_names st.names ws) ≤ 64 → WellFormed (renamed (with_names st.names ws) st)
renamed-formed st ws r k few =
    let h = with_names-length st.names ws in
    well_formed (names-formed st.names ws r.names k few)
    (rows_give _ 256 st.clauses _ (clause_mono _ _ h) r.clauses)
    (rows_give _ 32 st.constraints _ (constraint_mono _ _ h) r.constraints)
    (below_mono _ _ h _ _ r.observed) (rows_give _ 16 st.queries _ (query_mono _ _ h) r.queries)
    r.editions
