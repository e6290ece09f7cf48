-- What is claimed of causes, settings and sound cases beyond the functions' contracts. Proved in proofs/Theorems.antt.
-- From: document 01, "Causes, settings, explanations" ("With k causes in atom order, setting s is 0 to 3^k − 1");
-- document 02, [5] ("0 never, 1 avoid, any other unsound"), [10] ("an atom whose clauses, one or more, are all
-- assumptions is a cause too", "`(edition 1)` or no line leaves it off").
--
--   CausesCounted, SettingsPower    how many causes and settings there are
--   EditionOne                      edition 1: no cause has two choices
--   TwofoldExact                    edition 2: which causes have two choices
--   TwoKinds                        which kinds of constraints there are
use Rattle.std.specs.Prelude.{◌≡◌, true, List, ℕ, ◌^◌, ◌<◌, length}
use Rattle.std.specs.Int.Count.{ones}
use Rattle.program.specs.declared.case.Case.{Case}
use Rattle.words.specs.Bits.{has}
use Rattle.program.specs.Case.{constraint_kind, head_at, kind_at}
use Rattle.program.specs.Program.{heads_of}
use Rattle.program.specs.Cause.{causes_among, causes_by, causes_of, atoms_in}
use Rattle.program.specs.Setting.{settings_of}
use Rattle.program.specs.Sound.{sound}

-- the causes in a word are as many as its ones
abbrev pub CausesCounted : Type 0
CausesCounted = (w : ℕ) → w < 2 ^ 64 → length (atoms_in w) ≡ ones w

-- with k causes of three choices there are 3 ^ k settings
abbrev pub SettingsPower : Type 0
SettingsPower = (w : ℕ) → w < 2 ^ 64 → settings_of (causes_by 0 w) ≡ 3 ^ ones w

-- the causes of a case of edition 1 are the atoms without clauses, each of three choices
abbrev pub EditionOne : Type 0
EditionOne = (c : Case) (cl : List ℕ) → c.edition ≡ 1
    → causes_of c cl ≡ causes_by 0 (causes_among c.atoms (heads_of cl c.clauses))

-- clause k has the head a
abbrev pub HeadedBy : List ℕ → ℕ → ℕ → Type 0
HeadedBy cl k a = a ≡ head_at cl k

-- an atom of a case of edition 2 is a cause of two choices exactly where it heads a clause, and each that it heads is
-- an assumption
pub record TwofoldExact : Type 0 where
  pub some : (c : Case) (cl : List ℕ) → c.edition ≡ 2 → (a : ℕ) → a < 64 → has (causes_of c cl).twofold a ≡ true
      → (k : ℕ) × (k < c.clauses) × HeadedBy cl k a
  pub all : (c : Case) (cl : List ℕ) → c.edition ≡ 2 → (a : ℕ) → a < 64 → has (causes_of c cl).twofold a ≡ true
      → (k : ℕ) → k < c.clauses → HeadedBy cl k a → kind_at cl k ≡ 1
  pub only : (c : Case) (cl : List ℕ) → c.edition ≡ 2 → (a : ℕ) → a < 64 → (k : ℕ) → k < c.clauses → HeadedBy cl k a
      → ((j : ℕ) → j < c.clauses → HeadedBy cl j a → kind_at cl j ≡ 1) → has (causes_of c cl).twofold a ≡ true

-- each constraint of a sound case is of one of the two kinds
abbrev pub TwoKinds : Type 0
TwoKinds = (c : Case) (cl co fo : List ℕ) → sound c cl co fo ≡ true → (k : ℕ) → k < c.constraints
    → constraint_kind co k < 2
