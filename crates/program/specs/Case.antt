-- The lent tables of a case.
-- From: document 01, "Case tables and sound cases"; document 02, [5] (a third word for each constraint), [7] (prices).
--
--   clause_size, ..            the sizes of the lent tables, names and prices among them
--   part_size                  the size of one formula's part of the formula table
--   tables_full cl co fo       clauses, constraints and formula have their full sizes
--   head_at, kind_at           head and kind of clause k: its first word is head + 64 × kind
--   plain_at, negated_at       the plain and the negated atoms of clause k
--   forbidden, forbidden_not   the plain and the negated atoms of the body of constraint k
--   constraint_kind            the kind of constraint k: 0 never, 1 avoid
--   nodes_of ns fo q           the nodes of formula q: the first in part q of the formula table, as many as ns says
use Rattle.std.specs.Prelude.{Bool, ◌&&◌, List, ℕ, ◌+◌, ◌*◌, ◌/◌, ◌%◌, leb, length, get_or, take, drop}

-- the sizes of the lent tables: words of clauses and of constraints, bytes of the formulas and of the names, prices
abbrev pub clause_size : ℕ
clause_size = 768

abbrev pub constraint_size : ℕ
constraint_size = 96

abbrev pub formula_size : ℕ
formula_size = 2048

abbrev pub name_size : ℕ
name_size = 1024

abbrev pub price_size : ℕ
price_size = 64

-- 16 parts of 128 bytes
abbrev pub part_size : ℕ
part_size = 128

unfoldable pub tables_full : List ℕ → List ℕ → List ℕ → Bool
tables_full cl co fo = leb clause_size (length cl) && leb constraint_size (length co) && leb formula_size (length fo)

abbrev pub head_at : List ℕ → ℕ → ℕ
head_at cl k = get_or cl (3 * k) 0 % 64

abbrev pub kind_at : List ℕ → ℕ → ℕ
kind_at cl k = get_or cl (3 * k) 0 / 64

abbrev pub plain_at : List ℕ → ℕ → ℕ
plain_at cl k = get_or cl (3 * k + 1) 0

abbrev pub negated_at : List ℕ → ℕ → ℕ
negated_at cl k = get_or cl (3 * k + 2) 0

abbrev pub forbidden : List ℕ → ℕ → ℕ
forbidden co k = get_or co (3 * k) 0

abbrev pub forbidden_not : List ℕ → ℕ → ℕ
forbidden_not co k = get_or co (3 * k + 1) 0

abbrev pub constraint_kind : List ℕ → ℕ → ℕ
constraint_kind co k = get_or co (3 * k + 2) 0

-- ns has the node count of each formula
unfoldable pub nodes_of : List ℕ → List ℕ → ℕ → List ℕ
nodes_of ns fo q = take (get_or ns q 0) (drop (part_size * q) fo)
