-- The lines of a load: a case file that follows from a seed, n atoms and c clauses.
-- From: document 02, [11] ("Names are `a0` to `a` and n − 1, declared first by `atom` lines. For each clause: head,
-- draw mod n; kind, draw mod 8, where 0 is a fact and 1 an assumption; others are rules with 1 + draw mod 3 literals in
-- the order drawn, each an atom, draw mod n, negated if a further draw is odd. The last line is `(query a0)`").
--
--   load_name a            the name of atom a
--   literal_drawn n s      the literal that is drawn from the state s, by two draws
--   literals_drawn n s k   k literals that are drawn one after the other from the state s on
--   is_rule s              the clause that is drawn from the state s is a rule
--   clause_drawn n s       that clause, with kind_drawn s its kind and literal_count s the number of its literals
--   draw_count s           how many draws it takes
--   clauses_drawn n s c    c clauses that are drawn one after the other from the state s on
--   load_lines s n c       the lines of the load with the seed s, n atoms and c clauses; load_text s n c its text
use Rattle.std.specs.Prelude.{Bool, List, [], ◌∷◌, ◌++◌, map, ℕ, zero, suc, ◌+◌, ◌*◌, ◌%◌, eqb, leb}
use Rattle.words.specs.Choice.{pick}
use Rattle.words.specs.Lists.{list_of}
use Rattle.text.specs.Bytes.{bytes}
use Rattle.text.specs.Spelled.{text_of}
use Rattle.formulas.specs.Sentence.{Sentence}
use Rattle.grammar.specs.Line.{Line, Literal}
use Rattle.output.specs.Decimal.{decimal}
use Rattle.writing.specs.Lines.{line_text}
use Rattle.loading.specs.Draws.{state_after, draw}

abbrev pub load_name : ℕ → List ℕ
load_name a = bytes "a" ++ decimal a

-- the atom by the first draw, its sign by the second
abbrev pub literal_drawn : ℕ → ℕ → Literal
literal_drawn n s = Literal.literal (eqb (draw 2 s % 2) 1) (load_name (draw 1 s % n))

unfoldable pub literals_drawn : ℕ → ℕ → ℕ → List Literal
literals_drawn n s zero = []
literals_drawn n s (suc k) = literal_drawn n s ∷ literals_drawn n (state_after 2 s) k

abbrev pub is_rule : ℕ → Bool
is_rule s = leb 2 (draw 2 s % 8)

-- 0 a fact, 1 an assumption, 2 a rule
unfoldable pub kind_drawn : ℕ → ℕ
kind_drawn s = pick (is_rule s) 2 (draw 2 s % 8)

unfoldable pub literal_count : ℕ → ℕ
literal_count s = pick (is_rule s) (1 + draw 3 s % 3) 0

-- the head by the first draw, the kind by the second, the number of a rule's literals by the third, and these behind it
abbrev pub clause_drawn : ℕ → ℕ → Line
clause_drawn n s =
    Line.clause (kind_drawn s) (load_name (draw 1 s % n)) (literals_drawn n (state_after 3 s) (literal_count s))

unfoldable pub draw_count : ℕ → ℕ
draw_count s = pick (is_rule s) (3 + 2 * literal_count s) 2

unfoldable pub clauses_drawn : ℕ → ℕ → ℕ → List Line
clauses_drawn n s zero = []
clauses_drawn n s (suc c) = clause_drawn n s ∷ clauses_drawn n (state_after (draw_count s) s) c

-- those that name the n atoms
abbrev pub atom_lines : ℕ → List Line
atom_lines n = list_of n (λ a. Line.atom (load_name a))

-- the last one
abbrev pub query_of_first : Line
query_of_first = Line.query (Sentence.name (load_name 0))

abbrev pub load_lines : ℕ → ℕ → ℕ → List Line
load_lines s n c = atom_lines n ++ (clauses_drawn n s c ++ (query_of_first ∷ []))

abbrev pub load_text : ℕ → ℕ → ℕ → List ℕ
load_text s n c = text_of (map line_text (load_lines s n c))
