-- The checks of a line, each over the whole line and what was read before it; the first that fails decides.
-- From: document 01, "What each operation refuses", 3 to 10; document 02, [1], [2], [7] (16 and 17, "both checked after
-- 9 and before 10"), [8] ("16 now means P or the price worked out over 2,000,000, or S over 100"), [9] (20,
-- "checked after 7 and before 8"), [10] ("21 when a second edition line comes, checked after 10").
--
--   look_checks l        the checks 3 to 5 of the line l, which need nothing of what was read
--   look_refusal l       the number of the first of them that fails, 0 where all pass
--   said_with st ts      st with the names of the tokens ts, in order of first appearance, and with what their line
--                        says
--   price_fits p s       the price p, the price worked out with the supplement s, and s are not too high
--   text_checks ws b     the checks 6, 7 and 20 of a line with the names ws that brings b
--   room_checks ..       the checks from 8 to 10, by how many names there are with the line, by what there is before
--                        it, and by whether it is a second cost
--   edition_checks n b   the check 21, by the number n of edition lines before it
--   form_checks st ts    the checks from 6 on of the tokens ts behind st; form_refusal st ts as look_refusal l
--   line_refusal st l    the number of the first check that the line l fails behind st, 0 where it passes all
--   said_after st l      what was read with the line l, which passes its checks; a comment says nothing
use Rattle.std.specs.Prelude.{Bool, not, ◌&&◌, List, [], ◌∷◌, ◌++◌, ℕ, ◌+◌, leb, length}
use Rattle.words.specs.Choice.{pick, first_of, Check, check, first_failed}
use Rattle.text.specs.Bytes.{is_allowed, all_of}
use Rattle.text.specs.Lines.{is_comment}
use Rattle.text.specs.Tokens.{Token, tokens}
use Rattle.grammar.specs.declared.brings.Brings.{Brings}
use Rattle.grammar.specs.Line.{is_line}
use Rattle.grammar.specs.Bringing.{brings}
use Rattle.grammar.specs.LineOf.{line_of}
use Rattle.text.specs.Words.{names_in}
use Rattle.names.specs.Names.{some_long, with_names}
use Rattle.store.specs.Prices.{price_of}
use Rattle.store.specs.Saying.{Said, renamed, said_by, is_second_cost}

-- none on a comment; on other lines 3 over 200 bytes, 4 a byte that may not stand in a line, 5 no form
abbrev pub look_checks : List ℕ → List Check
look_checks l =
    pick (is_comment l) []
    (check 3 (leb (length l) 200) ∷ check 4 (all_of is_allowed l) ∷ check 5 (is_line (line_of (tokens l))) ∷ [])

unfoldable pub look_refusal : List ℕ → ℕ
look_refusal l = first_failed (look_checks l)

-- st with the names of the tokens ts
abbrev pub named_with : Said → List Token → Said
named_with st ts = renamed (with_names st.names (names_in ts)) st

abbrev pub said_with : Said → List Token → Said
said_with st ts = said_by (named_with st ts) (line_of ts)

-- 6 a name over 16 bytes among ws; 7 a formula deeper than 16; 20 a 12th literal in a body
abbrev pub text_checks : List (List ℕ) → Brings → List Check
text_checks ws b = check 6 (not (some_long ws)) ∷ check 7 (leb b.depth 16) ∷ check 20 (leb b.literals 11) ∷ []

abbrev pub price_fits : ℕ → ℕ → Bool
price_fits p s = leb p 2000000 && leb (price_of p s) 2000000 && leb s 100

-- with the line, 8 a 65th name, 9 a 257th clause or 33rd constraint, 16 a price, or one worked out, over 2,000,000 or a
-- supplement over 100, 17 a second cost of a name, 10 a 17th query
abbrev pub room_checks : ℕ → ℕ → ℕ → ℕ → Bool → Brings → List Check
room_checks names clauses constraints queries second b =
    check 8 (leb names 64)
    ∷ check 9 (leb (clauses + b.clauses) 256 && leb (constraints + b.constraints) 32)
    ∷ check 16 (price_fits b.price b.supplement)
    ∷ check 17 (not second)
    ∷ check 10 (leb (queries + b.queries) 16)
    ∷ []

-- 21 a second edition line
abbrev pub edition_checks : ℕ → Brings → List Check
edition_checks editions b = check 21 (leb (editions + b.editions) 1) ∷ []

abbrev pub form_checks : Said → List Token → List Check
form_checks st ts =
    let b = brings (line_of ts) in
    let named = named_with st ts in
    text_checks (names_in ts) b
    ++ room_checks (length named.names) (length st.clauses) (length st.constraints) (length st.queries)
    (is_second_cost named (line_of ts)) b
    ++ edition_checks (length st.editions) b

unfoldable pub form_refusal : Said → List Token → ℕ
form_refusal st ts = first_failed (form_checks st ts)

unfoldable pub line_refusal : Said → List ℕ → ℕ
line_refusal st l = first_of (look_refusal l) (pick (is_comment l) 0 (form_refusal st (tokens l)))

unfoldable pub said_after : Said → List ℕ → Said
said_after st l = pick (is_comment l) st (said_with st (tokens l))
