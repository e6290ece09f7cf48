-- How the lines of a load are written.
--
--   ClausesLeft ..     of the clauses drawn those behind the ones done are still to be drawn and written
-- Assumes nothing.
use mathlib.Core.Path.{◌≡◌, ap, ◌∙◌}
use mathlib.Core.List.{List, [], ◌∷◌, ◌++◌, map, map-append}
use Prim.Native.Nat.{ℕ, zero, suc, ◌+◌, ◌-◌, ◌≤◌, ◌<◌}
use native.Mathlib.Nat.{not-suc-le-zero}
use native.Mathlib.Omega.{arith}
use Rattle.words.proofs.Lists.{list_of-none, list_of-more}
use Rattle.text.specs.Bytes.{bytes}
use Rattle.text.specs.Spelled.{text_of}
use Rattle.text.specs.Tokens.{Token}
use Rattle.formulas.specs.Sentence.{Sentence}
use Rattle.formulas.proofs.NameSentence.{name-tokens}
use Rattle.grammar.specs.Line.{Line}
use Rattle.output.specs.Writing.{Room}
use Rattle.spelling.specs.declared.Page.{Page}
use Rattle.spelling.specs.Page.{Sets}
use Rattle.spelling.proofs.Pages.{sets-both, lines-room-before, lines-room-behind}
use Rattle.writing.specs.Lines.{line_text}
use Rattle.writing.proofs.Growing.{Grows}
use Rattle.writing.proofs.LineTexts.{FormLine, query-form}
use Rattle.writing.proofs.Ways.{LinesLeft, lines_start, lines-room, lines_more, lines_end}
use Rattle.loading.specs.Draws.{state_after}
use Rattle.loading.specs.Load.{load_name, clause_drawn, draw_count, clauses_drawn, atom_lines}
use Rattle.loading.specs.Load.{query_of_first, load_lines}
use Rattle.loading.proofs.Drawing.{clauses-none, clauses-first}

-- ---- the lines of atoms
pub atoms-grow : Grows (λ k. map line_text (atom_lines k)) (λ k. line_text (Line.atom (load_name k)) ∷ [])
atoms-grow = record {
  none = ap (map line_text) (list_of-none (λ a. Line.atom (load_name a)));
  more =
      λ k. ap (map line_text) (list_of-more k (λ a. Line.atom (load_name a))) ∙ map-append line_text (atom_lines k) _;
}

-- ---- the line of the query
pub first-query-form : FormLine (line_text query_of_first) (bytes "query") (Token.word (load_name 0) ∷ [])
first-query-form = rw (← name-tokens (load_name 0)) (query-form (Sentence.name (load_name 0)))

-- ---- the lines of clauses
-- those of c clauses that are drawn from the state s on
abbrev drawn_texts : ℕ → ℕ → ℕ → List (List ℕ)
drawn_texts n s c = map line_text (clauses_drawn n s c)

drawn_none : (n s : ℕ) → drawn_texts n s 0 ≡ []
drawn_none n s = ap (map line_text) (clauses-none n s)

drawn_first : (n s c : ℕ) → 0 < c
    → drawn_texts n s c ≡ (line_text (clause_drawn n s) ∷ []) ++ drawn_texts n (state_after (draw_count s) s) (c - 1)
drawn_first n s zero h = absurd (not-suc-le-zero h)
drawn_first n s (suc c) h =
    let e : suc c - 1 ≡ c = omega arith in
    rw e (ap (map line_text) (clauses-first n s c))

-- of c clauses on n atoms, drawn from the state start on and written to out from the page g on, those behind the ones
-- done are drawn from the state s on and written to out₁ from the page q on
pub record ClausesLeft (n start c : ℕ) (out : List ℕ) (g : Page) (s done : ℕ) (q : Page) (out₁ : List ℕ) : Type 0 where
  pub lines : LinesLeft (drawn_texts n start c) out g (drawn_texts n s (c - done)) q out₁

module _ (n start c : ℕ) (out : List ℕ) (g : Page) where
  pub clauses-start : ClausesLeft n start c out g start 0 g out
  clauses-start =
      let e : c - 0 ≡ c = omega arith in
      record { lines = rw e (lines_start (drawn_texts n start c) out g) }

module _ {n start c : ℕ} {out : List ℕ} {g : Page} {s done : ℕ} {q : Page} {out₁ : List ℕ}
    (h : ClausesLeft n start c out g s done q out₁) where
  module _ (l : done < c) where
    abbrev piece : List (List ℕ)
    piece = line_text (clause_drawn n s) ∷ []

    first-is : drawn_texts n s (c - done) ≡ piece ++ drawn_texts n (state_after (draw_count s) s) (c - (done + 1))
    first-is =
        let less : c - done - 1 ≡ c - (done + 1) = omega arith in
        rw (← less) (drawn_first n s (c - done) (omega arith))

    pub clause-room : Room (text_of (drawn_texts n start c)) g.at → Room (text_of piece) q.at
    clause-room r = lines-room h.lines piece _ first-is r

    pub clause-more : {t : ℕ} {r : Page} {out₂ : List ℕ} → Sets piece out₁ q r out₂
        → t ≡ state_after (draw_count s) s → ClausesLeft n start c out g t (done + 1) r out₂
    clause-more w et = rw et (record { lines = lines_more h.lines piece _ first-is w })

  pub clauses-end : c ≤ done → Sets (drawn_texts n start c) out g q out₁
  clauses-end l =
      let e : c - done ≡ 0 = omega arith in
      lines_end h.lines (ap (drawn_texts n s) e ∙ drawn_none n s)

-- ---- all lines
module _ (s n c : ℕ) where
  abbrev query_text : List (List ℕ)
  query_text = line_text query_of_first ∷ []

  abbrev atom_texts : List (List ℕ)
  atom_texts = map line_text (atom_lines n)

  texts_are : map line_text (load_lines s n c) ≡ atom_texts ++ (drawn_texts n s c ++ query_text)
  texts_are =
      map-append line_text (atom_lines n) _
      ∙ ap (λ ls. atom_texts ++ ls) (map-append line_text (clauses_drawn n s c) (query_of_first ∷ []))

  module _ (g : Page) (room : Room (text_of (map line_text (load_lines s n c))) g.at) where
    whole_room : Room (text_of (atom_texts ++ (drawn_texts n s c ++ query_text))) g.at
    whole_room = rw texts_are at room

    pub atoms-room : Room (text_of atom_texts) g.at
    atoms-room = lines-room-before atom_texts (drawn_texts n s c ++ query_text) g.at whole_room

    module _ {p : Page} {out out₁ : List ℕ} (a : Sets atom_texts out g p out₁) where
      behind-room : Room (text_of (drawn_texts n s c ++ query_text)) p.at
      behind-room = lines-room-behind a (drawn_texts n s c ++ query_text) whole_room

      pub clauses-room : Room (text_of (drawn_texts n s c)) p.at
      clauses-room = lines-room-before (drawn_texts n s c) query_text p.at behind-room

      pub query-room : {q : Page} {out₂ : List ℕ} → Sets (drawn_texts n s c) out₁ p q out₂
          → Room (text_of query_text) q.at
      query-room d = lines-room-behind d query_text behind-room

  pub lines-written : {g p q r : Page} {out out₁ out₂ out₃ : List ℕ} → Sets atom_texts out g p out₁
      → Sets (drawn_texts n s c) out₁ p q out₂ → Sets query_text out₂ q r out₃
      → Sets (map line_text (load_lines s n c)) out g r out₃
  lines-written a d q = rw texts_are (sets-both a (drawn_texts n s c ++ query_text) (sets-both d query_text q))
