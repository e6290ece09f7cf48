-- How a line is written: what it begins with, what stands in it, and what closes it. Assumes nothing.
use mathlib.Core.Path.{◌≡◌, ap, ◌∙◌}
use mathlib.Core.Bool.{false}
use mathlib.Core.List.{List, [], ◌∷◌, ◌++◌, append_assoc}
use Prim.Native.Nat.{ℕ, ◌+◌, ◌%◌, ◌≤◌, ◌<◌}
use native.Mathlib.Omega.{arith}
use lib.ListN.{get_or}
use Rattle.text.specs.Bytes.{bytes}
use Rattle.text.specs.Tokens.{Token}
use Rattle.text.specs.Spelled.{spelled, text_of}
use Rattle.text.proofs.Spelled.{spelled-closing, text-one}
use Rattle.formulas.specs.Sentence.{Sentence, form_tokens, tokens_of}
use Rattle.grammar.specs.Line.{Line, Literal, line_words, of_literal, body_tokens}
use Rattle.grammar.proofs.LineTokens.{atom-tokens, clause-tokens, constraint-tokens, seen-tokens, query-tokens}
use Rattle.grammar.proofs.LineTokens.{cost-tokens, edition-tokens}
use Rattle.output.specs.Decimal.{decimal}
use Rattle.output.specs.Writing.{Room}
use Rattle.output.proofs.Decimals.{decimal-one}
use Rattle.output.proofs.Laying as laying
use Rattle.spelling.specs.declared.Pen.{Pen}
use Rattle.spelling.specs.declared.Page.{Page}
use Rattle.spelling.specs.Pen.{behind_of, inked, Spells}
use Rattle.spelling.specs.Page.{start_of, Ends, Sets}
use Rattle.spelling.proofs.Pens.{spelled-append, spells-both, room-before, room-behind}
use Rattle.spelling.proofs.Pages.{line-room, line_set}
use Rattle.writing.specs.Lines.{line_text}
use Rattle.writing.specs.Steps.{opened_by, Closes}
use Rattle.writing.proofs.Parts.{closer}

-- ---- what closes a line
module _ (g : Page) (p : Pen) where
  pub closing-room : Room (41 ∷ (10 ∷ [])) p.at → Room (inked p closer) p.at
  closing-room h = rw (spelled-closing p.behind) (laying.room-front (41 ∷ []) (10 ∷ []) p.at h)

  module _ {q : Pen} {out out₁ : List ℕ} (c : Spells closer out p q out₁) where
    pub feed_room : (g.at ≤ p.at) × Room (41 ∷ (10 ∷ [])) p.at → (g.at ≤ q.at) × Room (10 ∷ []) q.at
    feed_room h =
        let e = rw (spelled-closing p.behind) at c.place_is in
        (omega arith, laying.room-behind (41 ∷ []) (10 ∷ []) p.at h.1 e)

    pub closes : {r : Page} {out₂ : List ℕ} → Ends g q out₁ r out₂ → Closes g p out r out₂
    closes e ts before h = line_set g (spells-both h closer c) e

-- room for what closes a line, where its text has room
module _ (ts : List Token) (g : Page) {p : Pen} {before out : List ℕ} (h : Spells ts before (start_of g) p out) where
  closed-text : text_of (spelled (ts ++ closer) ∷ []) ≡ spelled ts ++ (41 ∷ (10 ∷ []))
  closed-text =
      text-one _
      ∙ ap (λ l. l ++ (10 ∷ []))
      (spelled-append false ts closer ∙ ap (λ l. spelled ts ++ l) (spelled-closing (behind_of false ts)))
      ∙ append_assoc (spelled ts) (41 ∷ []) (10 ∷ [])

  closed-room : Room (text_of (spelled (ts ++ closer) ∷ [])) g.at → (g.at ≤ p.at) × Room (41 ∷ (10 ∷ [])) p.at
  closed-room k = (
    omega (arith, h.place_is),
    laying.room-behind (spelled ts) (41 ∷ (10 ∷ [])) g.at (rw closed-text at k) h.place_is,
  )

-- the line l is the form with the word w and with the tokens ts behind it
pub record FormLine (l w : List ℕ) (ts : List Token) : Type 0 where
  pub text-is : l ≡ spelled (form_tokens w ts)

-- ---- the line l of a form, with the word w and the tokens ts behind it
module _ {l w : List ℕ} {ts : List Token} (f : FormLine l w ts) (g : Page) where
  text-room : Room (text_of (l ∷ [])) g.at → Room (inked (start_of g) (opened_by w ++ (ts ++ closer))) g.at
  text-room h = line-room (opened_by w ++ (ts ++ closer)) g (rw f.text-is at h)

  pub begin_room : Room (text_of (l ∷ [])) g.at → Room (inked (start_of g) (opened_by w)) g.at
  begin_room h = room-before (opened_by w) (ts ++ closer) (start_of g) (text-room h)

  module _ {p : Pen} {out out₁ : List ℕ} (b : Spells (opened_by w) out (start_of g) p out₁) where
    pub part_room : Room (text_of (l ∷ [])) g.at → Room (inked p ts) p.at
    part_room h = room-before ts closer p (room-behind b (ts ++ closer) (text-room h))

    module _ {q : Pen} {out₂ : List ℕ} (m : Spells ts out₁ p q out₂) where
      inside : Spells (opened_by w ++ ts) out (start_of g) q out₂
      inside = spells-both b ts m

      pub close_room : Room (text_of (l ∷ [])) g.at → (g.at ≤ q.at) × Room (41 ∷ (10 ∷ [])) q.at
      close_room h = closed-room (opened_by w ++ ts) g inside (rw f.text-is at h)

      pub line-written : {r : Page} {out₃ : List ℕ} → Closes g q out₂ r out₃ → Sets (l ∷ []) out g r out₃
      line-written c = rw f.text-is (c (opened_by w ++ ts) out inside)

-- ---- tokens in two parts
module _ (us vs : List Token) (p : Pen) (h : Room (inked p (us ++ vs)) p.at) where
  pub first-room : Room (inked p us) p.at
  first-room = room-before us vs p h

  pub second-room : {q : Pen} {out out₁ : List ℕ} → Spells us out p q out₁ → Room (inked q vs) q.at
  second-room k = room-behind k vs h

-- ---- the word of a kind that is another's
module _ (j k : ℕ) (g : Page) (e : k ≡ j) where
  pub word_room : Room (inked (start_of g) (opened_by (get_or line_words k []))) g.at
      → Room (inked (start_of g) (opened_by (get_or line_words j []))) g.at
  word_room h = rw (← e) h

  pub word-written : {r : Pen} {out out₁ : List ℕ} → Spells (opened_by (get_or line_words j [])) out (start_of g) r out₁
      → Spells (opened_by (get_or line_words k [])) out (start_of g) r out₁
  word-written h = rw e h

-- ---- each kind of line
pub atom-form : (w : List ℕ) → FormLine (line_text (Line.atom w)) (bytes "atom") (Token.word w ∷ [])
atom-form w = record { text-is = ap spelled (atom-tokens w) }

pub edition-form : (e : ℕ) → e < 10
    → FormLine (line_text (Line.edition e)) (bytes "edition") (Token.word (decimal e) ∷ [])
edition-form e h =
    let z : e % 10 ≡ e = omega arith in
    record { text-is = ap spelled (rw (decimal-one e h, z) (edition-tokens e)) }

pub clause-form : (k : ℕ) (w : List ℕ) (l : List Literal)
    → FormLine (line_text (Line.clause k w l)) (get_or line_words k []) (Token.word w ∷ body_tokens l)
clause-form k w l = record { text-is = ap spelled (clause-tokens w k l) }

pub constraint-form : (k : ℕ) (l : List Literal)
    → FormLine (line_text (Line.constraint k l)) (get_or line_words (3 + k) []) (body_tokens l)
constraint-form k l = record { text-is = ap spelled (constraint-tokens k l) }

pub seen-form : (x : Literal) → FormLine (line_text (Line.seen x)) (bytes "seen") (tokens_of (of_literal x))
seen-form x = record { text-is = ap spelled (seen-tokens x) }

pub query-form : (f : Sentence) → FormLine (line_text (Line.query f)) (bytes "query") (tokens_of f)
query-form f = record { text-is = ap spelled (query-tokens f) }

pub cost-form : (w p s : List ℕ)
    → FormLine (line_text (Line.cost w p s)) (bytes "cost") (Token.word w ∷ (Token.word p ∷ (Token.word s ∷ [])))
cost-form w p s = record { text-is = ap spelled (cost-tokens w p s) }
