-- How a literal and a body are written. Assumes nothing.
use mathlib.Core.Path.{◌≡◌, ap, ◌∙◌}
use mathlib.Core.Bool.{Bool, true, false}
use mathlib.Core.List.{List, [], ◌∷◌, ◌++◌}
use Prim.Native.Nat.{ℕ}
use Rattle.program.specs.Cause.{atoms_in}
use Rattle.text.specs.Bytes.{bytes}
use Rattle.text.specs.Tokens.{Token}
use Rattle.formulas.specs.Sentence.{Sentence, tokens_of}
use Rattle.formulas.proofs.NameSentence.{name-tokens}
use Rattle.formulas.proofs.FormSentence.{negation-tokens}
use Rattle.grammar.specs.Line.{Literal, of_literal, body_tokens}
use Rattle.grammar.proofs.LineTokens.{body-append}
use Rattle.output.specs.Writing.{Room}
use Rattle.spelling.specs.declared.Pen.{Pen}
use Rattle.spelling.specs.Pen.{inked, Spells}
use Rattle.spelling.proofs.Pens.{spells-both, room-before, room-behind}
use Rattle.writing.specs.Lines.{literals_on, literals_for}
use Rattle.writing.proofs.Bits.{on_tokens}

-- ---- a bracket and a word
module _ (w : List ℕ) (p : Pen) where
  pub open_room : Room (inked p (Token.opening ∷ (Token.word w ∷ []))) p.at
      → Room (inked p (Token.opening ∷ [])) p.at
  open_room r = room-before (Token.opening ∷ []) (Token.word w ∷ []) p r

  module _ {q : Pen} {out out₁ : List ℕ} (h : Spells (Token.opening ∷ []) out p q out₁) where
    pub opened-room : Room (inked p (Token.opening ∷ (Token.word w ∷ []))) p.at
        → Room (inked q (Token.word w ∷ [])) q.at
    opened-room r = room-behind h (Token.word w ∷ []) r

    pub opened-written : {r : Pen} {out₂ : List ℕ} → Spells (Token.word w ∷ []) out₁ q r out₂
        → Spells (Token.opening ∷ (Token.word w ∷ [])) out p r out₂
    opened-written k = spells-both h (Token.word w ∷ []) k

-- ---- a literal
abbrev not_opened : List Token
not_opened = Token.opening ∷ (Token.word (bytes "not") ∷ [])

module _ (w : List ℕ) (b : Bool) (p : Pen) where
  abbrev name_tokens : List Token
  name_tokens = Token.word w ∷ []

  abbrev signed : List Token
  signed = tokens_of (of_literal (Literal.literal b w))

  module _ (e : b ≡ true) where
    negated-tokens : signed ≡ not_opened ++ (name_tokens ++ (Token.closing ∷ []))
    negated-tokens =
        rw e
        (negation-tokens (Sentence.name w)
        ∙ ap (λ (ts : List Token). not_opened ++ (ts ++ (Token.closing ∷ []))) (name-tokens w))

    pub not-room : Room (inked p signed) p.at → Room (inked p not_opened) p.at
    not-room r = room-before not_opened (name_tokens ++ (Token.closing ∷ [])) p (rw negated-tokens at r)

    module _ {q : Pen} {out out₁ : List ℕ} (h : Spells not_opened out p q out₁) where
      pub negated-name-room : Room (inked p signed) p.at → Room (inked q name_tokens) q.at
      negated-name-room r =
          room-before name_tokens (Token.closing ∷ []) q
          (room-behind h (name_tokens ++ (Token.closing ∷ [])) (rw negated-tokens at r))

      module _ {s : Pen} {out₂ : List ℕ} (k : Spells name_tokens out₁ q s out₂) where
        pub negated_close_room : Room (inked p signed) p.at
            → Room (inked s (Token.closing ∷ [])) s.at
        negated_close_room r =
            room-behind k (Token.closing ∷ [])
            (room-behind h (name_tokens ++ (Token.closing ∷ [])) (rw negated-tokens at r))

        pub negated-written : {u : Pen} {out₃ : List ℕ} → Spells (Token.closing ∷ []) out₂ s u out₃
            → Spells signed out p u out₃
        negated-written m = rw negated-tokens (spells-both h _ (spells-both k (Token.closing ∷ []) m))

  module _ (e : b ≡ false) where
    plain-tokens : signed ≡ name_tokens
    plain-tokens = rw e (name-tokens w)

    pub plain-name-room : Room (inked p signed) p.at → Room (inked p name_tokens) p.at
    plain-name-room r = rw plain-tokens at r

    pub plain-written : {u : Pen} {out out₁ : List ℕ} → Spells name_tokens out p u out₁
        → Spells signed out p u out₁
    plain-written h = rw plain-tokens h

-- ---- a body
module _ (name : ℕ → List ℕ) (x y : ℕ) (p : Pen) where
  body-tokens : body_tokens (literals_for name x y) ≡ on_tokens name false x ++ on_tokens name true y
  body-tokens = body-append (literals_on name false (atoms_in x)) (literals_on name true (atoms_in y))

  pub body-plain-room : Room (inked p (body_tokens (literals_for name x y))) p.at
      → Room (inked p (on_tokens name false x)) p.at
  body-plain-room r = room-before (on_tokens name false x) (on_tokens name true y) p (rw body-tokens at r)

  module _ {q : Pen} {out out₁ : List ℕ} (h : Spells (on_tokens name false x) out p q out₁) where
    pub body-negated-room : Room (inked p (body_tokens (literals_for name x y))) p.at
        → Room (inked q (on_tokens name true y)) q.at
    body-negated-room r = room-behind h (on_tokens name true y) (rw body-tokens at r)

    pub body-written : {r : Pen} {out₂ : List ℕ} → Spells (on_tokens name true y) out₁ q r out₂
        → Spells (body_tokens (literals_for name x y)) out p r out₂
    body-written k = rw body-tokens (spells-both h (on_tokens name true y) k)
