-- Things written for each atom of a word, lowest first. Assumes nothing.
use mathlib.Core.Path.{◌≡◌, ap, ◌∙◌}
use mathlib.Core.Bool.{Bool}
use mathlib.Core.List.{List, [], ◌∷◌, ◌++◌, map}
use Prim.Native.Nat.{ℕ}
use Rattle.words.specs.OneBit.{without_bit, LowestOf}
use Rattle.program.specs.Cause.{atoms_in}
use Rattle.program.proofs.Atoms.{atoms-zero, atoms_lowest}
use Rattle.text.specs.Tokens.{Token}
use Rattle.grammar.specs.Line.{Literal, body_tokens}
use Rattle.grammar.proofs.LineTokens.{body-none, body-first}
use Rattle.output.specs.Writing.{Room}
use Rattle.text.specs.Spelled.{text_of}
use Rattle.spelling.specs.declared.Pen.{Pen}
use Rattle.spelling.specs.declared.Page.{Page}
use Rattle.spelling.specs.Pen.{inked, Spells}
use Rattle.spelling.specs.Page.{Sets}
use Rattle.writing.specs.Lines.{literals_on}
use Rattle.writing.specs.Steps.{literal_tokens}
use Rattle.writing.proofs.Ways.{TokensLeft, tokens-start, tokens-room, tokens-more, tokens-end}
use Rattle.writing.proofs.Ways.{LinesLeft, lines_start, lines-room, lines_more, lines_end}

-- ---- literals
-- the tokens of the literals on the atoms of a word
abbrev pub on_tokens : (ℕ → List ℕ) → Bool → ℕ → List Token
on_tokens name b w = body_tokens (literals_on name b (atoms_in w))

module _ (name : ℕ → List ℕ) (b : Bool) where
  on_none : on_tokens name b 0 ≡ []
  on_none = ap (λ (l : List ℕ). body_tokens (literals_on name b l)) atoms-zero ∙ body-none

  on_lowest : (w a : ℕ) → LowestOf w a
      → on_tokens name b w ≡ literal_tokens b (name a) ++ on_tokens name b (without_bit w a)
  on_lowest w a h =
      ap (λ (l : List ℕ). body_tokens (literals_on name b l)) (atoms_lowest w a h)
      ∙ body-first (Literal.literal b (name a)) (literals_on name b (atoms_in (without_bit w a)))

  -- of the literals on the atoms of w those on the atoms of left are still to be written
  abbrev pub AtLiteral : ℕ → List ℕ → Pen → ℕ → Pen → List ℕ → Type 0
  AtLiteral w out p left q out₁ = TokensLeft (on_tokens name b w) out p (on_tokens name b left) q out₁

  pub literal-start : (w : ℕ) (out : List ℕ) (p : Pen) → AtLiteral w out p w p out
  literal-start w out p = tokens-start (on_tokens name b w) out p

  module _ (w left : ℕ) {out out₁ : List ℕ} {p q : Pen} (h : AtLiteral w out p left q out₁) where
    module _ {a : ℕ} (l : LowestOf left a) where
      pub literal-room : Room (inked p (on_tokens name b w)) p.at → Room (inked q (literal_tokens b (name a))) q.at
      literal-room r = tokens-room h (literal_tokens b (name a)) _ (on_lowest left a l) r

      pub literal-more : {r : Pen} {out₂ : List ℕ} {next : ℕ} → Spells (literal_tokens b (name a)) out₁ q r out₂
          → next ≡ without_bit left a → AtLiteral w out p next r out₂
      literal-more {r} {out₂} k e =
          rw e (tokens-more h (literal_tokens b (name a)) (on_tokens name b (without_bit left a))
          (on_lowest left a l) k)

    pub literal-end : left ≡ 0 → Spells (on_tokens name b w) out p q out₁
    literal-end e = tokens-end h (ap (on_tokens name b) e ∙ on_none)

-- ---- lines, one for each atom
module _ (f : ℕ → List ℕ) where
  texts_none : map f (atoms_in 0) ≡ []
  texts_none = ap (map f) atoms-zero

  texts_lowest : (w a : ℕ) → LowestOf w a → map f (atoms_in w) ≡ (f a ∷ []) ++ map f (atoms_in (without_bit w a))
  texts_lowest w a h = ap (map f) (atoms_lowest w a h)

  -- of the lines of the atoms of w those of the atoms of left are still to be written
  abbrev pub AtAtomLine : ℕ → List ℕ → Page → ℕ → Page → List ℕ → Type 0
  AtAtomLine w out g left q out₁ = LinesLeft (map f (atoms_in w)) out g (map f (atoms_in left)) q out₁

  pub atom-line-start : (w : ℕ) (out : List ℕ) (g : Page) → AtAtomLine w out g w g out
  atom-line-start w out g = lines_start (map f (atoms_in w)) out g

  module _ (w left : ℕ) {out out₁ : List ℕ} {g q : Page} (h : AtAtomLine w out g left q out₁) where
    module _ {a : ℕ} (l : LowestOf left a) where
      pub atom-line-room : Room (text_of (map f (atoms_in w))) g.at → Room (text_of (f a ∷ [])) q.at
      atom-line-room r = lines-room h (f a ∷ []) _ (texts_lowest left a l) r

      pub atom-line-more : {r : Page} {out₂ : List ℕ} {next : ℕ} → Sets (f a ∷ []) out₁ q r out₂
          → next ≡ without_bit left a → AtAtomLine w out g next r out₂
      atom-line-more {r} {out₂} k e =
          rw e (lines_more h (f a ∷ []) (map f (atoms_in (without_bit left a))) (texts_lowest left a l) k)

    pub atom-line-end : left ≡ 0 → Sets (map f (atoms_in w)) out g q out₁
    atom-line-end e = lines_end h (ap (λ (x : ℕ). map f (atoms_in x)) e ∙ texts_none)
