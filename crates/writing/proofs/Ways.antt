-- Things written one behind another: what is written so far and what is left make up the whole. Assumes nothing.
use mathlib.Core.Path.{◌≡◌, refl, sym, ap, ◌∙◌}
use mathlib.Core.List.{List, [], ◌++◌, append_assoc, append-nil}
use Prim.Native.Nat.{ℕ}
use Rattle.text.specs.Tokens.{Token}
use Rattle.text.specs.Spelled.{text_of}
use Rattle.output.specs.Writing.{Room}
use Rattle.spelling.specs.declared.Pen.{Pen}
use Rattle.spelling.specs.declared.Page.{Page}
use Rattle.spelling.specs.Pen.{inked, Spells}
use Rattle.spelling.specs.Page.{Sets}
use Rattle.spelling.proofs.Pens.{spells-none, spells-both, room-before, room-behind}
use Rattle.spelling.proofs.Pages.{sets-none, sets-both, lines-room-before, lines-room-behind}

-- R xs s t says that the things xs were written from the state s on, and left the state t; of the things whole those of
-- left are still to be written
pub record Left {A S : Type 0} (R : List A → S → S → Type 0) (whole : List A) (s : S) (left : List A) (t : S)
    : Type 0 where
  pub done : List A
  pub whole_is : whole ≡ done ++ left
  pub does : R done s t

left-start : {A S : Type 0} (R : List A → S → S → Type 0) (whole : List A) (s : S) → R [] s s → Left R whole s whole s
left-start R whole s r = record { done = []; whole_is = refl; does = r }

module _ {A S : Type 0} (R : List A → S → S → Type 0) {whole left : List A} {s t : S} (h : Left R whole s left t) where
  left-more : ((xs ys : List A) (u : S) → R xs s t → R ys t u → R (xs ++ ys) s u)
      → (piece later : List A) (u : S) → left ≡ piece ++ later → R piece t u → Left R whole s later u
  left-more both piece later u e k = record {
    done = h.done ++ piece;
    whole_is = h.whole_is ∙ ap (λ (l : List A). h.done ++ l) e ∙ sym (append_assoc h.done piece later);
    does = both h.done piece u h.does k;
  }

  left_end : left ≡ [] → R whole s t
  left_end e = rw (h.whole_is, e, append-nil) h.does

-- ---- tokens with a pen
abbrev pub Penned : List Token → Pen × List ℕ → Pen × List ℕ → Type 0
Penned ts s t = Spells ts s.1 s.0 t.0 t.1

-- the tokens whole are written to out with the pen p; left is still to be written, to out₁ with the pen q
abbrev pub TokensLeft : List Token → List ℕ → Pen → List Token → Pen → List ℕ → Type 0
TokensLeft whole out p left q out₁ = Left Penned whole (p, out) left (q, out₁)

pub tokens-start : (whole : List Token) (out : List ℕ) (p : Pen) → TokensLeft whole out p whole p out
tokens-start whole out p = left-start Penned whole (p, out) (spells-none out p)

module _ {whole left : List Token} {out out₁ : List ℕ} {p q : Pen} (h : TokensLeft whole out p left q out₁) where
  pub tokens-room : (piece later : List Token) → left ≡ piece ++ later → Room (inked p whole) p.at
      → Room (inked q piece) q.at
  tokens-room piece later e r =
      let k : Room (inked p (h.done ++ (piece ++ later))) p.at = rw (← e, ← h.whole_is) r in
      room-before piece later q (room-behind h.does (piece ++ later) k)

  pub tokens-more : (piece later : List Token) {r : Pen} {out₂ : List ℕ} → left ≡ piece ++ later
      → Spells piece out₁ q r out₂ → TokensLeft whole out p later r out₂
  tokens-more piece later {r} {out₂} e k =
      left-more Penned h (λ xs ys u a b. spells-both a ys b) piece later (r, out₂) e k

  pub tokens-end : left ≡ [] → Spells whole out p q out₁
  tokens-end e = left_end Penned h e

-- ---- lines on a page
abbrev pub Paged : List (List ℕ) → Page × List ℕ → Page × List ℕ → Type 0
Paged ls s t = Sets ls s.1 s.0 t.0 t.1

-- the lines whole are written to out from the page g on; left is still to be written, to out₁ from the page q on
abbrev pub LinesLeft : List (List ℕ) → List ℕ → Page → List (List ℕ) → Page → List ℕ → Type 0
LinesLeft whole out g left q out₁ = Left Paged whole (g, out) left (q, out₁)

pub lines_start : (whole : List (List ℕ)) (out : List ℕ) (g : Page) → LinesLeft whole out g whole g out
lines_start whole out g = left-start Paged whole (g, out) (sets-none out g)

module _ {whole left : List (List ℕ)} {out out₁ : List ℕ} {g q : Page} (h : LinesLeft whole out g left q out₁) where
  pub lines-room : (piece later : List (List ℕ)) → left ≡ piece ++ later → Room (text_of whole) g.at
      → Room (text_of piece) q.at
  lines-room piece later e r =
      let k : Room (text_of (h.done ++ (piece ++ later))) g.at = rw (← e, ← h.whole_is) r in
      lines-room-before piece later q.at (lines-room-behind h.does (piece ++ later) k)

  pub lines_more : (piece later : List (List ℕ)) {r : Page} {out₂ : List ℕ} → left ≡ piece ++ later
      → Sets piece out₁ q r out₂ → LinesLeft whole out g later r out₂
  lines_more piece later {r} {out₂} e k =
      left-more Paged h (λ xs ys u a b. sets-both a ys b) piece later (r, out₂) e k

  pub lines_end : left ≡ [] → Sets whole out g q out₁
  lines_end e = left_end Paged h e
