-- The words of kinds, and the lines of a kind by their items.
-- Assumes nothing.
use mathlib.Core.Path.{◌≡◌, refl, sym, ◌∙◌}
use mathlib.Core.Bool.{true, false, true≢false}
use mathlib.Core.List.{List, [], ◌∷◌}
use mathlib.Core.Option.{Option}
use Prim.Native.Nat.{ℕ, ◌≤◌, ◌<◌}
use native.Mathlib.Omega.{arith}
use lib.ListN.{length, get_or}
use borrow.Author.Tests.{lt-ltb, le-ltb, ne_eqb}
use Rattle.text.specs.Bytes.{same_bytes}
use Rattle.text.specs.Tokens.{Token}
use Rattle.text.specs.Words.{place_of}
use Rattle.text.proofs.Places.{place-name}
use Rattle.formulas.specs.Parsing.{Items}
use Rattle.formulas.specs.Sentence.{Sentence}
use Rattle.formulas.specs.Items.{prepend, Item}
use Rattle.formulas.proofs.Keywords.{own-place}
use Rattle.formulas.proofs.FirstItem.{name_first}
use Rattle.grammar.specs.Line.{Line, Literal, line_words, takes}
use Rattle.grammar.specs.LineOf.{with_body, clause_of, body_line, of_kind, with_items, kind_of}
use Rattle.grammar.specs.LineOf.{flat_words, with_words, behind_word}
use Rattle.grammar.specs.Parsing.{literals_among, fits_body}

pub word-kind : (k : ℕ) → k < length line_words → kind_of (get_or line_words k []) ≡ k
unfolding place_of same_bytes
word-kind k h = own-place line_words refl k h

pub kind-word : (w : List ℕ) → kind_of w < length line_words → w ≡ get_or line_words (kind_of w) []
kind-word w h = sym (place-name line_words w h)

-- as many literals as a kind takes
module _ (k : ℕ) (make : List Literal → Line) where
  pub unfit_body : (x : Option (List Literal)) → fits_body k x ≡ false → with_body k make x ≡ Line.no_form
  unfit_body Option.none h = refl
  unfit_body (Option.some ls) h = rw h

  pub fit_body : (ls : List Literal) → takes k (length ls) ≡ true → with_body k make (Option.some ls) ≡ make ls
  fit_body ls h = rw h

-- clauses
clause-kind : (k : ℕ) (m : List Item) → k ≤ 2 → of_kind k m ≡ clause_of k m
clause-kind k m h = rw (lt-ltb k 3 (omega arith))

clause_unnamed : (k : ℕ) (m : List Item) → name_first (Option.some m) ≡ false → clause_of k m ≡ Line.no_form
clause_unnamed k [] h = refl
clause_unnamed k (Item.closing ∷ m) h = refl
clause_unnamed k (Item.formula (Sentence.name w) ∷ m) h = absurd (true≢false h)
clause_unnamed k (Item.formula (Sentence.negation f) ∷ m) h = refl
clause_unnamed k (Item.formula (Sentence.joined j f g) ∷ m) h = refl

module _ (k : ℕ) (i : k ≤ 2) where
  pub kind_unnamed : (x : Items) → name_first x ≡ false → with_items k x ≡ Line.no_form
  kind_unnamed Option.none h = refl
  kind_unnamed (Option.some m) h = clause-kind k m i ∙ clause_unnamed k m h

  pub kind-named : (w : List ℕ) (x : Items)
      → with_items k (prepend (Item.formula (Sentence.name w)) x) ≡ with_body k (Line.clause k w) (literals_among x)
  kind-named w Option.none = refl
  kind-named w (Option.some m) = clause-kind k (Item.formula (Sentence.name w) ∷ m) i

-- lines of literals alone
pub body-kind : (k : ℕ) (x : Items) → 3 ≤ k → k < 6 → with_items k x ≡ with_body k (body_line k) (literals_among x)
body-kind k Option.none i j = refl
body-kind k (Option.some m) i j = rw (le-ltb k 3 i, ne_eqb k 6 (λ z. omega arith))

-- no kind

kindless_words : (k : ℕ) → 9 < k → (x : Option (List (List ℕ))) → with_words k x ≡ Line.no_form
kindless_words k n Option.none = refl
kindless_words k n (Option.some ws) =
    rw (ne_eqb k 7 (λ z. omega arith), ne_eqb k 8 (λ z. omega arith), ne_eqb k 9 (λ z. omega arith))

pub kindless-behind : (k : ℕ) (ts : List Token) → 9 < k → behind_word k ts ≡ Line.no_form
kindless-behind k ts h = rw (le-ltb k 7 (omega arith)) (kindless_words k h (flat_words ts))
