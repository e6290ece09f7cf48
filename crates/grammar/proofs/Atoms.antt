-- Laws of atom lines: how they are spelled, and one law for each way out of `atom_form`.
-- Assumes nothing.
use mathlib.Core.Path.{◌≡◌, refl, sym, ◌∙◌}
use mathlib.Core.Bool.{Bool, true, false}
use mathlib.Core.List.{List, [], ◌∷◌}
use mathlib.Core.Logic.{inl, inr}
use mathlib.Core.Option.{Option}
use Rattle.std.specs.Prelude.{Some, None}
use Rattle.std.specs.Bool.{then_some}
use Prim.Native.Nat.{ℕ}
use native.Mathlib.Omega.{arith}
use lib.ListN.{drop}
use Rattle.words.specs.Choice.{pick}
use Rattle.text.specs.Tokens.{Token, tokens}
use Rattle.text.specs.Words.{begins_with_letter}
use Rattle.text.specs.Scanning.{begins_name, NamedNext}
use Rattle.formulas.specs.Items.{prepend}
use Rattle.grammar.specs.Line.{Line, line_tokens, is_line}
use Rattle.grammar.specs.LineOf.{flat_words, atom_line, with_words}
use Rattle.grammar.specs.Parsing.{ends_line, FormAfter}
use Rattle.grammar.specs.declared.line.Form.TheVariants.{Atom}
use Rattle.grammar.proofs.Forms.{either}
use Rattle.grammar.proofs.Flat.{Words, flat_tokens, LineSpells, flat_word, ended-words, unnamed_form, unended-form}

-- What is read is spelled

one-spells : (w : List ℕ) (b : Bool) → begins_with_letter w ≡ b
    → LineSpells 8 (w ∷ []) (pick b (Line.atom w) Line.no_form)
unfolding flat_tokens is_line line_tokens
one-spells w true e = inr (e, refl)
one-spells w false e = inl refl

pub atom-spells : (ws : List (List ℕ)) → LineSpells 8 ws (atom_line ws)
atom-spells [] = inl refl
atom-spells (w ∷ []) = one-spells w (begins_with_letter w) refl
atom-spells (w ∷ (v ∷ ws)) = inl refl

-- What is spelled is read

pub atom-words : (w : List ℕ) → begins_with_letter w ≡ true
    → with_words 8 (flat_words (Token.word w ∷ (Token.closing ∷ []))) ≡ Line.atom w
unfolding flat_words
atom-words w h = rw h

-- The ways out of `atom_form`

unnamed_atom : (w : List ℕ) → begins_with_letter w ≡ false → (x : Words) → with_words 8 (prepend w x) ≡ Line.no_form
unnamed_atom w h Option.none = refl
unnamed_atom w h (Option.some []) = rw h
unnamed_atom w h (Option.some (v ∷ ws)) = refl

pub atom_unnamed : (l : List ℕ) (at : ℕ) → begins_name (tokens (drop at l)) ≡ false → FormAfter l at 8 None
atom_unnamed l at h = unnamed_form 8 (omega arith) refl unnamed_atom l at h

module _ {l : List ℕ} {at a e : ℕ} (n : NamedNext l at a e) where
  atom-ended : ends_line l e ≡ true → FormAfter l at 8 (Some (Atom a e))
  unfolding ends_line
  atom-ended h = record {
    form-is = (
      (n.found.inside.1, n.found.inside.2),
      rw (flat_word n.found, ended-words (tokens (drop e l)) h, n.lettered),
    );
  }

  pub atom_found : {b : Bool} → b ≡ ends_line l e → FormAfter l at 8 (then_some b (Atom a e))
  atom_found {b} q =
      either (FormAfter l at 8) (Atom a e) b (λ h. atom-ended (sym q ∙ h))
      (λ h. unended-form 8 (omega arith) (λ _ _ _. refl) n.found (sym q ∙ h))
