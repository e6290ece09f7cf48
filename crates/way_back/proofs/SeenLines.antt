-- The lines of readings are read as these readings. Assumes nothing.
use mathlib.Core.Path.{◌≡◌, refl, sym, ap₂, subst, ◌∙◌}
use mathlib.Core.Bool.{Bool, true, false, ◌||◌}
use mathlib.Core.List.{List, [], ◌∷◌, ◌++◌, map}
use Prim.Native.Nat.{ℕ, ◌≤◌}
use native.Mathlib.Omega.{arith}
use lib.ListN.{length}
use lib.Pow.{pow_pos}
use Rattle.words.proofs.Bits.{has-zero}
use Rattle.words.proofs.Words.{has_word, word_lt}
use Rattle.text.proofs.Each.{Each, each_gives}
use Rattle.grammar.specs.Line.{Line, Literal, is_line, body_names}
use Rattle.grammar.specs.Bringing.{nothing}
use Rattle.grammar.proofs.LineLaws.{literal-sentence, literal-is-line}
use Rattle.names.specs.Names.{atom_of}
use Rattle.store.specs.Saying.{ClauseRow, ConstraintRow, Said, said, atoms_by, plain_atoms, negated_atoms, or_atoms}
use Rattle.store.proofs.Saying.{seen-said, seen_no_cost, on_none, on-append, atoms-has, is-atoms}
use Rattle.checks.proofs.Naming.{name-lettered}
use Rattle.way_back.proofs.Fits.{after}
use Rattle.way_back.proofs.FittingLines.{Reads, Step, segment, Written}
use Rattle.way_back.proofs.KnownNames.{Usable, known-says, known-fits, room-rows}

-- the atoms of no literal, and of literals one behind the other
module _ (at : List ℕ → ℕ) (b : Bool) where
  atoms-none : atoms_by at b [] ≡ 0
  atoms-none = sym (is-atoms at b 0 [] (pow_pos 64) (λ a _. has-zero a ∙ sym (on_none at b a)))

  atoms-more : (l m : List Literal) → or_atoms (atoms_by at b l) (atoms_by at b m) ≡ atoms_by at b (l ++ m)
  atoms-more l m =
      is-atoms at b (or_atoms (atoms_by at b l) (atoms_by at b m)) (l ++ m) (word_lt 64 _) (λ a h.
      has_word 64 _ a h ∙ ap₂ ◌||◌ (atoms-has at b l a h) (atoms-has at b m a h) ∙ sym (on-append at b l m a))

module _ (ns : List (List ℕ)) (few : length ns ≤ 64) (es : List ℕ) (es-few : length es ≤ 1) (cs : List ClauseRow)
    (cs-few : length cs ≤ 256) (ds : List ConstraintRow) (ds-few : length ds ≤ 32) where
  abbrev pub ReadingWritten : Literal → Type 0
  ReadingWritten x = Written Line.seen (λ y. Each (Usable ns) (body_names (y ∷ []))) x

  abbrev with_readings : List Literal → Said
  with_readings l = said ns cs ds (plain_atoms ns l) (negated_atoms ns l) [] [] es

  abbrev Ready : List Literal → List Literal → Type 0
  Ready done rest = Each ReadingWritten rest

  seen-is-line : (x : Literal) → Each (Usable ns) (body_names (x ∷ [])) → is_line (Line.seen x) ≡ true
  seen-is-line x u =
      literal-is-line x
      ∙ literal-sentence x (each_gives (Usable ns) _ (λ w h. name-lettered w h.0) (body_names (x ∷ [])) u)

  reading-says : (done : List Literal) (x : Literal) → Each (Usable ns) (body_names (x ∷ []))
      → after (with_readings done) (Line.seen x) ≡ with_readings (done ++ (x ∷ []))
  reading-says done x u =
      known-says (with_readings done) (Line.seen x) u ∙ seen-said (with_readings done) x
      ∙ ap₂ (λ p q. said ns cs ds p q [] [] es)
      (atoms-more (atom_of ns) false done (x ∷ [])) (atoms-more (atom_of ns) true done (x ∷ []))

  reading_step : (done : List Literal) (x : Literal) (rest : List Literal) → Ready done (x ∷ rest)
      → Step Line.seen with_readings Ready done x rest
  reading_step done x rest r =
      let u = r.0.0 in
      let st = with_readings done in
      record {
        fits = known-fits st (Line.seen x) u (seen-is-line x u) r.0.1 (omega arith)
            (rw (seen_no_cost st x) (room-rows st nothing refl refl few (omega arith) (omega arith) (omega arith)))
            (omega arith);
        says = reading-says done x u;
        on = r.1;
      }

  pub readings-read : (l : List Literal) → Each ReadingWritten l
      → Reads (said ns cs ds 0 0 [] [] es) (map Line.seen l)
      (said ns cs ds (plain_atoms ns l) (negated_atoms ns l) [] [] es)
  readings-read l r =
      subst (λ st. Reads st (map Line.seen l) (with_readings l))
      (ap₂ (λ p q. said ns cs ds p q [] [] es) (atoms-none (atom_of ns) false) (atoms-none (atom_of ns) true))
      (segment Line.seen with_readings Ready reading_step l r)
