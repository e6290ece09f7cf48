-- Atom lines, which name one atom each, are read as these names. Assumes nothing.
use mathlib.Core.Path.{◌≡◌, refl, sym, ap, subst, ◌∙◌}
use mathlib.Core.List.{List, [], ◌∷◌, ◌++◌, map, append_assoc}
use Prim.Native.Nat.{ℕ, ◌≤◌, ◌<◌}
use native.Mathlib.Omega.{arith}
use lib.Dec.{ltb}
use lib.ListN.{length, length-append, get_or-append}
use lib.Seq.{get_or-append_seam}
use borrow.Author.Tests.{ltb-true, ltb-false}
use Rattle.words.proofs.Tests.{by_test}
use Rattle.text.proofs.Places.{place-name}
use Rattle.grammar.specs.Line.{Line}
use Rattle.grammar.specs.Bringing.{nothing, brings}
use Rattle.grammar.proofs.LineLaws.{name-is-line}
use Rattle.names.specs.Names.{atom_of}
use Rattle.names.proofs.Distinct.{Distinct}
use Rattle.names.proofs.Adding.{with_names-new}
use Rattle.store.specs.Saying.{Said, said, is_second_cost}
use Rattle.store.proofs.Saying.{atom-said, atom_no_cost}
use Rattle.checks.specs.Naming.{IsName}
use Rattle.checks.proofs.Naming.{name-lettered}
use Rattle.way_back.proofs.Fits.{named_by, RoomFor, Fits}
use Rattle.way_back.proofs.FittingLines.{Reads, Step, segment, Written, Left, left-room, left-on}
use Rattle.way_back.proofs.KnownNames.{room-rows}

-- among names that differ, one is none of those in front of it
front-new : (ns ws : List (List ℕ)) (w : List ℕ) → Distinct (ns ++ (w ∷ ws)) → length ns ≤ atom_of ns w
unfolding Distinct
front-new ns ws w d = by_test (ltb (atom_of ns w) (length ns)) (λ t. absurd (found (ltb-true _ _ t))) (ltb-false _ _)
  where
    found : atom_of ns w < length ns → ⊥
    found l =
        d (atom_of ns w) (length ns) l (omega (arith, length-append ns (w ∷ ws)))
        (get_or-append ns (w ∷ ws) [] (atom_of ns w) l ∙ place-name ns w l
        ∙ sym (get_or-append_seam ns w ws []))

abbrev pub AtomWritten : List ℕ → Type 0
AtomWritten w = Written Line.atom IsName w

abbrev with_atoms : List (List ℕ) → Said
with_atoms ns = said ns [] [] 0 0 [] [] []

abbrev Ready : List (List ℕ) → List (List ℕ) → Type 0
Ready done rest = Left AtomWritten 64 done rest × Distinct (done ++ rest)

one_more : (ns : List (List ℕ)) (w : List ℕ) → length ns ≤ atom_of ns w → named_by (with_atoms ns) (Line.atom w)
    ≡ with_atoms (ns ++ (w ∷ []))
one_more ns w h = ap with_atoms (with_names-new ns w h)

module _ (done : List (List ℕ)) (w : List ℕ) (rest : List (List ℕ)) (r : Ready done (w ∷ rest)) where
  grown : named_by (with_atoms done) (Line.atom w) ≡ with_atoms (done ++ (w ∷ []))
  grown = one_more done w (front-new done rest w r.1)

  abbrev AtomRoom : Said → Type 0
  AtomRoom st = RoomFor st (is_second_cost st (Line.atom w)) (brings (Line.atom w))

  atom-room : AtomRoom (named_by (with_atoms done) (Line.atom w))
  atom-room =
      let m = left-room AtomWritten 64 done w rest r.0 in
      let few = length-append done (w ∷ []) in
      let st = with_atoms (done ++ (w ∷ [])) in
      subst AtomRoom (sym grown)
      (rw (atom_no_cost st w) (room-rows st nothing refl refl (omega arith) (omega arith) (omega arith) (omega arith)))

  atom-fits : Fits (with_atoms done) (Line.atom w)
  atom-fits =
      let name = r.0.each.0.0 in
      record {
        is-line = name-is-line w ∙ name-lettered w name;
        named = (name, tt);
        short = r.0.each.0.1;
        not_deep = omega arith;
        room = atom-room;
        editions-few = omega arith;
      }

  atom-step : Step Line.atom with_atoms Ready done w rest
  atom-step = record {
    fits = atom-fits;
    says = atom-said (named_by (with_atoms done) (Line.atom w)) w ∙ grown;
    on = (
      left-on AtomWritten 64 done w rest r.0,
      subst Distinct (sym (append_assoc done (w ∷ []) rest)) r.1,
    );
  }

pub atoms-read : (ns : List (List ℕ)) → Left AtomWritten 64 [] ns → Distinct ns
    → Reads (said [] [] [] 0 0 [] [] []) (map Line.atom ns) (said ns [] [] 0 0 [] [] [])
atoms-read ns l d = segment Line.atom with_atoms Ready atom-step ns (l, d)
