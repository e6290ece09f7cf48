-- Edition lines, of which there is one at most, are read as their editions. Assumes nothing.
use mathlib.Core.Path.{◌≡◌, refl, ◌∙◌}
use mathlib.Core.Bool.{true}
use mathlib.Core.List.{List, [], ◌∷◌, map}
use Prim.Native.Nat.{ℕ, ◌≤◌}
use native.Mathlib.Omega.{arith}
use lib.ListN.{length}
use Rattle.grammar.specs.Line.{Line, is_edition, is_line}
use Rattle.grammar.specs.Bringing.{editing}
use Rattle.grammar.proofs.LineLaws.{edition-is-line}
use Rattle.store.specs.Saying.{Said, said}
use Rattle.store.proofs.Saying.{edition-said, edition_no_cost}
use Rattle.reader.proofs.WellFormed.{IsEdition}
use Rattle.writing.proofs.Editions.{by_edition}
use Rattle.way_back.proofs.FittingLines.{Reads, Step, segment, Written, Left, left-room, left-on}
use Rattle.way_back.proofs.KnownNames.{known-says, known-fits, room-rows}

edition-line : (e : ℕ) → IsEdition e → is_line (Line.edition e) ≡ true
edition-line e h = edition-is-line e ∙ by_edition (λ i. is_edition i ≡ true) refl refl e h

abbrev pub EditionWritten : ℕ → Type 0
EditionWritten e = Written Line.edition IsEdition e

module _ (ns : List (List ℕ)) (few : length ns ≤ 64) where
  abbrev with_editions : List ℕ → Said
  with_editions es = said ns [] [] 0 0 [] [] es

  edition-step : (done : List ℕ) (e : ℕ) (rest : List ℕ) → Left EditionWritten 1 done (e ∷ rest)
      → Step Line.edition with_editions (Left EditionWritten 1) done e rest
  edition-step done e rest r =
      let m = left-room EditionWritten 1 done e rest r in
      let st = with_editions done in
      record {
        fits = known-fits st (Line.edition e) tt (edition-line e r.each.0.0) r.each.0.1 (omega arith)
            (rw (edition_no_cost st e)
            (room-rows st editing refl refl few (omega arith) (omega arith) (omega arith))) (omega arith);
        says = known-says st (Line.edition e) tt ∙ edition-said st e;
        on = left-on EditionWritten 1 done e rest r;
      }

  pub editions-read : (es : List ℕ) → Left EditionWritten 1 [] es
      → Reads (said ns [] [] 0 0 [] [] []) (map Line.edition es) (said ns [] [] 0 0 [] [] es)
  editions-read es r = segment Line.edition with_editions (Left EditionWritten 1) edition-step es r
