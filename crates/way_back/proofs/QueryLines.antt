-- The lines of queries are read as these queries. Assumes nothing.
use mathlib.Core.Path.{◌≡◌, refl, ap, ◌∙◌}
use mathlib.Core.Bool.{true}
use mathlib.Core.List.{List, [], ◌∷◌, ◌++◌, map}
use Prim.Native.Nat.{ℕ, ◌≤◌}
use native.Mathlib.Omega.{arith}
use lib.ListN.{length}
use Rattle.logic.specs.Formula.{Formula}
use Rattle.grammar.specs.Line.{is_line}
use Rattle.grammar.proofs.LineLaws.{sentence-is-line}
use Rattle.names.specs.Names.{atom_of}
use Rattle.store.specs.Saying.{ClauseRow, ConstraintRow, Said, said}
use Rattle.store.proofs.Saying.{query-said, query_no_cost}
use Rattle.checks.proofs.Naming.{name-lettered}
use Rattle.reader.proofs.WellFormed.{QueryFormed}
use Rattle.writing.specs.Lines.{decoded, query_line}
use Rattle.writing.proofs.Decoded.{DecodedAs, decoded-depth, decoded_as}
use Rattle.way_back.proofs.FittingLines.{Reads, Step, segment, Written, Left, left-room, left-on}
use Rattle.way_back.proofs.KnownNames.{NamedBy, Usable, usable, known-says, known-fits, room-rows}

module _ (ns : List (List ℕ)) (name : ℕ → List ℕ) (h : NamedBy ns name) where
  query_as : (f : Formula) → QueryFormed (length ns) f → DecodedAs (atom_of ns) (Usable ns) f (decoded name f)
  query_as f q =
      decoded_as (atom_of ns) name (length ns) (Usable ns) h.finds
      (λ a l. name-lettered (name a) (h.are_names a l)) (usable ns name h) f q.over-atoms

  query-is-line : (f : Formula) → QueryFormed (length ns) f → is_line (query_line name f) ≡ true
  query-is-line f q = sentence-is-line (decoded name f) ∙ (query_as f q).is-sentence

  abbrev pub QueryWritten : Formula → Type 0
  QueryWritten f = Written (query_line name) (QueryFormed (length ns)) f

  module _ (es : List ℕ) (es-few : length es ≤ 1) (cs : List ClauseRow) (cs-few : length cs ≤ 256)
      (ds : List ConstraintRow) (ds-few : length ds ≤ 32) (p q : ℕ) where
    abbrev with_queries : List Formula → Said
    with_queries fs = said ns cs ds p q fs [] es

    query-step : (done : List Formula) (f : Formula) (rest : List Formula) → Left QueryWritten 16 done (f ∷ rest)
        → Step (query_line name) with_queries (Left QueryWritten 16) done f rest
    query-step done f rest r =
        let d = query_as f r.each.0.0 in
        let m = left-room QueryWritten 16 done f rest r in
        let st = with_queries done in
        record {
          fits = known-fits st (query_line name f) d.names (query-is-line f r.each.0.0) r.each.0.1
              (omega (arith, decoded-depth d, r.each.0.0.not_deep))
              (rw (query_no_cost st (decoded name f))
              (room-rows st _ refl refl h.few (omega arith) (omega arith) (omega arith))) (omega arith);
          says = known-says st (query_line name f) d.names ∙ query-said st (decoded name f)
              ∙ ap (λ g. with_queries (done ++ (g ∷ []))) d.back;
          on = left-on QueryWritten 16 done f rest r;
        }

    pub queries-read : (fs : List Formula) → Left QueryWritten 16 [] fs
        → Reads (said ns cs ds p q [] [] es) (map (query_line name) fs) (said ns cs ds p q fs [] es)
    queries-read fs r = segment (query_line name) with_queries (Left QueryWritten 16) query-step fs r
