-- The lines of drawn clauses are read as these clauses, over the names of a load.
--
--   row_drawn n s    what the clause says that is drawn from the state s
-- Assumes nothing.
use mathlib.Core.Path.{◌≡◌, refl, sym, ap, ◌∙◌}
use mathlib.Core.Bool.{true}
use mathlib.Core.List.{List, [], ◌∷◌, ◌++◌, map, map-append}
use Prim.Native.Nat.{ℕ, ◌+◌, ◌%◌, ◌≤◌, ◌<◌}
use native.Mathlib.Nat.{mod-lt}
use native.Mathlib.Omega.{arith}
use lib.ListN.{length, length-append, length-map}
use Rattle.text.proofs.Each.{Each}
use Rattle.grammar.specs.Line.{Literal, is_line, line_names}
use Rattle.grammar.specs.Bringing.{brings}
use Rattle.grammar.proofs.LineLaws.{clause-is-line}
use Rattle.store.specs.Saying.{ClauseRow, Said, said, clause_row, is_second_cost}
use Rattle.store.proofs.Saying.{clause-said, clause_no_cost}
use Rattle.way_back.proofs.Fits.{after, RoomFor}
use Rattle.way_back.proofs.FittingLines.{Reads, Step, segment}
use Rattle.way_back.proofs.KnownNames.{NamedBy, Usable, usable, known-says, known-fits, room-rows}
use Rattle.way_back.proofs.Bodies.{body-named}
use Rattle.loading.specs.Draws.{state_after, draw}
use Rattle.loading.specs.Load.{load_name, literals_drawn, kind_drawn, literal_count, clause_drawn, clauses_drawn}
use Rattle.loading.proofs.Drawing.{kind-le, drawn_takes, literals-length, drawn_names, clause_states, clauses_are}
use Rattle.loading.proofs.Drawing.{states_length}
use Rattle.loading.proofs.Names.{load_names, load_names-length, load_name-lettered, load_name-is-name, load_name-atom}
use Rattle.loading.proofs.Sizes.{clause-size}

abbrev body_drawn : ℕ → ℕ → List Literal
body_drawn n s = literals_drawn n (state_after 3 s) (literal_count s)

abbrev pub row_drawn : ℕ → ℕ → ClauseRow
row_drawn n s = clause_row (load_names n) (kind_drawn s) (load_name (draw 1 s % n)) (body_drawn n s)

pub load_named : (n : ℕ) → n ≤ 64 → NamedBy (load_names n) load_name
load_named n few =
    let e = load_names-length n in
    record {
      few = omega arith;
      finds = λ a l. load_name-atom n a few (omega arith);
      are_names = λ a l. load_name-is-name a (omega arith);
    }

module _ (n : ℕ) (some : 1 ≤ n) (few : n ≤ 64) where
  abbrev ns : List (List ℕ)
  ns = load_names n

  pub name-usable : (a : ℕ) → a < n → Usable ns (load_name a)
  name-usable a l = usable ns load_name (load_named n few) a (rw (load_names-length n) l)

  drawn_usable : (s : ℕ) → Usable ns (load_name (draw 1 s % n))
  drawn_usable s = name-usable (draw 1 s % n) (mod-lt (draw 1 s) some)

  -- ---- one clause
  module _ (s : ℕ) where
    clause-usable : Each (Usable ns) (line_names (clause_drawn n s))
    clause-usable = (drawn_usable s, drawn_names n (Usable ns) drawn_usable (state_after 3 s) (literal_count s))

    clause-line : is_line (clause_drawn n s) ≡ true
    clause-line =
        clause-is-line (record {
          kind-lt = omega (arith, kind-le s);
          head = load_name-lettered (draw 1 s % n);
          body = body-named ns (body_drawn n s) clause-usable.1;
          fits = rw (literals-length n (state_after 3 s) (literal_count s)) (drawn_takes s);
        })

  -- ---- behind the clauses drawn from the states done
  abbrev with_drawn : List ℕ → Said
  with_drawn done = said ns (map (row_drawn n) done) [] 0 0 [] [] []

  abbrev Ready : List ℕ → List ℕ → Type 0
  Ready done rest = length done + length rest ≤ 256

  module _ (done : List ℕ) (s : ℕ) where
    clause-room : length done < 256
        → RoomFor (with_drawn done) (is_second_cost (with_drawn done) (clause_drawn n s)) (brings (clause_drawn n s))
    clause-room l =
        let k = load_names-length n in
        let m = length-map done (row_drawn n) in
        rw (clause_no_cost (with_drawn done) (kind_drawn s) (load_name (draw 1 s % n)) (body_drawn n s))
        (room-rows (with_drawn done) _ refl refl (omega arith) (omega arith) (omega arith) (omega arith))

    clause-says : after (with_drawn done) (clause_drawn n s) ≡ with_drawn (done ++ (s ∷ []))
    clause-says =
        known-says (with_drawn done) (clause_drawn n s) (clause-usable s)
        ∙ clause-said (with_drawn done) (kind_drawn s) (load_name (draw 1 s % n)) (body_drawn n s)
        ∙ ap (λ cs. said ns cs [] 0 0 [] [] []) (sym (map-append (row_drawn n) done (s ∷ [])))

  clause-step : (done : List ℕ) (s : ℕ) (rest : List ℕ) → Ready done (s ∷ rest)
      → Step (clause_drawn n) with_drawn Ready done s rest
  clause-step done s rest r = record {
    fits = known-fits (with_drawn done) (clause_drawn n s) (clause-usable s) (clause-line s)
        (omega (arith, clause-size n some few s)) (omega arith) (clause-room done s (omega arith)) (omega arith);
    says = clause-says done s;
    on = omega (arith, length-append done (s ∷ []));
  }

  pub drawn_read : (s c : ℕ) → c ≤ 256
      → Reads (said ns [] [] 0 0 [] [] []) (clauses_drawn n s c)
      (said ns (map (row_drawn n) (clause_states s c)) [] 0 0 [] [] [])
  drawn_read s c h =
      rw (clauses_are n s c)
      (segment (clause_drawn n) with_drawn Ready clause-step (clause_states s c) (omega (arith, states_length s c)))
