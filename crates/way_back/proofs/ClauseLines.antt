-- The lines of clauses and constraints are read as these clauses and constraints. Assumes nothing.
use mathlib.Core.Path.{◌≡◌, refl, ap, ◌∙◌}
use mathlib.Core.Bool.{true}
use mathlib.Core.List.{List, [], ◌∷◌, ◌++◌, map}
use Prim.Native.Nat.{ℕ, ◌≤◌, ◌<◌}
use native.Mathlib.Omega.{arith}
use lib.Dec.{ltb}
use lib.ListN.{length}
use borrow.Author.Tests.{ltb-true}
use Rattle.text.proofs.ByteLaws.{and_true_both}
use Rattle.text.proofs.Each.{Each}
use Rattle.grammar.specs.Line.{Literal, takes, is_line, line_names}
use Rattle.grammar.specs.Bringing.{brings}
use Rattle.grammar.proofs.LineLaws.{clause-is-line, constraint-is-line}
use Rattle.store.specs.Saying.{ClauseRow, ConstraintRow, Said, said, clause_row, constraint_row, is_second_cost}
use Rattle.store.proofs.Saying.{clause-said, constraint-said, clause_no_cost, constraint_no_cost}
use Rattle.checks.proofs.Naming.{name-lettered}
use Rattle.reader.proofs.WellFormed.{ClauseFormed, ConstraintFormed}
use Rattle.writing.specs.Lines.{literals_for, clause_line, constraint_line}
use Rattle.way_back.proofs.Fits.{after, RoomFor}
use Rattle.way_back.proofs.FittingLines.{Reads, Step, segment, Written, Left, left-room, left-on}
use Rattle.way_back.proofs.KnownNames.{NamedBy, Usable, usable, known-says, known-fits, room-rows}
use Rattle.way_back.proofs.Bodies.{body-named, body-usable, plain-again, negated-again}
use Rattle.way_back.proofs.Bodies.{clause-takes, constraint-takes}

module _ (ns : List (List ℕ)) (name : ℕ → List ℕ) (h : NamedBy ns name) (es : List ℕ) (es-few : length es ≤ 1) where
  -- ---- clauses
  module _ (c : ClauseRow) (f : ClauseFormed (length ns) c) where
    abbrev body : List Literal
    body = literals_for name c.plain c.negated

    clause-back : clause_row ns c.kind (name c.head) body ≡ c
    clause-back =
        rw (
          h.finds c.head f.head-lt,
          plain-again ns name h c.plain c.negated f.below,
          negated-again ns name h c.plain c.negated f.below,
        )

    clause-usable : Each (Usable ns) (line_names (clause_line name c))
    clause-usable =
        (usable ns name h c.head f.head-lt, body-usable ns name h c.plain c.negated f.below)

    clause-line : is_line (clause_line name c) ≡ true
    clause-line =
        let t = and_true_both (ltb c.kind 3) (takes c.kind (length body))
        (clause-takes ns name h c.plain c.negated f.below c.kind f.shape) in
        clause-is-line (record {
          kind-lt = ltb-true c.kind 3 t.0;
          head = name-lettered (name c.head) clause-usable.0.0;
          body = body-named ns body clause-usable.1;
          fits = t.1;
        })

  abbrev pub ClauseWritten : ClauseRow → Type 0
  ClauseWritten c = Written (clause_line name) (ClauseFormed (length ns)) c

  abbrev with_clauses : List ClauseRow → Said
  with_clauses cs = said ns cs [] 0 0 [] [] es

  -- behind the clauses done
  module _ (done : List ClauseRow) (c : ClauseRow) (f : ClauseFormed (length ns) c) where
    abbrev clause_st : Said
    clause_st = with_clauses done

    clause-room : length done < 256
        → RoomFor clause_st (is_second_cost clause_st (clause_line name c)) (brings (clause_line name c))
    clause-room m =
        rw (clause_no_cost clause_st c.kind (name c.head) (body c f))
        (room-rows clause_st _ refl refl h.few (omega arith) (omega arith) (omega arith))

    clause-says : after clause_st (clause_line name c) ≡ with_clauses (done ++ (c ∷ []))
    clause-says =
        known-says clause_st (clause_line name c) (clause-usable c f)
        ∙ clause-said clause_st c.kind (name c.head) (body c f)
        ∙ ap (λ x. with_clauses (done ++ (x ∷ []))) (clause-back c f)

  clause-step : (done : List ClauseRow) (c : ClauseRow) (rest : List ClauseRow)
      → Left ClauseWritten 256 done (c ∷ rest)
      → Step (clause_line name) with_clauses (Left ClauseWritten 256) done c rest
  clause-step done c rest r =
      let f = r.each.0.0 in
      let m = left-room ClauseWritten 256 done c rest r in
      record {
        fits = known-fits (with_clauses done) (clause_line name c) (clause-usable c f) (clause-line c f)
            r.each.0.1 (omega arith) (clause-room done c f (omega arith)) (omega arith);
        says = clause-says done c f;
        on = left-on ClauseWritten 256 done c rest r;
      }

  pub clauses-read : (cs : List ClauseRow) → Left ClauseWritten 256 [] cs
      → Reads (said ns [] [] 0 0 [] [] es) (map (clause_line name) cs) (said ns cs [] 0 0 [] [] es)
  clauses-read cs r = segment (clause_line name) with_clauses (Left ClauseWritten 256) clause-step cs r

  -- ---- constraints
  module _ (c : ConstraintRow) (f : ConstraintFormed (length ns) c) where
    constraint-back : constraint_row ns c.kind (literals_for name c.plain c.negated) ≡ c
    constraint-back =
        rw (
          plain-again ns name h c.plain c.negated f.below,
          negated-again ns name h c.plain c.negated f.below,
        )

    constraint-usable : Each (Usable ns) (line_names (constraint_line name c))
    constraint-usable = body-usable ns name h c.plain c.negated f.below

    constraint-line : is_line (constraint_line name c) ≡ true
    constraint-line =
        constraint-is-line (record {
          kind-lt = f.kind-lt;
          body = body-named ns (literals_for name c.plain c.negated) constraint-usable;
          fits = constraint-takes ns name h c.plain c.negated f.below c.kind f.kind-lt f.some;
        })

  abbrev pub ConstraintWritten : ConstraintRow → Type 0
  ConstraintWritten c = Written (constraint_line name) (ConstraintFormed (length ns)) c

  module _ (cs : List ClauseRow) (few : length cs ≤ 256) where
    abbrev with_constraints : List ConstraintRow → Said
    with_constraints ds = said ns cs ds 0 0 [] [] es

    constraint-step : (done : List ConstraintRow) (c : ConstraintRow) (rest : List ConstraintRow)
        → Left ConstraintWritten 32 done (c ∷ rest)
        → Step (constraint_line name) with_constraints (Left ConstraintWritten 32) done c rest
    constraint-step done c rest r =
        let f = r.each.0.0 in
        let u = constraint-usable c f in
        let m = left-room ConstraintWritten 32 done c rest r in
        let st = with_constraints done in
        let l = literals_for name c.plain c.negated in
        record {
          fits = known-fits st (constraint_line name c) u (constraint-line c f) r.each.0.1 (omega arith)
              (rw (constraint_no_cost st c.kind l)
              (room-rows st _ refl refl h.few (omega arith) (omega arith) (omega arith))) (omega arith);
          says = known-says st (constraint_line name c) u ∙ constraint-said st c.kind l
              ∙ ap (λ x. with_constraints (done ++ (x ∷ []))) (constraint-back c f);
          on = left-on ConstraintWritten 32 done c rest r;
        }

    pub constraints-read : (ds : List ConstraintRow) → Left ConstraintWritten 32 [] ds
        → Reads (said ns cs [] 0 0 [] [] es) (map (constraint_line name) ds) (said ns cs ds 0 0 [] [] es)
    constraints-read ds r =
        segment (constraint_line name) with_constraints (Left ConstraintWritten 32) constraint-step ds r
