-- The checks of a line from 6 on, and what taking it leaves: one law for each way out of `take_form` and `take_line`.
-- Assumes nothing.
use mathlib.Core.Path.{◌≡◌, refl, sym, ap, ap₂, ◌∙◌}
use mathlib.Core.Bool.{Bool, ◌&&◌}
use mathlib.Core.List.{List}
use Prim.Native.Nat.{ℕ, zero, suc, ◌+◌, ◌-◌, ◌≤◌, ◌<◌}
use native.Mathlib.Omega.{arith}
use Rattle.std.specs.Prelude.{Option, Some, unwrap_or, Result, Ok, Err}
use lib.Dec.{ltb}
use borrow.Author.Tests.{lt-leb, le-leb}
use Rattle.words.specs.Choice.{first_of, first_failed}
use Rattle.words.specs.Bits.{has}
use Rattle.refusals.specs.declared.Refusal.{Refusal}
use Rattle.refusals.specs.Refusal.{number_of}
use Rattle.refusals.proofs.Numbers.{number_some}
use Rattle.program.specs.declared.case.Case.{Case}
use Rattle.text.specs.Tokens.{tokens}
use Rattle.text.specs.Words.{names_in}
use Rattle.table.proofs.Kept.{kept_refl}
use Rattle.grammar.specs.declared.brings.Brings.{Brings}
use Rattle.grammar.specs.declared.line.Form.{Form}
use Rattle.grammar.specs.Line.{line_names}
use Rattle.grammar.specs.Bringing.{brings}
use Rattle.grammar.specs.LineOf.{line_of}
use Rattle.grammar.specs.Parsing.{Brought}
use Rattle.grammar.proofs.LineLaws.{line-names}
use Rattle.names.specs.Names.{with_names}
use Rattle.names.specs.Row.{rows, rows_through}
use Rattle.names.proofs.Adding.{with_names-again}
use Rattle.names.proofs.Interning.{LineInterned, rows-kept, line-interned}
use Rattle.names.proofs.Short.{line-named}
use Rattle.store.specs.Lent.{Lent, lent}
use Rattle.store.specs.Masks.{with_atom}
use Rattle.store.specs.Saying.{Said, is_second_cost}
use Rattle.store.specs.Held.{Long, Held, Kept}
use Rattle.store.specs.Stored.{Storable, StoredAs}
use Rattle.store.proofs.FilledLent.{lent_same, kept_refl-all, kept_trans-all}
use Rattle.store.proofs.KeptTables.{SameLengths, kept_lengths, kept-long}
use Rattle.store.proofs.Held.{with_atom_count, names-held, named-held}
use Rattle.checks.specs.declared.look.Looked.TheVariants as looked
use Rattle.checks.specs.declared.progress.Progress.{Progress}
use Rattle.checks.specs.Checks.{named_with, text_checks, room_checks, edition_checks, form_refusal, line_refusal}
use Rattle.checks.specs.Checks.{said_after}
use Rattle.checks.specs.Looked.{Formed, LookedAs}
use Rattle.checks.specs.Progress.{CostAtomIs, Reached}
use Rattle.checks.specs.Took.{Took, TakenAs, FormTaken, LineTaken}
use Rattle.checks.proofs.Costed.{second-same, costed_same, editions-after}
use Rattle.checks.proofs.Passing.{RoomPasses, text_number, room_number, edition_number, form-refusal-is}
use Rattle.checks.proofs.Passing.{room-passes, text-passes, many-refused}

abbrev pub progress : Case → ℕ → ℕ → Progress
progress c w n = record { found = c; costed = w; editions = n }

first_of-some : (n m : ℕ) → (n ≡ 0 → ⊥) → first_of n m ≡ n
first_of-some zero m h = absurd (h refl)
first_of-some (suc n) m h = refl

first_of-refusal : (r : Refusal) (m : ℕ) → first_of (number_of r) m ≡ number_of r
first_of-refusal r m = first_of-some (number_of r) m (λ z. let s = number_some r in omega arith)

-- a line refused with r
refused-took : {n : ℕ} {after : Said} {r : Refusal} {u : Lent} → n ≡ number_of r → Took n after (Err r) u
refused-took e = record { refusal_is = sym e; reached = tt }

-- what is taken keeps the lengths of the tables
pub taken_lengths : {n : Said → ℕ} {after : Said → Said} {p : Progress} {t : Lent}
    {r : Result Progress Refusal} {u : Lent} → TakenAs n after p t r u → SameLengths t u
taken_lengths {t = t} {u = u} h = kept_lengths t u h.kept

-- By the form of the line

-- the form x of the line l brings b, and n names are in the table u with those of l
module _ {l : List ℕ} {x : Form} (f : Formed l x) {b : Brings} (g : Brought (Some x) b) where
  brought : b ≡ brings (line_of (tokens l))
  brought = g l _ f.form-is

  text-number : {k : ℕ} → k ≡ first_failed (text_checks (names_in (tokens l)) b) → k ≡ text_number (tokens l)
  text-number e = rw brought at e

  pub text-refused : {r : Refusal} {p : Progress} {t : Lent}
      → number_of r ≡ first_failed (text_checks (names_in (tokens l)) b) → FormTaken l p t (Err r) t
  text-refused {r} {p} {t} e = record {
    kept = kept_refl-all t;
    took = λ st h. refused-took (form-refusal-is st (tokens l) ∙ rw (← text-number e) (first_of-refusal r _));
  }

  -- the line passes 6, 7 and 20, and n names are in the table u with its names
  module _ (e : 0 ≡ first_failed (text_checks (names_in (tokens l)) b)) (p : Progress) {cl co fo na pr : List ℕ}
      (long : Long (lent cl co fo na pr)) {n : ℕ} {u : List ℕ}
      (i : rows n u ≡ rows_through (rows p.found.atoms na) (names_in (tokens l))) where
    abbrev c : Case
    c = p.found

    names-kept : Kept (lent cl co fo na pr) (lent cl co fo u pr)
    names-kept =
        lent_same (kept_refl _ cl) (kept_refl _ co) (kept_refl _ fo) (rows-kept c.atoms na _ n u i)
        (kept_refl _ pr)

    names-long-kept : Long (lent cl co fo u pr)
    names-long-kept = kept-long _ _ names-kept long

    -- the refusal of the line is that of the checks from 8 on
    late-number : (st : Said) → form_refusal st (tokens l) ≡ first_of (room_number st (tokens l))
        (edition_number st (tokens l))
    late-number st = form-refusal-is st (tokens l) ∙ rw (← text-number e)

    module _ (st : Said) (h : Held st c (lent cl co fo na pr)) where
      abbrev named : Said
      named = named_with st (tokens l)

      interned : LineInterned st.names (names_in (tokens l)) n u
      interned =
          line-interned st.names _ na n u (names-held st c _ h) long.names-long
          (line-named l (text-passes _ b (sym e)).names-short) (rw h.case-is at i)

      -- the names of the line are known with it
      known : with_names named.names (line_names (line_of (tokens l))) ≡ named.names
      known =
          ap (with_names named.names) (sym (line-names (tokens l) f.is-line))
          ∙ with_names-again st.names (names_in (tokens l))

      named-is : n ≤ 64 → Held named (with_atom_count c n) (lent cl co fo u pr)
      named-is few = named-held st c _ h (names_in (tokens l)) n u interned few

    -- there is no room for them
    pub names-many : 64 < n → FormTaken l p (lent cl co fo na pr) (Err Refusal.ManyNames) (lent cl co fo u pr)
    names-many q = record {
      kept = names-kept;
      took = λ st g.
          let m = many-refused st (tokens l) ((interned st g.held).full q) in
          refused-took (late-number st ∙ rw (← m));
    }

    -- there is, a is the atom of a cost, and s tells whether it has one
    module _ (few : n ≤ 64) {a : Option ℕ} (atom : CostAtomIs l u n a) {s : Bool}
        (m : s ≡ (ltb (unwrap_or a 64) 64 && has p.costed (unwrap_or a 64))) where
      abbrev number : ℕ
      number = first_failed (room_checks n c.clauses c.constraints c.formulas s b)

      module _ (st : Said) (reached : Reached st p (lent cl co fo na pr)) where
        second-told : s ≡ is_second_cost (named st reached.held) (line_of (tokens l))
        second-told =
            m ∙ second-same _ (with_atom_count c n) _ (named-is st reached.held few) names-long-kept
            (line_of (tokens l)) (known st reached.held) atom.atom-is reached.costed_are

        room-same : number ≡ room_number st (tokens l)
        room-same =
            let h = reached.held in
            let names = (interned st h).fits few in
            rw (brought, names, second-told, h.case-is)

        edition-same : first_failed (edition_checks p.editions b) ≡ edition_number st (tokens l)
        edition-same = rw (brought, reached.editions_are)

        form-number : form_refusal st (tokens l) ≡ first_of number (first_failed (edition_checks p.editions b))
        form-number = late-number st ∙ rw (room-same, edition-same)

      pub room-refused : {r : Refusal} → number_of r ≡ number
          → FormTaken l p (lent cl co fo na pr) (Err r) (lent cl co fo u pr)
      room-refused {r} d = record {
        kept = names-kept;
        took = λ st g. refused-took (form-number st g ∙ rw (← d) (first_of-refusal r _));
      }

      -- the line passes from 8 to 10
      module _ (d : 0 ≡ number) where
        fits : RoomPasses n c.clauses c.constraints c.formulas s b
        fits = room-passes (sym d)

        -- 21 decides
        last-number : (st : Said) → Reached st p (lent cl co fo na pr)
            → form_refusal st (tokens l) ≡ first_failed (edition_checks p.editions b)
        last-number st g = form-number st g ∙ rw (← d)

        pub edition-refused : p.editions ≤ 1 → 1 - p.editions < b.editions
            → FormTaken l p (lent cl co fo na pr) (Err Refusal.SecondEdition) (lent cl co fo u pr)
        edition-refused one more = record {
          kept = names-kept;
          took = λ st g.
              refused-took (last-number st g ∙ rw (lt-leb (p.editions + b.editions) 1 (omega arith)));
        }

        pub form_storable : Storable l (Some x) (with_atom_count c n) (line_of (tokens l))
        form_storable = record {
          short = f.short;
          form-is = f.form-is;
          atoms-few = few;
          room = rw (← brought) (record {
            clauses_fit = fits.clauses-few;
            constraints_fit = fits.constraints-few;
            queries_fit = fits.queries-few;
            price-fits = fits.price-few;
            supplement-fits = fits.supplement-few;
          });
        }

        pub form-taken : {r : Case} {v : Lent} {w : ℕ} → p.editions ≤ 1 → b.editions ≤ 1 - p.editions
            → StoredAs (line_of (tokens l)) (with_atom_count c n) (lent cl co fo u pr) r v
            → w ≡ with_atom p.costed (unwrap_or a 64)
            → FormTaken l p (lent cl co fo na pr) (Ok (progress r w (p.editions + b.editions))) v
        form-taken {r} {v} {w} one more stored q = record {
          kept = kept_trans-all _ _ names-kept v stored.kept;
          took = λ st g.
              let held = named-is st g.held few in
              let all = known st g.held in
              let once = sym (second-told st g) ∙ fits.not-second in
              record {
                refusal_is = sym (last-number st g ∙ rw (le-leb (p.editions + b.editions) 1 (omega arith)));
                reached = record {
                  held = stored.held (named st g.held) held all once;
                  costed_are =
                      q ∙ costed_same _ (with_atom_count c n) _ held names-long-kept (line_of (tokens l)) all
                      atom.atom-is g.costed_are;
                  editions_are =
                      ap₂ ◌+◌ g.editions_are (ap (λ (x : Brings). x.editions) brought)
                      ∙ sym (editions-after (named st g.held) (line_of (tokens l)));
                  editions-few = omega arith;
                };
              };
        }

-- By what a look at the line finds

module _ {l : List ℕ} where
  pub line_refused : {r : Refusal} {p : Progress} {t : Lent} → LookedAs l (Err r) → LineTaken l p t (Err r) t
  unfolding line_refusal
  line_refused {r} {p} {t} a =
      record { kept = kept_refl-all t; took = λ st h. refused-took (rw (← a.refusal_is) (first_of-refusal r _)) }

  pub comment_taken : {p : Progress} {t : Lent} → LookedAs l (Ok looked.Comment) → LineTaken l p t (Ok p) t
  unfolding line_refusal said_after
  comment_taken {p} {t} a = record {
    kept = kept_refl-all t;
    took = λ st h. record { refusal_is = rw (← a.refusal_is, a.told); reached = rw a.told h };
  }

  pub line_taken : {x : Form} {p : Progress} {t : Lent} {k : Result Progress Refusal} {u : Lent}
      → LookedAs l (Ok (looked.Line x)) → FormTaken l p t k u → LineTaken l p t k u
  unfolding line_refusal said_after
  line_taken a h =
      record { kept = h.kept; took = λ st k. rw (← a.refusal_is, a.told.no_comment) (h.took st k) }
