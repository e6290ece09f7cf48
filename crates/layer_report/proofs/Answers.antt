-- What is told of a file that was read into tables of exactly their sizes: the refusal of one that is refused, and the
-- entries that *layers* answers for an accepted one. Assumes nothing.
use mathlib.Core.Path.{◌≡◌, refl, sym, ap, ◌∙◌}
use mathlib.Core.Bool.{Bool, true, false}
use mathlib.Core.List.{List, []}
use Prim.Native.Nat.{ℕ, ◌≤◌}
use native.Mathlib.Omega.{arith}
use lib.ListN.{length, take}
use Rattle.words.specs.Choice.{pick}
use Rattle.table.specs.Filled.{padded}
use Rattle.table.proofs.Filled.{padded-length, padded-front}
use Rattle.program.proofs.Soundness.{sound-full}
use Rattle.names.specs.Names.{rows_of}
use Rattle.names.specs.Row.{name_in}
use Rattle.store.specs.Lent.{Lent}
use Rattle.store.specs.Saying.{Said}
use Rattle.store.specs.Tables.{case_said}
use Rattle.std.specs.Prelude.{Result, Ok, Err, IsOk, IfOk}
use Rattle.refusals.specs.declared.Refusal.{Refusal}
use Rattle.refusals.specs.Refusal.{refused_as}
use Rattle.refusals.proofs.Numbers.{number_some}
use Rattle.program.specs.declared.case.Case.{Case}
use Rattle.reader.specs.declared.read.Refused.{Refused}
use Rattle.reader.specs.Answers.{refusal_in, line_in, case_in}
use Rattle.reader.specs.Reading.{Outcome, said_in, read_file}
use Rattle.reader.specs.Operation.{ReadAs}
use Rattle.wording.specs.Text.{refusal_text}
use Rattle.report.specs.Report.{clause_table, name_of}
use Rattle.report.specs.Operation.{ReportShown}
use Rattle.report.proofs.Accepted.{said-table}
use Rattle.report.proofs.Reported.{FullTables, Accepted, accepted_report, refused-shown, refused_silent, accepted-sound}
use Rattle.layering.specs.declared.answer.Entries.{Entries}
use Rattle.layering.specs.declared.answer.Layers.{Layers}
use Rattle.layering.specs.Operation.{layers_refusal, numbers_in, entries_of, Answered, Layering}
use Rattle.layering.proofs.Answers.{refusal-none}
use Rattle.layer_report.specs.Entries.{Atoms, entries_text, layers_shown, ToldEntries, Told}
use Rattle.layer_report.specs.Report.{layered_said, RingSaid, layers_said, layers_text, LayersOf}
use Rattle.layer_report.specs.Operation.{LayersReported}
use Rattle.layer_report.proofs.Bounds.{entries_alike}
use Rattle.layer_report.proofs.Sayings.{entries_said, layers_told, numbers-count, entries_few, entries_atoms}

-- a file that is refused
pub refused_reported : {f : List ℕ} {t u : Lent} {r : Result Case Refused} {out outAfter : List ℕ}
    {q : Result ℕ Refusal}
    → FullTables t → ReadAs f t u r → (refusal_in r ≡ 0 → ⊥)
    → ReportShown (refusal_text (refusal_in r) (line_in r)) out q outAfter → LayersReported f out q outAfter
refused_reported {f} x h k s = record {
  text = layers_text [] f;
  text_of = record {
    ring = [];
    ring-is = λ st z e l. absurd (refused_silent x h k st z e);
    text-is = refl;
  };
  shown = refused-shown x h k (layers_said []) s;
}

-- what is shown of the answer q for the file f, with a table of names
pub record Shows (f names : List ℕ) (q : Layers) : Type 0 where
  pub told : Told names q
  pub text_of : LayersOf f (layers_shown (name_in names) q)

-- n entries, those of l, are told
module _ {f names : List ℕ} {n : ℕ} (l : List ℕ) (few : length l ≤ 64) (e : n ≡ length l) where
  numbers_shown : ToldEntries names true l → LayersOf f (entries_text (name_in names) true l)
      → Shows f names (Layers.Layered (entries_of n l))
  numbers_shown t o = rw e (record {
    told = (few, rw (padded-front 64 l few) t);
    text_of = rw (padded-front 64 l few) o;
  })

  ring_shown : ToldEntries names false l → LayersOf f (entries_text (name_in names) false l)
      → Shows f names (Layers.Ring (entries_of n l))
  ring_shown t o = rw e (record {
    told = (few, rw (padded-front 64 l few) t);
    text_of = rw (padded-front 64 l few) o;
  })

-- an accepted file, and a ring of it, where it isn't layered
module _ {f : List ℕ} {u : Lent} {c : Case} (a : Accepted f u c) (ring : List ℕ)
    (ring-is : layered_said a.said ≡ false → RingSaid a.said ring) where
  -- the entries told
  abbrev told_entries : List ℕ
  told_entries = entries_said a.said ring (layered_said a.said)

  few : length told_entries ≤ 64
  few = entries_few f a.said a.read_is ring (layered_said a.said) ring-is

  atoms : layered_said a.said ≡ false → Atoms told_entries
  atoms = entries_atoms f a.said a.read_is ring (layered_said a.said) ring-is

  names_alike : entries_text (name_in u.names) (layered_said a.said) told_entries
      ≡ entries_text (name_of a.said) (layered_said a.said) told_entries
  names_alike =
      entries_alike (name_in u.names) (name_of a.said)
      (rw a.names_are (said-table f a.said a.read_is)) (layered_said a.said) told_entries few atoms

  -- a file says one thing
  said-one : (st : Said) → read_file f ≡ Outcome.case st → a.said ≡ st
  said-one st e = ap said_in (sym a.read_is ∙ e)

  told : ToldEntries u.names (layered_said a.said) told_entries
  told = record {
    names_fit = omega (arith, ap length a.names_are, padded-length 1024 (rows_of a.said.names));
    few = few;
    ring-atoms = atoms;
  }

  text_of : LayersOf f (entries_text (name_in u.names) (layered_said a.said) told_entries)
  text_of = record {
    ring = ring;
    ring-is = λ st z e. rw (said-one st e) at ring-is;
    text-is = names_alike ∙ sym (a.text-is (layers_said ring) ∙ layers_told a.said ring);
  }

-- an accepted file, and what *layers* answers
module _ {f : List ℕ} {u : Lent} {c : Case} (a : Accepted f u c) where
  answered_shows : (q : Layers) → Answered c u.clauses q → Shows f u.names q
  answered_shows (Layers.Layered e) h =
      let z : layered_said a.said ≡ true = rw (a.case-is, a.clauses_are) at h.0 in
      let no : layered_said a.said ≡ false → RingSaid a.said [] = λ k. let w : true ≡ false = sym z ∙ k in cc in
      let t = rw z at (told a [] no) in
      let o = rw z at (text_of a [] no) in
      let l = rw z at (few a [] no) in
      let n = rw (a.case-is, a.clauses_are) at h.1 in
      rw n (numbers_shown (numbers_in (case_said a.said) (clause_table a.said)) l (sym (numbers-count a.said)) t o)
  answered_shows (Layers.Ring e) (z, l, r, n) =
      let z : layered_said a.said ≡ false = rw (a.case-is, a.clauses_are) at z in
      let ring : layered_said a.said ≡ false → RingSaid a.said l = λ k. rw (a.case-is, a.clauses_are) at r in
      rw n (ring_shown l (rw z at (few a l ring)) refl (rw z at (told a l ring)) (rw z at (text_of a l ring)))

  none : layers_refusal c u.clauses u.constraints u.formula ≡ 0
  none =
      let s = accepted-sound a in
      refusal-none c _ _ _ (sound-full c _ _ _ s, s)

  pub layers_is_ok : (r : Result Layers Refusal) → Layering c u.clauses u.constraints u.formula r → IsOk r
  layers_is_ok (Ok q) h = refl
  layers_is_ok (Err e) h = let n = number_some e in absurd (omega (arith, h.refusal_is, none))

  pub accepted_shows : {r : Result Layers Refusal} → Layering c u.clauses u.constraints u.formula r → {q : Layers}
      → r ≡ Ok q → Shows f u.names q
  accepted_shows h {q} e = answered_shows q (rw e at h.answered)
