-- What is claimed of reading a load is so. Assumes nothing.
use mathlib.Core.Path.{◌≡◌, refl, ◌∙◌}
use mathlib.Core.Bool.{true, false}
use mathlib.Core.Logic.{inl, inr}
use Prim.Native.Nat.{ℕ}
use native.Mathlib.Omega.{arith}
use lib.ListN.{length-map}
use Rattle.words.proofs.Tests.{by_test}
use Rattle.std.specs.Prelude.{Result}
use Rattle.program.specs.declared.case.Case.{Case}
use Rattle.store.specs.Lent.{Lent}
use Rattle.store.specs.Saying.{Said}
use Rattle.store.specs.Tables.{case_said}
use Rattle.store.proofs.Saying.{last_none}
use Rattle.reader.specs.declared.read.Refused.{Refused}
use Rattle.reader.specs.Answers.{refusal_in, line_in, case_in}
use Rattle.reader.specs.Reading.{Outcome, settings_few, read_file}
use Rattle.reader.specs.Operation.{tables_fit, early_refusal, ReadAs}
use Rattle.way_back.proofs.Early.{early-none}
use Rattle.loading.specs.Load.{load_text}
use Rattle.loading.specs.Operation.{is_load}
use Rattle.loading.proofs.Drawing.{clause_states, states_length}
use Rattle.loading.proofs.Names.{load_names-length}
use Rattle.loading.proofs.Sizes.{load_limits}
use Rattle.loading.proofs.Theorems.{load_fits}
use Rattle.load_reading.specs.Claims.{LoadReads, Holds, LoadHolds}
use Rattle.load_reading.proofs.DrawnClauses.{row_drawn}
use Rattle.load_reading.proofs.LoadLines.{said_drawn, file-read}

-- a load, read into tables that fit
module _ (s n c : ℕ) (v u : Lent) (r : Result Case Refused) (h : is_load n c ≡ true) (fits : tables_fit v ≡ true)
    (a : ReadAs (load_text s n c) v u r) where
  abbrev st : Said
  st = said_drawn s n c

  early : early_refusal (load_text s n c) v ≡ 0
  early = early-none (load_text s n c) v fits (omega (arith, load_fits s n c h))

  -- the settings are few
  module _ (t : settings_few st ≡ true) where
    said : read_file (load_text s n c) ≡ Outcome.case st
    said = file-read s n c (load_limits n c h) ∙ rw t

    no_refusal : refusal_in r ≡ 0
    no_refusal = rw (early, said) at a.refusal_is

    found : case_in r ≡ case_said st
    found = rw (no_refusal, said) at a.case-is

    holds : Holds n c (case_in r)
    holds = rw found (record {
      atoms_are = load_names-length n;
      clause-count-is = length-map (clause_states s c) (row_drawn n) ∙ states_length s c;
      constraint-count-is = refl;
      formula-count-is = refl;
      plain-is = refl;
      negated-is = refl;
      edition-is = last_none 1;
    })

  -- they are not
  module _ (t : settings_few st ≡ false) where
    refused : read_file (load_text s n c) ≡ Outcome.refused 12 0
    refused = file-read s n c (load_limits n c h) ∙ rw t

    refusal_is : refusal_in r ≡ 12
    refusal_is = rw (early, refused) at a.refusal_is

    line-is : line_in r ≡ 0
    line-is = rw (early, refused) at a.line-is

pub load_reads : LoadReads
load_reads s n c v u r h fits a =
    by_test (settings_few (said_drawn s n c))
    (λ t. inl (no_refusal s n c v u r h fits a t))
    (λ t. inr (refusal_is s n c v u r h fits a t, line-is s n c v u r h fits a t))

pub load_holds : LoadHolds
load_holds s n c v u r h fits a z =
    by_test (settings_few (said_drawn s n c)) (holds s n c v u r h fits a)
    (λ t. absurd (omega (arith, refusal_is s n c v u r h fits a t)))
