-- What is claimed of a written case is so. Assumes nothing.
use mathlib.Core.Path.{◌≡◌}
use mathlib.Core.Bool.{true}
use Prim.Native.Nat.{ℕ, suc, ◌+◌}
use lib.ListN.{length}
use Rattle.std.specs.Prelude.{Result}
use Rattle.program.specs.declared.case.Case.{Case}
use Rattle.store.specs.Lent.{Lent, filled_with}
use Rattle.store.specs.Tables.{words_of, case_said}
use Rattle.store.proofs.FilledLent.{lent_same}
use Rattle.reader.specs.declared.read.Refused.{Refused}
use Rattle.reader.specs.Answers.{refusal_in, line_in, case_in}
use Rattle.reader.specs.Reading.{Outcome, read_file}
use Rattle.reader.specs.Operation.{tables_fit, early_refusal, ReadAs}
use Rattle.reader.proofs.FileSays.{accepted}
use Rattle.writing.specs.Used.{editions_in, said_of}
use Rattle.writing.specs.Operation.{case_text, write_refusal}
use Rattle.way_back.specs.Bodies.{body_sizes, AllFew, FirstLong}
use Rattle.way_back.specs.Claims.{SameUsed, WayBack, LongBodyRefused, AcceptedBack}
use Rattle.way_back.proofs.Early.{early-none}
use Rattle.way_back.proofs.SaidUsed.{said-used}
use Rattle.writing.proofs.Unrefused.{Unrefused, unrefused}
use Rattle.way_back.proofs.TextRead.{text-read, text-refused}
use Rattle.way_back.proofs.SaidBodies.{read-few}

-- a text that writing gives, read into tables that fit
module _ (c : Case) (t v u : Lent) (n : ℕ) (r : Result Case Refused) (h : write_refusal c t n ≡ 0)
    (fits : tables_fit v ≡ true)
    (a : ReadAs (case_text c t) v u r) where
  passed : Unrefused c t
  passed = unrefused c t n h

  early : early_refusal (case_text c t) v ≡ 0
  early = early-none (case_text c t) v fits passed.text-short

  -- where no body is long
  module _ (few : AllFew (body_sizes c t)) where
    said : read_file (case_text c t) ≡ Outcome.case (said_of c t)
    said = text-read c t n h few

    no_refusal : refusal_in r ≡ 0
    no_refusal = rw (early, said) at a.refusal_is

    found : case_in r ≡ case_said (said_of c t)
    found = rw (no_refusal, said) at a.case-is

    filled_are : u ≡ filled_with (words_of (said_of c t)) v
    filled_are =
        lent_same (rw (early, said) at a.clauses_are) (rw (early, said) at a.constraints_are)
        (rw (early, said) at a.formula-is) (rw (early, said) at a.names_are) (rw (early, said) at a.prices_are)

    back : (refusal_in r ≡ 0) × SameUsed c t (case_in r) u
    back = (no_refusal, rw (found, filled_are) (said-used c t v passed.can_write passed.tables-fit fits))

  -- where body k is the first long one
  module _ (k : ℕ) (f : FirstLong (body_sizes c t) k) where
    abbrev line : ℕ
    line = suc (c.atoms + length (editions_in c.edition) + k)

    refused : read_file (case_text c t) ≡ Outcome.refused 20 line
    refused = text-refused c t n h k f

    not_back : (refusal_in r ≡ 20) × (line_in r ≡ line)
    not_back = (rw (early, refused) at a.refusal_is, rw (early, refused) at a.line-is)

pub way_back : WayBack
way_back c t v u n r h fits few a = back c t v u n r h fits a few

pub long-body-refused : LongBodyRefused
long-body-refused c t v u n k r h fits f a = not_back c t v u n r h fits a k f

pub accepted-back : AcceptedBack
accepted-back f t u v w n r a h z e fits b =
    back (case_in r) u v w n a e fits b (read-few f t u r (accepted f t u r h z))
