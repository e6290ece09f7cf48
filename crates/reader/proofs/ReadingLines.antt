-- Laws of reading a file into tables of full size: they are zeroed first, and once more where it is refused.
-- Assumes nothing.
use mathlib.Core.Path.{◌≡◌, refl, sym, ap, ◌∙◌}
use mathlib.Core.List.{List}
use mathlib.Core.Bool.{true, false}
use Prim.Native.Nat.{ℕ}
use native.Mathlib.Omega.{arith}
use Rattle.std.specs.Prelude.{Result, Ok, Err, OnOk, is_err}
use Rattle.refusals.proofs.Numbers.{number_some}
use Rattle.program.specs.declared.case.Case.{Case}
use Rattle.store.specs.Lent.{Lent, filled_with}
use Rattle.store.specs.Saying.{Said, nothing_said}
use Rattle.store.specs.Tables.{words_of}
use Rattle.store.specs.Held.{Long, Kept}
use Rattle.store.proofs.FilledLent.{filled_with-kept, kept-filled_with, kept_trans-all}
use Rattle.store.proofs.KeptTables.{SameLengths, kept_lengths, kept-long}
use Rattle.reader.specs.declared.read.Refused.{Refused}
use Rattle.reader.specs.Answers.{refusal_in}
use Rattle.reader.specs.Reading.{Outcome, said_in, refusal_of, read_file}
use Rattle.reader.specs.Steps.{Zeroed, FileTaken, LinesRead}
use Rattle.reader.proofs.ZeroedTables.{zeroed-kept}

refused-nothing : (o : Outcome) → (refusal_of o ≡ 0 → ⊥) → said_in o ≡ nothing_said
refused-nothing (Outcome.case st) h = absurd (h refl)
refused-nothing (Outcome.refused n k) h = refl

at_ok : {P : Type 0} (r : Result Case Refused) → is_err r ≡ false → OnOk r P → P
at_ok (Ok c) e h = h
at_ok (Err e) d h = cc

some-refusal : (r : Result Case Refused) → is_err r ≡ true → refusal_in r ≡ 0 → ⊥
some-refusal (Ok c) e z = cc
some-refusal (Err e) d z = let n = number_some e.refusal in omega arith

module _ {f : List ℕ} {t u v : Lent} {r : Result Case Refused} (z : Zeroed t u) (k : FileTaken f u v r) where
  kept : Kept t v
  kept = kept_trans-all t u (zeroed-kept t u z) v k.kept

  pub taken-long : Long t → Long v
  taken-long l = kept-long t v kept l

  pub taken-read : is_err r ≡ false → LinesRead f t v r
  taken-read e = record {
    answer-is = k.answer-is;
    tables_are = at_ok r e k.tables_are ∙ kept-filled_with t v kept (words_of (said_in (read_file f)));
  }

  pub zeroed-read : {w : Lent} → is_err r ≡ true → Zeroed v w → LinesRead f t w r
  zeroed-read e y =
      let n = refused-nothing (read_file f) (λ z. some-refusal r e (k.answer-is.refusal_is ∙ z)) in
      record {
        answer-is = k.answer-is;
        tables_are =
            y.tables_are ∙ kept-filled_with t v kept (words_of nothing_said)
            ∙ ap (λ (st : Said). filled_with (words_of st) t) (sym n);
      }

pub read_lengths : {f : List ℕ} {t u : Lent} {r : Result Case Refused} → LinesRead f t u r → SameLengths t u
read_lengths {f} {t} {u} h =
    kept_lengths t u (filled_with-kept (words_of (said_in (read_file f))) t u h.tables_are)
