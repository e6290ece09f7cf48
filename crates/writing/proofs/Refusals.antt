-- The refusals of writing one after the other, and the text where there is none. Assumes nothing.
use mathlib.Core.Path.{◌≡◌, sym, ◌∙◌}
use mathlib.Core.Bool.{Bool, true, false}
use mathlib.Core.List.{List}
use Prim.Native.Nat.{ℕ, ◌≤◌, ◌<◌}
use native.Mathlib.Nat.{zero-add}
use lib.ListN.{length}
use Rattle.std.specs.Prelude.{Ok, Err}
use borrow.Author.Tests.{le-leb, lt-leb}
use Rattle.program.specs.declared.case.Case.{Case}
use Rattle.store.specs.Lent.{Lent}
use Rattle.reader.specs.Operation.{tables_fit}
use Rattle.refusals.specs.declared.Refusal.{Refusal}
use Rattle.refusals.specs.Refusal.{number_of}
use Rattle.output.proofs.Showing.{shown-refused, shown-written}
use Rattle.spelling.specs.declared.Page.{Page}
use Rattle.spelling.specs.Page.{Sets}
use Rattle.spelling.proofs.Pages.{sets-writes}
use Rattle.writing.specs.Operation.{writable, case_lines, case_text, write_refusal, WrittenAs}
use Rattle.writing.specs.Steps.{Fit, first_page}

-- where both tests hold
pub fits : {c : Case} {t : Lent} {b w : Bool} → b ≡ tables_fit t → b ≡ true → w ≡ writable c t → w ≡ true
    → Fit c t
fits e h f k = record { tables-fit = sym e ∙ h; is-writable = sym f ∙ k }

module _ (c : Case) (t : Lent) (out : List ℕ) where
  refused-with : (r : Refusal) → write_refusal c t (length out) ≡ number_of r → WrittenAs c t out (Err r) out
  refused-with r e = rw e (shown-refused r (case_text c t) out)

  -- the tests of the tables and of the case
  module _ {b : Bool} (e : b ≡ tables_fit t) where
    pub tables-short : b ≡ false → WrittenAs c t out (Err Refusal.ShortTable) out
    unfolding write_refusal
    tables-short h = refused-with Refusal.ShortTable first
      where
        first : write_refusal c t (length out) ≡ 1
        first = rw (← e, h)

    module _ (h : b ≡ true) {w : Bool} (f : w ≡ writable c t) where
      pub not-writable : w ≡ false → WrittenAs c t out (Err Refusal.Unsound) out
      unfolding write_refusal
      not-writable k = refused-with Refusal.Unsound second
        where
          second : write_refusal c t (length out) ≡ 13
          second = rw (← e, h, ← f, k)

  -- the first pass, to a spare output
  module _ (f : Fit c t) {spare spare₁ : List ℕ} {g : Page} (s : Sets (case_lines c t) spare first_page g spare₁) where
    size : g.at ≡ length (case_text c t)
    size = s.place_is ∙ zero-add _

    pub line-long : g.long ≡ true → WrittenAs c t out (Err Refusal.LongText) out
    unfolding write_refusal
    line-long h = refused-with Refusal.LongText third
      where
        third : write_refusal c t (length out) ≡ 18
        third = rw (f.tables-fit, f.is-writable, ← s.long-is, h)

    module _ (h : g.long ≡ false) where
      pub text-long : 32768 < g.at → WrittenAs c t out (Err Refusal.LongText) out
      unfolding write_refusal
      text-long l = refused-with Refusal.LongText third
        where
          third : write_refusal c t (length out) ≡ 18
          third = rw (f.tables-fit, f.is-writable, ← s.long-is, h, ← size, lt-leb g.at 32768 l)

      module _ (l : g.at ≤ 32768) where
        pub output_short : length out < g.at → WrittenAs c t out (Err Refusal.ShortOutput) out
        unfolding write_refusal
        output_short k = refused-with Refusal.ShortOutput fourth
          where
            fourth : write_refusal c t (length out) ≡ 19
            fourth =
                rw (
                  f.tables-fit,
                  f.is-writable,
                  ← s.long-is,
                  h,
                  ← size,
                  le-leb g.at 32768 l,
                  lt-leb g.at (length out) k,
                )

        pub text-written : g.at ≤ length out → {r : Page} {u : List ℕ} → Sets (case_lines c t) out first_page r u
            → WrittenAs c t out (Ok g.at) u
        unfolding write_refusal
        text-written k w = rw none (shown-written size k (sets-writes w))
          where
            none : write_refusal c t (length out) ≡ 0
            none =
                rw (
                  f.tables-fit,
                  f.is-writable,
                  ← s.long-is,
                  h,
                  ← size,
                  le-leb g.at 32768 l,
                  le-leb g.at (length out) k,
                )
