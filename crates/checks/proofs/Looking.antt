-- The refusal of a line by the checks 3 to 5, one law for each way out of `look`. Assumes nothing.
use mathlib.Core.Path.{◌≡◌, sym, ap, ◌∙◌}
use mathlib.Core.Bool.{Bool, true, false}
use mathlib.Core.List.{List}
use Prim.Native.Nat.{ℕ, ◌≤◌, ◌<◌}
use Rattle.std.specs.Prelude.{None, Some, Ok, Err}
use Rattle.refusals.specs.declared.Refusal.{Refusal}
use lib.ListN.{length}
use borrow.Author.Tests.{lt-leb, le-leb, not-true, not-false}
use Rattle.text.specs.Bytes.{is_allowed, all_of}
use Rattle.text.specs.Lines.{is_comment}
use Rattle.text.specs.Tokens.{tokens}
use Rattle.grammar.specs.declared.line.Form.{Form}
use Rattle.grammar.specs.declared.line.Form.TheVariants.{Skipped, Clause, Constraint, Seen, Query, Cost, Atom}
use Rattle.grammar.specs.declared.line.Form.TheVariants.{Edition}
use Rattle.grammar.specs.Line.{Line, is_line}
use Rattle.grammar.specs.LineOf.{line_of, is_no_form}
use Rattle.grammar.specs.Parsing.{FormIs, FormFound}
use Rattle.grammar.proofs.Spelling.{no_form-is}
use Rattle.checks.specs.declared.look.Looked.TheVariants as looked
use Rattle.checks.specs.Checks.{look_refusal}
use Rattle.checks.specs.Looked.{LookedAs}

form-told : (l : List ℕ) (x : Form) (y : Line) → FormIs l x y → is_no_form y ≡ false
form-told l Skipped y f = rw f
form-told l (Clause k a e n) y f = rw f.2.line-is
form-told l (Constraint k at n) y f = rw f.1.line-is
form-told l (Seen at) y f = rw f.line-is
form-told l (Query at d) y f = rw f.line-is
form-told l (Cost a e p d) y f = rw f.1.line-is
form-told l (Atom a e) y f = rw f.1
form-told l (Edition n) y f = rw f.2

-- s tells whether the line is a comment
module _ {l : List ℕ} {s : Bool} (c : s ≡ is_comment l) where
  pub looked_comment : s ≡ true → LookedAs l (Ok looked.Comment)
  unfolding look_refusal
  looked_comment a = record { refusal_is = rw (sym c ∙ a); told = sym c ∙ a }

  module _ (a : s ≡ false) where
    pub looked-long : 200 < length l → LookedAs l (Err Refusal.LongLine)
    unfolding look_refusal
    looked-long h = record { refusal_is = rw (lt-leb _ _ h, sym c ∙ a); told = tt }

    module _ (h : length l ≤ 200) where
      pub looked-bytes : all_of is_allowed l ≡ false → LookedAs l (Err Refusal.StrangeByte)
      unfolding look_refusal
      looked-bytes b = record { refusal_is = rw (le-leb _ _ h, sym c ∙ a, b); told = tt }

      module _ (b : all_of is_allowed l ≡ true) where
        pub looked_no_form : FormFound l None → LookedAs l (Err Refusal.NoForm)
        unfolding look_refusal
        looked_no_form f =
            let no = not-true (is_line (line_of (tokens l))) (sym (no_form-is (tokens l)) ∙ ap is_no_form f.form-is) in
            record { refusal_is = rw (le-leb _ _ h, sym c ∙ a, b, no); told = tt }

        pub looked-form : {x : Form} → FormFound l (Some x) → LookedAs l (Ok (looked.Line x))
        unfolding look_refusal
        looked-form {x} f =
            let other = sym (no_form-is (tokens l)) ∙ form-told l x _ f.form-is in
            let is = not-false (is_line (line_of (tokens l))) other in
            record {
              refusal_is = rw (le-leb _ _ h, sym c ∙ a, b, is);
              told = record { no_comment = sym c ∙ a; short = h; form-is = f.form-is; is-line = is };
            }
