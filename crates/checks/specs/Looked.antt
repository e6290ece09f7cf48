-- What a look at a line answers.
--
--   Formed l x      the line l is no comment, is at most 200 bytes long and has the form x
--   LookedAs l r    r is the refusal of the line l by the checks 3 to 5, or that it is a comment, or its form
use Rattle.std.specs.Prelude.{◌≡◌, true, false, List, ℕ, ◌≤◌, length, Result, IfOk}
use Rattle.refusals.specs.declared.Refusal.{Refusal}
use Rattle.refusals.specs.Refusal.{refused_as}
use Rattle.text.specs.Lines.{is_comment}
use Rattle.text.specs.Tokens.{tokens}
use Rattle.grammar.specs.declared.line.Form.{Form}
use Rattle.grammar.specs.Line.{is_line}
use Rattle.grammar.specs.LineOf.{line_of}
use Rattle.grammar.specs.Parsing.{FormIs}
use Rattle.checks.specs.declared.look.Looked.{Looked}
use Rattle.checks.specs.declared.look.Looked.TheVariants.{Comment, Line}
use Rattle.checks.specs.Checks.{look_refusal}

pub record Formed (l : List ℕ) (x : Form) : Type 0 where
  pub no_comment : is_comment l ≡ false
  pub short : length l ≤ 200
  pub form-is : FormIs l x (line_of (tokens l))
  pub is-line : is_line (line_of (tokens l)) ≡ true

-- what r says of the line l
abbrev pub Told : List ℕ → Looked → Type 0
Told l Comment = is_comment l ≡ true
Told l (Line x) = Formed l x

pub record LookedAs (l : List ℕ) (r : Result Looked Refusal) : Type 0 where
  pub refusal_is : refused_as r ≡ look_refusal l
  pub told : IfOk r (Told l)
