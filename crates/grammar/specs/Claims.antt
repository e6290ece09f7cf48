-- What is claimed of reading a line beyond the contract. Proved in proofs/Theorems.antt.
-- From: document 01, "The file" ("Every other line is one form of nested brackets").
use Rattle.std.specs.Prelude.{◌≡◌, true, false, List}
use Rattle.text.specs.Tokens.{Token}
use Rattle.grammar.specs.Line.{Line, line_tokens, is_line}
use Rattle.grammar.specs.LineOf.{line_of}

-- line_of reads each line that is spelled as a form as this form, and any other as no form
pub record LineExact : Type 0 where
  pub reads : (x : Line) → is_line x ≡ true → line_of (line_tokens x) ≡ x
  pub spells : (ts : List Token) → is_line (line_of ts) ≡ true → line_tokens (line_of ts) ≡ ts
  pub no_other : (ts : List Token) → is_line (line_of ts) ≡ false → line_of ts ≡ Line.no_form
