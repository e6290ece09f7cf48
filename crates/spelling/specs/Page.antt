-- Lines written to a page: a place of the output where a line starts, and whether a line before it is long.
-- From: document 02, [8] ("18 when a written line would pass 200 bytes without its LF").
--
--   some_long_line ls   some line of ls is over 200 bytes
--   start_of g          the pen at the start of the page g
--   Ends g p ..         the line that started at the page g was ended at the pen p; the answer is the page behind it
--   Sets ls ..          the lines ls were written from the page g on; the answer is the page behind them
use Rattle.std.specs.Prelude.{◌≡◌, Bool, false, ◌||◌, List, [], ◌∷◌, ℕ, ◌+◌, ◌-◌, ltb, length}
use Rattle.text.specs.Spelled.{text_of}
use Rattle.output.specs.Writing.{laid}
use Rattle.spelling.specs.declared.Pen.{Pen}
use Rattle.spelling.specs.declared.Page.{Page}

unfoldable pub some_long_line : List (List ℕ) → Bool
some_long_line [] = false
some_long_line (l ∷ ls) = ltb 200 (length l) || some_long_line ls

abbrev pub start_of : Page → Pen
start_of g = record { at = g.at; behind = false }

pub record Ends (g : Page) (p : Pen) (out : List ℕ) (r : Page) (outAfter : List ℕ) : Type 0 where
  pub place_is : r.at ≡ p.at + 1
  pub long-is : r.long ≡ (g.long || ltb 200 (p.at - g.at))
  pub out_is : outAfter ≡ laid out p.at (10 ∷ [])

pub record Sets (ls : List (List ℕ)) (out : List ℕ) (g r : Page) (outAfter : List ℕ) : Type 0 where
  pub place_is : r.at ≡ g.at + length (text_of ls)
  pub long-is : r.long ≡ (g.long || some_long_line ls)
  pub out_is : outAfter ≡ laid out g.at (text_of ls)
