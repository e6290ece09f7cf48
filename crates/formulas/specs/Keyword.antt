-- The words of forms, told apart.
--
--   node_of w        the node of the form with the word w: 64 not, 65 and, 66 or, 67 then, 68 same; otherwise 69
--   Below n p r      r is the number p, where it is below n; otherwise none, where p is n
--   NodeFound w r    r is the node of the form with the word w, or none
use Rattle.std.specs.Prelude.{◌≡◌, List, ℕ, ◌+◌, ◌<◌, Option, Some, None}
use Rattle.text.specs.Words.{place_of}
use Rattle.formulas.specs.Sentence.{form_words}

unfoldable pub node_of : List ℕ → ℕ
node_of w = 64 + place_of form_words w

abbrev pub Below : ℕ → ℕ → Option ℕ → Type 0
Below n p None = p ≡ n
Below n p (Some q) = (q ≡ p) × (q < n)

pub record NodeFound (w : List ℕ) (r : Option ℕ) : Type 0 where
  pub node_is : Below 69 (node_of w) r
