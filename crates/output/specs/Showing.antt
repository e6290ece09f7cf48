-- What an operation that writes a text to a lent output answers and leaves there, on every input.
-- From: document 01, "The program `causes`" and "What each operation refuses" ("For operations and tables that come
-- later").
use Rattle.std.specs.Prelude.{◌≡◌, List, ℕ, Result, IfOk, length}
use Rattle.refusals.specs.declared.Refusal.{Refusal}
use Rattle.refusals.specs.Refusal.{refused_as}
use Rattle.words.specs.Choice.{unless_refused}
use Rattle.words.specs.Lists.{over}

-- the refusal n, 0 for none, the text t, and the output at entry and at exit; an answer that is no refusal is the
-- text's length
pub record Shown (n : ℕ) (t out : List ℕ) (r : Result ℕ Refusal) (outAfter : List ℕ) : Type 0 where
  pub refusal_is : refused_as r ≡ n
  pub length-is : IfOk r (λ m. m ≡ length t)
  pub out_is : outAfter ≡ unless_refused n (over t out) out
