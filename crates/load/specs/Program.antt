-- What the program's functions promise of what it writes: all but that the system's call moves the bytes.
-- From: document 02, [11]; document 01, "The program `causes`" ("(refused number line)").
--
--   load_answer s n c      the text of the load with the seed s, n atoms and c clauses, or that of its refusal, with
--                          line 0
--   Answered s n c r out   the first r bytes of the output are that text
use Rattle.std.specs.Prelude.{◌≡◌, List, ℕ, take}
use Rattle.words.specs.Choice.{unless_refused}
use Rattle.wording.specs.Text.{refusal_text}
use Rattle.std.specs.Counts.{IsPrefixLen}
use Rattle.loading.specs.Load.{load_text}
use Rattle.loading.specs.Operation.{load_refusal}
use Rattle.loading.specs.Claims.{longest_load}

-- an output of longest_load bytes is long enough
abbrev pub load_answer : ℕ → ℕ → ℕ → List ℕ
load_answer s n c =
    let k = load_refusal s n c longest_load in
    unless_refused k (load_text s n c) (refusal_text k 0)

pub record Answered (s n c r : ℕ) (out : List ℕ) : Type 0 where
  pub counted : IsPrefixLen r out
  pub text-is : take r out ≡ load_answer s n c
