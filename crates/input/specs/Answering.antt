-- What a program that answers its input with a text promises of all that it reads and writes.
-- From: document 01, "The program `causes`".
--
--   IsAnswered P i r old new   the input, where it is known, was i, and the program ended with r: from old to new, the
--                              bytes written grew by a text t of the input, P i t; where the input could not be read,
--                              by nothing; where the text could not be written whole, by a beginning of it
--   stream_of f                a colon and the stream that failed
use Rattle.std.specs.Prelude.{List, ℕ, take, Result, Option, Ok, Err, IfSome, codes}
use Rattle.std.specs.Io.KnownBytes.{Appends, Keeps}
use Rattle.input.specs.declared.Fault.{Fault}
use Rattle.input.specs.declared.Fault.TheVariants.{Input, Output}

abbrev pub IsAnswered : (List ℕ → List ℕ → Type 0) → Option (List ℕ) → Result Unit Fault → Option (List ℕ)
    → Option (List ℕ) → Type 0
IsAnswered P i (Ok u) old new = IfSome i (λ xs. (t : List ℕ) × P xs t × Appends old new t)
IsAnswered P i (Err (Input e)) old new = Keeps old new
IsAnswered P i (Err (Output e)) old new =
    IfSome i (λ xs. (t : List ℕ) × P xs t × ((k : ℕ) × Appends old new (take k t)))

abbrev pub stream_of : Fault → List ℕ
stream_of (Input e) = codes ": standard input"
stream_of (Output e) = codes ": standard output"
