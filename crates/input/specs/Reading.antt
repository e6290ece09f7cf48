-- What reading standard input promises: all but that the system's calls move the bytes.
-- From: document 01, "The program `causes`".
--
--   Stopped buf r             reading into the buffer stopped where it was full or the last call of read gave no byte
--   IsRead n buf old new      the first n bytes of the buffer are those read from old to new
--   InputRead r buf old new   reading into the buffer, from old to new, stopped with r: with what reading gave, where
--                             the buffer is full or the input ends, or with a fault before that
use Rattle.std.specs.Prelude.{◌≡◌, List, ℕ, ◌<◌, length, take, Result, Option, Ok, Err}
use Rattle.std.specs.Counts.{IsPrefixLen}
use Rattle.std.specs.Io.KnownBytes.{Consumes, IsAtEnd}
use Rattle.input.specs.declared.Input.{Input}
use Rattle.input.specs.declared.ReadFault.{ReadFault}

pub record Stopped (buf : List ℕ) (r : Input) : Type 0 where
  pub counted : IsPrefixLen r.count buf
  pub stops : r.count < length buf → r.last ≡ 0

pub record IsRead (n : ℕ) (buf : List ℕ) (old new : Option (List ℕ)) : Type 0 where
  pub counted : IsPrefixLen n buf
  pub bytes : Consumes old new (take n buf)

abbrev pub InputRead : Result Input ReadFault → List ℕ → Option (List ℕ) → Option (List ℕ) → Type 0
InputRead (Ok r) buf old new = Stopped buf r × IsRead r.count buf old new × (r.count < length buf → IsAtEnd new)
InputRead (Err f) buf old new = IsRead f.count buf old new × (f.count < length buf)
