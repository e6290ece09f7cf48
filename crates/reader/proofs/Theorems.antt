-- What is claimed of reading is so. Assumes nothing.
use mathlib.Core.Path.{◌≡◌, subst}
use mathlib.Core.List.{[]}
use Prim.Native.Nat.{suc, ◌*◌, ◌≤◌}
use native.Mathlib.Omega.{arith}
use lib.ListN.{length}
use Rattle.text.specs.Lines.{lines}
use Rattle.text.specs.Tokens.{tokens}
use Rattle.formulas.specs.Parsing.{size_of}
use Rattle.text.proofs.TokenCounts.{tokens-le-bytes}
use Rattle.grammar.proofs.LineLaws.{Shaped, line-shaped}
use Rattle.text.proofs.Each.{each_at}
use Rattle.names.specs.Names.{atom_of}
use Rattle.names.proofs.Adding.{distinct-atom}
use Rattle.store.proofs.Encoded.{encoded-length}
use Rattle.store.proofs.Prices.{supplement-near}
use Rattle.checks.specs.Naming.{IsName}
use Rattle.reader.specs.Claims.{AcceptedSound, TablesSay, AcceptedNames, ReadExact}
use Rattle.reader.specs.Claims.{FirstBadLine, NoBadLine, OneEdition, ElevenRead, NodesFit, SupplementNearest}
use Rattle.reader.proofs.EarlyRefusals.{fit_long}
use Rattle.reader.proofs.WellFormedLines.{accepted-formed}
use Rattle.reader.proofs.Sound.{ended-sound}
use Rattle.reader.proofs.Bodies.{Few, accepted-lines}
use Rattle.reader.proofs.FileSays.{answer-says}
use Rattle.reader.proofs.FirstBad.{file-passes, file_bad, read_cases, ending-line}

pub accepted-sound : AcceptedSound
accepted-sound f st t h e = ended-sound st t (fit_long t h) (accepted-formed f st e)

pub tables_say : TablesSay
tables_say = answer-says

pub accepted-names : AcceptedNames
accepted-names f st e =
    let r = (accepted-formed f st e).formed.names in
    record {
      are_names = λ a h. each_at IsName st.names a [] r.rows.each h;
      differ = λ a h. distinct-atom st.names a r.distinct h;
    }

pub read-exact : ReadExact
read-exact = record { all_pass = file-passes; one_bad = file_bad }

pub first_bad_line : FirstBadLine
first_bad_line f n k e =
    read_cases f _ e (λ h d. absurd (omega (arith, ending-line _ n (suc k) d)))
    (λ m j b d.
    let p : m ≡ n = cc in
    let q : j ≡ k = cc in
    rw (← p, ← q) b)

pub no_bad_line : NoBadLine
no_bad_line f n e =
    read_cases f _ e (λ h d. h) (λ m k b d. let z : suc k ≡ 0 = cc in absurd (omega arith))

pub one-edition : OneEdition
one-edition f st e = (accepted-formed f st e).formed.editions.few

pub eleven_read : ElevenRead
eleven_read f st k e h = each_at Few (lines f) k [] (accepted-lines f st e) h

pub nodes_fit : NodesFit
nodes_fit l f ns h e =
    let s : 2 * size_of f ≤ length (tokens l) = subst (Shaped (length (tokens l))) e (line-shaped (tokens l)) in
    omega (arith, encoded-length (atom_of ns) f, tokens-le-bytes l)

pub supplement_nearest : SupplementNearest
supplement_nearest = supplement-near
