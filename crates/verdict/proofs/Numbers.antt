-- The numbers of the verdicts stored one by one. Assumes nothing.
use mathlib.Core.Path.{◌≡◌, sym, ap, ◌∙◌}
use mathlib.Core.Bool.{Bool}
use mathlib.Core.List.{List, [], ◌∷◌, ◌++◌, map, map-append}
use Prim.Native.Nat.{ℕ, ◌+◌, ◌<◌}
use native.Mathlib.Omega.{arith}
use lib.ListN.{length, set, replicate}
use Rattle.words.specs.Bits.{has}
use Rattle.words.proofs.Lists.{list_of-none, list_of-length, list_of-more, list_of-map}
use Rattle.table.specs.Filled.{padded}
use Rattle.table.proofs.Filled.{padded_push, padded-zeros}
use Rattle.verdict.specs.declared.verdict.Verdict.{Verdict}
use Rattle.verdict.specs.declared.counts.Counts.{Counts}
use Rattle.verdict.specs.Walk.{verdict_by, verdict_number}
use Rattle.verdict.specs.Counting.{verdicts_by}

-- the number of the verdict on query q by the counts k
abbrev number_by : Counts → ℕ → ℕ
number_by k q = verdict_number (verdict_by k.minimal (has k.follows q) (has k.denied q))

abbrev numbers_by : Counts → ℕ → List ℕ
numbers_by k q = map verdict_number (verdicts_by k q)

numbers-length : (k : Counts) (q : ℕ) → length (numbers_by k q) ≡ q
numbers-length k q = ap length (list_of-map q _ verdict_number) ∙ list_of-length q (number_by k)

numbers_more : (k : Counts) (q : ℕ) → numbers_by k q ++ (number_by k q ∷ []) ≡ numbers_by k (q + 1)
numbers_more k q =
    sym (map-append verdict_number (verdicts_by k q) _) ∙ sym (ap (map verdict_number) (list_of-more q _))

-- the numbers of the first q queries are stored
abbrev pub Numbered : Counts → List ℕ → ℕ → Type 0
Numbered k numbers q = numbers ≡ padded 16 (numbers_by k q)

pub numbered-none : (k : Counts) → Numbered k (replicate 16 0) 0
numbered-none k = rw list_of-none (padded-zeros 16)

-- the verdict v on query q has the number x
pub numbered_more : (k : Counts) {numbers : List ℕ} {q : ℕ} → Numbered k numbers q → q < 16 → {t f : Bool}
    → t ≡ has k.follows q → f ≡ has k.denied q → {v : Verdict} → v ≡ verdict_by k.minimal t f → {x : ℕ}
    → x ≡ verdict_number v → Numbered k (set numbers q x) (q + 1)
numbered_more k {numbers} {q} h l et ef ev ex =
    let e = ex ∙ ap verdict_number (rw (et, ef) at ev) in
    rw (h, e, ← numbers_more k q)
    (ap (λ (i : ℕ). set (padded 16 (numbers_by k q)) i (number_by k q)) (sym (numbers-length k q))
    ∙ padded_push 16 (numbers_by k q) (number_by k q) (omega (arith, numbers-length k q)))
