-- A setting taken into what is found: one that doesn't explain, one with a proper subset that explains, and a minimal
-- one. Assumes nothing.
use mathlib.Core.Path.{◌≡◌, sym, ap, subst, ◌∙◌}
use mathlib.Core.Bool.{Bool, true, false}
use mathlib.Core.List.{List}
use Prim.Native.Nat.{ℕ, ◌+◌, ◌-◌, ◌≤◌, ◌<◌, min}
use native.Mathlib.Omega.{arith}
use lib.ListN.{length, set, length-set}
use Rattle.logic.specs.declared.interpretation.Interpretation.{Interpretation}
use Rattle.explanation.specs.Judge.{Judge}
use Rattle.explanation.specs.Subset.{some_proper}
use Rattle.explanation.proofs.Minimal.{minimal-other, minimal_by}
use Rattle.verdict.specs.declared.counts.Counts.{Counts}
use Rattle.verdict.specs.declared.visit.Found.{Found}
use Rattle.verdict.specs.Counting.{counts_with, Counted}
use Rattle.verdict.specs.Lane.{query_under, Askable, Tells, Room}
use Rattle.verdict.specs.Visited.{Visited}
use Rattle.verdict.proofs.Asking.{askable-next}
use Rattle.verdict.proofs.Bytes.{byte_by}
use Rattle.verdict.proofs.Counting.{counted-passed, counted-taken}
use Rattle.verdict.proofs.Leaving.{left_passed, left-taken}

-- ---- room for the next
module _ {ns fo : List ℕ} {s : ℕ} {f : Found} {list : List ℕ} (r : Room ns fo s f list) where
  -- the counts are n and w slots are written then
  pub room-taken : (i : Interpretation) {n : Counts} → n ≡ counts_with f.counts (query_under i ns fo)
      → {w : ℕ} {list₁ : List ℕ} → w ≡ f.written + min 1 (length list - f.written) → list₁ ≡ set list f.written s
      → Room ns fo (s + 1) (record { counts = n; written = w }) list₁
  room-taken i en e q =
      let h = ap length q ∙ length-set list f.written s in
      record {
        free = omega (arith, e, h, r.free);
        few = omega (arith, r.few, ap (λ (m : Counts). m.minimal) en);
        listed_few = omega (arith, r.listed_few, e);
        askable = subst (Askable ns fo) (sym en) (askable-next r.askable (query_under i ns fo));
      }

-- ---- setting s, of which e says whether it explains, and larger whether a proper subset does
module _ {J : Judge} {cs list₀ work₀ : List ℕ} {s : ℕ} {f : Found} {list work : List ℕ}
    (p : Visited J cs list₀ work₀ s f list work) (within : s < length work)
    {ns fo : List ℕ} {e : Bool} {i : Interpretation} (t : Tells J ns fo s e i) where
  pub take-other : e ≡ false → Visited J cs list₀ work₀ (s + 1) f list (set work s 0)
  take-other h =
      let q = sym t.explains-is ∙ h in
      let m = minimal-other J cs s q in
      record {
        counted = counted-passed p.counted m;
        left = left_passed p.left within 0 (byte_by J cs s false false q m) m;
      }

  pub take_larger : {larger : Bool} → larger ≡ some_proper J.explains cs s → e ≡ true → larger ≡ true
      → Visited J cs list₀ work₀ (s + 1) f list (set work s 1)
  take_larger l h g =
      let q = sym t.explains-is ∙ h in
      let m = minimal_by J cs s true q (sym l ∙ g) in
      record {
        counted = counted-passed p.counted m;
        left = left_passed p.left within 1 (byte_by J cs s true false q m) m;
      }

  -- the counts are n, w slots are written and the list is list₁ then
  pub take-minimal : {larger : Bool} → larger ≡ some_proper J.explains cs s → e ≡ true → larger ≡ false
      → {n : Counts} → n ≡ counts_with f.counts (query_under i ns fo)
      → {w : ℕ} {list₁ : List ℕ} → w ≡ f.written + min 1 (length list - f.written) → list₁ ≡ set list f.written s
      → Visited J cs list₀ work₀ (s + 1) (record { counts = n; written = w }) list₁ (set work s 2)
  take-minimal l h g en ew el =
      let q = sym t.explains-is ∙ h in
      let m = minimal_by J cs s false q (sym l ∙ g) in
      let few : J.queries ≤ 64 = omega (arith, t.queries-few) in
      record {
        counted = subst (Counted J cs (s + 1)) (sym en) (counted-taken p.counted _ m few t.values_are);
        left = left-taken p.left within 2 (byte_by J cs s true true q m) m ew el;
      }
