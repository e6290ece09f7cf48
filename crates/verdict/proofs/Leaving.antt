-- What the walk leaves in the list and the work area: at its start, past a setting that isn't minimal, and past one
-- that is. Neither gets longer or shorter. Assumes nothing.
use mathlib.Core.Path.{◌≡◌, refl, ◌∙◌, ap}
use mathlib.Core.Bool.{true, false}
use mathlib.Core.List.{List, ◌++◌}
use Prim.Native.Nat.{ℕ, ◌+◌, ◌-◌, ◌≤◌, ◌<◌, min}
use native.Mathlib.Omega.{arith}
use lib.ListN.{length, take, drop, set, length-append, length-take, length-drop}
use Rattle.explanation.specs.Judge.{Judge}
use Rattle.explanation.specs.Subset.{minimal}
use Rattle.verdict.specs.Walk.{byte_of, bytes_below, minimals_below}
use Rattle.verdict.specs.Visited.{Left}
use Rattle.verdict.proofs.Bytes.{bytes-length, bytes-more}
use Rattle.verdict.proofs.Counting.{minimals-more, minimals-same}
use Rattle.verdict.proofs.Lists.{list_more}

pub left-start : (J : Judge) (cs list work : List ℕ) → Left J cs list work 0 0 list work
unfolding bytes_below minimals_below
left-start J cs list work = record { work_is = refl; list_is = refl; written_is = omega arith }

module _ {J : Judge} {cs list₀ work₀ : List ℕ} {s w : ℕ} {list work : List ℕ}
    (p : Left J cs list₀ work₀ s w list work) where
  pub list_kept : length list ≡ length list₀
  list_kept =
      ap length p.list_is ∙ simp (length-append, length-take, length-drop) (omega (arith, p.written_is))

  -- the work area is no shorter than the bytes written
  work_covers : length work ≡ s + (length work₀ - s)
  work_covers = ap length p.work_is ∙ simp (length-append, length-drop, bytes-length J cs s)

  pub work_kept : s ≤ length work₀ → length work ≡ length work₀
  work_kept h = omega (arith, work_covers)

  pub written-free : w ≤ length list
  written-free = omega (arith, list_kept, p.written_is)

  -- ---- the byte b of setting s is stored
  module _ (within : s < length work) (b : ℕ) (e : b ≡ byte_of J cs s) where
    work_more : set work s b ≡ bytes_below J cs (s + 1) ++ drop (s + 1) work₀
    work_more =
        ap (λ (l : List ℕ). set l s b) p.work_is
        ∙ bytes-more J cs s b work₀ (omega (arith, work_covers)) e

    pub left_passed : minimal J cs s ≡ false → Left J cs list₀ work₀ (s + 1) w list (set work s b)
    left_passed f =
        let same = minimals-same J cs s f in
        record { work_is = work_more; list_is = rw same p.list_is; written_is = rw same p.written_is }

    -- w₁ slots are written and the list is list₁ then
    module _ (f : minimal J cs s ≡ true) {w₁ : ℕ} {list₁ : List ℕ} (ew : w₁ ≡ w + min 1 (length list - w))
        (el : list₁ ≡ set list w s) where
      list_longer : list₁ ≡ take w₁ (minimals_below J cs (s + 1)) ++ drop w₁ list₀
      list_longer =
          el
          ∙ ap (λ (l : List ℕ). set l w s) p.list_is
          ∙ list_more (minimals_below J cs s) list₀ w s w₁ p.written_is (omega (arith, ew, list_kept))
          ∙ rw (minimals-more J cs s f)

      pub left-taken : Left J cs list₀ work₀ (s + 1) w₁ list₁ (set work s b)
      left-taken = record {
        work_is = work_more;
        list_is = list_longer;
        written_is = rw (minimals-more J cs s f, length-append) (omega (arith, p.written_is, ew, list_kept));
      }
