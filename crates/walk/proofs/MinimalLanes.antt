-- The minimal settings of a block: they stand behind those before the block, in rising order. Assumes nothing.
use mathlib.Core.Path.{◌≡◌, refl, sym, ap, ap₂, ◌∙◌}
use mathlib.Core.Bool.{Bool, true, false, not, ◌&&◌, and-true, and-false}
use mathlib.Core.List.{List, [], ◌++◌, append-nil, append_assoc}
use Prim.Native.Nat.{ℕ, zero, suc, ◌+◌, ◌≤◌, ◌<◌}
use native.Mathlib.Omega.{arith}
use borrow.Author.Tests.{lt-ltb, le-ltb}
use Rattle.words.specs.Choice.{cons_if}
use Rattle.words.specs.Bits.{has}
use Rattle.explanation.specs.Judge.{Judge}
use Rattle.explanation.specs.Subset.{minimal}
use Rattle.explanation.proofs.Minimal.{minimal-is}
use Rattle.cost.specs.declared.cheapest.Minimals.{Minimals}
use Rattle.cost.specs.Block.{settings_at, lane_settings, MinimalIn}
use Rattle.cost.proofs.Lanes.{settings-at-none, settings-at-next, settings-at-cut}
use Rattle.verdict.specs.Walk.{only_if, minimals_below}
use Rattle.verdict.specs.Lane.{Seen}
use Rattle.verdict.proofs.Counting.{minimals-next}

only_cons : (t : Bool) (n : ℕ) → only_if t n ≡ cons_if t n []
only_cons true n = refl
only_cons false n = refl

-- ---- a word w that has the minimal ones of the first m settings from s on
module _ (J : Judge) (cs : List ℕ) (w s m : ℕ) (is : (j : ℕ) → j < m → has w j ≡ minimal J cs (s + j)) where
  minimals-lanes : (n : ℕ) → n ≤ m → minimals_below J cs (s + n) ≡ minimals_below J cs s ++ settings_at s w n
  minimals-lanes zero l =
      let z : s + 0 ≡ s = omega arith in
      ap (minimals_below J cs) z ∙ sym (append-nil (minimals_below J cs s))
      ∙ ap (λ (k : List ℕ). minimals_below J cs s ++ k) (sym (settings-at-none s w 0 (λ j q. absurd (omega arith))))
  minimals-lanes (suc n) l =
      let z : s + suc n ≡ suc (s + n) = omega arith in
      ap (minimals_below J cs) z ∙ minimals-next J cs (s + n)
      ∙ ap₂ ◌++◌ (minimals-lanes n (omega arith))
      (only_cons (minimal J cs (s + n)) (s + n) ∙ ap (λ (t : Bool). cons_if t (s + n) []) (sym (is n l)))
      ∙ append_assoc (minimals_below J cs s) (settings_at s w n) (cons_if (has w n) (s + n) [])
      ∙ ap (λ (k : List ℕ). minimals_below J cs s ++ k) (sym (settings-at-next s w n))

  minimals-word : m ≤ 64 → ((j : ℕ) → m ≤ j → j < 64 → has w j ≡ false)
      → minimals_below J cs (s + m) ≡ minimals_below J cs s ++ settings_at s w 64
  minimals-word h none =
      minimals-lanes m (omega arith)
      ∙ ap (λ (k : List ℕ). minimals_below J cs s ++ k) (sym (settings-at-cut s w m 64 h none))

-- ---- the lanes that are found to be minimal
module _ {J : Judge} {cs ns fo : List ℕ} {e larger : ℕ} {t u : List ℕ} {m s : ℕ} {k : Minimals}
    (seen : Seen J cs ns fo e larger t u m s) (h : m ≤ 64) (p : MinimalIn e larger m s k) where
  -- lane j explains, and no proper subset of its setting does
  abbrev least : ℕ → Bool
  least j = has e j && not (has larger j)

  lane_minimal : (j : ℕ) → j < m → has k.lanes j ≡ minimal J cs (s + j)
  lane_minimal j l =
      p.lanes_are j (omega arith)
      ∙ ap (λ (x : Bool). least j && x) (lt-ltb j m l) ∙ and-true (least j)
      ∙ ap₂ (λ (x y : Bool). x && not y) (seen.tells j l).explains-is (seen.larger_is j l)
      ∙ sym (minimal-is J cs (s + j))

  lane_behind : (j : ℕ) → m ≤ j → j < 64 → has k.lanes j ≡ false
  lane_behind j l q =
      p.lanes_are j q ∙ ap (λ (x : Bool). least j && x) (le-ltb j m l) ∙ and-false (least j)

  pub minimals-block : minimals_below J cs (s + m) ≡ minimals_below J cs s ++ lane_settings k
  minimals-block =
      minimals-word J cs k.lanes s m lane_minimal h lane_behind
      ∙ ap (λ (n : ℕ). minimals_below J cs s ++ settings_at n k.lanes 64) (sym p.first-is)
