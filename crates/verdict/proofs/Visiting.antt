-- The lanes of a block visited one by one. Assumes nothing.
use mathlib.Core.Path.{◌≡◌, subst, ◌∙◌}
use mathlib.Core.Bool.{Bool}
use mathlib.Core.List.{List}
use Prim.Native.Nat.{ℕ, ◌+◌, ◌<◌}
use native.Mathlib.Omega.{arith}
use lib.ListN.{length}
use Rattle.words.specs.Bits.{has}
use Rattle.planes.specs.Planes.{column}
use Rattle.explanation.specs.Judge.{Judge}
use Rattle.explanation.specs.Subset.{some_proper}
use Rattle.verdict.specs.declared.visit.Found.{Found}
use Rattle.verdict.specs.Lane.{Tells, Room, Seen}
use Rattle.verdict.specs.Visited.{Visited}

-- where taking one setting leads, whatever the judge
abbrev Steps : List ℕ → List ℕ → Bool → Bool → List ℕ → List ℕ → ℕ → ℕ → Found → List ℕ → List ℕ → Found → List ℕ
    → List ℕ → Type 0
Steps ns fo x y t f j s r list work r₁ list₁ work₁ = (J : Judge) (cs ls ws : List ℕ) → Tells J ns fo s x (column t f j)
    → y ≡ some_proper J.explains cs s → Visited J cs ls ws s r list work → Visited J cs ls ws (s + 1) r₁ list₁ work₁

-- j of the first m settings from first on are visited
pub record Visiting (ns fo : List ℕ) (e larger : ℕ) (t f : List ℕ) (m first : ℕ) (r₀ : Found)
    (list₀ work₀ list work : List ℕ) (r : Found) (j : ℕ) : Type 0 where
  pub list_size : length list ≡ length list₀
  pub work_size : length work ≡ length work₀
  pub room : Room ns fo (first + j) r list
  pub visited : (J : Judge) (cs ls ws : List ℕ) → Seen J cs ns fo e larger t f m first
      → Visited J cs ls ws first r₀ list₀ work₀ → Visited J cs ls ws (first + j) r list work

module _ {ns fo : List ℕ} {e larger : ℕ} {t f : List ℕ} {m first : ℕ} {r₀ : Found} {list₀ work₀ : List ℕ} where
  module _ {list work : List ℕ} {r : Found} {j : ℕ}
      (v : Visiting ns fo e larger t f m first r₀ list₀ work₀ list work r j) where
    module _ (l : j < m) {list₁ work₁ : List ℕ} {r₁ : Found}
        (step : Steps ns fo (has e j) (has larger j) t f j (first + j) r list work r₁ list₁ work₁) where
      further : first + j + 1 ≡ first + (j + 1)
      further = omega arith

      one_more : (J : Judge) (cs ls ws : List ℕ) → Seen J cs ns fo e larger t f m first
          → Visited J cs ls ws first r₀ list₀ work₀ → Visited J cs ls ws (first + (j + 1)) r₁ list₁ work₁
      one_more J cs ls ws s w =
          subst (λ (k : ℕ). Visited J cs ls ws k r₁ list₁ work₁) further
          (step J cs ls ws (s.tells j l) (s.larger_is j l) (v.visited J cs ls ws s w))

      pub visiting_next : length list₁ ≡ length list → length work₁ ≡ length work → Room ns fo (first + j + 1) r₁ list₁
          → Visiting ns fo e larger t f m first r₀ list₀ work₀ list₁ work₁ r₁ (j + 1)
      visiting_next a b h = record {
        list_size = a ∙ v.list_size;
        work_size = b ∙ v.work_size;
        room = subst (λ (k : ℕ). Room ns fo k r₁ list₁) further h;
        visited = one_more;
      }

    pub visiting_end : j ≡ m → (J : Judge) (cs ls ws : List ℕ) → Seen J cs ns fo e larger t f m first
        → Visited J cs ls ws first r₀ list₀ work₀ → Visited J cs ls ws (first + m) r list work
    visiting_end q J cs ls ws s w =
        subst (λ (k : ℕ). Visited J cs ls ws (first + k) r list work) q (v.visited J cs ls ws s w)
