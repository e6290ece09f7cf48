-- The minimal settings of a block taken one by one into the cheapest. Assumes nothing.
use mathlib.Core.Path.{◌≡◌, refl, sym, ap, subst, ◌∙◌}
use mathlib.Core.List.{List, [], ◌∷◌, ◌++◌, append-nil, append_assoc}
use Rattle.std.specs.Prelude.{Option}
use Prim.Native.Nat.{ℕ, ◌+◌}
use Rattle.words.specs.OneBit.{without_bit, LowestOf}
use Rattle.words.proofs.Bits.{has-zero}
use Rattle.program.specs.declared.cause.Causes.{Causes}
use Rattle.planes.specs.Fill.{Filled}
use Rattle.cost.specs.declared.cheapest.Cheapest.{Cheapest}
use Rattle.cost.specs.Cost.{cost_under}
use Rattle.cost.specs.Cheapest.{Chosen}
use Rattle.cost.specs.Block.{settings_at}
use Rattle.cost.proofs.Lanes.{settings-at-none, settings-at_lowest}

-- x and y are the planes of a block, w its minimal lanes, of which left are to come; best was the cheapest before
pub record Choosing (pr x y : List ℕ) (first w : ℕ) (best r : Option Cheapest) (left : ℕ) : Type 0 where
  pub passed : List ℕ
  pub all_are : passed ++ settings_at first left 64 ≡ settings_at first w 64
  pub chosen : (causes : Causes) (l : List ℕ) → Filled causes first x y → Chosen (cost_under pr causes) l best
      → Chosen (cost_under pr causes) (l ++ passed) r

module _ {pr x y : List ℕ} {first w : ℕ} {best : Option Cheapest} where
  pub choosing_start : Choosing pr x y first w best best w
  choosing_start = record {
    passed = [];
    all_are = refl;
    chosen = λ causes l f c. subst (λ (m : List ℕ). Chosen (cost_under pr causes) m best) (sym (append-nil l)) c;
  }

  module _ {r : Option Cheapest} {left : ℕ} (k : Choosing pr x y first w best r left) where
    pub choosing_next : {j n : ℕ} {r₁ : Option Cheapest} → LowestOf left j
        → ((causes : Causes) (s : ℕ) → Filled causes s x y → n ≡ cost_under pr causes (s + j))
        → ((f : ℕ → ℕ) (l : List ℕ) → n ≡ f (first + j) → Chosen f l r → Chosen f (l ++ ((first + j) ∷ [])) r₁)
        → Choosing pr x y first w best r₁ (without_bit left j)
    choosing_next {j} {n} {r₁} b cost with = record {
      passed = k.passed ++ ((first + j) ∷ []);
      all_are = append_assoc k.passed ((first + j) ∷ []) (settings_at first (without_bit left j) 64)
          ∙ ap (λ (m : List ℕ). k.passed ++ m) (sym (settings-at_lowest first left j b)) ∙ k.all_are;
      chosen = λ causes l f c.
          subst (λ (m : List ℕ). Chosen (cost_under pr causes) m r₁) (append_assoc l k.passed ((first + j) ∷ []))
          (with (cost_under pr causes) (l ++ k.passed) (cost causes first f) (k.chosen causes l f c));
    }

    pub choosing_end : left ≡ 0 → (causes : Causes) (l : List ℕ) → Filled causes first x y
        → Chosen (cost_under pr causes) l best → Chosen (cost_under pr causes) (l ++ settings_at first w 64) r
    choosing_end e causes l f c =
        subst (λ (m : List ℕ). Chosen (cost_under pr causes) (l ++ m) r) all (k.chosen causes l f c)
      where
        none : settings_at first left 64 ≡ []
        none = ap (λ (v : ℕ). settings_at first v 64) e ∙ settings-at-none first 0 64 (λ j l. has-zero j)

        all : k.passed ≡ settings_at first w 64
        all = sym (append-nil k.passed) ∙ ap (λ (m : List ℕ). k.passed ++ m) (sym none) ∙ k.all_are
