-- The word of a block's covered settings, taken to its fixed point: it grows by the lanes in which a setting that lacks
-- one digit is covered, has covered settings alone, and is exact where nothing is added any more, by going up the
-- settings. Assumes nothing.
use mathlib.Core.Path.{◌≡◌, refl, sym, ap, ap₂, subst, ◌∙◌}
use mathlib.Core.Bool.{Bool, true, false, ◌||◌, or-true}
use mathlib.Core.List.{List, [], ◌∷◌}
use mathlib.Core.Logic.{⊎_elim}
use Prim.Native.Nat.{ℕ, zero, suc, ◌+◌, ◌-◌, ◌*◌, ◌^◌, ◌≤◌, ◌<◌, min}
use native.Mathlib.Nat.{eq-or-lt_of_le}
use native.Mathlib.Omega.{arith}
use lib.Bits.{bit_or, or_lt}
use lib.Count.{ones, ones-le}
use lib.ListN.{length, set, length-set}
use Rattle.words.specs.Bits.{has}
use Rattle.words.proofs.Tests.{lt-or-le, true_or_false}
use Rattle.words.proofs.Bits.{has-or}
use Rattle.words.proofs.Counts.{Within, ones-grow}
use Rattle.program.specs.declared.cause.Causes.{Causes}
use Rattle.program.specs.Setting.{choices_of, settings_of}
use Rattle.program.proofs.Settings.{settings-product}
use Rattle.explanation.specs.Subset.{some_proper}
use Rattle.explanation.specs.Covering.{covers}
use Rattle.explanation.specs.Row.{Droppable, setting_bit, CoveredRow, Block, Covers}
use Rattle.explanation.proofs.Covering.{dropped_gives, dropped_ext, dropped_proper}
use Rattle.explanation.proofs.Lanes.{bit_below, bit_lane, lane_dropped}

-- what is covered and doesn't pass the test has a proper subset that does
covers-other : (p : ℕ → Bool) (cs : List ℕ) (i : ℕ) → p i ≡ false → covers p cs i ≡ true → some_proper p cs i ≡ true
unfolding covers
covers-other p cs i f z = sym (ap (λ (t : Bool). t || some_proper p cs i) f) ∙ z

-- where a proper subset passes, the setting is covered
proper_covers : (p : ℕ → Bool) (cs : List ℕ) (i : ℕ) → some_proper p cs i ≡ true → covers p cs i ≡ true
unfolding covers
proper_covers p cs i z = ap (λ (t : Bool). p i || t) z ∙ or-true (p i)

-- the lanes of w are those of covered settings alone
pub record Growing (p : ℕ → Bool) (first : ℕ) (causes : Causes) (w : ℕ) : Type 0 where
  pub sound : (j : ℕ) → j < 64 → first + j < settings_of causes → has w j ≡ true
      → covers p (choices_of causes) (first + j) ≡ true

-- ---- a block, whose word of the row becomes a word w
module _ {p : ℕ → Bool} {first b e : ℕ} {causes : Causes} {weights x y row₀ : List ℕ}
    (k : Block p first b e causes weights x y row₀) (inside : b < length row₀) where
  abbrev cs : List ℕ
  cs = choices_of causes

  abbrev row : ℕ → List ℕ
  row w = set row₀ b w

  growing_start : Growing p first causes e
  unfolding covers
  growing_start = record {
    sound = λ j l m z. ap (λ (t : Bool). t || some_proper p cs (first + j)) (sym (k.explains j l m) ∙ z);
  }

  -- r has the lanes in which a setting that lacks one digit has its bit
  module _ (w r : ℕ) (g : Growing p first causes w) (d : Droppable (row w) (64 * b) causes.all weights x y r) where
    -- ---- the word grows, and has covered settings alone
    -- a setting below lane j that has its bit is covered
    sound-below : (j : ℕ) → j < 64 → first + j < settings_of causes → (t : ℕ) → t < first + j
        → setting_bit (row w) t ≡ true → covers p cs t ≡ true
    sound-below j l m t h z =
        ⊎_elim
        (λ (q : t < first). sym (k.covered t q) ∙ sym (bit_below k w t q) ∙ z)
        (λ (q : first ≤ t).
        let i : first + (t - first) ≡ t = omega arith in
        ap (covers p cs) (sym i)
        ∙ g.sound (t - first) (omega arith) (omega arith)
        (sym (bit_lane k w inside (t - first) (omega arith)) ∙ ap (setting_bit (row w)) i ∙ z))
        (lt-or-le t first)

    larger_sound : (j : ℕ) → j < 64 → first + j < settings_of causes → has r j ≡ true
        → some_proper p cs (first + j) ≡ true
    larger_sound j l m z =
        let below = rw settings-product at m in
        sym (dropped_proper p cs (first + j) below)
        ∙ dropped_gives (setting_bit (row w)) (covers p cs) cs (first + j) below (sound-below j l m)
        (sym (lane_dropped k w j l m r d) ∙ z)

    growing_next : Growing p first causes (bit_or w r)
    growing_next = record {
      sound = λ j l m z. ⊎_elim
          (λ (q : has w j ≡ true). g.sound j l m q)
          (λ (q : has w j ≡ false).
          proper_covers p cs (first + j)
          (larger_sound j l m (sym (ap (λ (t : Bool). t || has r j) q) ∙ sym (has-or w r j) ∙ z)))
          (true_or_false (has w j));
    }

    -- ---- where nothing is added, the bits are exact
    module _ (from : Within 64 e w) (full : bit_or w r ≡ w) where
      -- below lane n
      abbrev Exact : ℕ → Type 0
      Exact n = (t : ℕ) → t < first + n → t < settings_of causes → setting_bit (row w) t ≡ covers p cs t

      module _ (j : ℕ) (l : j < 64) (m : first + j < settings_of causes) (h : Exact j) where
        larger_exact : has r j ≡ some_proper p cs (first + j)
        larger_exact =
            let below = rw settings-product at m in
            lane_dropped k w j l m r d
            ∙ dropped_ext (setting_bit (row w)) (covers p cs) cs (first + j) below (λ t q. h t q (omega arith))
            ∙ dropped_proper p cs (first + j) below

        -- a covered setting that doesn't explain has its bit by a proper subset
        bit_larger : has w j ≡ false → has e j ≡ false → covers p cs (first + j) ≡ true → false ≡ true
        bit_larger q f z =
            sym q ∙ sym (ap (λ (n : ℕ). has n j) full) ∙ has-or w r j
            ∙ ap₂ ◌||◌ q (larger_exact ∙ covers-other p cs (first + j) (sym (k.explains j l m) ∙ f) z)

        bit-exact : has w j ≡ covers p cs (first + j)
        bit-exact = go (has w j) refl (covers p cs (first + j)) refl
          where
            go : (u : Bool) → has w j ≡ u → (v : Bool) → covers p cs (first + j) ≡ v → u ≡ v
            go true q v z = sym (sym z ∙ g.sound j l m q)
            go false q false z = refl
            go false q true z = ⊎_elim
                (λ (f : has e j ≡ true). sym (sym (from j l f) ∙ q))
                (λ (f : has e j ≡ false). bit_larger q f z)
                (true_or_false (has e j))

      exact : (n : ℕ) → n ≤ 64 → Exact n
      exact zero h t q m = let z : t < first = omega arith in bit_below k w t z ∙ k.covered t z
      exact (suc n) h t q m =
          ⊎_elim
          (λ (z : t ≡ first + n).
          rw z (bit_lane k w inside n (omega arith) ∙ bit-exact n (omega arith) (omega arith) (exact n (omega arith))))
          (λ (z : t < first + n). exact n (omega arith) t z m)
          (eq-or-lt_of_le (omega arith))

      larger_all : (j : ℕ) → j < 64 → first + j < settings_of causes → has r j ≡ some_proper p cs (first + j)
      larger_all j l m = larger_exact j l m (exact j (omega arith))

      covered-all : CoveredRow p cs (min (first + 64) (settings_of causes)) (row w)
      covered-all t l = exact 64 (omega arith) t (omega arith) (omega arith)

-- ---- the loop: word b has become w, which has the lanes that explain, and has covered settings alone
pub record Stands (row₀ : List ℕ) (b e : ℕ) (causes : Causes) (weights x y row : List ℕ) (w : ℕ) : Type 0 where
  pub row_is : row ≡ set row₀ b w
  pub from : Within 64 e w
  pub grows : (p : ℕ → Bool) (first : ℕ) → Block p first b e causes weights x y row₀ → Growing p first causes w

set-again : (l : List ℕ) (i u v : ℕ) → set (set l i u) i v ≡ set l i v
set-again [] i u v = refl
set-again (z ∷ l) zero u v = refl
set-again (z ∷ l) (suc i) u v = ap (λ (t : List ℕ). z ∷ t) (set-again l i u v)

module _ {row₀ : List ℕ} {b e : ℕ} {causes : Causes} {weights x y : List ℕ} (inside : b < length row₀) where
  pub stands_start : Stands row₀ b e causes weights x y (set row₀ b e) e
  stands_start = record { row_is = refl; from = λ j l h. h; grows = λ p first k. growing_start k inside }

  module _ {row : List ℕ} {w r : ℕ} (s : Stands row₀ b e causes weights x y row w)
      (d : Droppable row (64 * b) causes.all weights x y r) where
    d_set : Droppable (set row₀ b w) (64 * b) causes.all weights x y r
    d_set = subst (λ (l : List ℕ). Droppable l (64 * b) causes.all weights x y r) s.row_is d

    pub stands_next : Stands row₀ b e causes weights x y (set row b (bit_or w r)) (bit_or w r)
    stands_next = record {
      row_is = ap (λ (l : List ℕ). set l b (bit_or w r)) s.row_is ∙ set-again row₀ b w (bit_or w r);
      from = λ j l h. has-or w r j ∙ ap (λ (t : Bool). t || has r j) (s.from j l h);
      grows = λ p first k. growing_next k inside w r (s.grows p first k) d_set;
    }

    -- the word gets more bits
    pub stands_less : w < 2 ^ 64 → r < 2 ^ 64 → (bit_or w r ≡ w → ⊥) → 64 - ones (bit_or w r) < 64 - ones w
    stands_less h k ne =
        ⊎_elim
        (λ (q : w ≡ bit_or w r). absurd (ne (sym q)))
        (λ (q : ones w < ones (bit_or w r)). omega (arith, ones-le 64 (bit_or w r) (or_lt 64 _ _ h k)))
        (ones-grow 64 w (bit_or w r) h (or_lt 64 _ _ h k)
        (λ j l z. has-or w r j ∙ ap (λ (t : Bool). t || has r j) z))

    pub stands_end : length row₀ ≡ 1848 → bit_or w r ≡ w → Covers row₀ b e causes weights x y row r
    stands_end size f = record {
      size_is = ap length s.row_is ∙ length-set row₀ b w ∙ size;
      larger_is = λ p first k j l m. larger_all k inside w r (s.grows p first k) d_set s.from f j l m;
      covered = λ p first k.
          subst (CoveredRow p (choices_of causes) (min (first + 64) (settings_of causes))) (sym s.row_is)
          (covered-all k inside w r (s.grows p first k) d_set s.from f);
    }
