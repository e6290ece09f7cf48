-- The planes filled lane by lane with what settings add, and atom by atom with the same in each lane. Assumes nothing.
use mathlib.Core.Path.{◌≡◌, sym, ap, ap₂, ◌∙◌}
use mathlib.Core.Bool.{Bool, ◌&&◌, ◌||◌, or-false, and-false, and-true}
use mathlib.Core.List.{List}
use mathlib.Core.Logic.{⊎_elim}
use Prim.Native.Nat.{ℕ, ◌+◌, ◌≤◌, ◌<◌}
use native.Mathlib.Nat.{eq-or-lt_of_le, add_assoc}
use native.Mathlib.Omega.{arith}
use lib.Dec.{eqb, ltb}
use lib.ListN.{length, get_or, set, length-set}
use lib.Seq.{get_or-set_same, get_or-set_other}
use borrow.Author.Tests.{eq-eqb, ne_eqb, lt-ltb, le-ltb}
use Rattle.words.specs.Bits.{has}
use Rattle.words.proofs.Tests.{lt-or-le}
use Rattle.words.proofs.Bits.{has-zero}
use Rattle.words.proofs.BitWalks.{has_with}
use Rattle.program.specs.declared.cause.Additions.{Additions}
use Rattle.program.specs.declared.cause.Causes.{Causes}
use Rattle.program.specs.Setting.{additions_of}
use Rattle.prepared.specs.Dependents.{Zeros, Spread}
use Rattle.planes.specs.Planes.{at}
use Rattle.planes.specs.Fill.{Filled}

-- ---- the numbers below k and k itself are those below k + 1
module _ (p : ℕ → Bool) (j k : ℕ) where
  one-before : j < k → (ltb j k && p j || p k && eqb j k) ≡ (ltb j (k + 1) && p j)
  one-before l =
      ap₂ (λ (s t : Bool). s && p j || p k && t) (lt-ltb j k l) (ne_eqb j k (omega arith))
      ∙ ap (λ (t : Bool). p j || t) (and-false (p k)) ∙ or-false (p j)
      ∙ sym (ap (λ (t : Bool). t && p j) (lt-ltb j (k + 1) (omega arith)))

  one-here : j ≡ k → (ltb j k && p j || p k && eqb j k) ≡ (ltb j (k + 1) && p j)
  one-here e =
      ap₂ (λ (s t : Bool). s && p j || p k && t) (le-ltb j k (omega arith)) (eq-eqb j k e)
      ∙ and-true (p k) ∙ ap p (sym e)
      ∙ sym (ap (λ (t : Bool). t && p j) (lt-ltb j (k + 1) (omega arith)))

  one-behind : k < j → (ltb j k && p j || p k && eqb j k) ≡ (ltb j (k + 1) && p j)
  one-behind l =
      ap₂ (λ (s t : Bool). s && p j || p k && t) (le-ltb j k (omega arith)) (ne_eqb j k (omega arith))
      ∙ and-false (p k)
      ∙ sym (ap (λ (t : Bool). t && p j) (le-ltb j (k + 1) (omega arith)))

  one-more-below : (ltb j k && p j || p k && eqb j k) ≡ (ltb j (k + 1) && p j)
  one-more-below =
      ⊎_elim one-before (λ (l : k ≤ j). ⊎_elim (λ (e : k ≡ j). one-here (sym e)) one-behind (eq-or-lt_of_le l))
      (lt-or-le j k)

-- ---- the lanes below k of a plane are filled: w j has the atoms of lane j
abbrev pub Below : (ℕ → ℕ) → ℕ → List ℕ → Type 0
Below w k x = (j a : ℕ) → j < 64 → a < 64 → at x j a ≡ (ltb j k && has (w j) a)

below-start : (w : ℕ → ℕ) (x : List ℕ) → Zeros x → Below w 0 x
below-start w x z j a l m =
    ap (λ (e : ℕ). has e j) (z a m) ∙ has-zero j ∙ sym (ap (λ (t : Bool). t && has (w j) a) (le-ltb j 0 (omega arith)))

below_next : (w : ℕ → ℕ) (k : ℕ) (x u : List ℕ) → Below w k x → Spread x (w k) k u → Below w (k + 1) u
below_next w k x u b s j a l m =
    ap (λ (e : ℕ). has e j) (s.entry-is a m) ∙ has_with (has (w k) a) (get_or x a 0) k j
    ∙ ap (λ (t : Bool). t || has (w k) a && eqb j k) (b j a l m) ∙ one-more-below (λ i. has (w i) a) j k

below_end : (w : ℕ → ℕ) (k : ℕ) (x : List ℕ) → Below w k x → 64 ≤ k → (j a : ℕ) → j < 64 → a < 64
    → at x j a ≡ has (w j) a
below_end w k x b h j a l m = b j a l m ∙ ap (λ (t : Bool). t && has (w j) a) (lt-ltb j k (omega arith))

-- ---- the planes hold k of the settings from s on; next is what the setting behind them adds
pub record Filling (causes : Causes) (s : ℕ) (next : Additions) (k : ℕ) (x y : List ℕ) : Type 0 where
  pub next-is : next ≡ additions_of causes (s + k)
  pub facts_are : Below (λ j. (additions_of causes (s + j)).facts) k x
  pub assumptions_are : Below (λ j. (additions_of causes (s + j)).assumptions) k y

module _ (causes : Causes) (s : ℕ) where
  pub filling_start : (added : Additions) (x y : List ℕ) → added ≡ additions_of causes s → Zeros x → Zeros y
      → Filling causes s added 0 x y
  filling_start added x y e p q = record {
    next-is = let z : s ≡ s + 0 = omega arith in e ∙ ap (additions_of causes) z;
    facts_are = below-start (λ j. (additions_of causes (s + j)).facts) x p;
    assumptions_are = below-start (λ j. (additions_of causes (s + j)).assumptions) y q;
  }

  pub filling_next : (next then : Additions) (k : ℕ) (x y u v : List ℕ) → Filling causes s next k x y
      → Spread x next.facts k u → Spread y next.assumptions k v
      → ((r : ℕ) → next ≡ additions_of causes r → then ≡ additions_of causes (r + 1))
      → Filling causes s then (k + 1) u v
  filling_next next then k x y u v f p q n = record {
    next-is = n (s + k) f.next-is ∙ ap (additions_of causes) (add_assoc s k 1);
    facts_are = below_next (λ j. (additions_of causes (s + j)).facts) k x u f.facts_are
        (rw (ap (λ (z : Additions). z.facts) f.next-is) at p);
    assumptions_are = below_next (λ j. (additions_of causes (s + j)).assumptions) k y v f.assumptions_are
        (rw (ap (λ (z : Additions). z.assumptions) f.next-is) at q);
  }

  pub filling_end : (next : Additions) (k : ℕ) (x y : List ℕ) → Filling causes s next k x y → k ≡ 64
      → Filled causes s x y × (next ≡ additions_of causes (s + 64))
  filling_end next k x y f e = (
    record {
      facts_are = below_end (λ j. (additions_of causes (s + j)).facts) k x f.facts_are (omega arith);
      assumptions_are = below_end (λ j. (additions_of causes (s + j)).assumptions) k y f.assumptions_are (omega arith);
    },
    f.next-is ∙ ap (λ (i : ℕ). additions_of causes (s + i)) e,
  )

-- ---- the atoms below k have the same in each lane
pub record EvenBelow (w k : ℕ) (t : List ℕ) : Type 0 where
  pub low : k ≤ 64
  pub size : length t ≡ 64
  pub each : (a : ℕ) → a < k → (j : ℕ) → j < 64 → at t j a ≡ has w a

pub even_start : (w : ℕ) (t : List ℕ) → length t ≡ 64 → EvenBelow w 0 t
even_start w t s = record { low = omega arith; size = s; each = λ a l. absurd (omega arith) }

pub even_next : (w k e : ℕ) (t : List ℕ) → EvenBelow w k t → k < 64
    → ((j : ℕ) → j < 64 → has e j ≡ has w k) → EvenBelow w (k + 1) (set t k e)
even_next w k e t h l q = record {
  low = omega arith;
  size = length-set t k e ∙ h.size;
  each = λ a m j n. ⊎_elim
      (λ (z : a ≡ k). ap (λ (i : ℕ). at (set t k e) j i) z
      ∙ ap (λ (x : ℕ). has x j) (get_or-set_same t k e 0 (omega (arith, h.size))) ∙ q j n ∙ ap (has w) (sym z))
      (λ (z : a < k). ap (λ (x : ℕ). has x j) (get_or-set_other t k a e 0 (λ y. omega arith)) ∙ h.each a z j n)
      (eq-or-lt_of_le (omega arith));
}
