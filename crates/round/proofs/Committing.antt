-- What is noted taken into the planes, atom by atom, and so one round in lanes. Assumes nothing.
use mathlib.Core.Path.{◌≡◌, refl, sym, ap, ap₂, ◌∙◌}
use mathlib.Core.Bool.{Bool, true, false, ◌&&◌, ◌||◌, or-false, true≢false}
use mathlib.Core.List.{List}
use Prim.Native.Nat.{ℕ, ◌<◌}
use native.Mathlib.Omega.{arith}
use lib.Bits.{bit_or}
use lib.Dec.{eqb}
use lib.ListN.{length, get_or, set, length-set}
use lib.Seq.{get_or-set_same, get_or-set_other}
use borrow.Author.Tests.{eqb-true, eqb-false}
use Rattle.words.specs.Choice.{pick}
use Rattle.words.specs.Bits.{has}
use Rattle.words.specs.OneBit.{without_bit, BitOf}
use Rattle.words.proofs.Bits.{has-zero, has-or}
use Rattle.words.proofs.BitWalks.{without_here, without_other}
use Rattle.logic.specs.Value.{is_true, is_false, is_decided}
use Rattle.round.specs.declared.redo.Changed.{Changed}
use Rattle.planes.specs.Planes.{at}
use Rattle.round.specs.Redo.{open_at, ruled, fresh, Decided, Committed, Redone}

-- an entry with what is noted of it
abbrev pub entry : Bool → ℕ → ℕ → ℕ
entry b x u = pick b (bit_or x u) x

module _ (w : ℕ) (u t₀ : List ℕ) where
  -- one plane: the atoms left bring t to what the whole word makes of t₀
  pub record Committing (t : List ℕ) (left : ℕ) : Type 0 where
    pub size : length t ≡ 64
    pub entry-is : (a : ℕ) → a < 64
        → entry (has left a) (get_or t a 0) (get_or u a 0) ≡ entry (has w a) (get_or t₀ a 0) (get_or u a 0)

  pub committing_start : length t₀ ≡ 64 → Committing t₀ w
  committing_start l = record { size = l; entry-is = λ a m. refl }

  pub committing_next : (t : List ℕ) (left i : ℕ) → Committing t left → BitOf left i
      → Committing (set t i (bit_or (get_or t i 0) (get_or u i 0))) (without_bit left i)
  committing_next t left i k b = record {
    size = length-set t i _ ∙ k.size;
    entry-is = λ a m. go a m (eqb a i) refl ∙ k.entry-is a m;
  }
    where
      x : ℕ
      x = bit_or (get_or t i 0) (get_or u i 0)

      here : entry (has (without_bit left i) i) (get_or (set t i x) i 0) (get_or u i 0)
          ≡ entry (has left i) (get_or t i 0) (get_or u i 0)
      here =
          ap₂ (λ (s : Bool) (y : ℕ). entry s y (get_or u i 0)) (without_here left i b)
          (get_or-set_same t i x 0 (omega (arith, k.size, b.small)))
          ∙ ap (λ (s : Bool). entry s (get_or t i 0) (get_or u i 0)) (sym b.there)

      go : (a : ℕ) → a < 64 → (s : Bool) → eqb a i ≡ s
          → entry (has (without_bit left i) a) (get_or (set t i x) a 0) (get_or u a 0)
          ≡ entry (has left a) (get_or t a 0) (get_or u a 0)
      go a m true z = rw (eqb-true a i z) here
      go a m false z =
          let ne = eqb-false a i z in
          ap₂ (λ (s : Bool) (y : ℕ). entry s y (get_or u a 0)) (without_other left i b a m ne)
          (get_or-set_other t i a x 0 ne)

  pub committing_end : (t : List ℕ) (left : ℕ) → Committing t left → left ≡ 0
      → (a : ℕ) → a < 64 → get_or t a 0 ≡ entry (has w a) (get_or t₀ a 0) (get_or u a 0)
  committing_end t left k e a m =
      ap (λ (s : Bool). entry s (get_or t a 0) (get_or u a 0)) (sym (ap (λ (x : ℕ). has x a) e ∙ has-zero a))
      ∙ k.entry-is a m

-- ---- the round: the heads decided against the old planes, then what is noted taken in
module _ (cl : List ℕ) (n heads : ℕ) (t f ut uf t₁ f₁ : List ℕ) (r : Changed)
    (d : Decided cl n heads t f ut uf r) (k : Committed r.atoms ut uf t f t₁ f₁) where
  entry_has : (b : Bool) (x u j : ℕ) → has (entry b x u) j ≡ (has x j || b && has u j)
  entry_has true x u j = has-or x u j
  entry_has false x u j = sym (or-false (has x j))

  split : (x y u v : Bool) → (x && (y && (u || v))) ≡ (x && (y && u) || x && (y && v))
  split true true u v = refl
  split true false u v = refl
  split false y u v = refl

  changed-atom : (j a : ℕ) → j < 64 → a < 64 → (b : Bool) → has r.atoms a ≡ b
      → fresh is_decided cl n heads t f j a ≡ true → has r.atoms a ≡ true
  changed-atom j a l m true z e = z
  changed-atom j a l m false z e =
      absurd (true≢false (sym e
      ∙ split (has heads a) (open_at t f j a) (is_true (ruled cl n t f j a)) (is_false (ruled cl n t f j a))
      ∙ ap₂ ◌||◌ (sym (d.ups j a l m)) (sym (d.downs j a l m))
      ∙ ap (λ (x : Bool). x && at ut j a || x && at uf j a) z))

  pub redone-lanes : Redone cl n heads t f t₁ f₁ r
  redone-lanes = record {
    trues_are = λ j a l m. ap (λ (x : ℕ). has x j) (k.trues_are a m)
        ∙ entry_has (has r.atoms a) (get_or t a 0) (get_or ut a 0) j
        ∙ ap (λ (x : Bool). at t j a || x) (d.ups j a l m);
    falses_are = λ j a l m. ap (λ (x : ℕ). has x j) (k.falses_are a m)
        ∙ entry_has (has r.atoms a) (get_or f a 0) (get_or uf a 0) j
        ∙ ap (λ (x : Bool). at f j a || x) (d.downs j a l m);
    lanes_are = d.lanes_are;
    atoms_are = λ j a l m. changed-atom j a l m (has r.atoms a) refl;
  }
