-- The atoms of a word are as many as its ones, and below 64, its lowest bit comes first, and they are its bits.
--
--   is_in l a      a is one of the atoms l
-- Assumes nothing.
use mathlib.Core.Path.{◌≡◌, refl, sym, ap, ap₂, ◌∙◌}
use mathlib.Core.Bool.{Bool, true, false, ◌&&◌, ◌||◌, and-false, and-true, or-false}
use mathlib.Core.List.{List, [], ◌∷◌}
use mathlib.Core.Logic.{⊎_elim}
use Prim.Native.Nat.{ℕ, zero, suc, ◌+◌, ◌*◌, ◌/◌, ◌%◌, ◌^◌, ◌≤◌, ◌<◌}
use native.Mathlib.Nat.{not-suc-le-zero, le_of_suc-le-suc, pow-suc, div-one, le_refl, eq-or-lt_of_le}
use native.Mathlib.Numerals.{add-one}
use native.Mathlib.Omega.{arith}
use lib.Count.{ones, ones_step, ones-le}
use lib.Dec.{eqb}
use lib.ListN.{length, get_or}
use lib.Pow.{shr-shr}
use borrow.Author.Tests.{eqb-true, eqb-false, eq-eqb, ne_eqb}
use Rattle.words.specs.Choice.{cons_if}
use Rattle.words.specs.Bits.{odd, has}
use Rattle.words.specs.OneBit.{without_bit, LowestOf}
use Rattle.words.proofs.BitWalks.{without_here, without_other}
use Rattle.program.specs.Cause.{atoms_from, atoms_in}

-- ---- how many
-- bit a in front: the count grows by it
count_cons : (x a : ℕ) (l : List ℕ) → length l ≡ ones (x / 2) → length (cons_if (odd x) a l) ≡ ones x
count_cons x a l e = go (odd x) refl
  where
    go : (b : Bool) → odd x ≡ b → length (cons_if (odd x) a l) ≡ ones x
    go true p = rw p (omega (arith, ones_step x, eqb-true (x % 2) 1 p))
    go false p = rw p (omega (arith, ones_step x, eqb-false (x % 2) 1 p))

atoms-count : (w a n : ℕ) → w / 2 ^ a < 2 ^ n → length (atoms_from w a n) ≡ ones (w / 2 ^ a)
unfolding atoms_from has
atoms-count w a zero h = omega (arith, ones-le 0 (w / 2 ^ a) h)
atoms-count w a (suc n) h =
    let e : 2 ^ suc n ≡ 2 ^ n * 2 = pow-suc 2 n in
    let q : w / 2 ^ a / 2 ≡ w / 2 ^ suc a = shr-shr w a 1 ∙ ap (λ (k : ℕ). w / 2 ^ k) (add-one a) in
    count_cons (w / 2 ^ a) a (atoms_from w (suc a) n) (atoms-count w (suc a) n (omega arith) ∙ ap ones (sym q))

pub atoms-length : (w : ℕ) → w < 2 ^ 64 → length (atoms_in w) ≡ ones w
atoms-length w h = atoms-count w 0 64 (rw div-one h) ∙ ap ones (div-one w)

-- ---- how large
-- with a in front, where the test holds, all are still below m
cons_below : (t : Bool) (a m : ℕ) (l : List ℕ) → a < m → ((i : ℕ) → i < length l → get_or l i 0 < m)
    → (i : ℕ) → i < length (cons_if t a l) → get_or (cons_if t a l) i 0 < m
cons_below true a m l h k zero p = h
cons_below true a m l h k (suc i) p = k i (le_of_suc-le-suc p)
cons_below false a m l h k i p = k i p

-- the atoms of a word are among those that are gone through
atoms-among : (w a n m : ℕ) → a + n ≤ m → (i : ℕ) → i < length (atoms_from w a n) → get_or (atoms_from w a n) i 0 < m
unfolding atoms_from
atoms-among w a zero m h i p = absurd (not-suc-le-zero p)
atoms-among w a (suc n) m h i p =
    cons_below (has w a) a m (atoms_from w (suc a) n) (omega arith) (atoms-among w (suc a) n m (omega arith)) i p

pub atoms-below : (w i : ℕ) → i < length (atoms_in w) → get_or (atoms_in w) i 0 < 64
atoms-below w i h = atoms-among w 0 64 64 (omega arith) i h

-- ---- the lowest first
pub atoms-zero : atoms_in 0 ≡ []
unfolding atoms_from has
atoms-zero = refl

-- words with the same bits among the n from a on have the same atoms there
atoms_ext : (w x n a : ℕ) → ((b : ℕ) → a ≤ b → b < a + n → has w b ≡ has x b) → atoms_from w a n ≡ atoms_from x a n
unfolding atoms_from
atoms_ext w x zero a h = refl
atoms_ext w x (suc n) a h =
    ap₂ (λ (t : Bool) (l : List ℕ). cons_if t a l) (h a (le_refl a) (omega arith))
    (atoms_ext w x n (suc a) (λ b l m. h b (omega arith) (omega arith)))

module _ (w a : ℕ) (h : LowestOf w a) where
  -- among the n atoms from k on, of which a is one
  lowest_from : (n k : ℕ) → k ≤ a → a < k + n → k + n ≤ 64 → atoms_from w k n ≡ a ∷ atoms_from (without_bit w a) k n
  unfolding atoms_from
  lowest_from zero k l m f = absurd (omega arith)
  lowest_from (suc n) k l m f =
      ⊎_elim here (λ q. before q (lowest_from n (suc k) q (omega arith) (omega arith))) (eq-or-lt_of_le l)
    where
      x : ℕ
      x = without_bit w a

      here : k ≡ a → atoms_from w k (suc n) ≡ a ∷ atoms_from x k (suc n)
      here e =
          ap₂ (λ (t : Bool) (l : List ℕ). cons_if t k l) (ap (has w) e ∙ h.bit.there)
          (atoms_ext w x n (suc k) (λ b i j. sym (without_other w a h.bit b (omega arith) (λ q. omega arith))))
          ∙ ap₂ (λ (b : ℕ) (t : Bool). b ∷ cons_if t k (atoms_from x (suc k) n)) e
          (sym (ap (has x) e ∙ without_here w a h.bit))

      before : k < a → atoms_from w (suc k) n ≡ a ∷ atoms_from x (suc k) n
          → atoms_from w k (suc n) ≡ a ∷ atoms_from x k (suc n)
      before q ih =
          ap₂ (λ (t : Bool) (l : List ℕ). cons_if t k l) (h.none_below k q) ih
          ∙ ap (λ (t : Bool). a ∷ cons_if t k (atoms_from x (suc k) n))
          (sym (without_other w a h.bit k (omega arith) (λ e. omega arith) ∙ h.none_below k q))

  pub atoms_lowest : atoms_in w ≡ a ∷ atoms_in (without_bit w a)
  atoms_lowest = lowest_from 64 0 (omega arith) h.bit.small (omega arith)

-- ---- at most so many
pub cons_few : {A : Type 0} (b : Bool) (x : A) (n : ℕ) (l : List A) → length l ≤ n → length (cons_if b x l) ≤ suc n
cons_few true x n l h = omega arith
cons_few false x n l h = omega arith

pub atoms-few : (w a n : ℕ) → length (atoms_from w a n) ≤ n
unfolding atoms_from
atoms-few w a zero = omega arith
atoms-few w a (suc n) = cons_few (has w a) a n (atoms_from w (suc a) n) (atoms-few w (suc a) n)

-- ---- which
abbrev pub is_in : List ℕ → ℕ → Bool
is_in [] a = false
is_in (c ∷ l) a = eqb c a || is_in l a

cons_in : (t : Bool) (c : ℕ) (l : List ℕ) (a : ℕ) → is_in (cons_if t c l) a ≡ ((t && eqb c a) || is_in l a)
cons_in true c l a = refl
cons_in false c l a = refl

-- those from k on hold none below k
in_below : (w n k a : ℕ) → a < k → is_in (atoms_from w k n) a ≡ false
unfolding atoms_from
in_below w zero k a h = refl
in_below w (suc n) k a h =
    cons_in (has w k) k (atoms_from w (suc k) n) a
    ∙ rw (ne_eqb k a (λ e. omega arith), in_below w n (suc k) a (omega arith), and-false (has w k))

pub in_atoms : (w n k a : ℕ) → k ≤ a → a < k + n → is_in (atoms_from w k n) a ≡ has w a
unfolding atoms_from
in_atoms w zero k a h l = absurd (omega arith)
in_atoms w (suc n) k a h l =
    cons_in (has w k) k (atoms_from w (suc k) n) a
    ∙ ⊎_elim
    (λ (e : k ≡ a).
    rw (eq-eqb k a e, in_below w n (suc k) a (omega arith), and-true (has w k), or-false (has w k)) (ap (has w) e))
    (λ (q : k < a).
    rw (ne_eqb k a (λ e. omega arith), and-false (has w k)) (in_atoms w n (suc k) a q (omega arith)))
    (eq-or-lt_of_le h)
