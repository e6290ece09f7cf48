-- The literals on the atoms of two words, by a lookup of names that finds the name of each atom: their atoms are those
-- of the words again, and their names are those of atoms.
-- Assumes nothing.
use mathlib.Core.Path.{◌≡◌, refl, sym, ◌∙◌}
use mathlib.Core.Bool.{Bool, true, false, or-false, true≢false}
use mathlib.Core.List.{List, [], ◌∷◌, ◌++◌}
use Prim.Native.Nat.{ℕ, zero, suc, ◌≤◌, ◌<◌, ◌^◌}
use native.Mathlib.Nat.{lt_of_lt_of_le}
use native.Mathlib.Omega.{arith}
use lib.Dec.{eqb, ltb}
use lib.Pow.{pow_mono}
use lib.ListN.{length}
use borrow.Author.Tests.{eqb-true, ltb-true, ltb-false}
use Rattle.words.specs.Choice.{cons_if}
use Rattle.words.specs.Bits.{has}
use Rattle.words.proofs.Bits.{has_above}
use Rattle.words.proofs.Tests.{by_test, and_true_l, and_true_r}
use Rattle.program.specs.Cause.{atoms_from, atoms_in}
use Rattle.program.specs.Sound.{bare}
use Rattle.program.proofs.Atoms.{atoms-zero, in_atoms}
use Rattle.text.proofs.Each.{Each}
use Rattle.grammar.specs.Line.{Literal, body_names}
use Rattle.store.specs.Saying.{atoms_by}
use Rattle.store.proofs.Saying.{on-append, is-atoms}
use Rattle.store.proofs.Literals.{none_bare}
use Rattle.store.proofs.Lookups.{Finds, found-on, found-other}
use Rattle.writing.specs.Lines.{literals_on, literals_for}

-- ---- the atoms of a word
-- the bits of a word below 2 ^ m are below m
bit_below : (w m k : ℕ) → w < 2 ^ m → has w k ≡ true → k < m
bit_below w m k h e =
    ltb-true k m
    (by_test (ltb k m) (λ t. t) (λ t. absurd (true≢false (sym e ∙ has_above m w k h (ltb-false k m t)))))

each_below : (w m n k : ℕ) → w < 2 ^ m → Each (λ c. c < m) (atoms_from w k n)
unfolding atoms_from
each_below w m zero k h = tt
each_below w m (suc n) k h = go (has w k) refl (each_below w m n (suc k) h)
  where
    go : (t : Bool) → has w k ≡ t → Each (λ c. c < m) (atoms_from w (suc k) n)
        → Each (λ c. c < m) (cons_if t k (atoms_from w (suc k) n))
    go true e ih = (bit_below w m k h e, ih)
    go false e ih = ih

-- ---- literals
module _ (at : List ℕ → ℕ) (name : ℕ → List ℕ) (n : ℕ) (f : Finds at name n) where
  module _ (p q : ℕ) (few : n ≤ 64) (hp : p < 2 ^ n) (hq : q < 2 ^ n) where
    abbrev ls : List Literal
    ls = literals_for name p q

    -- the bits of the two words are below 64
    pub plain_back : atoms_by at false ls ≡ p
    plain_back =
        sym (is-atoms at false p ls (lt_of_lt_of_le hp (pow_mono few)) (λ i h. sym (
        on-append at false (literals_on name false (atoms_in p)) (literals_on name true (atoms_in q)) i
        ∙ rw (
          found-on at name n f false (atoms_in p) i (each_below p n 64 0 hp),
          found-other at name false (atoms_in q) i,
          in_atoms p 64 0 i (omega arith) (omega arith),
        ) (or-false (has p i)))))

    pub negated_back : atoms_by at true ls ≡ q
    negated_back =
        sym (is-atoms at true q ls (lt_of_lt_of_le hq (pow_mono few)) (λ i h. sym (
        on-append at true (literals_on name false (atoms_in p)) (literals_on name true (atoms_in q)) i
        ∙ rw (
          found-other at name true (atoms_in p) i,
          found-on at name n f true (atoms_in q) i (each_below q n 64 0 hq),
        )
        (in_atoms q 64 0 i (omega arith) (omega arith)))))

    -- there is a literal where there is a bit
    some-length : (l : List Literal) → bare (atoms_by at false l) (atoms_by at true l) ≡ false → 0 < length l
    some-length [] h = absurd (true≢false (sym (none_bare at n) ∙ h))
    some-length (x ∷ l) h = omega arith

    pub literals-some : bare p q ≡ false → 0 < length ls
    literals-some h = some-length ls (rw (plain_back, negated_back) h)

pub literals-none : (name : ℕ → List ℕ) (p q : ℕ) → bare p q ≡ true → literals_for name p q ≡ []
literals-none name p q h =
    rw (eqb-true p 0 (and_true_l (eqb p 0) (eqb q 0) h), eqb-true q 0 (and_true_r (eqb p 0) (eqb q 0) h), atoms-zero)

-- ---- their names
module _ (name : ℕ → List ℕ) (n : ℕ) (P : List ℕ → Type 0) (h : (a : ℕ) → a < n → P (name a)) where
  names-on : (b : Bool) (l : List ℕ) (m : List Literal) → Each (λ a. a < n) l → Each P (body_names m)
      → Each P (body_names (literals_on name b l ++ m))
  names-on b [] m k i = i
  names-on b (a ∷ l) m k i = (h a k.0, names-on b l m k.1 i)

  pub literal-names : (p q : ℕ) → p < 2 ^ n → q < 2 ^ n → Each P (body_names (literals_for name p q))
  literal-names p q hp hq =
      names-on false (atoms_in p) _ (each_below p n 64 0 hp) (plain_end (atoms_in q) (each_below q n 64 0 hq))
    where
      plain_end : (l : List ℕ) → Each (λ a. a < n) l → Each P (body_names (literals_on name true l))
      plain_end [] k = tt
      plain_end (a ∷ l) k = (h a k.0, plain_end l k.1)
