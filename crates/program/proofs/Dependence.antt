-- Laws of dependence: which atoms a clause names, and which atom depends on which. Assumes nothing.
use mathlib.Core.Path.{◌≡◌, refl, sym, ap}
use mathlib.Core.Bool.{Bool, true, false, ◌&&◌}
use mathlib.Core.List.{List}
use mathlib.Core.Logic.{⊎_elim}
use Prim.Native.Nat.{ℕ, ◌*◌, ◌/◌, ◌%◌, ◌^◌, ◌<◌}
use lib.Dec.{eqb, ltb}
use lib.ListN.{get_or}
use borrow.Author.Tests.{eqb-true, eq-eqb, ltb-true}
use Rattle.words.specs.Bits.{has}
use Rattle.words.proofs.Tests.{true_or_false, and_true_l, and_true_r, or_true_l}
use Rattle.words.proofs.Below.{any_found, any_true, all-false, any_false, every-at}
use Rattle.words.proofs.Bits.{below_of_has}
use Rattle.program.specs.declared.case.Case.{Case}
use Rattle.program.specs.Case.{head_at, plain_at, negated_at}
use Rattle.program.specs.Program.{headed, names, depends_on}
use Rattle.program.specs.Sound.{within, bare, shaped, sound_clause, sound_clauses, sound}
use Rattle.program.proofs.Soundness.{clause_test, sound-clause-table}

-- a head depends on what its clause names
pub depends-on : (cl : List ℕ) (n k b : ℕ) → k < n → names cl k b ≡ true → depends_on cl n (head_at cl k) b ≡ true
depends-on cl n k b l e =
    any_true n (λ j. eqb (head_at cl k) (head_at cl j) && names cl j b) k l
    (rw (eq-eqb (head_at cl k) (head_at cl k) refl, e))

-- the clause by which a depends on b
pub depends_by : (cl : List ℕ) (n a b : ℕ) → depends_on cl n a b ≡ true
    → (k : ℕ) × (k < n) × (head_at cl k ≡ a) × (names cl k b ≡ true)
depends_by cl n a b e =
    let f = any_found n (λ k. eqb a (head_at cl k) && names cl k b) e in (
      f.0,
      f.1,
      sym (eqb-true a (head_at cl f.0) (and_true_l _ (names cl f.0 b) f.2)),
      and_true_r (eqb a (head_at cl f.0)) _ f.2,
    )

-- an atom that is no head depends on none
pub headless_none : (cl : List ℕ) (n a b : ℕ) → headed cl n a ≡ false → depends_on cl n a b ≡ false
headless_none cl n a b e =
    all-false n (λ k. eqb a (head_at cl k) && names cl k b)
    (λ k l. ap (λ (t : Bool). t && names cl k b) (any_false n (λ k. eqb a (head_at cl k)) e k l))

clause-within : (n first p q : ℕ) → sound_clause n first p q ≡ true → within n p q ≡ true
unfolding sound_clause
clause-within n first p q e =
    and_true_r (ltb (first % 64) n) (within n p q)
    (and_true_l (ltb (first % 64) n && within n p q) (shaped (first / 64) (bare p q)) e)

-- a clause of a sound case names atoms of the case
pub sound-named : (c : Case) (cl co fo : List ℕ) → sound c cl co fo ≡ true → (k b : ℕ) → k < c.clauses
    → names cl k b ≡ true → b < c.atoms
unfolding sound_clauses within
sound-named c cl co fo s k b l e =
    let w = clause-within c.atoms (get_or cl (3 * k) 0) (plain_at cl k) (negated_at cl k)
    (every-at c.clauses (clause_test c.atoms cl) (sound-clause-table c cl co fo s) k l) in
    let p = ltb-true (plain_at cl k) (2 ^ c.atoms) (and_true_l (ltb (plain_at cl k) (2 ^ c.atoms)) _ w) in
    let q = ltb-true (negated_at cl k) (2 ^ c.atoms) (and_true_r (ltb (plain_at cl k) (2 ^ c.atoms)) _ w) in
    ⊎_elim (λ (h : has (negated_at cl k) b ≡ true). below_of_has c.atoms (negated_at cl k) b q h)
    (λ (h : has (negated_at cl k) b ≡ false).
    below_of_has c.atoms (plain_at cl k) b p (or_true_l (has (plain_at cl k) b) (has (negated_at cl k) b) h e))
    (true_or_false (has (negated_at cl k) b))
