-- Laws of the causes of a case: the atoms that are no head, and in edition 2 the heads of assumptions alone. Assumes
-- nothing.
use mathlib.Core.Path.{◌≡◌, refl, sym, ap, ap₂, ◌∙◌}
use mathlib.Core.Bool.{Bool, true, false, not, ◌&&◌, ◌||◌}
use mathlib.Core.List.{List}
use Prim.Native.Nat.{ℕ, ◌+◌, ◌-◌, ◌^◌, ◌≤◌, ◌<◌}
use native.Mathlib.Nat.{lt_of_le_of_lt, lt_of_lt_of_le}
use native.Mathlib.Omega.{arith}
use lib.Bits.{bit_and, bit_or, and_le_l, or_lt, or_zero_r}
use lib.Dec.{eqb, ltb}
use lib.Pow.{pow_mono, pow_pos}
use borrow.Author.Tests.{le-ltb, eqb-true, eq-eqb, ne_eqb, not-true}
use Rattle.words.specs.Choice.{pick}
use Rattle.words.specs.Bits.{has}
use Rattle.words.proofs.Tests.{and_true_l, and_true_r}
use Rattle.words.proofs.Below.{any_false, any_found, any_true, all-false}
use Rattle.words.proofs.Bits.{has-zero, has-and, has-or, has-not}
use Rattle.words.proofs.Words.{word_lt, has_word, is_word, has_lowest, lt_of_bits}
use Rattle.program.specs.declared.case.Case.{Case}
use Rattle.program.specs.Case.{head_at, kind_at}
use Rattle.program.specs.Program.{headed, heads_of}
use Rattle.program.specs.Cause.{causes_among, firmly_headed, firm_heads, assumed_only, causes_by, twofold_in}
use Rattle.program.specs.Cause.{causes_in, causes_of}
use Rattle.program.proofs.Heads.{heads-lt, heads-has, firm-lt, firm-has}

-- ---- atoms that are no head
-- atom a is one of the n, and no head
abbrev is_free : ℕ → ℕ → ℕ → Bool
is_free n heads a = ltb a n && not (has heads a)

free-has : (n heads a : ℕ) → a < 64 → has (causes_among n heads) a ≡ is_free n heads a
unfolding causes_among
free-has n heads a l = has_word 64 (is_free n heads) a l

free-fits : (n heads : ℕ) → causes_among n heads < 2 ^ 64
unfolding causes_among
free-fits n heads = word_lt 64 (is_free n heads)

-- the lowest n bits without the heads
pub causes_masked : (n top heads : ℕ) → n ≤ 64 → top + 1 ≡ 2 ^ n → heads < 2 ^ 64
    → bit_and top (2 ^ 64 - 1 - heads) ≡ causes_among n heads
unfolding causes_among
causes_masked n top heads h e l =
    is_word 64 (bit_and top (2 ^ 64 - 1 - heads)) (is_free n heads)
    (lt_of_le_of_lt (and_le_l top (2 ^ 64 - 1 - heads)) (lt_of_lt_of_le (omega arith) (pow_mono h)))
    (λ a m. has-and top (2 ^ 64 - 1 - heads) a ∙ ap₂ ◌&&◌ (has_lowest n top a e) (has-not 64 heads a l m))

-- ---- heads of assumptions alone
-- atom a is a head, and that of assumptions alone
abbrev is_assumed : List ℕ → ℕ → ℕ → Bool
is_assumed cl n a = headed cl n a && not (firmly_headed cl n a)

assumed_has : (cl : List ℕ) (n a : ℕ) → a < 64 → has (assumed_only cl n) a ≡ is_assumed cl n a
unfolding assumed_only
assumed_has cl n a l = has_word 64 (is_assumed cl n) a l

assumed_fits : (cl : List ℕ) (n : ℕ) → assumed_only cl n < 2 ^ 64
unfolding assumed_only
assumed_fits cl n = word_lt 64 (is_assumed cl n)

-- the heads without those of other clauses
assumed_masked : (cl : List ℕ) (n : ℕ) → bit_and (heads_of cl n) (2 ^ 64 - 1 - firm_heads cl n) ≡ assumed_only cl n
unfolding assumed_only
assumed_masked cl n =
    is_word 64 (bit_and (heads_of cl n) (2 ^ 64 - 1 - firm_heads cl n)) (is_assumed cl n)
    (lt_of_le_of_lt (and_le_l (heads_of cl n) (2 ^ 64 - 1 - firm_heads cl n)) (heads-lt cl n))
    (λ a m. has-and (heads_of cl n) (2 ^ 64 - 1 - firm_heads cl n) a
    ∙ ap₂ ◌&&◌ (heads-has cl n a m) (has-not 64 (firm_heads cl n) a (firm-lt cl n) m ∙ ap not (firm-has cl n a m)))

-- each clause of such a head is an assumption, and there is one
module _ (cl : List ℕ) (n a : ℕ) (l : a < 64) where
  module _ (h : has (assumed_only cl n) a ≡ true) where
    both : is_assumed cl n a ≡ true
    both = sym (assumed_has cl n a l) ∙ h

    pub assumed_some : (k : ℕ) × (k < n) × (a ≡ head_at cl k)
    assumed_some =
        let f =
        any_found n (λ k. eqb a (head_at cl k)) (and_true_l (headed cl n a) (not (firmly_headed cl n a)) both) in
        (f.0, f.1, eqb-true a _ f.2)

    pub assumed_all : (k : ℕ) → k < n → a ≡ head_at cl k → kind_at cl k ≡ 1
    assumed_all k m e =
        eqb-true (kind_at cl k) 1
        (kept (eqb (kind_at cl k) 1)
        (ap (λ (b : Bool). b && not (eqb (kind_at cl k) 1)) (sym (eq-eqb a (head_at cl k) e))
        ∙ any_false n (λ j. eqb a (head_at cl j) && not (eqb (kind_at cl j) 1)) none k m))
      where
        none : firmly_headed cl n a ≡ false
        none = not-true (firmly_headed cl n a) (and_true_r (headed cl n a) (not (firmly_headed cl n a)) both)

        kept : (b : Bool) → not b ≡ false → b ≡ true
        kept true q = refl
        kept false q = sym q

  pub assumed-only : (k : ℕ) → k < n → a ≡ head_at cl k → ((j : ℕ) → j < n → a ≡ head_at cl j → kind_at cl j ≡ 1)
      → has (assumed_only cl n) a ≡ true
  assumed-only k m e f =
      assumed_has cl n a l
      ∙ ap₂ (λ (b d : Bool). b && not d) (any_true n (λ j. eqb a (head_at cl j)) k m (eq-eqb a (head_at cl k) e))
      (all-false n (λ j. eqb a (head_at cl j) && not (eqb (kind_at cl j) 1))
      (λ j i. firm j i (eqb a (head_at cl j)) refl))
    where
      firm : (j : ℕ) → j < n → (b : Bool) → eqb a (head_at cl j) ≡ b → (b && not (eqb (kind_at cl j) 1)) ≡ false
      firm j i true q = ap not (eq-eqb (kind_at cl j) 1 (f j i (eqb-true a (head_at cl j) q)))
      firm j i false q = refl

  -- it is below every number that all heads are below
  pub assumed_below : (m : ℕ) → ((k : ℕ) → k < n → head_at cl k < m) → m ≤ a → has (assumed_only cl n) a ≡ false
  assumed_below m f i = go (has (assumed_only cl n) a) refl
    where
      go : (b : Bool) → has (assumed_only cl n) a ≡ b → b ≡ false
      go true e = let s = assumed_some e in absurd (omega (arith, f s.0 s.1, s.2))
      go false e = refl

-- ---- the causes by edition
module _ (e n : ℕ) (cl : List ℕ) (m : ℕ) where
  pub causes_plain : (e ≡ 2 → ⊥) → {w : ℕ} → w ≡ causes_among n (heads_of cl m) → causes_by 0 w ≡ causes_in e n cl m
  unfolding causes_in
  causes_plain h q = rw (ne_eqb e 2 h, or_zero_r, q)

  pub causes_overridden : e ≡ 2 → {w v : ℕ} → w ≡ causes_among n (heads_of cl m)
      → v ≡ bit_and (heads_of cl m) (2 ^ 64 - 1 - firm_heads cl m) → causes_by v (bit_or w v) ≡ causes_in e n cl m
  unfolding causes_in
  causes_overridden h q r = rw (eq-eqb e 2 h, r, assumed_masked, q)

twofold_bit : (b : Bool) (x y : ℕ) (a : ℕ) → has (pick b x y) a ≡ pick b (has x a) (has y a)
twofold_bit true x y a = refl
twofold_bit false x y a = refl

twofold_fits : (b : Bool) (cl : List ℕ) (m : ℕ) → pick b (assumed_only cl m) 0 < 2 ^ 64
twofold_fits true cl m = assumed_fits cl m
twofold_fits false cl m = pow_pos 64

-- ---- the causes of a case
pub causes-of : (c : Case) (cl : List ℕ) → causes_of c cl ≡ causes_in c.edition c.atoms cl c.clauses
unfolding causes_of
causes-of c cl = refl

-- they hang on its edition, atoms and clauses alone
pub causes_alike : (c d : Case) (cl : List ℕ) → c.edition ≡ d.edition → c.atoms ≡ d.atoms
    → c.clauses ≡ d.clauses → causes_of c cl ≡ causes_of d cl
unfolding causes_of
causes_alike c d cl e a l = rw (e, a, l)

-- where all heads are atoms of the case, so are its causes
pub causes_of-lt : (c : Case) (cl : List ℕ) → c.atoms ≤ 64 → ((k : ℕ) → k < c.clauses → head_at cl k < c.atoms)
    → (causes_of c cl).all < 2 ^ c.atoms
unfolding causes_of causes_in
causes_of-lt c cl h f =
    lt_of_bits 64 c.atoms (causes_of c cl).all h
    (or_lt 64 _ _ (free-fits c.atoms heads) (twofold_fits (eqb c.edition 2) cl c.clauses))
    (λ a l m. has-or (causes_among c.atoms heads) (twofold_in c.edition cl c.clauses) a
    ∙ ap₂ ◌||◌ (free-has c.atoms heads a m ∙ ap (λ (b : Bool). b && not (has heads a)) (le-ltb a c.atoms l))
    (twofold_bit (eqb c.edition 2) (assumed_only cl c.clauses) 0 a
    ∙ ap₂ (pick (eqb c.edition 2)) (assumed_below cl c.clauses a m c.atoms f l) (has-zero a)
    ∙ none (eqb c.edition 2)))
  where
    heads : ℕ
    heads = heads_of cl c.clauses

    none : (b : Bool) → pick b false false ≡ false
    none true = refl
    none false = refl

pub twofold_of : (c : Case) (cl : List ℕ) → c.edition ≡ 2 → (causes_of c cl).twofold ≡ assumed_only cl c.clauses
unfolding causes_of causes_in
twofold_of c cl e = rw (eq-eqb c.edition 2 e)
