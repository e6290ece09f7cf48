-- Laws of `heads_of`, the word of the heads of a table's first clauses, and of `firm_heads`, that of the heads of those
-- that are no assumption. Assumes nothing.
use mathlib.Core.Path.{◌≡◌, sym, ap, ap₂, ◌∙◌}
use mathlib.Core.Bool.{Bool, not, ◌||◌, and_comm}
use mathlib.Core.List.{List}
use Prim.Native.Nat.{ℕ, suc, ◌+◌, ◌*◌, ◌^◌, ◌<◌}
use native.Mathlib.Nat.{mod-lt, zero-lt-suc}
use native.Mathlib.Numerals.{add-one}
use lib.Bits.{bit_or}
use lib.Dec.{eqb}
use lib.ListN.{get_or}
use lib.Pow.{pow_pos}
use Rattle.words.specs.Bits.{has}
use Rattle.words.specs.OneBit.{with_bit}
use Rattle.words.proofs.Bits.{has-zero}
use Rattle.words.proofs.BitWalks.{has_with, with_lt}
use Rattle.words.proofs.Words.{word_lt, has_word, is_word, has-or-one, or-one-lt}
use Rattle.program.specs.Case.{head_at, kind_at}
use Rattle.program.specs.Program.{headed, heads_of}
use Rattle.program.specs.Cause.{firmly_headed, firm_heads}

pub head-lt : (cl : List ℕ) (k : ℕ) → head_at cl k < 64
head-lt cl k = mod-lt (get_or cl (3 * k) 0) (zero-lt-suc 63)

pub heads-lt : (cl : List ℕ) (n : ℕ) → heads_of cl n < 2 ^ 64
unfolding heads_of
heads-lt cl n = word_lt 64 (headed cl n)

pub heads-has : (cl : List ℕ) (n a : ℕ) → a < 64 → has (heads_of cl n) a ≡ headed cl n a
unfolding heads_of
heads-has cl n a l = has_word 64 (headed cl n) a l

-- no clause has no head
pub heads-none : (cl : List ℕ) → 0 ≡ heads_of cl 0
unfolding heads_of
heads-none cl = is_word 64 0 (headed cl 0) (pow_pos 64) (λ a l. has-zero a)

-- one clause more adds its head
pub heads-more : (cl : List ℕ) (k : ℕ) → bit_or (heads_of cl k) (2 ^ head_at cl k) ≡ heads_of cl (k + 1)
unfolding heads_of
heads-more cl k =
    is_word 64 (bit_or (heads_of cl k) (2 ^ head_at cl k)) (headed cl (suc k))
    (or-one-lt 64 (heads_of cl k) (head_at cl k) (heads-lt cl k) (head-lt cl k))
    (λ a l. has-or-one (heads_of cl k) (head_at cl k) a
    ∙ ap (λ (b : Bool). b || eqb a (head_at cl k)) (heads-has cl k a l))
    ∙ ap (heads_of cl) (sym (add-one k))

-- ---- heads of clauses that are no assumption
pub firm-lt : (cl : List ℕ) (n : ℕ) → firm_heads cl n < 2 ^ 64
unfolding firm_heads
firm-lt cl n = word_lt 64 (firmly_headed cl n)

pub firm-has : (cl : List ℕ) (n a : ℕ) → a < 64 → has (firm_heads cl n) a ≡ firmly_headed cl n a
unfolding firm_heads
firm-has cl n a l = has_word 64 (firmly_headed cl n) a l

pub firm-none : (cl : List ℕ) → 0 ≡ firm_heads cl 0
unfolding firm_heads
firm-none cl = is_word 64 0 (firmly_headed cl 0) (pow_pos 64) (λ a l. has-zero a)

-- one clause more adds its head, where it is no assumption
firm-more : (cl : List ℕ) (k : ℕ)
    → with_bit (not (eqb (kind_at cl k) 1)) (firm_heads cl k) (head_at cl k) ≡ firm_heads cl (k + 1)
unfolding firm_heads
firm-more cl k =
    let t = not (eqb (kind_at cl k) 1) in
    is_word 64 (with_bit t (firm_heads cl k) (head_at cl k)) (firmly_headed cl (suc k))
    (with_lt t 64 (firm_heads cl k) (head_at cl k) (firm-lt cl k) (head-lt cl k))
    (λ a l. has_with t (firm_heads cl k) (head_at cl k) a
    ∙ ap₂ ◌||◌ (firm-has cl k a l) (and_comm t (eqb a (head_at cl k))))
    ∙ ap (firm_heads cl) (sym (add-one k))

pub firm-next : (cl : List ℕ) (k w r : ℕ) → w ≡ firm_heads cl k
    → r ≡ with_bit (not (eqb (kind_at cl k) 1)) w (head_at cl k) → r ≡ firm_heads cl (k + 1)
firm-next cl k w r e q =
    q ∙ ap (λ (v : ℕ). with_bit (not (eqb (kind_at cl k) 1)) v (head_at cl k)) e ∙ firm-more cl k
