-- Laws of chains of dependencies, of their heads and of least numbers. Assumes nothing.
use mathlib.Core.Path.{◌≡◌, refl, sym, ap, ◌∙◌}
use mathlib.Core.Bool.{Bool, true, false, not, ◌&&◌, true≢false}
use mathlib.Core.Logic.{◌⊎◌, inl, inr, ⊎_elim}
use Prim.Native.Nat.{ℕ, zero, suc, ◌+◌, ◌^◌, ◌≤◌, ◌<◌}
use native.Mathlib.Nat.{zero-add, suc-add, not-suc-le-zero, eq-or-lt_of_le}
use native.Mathlib.Omega.{arith}
use lib.Count.{ones, ones-le}
use lib.Pow.{pow_pos}
use borrow.Author.Tests.{eqb-true, eq-eqb}
use Rattle.words.specs.Below.{any}
use Rattle.words.specs.Bits.{has, word}
use Rattle.words.proofs.Tests.{and_true_l, and_true_r, true_or_false, lt-or-le, and_gives}
use Rattle.words.proofs.Below.{any_found, any_true, any_gives, any_ext, all-false, first-is, first_ext}
use Rattle.words.proofs.Bits.{has-zero, has_ext}
use Rattle.words.proofs.Words.{word_lt, has_word, word_ext}
use Rattle.words.proofs.Counts.{ones-grow}
use Rattle.layering.specs.Layers.{chain_heads, least_number, layered, Numbering}

module _ (n : ℕ) (r : ℕ → ℕ → Bool) where
  abbrev heads : ℕ → ℕ
  heads k = chain_heads n r k

  -- a chain of k dependencies starts from a
  abbrev pub chain : ℕ → ℕ → Bool
  chain k a = has (heads k) a

  pub heads-lt : (k : ℕ) → heads k < 2 ^ n
  unfolding chain_heads
  heads-lt zero = word_lt n _
  heads-lt (suc k) = word_lt n _

  pub chain-zero : (a : ℕ) → a < n → chain 0 a ≡ true
  unfolding chain_heads
  chain-zero a l = has_word n (λ a. true) a l

  pub chain-suc : (k a : ℕ) → a < n → chain (suc k) a ≡ any n (λ b. r a b && chain k b)
  unfolding chain_heads
  chain-suc k a l = has_word n (λ a. any n (λ b. r a b && chain k b)) a l

  -- a longer chain begins with a shorter one
  pub chain_shorter : (k a : ℕ) → a < n → chain (suc k) a ≡ true → chain k a ≡ true
  chain_shorter zero a l e = chain-zero a l
  chain_shorter (suc k) a l e =
      chain-suc k a l
      ∙ any_gives n {p = λ b. r a b && chain (suc k) b} {q = λ b. r a b && chain k b}
      (λ b m. and_gives {a = r a b} {b = r a b} (λ q. q) (chain_shorter k b m)) (sym (chain-suc (suc k) a l) ∙ e)

  -- the next atom of a chain
  pub chain_next : (k a : ℕ) → a < n → chain (suc k) a ≡ true → (b : ℕ) × (b < n) × (r a b ≡ true) × (chain k b ≡ true)
  chain_next k a l e =
      let f = any_found n (λ b. r a b && chain k b) (sym (chain-suc k a l) ∙ e) in
      (f.0, f.1, and_true_l (r a f.0) (chain k f.0) f.2, and_true_r (r a f.0) (chain k f.0) f.2)

  chain_more : (k a b : ℕ) → a < n → b < n → r a b ≡ true → chain k b ≡ true → chain (suc k) a ≡ true
  chain_more k a b l m e f = chain-suc k a l ∙ any_true n (λ b. r a b && chain k b) b m (rw (e, f))

  -- ---- the chains' heads get fewer, or stay
  same_next : (k : ℕ) → heads (suc k) ≡ heads k → heads (suc (suc k)) ≡ heads (suc k)
  unfolding chain_heads
  same_next k e = ap (λ (w : ℕ). word n (λ a. any n (λ b. r a b && has w b))) e

  fewer : (k : ℕ) → (heads (suc k) ≡ heads k) ⊎ (ones (heads (suc k)) < ones (heads k))
  fewer k = ones-grow n (heads (suc k)) (heads k) (heads-lt (suc k)) (heads-lt k) (chain_shorter k)

  -- a bound on k and the heads of chains of k is one on k + 1 and those of chains of k + 1
  few-next : (k : ℕ) → k + ones (heads k) ≤ n → (heads (suc k) ≡ heads k) ⊎ (suc k + ones (heads (suc k)) ≤ n)
  few-next k h =
      ⊎_elim (λ e. inl e) (λ (m : ones (heads (suc k)) < ones (heads k)). inr (omega (arith, h, m))) (fewer k)

  stays-or-few : (k : ℕ) → (heads (suc k) ≡ heads k) ⊎ (suc k + ones (heads (suc k)) ≤ n)
  stays-or-few zero = few-next 0 (omega (arith, ones-le n (heads 0) (heads-lt 0)))
  stays-or-few (suc k) = ⊎_elim (λ e. inl (same_next k e)) (few-next (suc k)) (stays-or-few k)

  -- heads that stay once stay for ever
  pub heads_stay : (k j : ℕ) → heads (suc k) ≡ heads k → heads (j + k) ≡ heads k
  unfolding chain_heads
  heads_stay k zero e = ap heads (zero-add k)
  heads_stay k (suc j) e =
      ap heads (suc-add j k)
      ∙ ap (λ (w : ℕ). word n (λ a. any n (λ b. r a b && has w b))) (heads_stay k j e) ∙ e

  -- a chain as long as there are atoms can be longer still
  stays : heads (suc n) ≡ heads n
  stays = ⊎_elim (λ e. e) (λ (h : suc n + ones (heads (suc n)) ≤ n). absurd (omega (arith, h))) (stays-or-few n)

  pub stuck-next : (a : ℕ) → a < n → chain n a ≡ true → (b : ℕ) × (b < n) × (r a b ≡ true) × (chain n b ≡ true)
  stuck-next a l e = chain_next n a l (ap (λ (w : ℕ). has w a) stays ∙ e)

  -- ---- numberings
  numbering_chain : (v : ℕ → ℕ) → Numbering n r v → (k a : ℕ) → a < n → chain k a ≡ true → k ≤ v a
  numbering_chain v h zero a l e = omega arith
  numbering_chain v h (suc k) a l e =
      let f = chain_next k a l e in
      omega (arith, numbering_chain v h k f.0 f.1 f.3, h a f.0 l f.1 f.2)

  -- a chain as long as there are atoms has no numbering: the numbers would fall for ever
  endless : (v : ℕ → ℕ) → Numbering n r v → (m a : ℕ) → a < n → v a < m → chain n a ≡ true → ⊥
  endless v h zero a l q e = not-suc-le-zero q
  endless v h (suc m) a l q e =
      let f = stuck-next a l e in
      endless v h m f.0 f.1 (omega (arith, h a f.0 l f.1 f.2)) f.3

  pub numbering_layered : (v : ℕ → ℕ) → Numbering n r v → layered n r ≡ true
  unfolding layered
  numbering_layered v g =
      eq-eqb (heads n) 0
      (has_ext n (heads n) 0 (heads-lt n) (pow_pos n)
      (λ a l. none (chain n a) (endless v g (suc (v a)) a l (omega arith)) ∙ sym (has-zero a)))
    where
      none : (t : Bool) → (t ≡ true → ⊥) → t ≡ false
      none true h = absurd (h refl)
      none false h = refl

  -- ---- least numbers
  chain-down : (k j a : ℕ) → a < n → j ≤ k → chain k a ≡ true → chain j a ≡ true
  chain-down zero j a l h e = let q : j ≡ 0 = omega arith in rw q (chain-zero a l)
  chain-down (suc k) j a l h e =
      ⊎_elim (λ (q : j ≡ suc k). rw q e) (λ (q : j < suc k). chain-down k j a l (omega arith) (chain_shorter k a l e))
      (eq-or-lt_of_le h)

  differ : (k a : ℕ) → chain k a ≡ true → chain (suc k) a ≡ false → heads (suc k) ≡ heads k → ⊥
  differ k a e f q = true≢false (sym e ∙ ap (λ (w : ℕ). has w a) (sym q) ∙ f)

  pub number_is : (k a : ℕ) → a < n → chain k a ≡ true → chain (suc k) a ≡ false → least_number n r a ≡ k
  unfolding least_number
  number_is k a l e f =
      first-is n (λ k. not (chain (suc k) a)) 0 k (omega arith) few (ap not f)
      (λ i m. ap not (chain-down k (suc i) a l m e))
    where
      few : k ≤ 0 + n
      few =
          ⊎_elim (λ q. absurd (differ k a e f q)) (λ (h : suc k + ones (heads (suc k)) ≤ n). omega (arith, h))
          (stays-or-few k)

  -- an atom that depends on none gets 0
  pub number-zero : (a : ℕ) → a < n → ((b : ℕ) → b < n → r a b ≡ false) → least_number n r a ≡ 0
  number-zero a l h =
      number_is 0 a l (chain-zero a l)
      (chain-suc 0 a l ∙ all-false n (λ b. r a b && chain 0 b) (λ b m. ap (λ (t : Bool). t && chain 0 b) (h b m)))

  -- the longest chain, where some length has none
  longest : (m a : ℕ) → a < n → chain m a ≡ false → (k : ℕ) × (chain k a ≡ true) × (chain (suc k) a ≡ false)
  longest zero a l e = absurd (true≢false (sym (chain-zero a l) ∙ e))
  longest (suc m) a l e =
      ⊎_elim (λ (h : chain m a ≡ true). (m, h, e)) (λ (h : chain m a ≡ false). longest m a l h)
      (true_or_false (chain m a))

  layered-end : layered n r ≡ true → (a : ℕ) → chain n a ≡ false
  unfolding layered
  layered-end h a = ap (λ (w : ℕ). has w a) (eqb-true (heads n) 0 h) ∙ has-zero a

  pub least_numbering : layered n r ≡ true → Numbering n r (least_number n r)
  least_numbering h a b l m e =
      let p = longest n a l (layered-end h a) in
      let q = longest n b m (layered-end h b) in
      let more = chain_more q.0 a b l m e q.1 in
      let lt : q.0 < p.0 =
      ⊎_elim (λ (g : q.0 < p.0). g)
      (λ (g : p.0 ≤ q.0).
      absurd (true≢false (sym (chain-down (suc q.0) (suc p.0) a l (omega (arith, g)) more) ∙ p.2)))
      (lt-or-le q.0 p.0) in
      omega (arith, lt, number_is p.0 a l p.1 p.2, number_is q.0 b m q.1 q.2)

  pub least-least : layered n r ≡ true → (v : ℕ → ℕ) → Numbering n r v → (a : ℕ) → a < n → least_number n r a ≤ v a
  least-least h v g a l =
      let p = longest n a l (layered-end h a) in
      omega (arith, number_is p.0 a l p.1 p.2, numbering_chain v g p.0 a l p.1)

-- ---- relations that agree on n atoms have the same heads, numbers and layers
module _ (n : ℕ) (r s : ℕ → ℕ → Bool) (h : (a b : ℕ) → a < n → b < n → r a b ≡ s a b) where
  pub heads_ext : (k : ℕ) → chain_heads n r k ≡ chain_heads n s k
  unfolding chain_heads
  heads_ext zero = refl
  heads_ext (suc k) =
      word_ext n (λ a. any n (λ b. r a b && has (chain_heads n r k) b))
      (λ a. any n (λ b. s a b && has (chain_heads n s k) b))
      (λ a l. any_ext n (λ b. r a b && has (chain_heads n r k) b) (λ b. s a b && has (chain_heads n s k) b)
      (λ b m. rw (h a b l m, heads_ext k)))

  pub number_ext : (a : ℕ) → least_number n r a ≡ least_number n s a
  unfolding least_number
  number_ext a =
      first_ext n (λ k. not (has (chain_heads n r (suc k)) a)) (λ k. not (has (chain_heads n s (suc k)) a)) 0
      (λ k. rw (heads_ext (suc k)))
