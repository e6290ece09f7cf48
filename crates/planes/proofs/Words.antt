-- Laws of the words of one atom: the lanes that neither has, and the first round's words. Assumes nothing.
use mathlib.Core.Path.{◌≡◌, ap, ap₂, ◌∙◌}
use mathlib.Core.Bool.{Bool, not, ◌&&◌, ◌||◌}
use Prim.Native.Nat.{ℕ, ◌-◌, ◌^◌, ◌<◌}
use lib.Bits.{bit_and, bit_or, or_lt}
use Rattle.words.specs.Bits.{has}
use Rattle.words.proofs.Bits.{has-and, has-or, has-not}
use Rattle.planes.specs.Word.{OpensWord}

pub undecided-has : (t f : ℕ) → t < 2 ^ 64 → f < 2 ^ 64 → (j : ℕ) → j < 64
    → has (2 ^ 64 - 1 - bit_or t f) j ≡ not (has t j || has f j)
undecided-has t f h k j l = has-not 64 (bit_or t f) j (or_lt 64 _ _ h k) l ∙ ap not (has-or t f j)

pub opens_word : (t f head fact assumed : ℕ) → head < 2 ^ 64 → fact < 2 ^ 64
    → OpensWord t f head fact assumed
    (record {
      trues = bit_or t fact;
      falses = bit_and (bit_or f (bit_and assumed (2 ^ 64 - 1 - head))) (2 ^ 64 - 1 - fact);
    })
opens_word t f head fact assumed h k = record {
  trues_are = λ j l. has-or t fact j;
  falses_are = λ j l.
      let w = bit_and assumed (2 ^ 64 - 1 - head) in
      has-and (bit_or f w) (2 ^ 64 - 1 - fact) j
      ∙ ap₂ ◌&&◌
      (has-or f w j ∙ ap (λ (x : Bool). has f j || x)
      (has-and assumed (2 ^ 64 - 1 - head) j ∙ ap (λ (x : Bool). has assumed j && x) (has-not 64 head j h l)))
      (has-not 64 fact j k l);
}
