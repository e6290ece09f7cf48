-- The byte of a setting, and the bytes of the settings below one: how many they are, and how one more is stored behind
-- them. Assumes nothing.
use mathlib.Core.Path.{◌≡◌, refl, sym, ◌∙◌, ap, ap₂}
use mathlib.Core.Bool.{Bool}
use mathlib.Core.List.{List, ◌++◌, append_assoc}
use Prim.Native.Nat.{ℕ, zero, suc, ◌+◌, ◌<◌}
use native.Mathlib.Numerals.{add-one}
use lib.ListN.{length, drop, set, length-append}
use lib.Seq.{drop-cons, set_at}
use Rattle.explanation.specs.Judge.{Judge}
use Rattle.explanation.specs.Subset.{minimal}
use Rattle.verdict.specs.Walk.{mark, byte_of, bytes_below}

module _ (J : Judge) (cs : List ℕ) where
  pub byte_by : (s : ℕ) (e m : Bool) → J.explains s ≡ e → minimal J cs s ≡ m → mark e m ≡ byte_of J cs s
  unfolding byte_of
  byte_by s e m f g = sym (ap₂ mark f g)

  pub bytes-length : (s : ℕ) → length (bytes_below J cs s) ≡ s
  unfolding bytes_below
  bytes-length zero = refl
  bytes-length (suc s) = length-append (bytes_below J cs s) _ ∙ add-one _ ∙ ap suc (bytes-length s)

  -- the byte of s is stored behind those below it
  pub bytes-more : (s b : ℕ) (work : List ℕ) → s < length work → b ≡ byte_of J cs s
      → set (bytes_below J cs s ++ drop s work) s b ≡ bytes_below J cs (s + 1) ++ drop (s + 1) work
  unfolding bytes_below
  bytes-more s b work h e =
      ap (λ (l : List ℕ). set (bytes_below J cs s ++ l) s b) (drop-cons work s 0 h)
      ∙ set_at (bytes_below J cs s) _ _ b s (bytes-length s)
      ∙ rw (add-one, e, append_assoc)
