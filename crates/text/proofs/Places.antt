-- Laws of the place of a word among words. Assumes nothing.
use mathlib.Core.Path.{◌≡◌, refl, sym, ap, ◌∙◌}
use mathlib.Core.Bool.{Bool, true, false}
use mathlib.Core.List.{List, [], ◌∷◌, ◌++◌}
use Prim.Native.Nat.{ℕ, zero, suc, ◌+◌, ◌≤◌, ◌<◌}
use native.Mathlib.Nat.{not-suc-le-zero, le_of_suc-le-suc, add-zero}
use native.Mathlib.Omega.{arith}
use lib.ListN.{length, get_or}
use Rattle.words.specs.Below.{first_from}
use Rattle.words.proofs.Tests.{by_test}
use Rattle.text.specs.Bytes.{same_bytes}
use Rattle.text.specs.Words.{place_of}
use Rattle.text.proofs.Same.{same_refl, same-eq}

-- the first word is w, or is another
module _ (n w : List ℕ) (ns : List (List ℕ)) where
  pub place_here : same_bytes n w ≡ true → place_of (n ∷ ns) w ≡ 0
  unfolding place_of
  place_here e = rw e

  pub place-later : same_bytes n w ≡ false → place_of (n ∷ ns) w ≡ suc (place_of ns w)
  unfolding place_of
  place-later e = rw e

pub place_none : (w : List ℕ) → place_of [] w ≡ 0
unfolding place_of
place_none w = refl

pub place-le : (ns : List (List ℕ)) (w : List ℕ) → place_of ns w ≤ length ns
place-le [] w = rw place_none (omega arith)
place-le (n ∷ ns) w =
    let ih = place-le ns w in
    by_test (same_bytes n w) (λ e. rw (place_here n w ns e) (omega arith))
    (λ e. rw (place-later n w ns e) (omega arith))

-- the word at the place of w is w
pub place-name : (ns : List (List ℕ)) (w : List ℕ) → place_of ns w < length ns → get_or ns (place_of ns w) [] ≡ w
place-name [] w h = absurd (not-suc-le-zero h)
place-name (n ∷ ns) w h =
    by_test
    (same_bytes n w)
    (λ e. rw (place_here n w ns e) (same-eq n w e))
    (λ e. rw (place-later n w ns e) (place-name ns w (le_of_suc-le-suc (rw (place-later n w ns e) at h))))

-- and no word before it is
pub place-first : (ns : List (List ℕ)) (w : List ℕ) (i : ℕ) → i < length ns → get_or ns i [] ≡ w → place_of ns w ≤ i
place-first [] w i h e = absurd (not-suc-le-zero h)
place-first (n ∷ ns) w zero h e =
    let s : same_bytes n w ≡ true = rw e (same_refl w) in
    rw (place_here n w ns s) (omega arith)
place-first (n ∷ ns) w (suc i) h e =
    let ih = place-first ns w i (le_of_suc-le-suc h) e in
    by_test (same_bytes n w) (λ s. rw (place_here n w ns s) (omega arith))
    (λ s. rw (place-later n w ns s) (omega arith))

-- a word that is found keeps its place when others are put behind
pub place-append : (ns ms : List (List ℕ)) (w : List ℕ) → place_of ns w < length ns
    → place_of (ns ++ ms) w ≡ place_of ns w
place-append [] ms w h = absurd (not-suc-le-zero h)
place-append (n ∷ ns) ms w h =
    by_test
    (same_bytes n w)
    (λ e. place_here n w (ns ++ ms) e ∙ sym (place_here n w ns e))
    (λ e.
    place-later n w (ns ++ ms) e
    ∙ ap suc (place-append ns ms w (le_of_suc-le-suc (rw (place-later n w ns e) at h)))
    ∙ sym (place-later n w ns e))

-- the first number from k on whose test is that of a word, in their order
pub first-place : (ns : List (List ℕ)) (w : List ℕ) (p : ℕ → Bool) (k : ℕ)
    → ((i : ℕ) → i < length ns → p (k + i) ≡ same_bytes (get_or ns i []) w)
    → first_from (length ns) p k ≡ k + place_of ns w
first-place [] w p k h = rw (place_none, add-zero)
first-place (n ∷ ns) w p k h =
    let e : p k ≡ same_bytes n w = rw add-zero at (h 0 (omega arith)) in
    let ih = first-place ns w p (suc k) (λ i l. ap p (omega arith) ∙ h (suc i) (omega arith)) in
    by_test
    (same_bytes n w)
    (λ t. rw (e, t, place_here n w ns t, add-zero))
    (λ t. rw (e, t, place-later n w ns t) (ih ∙ omega arith))
