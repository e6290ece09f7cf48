-- Laws of names added to names: none is lost, each of those added is found, and they differ. Assumes nothing.
use mathlib.Core.Path.{◌≡◌, refl, sym, ◌∙◌}
use mathlib.Core.List.{List, [], ◌∷◌, ◌++◌}
use mathlib.Core.Logic.{⊎_elim}
use Prim.Native.Nat.{ℕ, ◌≤◌, ◌<◌}
use native.Mathlib.Nat.{not-suc-le-zero, le_refl, le_trans, eq-or-lt_of_le}
use native.Mathlib.Omega.{arith}
use lib.Dec.{ltb}
use lib.ListN.{length, get_or, length-append, get_or-append}
use lib.Seq.{get_or-append_seam}
use borrow.Author.Tests.{lt-ltb, le-ltb, ltb-true, ltb-false}
use Rattle.words.proofs.Tests.{by_test}
use Rattle.text.proofs.Each.{Each, each_append}
use Rattle.text.proofs.Places.{place-name, place-first, place-append}
use Rattle.names.specs.Names.{atom_of, with_name, with_names}
use Rattle.names.proofs.Distinct.{Distinct}

-- distinct names

pub distinct_none : Distinct []
unfolding Distinct
distinct_none = λ i j lt h e. not-suc-le-zero h

-- a name that is not found is none of them
new-differs : (ns : List (List ℕ)) (w : List ℕ) (i : ℕ) → length ns ≤ atom_of ns w → i < length ns → get_or ns i [] ≡ w
    → ⊥
new-differs ns w i h l e = omega (arith, place-first ns w i l e)

distinct_push : (ns : List (List ℕ)) (w : List ℕ) → length ns ≤ atom_of ns w → Distinct ns
    → Distinct (ns ++ (w ∷ []))
unfolding Distinct
distinct_push ns w h d =
    λ i j lt k e.
    let n = length-append ns (w ∷ []) in
    let f = get_or-append ns (w ∷ []) [] i (omega arith) in
    let le : j ≤ length ns = omega arith in
    ⊎_elim
    (λ q. new-differs ns w i h (omega arith) (sym f ∙ e ∙ rw q (get_or-append_seam ns w [] [])))
    (λ p. d i j lt p (sym f ∙ e ∙ get_or-append ns (w ∷ []) [] j p))
    (eq-or-lt_of_le le)

-- among names that differ, the number of the name at place i is i
pub distinct-atom : (ns : List (List ℕ)) (i : ℕ) → Distinct ns → i < length ns → atom_of ns (get_or ns i []) ≡ i
unfolding Distinct
distinct-atom ns i d h =
    let w : List ℕ = get_or ns i [] in
    let le : atom_of ns w ≤ i = place-first ns w i h refl in
    let never : atom_of ns w < i → atom_of ns w ≡ i =
    λ lt. absurd (d (atom_of ns w) i lt h (place-name ns w (omega arith)))
    in
    ⊎_elim (λ e. e) never (eq-or-lt_of_le le)

-- one name

module _ (ns : List (List ℕ)) (w : List ℕ) where
  pub with_name-known : atom_of ns w < length ns → with_name ns w ≡ ns
  unfolding with_name
  with_name-known h = rw (lt-ltb _ _ h)

  pub with_name-new : length ns ≤ atom_of ns w → with_name ns w ≡ ns ++ (w ∷ [])
  unfolding with_name
  with_name-new h = rw (le-ltb _ _ h)

  pub with_names-new : length ns ≤ atom_of ns w → with_names ns (w ∷ []) ≡ ns ++ (w ∷ [])
  unfolding with_names
  with_names-new h = with_name-new h

  -- either way
  by_name : {P : Type 0} → (with_name ns w ≡ ns → atom_of ns w < length ns → P)
      → (with_name ns w ≡ ns ++ (w ∷ []) → length ns ≤ atom_of ns w → P) → P
  by_name f g =
      by_test
      (ltb (atom_of ns w) (length ns))
      (λ t. let h = ltb-true _ _ t in f (with_name-known h) h)
      (λ t. let h = ltb-false _ _ t in g (with_name-new h) h)

  with_name-length : length ns ≤ length (with_name ns w)
  with_name-length =
      by_name (λ e h. rw e (le_refl (length ns))) (λ e h. rw (e, length-append ns (w ∷ [])) (omega arith))

  -- a name that is found keeps its number
  with_name-atom : (v : List ℕ) → atom_of ns v < length ns → atom_of (with_name ns w) v ≡ atom_of ns v
  with_name-atom v h = by_name (λ e k. rw e) (λ e k. rw e (place-append ns (w ∷ []) v h))

  with_name-found : atom_of (with_name ns w) w < length (with_name ns w)
  with_name-found =
      by_name
      (λ e h. rw e h)
      (λ e h.
      let n = length-append ns (w ∷ []) in
      let f = place-first (ns ++ (w ∷ [])) w (length ns) (omega arith) (get_or-append_seam ns w [] []) in
      rw e (omega arith))

  with_name-distinct : Distinct ns → Distinct (with_name ns w)
  with_name-distinct d = by_name (λ e h. rw e d) (λ e h. rw e (distinct_push ns w h d))

-- several names

pub with_names-length : (ns ws : List (List ℕ)) → length ns ≤ length (with_names ns ws)
unfolding with_names
with_names-length ns [] = le_refl (length ns)
with_names-length ns (w ∷ ws) = le_trans (with_name-length ns w) (with_names-length (with_name ns w) ws)

pub with_names-append : (ns vs ws : List (List ℕ)) → with_names ns (vs ++ ws) ≡ with_names (with_names ns vs) ws
unfolding with_names
with_names-append ns [] ws = refl
with_names-append ns (v ∷ vs) ws = with_names-append (with_name ns v) vs ws

pub with_names-distinct : (ns ws : List (List ℕ)) → Distinct ns → Distinct (with_names ns ws)
unfolding with_names
with_names-distinct ns [] d = d
with_names-distinct ns (w ∷ ws) d = with_names-distinct (with_name ns w) ws (with_name-distinct ns w d)

-- a name that is found keeps its number
pub with_names-atom : (ns ws : List (List ℕ)) (v : List ℕ) → atom_of ns v < length ns
    → atom_of (with_names ns ws) v ≡ atom_of ns v
unfolding with_names
with_names-atom ns [] v h = refl
with_names-atom ns (w ∷ ws) v h =
    let e = with_name-atom ns w v h in
    let n = with_name-length ns w in
    with_names-atom (with_name ns w) ws v (omega arith) ∙ e

-- and is found still
with_names-kept : (ns ws : List (List ℕ)) (v : List ℕ) → atom_of ns v < length ns
    → atom_of (with_names ns ws) v < length (with_names ns ws)
with_names-kept ns ws v h =
    let e = with_names-atom ns ws v h in
    let n = with_names-length ns ws in
    omega arith

-- each name that was added is found
pub each-found : (ns ws : List (List ℕ)) → Each (λ w. atom_of (with_names ns ws) w < length (with_names ns ws)) ws
unfolding with_names
each-found ns [] = tt
each-found ns (w ∷ ws) =
    (with_names-kept (with_name ns w) ws w (with_name-found ns w), each-found (with_name ns w) ws)

-- names that are found add nothing
pub with_names-known : (ns ws : List (List ℕ)) → Each (λ w. atom_of ns w < length ns) ws → with_names ns ws ≡ ns
unfolding with_names
with_names-known ns [] h = refl
with_names-known ns (w ∷ ws) h = rw (with_name-known ns w h.0) (with_names-known ns ws h.1)

pub with_names-again : (ns ws : List (List ℕ)) → with_names (with_names ns ws) ws ≡ with_names ns ws
with_names-again ns ws = with_names-known (with_names ns ws) ws (each-found ns ws)

-- what holds of each of the names and of each that is added
module _ (P : List ℕ → Type 0) where
  with_name-each : (ns : List (List ℕ)) (w : List ℕ) → Each P ns → P w → Each P (with_name ns w)
  with_name-each ns w h k = by_name ns w (λ e _. rw e h) (λ e _. rw e (each_append P ns (w ∷ []) h (k, tt)))

  pub with_names-each : (ns ws : List (List ℕ)) → Each P ns → Each P ws → Each P (with_names ns ws)
  unfolding with_names
  with_names-each ns [] h k = h
  with_names-each ns (w ∷ ws) h k = with_names-each (with_name ns w) ws (with_name-each ns w h k.0) k.1
