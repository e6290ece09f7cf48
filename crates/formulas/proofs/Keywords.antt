-- The numbers that words have, and the words that have them. Assumes nothing.
use Rattle.std.proofs.Common.{◌≡◌, refl, sym, subst, Bool, true, List, [], ◌∷◌, map, ℕ, ◌+◌, ◌-◌, ◌≤◌, ◌<◌}
use Rattle.std.proofs.Common.{Option, Some, None, cond, eqb, ltb, nat_eq, length, get_or, arith, Bor}
use Rattle.std.proofs.lemmas.List.{length-map}
use Rattle.std.specs.Cmp.Lexicographic.{pointwise}
use Rattle.std.specs.List.{position_or_len}
use borrow.Author.Tests.{eqb-true, ltb-true, ltb-false}
use Rattle.words.proofs.Tests.{by_test}
use Rattle.words.specs.Below.{every}
use Rattle.words.proofs.Below.{every-at}
use Rattle.text.specs.Bytes.{same_bytes}
use Rattle.text.specs.Words.{place_of}
use Rattle.text.proofs.Places.{place-le, place-name}
use Rattle.text.proofs.Same.{same-pointwise}
use Rattle.formulas.specs.Sentence.{form_words}
use Rattle.formulas.specs.Keyword.{node_of, Below, NodeFound}

-- words of which no two are the same have the places where they stand
pub own-place : (ws : List (List ℕ)) → every (length ws) (λ i. eqb (place_of ws (get_or ws i [])) i) ≡ true → (i : ℕ)
    → i < length ws → place_of ws (get_or ws i []) ≡ i
own-place ws e i h = eqb-true _ _ (every-at (length ws) _ e i h)

-- The words of forms

form-place : (i : ℕ) → i < 5 → place_of form_words (get_or form_words i []) ≡ i
unfolding place_of same_bytes
form-place i h = own-place form_words refl i h

pub word-node : (k : ℕ) → 64 ≤ k → k ≤ 68 → node_of (get_or form_words (k - 64) []) ≡ k
unfolding node_of
word-node k h m = omega (arith, form-place (k - 64) (omega arith))

module _ (w : List ℕ) where
  pub node_ge : 64 ≤ node_of w
  unfolding node_of
  node_ge = omega arith

  pub node-word : node_of w ≤ 68 → get_or form_words (node_of w - 64) [] ≡ w
  unfolding node_of
  node-word h =
      let z : (64 + place_of form_words w) - 64 ≡ place_of form_words w = omega arith in
      rw z (place-name form_words w (omega arith))

-- by the place of a word
pub place-node : {w : List ℕ} {i : ℕ} → (i ≡ place_of form_words w) × (i < 5) → NodeFound w (Some (64 + i))
unfolding node_of
place-node q = record { node_is = (omega arith, omega arith) }

pub no-node : {w : List ℕ} → place_of form_words w ≡ 5 → NodeFound w None
unfolding node_of
no-node q = record { node_is = rw q }

-- Words that are searched

-- the test of a lent word
abbrev pub is : List ℕ → Bor (List ℕ) → Bool
is w v = pointwise nat_eq v.now w

place-is : (vs : List (Bor (List ℕ))) (w : List ℕ)
    → position_or_len (is w) vs ≡ place_of (map (λ v. v.now) vs) w
unfolding place_of
place-is [] w = refl
place-is (v ∷ vs) w =
    by_test
    (is w v)
    (λ e. rw (sym (same-pointwise v.now w), e))
    (λ e. rw (sym (same-pointwise v.now w), e) (omega (arith, place-is vs w)))

placed : (n p : ℕ) → p ≤ n → Below n p (cond (ltb p n) (Some p) None)
placed n p h =
    by_test
    (ltb p n)
    (λ e. rw e (refl, ltb-true p n e))
    (λ e. rw e (omega (arith, ltb-false p n e)))

-- by the answer r of the search
pub place-found : (vs : List (Bor (List ℕ))) (w : List ℕ) {r : Option ℕ}
    → r ≡ cond (ltb (position_or_len (is w) vs) (length vs)) (Some (position_or_len (is w) vs)) None
    → Below (length vs) (place_of (map (λ v. v.now) vs) w) r
place-found vs w e =
    let P : Option ℕ → Type 0 = Below (length vs) (place_of (map (λ v. v.now) vs) w) in
    let few = place-le (map (λ v. v.now) vs) w in
    subst P (sym (rw (place-is vs w) at e)) (placed _ _ (rw length-map at few))
