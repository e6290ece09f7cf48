-- Laws of the words of the atoms of literals: literals added one after the other give the words of all of them, and
-- what the loop of `masks_of` has added, while other literals are left. Assumes nothing.
use mathlib.Core.Path.{◌≡◌, refl, sym, ap, ap₂, subst, ◌∙◌}
use mathlib.Core.Bool.{Bool, true, false, ◌||◌}
use mathlib.Core.List.{List, [], ◌∷◌}
use mathlib.Core.Option.{Option}
use Prim.Native.Nat.{ℕ, ◌-◌, ◌^◌, ◌≤◌, ◌<◌}
use native.Mathlib.Omega.{arith}
use borrow.Author.Tests.{ltb-true, ltb-false, ne_eqb}
use lib.Dec.{eqb, ltb}
use lib.ListN.{length, take, drop}
use lib.Seq.{slice}
use Rattle.words.specs.Bits.{has, word}
use Rattle.words.proofs.Tests.{by_test, eqb_comm}
use Rattle.words.proofs.Bits.{has-zero}
use Rattle.words.proofs.Words.{is_word, word_ext, has-or-one, or-one-lt}
use Rattle.text.proofs.Slices.{part_slice}
use Rattle.text.specs.Tokens.{tokens}
use Rattle.formulas.specs.Items.{prepend}
use Rattle.std.specs.Prelude as code
use Rattle.grammar.specs.declared.literal.Lit.{Lit}
use Rattle.grammar.specs.declared.literal.Lit.TheVariants as lit
use Rattle.grammar.specs.Line.{Literal}
use Rattle.grammar.specs.Parsing.{body_in, first_literal, LiteralInside, LiteralFound}
use Rattle.store.specs.declared.masks.Masks.{Masks}
use Rattle.store.specs.Saying.{some_on, atoms_by}
use Rattle.store.specs.Masks.{masks, with_atom, with_literal, masks_by}

-- one atom

pub with_atom-lt : (w a : ℕ) → w < 2 ^ 64 → with_atom w a < 2 ^ 64
with_atom-lt w a h = by_test (ltb a 64) (λ t. rw t (or-one-lt 64 w a h (ltb-true a 64 t))) (λ t. rw t h)

or-none : (x : Bool) → (x || false) ≡ x
or-none true = refl
or-none false = refl

or_grouped : (x y z : Bool) → ((x || y) || z) ≡ (x || (y || z))
or_grouped true y z = refl
or_grouped false y z = refl

pub with_atom-has : (w a i : ℕ) → i < 64 → has (with_atom w a) i ≡ (has w i || eqb a i)
with_atom-has w a i h =
    by_test (ltb a 64)
    (λ t. rw (t, eqb_comm a i) (has-or-one w a i))
    (λ t. let k = ltb-false a 64 t in rw (t, ne_eqb a i (λ e. omega arith)) (sym (or-none (has w i))))

-- literals one after the other

abbrev marked : (List ℕ → ℕ) → Masks → List Literal → Masks
marked at m [] = m
marked at m (Literal.literal b w ∷ ls) = marked at (with_literal m b (at w)) ls

module _ (at : List ℕ → ℕ) where
  -- the word w with the atoms of literals
  abbrev also : Bool → List Literal → ℕ → ℕ
  also b ls w = word 64 (λ a. has w a || some_on at b ls a)

  also-none : (b : Bool) (w : ℕ) → w < 2 ^ 64 → w ≡ also b [] w
  unfolding some_on
  also-none b w h = is_word 64 w _ h (λ i _. sym (or-none (has w i)))

  also-more : (b : Bool) (v : List ℕ) (ls : List Literal) (w : ℕ)
      → also b ls (with_atom w (at v)) ≡ also b (Literal.literal b v ∷ ls) w
  unfolding some_on
  also-more true v ls w = word_ext 64 _ _ (λ a k. rw (with_atom-has w (at v) a k) (or_grouped (has w a) _ _))
  also-more false v ls w = word_ext 64 _ _ (λ a k. rw (with_atom-has w (at v) a k) (or_grouped (has w a) _ _))

  marked_are : (ls : List Literal) (p q : ℕ) → p < 2 ^ 64 → q < 2 ^ 64
      → marked at (masks p q) ls ≡ masks (also false ls p) (also true ls q)
  unfolding some_on
  marked_are [] p q h k = ap₂ masks (also-none false p h) (also-none true q k)
  marked_are (Literal.literal true v ∷ ls) p q h k =
      marked_are ls p (with_atom q (at v)) h (with_atom-lt q (at v) k)
      ∙ ap (masks (also false ls p)) (also-more true v ls q)
  marked_are (Literal.literal false v ∷ ls) p q h k =
      marked_are ls (with_atom p (at v)) q (with_atom-lt p (at v) h) k
      ∙ ap (λ w. masks w (also true ls q)) (also-more false v ls p)

  also-zero : (b : Bool) (ls : List Literal) → also b ls 0 ≡ atoms_by at b ls
  unfolding atoms_by
  also-zero b ls = word_ext 64 _ _ (λ a _. rw (has-zero a))

  masks-marked : (ls : List Literal) → marked at (masks 0 0) ls ≡ masks_by at ls
  masks-marked ls = marked_are ls 0 0 (omega arith) (omega arith) ∙ ap₂ masks (also-zero false ls) (also-zero true ls)

-- the loop

-- m and the literals x, where x are literals
abbrev marked_in : (List ℕ → ℕ) → Masks → Option (List Literal) → Option Masks
marked_in at m Option.none = Option.none
marked_in at m (Option.some ls) = Option.some (marked at m ls)

marked-first : (at : List ℕ → ℕ) (m : Masks) (b : Bool) (w : List ℕ) (x : Option (List Literal))
    → marked_in at m (prepend (Literal.literal b w) x) ≡ marked_in at (with_literal m b (at w)) x
marked-first at m b w Option.none = refl
marked-first at m b w (Option.some ls) = refl

-- the literals from the place start of the line l on are those of m and those from place i on
pub record Passed (at : List ℕ → ℕ) (l : List ℕ) (start i : ℕ) (m : Masks) : Type 0 where
  pub passed : marked_in at (masks 0 0) (body_in (tokens (drop start l))) ≡ marked_in at m (body_in (tokens (drop i l)))

pub passed_none : (at : List ℕ → ℕ) (l : List ℕ) (i : ℕ) → Passed at l i i (masks 0 0)
passed_none at l i = record { passed = refl }

-- the name of a literal that was found lies in the line, and what is left of the line grows shorter
module _ {l : List ℕ} {i : ℕ} {r : code.Option Lit} {b : Bool} {a e next : ℕ}
    (f : LiteralFound l i r) (q : r ≡ code.Some (lit.Literal b a e next)) where
  literal-inside : LiteralInside l i (code.Some (lit.Literal b a e next))
  literal-inside = subst (LiteralInside l i) q f.inside

  pub literal-onward : a ≤ e
  literal-onward = let k = literal-inside in omega arith

  pub literal-within : e ≤ length l
  literal-within = literal-inside.3

  pub literal-less : length l - next < length l - i
  literal-less = let k = literal-inside in omega arith

-- where no literal is left
ended : (at : List ℕ → ℕ) (m : Masks) (l : List ℕ) (r : code.Option Lit)
    → ((b : Bool) (a e next : ℕ) → r ≡ code.Some (lit.Literal b a e next) → ⊥) → (ls : List Literal)
    → marked_in at (masks 0 0) (Option.some ls) ≡ marked_in at m (first_literal l r) → m ≡ masks_by at ls
ended at m l code.None o ls e = let z : ◌≡◌ {A = ℕ} 0 1 = cc in absurd (omega arith)
ended at m l (code.Some lit.BodyEnd) o ls e = let p : m ≡ marked at (masks 0 0) ls = cc in p ∙ masks-marked at ls
ended at m l (code.Some (lit.Literal b a e next)) o ls p = absurd (o b a e next refl)

module _ {at : List ℕ → ℕ} {l : List ℕ} {start i : ℕ} {m : Masks} {r : code.Option Lit} (h : Passed at l start i m)
    (f : LiteralFound l i r) where
  pub passed-more : {b : Bool} {a e next atom : ℕ} {n : Masks} → r ≡ code.Some (lit.Literal b a e next)
      → atom ≡ at (take (e - a) (drop a l))
      → n ≡ with_literal m b atom → Passed at l start next n
  passed-more {b} {a} {e} {next} q k g =
      let first = f.literals_are ∙ ap (first_literal l) q in
      let name = part_slice l a e (literal-onward f q) in
      record {
        passed =
            h.passed ∙ ap (marked_in at m) first
            ∙ marked-first at m b (slice a e l) (body_in (tokens (drop next l))) ∙ rw (g, k, name);
      }

  pub passed-all : ((b : Bool) (a e next : ℕ) → r ≡ code.Some (lit.Literal b a e next) → ⊥) → (ls : List Literal)
      → body_in (tokens (drop start l)) ≡ Option.some ls → m ≡ masks_by at ls
  passed-all o ls e =
      ended at m l r o ls
      (sym (ap (marked_in at (masks 0 0)) e) ∙ h.passed ∙ ap (marked_in at m) f.literals_are)
