-- The atoms of literals are at most as many as the literals, and so the bodies of what was read hold at most as many as
-- the lines have.
--
--   said_bodies st   how many literals the bodies of the clauses of st and then of its constraints hold
--   Within m st      each body of st holds at most m literals
-- Assumes nothing.
use mathlib.Core.Path.{◌≡◌, refl, ap, ◌∙◌}
use mathlib.Core.Bool.{Bool, true, false, not, ◌&&◌, ◌||◌}
use mathlib.Core.List.{List, [], ◌∷◌, ◌++◌, map, map-append}
use mathlib.Core.Logic.{⊎_elim}
use Prim.Native.Nat.{ℕ, zero, suc, ◌+◌, ◌≤◌, ◌<◌}
use native.Mathlib.Numerals.{add-one}
use native.Mathlib.Omega.{arith}
use lib.Count.{ones}
use lib.Dec.{eqb}
use lib.ListN.{length}
use borrow.Author.Tests.{ne_eqb}
use Rattle.words.specs.Choice.{pick}
use Rattle.words.specs.Below.{sum}
use Rattle.words.specs.Bits.{digit}
use Rattle.words.proofs.Sums.{sum-none, sum_more, sum_zeros, sum_ext, sum-add, sum_mono, ones-sum}
use Rattle.words.proofs.Tests.{lt-or-le}
use Rattle.words.proofs.Words.{digit-le, word_lt}
use Rattle.text.proofs.Each.{Each, each_append, each-split}
use Rattle.grammar.specs.Line.{Line, Literal}
use Rattle.grammar.specs.Bringing.{brings}
use Rattle.names.specs.Names.{atom_of}
use Rattle.store.specs.Saying.{ClauseRow, ConstraintRow, Said, some_on, atoms_by, clause_row, constraint_row}
use Rattle.store.specs.Saying.{with_clause, with_constraint, said_by}
use Rattle.store.proofs.Saying.{on_none, atoms-has}

-- of the numbers below n one at most is a
one_at : (n a : ℕ) → sum n (λ i. digit (eqb a i)) ≤ 1
one_at zero a = rw (sum-none (λ i. digit (eqb a i))) (omega arith)
one_at (suc n) a =
    let f : ℕ → ℕ = λ i. digit (eqb a i) in
    let last : sum n f + f n ≡ sum (suc n) f = sum_more n f ∙ ap (λ (k : ℕ). sum k f) (add-one n) in
    ⊎_elim
    (λ (l : a < n). omega (arith, one_at n a, last, ap digit (ne_eqb a n (λ e. omega arith))))
    (λ (l : n ≤ a).
    let none = sum_zeros n f (λ i k. ap digit (ne_eqb a i (λ e. omega arith))) in
    omega (arith, none, last, digit-le (eqb a n)))
    (lt-or-le a n)

-- and none where the test t fails
tested_at : (t : Bool) (n a : ℕ) → sum n (λ i. digit (t && eqb a i)) ≤ digit t
tested_at true n a = one_at n a
tested_at false n a = omega (arith, sum_zeros n (λ i. 0) (λ i l. refl))

digit_or : (x y : Bool) → digit (x || y) ≤ digit x + digit y
digit_or true y = omega arith
digit_or false y = omega arith

sum-or : (n : ℕ) (x y : ℕ → Bool)
    → sum n (λ i. digit (x i || y i)) ≤ sum n (λ i. digit (x i)) + sum n (λ i. digit (y i))
sum-or n x y =
    let each = sum_mono n _ (λ i. digit (x i) + digit (y i)) (λ i h. digit_or (x i) (y i)) in
    omega (arith, each, sum-add n (λ i. digit (x i)) (λ i. digit (y i)))

module _ (at : List ℕ → ℕ) where
  ones_are : (b : Bool) (l : List Literal) → ones (atoms_by at b l) ≡ sum 64 (λ i. digit (some_on at b l i))
  unfolding atoms_by
  ones_are b l =
      ones-sum 64 (atoms_by at b l) (word_lt 64 (some_on at b l))
      ∙ sum_ext 64 _ _ (λ i h. ap digit (atoms-has at b l i h))

  ones_none : (b : Bool) → ones (atoms_by at b []) ≡ 0
  ones_none b = ones_are b [] ∙ sum_zeros 64 _ (λ i h. ap digit (on_none at b i))

  -- one literal more
  ones-more : (b m : Bool) (w : List ℕ) (l : List Literal)
      → ones (atoms_by at b (Literal.literal m w ∷ l)) ≤ digit (pick b m (not m)) + ones (atoms_by at b l)
  unfolding some_on
  ones-more b m w l =
      let t = pick b m (not m) in
      let both = sum-or 64 (λ i. t && eqb (at w) i) (some_on at b l) in
      omega (arith, ones_are b (Literal.literal m w ∷ l), ones_are b l, both, tested_at t 64 (at w))

  pub atoms-few : (l : List Literal) → ones (atoms_by at false l) + ones (atoms_by at true l) ≤ length l
  atoms-few [] = omega (arith, ones_none false, ones_none true)
  atoms-few (Literal.literal true w ∷ l) =
      omega (arith, atoms-few l, ones-more false true w l, ones-more true true w l)
  atoms-few (Literal.literal false w ∷ l) =
      omega (arith, atoms-few l, ones-more false false w l, ones-more true false w l)

-- What was read with one line more

abbrev pub clause_body : ClauseRow → ℕ
clause_body c = ones c.plain + ones c.negated

abbrev pub constraint_body : ConstraintRow → ℕ
constraint_body c = ones c.plain + ones c.negated

abbrev pub said_bodies : Said → List ℕ
said_bodies st = map clause_body st.clauses ++ map constraint_body st.constraints

abbrev pub Within : ℕ → Said → Type 0
Within m st = Each (λ n. n ≤ m) (said_bodies st)

module _ {A : Type 0} (m : ℕ) (size : A → ℕ) where
  -- one entry behind those of l
  each_push : (l : List A) (x : A) → Each (λ n. n ≤ m) (map size l) → size x ≤ m
      → Each (λ n. n ≤ m) (map size (l ++ (x ∷ [])))
  each_push l x h k = rw map-append (each_append (λ n. n ≤ m) (map size l) (size x ∷ []) h (k, tt))

module _ (m : ℕ) (st : Said) (h : Within m st) where
  apart : Each (λ n. n ≤ m) (map clause_body st.clauses) × Each (λ n. n ≤ m) (map constraint_body st.constraints)
  apart = each-split (λ n. n ≤ m) (map clause_body st.clauses) (map constraint_body st.constraints) h

  clause-within : (k : ℕ) (w : List ℕ) (l : List Literal) → length l ≤ m
      → Within m (with_clause st (clause_row st.names k w l))
  clause-within k w l few =
      each_append (λ n. n ≤ m) (map clause_body (st.clauses ++ (_ ∷ []))) _
      (each_push m clause_body st.clauses _ apart.0 (omega (arith, atoms-few (atom_of st.names) l)))
      apart.1

  constraint-within : (k : ℕ) (l : List Literal) → length l ≤ m
      → Within m (with_constraint st (constraint_row st.names k l))
  constraint-within k l few =
      each_append (λ n. n ≤ m) (map clause_body st.clauses) _ apart.0
      (each_push m constraint_body st.constraints _ apart.1 (omega (arith, atoms-few (atom_of st.names) l)))

  pub said-within : (x : Line) → (brings x).literals ≤ m → Within m (said_by st x)
  unfolding said_by
  said-within Line.skipped few = h
  said-within Line.no_form few = h
  said-within (Line.clause k w l) few = clause-within k w l few
  said-within (Line.constraint k l) few = constraint-within k l few
  said-within (Line.seen x) few = h
  said-within (Line.query f) few = h
  said-within (Line.cost w p s) few = h
  said-within (Line.atom w) few = h
  said-within (Line.edition e) few = h
