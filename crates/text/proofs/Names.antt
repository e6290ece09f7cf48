-- Laws of the names of a line, by places of the line: a loop over its tokens that looks for the next name.
-- Assumes nothing.
use mathlib.Core.Path.{◌≡◌, sym, ap, ◌∙◌, subst}
use mathlib.Core.Bool.{Bool, true, false, and-false}
use mathlib.Core.List.{List}
use Prim.Native.Nat.{ℕ, ◌-◌, ◌≤◌}
use native.Mathlib.Omega.{arith}
use Rattle.std.specs.Prelude.{Option, Some, None}
use lib.ListN.{length, take, drop}
use lib.Seq.{slice}
use Rattle.words.specs.Choice.{cons_if}
use Rattle.text.specs.Tokens.{tokens}
use Rattle.text.specs.Words.{begins_with_letter, is_name_behind, names_from, names_in}
use Rattle.text.specs.Scanning.{first_token, Found, first_name, NameInside, NameFound}
use Rattle.text.specs.declared.tokens.Next.{Next}
use Rattle.text.specs.declared.tokens.Next.TheVariants.{End, Open, Close, Word}
use Rattle.text.proofs.Slices.{part_slice}
use Rattle.text.proofs.TokenLaws.{found-tokens, found_inside, word-le}

-- no name stands between place at and place i, where a bracket is open if the test holds
pub record Looking (l : List ℕ) (at i : ℕ) (b : Bool) : Type 0 where
  pub onward : at ≤ i
  pub names_are : names_in (tokens (drop at l)) ≡ names_from b (tokens (drop i l))

-- by the token r that stands next
module _ {l : List ℕ} {at i : ℕ} {b : Bool} {r : Next} (h : Looking l at i b) (f : Found l i r) where
  next-is : {q : Next} → r ≡ q → names_in (tokens (drop at l)) ≡ names_from b (first_token l q)
  next-is e = h.names_are ∙ ap (names_from b) (found-tokens f e)

  pub looking_end : r ≡ End → NameFound l at None
  unfolding names_from
  looking_end e = record { names_are = next-is e; inside = tt }

  module _ {n : ℕ} where
    pub looking_open : r ≡ Open n → Looking l at n true
    unfolding names_from
    looking_open e = let k = found_inside f e in record { onward = omega arith; names_are = next-is e }

    pub looking_close : r ≡ Close n → Looking l at n false
    unfolding names_from
    looking_close e = let k = found_inside f e in record { onward = omega arith; names_are = next-is e }

  -- a word that is a name, one behind an opening bracket, and one that is none
  module _ {a e : ℕ} (q : r ≡ Word a e) where
    word-is : {u : Bool} → is_name_behind b (slice a e l) ≡ u
        → names_in (tokens (drop at l)) ≡ cons_if u (slice a e l) (names_in (tokens (drop e l)))
    unfolding names_from
    word-is v = next-is q ∙ rw v

    passed-by : is_name_behind b (slice a e l) ≡ false → Looking l at e false
    passed-by v = let k = found_inside f q in record { onward = omega arith; names_are = word-is v }

    pub looking_opened : b ≡ true → Looking l at e false
    looking_opened o = passed-by (rw o)

    -- by the answer t whether it begins with a letter, as the code reads it
    module _ {t : Bool} (n : t ≡ begins_with_letter (take (e - a) (drop a l))) where
      letter-is : {u : Bool} → t ≡ u → begins_with_letter (slice a e l) ≡ u
      letter-is v = sym (rw (part_slice l a e (word-le f q)) at n) ∙ v

      pub looking_name : b ≡ false → t ≡ true → NameFound l at (Some (a, e))
      looking_name o v =
          let k = found_inside f q in
          let named : is_name_behind b (slice a e l) ≡ true = rw (o, letter-is v) in
          record { names_are = word-is named; inside = (omega arith, k.1, k.2) }

      pub looking_other : t ≡ false → Looking l at e false
      looking_other v = passed-by (rw (letter-is v, and-false))

-- the name q was found at or behind place at
module _ {l : List ℕ} {at : ℕ} {r q : Option (ℕ × ℕ)} (f : NameFound l at r) (e : r ≡ q) where
  pub names-found : names_in (tokens (drop at l)) ≡ first_name l q
  names-found = f.names_are ∙ ap (first_name l) e

  pub name-inside : NameInside l at q
  name-inside = subst (NameInside l at) e f.inside

module _ {l : List ℕ} {at a e : ℕ} {r : Option (ℕ × ℕ)} (f : NameFound l at r) (q : r ≡ Some (a, e)) where
  pub name-onward : a ≤ e
  name-onward = let k = name-inside f q in omega arith

  pub name-within : e ≤ length l
  name-within = (name-inside f q).2
