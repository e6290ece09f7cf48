-- A line has at most as many tokens as bytes, for each token takes one. Assumes nothing.
use mathlib.Core.Bool.{Bool, true, false}
use mathlib.Core.List.{List, [], ◌∷◌, ◌++◌}
use Prim.Native.Nat.{ℕ, ◌+◌, ◌≤◌}
use native.Mathlib.Omega.{arith}
use lib.Dec.{eqb}
use lib.ListN.{length}
use Rattle.words.specs.Choice.{pick}
use Rattle.text.specs.Bytes.{is_word_byte}
use Rattle.text.specs.Tokens.{Token, ended, bracket, tokens_from, tokens}

abbrev Short : ℕ → List Token → Type 0
Short n ts = length ts ≤ n

picked-short : (n : ℕ) (t : Bool) (x y : List Token) → Short n x → Short n y → Short n (pick t x y)
picked-short n true x y h k = h
picked-short n false x y h k = k

-- a word that is being read is a token if it has a byte
abbrev begun : List ℕ → ℕ
begun [] = 0
begun (b ∷ w) = 1

ended-short : (n : ℕ) (w : List ℕ) (ts : List Token) → Short n ts → Short (begun w + n) (ended w ts)
ended-short n [] ts h = omega arith
ended-short n (b ∷ w) ts h = omega arith

begun-le : (w : List ℕ) (b : ℕ) → begun (w ++ (b ∷ [])) ≤ 1
begun-le [] b = omega arith
begun-le (c ∷ w) b = omega arith

tokens-from-short : (w l : List ℕ) → length (tokens_from w l) ≤ begun w + length l
unfolding tokens_from
tokens-from-short w [] = ended-short 0 w [] (omega arith)
tokens-from-short w (b ∷ l) =
    let r : List Token = tokens_from [] l in
    let k : Short (1 + length l) r = omega (arith, tokens-from-short [] l) in
    let q : Short (1 + length l) (bracket b r) =
    picked-short _ (eqb b 40) _ _ (omega (arith, tokens-from-short [] l))
    (picked-short _ (eqb b 41) _ _ (omega (arith, tokens-from-short [] l)) k) in
    picked-short _ (is_word_byte b) _ _ (omega (arith, tokens-from-short (w ++ (b ∷ [])) l, begun-le w b))
    (omega (arith, ended-short _ w (bracket b r) q))

pub tokens-le-bytes : (l : List ℕ) → length (tokens l) ≤ length l
tokens-le-bytes l = omega (arith, tokens-from-short [] l)
