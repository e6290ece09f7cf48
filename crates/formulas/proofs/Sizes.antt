-- Sizes: formulas have about half as many nodes as a line has bytes. Assumes nothing.
use mathlib.Core.Path.{◌≡◌, subst}
use mathlib.Core.List.{List, [], ◌∷◌}
use mathlib.Core.Option.{Option}
use Prim.Native.Nat.{ℕ, ◌+◌, ◌-◌, ◌*◌, ◌≤◌}
use native.Mathlib.Omega.{arith}
use lib.ListN.{length, drop, length-drop}
use Rattle.text.specs.Tokens.{Token, tokens}
use Rattle.text.proofs.TokenCounts.{tokens-le-bytes}
use Rattle.formulas.specs.Sentence.{Sentence}
use Rattle.formulas.specs.Items.{Item, items_of}
use Rattle.formulas.specs.Parsing.{Items, size_of}
use Rattle.formulas.proofs.Sentences.{token_count, size-le-tokens}
use Rattle.formulas.proofs.Reading.{Read, items_read}

-- how many tokens items take
abbrev item_count : List Item → ℕ
item_count [] = 0
item_count (Item.closing ∷ m) = 1 + item_count m
item_count (Item.formula f ∷ m) = token_count f + item_count m

-- the items, if any, take at most n tokens
abbrev Take : ℕ → Items → Type 0
Take n Option.none = Unit {0}
Take n (Option.some m) = item_count m ≤ n

read_take : {ts : List Token} {x : Items} → Read ts x → Take (length ts) x
unfolding token_count
read_take Read.nothing = tt
read_take Read.end = omega arith
read_take (Read.closing r) = omega (arith, read_take r)
read_take (Read.name e r) = omega (arith, read_take r)
read_take (Read.negation e r) = omega (arith, read_take r)
read_take (Read.joined b e r) = omega (arith, read_take r)

-- the first formula of tokens has at most half as many nodes as there are tokens, rounded up
pub formula-size : (ts : List Token) (f : Sentence) (m : List Item) → items_of ts ≡ Option.some (Item.formula f ∷ m)
    → 2 * size_of f ≤ length ts + 1
formula-size ts f m e =
    let h : token_count f + item_count m ≤ length ts = subst (Take (length ts)) e (read_take (items_read ts)) in
    omega (arith, size-le-tokens f)

-- and so about half as many as bytes are left, where the tokens are those of a line from place at on
pub first-formula-size : (l : List ℕ) (at : ℕ) (f : Sentence) (m : List Item)
    → items_of (tokens (drop at l)) ≡ Option.some (Item.formula f ∷ m) → 2 * size_of f ≤ (length l - at) + 1
first-formula-size l at f m e =
    omega (arith, formula-size (tokens (drop at l)) f m e, tokens-le-bytes (drop at l), length-drop at l)
