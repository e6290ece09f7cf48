-- The nodes of a formula by a lookup of names, as they stand in a line and in a table.
--
--   nodes_from at b ts   the nodes of the words of the tokens ts, by the lookup at: a word behind an opening bracket,
--                        as the first where b holds, is a form's, any other a name
--   NodeTable            a table and how many nodes it has
--   with_nodes s xs      s with the nodes xs behind the others, as far as there is room
use Rattle.std.specs.Prelude.{Bool, true, false, List, [], ◌∷◌, ℕ, ◌+◌, ltb, set}
use Rattle.words.specs.Choice.{pick}
use Rattle.program.specs.Case.{part_size}
use Rattle.text.specs.Tokens.{Token}
use Rattle.formulas.specs.Keyword.{node_of}

unfoldable pub nodes_from : (List ℕ → ℕ) → Bool → List Token → List ℕ
nodes_from at b [] = []
nodes_from at b (Token.opening ∷ ts) = nodes_from at true ts
nodes_from at b (Token.closing ∷ ts) = nodes_from at false ts
nodes_from at b (Token.word w ∷ ts) = pick b (node_of w) (at w) ∷ nodes_from at false ts

pub record NodeTable : Type 0 where
  pub count : ℕ
  pub table : List ℕ

abbrev pub node_table : ℕ → List ℕ → NodeTable
node_table n t = record { count = n; table = t }

unfoldable pub with_nodes : NodeTable → List ℕ → NodeTable
with_nodes s [] = s
with_nodes s (x ∷ xs) =
    let more = with_nodes (node_table (s.count + 1) (set s.table s.count x)) xs in
    pick (ltb s.count part_size) more s
