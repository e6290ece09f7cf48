-- Nodes by their numbers.
--
--   place f          the place of a form of two operands among them, from 0
--   IsNode k n       the number k is the node n
--   NodeAt ks at n   the node n stands at place at of the nodes ks
--   NoNode ks at     none stands there
--   IsDeeper d e     e is one deeper than d, at most 16
use Rattle.std.specs.Prelude.{◌≡◌, List, ℕ, ◌+◌, ◌<◌, length, get_or}
use Rattle.nodes.specs.declared.formula.Form.{Form}
use Rattle.nodes.specs.declared.formula.Form.TheVariants.{And, Or, Then, Same}
use Rattle.nodes.specs.declared.formula.Node.{Node}
use Rattle.nodes.specs.declared.formula.Node.TheVariants.{Atom, Not, Two}

abbrev pub place : Form → ℕ
place And = 0
place Or = 1
place Then = 2
place Same = 3

abbrev pub IsNode : ℕ → Node → Type 0
IsNode k (Atom a) = (k ≡ a) × (a < 64)
IsNode k Not = k ≡ 64
IsNode k (Two f) = k ≡ 65 + place f

abbrev pub NodeAt : List ℕ → ℕ → Node → Type 0
NodeAt ks at n = (at < length ks) × IsNode (get_or ks at 0) n

abbrev pub NoNode : List ℕ → ℕ → Type 0
NoNode ks at = at < length ks → 68 < get_or ks at 0

abbrev pub IsDeeper : ℕ → ℕ → Type 0
IsDeeper d e = (d < 16) × (e ≡ d + 1)
