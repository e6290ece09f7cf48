-- Laws of the nodes of a formula: they are those of its tokens, and they stand in the table behind the others.
-- Assumes nothing.
use mathlib.Core.Path.{◌≡◌, refl, sym, ap, ap₂, subst, ◌∙◌}
use mathlib.Core.Bool.{Bool, true, false}
use mathlib.Core.List.{List, [], ◌∷◌, ◌++◌, append_assoc, append-nil}
use mathlib.Core.Option.{Option}
use Prim.Native.Nat.{ℕ, zero, suc, ◌+◌, ◌-◌, ◌*◌, ◌≤◌, ◌<◌}
use native.Mathlib.Nat.{add-zero, zero-add}
use native.Mathlib.Numerals.{add-one}
use native.Mathlib.Omega.{arith}
use lib.ListN.{length, take, drop, get_or, set}
use lib.Seq.{sets}
use borrow.Author.Tests.{lt-ltb, le-ltb}
use borrow.Rule.Slice.PartMut.{take_put}
use Rattle.words.specs.Choice.{pick}
use Rattle.logic.specs.Formula.{Formula}
use Rattle.logic.specs.Nodes.{nodes, joined}
use Rattle.program.specs.declared.case.Case.{Case}
use Rattle.program.specs.Case.{formula_size, part_size}
use Rattle.text.specs.Tokens.{Token, tokens}
use Rattle.text.specs.declared.tokens.Next.{Next}
use Rattle.text.specs.declared.tokens.Next.TheVariants.{End, Open, Close, Word}
use Rattle.text.specs.Scanning.{Found}
use Rattle.text.proofs.Slices.{part_slice}
use Rattle.text.proofs.TokenLaws.{found-tokens, word-le}
use Rattle.table.proofs.Stores.{rest_from, rest_back, rest-lent, rest_back_lem, sets-part}
use Rattle.formulas.specs.Sentence.{Sentence, form_words, tokens_of, is_sentence}
use Rattle.formulas.specs.Items.{Item, items_of}
use Rattle.std.specs.Prelude as code
use Rattle.std.specs.Prelude.{unwrap_or}
use Rattle.formulas.specs.Keyword.{node_of, NodeFound}
use Rattle.formulas.specs.Parsing.{size_of}
use Rattle.formulas.proofs.Keywords.{word-node}
use Rattle.formulas.proofs.Spelling.{joined-sentence, spelled_items, Spells, items_spell}
use Rattle.names.specs.Row.{row_of}
use Rattle.names.proofs.Search.{row-le}
use Rattle.store.specs.Saying.{encoded_by}
use Rattle.store.specs.Nodes.{nodes_from, NodeTable, node_table, with_nodes}
use Rattle.store.specs.Stored.{with_formula, QueryStored}
use Rattle.store.proofs.Encoded.{encoded-length}

-- The nodes of tokens

joined-from : (j : ℕ) (f g : Formula) → j ≤ 3 → nodes (joined j f g) ≡ (j + 65) ∷ (nodes f ++ nodes g)
unfolding nodes
joined-from zero f g h = refl
joined-from (suc zero) f g h = refl
joined-from (suc (suc zero)) f g h = refl
joined-from (suc (suc (suc zero))) f g h = refl
joined-from (suc (suc (suc (suc j)))) f g h = absurd (omega arith)

joined-nodes : (k : ℕ) (f g : Formula) → 65 ≤ k → k ≤ 68 → nodes (joined (k - 65) f g) ≡ k ∷ (nodes f ++ nodes g)
joined-nodes k f g h l =
    let e : k - 65 + 65 ≡ k = omega arith in
    joined-from (k - 65) f g (omega arith) ∙ ap (λ n. n ∷ (nodes f ++ nodes g)) e

module _ (at : List ℕ → ℕ) where
  nodes-form : (k : ℕ) (w : List ℕ) (ts : List Token) {xs : List ℕ} → node_of w ≡ k → nodes_from at false ts ≡ xs
      → nodes_from at false (Token.opening ∷ (Token.word w ∷ ts)) ≡ k ∷ xs
  unfolding nodes_from
  nodes-form k w ts e h = ap₂ (λ n l. n ∷ l) e h

  closing-nodes : (ts : List Token) → nodes_from at false (Token.closing ∷ ts) ≡ nodes_from at false ts
  unfolding nodes_from
  closing-nodes ts = refl

  name-nodes : (w : List ℕ) (ts : List Token) → nodes_from at false (Token.word w ∷ ts) ≡ at w ∷ nodes_from at false ts
  unfolding nodes_from
  name-nodes w ts = refl

  joined-tokens : (k : ℕ) (f g : Sentence) (ts : List Token)
      → tokens_of (Sentence.joined k f g) ++ ts
      ≡ Token.opening
      ∷ (Token.word (get_or form_words (k - 64) []) ∷ (tokens_of f ++ (tokens_of g ++ (Token.closing ∷ ts))))
  unfolding tokens_of
  joined-tokens k f g ts = rw (append_assoc (tokens_of f ++ tokens_of g), append_assoc (tokens_of f))

  sentence-nodes : (f : Sentence) (ts : List Token) → is_sentence f ≡ true
      → nodes_from at false (tokens_of f ++ ts) ≡ nodes (encoded_by at f) ++ nodes_from at false ts
  unfolding tokens_of is_sentence encoded_by nodes
  sentence-nodes (Sentence.name w) ts h = name-nodes w ts
  sentence-nodes (Sentence.negation f) ts h =
      rw append_assoc
      (nodes-form 64 _ _ (word-node 64 (omega arith) (omega arith)) (sentence-nodes f _ h ∙ rw (closing-nodes ts)))
  sentence-nodes (Sentence.joined k f g) ts h =
      let j = joined-sentence k f g h in
      let G = sentence-nodes g (Token.closing ∷ ts) j.second in
      let F = sentence-nodes f (tokens_of g ++ (Token.closing ∷ ts)) j.first in
      rw (joined-tokens k f g ts, joined-nodes k _ _ j.low j.high)
      (nodes-form k _ _ (word-node k (omega arith) j.high) (F ∙ rw (G, closing-nodes ts, append_assoc)))

-- of the tokens of a query behind its word
query-nodes : (at : List ℕ → ℕ) (ts : List Token) (f : Sentence)
    → items_of ts ≡ Option.some (Item.formula f ∷ (Item.closing ∷ []))
    → nodes_from at false ts ≡ nodes (encoded_by at f)
unfolding nodes_from spelled_items
query-nodes at ts f e =
    let s = subst (Spells ts) e (items_spell ts) in
    rw s.0 (sentence-nodes at f (Token.closing ∷ []) s.1.0 ∙ append-nil (nodes (encoded_by at f)))

-- The table

nodes_stored : (xs : List ℕ) (n : ℕ) (t : List ℕ) → n + length xs ≤ part_size
    → with_nodes (node_table n t) xs ≡ node_table (n + length xs) (sets t n xs)
unfolding with_nodes
nodes_stored [] n t h = ap (λ k. node_table k t) (sym (add-zero n))
nodes_stored (x ∷ xs) n t h =
    let e : n + 1 + length xs ≡ n + suc (length xs) = omega arith in
    rw (lt-ltb n part_size (omega arith), nodes_stored xs (n + 1) (set t n x) (omega arith), e, add-one)

-- A query

-- the formula f stands in the part behind those in use
pub record FormulaPut (f : Formula) (c : Case) (fo : List ℕ) (r : Case) (u : List ℕ) : Type 0 where
  pub counted : r ≡ with_formula c (length (nodes f))
  pub table_is : u ≡ sets fo (part_size * c.formulas) (nodes f)

pub formula_put : {l : List ℕ} {at : ℕ} {c : Case} {na fo : List ℕ} {r : Case} {u : List ℕ} {f : Sentence}
    → items_of (tokens (drop at l)) ≡ Option.some (Item.formula f ∷ (Item.closing ∷ [])) → size_of f ≤ part_size
    → c.formulas < 16 → formula_size ≤ length fo → QueryStored l at c na fo r u
    → FormulaPut (encoded_by (row_of na c.atoms) f) c fo r u
formula_put {l} {at} {c} {na} {fo} {r} {u} {f} e small room long s =
    let by = row_of na c.atoms in
    let xs = nodes (encoded_by by f) in
    let n = encoded-length by f in
    let i = part_size * c.formulas in
    let put = rw (query-nodes by (tokens (drop at l)) f e) at s.nodes_are
    ∙ (rw zero-add at (nodes_stored xs 0 (drop i fo) (omega arith))) in
    record {
      counted = s.counted ∙ ap (λ (t : NodeTable). with_formula c t.count) put;
      table_is = sets-part i xs fo u (omega arith) s.before-kept (ap (λ (t : NodeTable). t.table) put);
    }

-- the part from its place on, lent to `store_nodes`, is back as ys
pub query_stored_back : {l : List ℕ} {at : ℕ} {c : Case} {na fo : List ℕ} {n : ℕ} {ys : List ℕ} → c.formulas < 16
    → formula_size ≤ length fo
    → node_table n ys ≡ with_nodes (node_table 0 (rest_from (part_size * c.formulas) fo))
    (nodes_from (row_of na c.atoms) false (tokens (drop at l)))
    → QueryStored l at c na fo (with_formula c n) (rest_back (part_size * c.formulas) fo ys)
query_stored_back {c = c} {fo = fo} {n = n} {ys = ys} room long e =
    let i = part_size * c.formulas in
    let k : i ≤ length fo = omega arith in
    record {
      count = n;
      counted = refl;
      before-kept = take_put i (length fo - i) fo ys k;
      nodes_are = rw (rest_back_lem i fo ys k, ← rest-lent i fo) e;
    }

-- The loop of `store_nodes`

-- the nodes of the tokens from place i of the line l on, behind a bracket where b holds, leave of s what is left in all
pub record Storing (at : List ℕ → ℕ) (all : NodeTable) (l : List ℕ) (i : ℕ) (b : Bool) (n : ℕ) (t : List ℕ)
    : Type 0 where
  pub all_are : all ≡ with_nodes (node_table n t) (nodes_from at b (tokens (drop i l)))

pub storing_none : (at : List ℕ → ℕ) (l : List ℕ) (i n : ℕ) (t : List ℕ)
    → Storing at (with_nodes (node_table n t) (nodes_from at false (tokens (drop i l)))) l i false n t
storing_none at l i n t = record { all_are = refl }

module _ {at : List ℕ → ℕ} {all : NodeTable} {l : List ℕ} {i : ℕ} {b : Bool} {n : ℕ} {t : List ℕ} {r : Next}
    (h : Storing at all l i b n t) (f : Found l i r) where
  pub storing_end : r ≡ End → node_table n t ≡ all
  unfolding nodes_from with_nodes
  storing_end e = sym (h.all_are ∙ rw (found-tokens f e))

  pub storing_open : {j : ℕ} → r ≡ Open j → Storing at all l j true n t
  unfolding nodes_from
  storing_open e = record { all_are = h.all_are ∙ rw (found-tokens f e) }

  pub storing_close : {j : ℕ} → r ≡ Close j → Storing at all l j false n t
  unfolding nodes_from
  storing_close e = record { all_are = h.all_are ∙ rw (found-tokens f e) }

  module _ {a e : ℕ} (q : r ≡ Word a e) where
    pub storing_full : part_size ≤ n → node_table n t ≡ all
    unfolding nodes_from with_nodes
    storing_full k = sym (h.all_are ∙ rw (found-tokens f q, le-ltb n part_size k))

    pub storing_word : {x : ℕ} → n < part_size
        → x ≡ pick b (node_of (take (e - a) (drop a l))) (at (take (e - a) (drop a l)))
        → Storing at all l e false (n + 1) (set t n x)
    unfolding nodes_from with_nodes
    storing_word k g =
        let w = part_slice l a e (word-le f q) in
        record { all_are = h.all_are ∙ rw (found-tokens f q, lt-ltb n part_size k, ← w, ← g) }

-- the row of a name fits a byte
pub row-few : (t : List ℕ) (n : ℕ) (w : List ℕ) {r : ℕ} → r ≡ row_of t n w → r ≤ n
row-few t n w e = rw e (row-le t n w)

-- the node that was found for the word w, or 69
pub node_or_none : (w : List ℕ) (r : code.Option ℕ) → NodeFound w r → unwrap_or r 69 ≡ node_of w
node_or_none w code.None h = sym h.node_is
node_or_none w (code.Some k) h = h.node_is.0
