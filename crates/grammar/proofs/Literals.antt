-- Laws of the literals that tokens are: one for each way out of `negated_name` and `literal`, and those that `body_at`
-- has passed.
--
--   behind_all ls x    the literals ls with those of x behind them
--   Counted l at i n   the literals from place at on are n literals and those from place i on
-- Assumes nothing.
use mathlib.Core.Path.{◌≡◌, refl, sym, ap, ◌∙◌}
use mathlib.Core.Bool.{Bool, true, false, true≢false}
use mathlib.Core.List.{List, [], ◌∷◌, ◌++◌, append_assoc}
use mathlib.Core.Option.{Option}
use Rattle.std.specs.Prelude as code
use Rattle.std.specs.Prelude.{Some, None}
use Rattle.std.specs.Bool.{then_some}
use Prim.Native.Nat.{ℕ, ◌+◌, ◌-◌, ◌≤◌}
use native.Mathlib.Omega.{arith}
use lib.ListN.{length, take, drop, length-append}
use lib.Seq.{slice}
use Rattle.text.specs.Tokens.{Token, tokens}
use Rattle.text.specs.Words.{begins_with_letter}
use Rattle.text.specs.Scanning.{Found, begins_word, begins_name, begins_closing, NamedNext}
use Rattle.text.specs.declared.tokens.Next.{Next}
use Rattle.text.specs.declared.tokens.Next.TheVariants.{End, Open, Close, Word}
use Rattle.text.proofs.Slices.{part_slice}
use Rattle.text.proofs.TokenLaws.{word-le}
use Rattle.formulas.specs.Sentence.{Sentence}
use Rattle.formulas.specs.Keyword.{node_of, NodeFound}
use Rattle.formulas.specs.Items.{prepend, Item, with_form, items_of}
use Rattle.formulas.specs.Parsing.{Items, closed_among}
use Rattle.formulas.proofs.Reading.{FormRead, form-read, items_end, items_closing, items_name, items_word, items_form}
use Rattle.formulas.proofs.Forms.{negation_items}
use Rattle.formulas.proofs.FirstItem.{Filled, name_first, unclosed_items, unnamed_items, wordless_items}
use Rattle.formulas.proofs.FirstItem.{found-filled}
use Rattle.formulas.proofs.Formulas.{found_as}
use Rattle.grammar.specs.Line.{Literal}
use Rattle.grammar.specs.LineOf.{with_sentence, literals_of}
use Rattle.grammar.specs.Parsing.{literals_among, body_in, LiteralInside, LiteralIn, LiteralFound, NegationFound}
use Rattle.grammar.specs.declared.literal.Lit.{Lit}
use Rattle.grammar.specs.declared.literal.Lit.TheVariants as lit
use Rattle.grammar.proofs.Forms.{either}

-- The literals among items

among-name : (w : List ℕ) (x : Items)
    → literals_among (prepend (Item.formula (Sentence.name w)) x) ≡ prepend (Literal.literal false w) (literals_among x)
unfolding literals_of
among-name w Option.none = refl
among-name w (Option.some l) = refl

among-closing : (x : Items) → Filled x → literals_among (prepend Item.closing x) ≡ Option.none
unfolding literals_of
among-closing Option.none h = refl
among-closing (Option.some []) h = absurd h
among-closing (Option.some (i ∷ l)) h = refl

-- a form that is no negation, and a negation of no name
other_none : {k : ℕ} {x y : Items} → FormRead k x y → (k ≡ 64 → ⊥) → literals_among y ≡ Option.none
unfolding literals_of
other_none FormRead.no-form n = refl
other_none (FormRead.negation q) n = absurd (n q)
other_none (FormRead.joined h q) n = refl

negation-none : (f : Sentence) (m : List Item) → name_first (Option.some (Item.formula f ∷ m)) ≡ false
    → (x : Option (List Literal)) → with_sentence (Sentence.negation f) x ≡ Option.none
negation-none (Sentence.name w) m h x = absurd (true≢false h)
negation-none (Sentence.negation f) m h x = refl
negation-none (Sentence.joined k f g) m h x = refl

unnamed_none : {k : ℕ} {x y : Items} → FormRead k x y → name_first x ≡ false → literals_among y ≡ Option.none
unfolding literals_of
unnamed_none FormRead.no-form h = refl
unnamed_none (FormRead.negation {g} {m} q) h = negation-none g (Item.closing ∷ m) h (literals_of m)
unnamed_none (FormRead.joined b q) h = refl

-- a negated name
abbrev negated : List ℕ → Sentence
negated w = Sentence.negation (Sentence.name w)

among-negated : (w : List ℕ) (x : Items)
    → literals_among (closed_among (negated w) (prepend Item.closing x))
    ≡ prepend (Literal.literal true w) (literals_among x)
unfolding literals_of
among-negated w Option.none = refl
among-negated w (Option.some l) = refl

-- The ways out of `negated_name`

pub no_literal : {ts : List Token} {l : List ℕ} {at : ℕ} → body_in ts ≡ Option.none → LiteralIn ts l at None
no_literal e = record { literals_are = e; inside = tt }

pub opened_wordless : (l : List ℕ) (at : ℕ) → begins_word (tokens (drop at l)) ≡ false → NegationFound l at None
opened_wordless l at h = no_literal (ap literals_among (wordless_items (tokens (drop at l)) h))

-- by the node of the word behind the bracket, as the code reads it
module _ {l : List ℕ} {at a e : ℕ} (t : Found l at (Word a e)) where
  node_found : {x : code.Option ℕ} → NodeFound (take (e - a) (drop a l)) x → NodeFound (slice a e l) x
  node_found q = rw (part_slice l a e (word-le t refl)) at q

  opened-form : body_in (Token.opening ∷ tokens (drop at l))
      ≡ literals_among (with_form (node_of (slice a e l)) (items_of (tokens (drop e l))))
  opened-form = rw (t.tokens_are, items_form)

  opened-not : (node_of (slice a e l) ≡ 64 → ⊥) → NegationFound l at None
  opened-not n = no_literal (opened-form ∙ other_none (form-read _ (items_of (tokens (drop e l)))) n)

  pub opened-none : NodeFound (take (e - a) (drop a l)) None → NegationFound l at None
  opened-none q = let v = (node_found q).node_is in opened-not (λ z. omega (arith, v))

  module _ {k : ℕ} (q : NodeFound (take (e - a) (drop a l)) (Some k)) where
    pub opened-other : (k ≡ 64 → ⊥) → NegationFound l at None
    opened-other n = let v = (node_found q).node_is in opened-not (λ z. n (v.0 ∙ z))

    module _ (n : k ≡ 64) where
      pub negation_unnamed : begins_name (tokens (drop e l)) ≡ false → NegationFound l at None
      negation_unnamed h =
          let items = items_of (tokens (drop e l)) in
          no_literal (opened-form ∙ unnamed_none (form-read _ items) (unnamed_items (tokens (drop e l)) h))

      module _ {b f : ℕ} (m : NamedNext l e b f) where
        opened-name : body_in (Token.opening ∷ tokens (drop at l))
            ≡ literals_among (closed_among (negated (slice b f l)) (items_of (tokens (drop f l))))
        opened-name =
            let w = slice b f l in
            let v = (node_found q).node_is in
            opened-form ∙ rw (m.found.tokens_are, items_name (tokens (drop f l)) w m.lettered)
            (ap literals_among (negation_items _ (Sentence.name w) (items_of (tokens (drop f l))) (sym v.0 ∙ n)))

        pub negation-unclosed : begins_closing (tokens (drop f l)) ≡ false → NegationFound l at None
        negation-unclosed h =
            no_literal (opened-name
            ∙ ap literals_among (unclosed_items (tokens (drop f l)) h (negated (slice b f l))))

        pub negation-closed : {next : ℕ} → Found l f (Close next)
            → NegationFound l at (Some (lit.Literal true b f next))
        negation-closed {next} d =
            let g = t in
            let i = m.found in
            let rest = items_of (tokens (drop next l)) in
            record {
              literals_are = opened-name ∙ rw (d.tokens_are, items_closing) (among-negated (slice b f l) rest);
              inside = (omega arith, d.inside.1, i.inside.1, i.inside.2);
            }

-- The ways out of `literal`

-- what was found behind a bracket lies behind the place before it
inside-from : (l : List ℕ) (at i : ℕ) (r : code.Option Lit) → at ≤ i → LiteralInside l i r → LiteralInside l at r
inside-from l at i None h k = tt
inside-from l at i (Some lit.BodyEnd) h k = tt
inside-from l at i (Some (lit.Literal b a e n)) h k = (omega arith, k.1, k.2, k.3)

module _ {l : List ℕ} {at : ℕ} {r : Next} (t : Found l at r) where
  pub literal-end : r ≡ End → LiteralFound l at None
  unfolding literals_of
  literal-end e = no_literal (rw ((found_as t e).tokens_are, items_end))

  -- by the answer b whether the word is a name, as the code reads it
  module _ {a e : ℕ} (w : r ≡ Word a e) {b : Bool} (q : b ≡ begins_with_letter (take (e - a) (drop a l))) where
    lettered : {d : Bool} → b ≡ d → begins_with_letter (slice a e l) ≡ d
    lettered h = sym (rw (part_slice l a e (word-le t w)) at q) ∙ h

    literal-word : b ≡ false → LiteralFound l at None
    literal-word h =
        no_literal (rw ((found_as t w).tokens_are, items_word (tokens (drop e l)) (slice a e l) (lettered h)))

    literal-name : b ≡ true → LiteralFound l at (Some (lit.Literal false a e e))
    literal-name h =
        let g = found_as t w in
        let v = slice a e l in
        let us = tokens (drop e l) in
        record {
          literals_are = rw (g.tokens_are, items_name us v (lettered h)) (among-name v (items_of us));
          inside = (omega arith, g.inside.2, g.inside.1, g.inside.2);
        }

    pub literal_found : LiteralFound l at (then_some b (lit.Literal false a e e))
    literal_found = either (LiteralFound l at) (lit.Literal false a e e) b literal-name literal-word

  pub literal-opened : {i : ℕ} {s : code.Option Lit} → r ≡ Open i → NegationFound l i s → LiteralFound l at s
  literal-opened {i} {s} w n =
      let g = found_as t w in
      record {
        literals_are = ap body_in g.tokens_are ∙ n.literals_are;
        inside = inside-from l at i s (omega arith) n.inside;
      }

  module _ {i : ℕ} (w : r ≡ Close i) {s : Next} (u : Found l i s) where
    pub literal-more : (s ≡ End → ⊥) → LiteralFound l at None
    literal-more h =
        let none = among-closing (items_of (tokens (drop i l))) (found-filled u h) in
        no_literal (rw ((found_as t w).tokens_are, items_closing) none)

    pub literal-last : s ≡ End → LiteralFound l at (Some lit.BodyEnd)
    unfolding literals_of
    literal-last e = record {
      literals_are = rw ((found_as t w).tokens_are, items_closing, (found_as u e).tokens_are, items_end);
      inside = tt;
    }

-- How many literals there are

abbrev behind_all : List Literal → Option (List Literal) → Option (List Literal)
behind_all ls Option.none = Option.none
behind_all ls (Option.some ms) = Option.some (ls ++ ms)

pub record Counted (l : List ℕ) (at i n : ℕ) : Type 0 where
  pub within : i ≤ length l
  pub few : n ≤ i
  pub literals : List Literal
  pub literals_are : body_in (tokens (drop at l)) ≡ behind_all literals (body_in (tokens (drop i l)))
  pub count-is : n ≡ length literals

behind_more : (ls : List Literal) (a : Literal) (x : Option (List Literal))
    → behind_all ls (prepend a x) ≡ behind_all (ls ++ (a ∷ [])) x
behind_more ls a Option.none = refl
behind_more ls a (Option.some ms) = ap Option.some (sym (append_assoc ls (a ∷ []) ms))

module _ {l : List ℕ} {at i n : ℕ} (c : Counted l at i n) where
  module _ {b : Bool} {a e next : ℕ} (g : LiteralFound l i (Some (lit.Literal b a e next))) where
    pub counted-more : Counted l at next (n + 1)
    counted-more =
        let x = Literal.literal b (slice a e l) in
        let m = length-append c.literals (x ∷ []) in
        let o = c.count-is in
        record {
          within = g.inside.1;
          few = omega arith;
          literals = c.literals ++ (x ∷ []);
          literals_are = c.literals_are ∙ ap (behind_all c.literals) g.literals_are
              ∙ behind_more c.literals x (body_in (tokens (drop next l)));
          count-is = omega arith;
        }
