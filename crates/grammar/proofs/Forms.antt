-- Laws of the forms that are found in a line: one for each way out of the functions that find them.
-- Assumes nothing.
use mathlib.Core.Path.{◌≡◌, refl, sym, ap, ◌∙◌}
use mathlib.Core.Bool.{Bool, true, false, true≢false}
use mathlib.Core.List.{List, [], ◌∷◌}
use mathlib.Core.Option.{Option}
use Rattle.std.specs.Prelude as code
use Rattle.std.specs.Prelude.{Some, None}
use Rattle.std.specs.Bool.{then_some}
use Prim.Native.Nat.{ℕ, ◌-◌, ◌≤◌, ◌<◌}
use native.Mathlib.Omega.{arith}
use lib.ListN.{take, drop}
use lib.Seq.{slice}
use borrow.Author.Tests.{lt-ltb}
use Rattle.words.specs.Choice.{pick}
use Rattle.text.specs.Tokens.{Token, tokens}
use Rattle.text.specs.Words.{begins_with_letter}
use Rattle.text.specs.Scanning.{Found, first_token, begins_word, begins_name, begins_closing, NamedNext}
use Rattle.text.specs.declared.tokens.Next.{Next}
use Rattle.text.specs.declared.tokens.Next.TheVariants.{End, Open, Close, Word}
use Rattle.text.proofs.Slices.{part_slice}
use Rattle.text.proofs.TokenLaws.{word-le}
use Rattle.formulas.specs.Sentence.{Sentence}
use Rattle.formulas.specs.Items.{prepend, Item, items_of}
use Rattle.formulas.specs.Parsing.{Items, begins_formula, closed_among, FormulaAt}
use Rattle.formulas.proofs.Formulas.{found_as}
use Rattle.formulas.proofs.Reading.{items_end, items_closing, items_name}
use Rattle.formulas.proofs.FirstItem.{Filled, unclosed_items, unnamed_items, found-filled}
use Rattle.grammar.specs.Line.{Line, Literal}
use Rattle.grammar.specs.LineOf.{with_body, body_line, with_items, behind_word, kind_of, line_of}
use Rattle.grammar.specs.Parsing.{ends_items, body_in, BodyFound, BodyMakes}
use Rattle.grammar.specs.Parsing.{ends_line, FormOrNone, FormAfter, FormFound}
use Rattle.grammar.specs.declared.line.Form.{Form}
use Rattle.grammar.specs.declared.line.Form.TheVariants.{Skipped, Clause, Query}
use Rattle.grammar.proofs.KindLaws.{fit_body, unfit_body, kind_unnamed, kind-named, kindless-behind}

-- a value where a test passes, otherwise none
pub either : {A : Type 0} (P : code.Option A → Type 0) (x : A) (b : Bool) → (b ≡ true → P (Some x))
    → (b ≡ false → P None) → P (then_some b x)
either P x true f g = f refl
either P x false f g = g refl

-- The ways out of `ends_line`

unclosed-ends : (x : Items) → closed_among (Sentence.name []) x ≡ Option.none → ends_items x ≡ false
unclosed-ends Option.none h = refl
unclosed-ends (Option.some []) h = refl
unclosed-ends (Option.some (Item.closing ∷ l)) h = absurd (let z : ◌≡◌ {A = ℕ} 0 1 = cc in omega arith)
unclosed-ends (Option.some (Item.formula f ∷ l)) h = refl

closing-filled : (x : Items) → Filled x → ends_items (prepend Item.closing x) ≡ false
closing-filled Option.none h = refl
closing-filled (Option.some []) h = absurd h
closing-filled (Option.some (i ∷ l)) h = refl

pub ends-unclosed : (l : List ℕ) (at : ℕ) → begins_closing (tokens (drop at l)) ≡ false → false ≡ ends_line l at
unfolding ends_line
ends-unclosed l at h =
    sym (unclosed-ends (items_of (tokens (drop at l))) (unclosed_items (tokens (drop at l)) h (Sentence.name [])))

module _ {l : List ℕ} {at i : ℕ} (t : Found l at (Close i)) {s : Next} (u : Found l i s) where
  pub ends_more : (s ≡ End → ⊥) → false ≡ ends_line l at
  unfolding ends_line
  ends_more h =
      let more = closing-filled (items_of (tokens (drop i l))) (found-filled u h) in
      sym (rw (t.tokens_are, items_closing) more)

  pub ends_last : s ≡ End → true ≡ ends_line l at
  unfolding ends_line
  ends_last f = sym (rw (t.tokens_are, items_closing, (found_as u f).tokens_are, items_end))

-- Literals, as many as a line of kind k takes

module _ {l : List ℕ} {at : ℕ} {x : Line} (k : ℕ) (make : List Literal → Line)
    (e : x ≡ with_body k make (body_in (tokens (drop at l)))) where
  body_unmade : BodyFound l at k None → x ≡ Line.no_form
  body_unmade f = e ∙ unfit_body k make (body_in (tokens (drop at l))) f.body_is

  body_makes : {n : ℕ} → BodyFound l at k (Some n) → BodyMakes l at n make x
  body_makes f =
      let b = f.body_is in
      record {
        literals = b.literals;
        literals_are = b.literals_are;
        count-is = b.count-is;
        line-is = e ∙ ap (with_body k make) b.literals_are ∙ fit_body k make b.literals b.fits;
      }

-- Lines of formulas: all but the flat ones

pub behind_items : (k : ℕ) (ts : List Token) → k < 7 → behind_word k ts ≡ with_items k (items_of ts)
behind_items k ts h = rw (lt-ltb k 7 h)

after_items : {l : List ℕ} {at k : ℕ} {r : code.Option Form} → k < 7
    → FormOrNone l r (with_items k (items_of (tokens (drop at l)))) → FormAfter l at k r
after_items {l} {at} {k} h f = record { form-is = rw (behind_items k (tokens (drop at l)) h) f }

-- The ways out of `clause_form`

pub clause-is : (k : ℕ) {ts us : List Token} {w : List ℕ} → k ≤ 2 → ts ≡ Token.word w ∷ us → begins_with_letter w ≡ true
    → with_items k (items_of ts) ≡ with_body k (Line.clause k w) (body_in us)
clause-is k {us = us} {w = w} i e n = rw (e, items_name us w n) (kind-named k i w (items_of us))

pub clause_unnamed : (l : List ℕ) (at k : ℕ) → k ≤ 2 → begins_name (tokens (drop at l)) ≡ false → FormAfter l at k None
clause_unnamed l at k i h =
    after_items (omega arith) (kind_unnamed k i (items_of (tokens (drop at l))) (unnamed_items (tokens (drop at l)) h))

module _ {l : List ℕ} {at a e k : ℕ} (n : NamedNext l at a e) (i : k ≤ 2) where
  clause-line : with_items k (items_of (tokens (drop at l)))
      ≡ with_body k (Line.clause k (slice a e l)) (body_in (tokens (drop e l)))
  clause-line = clause-is k i n.found.tokens_are n.lettered

  pub clause_unfit : BodyFound l e k None → FormAfter l at k None
  clause_unfit f = after_items (omega arith) (body_unmade k _ clause-line f)

  pub clause-found : {j : ℕ} → BodyFound l e k (Some j) → FormAfter l at k (Some (Clause k a e j))
  clause-found f =
      after_items (omega arith) (i, (n.found.inside.1, n.found.inside.2), body_makes k _ clause-line f)

-- The ways out of `query_form`

query-line : (f : Sentence) (x : Items)
    → with_items 6 (prepend (Item.formula f) x) ≡ pick (ends_items x) (Line.query f) Line.no_form
query-line f Option.none = refl
query-line f (Option.some l) = refl

none-line : (x : Items) → begins_formula x ≡ false → with_items 6 x ≡ Line.no_form
none-line Option.none h = refl
none-line (Option.some []) h = refl
none-line (Option.some (Item.closing ∷ l)) h = refl
none-line (Option.some (Item.formula f ∷ l)) h = absurd (true≢false h)

pub ends_is : (x : Items) → ends_items x ≡ true → x ≡ Option.some (Item.closing ∷ [])
ends_is Option.none h = absurd (true≢false (sym h))
ends_is (Option.some []) h = absurd (true≢false (sym h))
ends_is (Option.some (Item.formula f ∷ l)) h = absurd (true≢false (sym h))
ends_is (Option.some (Item.closing ∷ [])) h = refl
ends_is (Option.some (Item.closing ∷ (i ∷ l))) h = absurd (true≢false (sym h))

module _ {l : List ℕ} {at next d : ℕ} (q : FormulaAt l at next d) where
  query-unended : ends_line l next ≡ false → FormAfter l at 6 None
  unfolding ends_line
  query-unended h = record {
    form-is = rw q.items_are (query-line q.sentence (items_of (tokens (drop next l))) ∙ rw h);
  }

  query-ended : ends_line l next ≡ true → FormAfter l at 6 (Some (Query at d))
  unfolding ends_line
  query-ended h =
      let f = q.items_are ∙ ap (prepend (Item.formula q.sentence)) (ends_is (items_of (tokens (drop next l))) h) in
      record {
        form-is = record {
          sentence = q.sentence;
          items_are = f;
          depth_is = q.depth_is;
          line-is = ap (with_items 6) f;
        };
      }

  pub query_found : {b : Bool} → b ≡ ends_line l next → FormAfter l at 6 (then_some b (Query at d))
  query_found {b} e =
      either (FormAfter l at 6) (Query at d) b (λ h. query-ended (sym e ∙ h)) (λ h. query-unended (sym e ∙ h))

-- Lines of literals alone

pub constraint-kind : (k : ℕ) (ls : List Literal) → k < 5 → body_line k ls ≡ Line.constraint (k - 3) ls
constraint-kind k ls h = rw (lt-ltb k 5 h)

-- The ways out of `form_of`

opened-line : (ts : List Token) → begins_word ts ≡ false → line_of (Token.opening ∷ ts) ≡ Line.no_form
unfolding line_of
opened-line [] h = refl
opened-line (Token.opening ∷ ts) h = refl
opened-line (Token.closing ∷ ts) h = refl
opened-line (Token.word w ∷ ts) h = absurd (true≢false h)

other-line : (l : List ℕ) (r : Next) → (r ≡ End → ⊥) → ((n : ℕ) → r ≡ Open n → ⊥)
    → line_of (first_token l r) ≡ Line.no_form
unfolding line_of
other-line l End h k = absurd (h refl)
other-line l (Open n) h k = absurd (k n refl)
other-line l (Close n) h k = refl
other-line l (Word a e) h k = refl

module _ {l : List ℕ} {r : Next} (t : Found l 0 r) where
  pub line-skipped : r ≡ End → FormFound l (Some Skipped)
  unfolding line_of
  line-skipped e = record { form-is = rw (found_as t e).tokens_are }

  pub line-other : (r ≡ End → ⊥) → ((n : ℕ) → r ≡ Open n → ⊥) → FormFound l None
  line-other h k = record { form-is = rw t.tokens_are (other-line l r h k) }

  module _ {i : ℕ} (o : r ≡ Open i) where
    pub line_wordless : begins_word (tokens (drop i l)) ≡ false → FormFound l None
    line_wordless h = record { form-is = rw (found_as t o).tokens_are (opened-line (tokens (drop i l)) h) }

    -- by the kind of the word behind the bracket, as the code reads it
    module _ {a e : ℕ} (u : Found l i (Word a e)) where
      kind-line : line_of (tokens l) ≡ behind_word (kind_of (take (e - a) (drop a l))) (tokens (drop e l))
      unfolding line_of
      kind-line = rw ((found_as t o).tokens_are, u.tokens_are, part_slice l a e (word-le u refl))

      pub line-kindless : kind_of (take (e - a) (drop a l)) ≡ 10 → FormFound l None
      line-kindless q = record {
        form-is = kind-line ∙ kindless-behind _ (tokens (drop e l)) (omega arith);
      }

      pub line-found : {k : ℕ} {x : code.Option Form} → k ≡ kind_of (take (e - a) (drop a l)) → FormAfter l e k x
          → FormFound l x
      line-found q f = record { form-is = rw (kind-line, ← q) f.form-is }
