-- Formulas at a place of a line: one law for each way out of `head_at`, `closed_form` and `formula_at`.
-- Assumes nothing.
use mathlib.Core.Path.{◌≡◌, refl, sym, ap, subst, ◌∙◌}
use mathlib.Core.Bool.{Bool, true, false}
use mathlib.Core.List.{List}
use Rattle.std.specs.Prelude.{Option, Some, None}
use Rattle.std.specs.Bool.{then_some}
use Prim.Native.Nat.{ℕ, ◌+◌, ◌-◌, ◌*◌, ◌≤◌, ◌<◌, max}
use native.Mathlib.Omega.{arith}
use lib.ListN.{length, take, drop}
use lib.Seq.{slice}
use Rattle.text.specs.Tokens.{tokens}
use Rattle.text.specs.declared.tokens.Next.{Next}
use Rattle.text.specs.declared.tokens.Next.TheVariants.{Open, Close, Word}
use Rattle.text.specs.Scanning.{Found, begins_word, begins_closing}
use Rattle.text.specs.Words.{begins_with_letter}
use Rattle.text.proofs.Slices.{part_slice}
use Rattle.text.proofs.TokenLaws.{word-le}
use Rattle.formulas.specs.Sentence.{Sentence, depth_of}
use Rattle.formulas.specs.Keyword.{node_of, NodeFound}
use Rattle.formulas.specs.Items.{prepend, Item, with_form, items_of}
use Rattle.formulas.specs.declared.formula.Head.{Head}
use Rattle.formulas.specs.declared.formula.Head.TheVariants.{Name, Form}
use Rattle.formulas.specs.declared.formula.Parse.{Parse}
use Rattle.formulas.specs.Parsing.{size_of, begins_formula, NameAt, FormAt, HeadAt, FormulaAt, Parsed}
use Rattle.formulas.specs.Parsing.{closed_among, Closed}
use Rattle.formulas.proofs.Keywords.{node_ge}
use Rattle.formulas.proofs.Sentences.{depth-le-size}
use Rattle.formulas.proofs.Reading.{items_closing, items_name, items_word, items_form}
use Rattle.formulas.proofs.FirstItem.{unclosed_items, wordless_items}
use Rattle.formulas.proofs.Forms.{closed-among, negation_items, joined_items}
use Rattle.formulas.proofs.Forms.{other_begins, operand_begins, second_begins}

-- a formula's depth is at most the bytes it takes
depth-le-bytes : {l : List ℕ} {at next d : ℕ} → FormulaAt l at next d → at + d ≤ next
depth-le-bytes r = omega (arith, depth-le-size r.sentence, r.room, r.depth_is, r.onward)

-- what was found, by what the answer is
pub found_as : {l : List ℕ} {at : ℕ} {r s : Next} → Found l at r → r ≡ s → Found l at s
found_as t e = subst (Found _ _) e t

head_as : (l : List ℕ) (at : ℕ) {r s : Head} → HeadAt l at (Some r) → r ≡ s → HeadAt l at (Some s)
head_as l at t e = let P : Head → Type 0 = λ h. HeadAt l at (Some h) in subst P e t

-- The ways out of `head_at`

module _ {l : List ℕ} {at : ℕ} {r : Next} (t : Found l at r) where
  module _ {a e : ℕ} (p : r ≡ Word a e) where
    -- by the answer b whether the word is a name, as the code reads it
    module _ {b : Bool} (q : b ≡ begins_with_letter (take (e - a) (drop a l))) where
      lettered : {d : Bool} → b ≡ d → begins_with_letter (slice a e l) ≡ d
      lettered h = sym (rw (part_slice l a e (word-le t p)) at q) ∙ h

      name-head : b ≡ true → NameAt l at a e
      name-head h = let t' = found_as t p in record {
        items_are = rw t'.tokens_are (items_name (tokens (drop e l)) (slice a e l) (lettered h));
        onward = t'.inside.0;
        filled = t'.inside.1;
        within = t'.inside.2;
      }

      word-head : b ≡ false → begins_formula (items_of (tokens (drop at l))) ≡ false
      word-head h = rw ((found_as t p).tokens_are, items_word (tokens (drop e l)) (slice a e l) (lettered h))

      pub name_found : HeadAt l at (then_some b (Name a e))
      name_found = go b refl
        where
          go : (d : Bool) → b ≡ d → HeadAt l at (then_some d (Name a e))
          go true h = name-head h
          go false h = word-head h

  module _ {i : ℕ} (p : r ≡ Open i) where
    pub opening-head : begins_word (tokens (drop i l)) ≡ false → begins_formula (items_of (tokens (drop at l))) ≡ false
    opening-head h = rw ((found_as t p).tokens_are, wordless_items (tokens (drop i l)) h)

    -- by the node of the word behind the bracket, as the code reads it
    module _ {a e : ℕ} (u : Found l i (Word a e)) {x : Option ℕ} (q : NodeFound (take (e - a) (drop a l)) x) where
      form_items : items_of (tokens (drop at l)) ≡ with_form (node_of (slice a e l)) (items_of (tokens (drop e l)))
      form_items = rw ((found_as t p).tokens_are, u.tokens_are) (items_form (tokens (drop e l)) (slice a e l))

      node_found : NodeFound (slice a e l) x
      node_found = rw (part_slice l a e (word-le u refl)) at q

      pub other-head : x ≡ None → begins_formula (items_of (tokens (drop at l))) ≡ false
      other-head h =
          let k : 68 < node_of (slice a e l) = let v = (rw h at node_found).node_is in omega (arith, v) in
          rw form_items (other_begins _ (items_of (tokens (drop e l))) k)

      pub form-head : {k : ℕ} → x ≡ Some k → FormAt l at k e
      form-head h =
          let v = (rw h at node_found).node_is in
          let t' = found_as t p in
          record {
            items_are = rw v.0 form_items;
            low = rw v.0 (node_ge _);
            high = omega (arith, v.1);
            onward = omega (arith, t'.inside.0, u.inside.0, u.inside.1);
            within = u.inside.2;
          }

-- The ways out of `closed_form`

pub closing-closed : {l : List ℕ} {at d next : ℕ} → Found l at (Close next)
    → Closed l at d (Some (record { next = next; depth = d }))
closing-closed {l} {next = next} t = (
  refl,
  record {
    items_are = λ f. rw (t.tokens_are, items_closing) (closed-among f (items_of (tokens (drop next l))));
    onward = t.inside.0;
    within = t.inside.1;
  },
)

pub other-closed : (l : List ℕ) (at d : ℕ) → begins_closing (tokens (drop at l)) ≡ false → Closed l at d None
other-closed l at d h = unclosed_items (tokens (drop at l)) h

-- The ways out of `formula_at`

-- the form f with node k, where its closing bracket is at or behind place j
closed_parsed : {l : List ℕ} {at k e : ℕ} (q : FormAt l at k e) (f : Sentence) (j d : ℕ) (r : Option Parse)
    → Closed l j d r → items_of (tokens (drop at l)) ≡ closed_among f (items_of (tokens (drop j l)))
    → d ≡ depth_of f → e < j → e + 2 * size_of f ≤ j + 4 → Parsed l at r
closed_parsed q f j d None c h eq n m = rw (h, c f)
closed_parsed q f j d (Some p) c h eq n m = record {
  sentence = f;
  items_are = h ∙ c.1.items_are f;
  depth_is = c.0 ∙ eq;
  onward = omega (arith, q.onward, c.1.onward);
  within = c.1.within;
  room = omega (arith, q.onward, c.1.onward);
}

pub no_head_parsed : (l : List ℕ) (at : ℕ) {h : Option Head} → HeadAt l at h → h ≡ None
    → begins_formula (items_of (tokens (drop at l))) ≡ false
no_head_parsed l at t p = let n : HeadAt l at None = subst (HeadAt l at) p t in n

module _ (l : List ℕ) (at : ℕ) {h : Head} (t : HeadAt l at (Some h)) where
  pub name_parsed : {a e : ℕ} → h ≡ Name a e → FormulaAt l at e 1
  unfolding depth_of size_of
  name_parsed {a} {e} p = let n = head_as l at t p in record {
    sentence = Sentence.name (slice a e l);
    items_are = n.items_are;
    depth_is = refl;
    onward = omega (arith, n.onward, n.filled);
    within = n.within;
    room = omega (arith, n.onward, n.filled);
  }

  -- a form with node k
  module _ {k e : ℕ} (p : h ≡ Form k e) where
    form : FormAt l at k e
    form = head_as l at t p

    pub operand_parsed : begins_formula (items_of (tokens (drop e l))) ≡ false
        → begins_formula (items_of (tokens (drop at l))) ≡ false
    operand_parsed q = rw form.items_are (operand_begins k (items_of (tokens (drop e l))) q)

    -- its first operand
    module _ {j d : ℕ} (first : FormulaAt l e j d) where
      pub first-depth : {m : ℕ} → length l < m → d + 1 < m
      first-depth less = omega (arith, depth-le-bytes first, form.onward, first.within)

      pub negation_parsed : (s : Option Parse) → k ≡ 64 → Closed l j (d + 1) s → Parsed l at s
      unfolding depth_of size_of
      negation_parsed s z c =
          closed_parsed form (Sentence.negation first.sentence) j (d + 1) s c
          (form.items_are ∙ ap (with_form k) first.items_are
          ∙ negation_items k first.sentence (items_of (tokens (drop j l))) z)
          (omega (arith, first.depth_is)) first.onward (omega (arith, first.room))

      -- and its second operand
      module _ (n : k ≡ 64 → ⊥) where
        pub second_parsed : begins_formula (items_of (tokens (drop j l))) ≡ false
            → begins_formula (items_of (tokens (drop at l))) ≡ false
        second_parsed z =
            rw (form.items_are, first.items_are)
            (second_begins k first.sentence (items_of (tokens (drop j l))) n z)

        module _ {i d' m : ℕ} (second : FormulaAt l j i d') (em : m ≡ max d d') where
          pub second-depth : {n : ℕ} → length l < n → m + 1 < n
          second-depth less =
              omega (arith, depth-le-bytes first, depth-le-bytes second, form.onward, first.within, second.within)

          pub joined_parsed : (x : Option Parse) → Closed l i (m + 1) x → Parsed l at x
          unfolding depth_of size_of
          joined_parsed x c =
              closed_parsed form (Sentence.joined k first.sentence second.sentence) i (m + 1) x c
              (form.items_are ∙ ap (with_form k) (first.items_are
              ∙ ap (prepend (Item.formula first.sentence)) second.items_are)
              ∙ joined_items k first.sentence second.sentence (items_of (tokens (drop i l))) form.high n)
              (omega (arith, first.depth_is, second.depth_is)) (omega (arith, first.onward, second.onward))
              (omega (arith, first.room, second.room))
