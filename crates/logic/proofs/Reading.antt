-- Reading a formula from a place of the nodes: one law for each way out of `eval`, `measure` and `one_formula`.
-- Assumes nothing.
use mathlib.Core.Path.{◌≡◌, refl, sym, ◌∙◌}
use mathlib.Core.List.{List, [], ◌∷◌}
use mathlib.Core.Bool.{Bool, true, false}
use mathlib.Core.Logic.{⊎_elim}
use Prim.Native.Nat.{ℕ, ◌+◌, ◌-◌, ◌≤◌, ◌<◌, max}
use native.Mathlib.Numerals.{add-one}
use native.Mathlib.Omega.{arith}
use lib.Dec.{eqb}
use lib.ListN.{length, drop, get_or, drop_of_length-le, length-drop}
use lib.Seq.{drop-cons}
use borrow.Author.Tests.{lt-ltb, le-leb, eqb-true, eqb-false}
use Rattle.words.proofs.Tests.{lt-or-le}
use Rattle.logic.specs.declared.value.Value.{Value}
use Rattle.logic.specs.Value.{negated}
use Rattle.logic.specs.Formula.{Formula, value_of, depth, over}
use Rattle.logic.specs.Nodes.{Spelling, spelled, with_node, joined, single, one_formula}
use Rattle.logic.specs.Evaluation.{Evaluated, Unread, shallow, with_first, ReadsFormula, Measured, Unmeasured}
use Rattle.logic.proofs.Spelling.{with-name, with-not, with-form, Front, front, joined-over, joined-depth}
use Rattle.logic.proofs.Spelling.{name-value, not-value, form-value, high_none, operand_none, second_none}
use Rattle.logic.proofs.Spelling.{shallow_deep, shallow-high, shallow-outside, shallow-operand, shallow-second}

module _ (ks : List ℕ) (at : ℕ) where
  -- the formulas from a place on: its node, in front of those behind it
  spelled_at : at < length ks → spelled (drop at ks) ≡ with_node (get_or ks at 0) (spelled (drop (at + 1) ks))
  unfolding spelled
  spelled_at h = rw (add-one, drop-cons ks at 0)

  spelled-end : length ks ≤ at → spelled (drop at ks) ≡ Spelling.formulas []
  unfolding spelled
  spelled-end h = rw (drop_of_length-le ks h)

-- The ways out of `eval`

no_front : (k : ℕ) (s : Spelling) → Front k s [] → ⊥
no_front k s (Front.of_name gs h es ef) = let z : ◌≡◌ {A = ℕ} 0 1 = cc in omega arith
no_front k s (Front.of_not g gs h es ef) = let z : ◌≡◌ {A = ℕ} 0 1 = cc in omega arith
no_front k s (Front.of_form g g' gs lo hi es ef) = let z : ◌≡◌ {A = ℕ} 0 1 = cc in omega arith

module _ (ks : List ℕ) (at : ℕ) where
  end_unread : length ks ≤ at → Unread ks at
  end_unread l f fs e = let q = spelled-end ks at l in let z : ◌≡◌ {A = ℕ} 0 1 = cc in omega arith

  module _ (h : at < length ks) where
    high_unread : 68 < get_or ks at 0 → Unread ks at
    high_unread l f fs e = high_none (get_or ks at 0) _ l (sym (spelled_at ks at h) ∙ e)

    pub operand_unread : 64 ≤ get_or ks at 0 → Unread ks (at + 1) → Unread ks at
    operand_unread l r f fs e = operand_none (get_or ks at 0) _ l r (sym (spelled_at ks at h) ∙ e)

-- no node stands there
pub node_unread : (ks : List ℕ) (at : ℕ) → (at < length ks → 68 < get_or ks at 0) → Unread ks at
node_unread ks at h =
    ⊎_elim (λ (l : at < length ks). high_unread ks at l (h l)) (λ (l : length ks ≤ at). end_unread ks at l)
    (lt-or-le at (length ks))

module _ (v : ℕ → Value) (ks : List ℕ) (at : ℕ) where
  pub name_evaluated : (x : Value) → at < length ks → get_or ks at 0 < 64 → x ≡ v (get_or ks at 0)
      → Evaluated v ks at x (at + 1)
  name_evaluated x h l e = record {
    onward = omega arith;
    within = omega arith;
    reads = rw (spelled_at ks at h) (name-value v (get_or ks at 0) _ x l e);
  }

  module _ (x : Value) (m : ℕ) (h : at < length ks) (r : Evaluated v ks (at + 1) x m) where
    pub not_evaluated : (y : Value) → get_or ks at 0 ≡ 64 → y ≡ negated x → Evaluated v ks at y m
    not_evaluated y l e = record {
      onward = omega arith;
      within = omega arith;
      reads = rw (spelled_at ks at h) (not-value v (get_or ks at 0) _ x y _ l r.reads e);
    }

    pub second_unread : 65 ≤ get_or ks at 0 → Unread ks m → Unread ks at
    second_unread l r' f fs e =
        second_none v (get_or ks at 0) _ x _ l r.reads r' (sym (spelled_at ks at h) ∙ e)

    pub form_evaluated : (y z : Value) (next p : ℕ) → get_or ks at 0 ≡ 65 + p → Evaluated v ks m y next
        → ((f g : Formula) → x ≡ value_of v f → y ≡ value_of v g → z ≡ value_of v (joined p f g))
        → Evaluated v ks at z next
    form_evaluated y z next p l r' e = record {
      onward = omega arith;
      within = omega arith;
      reads =
          let q : get_or ks at 0 - 65 ≡ p = omega arith in
          rw (spelled_at ks at h) (form-value v (get_or ks at 0) _ x y z _ _ (omega arith) r.reads r'.reads (rw q e));
    }

-- The ways out of `measure`

module _ (n : ℕ) (ks : List ℕ) (at : ℕ) where
  end_unmeasured : length ks ≤ at → Unmeasured n ks at
  end_unmeasured l = rw (spelled-end ks at l)

  module _ (h : at < length ks) where
    high_unmeasured : 68 < get_or ks at 0 → Unmeasured n ks at
    high_unmeasured l = rw (spelled_at ks at h) (shallow-high n (get_or ks at 0) _ l)

    pub name_measured : get_or ks at 0 < 64 → get_or ks at 0 < n → Measured n ks at 1 (at + 1)
    unfolding depth over
    name_measured l q = record {
      onward = omega arith;
      within = omega arith;
      few = omega arith;
      reads = record {
        formula = Formula.atom (get_or ks at 0);
        spelling_is = spelled_at ks at h ∙ with-name (get_or ks at 0) _ l;
        depth_is = refl;
        over-is = lt-ltb (get_or ks at 0) n q;
      };
    }

    pub outside_unmeasured : get_or ks at 0 < 64 → n ≤ get_or ks at 0 → Unmeasured n ks at
    outside_unmeasured l q = rw (spelled_at ks at h) (shallow-outside n (get_or ks at 0) _ l q)

    pub operand_unmeasured : 64 ≤ get_or ks at 0 → Unmeasured n ks (at + 1) → Unmeasured n ks at
    operand_unmeasured l r = rw (spelled_at ks at h) (shallow-operand n (get_or ks at 0) _ l r)

  -- no node stands there
  pub node_unmeasured : (at < length ks → 68 < get_or ks at 0) → Unmeasured n ks at
  node_unmeasured h =
      ⊎_elim (λ (l : at < length ks). high_unmeasured l (h l)) end_unmeasured (lt-or-le at (length ks))

  module _ (d m : ℕ) (h : at < length ks) (r : Measured n ks (at + 1) d m) where
    -- the negation of the formula read
    module _ (l : get_or ks at 0 ≡ 64) where
      not_read : spelled (drop at ks) ≡ with_first (Formula.negation r.reads.formula) (spelled (drop m ks))
      not_read =
          spelled_at ks at h ∙ rw (l, r.reads.spelling_is) (with-not r.reads.formula (spelled (drop m ks)))

      pub not_measured : d < 16 → Measured n ks at (d + 1) m
      unfolding depth over
      not_measured q = record {
        onward = omega arith;
        within = omega arith;
        few = omega arith;
        reads = record {
          formula = Formula.negation r.reads.formula;
          spelling_is = not_read;
          depth_is = omega (arith, r.reads.depth_is);
          over-is = r.reads.over-is;
        };
      }

      pub not_unmeasured : 16 ≤ d → Unmeasured n ks at
      unfolding depth
      not_unmeasured q =
          rw not_read (shallow_deep n (Formula.negation r.reads.formula) _ (omega (arith, r.reads.depth_is)))

    pub second_unmeasured : 65 ≤ get_or ks at 0 → Unmeasured n ks m → Unmeasured n ks at
    second_unmeasured l r' =
        rw (spelled_at ks at h)
        (shallow-second n (get_or ks at 0) _ r.reads.formula (spelled (drop m ks)) l r.reads.spelling_is r')

    -- the form of the two formulas read
    module _ (e next p : ℕ) (l : get_or ks at 0 ≡ 65 + p) (l' : p ≤ 3) (r' : Measured n ks m e next) where
      abbrev form_read : Formula
      form_read = joined p r.reads.formula r'.reads.formula

      form_depth : depth form_read ≡ 1 + max d e
      form_depth =
          joined-depth p r.reads.formula r'.reads.formula
          ∙ rw (r.reads.depth_is, r'.reads.depth_is)

      form_spelled : spelled (drop at ks) ≡ with_first form_read (spelled (drop next ks))
      form_spelled =
          let q : get_or ks at 0 - 65 ≡ p = omega arith in
          spelled_at ks at h
          ∙ rw (r.reads.spelling_is, r'.reads.spelling_is)
          (with-form (get_or ks at 0) r.reads.formula r'.reads.formula (spelled (drop next ks)) (omega arith)
          (omega arith)
          ∙ rw q)

      pub form_measured : {z : ℕ} → z ≡ max d e → z < 16 → Measured n ks at (z + 1) next
      form_measured ez q = record {
        onward = omega arith;
        within = omega arith;
        few = omega arith;
        reads = record {
          formula = form_read;
          spelling_is = form_spelled;
          depth_is = omega (arith, form_depth, ez);
          over-is = joined-over n p r.reads.formula r'.reads.formula ∙ rw (r.reads.over-is, r'.reads.over-is);
        };
      }

      pub form_unmeasured : {z : ℕ} → z ≡ max d e → 16 ≤ z → Unmeasured n ks at
      form_unmeasured ez q = rw form_spelled (shallow_deep n form_read _ (omega (arith, form_depth, ez)))

-- The ways out of `one_formula`

single_deep : (n : ℕ) (s : Spelling) → shallow n s ≡ false → single n s ≡ false
single_deep n Spelling.none e = refl
single_deep n (Spelling.formulas []) e = refl
single_deep n (Spelling.formulas (f ∷ [])) e = e
single_deep n (Spelling.formulas (f ∷ (g ∷ fs))) e = refl

single_more : (n : ℕ) (f : Formula) (t : Spelling) → (t ≡ Spelling.formulas [] → ⊥) → single n (with_first f t) ≡ false
single_more n f Spelling.none h = refl
single_more n f (Spelling.formulas []) h = absurd (h refl)
single_more n f (Spelling.formulas (g ∷ gs)) h = refl

-- some nodes are at least one formula, or spell none
some-spelled : (ks : List ℕ) → 0 < length ks → spelled ks ≡ Spelling.formulas [] → ⊥
unfolding spelled
some-spelled [] h e = omega arith
some-spelled (k ∷ ks) h e = no_front k (spelled ks) (front k (spelled ks) [] e)

pub unmeasured_none : (n : ℕ) (ks : List ℕ) → Unmeasured n ks 0 → false ≡ one_formula n ks
unfolding one_formula
unmeasured_none n ks e = sym (single_deep n (spelled ks) e)

pub whole_one : (n : ℕ) (ks : List ℕ) (d next : ℕ) → Measured n ks 0 d next → eqb next (length ks) ≡ one_formula n ks
unfolding one_formula
whole_one n ks d next r = go (eqb next (length ks)) refl r.reads
  where
    go : (a : Bool) → eqb next (length ks) ≡ a → ReadsFormula n (spelled ks) d (spelled (drop next ks))
        → a ≡ single n (spelled ks)
    go true ea i =
        let s = spelled-end ks next (omega (arith, eqb-true next (length ks) ea)) in
        let q = r.few in
        sym (rw (i.spelling_is, s, i.over-is) (le-leb (depth i.formula) 16 (omega (arith, i.depth_is))))
    go false ea i = sym (rw i.spelling_is (single_more n i.formula (spelled (drop next ks))
        (some-spelled (drop next ks) (rw length-drop (omega (arith, eqb-false next (length ks) ea))))))
