-- Writing a formula from a place of the nodes on: the room for its parts, and what writing them leaves.
-- Assumes nothing.
use mathlib.Core.Path.{◌≡◌}
use mathlib.Core.List.{List, [], ◌∷◌, ◌++◌}
use Prim.Native.Nat.{ℕ, ◌+◌, ◌*◌, ◌-◌, ◌≤◌, ◌<◌}
use native.Mathlib.Omega.{arith}
use lib.ListN.{length, get_or, drop}
use borrow.Rule.Slice.PartMut.{mid_of}
use Rattle.logic.specs.Nodes.{Spelling, spelled, formula_of}
use Rattle.logic.proofs.Spelling.{Front}
use Rattle.program.specs.Case.{part_size, nodes_of}
use Rattle.program.proofs.Soundness.{nodes-lent}
use Rattle.text.specs.Spelled.{text_of}
use Rattle.text.specs.Tokens.{Token}
use Rattle.formulas.specs.Sentence.{tokens_of}
use Rattle.names.specs.Row.{name_in}
use Rattle.output.specs.Writing.{Room}
use Rattle.spelling.specs.declared.Pen.{Pen}
use Rattle.spelling.specs.declared.Page.{Page}
use Rattle.spelling.specs.Pen.{inked, Spells}
use Rattle.spelling.specs.Page.{Sets}
use Rattle.spelling.proofs.Pens.{spells-both, room-before, room-behind}
use Rattle.writing.specs.declared.formula.Step.{Step}
use Rattle.writing.specs.Lines.{decoded, query_line, line_text}
use Rattle.writing.specs.Steps.{FormulaRoom, FormulaWritten}
use Rattle.writing.proofs.Parts.{opener, closer, tokens, formula-within, formula-front}
use Rattle.writing.proofs.Parts.{FormParts, name-parts, not-parts, form-parts, some-parts}

pub last-node : (k : ℕ) → 64 ≤ k → k ≤ 68 → (k ≡ 64 → ⊥) → (k ≡ 65 → ⊥) → (k ≡ 66 → ⊥) → (k ≡ 67 → ⊥) → k ≡ 68
last-node k lo hi a b c d = omega arith

-- the word of the node j, where the node k is j
module _ (j k : ℕ) (p : Pen) (e : k ≡ j) where
  pub form-word-room : (64 ≤ k) × (k ≤ 68) × Room (inked p (opener k)) p.at → Room (inked p (opener j)) p.at
  form-word-room h = rw (← e) h.2

  pub form-word-written : {r : Pen} {out out₁ : List ℕ} → Spells (opener j) out p r out₁
      → Spells (opener k) out p r out₁
  form-word-written h = rw e h

-- ---- a formula that begins at a place of the nodes, with room for its text
module _ {name : ℕ → List ℕ} {ks : List ℕ} {at : ℕ} {p : Pen} (h : FormulaRoom name ks at p) where
  abbrev node : ℕ
  node = get_or ks at 0

  room-front : Front node (spelled (drop (at + 1) ks)) (h.formula ∷ h.rest)
  room-front = formula-front ks at h.spelling_is

  room_as : (ts : List Token) → tokens name h.formula ≡ ts → Room (inked p ts) p.at
  room_as ts e = rw (← e) h.room

  pub place-within : at < length ks
  place-within = formula-within ks at h.spelling_is

  pub name-room : node < 64 → Room (inked p (Token.word (name node) ∷ [])) p.at
  name-room l = room_as _ (name-parts name l room-front).1

  pub word_room : 64 ≤ node → (64 ≤ node) × (node ≤ 68) × Room (inked p (opener node)) p.at
  word_room l =
      let i = some-parts name l room-front in
      (l, i.below, room-before (opener node) _ p (room_as _ i.tokens_are))

  module _ {q : Pen} {out out₁ : List ℕ} (w : Spells (opener node) out p q out₁) where
    pub operand-room : 64 ≤ node → FormulaRoom name ks (at + 1) q
    operand-room l =
        let i = some-parts name l room-front in
        record {
          formula = i.first;
          rest = i.others;
          spelling_is = i.spelling_is;
          room = room-before (tokens name i.first) _ q (room-behind w _ (room_as _ i.tokens_are));
        }

    module _ {a : Step} {out₂ : List ℕ} (x : FormulaWritten name ks (at + 1) out₁ q a out₂) where
      pub not-room : node ≡ 64 → Room (inked a.pen closer) a.pen.at
      not-room l =
          let i = not-parts name l room-front in
          room-behind (x.spells i.operand h.rest i.spelling_is) closer
          (room-behind w _ (room_as _ i.tokens_are))

      right-room : (i : FormParts name node (spelled (drop (at + 1) ks)) h.formula h.rest)
          → Room (inked a.pen (tokens name i.right ++ closer)) a.pen.at
      right-room i =
          room-behind (x.spells i.left (i.right ∷ h.rest) i.spelling_is) _
          (room-behind w _ (room_as _ i.tokens_are))

      pub second-room : 65 ≤ node → FormulaRoom name ks a.next a.pen
      second-room l =
          let i = form-parts name l room-front in
          record {
            formula = i.right;
            rest = h.rest;
            spelling_is = x.rest-is i.left (i.right ∷ h.rest) i.spelling_is;
            room = room-before (tokens name i.right) closer a.pen (right-room i);
          }

      module _ {b : Step} {out₃ : List ℕ} (y : FormulaWritten name ks a.next out₂ a.pen b out₃) where
        pub form-room : 65 ≤ node → Room (inked b.pen closer) b.pen.at
        form-room l =
            let i = form-parts name l room-front in
            let e = x.rest-is i.left (i.right ∷ h.rest) i.spelling_is in
            room-behind (y.spells i.right h.rest e) closer (right-room i)

-- ---- a formula that was written from a place of the nodes on
module _ {name : ℕ → List ℕ} {ks : List ℕ} {at : ℕ} {p : Pen} (h : FormulaRoom name ks at p) {out : List ℕ} where
  pub name-written : get_or ks at 0 < 64 → {r : Pen} {out₁ : List ℕ}
      → Spells (Token.word (name (get_or ks at 0)) ∷ []) out p r out₁
      → FormulaWritten name ks at out p (record { pen = r; next = at + 1 }) out₁
  name-written l k = record {
    onward = omega arith;
    within = omega (arith, place-within h);
    spells = λ f fs e. rw (name-parts name l (formula-front ks at e)).1 k;
    rest-is = λ f fs e. (name-parts name l (formula-front ks at e)).0;
  }

  module _ {q : Pen} {out₁ : List ℕ} (w : Spells (opener (get_or ks at 0)) out p q out₁) {a : Step} {out₂ : List ℕ}
      (x : FormulaWritten name ks (at + 1) out₁ q a out₂) where
    pub not_written : get_or ks at 0 ≡ 64 → {r : Pen} {out₃ : List ℕ} → Spells closer out₂ a.pen r out₃
        → FormulaWritten name ks at out p (record { pen = r; next = a.next }) out₃
    not_written l {r} {out₃} k = record {
      onward = omega (arith, x.onward);
      within = x.within;
      spells = λ f fs e.
          let i = not-parts name l (formula-front ks at e) in
          rw i.tokens_are
          (spells-both w _ (spells-both (x.spells i.operand fs i.spelling_is) closer k));
      rest-is = λ f fs e.
          let i = not-parts name l (formula-front ks at e) in x.rest-is i.operand fs i.spelling_is;
    }

    module _ {b : Step} {out₃ : List ℕ} (y : FormulaWritten name ks a.next out₂ a.pen b out₃) where
      pub form-written : 65 ≤ get_or ks at 0 → {r : Pen} {out₄ : List ℕ} → Spells closer out₃ b.pen r out₄
          → FormulaWritten name ks at out p (record { pen = r; next = b.next }) out₄
      form-written l {r} {out₄} k = record {
        onward = omega (arith, x.onward, y.onward);
        within = y.within;
        spells = λ f fs e.
            let i = form-parts name l (formula-front ks at e) in
            let e' = x.rest-is i.left (i.right ∷ fs) i.spelling_is in
            rw i.tokens_are
            (spells-both w _ (spells-both (x.spells i.left (i.right ∷ fs) i.spelling_is) _
            (spells-both (y.spells i.right fs e') closer k)));
        rest-is = λ f fs e.
            let i = form-parts name l (formula-front ks at e) in
            y.rest-is i.right fs (x.rest-is i.left (i.right ∷ fs) i.spelling_is);
      }

-- ---- the one formula that nodes are
module _ (name : ℕ → List ℕ) (ks : List ℕ) (one : spelled ks ≡ Spelling.formulas (formula_of ks ∷ [])) (p : Pen) where
  pub one-room : Room (inked p (tokens_of (decoded name (formula_of ks)))) p.at → FormulaRoom name ks 0 p
  one-room h = record { formula = formula_of ks; rest = []; spelling_is = one; room = h }

  pub one_written : {out out₁ : List ℕ} {r : Step} → FormulaWritten name ks 0 out p r out₁
      → Spells (tokens_of (decoded name (formula_of ks))) out p r.pen out₁
  one_written h = h.spells (formula_of ks) [] one

-- ---- the part of the formula table that is lent for formula q
module _ (ns fo : List ℕ) (q : ℕ) where
  abbrev lent_nodes : List ℕ
  lent_nodes = mid_of (part_size * q) (part_size * q + get_or ns q 0 - part_size * q) fo

  pub lent_one : spelled (nodes_of ns fo q) ≡ Spelling.formulas (formula_of (nodes_of ns fo q) ∷ [])
      → spelled lent_nodes ≡ Spelling.formulas (formula_of lent_nodes ∷ [])
  lent_one e = rw (nodes-lent ns fo q) e

  module _ (na : List ℕ) where
    pub lent-room : {at : ℕ}
        → Room (text_of (line_text (query_line (name_in na) (formula_of (nodes_of ns fo q))) ∷ [])) at
        → Room (text_of (line_text (query_line (name_in na) (formula_of lent_nodes)) ∷ [])) at
    lent-room h = rw (nodes-lent ns fo q) h

    pub lent_written : {out out₁ : List ℕ} {g r : Page}
        → Sets (line_text (query_line (name_in na) (formula_of lent_nodes)) ∷ []) out g r out₁
        → Sets (line_text (query_line (name_in na) (formula_of (nodes_of ns fo q))) ∷ []) out g r out₁
    lent_written h = rw (nodes-lent ns fo q) at h
