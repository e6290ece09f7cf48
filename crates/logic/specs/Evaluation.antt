-- What reading one formula from a place of the nodes finds: its value or its depth, and the place behind it.
--
--   ReadsValue v s x t          the first formula of the spelling s, if there is one, is worth x, and t is the rest
--   Evaluated v ks at x next    so of the formulas from place at of the nodes, and of those from place next
--   Unread ks at                no formula stands at place at of the nodes
--   shallow n s                 s has a first formula, over the atoms below n and of depth at most 16
--   ReadsFormula n s d t        s is a formula of depth d over the atoms below n in front of the rest t
--   Measured n ks at d next     so from the places at and next of the nodes, and d is at most 16
--   Unmeasured n ks at          no such formula stands at place at of the nodes
use Rattle.std.specs.Prelude.{◌≡◌, Bool, true, false, ◌&&◌, List, [], ◌∷◌, ℕ, ◌≤◌, leb, length, drop}
use Rattle.logic.specs.declared.value.Value.{Value}
use Rattle.logic.specs.Formula.{Formula, value_of, depth, over}
use Rattle.logic.specs.Nodes.{Spelling, spelled}

pub record ReadsValue (v : ℕ → Value) (s : Spelling) (x : Value) (t : Spelling) : Type 0 where
  pub value-is : (f : Formula) (fs : List Formula) → s ≡ Spelling.formulas (f ∷ fs) → x ≡ value_of v f
  pub rest-is : (f : Formula) (fs : List Formula) → s ≡ Spelling.formulas (f ∷ fs) → t ≡ Spelling.formulas fs

pub record Evaluated (v : ℕ → Value) (ks : List ℕ) (at : ℕ) (x : Value) (next : ℕ) : Type 0 where
  pub onward : at ≤ next
  pub within : next ≤ length ks
  pub reads : ReadsValue v (spelled (drop at ks)) x (spelled (drop next ks))

abbrev pub Unread : List ℕ → ℕ → Type 0
Unread ks at = (f : Formula) (fs : List Formula) → spelled (drop at ks) ≡ Spelling.formulas (f ∷ fs) → ⊥

abbrev pub shallow : ℕ → Spelling → Bool
shallow n Spelling.none = false
shallow n (Spelling.formulas []) = false
shallow n (Spelling.formulas (f ∷ fs)) = over n f && leb (depth f) 16

-- the formula f in front of those of a spelling
abbrev pub with_first : Formula → Spelling → Spelling
with_first f Spelling.none = Spelling.none
with_first f (Spelling.formulas fs) = Spelling.formulas (f ∷ fs)

pub record ReadsFormula (n : ℕ) (s : Spelling) (d : ℕ) (t : Spelling) : Type 0 where
  pub formula : Formula
  pub spelling_is : s ≡ with_first formula t
  pub depth_is : d ≡ depth formula
  pub over-is : over n formula ≡ true

pub record Measured (n : ℕ) (ks : List ℕ) (at d next : ℕ) : Type 0 where
  pub onward : at ≤ next
  pub within : next ≤ length ks
  pub few : d ≤ 16
  pub reads : ReadsFormula n (spelled (drop at ks)) d (spelled (drop next ks))

abbrev pub Unmeasured : ℕ → List ℕ → ℕ → Type 0
Unmeasured n ks at = shallow n (spelled (drop at ks)) ≡ false
