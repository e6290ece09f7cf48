-- Laws of formulas by a lookup of names: by their form, their nodes, their depth and the atoms they are over.
-- Assumes nothing.
use mathlib.Core.Path.{◌≡◌, refl, ap, ◌∙◌}
use mathlib.Core.Bool.{true}
use mathlib.Core.List.{List}
use Prim.Native.Nat.{ℕ, suc, ◌-◌, ◌<◌}
use native.Mathlib.Omega.{arith}
use lib.ListN.{length}
use borrow.Author.Tests.{lt-ltb}
use Rattle.logic.specs.Formula.{Formula, depth, over}
use Rattle.logic.specs.Nodes.{nodes, joined}
use Rattle.logic.proofs.Spelling.{joined-over, joined-depth}
use Rattle.text.proofs.Each.{Each, each-split}
use Rattle.formulas.specs.Sentence.{Sentence, sentence_names, depth_of}
use Rattle.formulas.specs.Parsing.{size_of}
use Rattle.names.specs.Names.{atom_of}
use Rattle.store.specs.Saying.{encoded_by}
use Rattle.store.proofs.Formulas.{joined_length}

-- the name is found below n; it is one of ns
abbrev pub Below : (List ℕ → ℕ) → ℕ → List ℕ → Type 0
Below at n w = at w < n

abbrev pub Known : List (List ℕ) → List ℕ → Type 0
Known ns w = Below (atom_of ns) (length ns) w

module _ (at : List ℕ → ℕ) where
  pub encoded-name : (w : List ℕ) → encoded_by at (Sentence.name w) ≡ Formula.atom (at w)
  unfolding encoded_by
  encoded-name w = refl

  pub encoded-negation : (f : Sentence) → encoded_by at (Sentence.negation f) ≡ Formula.negation (encoded_by at f)
  unfolding encoded_by
  encoded-negation f = refl

  pub encoded-joined : (k : ℕ) (f g : Sentence)
      → encoded_by at (Sentence.joined k f g) ≡ joined (k - 65) (encoded_by at f) (encoded_by at g)
  unfolding encoded_by
  encoded-joined k f g = refl

  -- the formula has a node for each name and each form
  pub encoded-length : (f : Sentence) → length (nodes (encoded_by at f)) ≡ size_of f
  unfolding encoded_by size_of nodes
  encoded-length (Sentence.name w) = refl
  encoded-length (Sentence.negation f) = ap suc (encoded-length f) ∙ omega arith
  encoded-length (Sentence.joined k f g) =
      rw (joined_length (k - 65) (encoded_by at f) (encoded_by at g), encoded-length f, encoded-length g)

  pub encoded-depth : (f : Sentence) → depth (encoded_by at f) ≡ depth_of f
  unfolding encoded_by depth_of depth
  encoded-depth (Sentence.name w) = refl
  encoded-depth (Sentence.negation f) = rw (encoded-depth f)
  encoded-depth (Sentence.joined k f g) =
      rw (joined-depth (k - 65) (encoded_by at f) (encoded_by at g), encoded-depth f, encoded-depth g)

  -- where each name is found below n, its atom is
  pub encoded-over : (n : ℕ) (f : Sentence) → Each (Below at n) (sentence_names f) → over n (encoded_by at f) ≡ true
  unfolding encoded_by over sentence_names
  encoded-over n (Sentence.name w) h = lt-ltb (at w) n h.0
  encoded-over n (Sentence.negation f) h = encoded-over n f h
  encoded-over n (Sentence.joined k f g) h =
      let d = each-split (Below at n) (sentence_names f) (sentence_names g) h in
      let e = joined-over n (k - 65) (encoded_by at f) (encoded_by at g) in
      rw (e, encoded-over n f d.0, encoded-over n g d.1)
