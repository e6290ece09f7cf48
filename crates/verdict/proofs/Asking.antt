-- The queries that counts still ask: they are formulas of the table, and there are no more of them with one minimal
-- explanation more. Assumes nothing.
use mathlib.Core.Path.{◌≡◌, sym, ap, ◌∙◌}
use mathlib.Core.Bool.{Bool, true, false, ◌&&◌, ◌||◌, false≢true}
use mathlib.Core.List.{List}
use mathlib.Core.Logic.{⊎_elim}
use Prim.Native.Nat.{ℕ, ◌≤◌, ◌<◌}
use native.Mathlib.Omega.{arith}
use lib.Bits.{bit_or}
use lib.ListN.{get_or}
use Rattle.words.specs.Bits.{has, word}
use Rattle.words.specs.OneBit.{BitOf}
use Rattle.words.proofs.Tests.{Gives, or_gives, and_true_l, lt-or-le}
use Rattle.words.proofs.Bits.{has-or, has_above}
use Rattle.words.proofs.Words.{has_word, word_lt}
use Rattle.logic.specs.declared.value.Value.{Value}
use Rattle.logic.specs.Nodes.{one_formula}
use Rattle.program.specs.Case.{part_size, nodes_of}
use Rattle.program.specs.Sound.{sound_formula}
use Rattle.program.proofs.Soundness.{formula-few, formula-one}
use Rattle.explanation.specs.Judge.{Judge}
use Rattle.verdict.specs.declared.counts.Counts.{Counts}
use Rattle.verdict.specs.Counting.{counts_with, Counted}
use Rattle.verdict.specs.Lane.{Askable}

-- the queries that are asked, true under each or false under each
abbrev pub asked : Counts → ℕ
asked k = bit_or k.follows k.denied

module _ {ns fo : List ℕ} {k : Counts} (h : Askable ns fo k) where
  -- ---- one of them
  module _ {q : ℕ} (b : BitOf (asked k) q) where
    pub asked-nodes : get_or ns q 0 ≤ part_size
    asked-nodes = formula-few h.atoms ns fo q (h.asked-sound q b)

    pub asked-formula : one_formula h.atoms (nodes_of ns fo q) ≡ true
    asked-formula = formula-one h.atoms ns fo q (h.asked-sound q b)

  -- ---- one explanation more
  pub askable-next : (v : ℕ → Value) → Askable ns fo (counts_with k v)
  askable-next v = record {
    atoms = h.atoms;
    asked-few = λ q b. h.asked-few q (before b);
    asked-sound = λ q b. h.asked-sound q (before b);
  }
    where
      fewer : (w q : ℕ) (t : ℕ → Bool) → q < 64 → Gives (has (word 64 (λ p. has w p && t p)) q) (has w q)
      fewer w q t l e = and_true_l (has w q) (t q) (sym (has_word 64 (λ p. has w p && t p) q l) ∙ e)

      before : {q : ℕ} → BitOf (asked (counts_with k v)) q → BitOf (asked k) q
      before {q} b = record {
        small = b.small;
        there = has-or k.follows k.denied q
            ∙ or_gives (fewer k.follows q _ b.small) (fewer k.denied q _ b.small)
            (sym (has-or _ _ q) ∙ b.there);
      }

-- ---- the queries of counts are those of the judge
module _ {J : Judge} {cs : List ℕ} {s : ℕ} {k : Counts} (h : Counted J cs s k) where
  past : (q : ℕ) → J.queries ≤ q → (p : ℕ → Bool) → has (word J.queries p) q ≡ false
  past q l p = has_above J.queries (word J.queries p) q (word_lt J.queries p) l

  none-past : (q : ℕ) → J.queries ≤ q → has (asked k) q ≡ false
  none-past q l =
      has-or k.follows k.denied q
      ∙ ap (λ (w : ℕ). has w q || has k.denied q) h.follows_are
      ∙ ap (λ (b : Bool). b || has k.denied q) (past q l _)
      ∙ ap (λ (w : ℕ). has w q) h.denied_are
      ∙ past q l _

  asked-below : (q : ℕ) → has (asked k) q ≡ true → q < J.queries
  asked-below q e =
      ⊎_elim (λ (l : q < J.queries). l) (λ (l : J.queries ≤ q). absurd (false≢true (sym (none-past q l) ∙ e)))
      (lt-or-le q J.queries)

  pub askable-counted : (a : ℕ) (ns fo : List ℕ) → J.queries ≤ 16
      → ((q : ℕ) → q < J.queries → sound_formula a ns fo q ≡ true) → Askable ns fo k
  askable-counted a ns fo few each = record {
    atoms = a;
    asked-few = λ q b. omega (arith, asked-below q b.there);
    asked-sound = λ q b. each q (asked-below q b.there);
  }
