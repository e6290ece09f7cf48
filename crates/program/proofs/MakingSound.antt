-- What makes a case sound, phrase by phrase; and that the first words of a table's clauses decide its causes.
-- Assumes nothing.
use mathlib.Core.Path.{◌≡◌, sym, ap, ap₂, ◌∙◌}
use mathlib.Core.Bool.{Bool, true, false, not, ◌&&◌}
use mathlib.Core.List.{List}
use Prim.Native.Nat.{ℕ, ◌+◌, ◌*◌, ◌/◌, ◌%◌, ◌^◌, ◌≤◌, ◌<◌}
use native.Mathlib.Omega.{arith}
use lib.Dec.{eqb}
use lib.ListN.{length, get_or}
use borrow.Author.Tests.{lt-ltb, le-leb}
use Rattle.words.proofs.Below.{any_ext, every_true}
use Rattle.words.proofs.Words.{word_ext}
use Rattle.program.specs.declared.case.Case.{Case}
use Rattle.logic.specs.Nodes.{one_formula}
use Rattle.program.specs.Case.{clause_size, constraint_size, formula_size, part_size, tables_full, nodes_of}
use Rattle.program.specs.Program.{heads_of}
use Rattle.program.specs.Cause.{firmly_headed, assumed_only, causes_in}
use Rattle.program.specs.Sound.{is_edition, limits_hold, within, bare, shaped, sound_clause, sound_clauses}
use Rattle.program.specs.Sound.{sound_constraint, sound_constraints, few_settings, sound_formula, sound_formulas}
use Rattle.program.proofs.Soundness.{clause_test, constraint_test, formula-fits}

pub tables-full : (cl co fo : List ℕ) → clause_size ≤ length cl → constraint_size ≤ length co → formula_size ≤ length fo
    → tables_full cl co fo ≡ true
unfolding tables_full
tables-full cl co fo a b c = rw (le-leb clause_size _ a, le-leb constraint_size _ b) (le-leb formula_size _ c)

pub limits-hold : (c : Case) → 1 ≤ c.atoms → c.atoms ≤ 64 → c.clauses ≤ 256 → c.constraints ≤ 32
    → 1 ≤ c.formulas → c.formulas ≤ 16 → is_edition c.edition ≡ true → limits_hold c ≡ true
unfolding limits_hold
limits-hold c i a l o s f e =
    rw (le-leb 1 c.atoms i, le-leb _ 64 a, le-leb _ 256 l, le-leb _ 32 o, le-leb 1 c.formulas s, le-leb _ 16 f) e

pub within-below : (n p q : ℕ) → p < 2 ^ n → q < 2 ^ n → within n p q ≡ true
unfolding within
within-below n p q h k = rw (lt-ltb p (2 ^ n) h) (lt-ltb q (2 ^ n) k)

pub clause-passes : (n a k p q : ℕ) → n ≤ 64 → a < n → within n p q ≡ true → shaped k (bare p q) ≡ true
    → sound_clause n (a + 64 * k) p q ≡ true
unfolding sound_clause
clause-passes n a k p q l h w s =
    let e : (a + 64 * k) % 64 ≡ a = omega arith in
    let f : (a + 64 * k) / 64 ≡ k = omega arith in
    rw (e, f, lt-ltb a n h, w) s

pub clauses-pass : (n m : ℕ) (cl : List ℕ) → ((k : ℕ) → k < m → clause_test n cl k ≡ true) → sound_clauses n cl m ≡ true
unfolding sound_clauses
clauses-pass n m cl h = every_true m _ h

pub constraint-passes : (n p q k : ℕ) → within n p q ≡ true → bare p q ≡ false → k < 2 → sound_constraint n p q k ≡ true
unfolding sound_constraint
constraint-passes n p q k w b l = rw (w, b) (lt-ltb k 2 l)

pub constraints-pass : (n m : ℕ) (co : List ℕ) → ((k : ℕ) → k < m → constraint_test n co k ≡ true)
    → sound_constraints n co m ≡ true
unfolding sound_constraints
constraints-pass n m co h = every_true m _ h

pub formula-passes : (n : ℕ) (ns fo : List ℕ) (q : ℕ) → get_or ns q 0 ≤ part_size
    → one_formula n (nodes_of ns fo q) ≡ true
    → sound_formula n ns fo q ≡ true
formula-passes n ns fo q l e = sym (formula-fits n ns fo q l) ∙ e

pub formulas-pass : (n m : ℕ) (ns fo : List ℕ) → ((q : ℕ) → q < m → sound_formula n ns fo q ≡ true)
    → sound_formulas n ns fo m ≡ true
unfolding sound_formulas
formulas-pass n m ns fo h = every_true m _ h

module _ (cl dl : List ℕ) (m : ℕ) (e : (k : ℕ) → k < m → get_or cl (3 * k) 0 ≡ get_or dl (3 * k) 0) where
  heads_ext : heads_of cl m ≡ heads_of dl m
  unfolding heads_of
  heads_ext = word_ext 64 _ _ (λ a _. any_ext m _ _ (λ k h. ap (λ (x : ℕ). eqb a (x % 64)) (e k h)))

  firmly_ext : (a : ℕ) → firmly_headed cl m a ≡ firmly_headed dl m a
  firmly_ext a =
      any_ext m _ _ (λ k h. ap (λ (x : ℕ). eqb a (x % 64) && not (eqb (x / 64) 1)) (e k h))

  assumed_ext : assumed_only cl m ≡ assumed_only dl m
  unfolding assumed_only
  assumed_ext =
      word_ext 64 _ _
      (λ a _. ap₂ (λ (b d : Bool). b && not d) (any_ext m _ _ (λ k h. ap (λ (x : ℕ). eqb a (x % 64)) (e k h)))
      (firmly_ext a))

  pub few-settings_ext : (i n : ℕ) → few_settings i n cl m ≡ few_settings i n dl m
  unfolding few_settings causes_in
  few-settings_ext i n = rw (heads_ext, assumed_ext)
