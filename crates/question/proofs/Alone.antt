-- A query in a case of its own: the case is sound, the same settings explain, and the query has the same value under
-- each. Assumes nothing.
use mathlib.Core.Path.{◌≡◌, refl, sym, ap, ap₂, ◌∙◌}
use mathlib.Core.Bool.{true}
use mathlib.Core.List.{List, [], ◌∷◌}
use Prim.Native.Nat.{ℕ, ◌-◌, ◌≤◌, ◌<◌}
use native.Mathlib.Omega.{arith}
use lib.ListN.{length, get_or, take}
use lib.Seq.{take_at}
use Rattle.words.specs.Below.{sum}
use Rattle.logic.specs.Formula.{Formula, value_of}
use Rattle.logic.specs.Nodes.{one_formula, formula_of}
use Rattle.program.specs.declared.case.Case.{Case}
use Rattle.program.specs.Case.{formula_size, part_size, tables_full, nodes_of}
use Rattle.program.specs.Program.{program_with}
use Rattle.program.specs.declared.cause.Causes.{Causes}
use Rattle.program.specs.Cause.{causes_of}
use Rattle.program.specs.Setting.{choices_of, settings_of, additions_of}
use Rattle.program.specs.Sound.{limits_hold, sound, sound_formula}
use Rattle.program.proofs.Causes.{causes_alike}
use Rattle.program.proofs.MakingSound.{tables-full, limits-hold, formula-passes, formulas-pass}
use Rattle.program.proofs.Soundness.{full-clauses, full-constraints, full-formula, formula-few, formula-one}
use Rattle.program.proofs.Soundness.{nodes-length, nodes-first, sound-full, sound-atoms, sound-clauses}
use Rattle.program.proofs.Soundness.{sound-constraints, sound-formulas, sound-each, sound-clause-table}
use Rattle.program.proofs.Soundness.{sound-constraint-table, sound-within, sound-few, sound-edition, sound-rest}
use Rattle.settle.specs.declared.settle.Settled.{Settled}
use Rattle.settle.specs.Rounds.{settled}
use Rattle.settle.specs.Operation.{program_of}
use Rattle.table.specs.Filled.{padded}
use Rattle.table.proofs.Filled.{padded-length, padded-at, padded-split}
use Rattle.explanation.specs.Explanation.{settled_with}
use Rattle.explanation.specs.Judge.{Judge, judge_of}
use Rattle.explanation.proofs.Minimal.{explains_alike}
use Rattle.verdict.specs.declared.verdict.Verdict.{Verdict}
use Rattle.verdict.specs.Walk.{minimals_below}
use Rattle.verdict.proofs.Counting.{minimals_alike}
use Rattle.verdict.proofs.Verdicts.{verdict_alike, verdicts_one}
use Rattle.question.specs.Operation.{settings_in, minimals_in}
use Rattle.question.specs.Claims.{alone, alone_part, QueryAlone}

-- nodes at the beginning of a table of their own
first-nodes : (l : List ℕ) (n m : ℕ) → length l ≡ n → n ≤ m → nodes_of (padded 16 (n ∷ [])) (padded m l) 0 ≡ l
first-nodes l n m e h =
    nodes-first (padded 16 (n ∷ [])) (padded m l)
    ∙ ap (λ (k : ℕ). take k (padded m l)) (padded-at 16 (n ∷ []) 0 (omega arith))
    ∙ ap (take n) (padded-split m l (omega arith))
    ∙ take_at l (padded (m - length l) []) n e

module _ (c : Case) (cl co fo : List ℕ) (h : sound c cl co fo ≡ true) (q : ℕ) (l : q < c.formulas) where
  abbrev count : ℕ
  count = get_or c.nodes q 0

  abbrev part : List ℕ
  part = nodes_of c.nodes fo q

  each : sound_formula c.atoms c.nodes fo q ≡ true
  each = sound-each c cl co fo h q l

  few : count ≤ part_size
  few = formula-few c.atoms c.nodes fo q each

  part_length : length part ≡ count
  part_length =
      nodes-length c.nodes fo q
      (omega (arith, few, (sound-formulas c cl co fo h).1, full-formula cl co fo (sound-full c cl co fo h)))

  part-alone : nodes_of (padded 16 (count ∷ [])) (alone_part c fo q) 0 ≡ part
  part-alone = first-nodes part count formula_size part_length (omega (arith, few))

  -- ---- it is sound
  formula-alone : (p : ℕ) → p < 1 → sound_formula c.atoms (padded 16 (count ∷ [])) (alone_part c fo q) p ≡ true
  formula-alone p z =
      let e : p ≡ 0 = omega arith in
      rw e
      (formula-passes c.atoms (padded 16 (count ∷ [])) (alone_part c fo q) 0
      (omega (arith, padded-at 16 (count ∷ []) 0 (omega arith), few))
      (ap (one_formula c.atoms) part-alone ∙ formula-one c.atoms c.nodes fo q each))

  full-alone : tables_full cl co (alone_part c fo q) ≡ true
  full-alone =
      let full = sound-full c cl co fo h in
      tables-full cl co (alone_part c fo q) (full-clauses cl co fo full) (full-constraints cl co fo full)
      (omega (arith, padded-length formula_size part))

  limits-alone : limits_hold (alone c q) ≡ true
  limits-alone =
      let atoms = sound-atoms c cl co fo h in
      limits-hold (alone c q) atoms.0 atoms.1 (sound-clauses c cl co fo h) (sound-constraints c cl co fo h)
      (omega arith) (omega arith) (sound-edition c cl co fo h)

  sound-alone : sound (alone c q) cl co (alone_part c fo q) ≡ true
  sound-alone =
      sym (sound-rest (alone c q) cl co (alone_part c fo q) full-alone limits-alone (sound-clause-table c cl co fo h)
      (sound-constraint-table c cl co fo h) (sound-within c cl co fo h) (sound-few c cl co fo h))
      ∙ formulas-pass c.atoms 1 (padded 16 (count ∷ [])) (alone_part c fo q) formula-alone

  -- ---- its judge says the same
  abbrev J : Judge
  J = judge_of c cl co fo

  abbrev K : Judge
  K = judge_of (alone c q) cl co (alone_part c fo q)

  same_causes : causes_of (alone c q) cl ≡ causes_of c cl
  same_causes = causes_alike (alone c q) c cl refl refl refl

  same-explains : (s : ℕ) → K.explains s ≡ J.explains s
  same-explains s = explains_alike (alone c q) c cl co s refl refl refl refl refl refl

  -- what h takes of each settled setting, summed
  same_sum : (h : Settled → ℕ) → sum (settings_in (alone c q) cl) (λ s. h (settled (program_of (alone c q) cl s)))
      ≡ sum (settings_in c cl) (λ s. h (settled (program_of c cl s)))
  same_sum h =
      ap (λ (w : Causes). sum (settings_of w) (λ s. h (settled (program_with cl c.clauses (additions_of w s)))))
      same_causes

  same-value : (s : ℕ) → K.value 0 s ≡ J.value q s
  same-value s =
      ap₂ (λ (w : Causes) (f : Formula). value_of (settled_with c cl (additions_of w s)) f) same_causes
      (ap formula_of part-alone)

  same-minimals : minimals_in (alone c q) cl co (alone_part c fo q) ≡ minimals_in c cl co fo
  same-minimals =
      ap (λ (w : Causes). minimals_below K (choices_of w) (settings_of w)) same_causes
      ∙ minimals_alike K J same-explains _ _

  pub query-alone : QueryAlone c cl co fo q
  query-alone = record {
    is-sound = sound-alone;
    minimals_are = same-minimals;
    verdict_is = verdicts_one K (minimals_in c cl co fo) refl
        ∙ ap (λ (v : Verdict). v ∷ []) (verdict_alike K J 0 q same-value (minimals_in c cl co fo));
    rounds_are = same_sum (λ (x : Settled). x.rounds);
    decided_are = same_sum (λ (x : Settled). x.decided);
  }
