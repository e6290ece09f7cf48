-- The walk, 64 settings at a time: its start, a block and its end. In a block each lane has what its setting settles
-- to; so the lanes that explain are those of the judge, the row tells which have a proper subset that explains, the
-- block's rounds and decided atoms are summed, and its minimal settings are those the cheapest is chosen from.
-- Assumes nothing.
use mathlib.Core.Path.{◌≡◌, refl, sym, ap, ap₂, subst, ◌∙◌}
use mathlib.Core.Bool.{true}
use mathlib.Core.List.{List, ◌++◌}
use Prim.Native.Nat.{ℕ, ◌+◌, ◌-◌, ◌*◌, ◌≤◌, ◌<◌, min}
use native.Mathlib.Omega.{arith}
use lib.ListN.{length, get_or}
use Rattle.std.specs.Prelude.{Option, None}
use Rattle.words.specs.Below.{sum}
use Rattle.words.specs.Bits.{has}
use Rattle.words.specs.OneBit.{BitOf}
use Rattle.words.proofs.Sums.{sum-none, sum-append, sum-le}
use Rattle.logic.specs.declared.interpretation.Interpretation.{Interpretation}
use Rattle.logic.specs.Interpretation.{value_at, Disjoint}
use Rattle.program.specs.declared.case.Case.{Case}
use Rattle.program.specs.declared.cause.Additions.{Additions}
use Rattle.program.specs.Program.{Clause, program_with}
use Rattle.program.specs.declared.cause.Causes.{Causes}
use Rattle.program.specs.Cause.{causes_of}
use Rattle.program.specs.Setting.{choices_of, settings_of, additions_of}
use Rattle.program.specs.Sound.{sound}
use Rattle.program.proofs.Soundness.{sound-formulas, sound-each}
use Rattle.program.proofs.Soundness.{sound-settings}
use Rattle.settle.specs.declared.settle.Settled.{Settled}
use Rattle.settle.specs.Rounds.{settled}
use Rattle.settle.proofs.Reached.{settled_good}
use Rattle.planes.specs.Planes.{column, Planes}
use Rattle.planes.specs.Fill.{Filled}
use Rattle.lanes.specs.declared.rounds.Sums.{Sums}
use Rattle.lanes.specs.Rounds.{added_in, Settles}
use Rattle.lanes.proofs.Additions.{settles_filled}
use Rattle.explanation.specs.Explanation.{explains_under}
use Rattle.explanation.specs.Judge.{Judge, judge_of}
use Rattle.explanation.specs.Covering.{Weights}
use Rattle.explanation.specs.Row.{CoveredRow, Block, Covers}
use Rattle.explanation.proofs.Dropping.{additions_start}
use Rattle.explanation.proofs.Explaining.{set-explains}
use Rattle.explanation.proofs.Weighing.{weights_low}
use Rattle.cost.specs.declared.cheapest.Cheapest.{Cheapest}
use Rattle.cost.specs.declared.cheapest.Minimals.{Minimals}
use Rattle.cost.specs.Cost.{cost_under}
use Rattle.cost.specs.Cheapest.{Chosen}
use Rattle.cost.specs.Block.{lane_settings, MinimalIn}
use Rattle.verdict.specs.declared.visit.Found.{Found}
use Rattle.walk.specs.declared.walk.Tally.{Tally}
use Rattle.verdict.specs.Walk.{minimals_below}
use Rattle.verdict.specs.Counting.{no_counts}
use Rattle.verdict.specs.Lane.{query_under, Room, Seen}
use Rattle.verdict.specs.Visited.{Visited}
use Rattle.walk.specs.Walking.{AtHand, Walked}
use Rattle.walk.proofs.Bounds.{rounds-few, decided-few}
use Rattle.walk.proofs.MinimalLanes.{minimals-block}
use Rattle.verdict.proofs.Counting.{minimals-none, minimals-le, counted_none, counted-few}
use Rattle.verdict.proofs.Asking.{askable-counted}
use Rattle.verdict.proofs.Leaving.{left-start, work_kept, written-free}

-- nothing is found for n queries yet
abbrev pub none_found : ℕ → Tally
none_found n = record {
  found = record { counts = no_counts n; written = 0 };
  sums = record { rounds = 0; decided = 0 };
  cheapest = None;
}

-- those of r and d together
abbrev pub both : Sums → Sums → Sums
both r d = record { rounds = r.rounds + d.rounds; decided = r.decided + d.decided }

-- the case is sound, its causes and the number of its settings are at hand, and the work area is enough
pub record Bounded (c : Case) (cl co fo : List ℕ) (causes : Causes) (end : ℕ) (work : List ℕ) : Type 0 where
  pub is-sound : sound c cl co fo ≡ true
  pub causes_are : causes ≡ causes_of c cl
  pub end_is : end ≡ settings_of (causes_of c cl)
  pub work_long : end ≤ length work

pub bounded : {c : Case} {cl co fo : List ℕ} {heads : ℕ} {causes : Causes} {end : ℕ} {work : List ℕ}
    → AtHand c cl co fo heads causes → end ≡ settings_of (causes_of c cl) → end ≤ length work
    → Bounded c cl co fo causes end work
bounded h e l = record { is-sound = h.is-sound; causes_are = h.causes_are; end_is = e; work_long = l }

-- the walk before block k
pub record Walking (c : Case) (cl co fo pr : List ℕ) (causes : Causes) (end : ℕ)
    (list₀ work₀ list work row : List ℕ) (t : Tally) (added : Additions) (k : ℕ) : Type 0 where
  pub added_is : added ≡ additions_of causes (64 * k)
  pub covered : CoveredRow (judge_of c cl co fo).explains (choices_of causes) (min (64 * k) end) row
  pub walked : Walked (judge_of c cl co fo) (cost_under pr causes) (choices_of causes) list₀ work₀ (min (64 * k) end) t
      list work

module _ {c : Case} {cl co fo : List ℕ} {causes : Causes} {end : ℕ} {work₀ : List ℕ}
    (g : Bounded c cl co fo causes end work₀) where
  abbrev J : Judge
  J = judge_of c cl co fo

  abbrev cs : List ℕ
  cs = choices_of causes

  end_is : end ≡ settings_of causes
  end_is = g.end_is ∙ ap settings_of (sym g.causes_are)

  pub end-few : end ≤ 59049
  end-few = omega (arith, g.end_is, sound-settings c cl co fo g.is-sound)

  pub weights_few : (weights : List ℕ) → Weights causes weights → (a : ℕ) → BitOf causes.all a
      → 2 * get_or weights a 0 ≤ 59072
  weights_few weights w = weights_low causes weights w (omega (arith, end_is, end-few))

  start : 0 ≡ min (64 * 0) end
  start = omega arith

  -- the minimal settings below n
  abbrev minimals : ℕ → List ℕ
  minimals n = minimals_below J cs n

  pub walking_start : {pr list₀ : List ℕ} (row : List ℕ)
      → Walking c cl co fo pr causes end list₀ work₀ list₀ work₀ row (none_found c.formulas)
      (record { facts = 0; assumptions = 0 }) 0
  walking_start {pr} {list₀} row = record {
    added_is = additions_start causes;
    covered = λ s l. absurd (omega arith);
    walked = subst
        (λ (n : ℕ). Walked J (cost_under pr causes) cs list₀ work₀ n (none_found c.formulas) list₀ work₀) start
        (record {
          visited = record { counted = counted_none J cs; left = left-start J cs list₀ work₀ };
          summed = record { rounds_are = sym (sum-none _); decided_are = sym (sum-none _) };
          chosen = rw (minimals-none J cs) refl;
        });
  }

  module _ {pr list₀ list work row : List ℕ} {r : Tally} {added : Additions} {k : ℕ}
      (w : Walking c cl co fo pr causes end list₀ work₀ list work row r added k) where
    -- the setting of the block's first lane, and the row's word of the block
    abbrev s : ℕ
    s = 64 * k

    abbrev b : ℕ
    b = 923 + k

    pub walking_work : length work ≡ length work₀
    walking_work = work_kept w.walked.visited.left (omega (arith, g.work_long))

    -- ---- a block
    module _ (l : s < end) where
      here : min s end ≡ s
      here = omega arith

      pub word-inside : b < 1846
      word-inside = omega (arith, end-few)

      standing : Walked J (cost_under pr causes) cs list₀ work₀ s r list work
      standing = subst (λ (n : ℕ). Walked J (cost_under pr causes) cs list₀ work₀ n r list work) here w.walked

      pub walking_room : Room c.nodes fo s r.found list
      walking_room = record {
        free = written-free standing.visited.left;
        few = counted-few standing.visited.counted;
        listed_few = omega (arith, standing.visited.left.written_is, minimals-le J cs s);
        askable = askable-counted standing.visited.counted c.atoms c.nodes fo
            (sound-formulas c cl co fo g.is-sound).1 (sound-each c cl co fo g.is-sound);
      }

      -- the first m lanes are those of settings, and d has the sums over them
      module _ {m : ℕ} {d : Sums} {t u x y : List ℕ} (em : m ≡ min 64 (end - s)) (ex : Filled causes s x y)
          (vl : Settles cl c.clauses (added_in x y) m t u d) where
        v : Settles cl c.clauses (λ j. additions_of causes (s + j)) m t u d
        v = settles_filled ex cl c.clauses (omega (arith, em)) vl

        -- the case with what setting s + j adds, were i the causes
        abbrev program : Causes → ℕ → List Clause
        program i j = program_with cl c.clauses (additions_of i (s + j))

        lane_is : (j : ℕ) → j < 64 → column t u j ≡ (settled (program (causes_of c cl) j)).interpretation
        lane_is j q =
            v.columns_are j q ∙ ap (λ (i : Causes). (settled (program i j)).interpretation) g.causes_are

        pub lanes_planes : Planes t u
        lanes_planes j q =
            subst (λ (i : Interpretation). Disjoint i) (sym (v.columns_are j q))
            (settled_good (program_with cl c.clauses (additions_of causes (s + j)))).disjoint

        -- what h takes of each settled setting of the block, summed
        block-sum : (h : Settled → ℕ) → sum m (λ j. h (settled (program causes j)))
            ≡ sum m (λ j. h (settled (program (causes_of c cl) j)))
        block-sum h = ap (λ (i : Causes). sum m (λ j. h (settled (program i j)))) g.causes_are

        rounds-block : d.rounds ≡ sum m (λ j. J.rounds (s + j))
        rounds-block = v.rounds_are ∙ block-sum (λ (x : Settled). x.rounds)

        decided-block : d.decided ≡ sum m (λ j. J.decided (s + j))
        decided-block = v.decided_are ∙ block-sum (λ (x : Settled). x.decided)

        -- h is what is summed, i its sum over the settings before, and n that over the block
        module _ (h : ℕ → ℕ) {i n : ℕ} (below : i ≡ sum s h) (block : n ≡ sum m (λ j. h (s + j))) where
          sum_fits : ((j : ℕ) → h j ≤ 64) → i + n ≤ 8000000
          sum_fits few =
              omega (
                arith,
                end-few,
                sum-le s 64 h (λ j q. few j),
                sum-le m 64 (λ j. h (s + j)) (λ j q. few (s + j)),
              )

          sum-next : i + n ≡ sum (min (64 * (k + 1)) end) h
          sum-next =
              let z : s + m ≡ min (64 * (k + 1)) end = omega arith in
              ap₂ ◌+◌ below block ∙ sum-append s m h ∙ ap (λ (j : ℕ). sum j h) z

        pub rounds_fit : r.sums.rounds + d.rounds ≤ 8000000
        rounds_fit =
            sum_fits J.rounds standing.summed.rounds_are rounds-block (rounds-few c cl co fo g.is-sound)

        pub decided_fit : r.sums.decided + d.decided ≤ 8000000
        decided_fit =
            sum_fits J.decided standing.summed.decided_are decided-block (decided-few c cl co fo g.is-sound)

        -- e has the lanes that explain, larger those of which a proper subset explains
        module _ {e larger : ℕ} {weights row₁ : List ℕ} (ew : Weights causes weights)
            (ee : (j : ℕ) → j < 64 → has e j ≡ explains_under c co (value_at (column t u j)))
            (el : Covers row b e causes weights x y row₁ larger) where
          explains-is : (j : ℕ) → j < 64 → has e j ≡ J.explains (s + j)
          explains-is j q =
              ee j q
              ∙ ap (λ (i : Interpretation). explains_under c co (value_at i)) (lane_is j q)
              ∙ sym (set-explains c cl co (additions_of (causes_of c cl) (s + j)))

          block : Block J.explains s b e causes weights x y row
          block = record {
            place_is = omega arith;
            filled = ex;
            weights_are = ew;
            explains = λ j q z. explains-is j q;
            covered = subst (λ (n : ℕ). CoveredRow J.explains cs n row) here w.covered;
          }

          seen : Seen J cs c.nodes fo e larger t u m s
          seen = record {
            tells = λ j q. record {
              explains-is = explains-is j (omega arith);
              queries-few = (sound-formulas c cl co fo g.is-sound).1;
              values_are = λ k.
                  ap (λ (i : Interpretation). query_under i c.nodes fo k) (lane_is j (omega arith));
            };
            larger_is = λ j q. el.larger_is J.explains s block j (omega arith) (omega (arith, end_is));
          }

          -- ms are the minimal settings of the block, and best the cheapest with them
          chosen-next : {ms : Minimals} {best : Option Cheapest} → MinimalIn e larger m s ms
              → ((i : Causes) (l : List ℕ) → Filled i ms.first x y → Chosen (cost_under pr i) l r.cheapest
              → Chosen (cost_under pr i) (l ++ lane_settings ms) best)
              → Chosen (cost_under pr causes) (minimals (s + m)) best
          chosen-next {ms} {best} p choose =
              subst (λ (l : List ℕ). Chosen (cost_under pr causes) l best) (sym (minimals-block seen (omega arith) p))
              (choose causes (minimals s) (subst (λ (n : ℕ). Filled causes n x y) (sym p.first-is) ex) standing.chosen)

          pub walking_next : {next : Additions} {f : Found} {list₁ work₁ : List ℕ} {ms : Minimals}
              {best : Option Cheapest}
              → next ≡ additions_of causes (s + 64)
              → ((J : Judge) (cs ls ws : List ℕ) → Seen J cs c.nodes fo e larger t u m s
              → Visited J cs ls ws s r.found list work → Visited J cs ls ws (s + m) f list₁ work₁)
              → MinimalIn e larger m s ms
              → ((i : Causes) (l : List ℕ) → Filled i ms.first x y → Chosen (cost_under pr i) l r.cheapest
              → Chosen (cost_under pr i) (l ++ lane_settings ms) best)
              → Walking c cl co fo pr causes end list₀ work₀ list₁ work₁ row₁
              (record { found = f; sums = both r.sums d; cheapest = best }) next (k + 1)
          walking_next {next} {f} {list₁} {work₁} {ms} {best} n step p choose =
              let z : s + m ≡ min (64 * (k + 1)) end = omega arith in
              let q : min (s + 64) (settings_of causes) ≡ min (64 * (k + 1)) end = omega (arith, end_is) in
              let a : s + 64 ≡ 64 * (k + 1) = omega arith in
              record {
                added_is = n ∙ ap (additions_of causes) a;
                covered = subst (λ (i : ℕ). CoveredRow J.explains cs i row₁) q (el.covered J.explains s block);
                walked = record {
                  visited = subst (λ (i : ℕ). Visited J cs list₀ work₀ i f list₁ work₁) z
                      (step J cs list₀ work₀ seen standing.visited);
                  summed = record {
                    rounds_are = sum-next J.rounds standing.summed.rounds_are rounds-block;
                    decided_are = sum-next J.decided standing.summed.decided_are decided-block;
                  };
                  chosen = subst (λ (i : ℕ). Chosen (cost_under pr causes) (minimals i) best) z (chosen-next p choose);
                };
              }
