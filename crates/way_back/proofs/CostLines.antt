-- The lines of costs are read as these costs. Assumes nothing.
use mathlib.Core.Path.{◌≡◌, ap, ◌∙◌}
use mathlib.Core.Bool.{true, false}
use mathlib.Core.List.{List, [], ◌∷◌, ◌++◌, map}
use Prim.Native.Nat.{ℕ, ◌≤◌}
use native.Mathlib.Omega.{arith}
use lib.ListN.{length}
use Rattle.logic.specs.Formula.{Formula}
use Rattle.text.specs.Numbers.{number_of, is_number}
use Rattle.text.proofs.Each.{Each}
use Rattle.text.proofs.NumberLaws.{digits_number}
use Rattle.grammar.specs.Line.{is_line, line_names}
use Rattle.grammar.specs.Bringing.{brings, pricing}
use Rattle.grammar.proofs.LineLaws.{numbers_are_line}
use Rattle.store.specs.Prices.{CostRow, has_cost}
use Rattle.store.specs.Saying.{ClauseRow, ConstraintRow, Said, said, cost_row, is_second_cost}
use Rattle.store.proofs.Saying.{cost-said, cost-second}
use Rattle.checks.proofs.Naming.{name-lettered}
use Rattle.output.specs.Decimal.{decimal}
use Rattle.output.proofs.Decimals.{decimal-some, decimal-short}
use Rattle.output.proofs.Theorems.{decimal-exact}
use Rattle.writing.specs.Lines.{cost_line}
use Rattle.writing.proofs.Costs.{CostFormed, Fresh}
use Rattle.way_back.proofs.Fits.{RoomFor}
use Rattle.way_back.proofs.FittingLines.{Reads, Step, segment, Written}
use Rattle.way_back.proofs.KnownNames.{NamedBy, Usable, usable, known-says, known-fits, price-alone}

-- ---- a price of at most 2,000,000 in decimal
module _ (n : ℕ) (h : n ≤ 2000000) where
  number-back : number_of (decimal n) ≡ n
  number-back = (decimal-exact n (omega arith)).stands_for

  is-number : is_number (decimal n) ≡ true
  is-number =
      digits_number (decimal n) (decimal-some n) (decimal-short 6 n (omega arith))
      (decimal-exact n (omega arith)).are_digits

zero-back : number_of (decimal 0) ≡ 0
zero-back = number-back 0 (omega arith)

module _ (ns : List (List ℕ)) (name : ℕ → List ℕ) (h : NamedBy ns name) where
  module _ (r : CostRow) (f : CostFormed (length ns) r) where
    cost-usable : Each (Usable ns) (line_names (cost_line name r))
    cost-usable = (usable ns name h r.atom f.atom-lt, tt)

    cost-back : cost_row ns (name r.atom) (decimal r.price) (decimal 0) ≡ r
    cost-back = rw (
      h.finds r.atom f.atom-lt,
      number-back r.price f.price-few,
      zero-back,
      price-alone r.price,
    )

    cost-is-line : is_line (cost_line name r) ≡ true
    cost-is-line =
        numbers_are_line (name r.atom) (decimal r.price) (decimal 0)
        ∙ rw (
          name-lettered (name r.atom) cost-usable.0.0,
          is-number r.price f.price-few,
          is-number 0 (omega arith),
        )

    cost-brings : brings (cost_line name r) ≡ pricing r.price 0
    cost-brings = rw (number-back r.price f.price-few, zero-back)

  abbrev pub CostWritten : CostRow → Type 0
  CostWritten r = Written (cost_line name) (CostFormed (length ns)) r

  abbrev Ready : List CostRow → List CostRow → Type 0
  Ready done rest = Each CostWritten rest × Fresh done rest

  module _ (es : List ℕ) (es-few : length es ≤ 1) (cs : List ClauseRow) (cs-few : length cs ≤ 256)
      (ds : List ConstraintRow) (ds-few : length ds ≤ 32) (p q : ℕ) (fs : List Formula) (fs-few : length fs ≤ 16) where
    abbrev with_costs : List CostRow → Said
    with_costs ks = said ns cs ds p q fs ks es

    module _ (done : List CostRow) (r : CostRow) (f : CostFormed (length ns) r)
        (fresh : has_cost done r.atom ≡ false) where
      not-again : is_second_cost (with_costs done) (cost_line name r) ≡ false
      not-again =
          cost-second (with_costs done) (name r.atom) (decimal r.price) (decimal 0)
          ∙ ap (has_cost done) (h.finds r.atom f.atom-lt) ∙ fresh

      cost-room : RoomFor (with_costs done) (is_second_cost (with_costs done) (cost_line name r)) (pricing r.price 0)
      cost-room = record {
        names-few = h.few;
        clauses-few = omega arith;
        constraints-few = omega arith;
        price-few = f.price-few;
        worked_out_few = rw (price-alone r.price) f.price-few;
        supplement-few = omega arith;
        not-second = not-again;
        queries-few = omega arith;
      }

    cost_step : (done : List CostRow) (r : CostRow) (rest : List CostRow) → Ready done (r ∷ rest)
        → Step (cost_line name) with_costs Ready done r rest
    cost_step done r rest y =
        let f = y.0.0.0 in
        let u = cost-usable r f in
        let st = with_costs done in
        record {
          fits = known-fits st (cost_line name r) u (cost-is-line r f) y.0.0.1 (omega arith)
              (rw (cost-brings r f) (cost-room done r f y.1.0)) (omega arith);
          says = known-says st (cost_line name r) u
              ∙ cost-said st (name r.atom) (decimal r.price) (decimal 0)
              ∙ ap (λ k. with_costs (done ++ (k ∷ []))) (cost-back r f);
          on = (y.0.1, y.1.1);
        }

    pub costs-read : (ks : List CostRow) → Each CostWritten ks → Fresh [] ks
        → Reads (said ns cs ds p q fs [] es) (map (cost_line name) ks) (said ns cs ds p q fs ks es)
    costs-read ks e f = segment (cost_line name) with_costs Ready cost_step ks (e, f)
