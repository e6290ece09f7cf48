-- The number of a line's refusal by the checks 6, 7 and 20 and by those from 8 to 10, one law for each way out of
-- `text_refusal`, `price_fits` and `room_refusal`.
--
--   cost_checks q s b   the checks 16, 17 and 10
--   Roomy n cl co b     there is room for names, clauses and constraints
-- Assumes nothing.
use mathlib.Core.Path.{◌≡◌, sym, ◌∙◌}
use mathlib.Core.Bool.{Bool, true, false, not, and-true, and-false}
use mathlib.Core.List.{List, [], ◌∷◌}
use Prim.Native.Nat.{ℕ, ◌+◌, ◌-◌, ◌≤◌, ◌<◌}
use native.Mathlib.Omega.{arith}
use lib.Dec.{leb}
use borrow.Author.Tests.{le-leb, lt-leb}
use Rattle.words.specs.Choice.{Check, check, first_failed}
use Rattle.grammar.specs.declared.brings.Brings.{Brings}
use Rattle.names.specs.Names.{some_long}
use Rattle.store.specs.Prices.{price_of}
use Rattle.checks.specs.Checks.{price_fits, text_checks, room_checks}

abbrev cost_checks : ℕ → Bool → Brings → List Check
cost_checks q s b =
    check 16 (price_fits b.price b.supplement)
    ∷ check 17 (not s)
    ∷ check 10 (leb (q + b.queries) 16)
    ∷ []

-- 6, 7 and 20, where t tells whether a name is long
module _ (ws : List (List ℕ)) (b : Brings) {t : Bool} (e : t ≡ some_long ws) where
  pub long-refused : t ≡ true → 6 ≡ first_failed (text_checks ws b)
  long-refused h = rw (sym e ∙ h)

  module _ (h : t ≡ false) where
    pub deep_refused : 16 < b.depth → 7 ≡ first_failed (text_checks ws b)
    deep_refused k = rw (sym e ∙ h, lt-leb _ _ k)

    module _ (k : b.depth ≤ 16) where
      pub literals-refused : 11 < b.literals → 20 ≡ first_failed (text_checks ws b)
      literals-refused m = rw (sym e ∙ h, le-leb _ _ k, lt-leb _ _ m)

      pub text-passed : b.literals ≤ 11 → 0 ≡ first_failed (text_checks ws b)
      text-passed m = rw (sym e ∙ h, le-leb _ _ k, le-leb _ _ m)

-- 16
module _ (p s : ℕ) where
  pub price-high : 2000000 < p → false ≡ price_fits p s
  price-high h = rw (lt-leb p 2000000 h)

  pub supplement-high : 100 < s → false ≡ price_fits p s
  supplement-high h = rw (lt-leb s 100 h, and-false)

  pub price-judged : p ≤ 2000000 → s ≤ 100 → leb (price_of p s) 2000000 ≡ price_fits p s
  price-judged h k = rw (le-leb p 2000000 h, le-leb s 100 k, and-true)

pub record Roomy (n cl co : ℕ) (b : Brings) : Type 0 where
  pub names_fit : n ≤ 64
  pub clauses_fit : cl + b.clauses ≤ 256
  pub constraints_fit : co + b.constraints ≤ 32

pub roomy : {n cl co : ℕ} {b : Brings} → n ≤ 64 → cl ≤ 256 → b.clauses ≤ 256 - cl → co ≤ 32
    → b.constraints ≤ 32 - co → Roomy n cl co b
roomy h m i o j = record { names_fit = h; clauses_fit = omega arith; constraints_fit = omega arith }

-- from 8 to 10, where s tells whether the line is a second cost
module _ (n cl co q : ℕ) (s : Bool) (b : Brings) where
  pub names-refused : 64 < n → 8 ≡ first_failed (room_checks n cl co q s b)
  names-refused h = rw (lt-leb n 64 h)

  module _ (h : n ≤ 64) where
    pub clauses-refused : 256 - cl < b.clauses → 9 ≡ first_failed (room_checks n cl co q s b)
    clauses-refused i = rw (le-leb n 64 h, lt-leb (cl + b.clauses) 256 (omega arith))

    module _ (m : cl ≤ 256) (i : b.clauses ≤ 256 - cl) where
      pub constraints-refused : 32 - co < b.constraints → 9 ≡ first_failed (room_checks n cl co q s b)
      constraints-refused j =
          rw (le-leb n 64 h, le-leb (cl + b.clauses) 256 (omega arith), lt-leb (co + b.constraints) 32 (omega arith))

  module _ (h : Roomy n cl co b) where
    rest-is : first_failed (room_checks n cl co q s b) ≡ first_failed (cost_checks q s b)
    rest-is = rw (
      le-leb n 64 h.names_fit,
      le-leb (cl + b.clauses) 256 h.clauses_fit,
      le-leb (co + b.constraints) 32 h.constraints_fit,
    )

    pub price-refused : price_fits b.price b.supplement ≡ false → 16 ≡ first_failed (room_checks n cl co q s b)
    price-refused k = sym (rest-is ∙ rw k)

    module _ (k : price_fits b.price b.supplement ≡ true) where
      pub second-refused : s ≡ true → 17 ≡ first_failed (room_checks n cl co q s b)
      second-refused e = sym (rest-is ∙ rw (k, e))

      module _ (e : s ≡ false) (few : q ≤ 16) where
        pub query-refused : 16 - q < b.queries → 10 ≡ first_failed (room_checks n cl co q s b)
        query-refused u = sym (rest-is ∙ rw (k, e, lt-leb (q + b.queries) 16 (omega arith)))

        pub room-passed : b.queries ≤ 16 - q → 0 ≡ first_failed (room_checks n cl co q s b)
        room-passed u = sym (rest-is ∙ rw (k, e, le-leb (q + b.queries) 16 (omega arith)))
