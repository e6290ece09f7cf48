-- Tables of which only entries within their sizes change keep their lengths; tables zeroed in their sizes hold nothing.
--
--   SameLengths t u    the tables u are as long as t
-- Assumes nothing.
use mathlib.Core.Path.{◌≡◌, refl, sym, ap, ◌∙◌}
use mathlib.Core.List.{[]}
use native.Mathlib.Omega.{arith}
use lib.ListN.{length}
use Rattle.table.proofs.Kept.{kept-length}
use Rattle.names.specs.Names.{rows_of}
use Rattle.names.specs.Held.{AllNamed}
use Rattle.store.specs.Lent.{Lent, lent, filled_with}
use Rattle.store.specs.Saying.{nothing_said}
use Rattle.store.specs.Tables.{clause_words, constraint_words, formula_parts, words_of, case_said}
use Rattle.store.specs.Held.{Long, Limits, Held, Kept}
use Rattle.store.proofs.FilledLent.{lent_same, filled_with-again}
use Rattle.store.proofs.Prices.{no_prices}

pub record SameLengths (t u : Lent) : Type 0 where
  pub clauses-same : length u.clauses ≡ length t.clauses
  pub constraints-same : length u.constraints ≡ length t.constraints
  pub formula-same : length u.formula ≡ length t.formula
  pub names_same : length u.names ≡ length t.names
  pub prices-same : length u.prices ≡ length t.prices

pub kept_lengths : (t u : Lent) → Kept t u → SameLengths t u
kept_lengths t u k = record {
  clauses-same = kept-length _ t.clauses (ap (λ (x : Lent). x.clauses) k);
  constraints-same = kept-length _ t.constraints (ap (λ (x : Lent). x.constraints) k);
  formula-same = kept-length _ t.formula (ap (λ (x : Lent). x.formula) k);
  names_same = kept-length _ t.names (ap (λ (x : Lent). x.names) k);
  prices-same = kept-length _ t.prices (ap (λ (x : Lent). x.prices) k);
}

pub kept-long : (t u : Lent) → Kept t u → Long t → Long u
kept-long t u k l =
    let s = kept_lengths t u k in
    record {
      clauses-long = omega arith;
      constraints-long = omega arith;
      formula-long = omega arith;
      names-long = omega arith;
      prices-long = omega arith;
    }

-- Nothing

-- tables zeroed in their sizes are filled with nothing
pub nothing-filled : (t : Lent) → filled_with (lent [] [] [] [] []) t ≡ filled_with (words_of nothing_said) t
unfolding clause_words constraint_words formula_parts rows_of
nothing-filled t = lent_same refl refl refl refl (no_prices t.prices)

nothing-limits : Limits nothing_said
nothing-limits = record {
  clauses-few = omega arith;
  constraints-few = omega arith;
  queries-few = omega arith;
  query-atoms = omega arith;
}

pub nothing-held : (t u : Lent) → u ≡ filled_with (words_of nothing_said) t
    → Held nothing_said (case_said nothing_said) u
nothing-held t u e = record {
  limits = nothing-limits;
  case-is = refl;
  all_named = AllNamed.none;
  few-names = omega arith;
  tables_are = e ∙ sym (ap (filled_with _) e ∙ filled_with-again _ _ t);
}
