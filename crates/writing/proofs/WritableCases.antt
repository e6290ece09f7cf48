-- What the tests of a case that is to be written require, where its tables fit. Assumes nothing.
use mathlib.Core.Path.{◌≡◌, sym, ◌∙◌}
use mathlib.Core.Bool.{Bool, true}
use Prim.Native.Nat.{◌≤◌}
use lib.ListN.{length}
use Rattle.program.specs.declared.case.Case.{Case}
use Rattle.program.specs.Case.{name_size, price_size, tables_full}
use Rattle.program.specs.Sound.{sound}
use Rattle.program.proofs.Soundness.{sound-atoms}
use Rattle.program.proofs.MakingSound.{tables-full}
use Rattle.store.specs.Lent.{Lent}
use Rattle.store.specs.Held.{Long}
use Rattle.reader.specs.Operation.{tables_fit}
use Rattle.reader.proofs.EarlyRefusals.{fit_long}

module _ (t : Lent) (fit : tables_fit t ≡ true) where
  abbrev long : Long t
  long = fit_long t fit

  pub fit_full : tables_full t.clauses t.constraints t.formula ≡ true
  fit_full = tables-full _ _ _ long.clauses-long long.constraints-long long.formula-long

  pub atoms-held : (c : Case) {r : Bool} → r ≡ sound c t.clauses t.constraints t.formula → r ≡ true
      → (c.atoms ≤ 64) × (name_size ≤ length t.names) × (price_size ≤ length t.prices)
  atoms-held c e h = ((sound-atoms c _ _ _ (sym e ∙ h)).1, long.names-long, long.prices-long)
