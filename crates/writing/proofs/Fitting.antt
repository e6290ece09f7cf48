-- What a case that fits gives to the steps of writing it. Assumes nothing.
use mathlib.Core.Path.{◌≡◌}
use mathlib.Core.Bool.{Bool, true, false≢true}
use Prim.Native.Nat.{ℕ, zero, suc, ◌*◌, ◌/◌, ◌≤◌}
use native.Mathlib.Omega.{arith}
use lib.ListN.{length, get_or}
use Rattle.logic.proofs.Spelling.{one-formula-spells}
use Rattle.program.specs.declared.case.Case.{Case}
use Rattle.program.specs.Case.{formula_size, name_size, price_size, plain_at, negated_at, nodes_of}
use Rattle.program.specs.Sound.{bare, shaped, sound_clause, sound}
use Rattle.program.proofs.Soundness.{sound-atoms, sound-clauses, sound-constraints}
use Rattle.program.proofs.Soundness.{sound-formulas, sound-each, sound-kind, formula-few, formula-one}
use Rattle.program.proofs.SoundEntries.{clause-sound, each-clause-sound}
use Rattle.store.specs.Lent.{Lent}
use Rattle.store.specs.Held.{Long}
use Rattle.reader.proofs.EarlyRefusals.{fit_long}
use Rattle.output.specs.Writing.{Room}
use Rattle.writing.specs.Operation.{case_text}
use Rattle.writing.specs.Steps.{KindsSound, BarsSound, QueriesSound, Fit}
use Rattle.writing.proofs.CaseRoom.{writable-sound, case-room}

shaped-kind : (k : ℕ) (b : Bool) → shaped k b ≡ true → k ≤ 2
shaped-kind zero b h = omega arith
shaped-kind (suc zero) b h = omega arith
shaped-kind (suc (suc zero)) b h = omega arith
shaped-kind (suc (suc (suc k))) b h = absurd (false≢true h)

clause-kind : (n first p q : ℕ) → sound_clause n first p q ≡ true → first / 64 ≤ 2
clause-kind n first p q h = shaped-kind (first / 64) (bare p q) (clause-sound n first p q h).shape

module _ (c : Case) (t : Lent) (f : Fit c t) where
  fit_sound : sound c t.clauses t.constraints t.formula ≡ true
  fit_sound = writable-sound c t f.is-writable

  fit_sizes : Long t
  fit_sizes = fit_long t f.tables-fit

  pub fit_room : Room (case_text c t) 0
  fit_room = case-room c t f.tables-fit f.is-writable

  pub fit_atoms : c.atoms ≤ 64
  fit_atoms = (sound-atoms c _ _ _ fit_sound).1

  pub fit_names : name_size ≤ length t.names
  fit_names = fit_sizes.names-long

  pub fit_prices : price_size ≤ length t.prices
  fit_prices = fit_sizes.prices-long

  pub fit_formula : formula_size ≤ length t.formula
  fit_formula = fit_sizes.formula-long

  pub fit_clauses : (c.clauses ≤ 256) × (3 * c.clauses ≤ length t.clauses)
  fit_clauses =
      let n = sound-clauses c _ _ _ fit_sound in
      (n, omega (arith, fit_sizes.clauses-long))

  pub fit_kinds : KindsSound t.clauses c.clauses
  fit_kinds k l =
      clause-kind c.atoms (get_or t.clauses (3 * k) 0) (plain_at t.clauses k) (negated_at t.clauses k)
      (each-clause-sound c _ _ _ fit_sound k l)

  pub fit_constraints : (c.constraints ≤ 32) × (3 * c.constraints ≤ length t.constraints)
  fit_constraints =
      let n = sound-constraints c _ _ _ fit_sound in
      (n, omega (arith, fit_sizes.constraints-long))

  pub fit_bars : BarsSound t.constraints c.constraints
  fit_bars k l = sound-kind c _ _ _ fit_sound k l

  pub fit_queries : (c.formulas ≤ 16) × QueriesSound c.nodes t.formula c.formulas
  fit_queries = ((sound-formulas c _ _ _ fit_sound).1, each)
    where
      each : QueriesSound c.nodes t.formula c.formulas
      each q l =
          let s = sound-each c _ _ _ fit_sound q l in (
            formula-few c.atoms c.nodes t.formula q s,
            one-formula-spells c.atoms (nodes_of c.nodes t.formula q)
                (formula-one c.atoms c.nodes t.formula q s),
          )
