-- `writable::is_writable` meets its contract: what its tests require of tables that fit. Assumes nothing.
use Rattle.store.specs.LentTables.{lent_of}
use Rattle.writing.proofs.WritableCases.{fit_full, atoms-held}
use Rattle.writing.proofs.writable.is_writable.Goals as goal

pub is_sound-requires : goal.is_sound-requires
is_sound-requires c =
    let t = c.tables.ensures in
    rw (t.clauses_are, t.constraints_are, t.formula-is) (fit_full (lent_of c.args.t) c.requires)

pub atoms_writable-requires : goal.atoms_writable-requires
atoms_writable-requires c =
    let t = c.tables.ensures in
    atoms-held (lent_of c.args.t) c.requires _
    (rw (t.clauses_are, t.constraints_are, t.formula-is) at c.is_sound.ensures) c.if-is_sound.true
