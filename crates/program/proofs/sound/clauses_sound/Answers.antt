-- `program::sound::clauses_sound` meets its contract: the first words are those of the table. Assumes nothing.
use mathlib.Core.Path.{sym, ◌∙◌}
use Rattle.words.proofs.Below.{every_more, every_false}
use Rattle.program.specs.Sound.{sound_clauses}
use Rattle.program.proofs.Soundness.{clause_test, clause_tested}
use Rattle.program.proofs.sound.clauses_sound.Goals as goal

pub loop-k-preserved : goal.loop-k-preserved
loop-k-preserved c =
    let e = c.clause_sound.ensures ∙ clause_tested _ _ _ _ c.at.ensures in
    every_more c.loop-k.k (clause_test c.args.atoms.count c.args.clauses.words.now) c.loop-k.invariant
    (sym e ∙ c.if-not-clause_sound.false)

pub returns-then-not-clause_sound : goal.returns-then-not-clause_sound
unfolding sound_clauses
returns-then-not-clause_sound c =
    let e = c.clause_sound.ensures ∙ clause_tested _ _ _ _ c.at.ensures in
    sym (every_false _ _ _ c.loop-k-test.true (sym e ∙ c.if-not-clause_sound.true))
