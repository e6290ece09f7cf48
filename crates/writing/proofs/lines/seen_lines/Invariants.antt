-- `lines::seen_lines` meets its contract. The loop's invariant: of the lines those
-- of the atoms left are still to be written. Assumes nothing.
use Rattle.grammar.specs.Line.{Line, Literal}
use Rattle.names.specs.Row.{name_in}
use Rattle.writing.specs.Lines.{line_text}
use Rattle.writing.proofs.Bits.{AtAtomLine}
use Rattle.writing.proofs.lines.seen_lines.Given as goal

abbrev pub invariant-loop-a : goal.invariant-loop-a
invariant-loop-a l =
    AtAtomLine (λ a. line_text (Line.seen (Literal.literal l.negated (name_in l.names a)))) l.atoms
    l.initial.out l.initial.page l.a-iterator.left l.page l.out
