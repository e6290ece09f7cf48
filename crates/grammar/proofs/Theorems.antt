-- What is claimed of reading a line is so. Assumes nothing.
use Rattle.grammar.specs.Claims.{LineExact}
use Rattle.grammar.proofs.LineReading.{line_read}
use Rattle.grammar.proofs.Spelling.{line-spells, line_other}

pub line-exact : LineExact
line-exact = record { reads = line_read; spells = line-spells; no_other = line_other }
