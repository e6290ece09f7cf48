-- Answers to the goals of this function. Assumes nothing.
use borrow.Author.Rules.{rules}
use Rattle.words.proofs.Tests.{failed, passed}
use Rattle.text.proofs.TokenLaws.{in_word_more, in_word_stops, in_word_ends}
use Rattle.text.proofs.tokens.word_end.Goals as goal

pub returns-then-not-is_word_byte : goal.returns-then-not-is_word_byte
returns-then-not-is_word_byte c = search (rules, in_word_stops, failed)

pub loop-i-preserved : goal.loop-i-preserved
loop-i-preserved c = search (rules, in_word_more, passed)

pub returns : goal.returns
returns c = search (rules, in_word_ends)
