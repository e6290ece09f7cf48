-- Choice: a choice by a test, or by the number of a refusal; the first check that fails.
-- Below: whether some, or every, number below n passes a test; the first that does; a sum over them.
-- Bits: the bits of a number, and the word of given bits.
-- OneBit: a bit added, taken away, found.
-- BitWalk: the steps of the walk over the bits.
-- Lists: a list laid over the front of another.
pub mod Choice
pub mod Below
pub mod Bits
pub mod OneBit
pub mod BitWalk
pub mod Lists
