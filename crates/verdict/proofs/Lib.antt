-- Verdicts: the tests over minimal settings and one more, the list of the verdicts.
-- Counting: what is counted setting by setting, and the verdicts by it.
-- Numbers: the numbers of the verdicts stored one by one.
-- Holding: the queries told one by one.
-- Asking: the queries that counts still ask.
-- Bytes: the byte of a setting, and the bytes of the settings below one.
-- Lists: a list with one entry more.
-- Leaving: what the walk leaves in the list and the work area.
-- Taking: one setting taken into what is found.
-- Visiting: the lanes of a block visited one by one.
pub mod Verdicts
pub mod Counting
pub mod Numbers
pub mod Holding
pub mod Asking
pub mod Bytes
pub mod Lists
pub mod Leaving
pub mod Taking
pub mod Visiting
