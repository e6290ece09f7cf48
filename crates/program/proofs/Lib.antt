-- Heads: laws of the heads of a table's clauses.
-- Causes: laws of the causes among the atoms.
-- Atoms: the atoms of a word are as many as its ones, and below 64, and its lowest bit comes first.
-- Settings: how many settings there are, the digits of a setting, and what it adds.
-- Counting: how many settings there are, cause by cause.
-- NextSetting: the digit of a setting's lowest cause, and the walk that carries a setting to the next.
-- Sets: the sets of causes that settings are.
-- Entries: the entries of a table, tested one by one.
-- Soundness: the kinds of clauses, and what a sound case is sound of.
-- SoundEntries: what is known of the entries of a sound case's tables.
-- Dependence: which atoms a clause names, and which atom depends on which.
-- MakingSound: what makes a case sound.
-- Theorems: the claims of specs/Claims.antt.
pub mod Heads
pub mod Causes
pub mod Atoms
pub mod Settings
pub mod Counting
pub mod NextSetting
pub mod Sets
pub mod Entries
pub mod Soundness
pub mod SoundEntries
pub mod Dependence
pub mod MakingSound
pub mod Theorems
