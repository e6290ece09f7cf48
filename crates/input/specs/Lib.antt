-- Reading: what reading the input promises.
-- Answering: what a program that answers its input promises.
pub mod Reading
pub mod Answering
