-- In reading order.
-- Text: the lines of layers and of a ring.
-- Report: from a file's bytes to the text of its layers.
-- Operation: what the layer report answers and leaves in the output.
-- Claims: what is claimed beyond the contract.
-- Entries: what the inner functions ask of the entries of an answer, and write.
pub mod Text
pub mod Report
pub mod Operation
pub mod Claims
pub mod Entries
