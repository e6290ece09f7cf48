-- In reading order.
-- Text: from a file's bytes to the text of its case.
-- Operation: what tidying answers and leaves in the output.
-- Claims: what is claimed beyond the contract.
pub mod Text
pub mod Operation
pub mod Claims
