-- In reading order.
-- Report: from a file's bytes to its report.
-- Operation: what the report answers and leaves in the output.
-- Claims: what is claimed beyond the contract.
pub mod Report
pub mod Operation
pub mod Claims
