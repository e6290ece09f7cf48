-- In reading order.
-- Claims: what reading a load gives.
pub mod Claims
