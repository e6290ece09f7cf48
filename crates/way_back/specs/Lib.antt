-- In reading order.
-- Bodies: how many literals the bodies of a case hold.
-- Claims: what reading a written case gives.
pub mod Bodies
pub mod Claims
