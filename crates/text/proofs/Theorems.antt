-- The claims on tokens written as text (specs/Claims). Assumes nothing.
use Rattle.text.specs.Claims.{SpelledRead}
use Rattle.text.proofs.Spelled as laws

pub spelled-read : SpelledRead
spelled-read = laws.spelled-read
