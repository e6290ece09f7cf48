-- `write` meets its contract, whether the case is layered or has a ring. Assumes nothing.
use mathlib.Core.Path.{refl}
use Rattle.layer_report.proofs.Bounds.{numbers_fit, ring-fits}
use Rattle.layer_report.proofs.operation.LayersTextShown.write.Goals as goal

pub numbers_text-requires : goal.numbers_text-requires
numbers_text-requires c =
    let h = rw c.in-Layered.is at c.requires in
    (h.1.few, h.1.names_fit, numbers_fit _ _ h.1.few)

pub returns-in-Layered : goal.returns-in-Layered
returns-in-Layered c = rw c.in-Layered.is c.numbers_text.ensures

pub ring_text-requires : goal.ring_text-requires
ring_text-requires c =
    let h = rw c.in-Ring.is at c.requires in
    (h.1.ring-atoms refl, h.1.names_fit, ring-fits _ _ h.1.few)

pub returns-in-Ring : goal.returns-in-Ring
returns-in-Ring c = rw c.in-Ring.is c.ring_text.ensures
