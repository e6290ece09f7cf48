-- A proof of each claim of specs/Claims.antt. Assumes nothing.
use Prim.Native.Nat.{◌+◌, ◌-◌, min}
use lib.Dec.{eqb, eqb→eq}
use Rattle.logic.specs.declared.value.Value.{Value}
use Rattle.logic.specs.Value.{rank, lesser, greater, implies}
use Rattle.logic.specs.Claims.{LesserRank, GreaterRank, ImpliesRank, OneFormulaExact}
use Rattle.logic.proofs.Every.{every_at₂}
use Rattle.logic.proofs.Spelled.{one-formula-accepted, one-formula-complete, one-formula-unique}

pub lesser-rank : LesserRank
lesser-rank v w =
    eqb→eq _ _ (every_at₂ (λ (x y : Value). eqb (rank (lesser x y)) (min (rank x) (rank y))) tt v w)

pub greater-rank : GreaterRank
greater-rank v w =
    eqb→eq _ _ (every_at₂ (λ (x y : Value). eqb (rank (greater x y)) (Prim.Native.Nat.max (rank x) (rank y))) tt v w)

pub implies-rank : ImpliesRank
implies-rank v w =
    eqb→eq _ _ (every_at₂ (λ (x y : Value). eqb (rank (implies x y)) (min 2 ((2 + rank y) - rank x))) tt v w)

pub one-formula-exact : OneFormulaExact
one-formula-exact =
    record { accepted = one-formula-accepted; complete = one-formula-complete; unique = one-formula-unique }
