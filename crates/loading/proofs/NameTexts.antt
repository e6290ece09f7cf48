-- How the name of an atom is spelled: its letter, and its number behind it. Assumes nothing.
use mathlib.Core.Path.{◌≡◌, refl, ◌∙◌}
use mathlib.Core.List.{List, [], ◌∷◌}
use Prim.Native.Nat.{ℕ, ◌≤◌}
use native.Mathlib.Omega.{arith}
use lib.ListN.{length, take, drop}
use lib.Seq.{take_at}
use Rattle.words.specs.Lists.{over}
use Rattle.output.specs.Decimal.{decimal}
use Rattle.output.specs.Writing.{Room, Writes}
use Rattle.output.proofs.Decimals.{decimal-length}
use Rattle.output.proofs.Laying.{laid-all, writes-append}
use Rattle.output.proofs.Showing.{written-length}
use Rattle.loading.specs.Load.{load_name}

-- the lent bytes out, of which there are 21
module _ (a : ℕ) (out : List ℕ) {out₁ : List ℕ} {m : ℕ} (l : Writes (97 ∷ []) out 0 m out₁) where
  pub digits-room : Room (decimal a) m
  digits-room = record { fits = omega (arith, l.place_is, decimal-length a) }

  module _ {e : ℕ} {out₂ : List ℕ} (d : Writes (decimal a) out₁ m e out₂) where
    pub name-short : e ≤ 21
    name-short = omega (arith, l.place_is, d.place_is, decimal-length a)

    pub name-spelled : length out ≡ 21 → take e out₂ ≡ load_name a
    name-spelled h =
        let w : Writes (load_name a) out 0 e out₂ = writes-append l d in
        let n : e ≡ length (load_name a) = written-length w in
        let o : out₂ ≡ over (load_name a) out = w.out_is ∙ laid-all (load_name a) out (omega (arith, name-short)) in
        rw (o, n) (take_at (load_name a) (drop (length (load_name a)) out) (length (load_name a)) refl)
