-- Laws of what writing to a lent output leaves in it: one text behind another, and the room they take. Assumes nothing.
use mathlib.Core.Path.{◌≡◌, refl, sym, ap, ◌∙◌}
use mathlib.Core.List.{List, [], ◌∷◌, ◌++◌}
use Prim.Native.Nat.{ℕ, suc, ◌+◌, ◌≤◌, ◌<◌, min}
use native.Mathlib.Nat.{add-zero, add-suc, suc-add, zero-add}
use native.Mathlib.Numerals.{add-one}
use native.Mathlib.Omega.{arith}
use lib.ListN.{length, take, get_or, set, length-append, length-set, length-take}
use lib.Seq.{sets, sets-eq, set_out, take-suc, take_all}
use Rattle.words.specs.Lists.{over}
use Rattle.output.specs.Writing.{laid, Writes, Room}

-- laid

laid-append : (out : List ℕ) (at : ℕ) (s u : List ℕ) → laid out at (s ++ u) ≡ laid (laid out at s) (at + length s) u
unfolding laid
laid-append out at [] u = rw (add-zero at)
laid-append out at (b ∷ s) u = rw (add-suc, ← suc-add) (laid-append (set out at b) (suc at) s u)

laid-length : (out : List ℕ) (at : ℕ) (s : List ℕ) → length (laid out at s) ≡ length out
unfolding laid
laid-length out at [] = refl
laid-length out at (b ∷ s) = laid-length (set out at b) (suc at) s ∙ length-set out at b

laid-sets : (out : List ℕ) (at : ℕ) (s : List ℕ) → laid out at s ≡ sets out at s
unfolding laid
laid-sets out at [] = refl
laid-sets out at (b ∷ s) = laid-sets (set out at b) (suc at) s

pub sets_over : (s out : List ℕ) → length s ≤ length out → sets out 0 s ≡ over s out
sets_over s out h = rw zero-add at (sets-eq s out 0 (rw zero-add h))

pub laid-all : (s out : List ℕ) → length s ≤ length out → laid out 0 s ≡ over s out
laid-all s out h = laid-sets out 0 s ∙ sets_over s out h

-- Writes

pub writes-none : (out : List ℕ) (at : ℕ) → Writes [] out at at out
unfolding laid
writes-none out at = record { place_is = sym (add-zero at); out_is = refl }

pub writes-append : {s u out out₁ out₂ : List ℕ} {at m r : ℕ} → Writes s out at m out₁ → Writes u out₁ m r out₂
    → Writes (s ++ u) out at r out₂
writes-append {s} {u} {out} {out₁} {out₂} {at} {m} {r} h k =
    let e = length-append s u in
    record {
      place_is = omega (arith, e, h.place_is, k.place_is);
      out_is = k.out_is ∙ rw (h.out_is, h.place_is, laid-append);
    }

-- one byte, stored before the output's end, and counted behind it
module _ (out : List ℕ) (at b : ℕ) {out₁ : List ℕ} where
  pub writes_one : out₁ ≡ set out at b → Writes (b ∷ []) out at (at + 1) out₁
  unfolding laid
  writes_one e = record { place_is = refl; out_is = e }

  pub writes-past : length out ≤ at → out₁ ≡ out → Writes (b ∷ []) out at (at + 1) out₁
  unfolding laid
  writes-past h e = record { place_is = refl; out_is = e ∙ sym (set_out out at b h) }

pub writes-length : {s out out₁ : List ℕ} {at r : ℕ} → Writes s out at r out₁ → length out₁ ≡ length out
writes-length {s} {out} {out₁} {at} {r} h = ap length h.out_is ∙ laid-length out at s

-- one entry more of s
pub writes_more : {out out₁ out₂ : List ℕ} {at m r : ℕ} (s : List ℕ) (i : ℕ) → i < length s
    → Writes (take i s) out at m out₁ → Writes (get_or s i 0 ∷ []) out₁ m r out₂ → Writes (take (i + 1) s) out at r out₂
writes_more s i h k l = rw (add-one, take-suc s i 0 h) (writes-append k l)

-- all of s
pub writes-all : {out out₁ : List ℕ} {at m : ℕ} (s : List ℕ) (i : ℕ) → length s ≤ i → Writes (take i s) out at m out₁
    → Writes s out at m out₁
writes-all s i h k = rw (take_all i s h) at k

-- where the first entries of s end
pub writes-ends : {out out₁ : List ℕ} {at m : ℕ} (s : List ℕ) (i : ℕ) → Writes (take i s) out at m out₁
    → m ≡ at + min i (length s)
writes-ends s i k = k.place_is ∙ rw (length-take i s)

-- Room

pub room-front : (s u : List ℕ) (at : ℕ) → Room (s ++ u) at → Room s at
room-front s u at h = omega (arith, length-append s u)

pub room-behind : (s u : List ℕ) (at : ℕ) {m : ℕ} → Room (s ++ u) at → m ≡ at + length s → Room u m
room-behind s u at h e = omega (arith, length-append s u)
