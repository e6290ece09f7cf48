-- Laws of what an operation that writes a text answers and leaves in the output. Assumes nothing.
use mathlib.Core.Path.{◌≡◌, refl, sym, ◌∙◌}
use mathlib.Core.List.{List}
use Prim.Native.Nat.{ℕ, ◌≤◌}
use native.Mathlib.Nat.{zero-add}
use native.Mathlib.Omega.{arith}
use lib.ListN.{length, take, drop, length-append}
use lib.Seq.{take_at}
use Rattle.std.specs.Prelude.{Ok, Err}
use Rattle.refusals.specs.declared.Refusal.{Refusal}
use Rattle.refusals.specs.Refusal.{number_of}
use Rattle.words.specs.Choice.{unless_refused}
use Rattle.output.specs.Writing.{Writes}
use Rattle.output.specs.Showing.{Shown}
use Rattle.output.proofs.Laying.{laid-all}

-- a text written from the first byte on ends at its length
pub written-length : {t out outAfter : List ℕ} {n : ℕ} → Writes t out 0 n outAfter → n ≡ length t
written-length {t} w = w.place_is ∙ zero-add (length t)

-- a refusal's number is not 0
unless-number : (e : Refusal) (x y : List ℕ) → unless_refused (number_of e) x y ≡ y
unless-number e x y =
    elim e as (λ e. unless_refused (number_of e) x y ≡ y) [ Refusal.ShortTable ↦ refl | _ ↦ refl ]

pub shown-refused : (e : Refusal) (t out : List ℕ) → Shown (number_of e) t out (Err e) out
shown-refused e t out = record { refusal_is = refl; length-is = tt; out_is = sym (unless-number e _ out) }

-- n is known to be the text's length, as from writing it to a spare output
pub shown-written : {t out outAfter : List ℕ} {n m : ℕ} → n ≡ length t → n ≤ length out → Writes t out 0 m outAfter
    → Shown 0 t out (Ok n) outAfter
shown-written {t} {out} e h w = record {
  refusal_is = refl;
  length-is = e;
  out_is = w.out_is ∙ laid-all t out (omega arith);
}

-- what is answered as the length lies within the output, where a text that is not refused fits it
pub shown-within : (n : ℕ) {t out u : List ℕ} {m : ℕ} → Shown n t out (Ok m) u → (n ≡ 0 → length t ≤ length out)
    → m ≤ length u
shown-within n {t} {out} s h =
    let e : n ≡ 0 = sym s.refusal_is in
    let l = h e in
    let o = rw e at s.out_is in
    rw (s.length-is, o, length-append t (drop (length t) out)) (omega arith)

-- the output's first bytes, as many as are answered, are a text that is not refused
pub shown_whole : {n : ℕ} {t out u : List ℕ} {m : ℕ} → Shown n t out (Ok m) u → take m u ≡ t
shown_whole {n} {t} {out} s =
    let e : n ≡ 0 = sym s.refusal_is in
    let o = rw e at s.out_is in
    rw (s.length-is, o) (take_at t (drop (length t) out) (length t) refl)
