-- Bools as tests: cases on an order, implications between tests, and facts that name no notion of ours. Assumes
-- nothing.
use mathlib.Core.Path.{◌≡◌, refl, sym, ap, ap₂, ◌∙◌}
use mathlib.Core.Bool.{Bool, true, false, not, ◌&&◌, ◌||◌, false≢true}
use mathlib.Core.Logic.{◌⊎◌, inl, inr}
use Prim.Native.Nat.{ℕ, ◌≤◌, ◌<◌}
use lib.Dec.{eqb, ltb}
use borrow.Author.Tests.{eqb-true, eqb-false, eq-eqb, ne_eqb, ltb-true, ltb-false, not-true, not-false}

pub lt-or-le : (a b : ℕ) → (a < b) ⊎ (b ≤ a)
lt-or-le a b = go (ltb a b) refl
  where
    go : (t : Bool) → ltb a b ≡ t → (a < b) ⊎ (b ≤ a)
    go true e = inl (ltb-true a b e)
    go false e = inr (ltb-false a b e)

pub true_or_false : (b : Bool) → (b ≡ true) ⊎ (b ≡ false)
true_or_false true = inl refl
true_or_false false = inr refl

pub eqb_comm : (a b : ℕ) → eqb a b ≡ eqb b a
eqb_comm a b = go (eqb b a) refl
  where
    go : (t : Bool) → eqb b a ≡ t → eqb a b ≡ eqb b a
    go true e = eq-eqb a b (sym (eqb-true b a e)) ∙ sym e
    go false e = ne_eqb a b (λ q. eqb-false b a e (sym q)) ∙ sym e

pub by_test : {P : Type 0} (t : Bool) → (t ≡ true → P) → (t ≡ false → P) → P
by_test true f g = f refl
by_test false f g = g refl

-- a test that passes makes another pass
abbrev pub Gives : Bool → Bool → Type 0
Gives a b = a ≡ true → b ≡ true

pub or_gives : {a b c d : Bool} → Gives a b → Gives c d → Gives (a || c) (b || d)
or_gives {a = true} {b} {c} {d} f g e = ap (λ (x : Bool). x || d) (f refl)
or_gives {a = false} {b = true} f g e = refl
or_gives {a = false} {b = false} f g e = g e

pub and_gives : {a b c d : Bool} → Gives a b → Gives c d → Gives (a && c) (b && d)
and_gives {a = true} {b} {c} {d} f g e = ap₂ ◌&&◌ (f refl) (g e)
and_gives {a = false} f g e = absurd (false≢true e)

-- tests that make each other pass
pub gives_same : (a b : Bool) → Gives a b → Gives b a → a ≡ b
gives_same true b f g = sym (f refl)
gives_same false true f g = g refl
gives_same false false f g = refl

-- a test that fails makes those fail that would make it pass
pub gives_false : (a b : Bool) → Gives b a → a ≡ false → false ≡ b
gives_false a true f e = sym e ∙ f refl
gives_false a false f e = refl

-- the test t that r is, where code returned early (failed) or went on (passed) on `not r`
pub failed : {r t : Bool} → r ≡ t → not r ≡ true → t ≡ false
failed {r} e h = sym e ∙ not-true r h

pub passed : {r t : Bool} → r ≡ t → not r ≡ false → t ≡ true
passed {r} e h = sym e ∙ not-false r h

pub and_true_l : (a b : Bool) → (a && b) ≡ true → a ≡ true
and_true_l true b e = refl
and_true_l false b e = e

pub and_true_r : (a b : Bool) → (a && b) ≡ true → b ≡ true
and_true_r true b e = e
and_true_r false true e = refl
and_true_r false false e = e

pub or_false_l : (a b : Bool) → (a || b) ≡ false → a ≡ false
or_false_l true b e = e
or_false_l false b e = refl

pub or_false_r : (a b : Bool) → (a || b) ≡ false → b ≡ false
or_false_r true true e = e
or_false_r true false e = refl
or_false_r false b e = e

pub or_true_l : (a b : Bool) → b ≡ false → (a || b) ≡ true → a ≡ true
or_true_l true b h e = refl
or_true_l false b h e = absurd (false≢true (sym h ∙ e))
