-- Laws of covered settings: a proper subset passes a test exactly where a setting with one digit dropped is covered.
-- Assumes nothing.
use mathlib.Core.Path.{◌≡◌, refl, sym, ap, ap₂, subst, ◌∙◌}
use mathlib.Core.Bool.{Bool, true, false, not, ◌&&◌, ◌||◌, or-true, false≢true}
use mathlib.Core.List.{List, [], ◌∷◌}
use mathlib.Core.Logic.{◌⊎◌, inl, inr, ⊎_elim}
use Prim.Native.Nat.{ℕ, ◌+◌, ◌*◌, ◌/◌, ◌%◌, ◌<◌}
use native.Mathlib.Nat.{div-add-mod, mul_comm, mul-lt-mul_of_pos_left, mod-lt, eq-or-lt_of_le}
use native.Mathlib.Omega.{arith}
use lib.Arith.{digits_lt, digits_div, digits_mod}
use lib.Dec.{eqb}
use borrow.Author.Tests.{eqb-true, eqb-false, ne_eqb, not-true}
use Rattle.words.proofs.Tests.{true_or_false, Gives, or_gives, and_true_l, and_true_r}
use Rattle.program.specs.Setting.{product}
use Rattle.explanation.specs.Subset.{subset_of, some_proper}
use Rattle.explanation.specs.Covering.{covers, some_dropped}
use Rattle.explanation.proofs.Subsets.{factor_positive, rest_below, digit_within, digit_refl, digit_cases}
use Rattle.explanation.proofs.Subsets.{subset-digit, subset-rest, subset_refl, subset_trans, subset-le}
use Rattle.explanation.proofs.Subsets.{proper_subset, proper_lt, subset_proper}
use Rattle.explanation.proofs.Subsets.{some_proper-at, some_proper-found}

or_cases : (a b : Bool) → (a || b) ≡ true → (a ≡ true) ⊎ (b ≡ true)
or_cases true b h = inl refl
or_cases false b h = inr h

pub and_ext : (b : Bool) {x y : Bool} → (b ≡ true → x ≡ y) → (b && x) ≡ (b && y)
and_ext true h = h refl
and_ext false h = refl

-- a test after b gives another where b holds
and-given : (b : Bool) {x y : Bool} → (b ≡ true → Gives x y) → Gives (b && x) (b && y)
and-given true h = h refl
and-given false h = λ z. z

-- two tests that each make the other pass are the same
both_ways : (a b : Bool) → (a ≡ true → b ≡ true) → (b ≡ true → a ≡ true) → a ≡ b
both_ways true b f g = sym (f refl)
both_ways false true f g = g refl
both_ways false false f g = refl

-- ---- a number by its lowest digit d to the base c and the rest t
module _ (c d t : ℕ) (l : d < c) where
  turned : d + c * t ≡ t * c + d
  turned = omega (arith, mul_comm c t)

  lowest_digit : (d + c * t) % c ≡ d
  lowest_digit = ap (λ (x : ℕ). x % c) turned ∙ digits_mod t l

  higher_digits : (d + c * t) / c ≡ t
  higher_digits = ap (λ (x : ℕ). x / c) turned ∙ digits_div t l

  digits-below : (n : ℕ) → t < n → d + c * t < c * n
  digits-below n h = rw (turned, mul_comm c n) (digits_lt h l)

  -- it has the subsets that the rest has, with a digit of its own
  digits-subset : (cs : List ℕ) (u : ℕ) → digit_within (u % c) d ≡ true → subset_of cs (u / c) t ≡ true
      → subset_of (c ∷ cs) u (d + c * t) ≡ true
  unfolding subset_of
  digits-subset cs u h k =
      ap₂ ◌&&◌ (ap (digit_within (u % c)) lowest_digit ∙ h) (ap (subset_of cs (u / c)) higher_digits ∙ k)

  -- and is a subset of what has the same digit and a rest that has the rest as a subset
  subset-digits : (cs : List ℕ) (s : ℕ) → digit_within d (s % c) ≡ true → subset_of cs t (s / c) ≡ true
      → subset_of (c ∷ cs) (d + c * t) s ≡ true
  unfolding subset_of
  subset-digits cs s h k =
      ap₂ ◌&&◌
      (ap (λ (x : ℕ). digit_within x (s % c)) lowest_digit ∙ h)
      (ap (λ (x : ℕ). subset_of cs x (s / c)) higher_digits ∙ k)

-- ---- the settings that lack one digit of s
module _ (c s : ℕ) where
  -- the lowest digit is dropped
  lowest_less : (s % c ≡ 0 → ⊥) → c * (s / c) < s
  lowest_less z = omega (arith, div-add-mod s c)

  -- one of the others is dropped
  other-less : 0 < c → (t : ℕ) → t < s / c → s % c + c * t < s
  other-less pos t h = omega (arith, div-add-mod s c, mul-lt-mul_of_pos_left h pos)

  not-zero : not (eqb (s % c) 0) ≡ true → s % c ≡ 0 → ⊥
  not-zero e = eqb-false (s % c) 0 (not-true (eqb (s % c) 0) e)

-- only the tests of smaller settings count: where one gives the other there, so it does for the settings that lack one
-- digit
pub dropped_gives : (q r : ℕ → Bool) (cs : List ℕ) (s : ℕ) → s < product cs
    → ((t : ℕ) → t < s → Gives (q t) (r t)) → Gives (some_dropped q cs s) (some_dropped r cs s)
unfolding some_dropped product
dropped_gives q r [] s l e = λ h. h
dropped_gives q r (c ∷ cs) s l e =
    let pos = factor_positive c (product cs) (omega arith) in
    or_gives {a = not (eqb (s % c) 0) && q (c * (s / c))} {b = not (eqb (s % c) 0) && r (c * (s / c))}
    (and-given (not (eqb (s % c) 0)) (λ z. e (c * (s / c)) (lowest_less c s (not-zero c s z))))
    (dropped_gives (λ t. q (s % c + c * t)) (λ t. r (s % c + c * t)) cs (s / c) (rest_below c s (product cs) l)
    (λ t h. e (s % c + c * t) (other-less c s pos t h)))

pub dropped_ext : (q r : ℕ → Bool) (cs : List ℕ) (s : ℕ) → s < product cs → ((t : ℕ) → t < s → q t ≡ r t)
    → some_dropped q cs s ≡ some_dropped r cs s
dropped_ext q r cs s l e =
    both_ways (some_dropped q cs s) (some_dropped r cs s)
    (dropped_gives q r cs s l (λ t h z. sym (e t h) ∙ z))
    (dropped_gives r q cs s l (λ t h z. e t h ∙ z))

-- ---- what is found where one of them passes a test
record Dropped (q : ℕ → Bool) (cs : List ℕ) (s : ℕ) : Type 0 where
  part : ℕ
  less : part < s
  subset : subset_of cs part s ≡ true
  passes : q part ≡ true

module _ (q : ℕ → Bool) (c : ℕ) (cs : List ℕ) (s : ℕ) (pos : 0 < c) where
  lowest_found : (not (eqb (s % c) 0) && q (c * (s / c))) ≡ true → Dropped q (c ∷ cs) s
  lowest_found h =
      let e : 0 + c * (s / c) ≡ c * (s / c) = omega arith in
      record {
        part = c * (s / c);
        less = lowest_less c s (not-zero c s (and_true_l (not (eqb (s % c) 0)) (q (c * (s / c))) h));
        subset = subst (λ (x : ℕ). subset_of (c ∷ cs) x s ≡ true) e
            (subset-digits c 0 (s / c) pos cs s refl (subset_refl cs (s / c)));
        passes = and_true_r (not (eqb (s % c) 0)) (q (c * (s / c))) h;
      }

  other-found : Dropped (λ t. q (s % c + c * t)) cs (s / c) → Dropped q (c ∷ cs) s
  other-found f = record {
    part = s % c + c * f.part;
    less = other-less c s pos f.part f.less;
    subset = subset-digits c (s % c) f.part (mod-lt s pos) cs s (digit_refl (s % c)) f.subset;
    passes = f.passes;
  }

dropped_found : (q : ℕ → Bool) (cs : List ℕ) (s : ℕ) → s < product cs → some_dropped q cs s ≡ true → Dropped q cs s
unfolding some_dropped product
dropped_found q [] s l h = absurd (false≢true h)
dropped_found q (c ∷ cs) s l h =
    let pos = factor_positive c (product cs) (omega arith) in
    let low = not (eqb (s % c) 0) && q (c * (s / c)) in
    let others : ℕ → Bool = λ t. q (s % c + c * t) in
    ⊎_elim
    (λ (e : low ≡ true). lowest_found q c cs s pos e)
    (λ (e : some_dropped others cs (s / c) ≡ true).
    other-found q c cs s pos (dropped_found others cs (s / c) (rest_below c s (product cs) l) e))
    (or_cases low (some_dropped others cs (s / c)) h)

-- ---- a proper subset u of s is a subset of one of them
-- q holds of each setting that has u as a subset
abbrev HoldsAbove : (ℕ → Bool) → List ℕ → ℕ → Type 0
HoldsAbove q cs u = (t : ℕ) → t < product cs → subset_of cs u t ≡ true → q t ≡ true

module _ (q : ℕ → Bool) (c : ℕ) (cs : List ℕ) (u s : ℕ) (l : s < c * product cs) where
  -- where u lacks the lowest digit of s
  lowest_finds : HoldsAbove q (c ∷ cs) u → subset_of cs (u / c) (s / c) ≡ true → u % c ≡ 0 → (s % c ≡ 0 → ⊥)
      → some_dropped q (c ∷ cs) s ≡ true
  unfolding some_dropped product
  lowest_finds a h z n =
      let pos = factor_positive c (product cs) (omega arith) in
      let e : 0 + c * (s / c) ≡ c * (s / c) = omega arith in
      let within = ap (λ (x : ℕ). digit_within x 0) z in
      let f = a (0 + c * (s / c)) (omega (arith, div-add-mod s c)) (digits-subset c 0 (s / c) pos cs u within h) in
      ap (λ (t : Bool). t || some_dropped (λ t. q (s % c + c * t)) cs (s / c))
      (ap₂ ◌&&◌ (ap not (ne_eqb (s % c) 0 n)) (ap q (sym e) ∙ f))

  -- where both have the same
  other-finds : some_dropped (λ t. q (s % c + c * t)) cs (s / c) ≡ true → some_dropped q (c ∷ cs) s ≡ true
  unfolding some_dropped
  other-finds h =
      let low = not (eqb (s % c) 0) && q (c * (s / c)) in
      ap (λ (t : Bool). low || t) h ∙ or-true low

  rest-above : HoldsAbove q (c ∷ cs) u → u % c ≡ s % c → HoldsAbove (λ t. q (s % c + c * t)) cs (u / c)
  unfolding product
  rest-above a e t m h =
      let low = mod-lt s (factor_positive c (product cs) (omega arith)) in
      a (s % c + c * t) (digits-below c (s % c) t low (product cs) m)
      (digits-subset c (s % c) t low cs u (ap (λ (x : ℕ). digit_within x (s % c)) e ∙ digit_refl (s % c)) h)

  -- u lacks the lowest digit of s, or has the same
  either-finds : HoldsAbove q (c ∷ cs) u → subset_of (c ∷ cs) u s ≡ true
      → (u % c ≡ s % c → some_dropped q (c ∷ cs) s ≡ true) → some_dropped q (c ∷ cs) s ≡ true
  either-finds a h same =
      ⊎_elim
      (λ (z : u % c ≡ 0). ⊎_elim
      (λ (e : eqb (s % c) 0 ≡ true). same (z ∙ sym (eqb-true (s % c) 0 e)))
      (λ (e : eqb (s % c) 0 ≡ false). lowest_finds a (subset-rest c cs u s h) z (eqb-false (s % c) 0 e))
      (true_or_false (eqb (s % c) 0)))
      (λ z. same z.0)
      (digit_cases (u % c) (s % c) (subset-digit c cs u s h))

  rest-apart : (u ≡ s → ⊥) → u % c ≡ s % c → u / c ≡ s / c → ⊥
  rest-apart n e f = n (sym (div-add-mod u c) ∙ ap₂ (λ (x y : ℕ). c * x + y) f e ∙ div-add-mod s c)

dropped_finds : (q : ℕ → Bool) (cs : List ℕ) (u s : ℕ) → u < product cs → s < product cs → subset_of cs u s ≡ true
    → (u ≡ s → ⊥) → HoldsAbove q cs u → some_dropped q cs s ≡ true
unfolding product
dropped_finds q [] u s k l h n a = absurd (n (omega arith))
dropped_finds q (c ∷ cs) u s k l h n a =
    either-finds q c cs u s l a h (λ e. other-finds q c cs u s l
    (dropped_finds (λ t. q (s % c + c * t)) cs (u / c) (s / c) (rest_below c u (product cs) k)
    (rest_below c s (product cs) l) (subset-rest c cs u s h) (rest-apart q c cs u s l n e)
    (rest-above q c cs u s l a e)))

-- ---- covered settings
module _ (p : ℕ → Bool) (cs : List ℕ) where
  covers-above : (u : ℕ) → u < product cs → p u ≡ true → HoldsAbove (covers p cs) cs u
  unfolding covers
  covers-above u l e t m h =
      ⊎_elim
      (λ (f : u ≡ t). ap (λ (b : Bool). b || some_proper p cs t) (ap p (sym f) ∙ e))
      (λ (f : u < t).
      ap (λ (b : Bool). p t || b) (some_proper-at p cs u t l (subset_proper cs u t h f) e) ∙ or-true (p t))
      (eq-or-lt_of_le (subset-le cs u t h l m))

  -- the subset that passes
  covers-found : (t : ℕ) → t < product cs → covers p cs t ≡ true
      → (u : ℕ) × (u < product cs) × (subset_of cs u t ≡ true) × (p u ≡ true)
  unfolding covers
  covers-found t m h =
      ⊎_elim
      (λ (e : p t ≡ true). (t, m, subset_refl cs t, e))
      (λ (e : some_proper p cs t ≡ true).
      let r = some_proper-found p cs t e in
      (r.0, r.1, proper_subset cs r.0 t r.2, r.3))
      (or_cases (p t) (some_proper p cs t) h)

  module _ (s : ℕ) (l : s < product cs) where
    dropped_covered : some_dropped (covers p cs) cs s ≡ true → some_proper p cs s ≡ true
    dropped_covered h =
        let f = dropped_found (covers p cs) cs s l h in
        let m : f.part < product cs = omega (arith, f.less) in
        let r = covers-found f.part m f.passes in
        let less = subset-le cs r.0 f.part r.2 r.1 m in
        some_proper-at p cs r.0 s r.1
        (subset_proper cs r.0 s (subset_trans cs r.0 f.part s r.2 f.subset) (omega (arith, f.less)))
        r.3

    covered_dropped : some_proper p cs s ≡ true → some_dropped (covers p cs) cs s ≡ true
    covered_dropped h =
        let r = some_proper-found p cs s h in
        let less = proper_lt cs r.0 s r.2 r.1 l in
        dropped_finds (covers p cs) cs r.0 s r.1 l (proper_subset cs r.0 s r.2) (λ e. omega arith)
        (covers-above r.0 r.1 r.3)

    pub dropped_proper : some_dropped (covers p cs) cs s ≡ some_proper p cs s
    dropped_proper = both_ways (some_dropped (covers p cs) cs s) (some_proper p cs s) dropped_covered covered_dropped
