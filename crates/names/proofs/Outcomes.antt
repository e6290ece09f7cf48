-- The outcome of comparing a word with an entry is the one that document 02 words. Assumes nothing.
use mathlib.Core.Path.{◌≡◌, refl, sym, ap, ap₂, subst, ◌∙◌}
use mathlib.Core.Bool.{true, false, ◌&&◌, false≢true}
use mathlib.Core.List.{List}
use mathlib.Core.Logic.{◌↔◌, ◌⊎◌, inl, inr, ⊎_elim}
use Prim.Native.Nat.{ℕ, zero, suc, ◌≤◌, ◌<◌}
use native.Mathlib.Nat.{not-suc-le-zero, le_of_suc-le-suc}
use native.Mathlib.Omega.{arith}
use lib.Dec.{eqb}
use lib.ListN.{length, get_or, get_or-eq_default}
use denote.Enum.Declared.{tag_of}
use borrow.Author.Tests.{eq-eqb, eqb-true, eqb-false}
use Rattle.words.proofs.Tests.{lt-or-le, by_test, and_true_l, and_true_r}
use Rattle.text.specs.Bytes.{same_bytes}
use Rattle.text.proofs.Same.{same_refl, same-eq}
use Rattle.table.specs.Filled.{padded}
use Rattle.table.proofs.Filled.{padded-length, padded-at}
use Rattle.names.specs.declared.compare.Compared.{Compared}
use Rattle.names.specs.declared.compare.Compared.TheVariants.{EndsDiffer, Another, Same}
use Rattle.names.specs.Compared.{last_place, agree_at, ends_agree, compared_as}
use Rattle.names.specs.Held.{NoZero, Named}
use Rattle.names.specs.Claims.{SameAt, OutcomeOf}
use Rattle.names.specs.contracts.compare.Compared.{the_type}
use Rattle.names.proofs.Compared.{compared_differ, compared_same, compared_another}
use Rattle.names.proofs.Held.{same_row}

-- the outcome that is given, and one that is not
own : {A : Type 0} {c : Compared} → A → (c ≡ c) ↔ A
own a = (λ e. a, λ b. refl)

other : {A : Type 0} {c d : Compared} → eqb (tag_of the_type c) (tag_of the_type d) ≡ false → (A → ⊥) → (c ≡ d) ↔ A
other {A} {c} {d} t f = (λ e. absurd (eqb-false _ _ t (ap (tag_of the_type) e)), λ a. absurd (f a))

no_zero-at : {w : List ℕ} → NoZero w → (j : ℕ) → j < length w → get_or w j 0 ≡ 0 → ⊥
no_zero-at NoZero.none j h = absurd (not-suc-le-zero h)
no_zero-at (NoZero.more z g) zero h = z
no_zero-at (NoZero.more z g) (suc j) h = no_zero-at g j (le_of_suc-le-suc h)

module _ {n w : List ℕ} (g : Named n) (z : NoZero w) where
  -- a row has at each place the byte of its name
  row_byte : (j : ℕ) → get_or (padded 16 n) j 0 ≡ get_or n j 0
  row_byte j = ⊎_elim (padded-at 16 n j) past (lt-or-le j 16)
    where
      past : 16 ≤ j → get_or (padded 16 n) j 0 ≡ get_or n j 0
      past h =
          let s = g.short in
          get_or-eq_default (padded 16 n) 0 (rw padded-length h) ∙ sym (get_or-eq_default n 0 (omega arith))

  agree_same : (j : ℕ) → agree_at (padded 16 n) w j ≡ true → SameAt n w j
  agree_same j e = sym (row_byte j) ∙ eqb-true _ _ e

  same-agree : (j : ℕ) → SameAt n w j → agree_at (padded 16 n) w j ≡ true
  same-agree j e = eq-eqb _ _ (row_byte j ∙ e)

  ends_same : ends_agree (padded 16 n) w ≡ true → SameAt n w 0 × SameAt n w (last_place w)
  unfolding ends_agree
  ends_same e =
      let first = agree_at (padded 16 n) w 0 in
      let last = agree_at (padded 16 n) w (last_place w) in
      (agree_same 0 (and_true_l first last e), agree_same (last_place w) (and_true_r first last e))

  ends-from : SameAt n w 0 → SameAt n w (last_place w) → ends_agree (padded 16 n) w ≡ true
  unfolding ends_agree
  ends-from e f = ap₂ ◌&&◌ (same-agree 0 e) (same-agree (last_place w) f)

  module _ (e : ends_agree (padded 16 n) w ≡ false) where
    not-both : SameAt n w 0 → SameAt n w (last_place w) → ⊥
    not-both f l = false≢true (sym e ∙ ends-from f l)

    ends-differ : OutcomeOf n w EndsDiffer
    ends-differ = record {
      ends-differ_iff = own
          (by_test (agree_at (padded 16 n) w 0) (λ f. inr (not-both (agree_same 0 f)))
          (λ f. inl (λ q. false≢true (sym f ∙ same-agree 0 q))));
      another_iff = other refl (λ h. not-both h.0 h.1);
      same_iff = other refl (λ q. let at : (j : ℕ) → SameAt n w j = λ j. rw q in not-both (at 0) (at (last_place w)));
    }

  module _ (e : ends_agree (padded 16 n) w ≡ true) where
    not-differ : (SameAt n w 0 → ⊥) ⊎ (SameAt n w (last_place w) → ⊥) → ⊥
    not-differ = ⊎_elim (λ f. f (ends_same e).0) (λ f. f (ends_same e).1)

    -- a longer word has a last byte where the entry has none
    word-named : Named w
    word-named = record { short = ⊎_elim longer (λ h. h) (lt-or-le 16 (length w)); no_zero = z }
      where
        longer : 16 < length w → length w ≤ 16
        longer h =
            let s = g.short in
            let none : get_or n (last_place w) 0 ≡ 0 = get_or-eq_default n 0 (omega arith) in
            absurd (no_zero-at z (last_place w) (omega arith) (sym (ends_same e).1 ∙ none))

    is_another : (n ≡ w → ⊥) → OutcomeOf n w Another
    is_another d = record {
      ends-differ_iff = other refl not-differ;
      another_iff = own ((ends_same e).0, (ends_same e).1, d);
      same_iff = other refl d;
    }

    is_word : n ≡ w → OutcomeOf n w Same
    is_word q = record {
      ends-differ_iff = other refl not-differ;
      another_iff = other refl (λ h. h.2 q);
      same_iff = own q;
    }

    ends-agree : OutcomeOf n w (compared_as (padded 16 n) w)
    ends-agree =
        by_test (same_bytes (padded 16 n) (padded 16 w))
        (λ s. subst (OutcomeOf n w) (compared_same (padded 16 n) w (sym e) (sym s) refl refl)
        (is_word (same-eq n w (sym (same_row g word-named) ∙ s))))
        (λ s. subst (OutcomeOf n w) (compared_another (padded 16 n) w (sym e) (sym s) refl refl)
        (is_another (λ q. false≢true (sym s ∙ rw q (same_refl (padded 16 w))))))

  pub outcome : OutcomeOf n w (compared_as (padded 16 n) w)
  outcome =
      by_test (ends_agree (padded 16 n) w) ends-agree
      (λ e. subst (OutcomeOf n w) (compared_differ (padded 16 n) w (sym e) refl) (ends-differ e))
