-- Laws of the names of a load: they are names of at most three bytes, and differ.
--
--   load_names n    the names of n atoms
-- Assumes nothing.
use mathlib.Core.Path.{◌≡◌, refl, sym, ap, ◌∙◌}
use mathlib.Core.Bool.{true}
use mathlib.Core.List.{List, [], ◌∷◌}
use Prim.Native.Nat.{ℕ, zero, suc, ◌^◌, ◌≤◌, ◌<◌}
use native.Mathlib.Numerals.{add-one}
use native.Mathlib.Omega.{arith}
use lib.Dec.{ltb}
use lib.ListN.{length}
use lib.Seq.{take-length}
use borrow.Author.Tests.{ltb-true, ltb-false}
use Rattle.words.specs.Lists.{list_of}
use Rattle.words.proofs.Lists.{list_of-none, list_of-more, list_of-length, list_of-at}
use Rattle.words.proofs.Tests.{by_test}
use Rattle.text.specs.Bytes.{is_digit, is_word_byte, all_of}
use Rattle.text.specs.Numbers.{number_from}
use Rattle.text.specs.Words.{begins_with_letter}
use Rattle.text.proofs.ByteLaws.{letter_word_byte, digit-word_byte, all_push, all_append, all-ends, all_gives}
use Rattle.text.proofs.Places.{place-name}
use Rattle.text.proofs.Words.{name-first}
use Rattle.names.specs.Names.{atom_of}
use Rattle.names.proofs.Distinct.{Distinct}
use Rattle.names.proofs.Adding.{distinct_none, distinct-atom, with_names-new, with_names-distinct}
use Rattle.checks.specs.Naming.{IsName}
use Rattle.checks.proofs.Naming.{name_of}
use Rattle.output.specs.Decimal.{decimal}
use Rattle.output.proofs.Decimals.{decimal-short}
use Rattle.output.proofs.Theorems.{decimal-exact}
use Rattle.loading.specs.Load.{load_name}

-- ---- one name
pub load_name-lettered : (a : ℕ) → begins_with_letter (load_name a) ≡ true
load_name-lettered a =
    ap begins_with_letter (sym (take-length (load_name a)))
    ∙ name-first (load_name a) 0 (length (load_name a)) (omega arith) (omega arith)

pub load_name-bytes : (a : ℕ) → a < 2 ^ 64 → all_of is_word_byte (load_name a) ≡ true
load_name-bytes a h =
    all_append is_word_byte (97 ∷ []) (decimal a)
    (all_push is_word_byte [] 97 (all-ends is_word_byte [] 0 (omega arith)) (letter_word_byte 97 refl))
    (all_gives is_digit is_word_byte digit-word_byte (decimal a) (decimal-exact a h).are_digits)

module _ (a : ℕ) (h : a < 64) where
  pub load_name-length : length (load_name a) ≤ 3
  load_name-length = omega (arith, decimal-short 1 a (omega arith))

  pub load_name-is-name : IsName (load_name a)
  load_name-is-name =
      name_of (load_name a) (load_name-lettered a) (load_name-bytes a (omega arith)) (omega (arith, load_name-length))

-- different numbers have different names
pub load_name-unique : (a b : ℕ) → a < 2 ^ 64 → b < 2 ^ 64 → load_name a ≡ load_name b → a ≡ b
load_name-unique a b h k e =
    let d : decimal a ≡ decimal b = cc in
    sym (decimal-exact a h).stands_for ∙ ap (number_from 0) d ∙ (decimal-exact b k).stands_for

-- ---- all names
abbrev pub load_names : ℕ → List (List ℕ)
load_names n = list_of n load_name

pub load_names-length : (n : ℕ) → length (load_names n) ≡ n
load_names-length n = list_of-length n load_name

-- a name is none of those in front of it
module _ (n : ℕ) (h : n < 64) where
  abbrev place : ℕ
  place = atom_of (load_names n) (load_name n)

  not_found : place < length (load_names n) → ⊥
  not_found l =
      let m = load_names-length n in
      let e = sym (list_of-at n load_name place [] (omega arith)) ∙ place-name (load_names n) (load_name n) l in
      omega (arith, load_name-unique place n (omega arith) (omega arith) e)

  load_name-new : length (load_names n) ≤ place
  load_name-new =
      by_test (ltb place (length (load_names n))) (λ t. absurd (not_found (ltb-true _ _ t))) (ltb-false _ _)

pub load_names-distinct : (n : ℕ) → n ≤ 64 → Distinct (load_names n)
load_names-distinct zero h = rw list_of-none distinct_none
load_names-distinct (suc n) h =
    rw (← add-one n, list_of-more, ← with_names-new (load_names n) (load_name n) (load_name-new n h))
    (with_names-distinct (load_names n) (load_name n ∷ []) (load_names-distinct n (omega arith)))

-- the number of a name
pub load_name-atom : (n a : ℕ) → n ≤ 64 → a < n → atom_of (load_names n) (load_name a) ≡ a
load_name-atom n a h l =
    ap (atom_of (load_names n)) (sym (list_of-at n load_name a [] l))
    ∙ distinct-atom (load_names n) a (load_names-distinct n h) (omega (arith, load_names-length n))
