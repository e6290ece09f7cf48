-- Laws of the test of a names table whether a row before that of an atom is the same. Assumes nothing.
use mathlib.Core.Path.{◌≡◌, sym, ap, ◌∙◌}
use mathlib.Core.Bool.{Bool, true, false, false≢true}
use mathlib.Core.List.{List}
use mathlib.Core.Logic.{⊎_elim}
use Prim.Native.Nat.{ℕ, zero, suc, ◌+◌, ◌*◌, ◌≤◌, ◌<◌}
use native.Mathlib.Nat.{sub-zero, eq-or-lt_of_le}
use native.Mathlib.Omega.{arith}
use lib.Dec.{ltb}
use lib.ListN.{length}
use lib.Seq.{length-slice, take_all}
use borrow.Author.Tests.{ltb-true, lt-ltb, le-ltb}
use Rattle.std.specs.Prelude.{Option, None, Some, IfSome, is_some, unwrap_or}
use Rattle.words.specs.Below.{any, first_from}
use Rattle.words.proofs.Below.{any_found, any_true}
use Rattle.words.proofs.Tests.{by_test, gives_same}
use Rattle.program.specs.Case.{name_size}
use Rattle.text.specs.Bytes.{same_bytes}
use Rattle.table.specs.Filled.{padded}
use Rattle.table.proofs.Filled.{padded-length, padded-front}
use Rattle.names.specs.Row.{row_at, row_of}
use Rattle.names.proofs.Search.{searched_none}
use Rattle.writing.specs.Operation.{is_repeated}

-- the first number that passes, if there is one
module _ (p : ℕ → Bool) where
  first_passes : (n k : ℕ) → first_from n p k < k + n → p (first_from n p k) ≡ true
  first_passes zero k l = absurd (omega arith)
  first_passes (suc n) k l = by_test (p k) (λ e. rw e e) (λ e. rw e (first_passes n (suc k) (omega (arith, rw e at l))))

  first-low : (n k j : ℕ) → k ≤ j → j < k + n → p j ≡ true → first_from n p k ≤ j
  first-low zero k j h l e = absurd (omega arith)
  first-low (suc n) k j h l e =
      by_test (p k) (λ f. rw f h) (λ f. rw f (first-low n (suc k) j (above f) (omega arith) e))
    where
      above : p k ≡ false → suc k ≤ j
      above f =
          ⊎_elim (λ (q : k ≡ j). absurd (false≢true (sym f ∙ ap p q ∙ e))) (λ (q : k < j). q) (eq-or-lt_of_le h)

  first_any : (n : ℕ) → ltb (first_from n p 0) n ≡ any n p
  first_any n = gives_same (ltb (first_from n p 0) n) (any n p) found low
    where
      found : ltb (first_from n p 0) n ≡ true → any n p ≡ true
      found e =
          let l = ltb-true (first_from n p 0) n e in any_true n p _ l (first_passes n 0 (omega arith))

      low : any n p ≡ true → ltb (first_from n p 0) n ≡ true
      low e =
          let f = any_found n p e in
          let l = first-low n 0 f.0 (omega arith) (omega (arith, f.1)) f.2 in
          lt-ltb (first_from n p 0) n (omega (arith, f.1))

padded_whole : (n : ℕ) (l : List ℕ) → length l ≡ n → padded n l ≡ l
padded_whole n l e =
    sym (take_all (length l) (padded n l) (omega (arith, padded-length n l))) ∙ padded-front n l (omega arith)

pub row_repeated : (t : List ℕ) (a : ℕ) {r : ℕ} → a < 64 → name_size ≤ length t → r ≡ row_of t a (row_at t a)
    → ltb r a ≡ is_repeated t a
unfolding is_repeated
row_repeated t a l k e =
    let n : length (row_at t a) ≡ 16 = length-slice (a * 16) (a * 16 + 16) t (omega arith) ∙ omega arith in
    let f = (searched_none t a (row_at t a)).row_is in
    rw (e, f, sub-zero, padded_whole 16 (row_at t a) n) (first_any (λ i. same_bytes (row_at t i) (row_at t a)) a)

-- a row is found exactly where the number for it is less than the count
pub found-test : (o : Option ℕ) (a : ℕ) → IfSome o (λ i. i < a) → is_some o ≡ ltb (unwrap_or o a) a
found-test None a h = sym (le-ltb a a (omega arith))
found-test (Some i) a h = sym (lt-ltb i a h)
