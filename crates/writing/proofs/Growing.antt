-- Lines written one entry of a table after another: those of the first k entries are written. Assumes nothing.
use mathlib.Core.Path.{◌≡◌, refl, ap, ◌∙◌}
use mathlib.Core.List.{List, [], ◌∷◌, ◌++◌}
use mathlib.Core.Logic.{⊎_elim}
use Prim.Native.Nat.{ℕ, zero, suc, ◌+◌, ◌≤◌, ◌<◌}
use native.Mathlib.Nat.{eq-or-lt_of_le}
use native.Mathlib.Numerals.{add-one}
use native.Mathlib.Omega.{arith}
use lib.ListN.{length, length-append}
use Rattle.words.specs.Lists.{list_of}
use Rattle.words.proofs.Lists.{list_of-none, list_of-more}
use Rattle.text.specs.Spelled.{text_of}
use Rattle.text.proofs.Spelled.{text-append}
use Rattle.output.specs.Writing.{Room}
use Rattle.spelling.specs.declared.Page.{Page}
use Rattle.spelling.specs.Page.{Sets}
use Rattle.spelling.proofs.Pages.{sets-none, sets-both}
use Rattle.writing.specs.Steps.{priced_text, cost_texts}

-- the lines of the first k entries, which grow by those of one entry at a time
pub record Grows (lines entry : ℕ → List (List ℕ)) : Type 0 where
  pub none : lines 0 ≡ []
  pub more : (k : ℕ) → lines (k + 1) ≡ lines k ++ entry k

pub list_grows : (f : ℕ → List ℕ) → Grows (λ k. list_of k f) (λ k. f k ∷ [])
list_grows f = record { none = list_of-none f; more = λ k. list_of-more k f }

pub costs-grow : (na pr : List ℕ) → Grows (cost_texts na pr) (priced_text na pr)
unfolding cost_texts
costs-grow na pr = record { none = refl; more = λ k. ap (cost_texts na pr) (add-one k) }

module _ {lines entry : ℕ → List (List ℕ)} (grows : Grows lines entry) where
  abbrev size : ℕ → ℕ
  size k = length (text_of (lines k))

  size-more : (k : ℕ) → size (k + 1) ≡ size k + length (text_of (entry k))
  size-more k =
      ap (λ (ls : List (List ℕ)). length (text_of ls)) (grows.more k)
      ∙ ap length (text-append (lines k) (entry k)) ∙ length-append (text_of (lines k)) (text_of (entry k))

  size-le : (k n : ℕ) → k ≤ n → size k ≤ size n
  size-le k zero h = let e : k ≡ 0 = omega arith in omega (arith, ap size e)
  size-le k (suc n) h =
      ⊎_elim (λ (e : k ≡ suc n). omega (arith, ap size e))
      (λ (l : k < suc n). omega (arith, size-le k n (omega arith), size-more n, ap size (add-one n)))
      (eq-or-lt_of_le h)

-- the lines of the first k of n entries are written to out from the page g on; those from entry k on come to out₁ from
-- the page q on
pub record AtEntry (lines : ℕ → List (List ℕ)) (n : ℕ) (out : List ℕ) (g : Page) (k : ℕ) (q : Page) (out₁ : List ℕ)
    : Type 0 where
  pub within : k ≤ n
  pub sets : Sets (lines k) out g q out₁

module _ {lines entry : ℕ → List (List ℕ)} (grows : Grows lines entry) where
  pub entry-start : (n : ℕ) (out : List ℕ) (g : Page) → AtEntry lines n out g 0 g out
  entry-start n out g = record { within = omega arith; sets = rw grows.none (sets-none out g) }

  module _ {n k : ℕ} {out out₁ : List ℕ} {g q : Page} (h : AtEntry lines n out g k q out₁) where
    pub entry-room : k < n → Room (text_of (lines n)) g.at → Room (text_of (entry k)) q.at
    entry-room l r = record {
      fits = omega (arith, h.sets.place_is, size-more grows k, size-le grows (k + 1) n (omega arith), r.fits);
    }

    pub entry_more : {r : Page} {out₂ : List ℕ} → k < n → Sets (entry k) out₁ q r out₂
        → AtEntry lines n out g (k + 1) r out₂
    entry_more l e = record { within = omega arith; sets = rw (grows.more k) (sets-both h.sets (entry k) e) }

    pub entry-end : n ≤ k → Sets (lines n) out g q out₁
    entry-end l = let e : n ≡ k = omega (arith, h.within) in rw e h.sets
