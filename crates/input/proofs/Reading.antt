-- What one call of read adds to the bytes read: they stay the buffer's first, and the first that the reader had.
-- Assumes nothing.
use Rattle.std.proofs.Common.{◌≡◌, ℕ, ◌+◌, ◌-◌, ◌≤◌, List, ◌++◌, length, take, sym, ap, ◌∙◌, subst, le_refl, drop_at}
use Rattle.std.proofs.Common.{drop, length-take-le}
use Rattle.std.proofs.lemmas.Slice.{take-put_mid_below}
use Rattle.std.proofs.KnownBytes.{Consumes-trans}
use Rattle.std.specs.Io.KnownBytes.{Consumes}
use Rattle.std.specs.declared.option.Option.{Option}
use borrow.Rule.Slice.PartMut.{put_mid, post_of}
use lib.Seq.{take-add, take-append-le}

-- the buffer from byte a on, overwritten by ys
abbrev overwritten : ℕ → List ℕ → List ℕ → List ℕ
overwritten a xs ys = put_mid a (length xs - a) xs ys

take_overwritten : (a n : ℕ) (xs ys : List ℕ) → a ≤ length xs → n ≤ length ys
    → take (a + n) (overwritten a xs ys) ≡ take a xs ++ take n ys
take_overwritten a n xs ys within fits =
    let behind = ys ++ post_of a (length xs - a) xs in
    take-add a n (overwritten a xs ys)
    ∙ ap (λ l. l ++ take n (drop a (overwritten a xs ys))) (take-put_mid_below _ _ _ _ _ (le_refl _) within)
    ∙ ap (λ l. take a xs ++ take n l) (drop_at (take a xs) behind a (length-take-le a xs within))
    ∙ ap (λ l. take a xs ++ l) (take-append-le n ys (post_of a (length xs - a) xs) fits)

-- one call of read gave the first n bytes of ys
pub read_on : (a n : ℕ) (xs ys : List ℕ) (x y z : Option (List ℕ)) → a ≤ length xs → n ≤ length ys
    → Consumes x y (take a xs) → Consumes y z (take n ys) → Consumes x z (take (a + n) (overwritten a xs ys))
read_on a n xs ys x y z within fits before read =
    subst (Consumes x z) (sym (take_overwritten a n xs ys within fits)) (Consumes-trans x y z _ _ before read)
