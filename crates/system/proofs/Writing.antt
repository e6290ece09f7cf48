-- What one call of write adds to the bytes written. Assumes nothing.
use Rattle.std.proofs.Common.{ℕ, ◌+◌, ◌-◌, List, ◌++◌, length, take, drop, sym, ap, ◌∙◌, subst}
use Rattle.std.proofs.lemmas.List.{take_rest}
use Rattle.std.proofs.KnownBytes.{Appends-trans}
use Rattle.std.specs.Io.KnownBytes.{Appends}
use Rattle.std.specs.declared.option.Option.{Option}
use lib.Seq.{take-add}

-- n bytes of the text behind its first a
pub write_on : (a n : ℕ) (t : List ℕ) (x y z : Option (List ℕ)) → Appends x y (take a t)
    → Appends y z (take n (take (length t - a) (drop a t))) → Appends x z (take (a + n) t)
write_on a n t x y z before c =
    subst (Appends x z) (ap (λ l. take a t ++ take n l) (take_rest t a) ∙ sym (take-add a n t))
    (Appends-trans x y z _ _ before c)
