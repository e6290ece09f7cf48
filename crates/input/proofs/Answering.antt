-- What a program makes of the bytes read, and of writing its answer. Assumes nothing.
use Rattle.std.proofs.Common.{◌≡◌, ℕ, ◌≤◌, ◌<◌, List, ◌++◌, length, take, ap, ◌∙◌, arith, append-nil, append_assoc}
use Rattle.std.proofs.Common.{codes, refl, IsErrAnd, length-take-le, OnOk, subst}
use Rattle.std.proofs.Common.{Some, None, IfSome, Result, Ok, Err, MatchResult}
use Rattle.std.proofs.lemmas.List.{take_all, take_at}
use Rattle.std.proofs.Math.Nat.{eq-or-lt_of_le}
use Rattle.std.proofs.KnownBytes.{Appends-trans}
use Rattle.std.specs.Io.KnownBytes.{Consumes, IsAtEnd, Appends}
use Rattle.system.specs.Writing.{WritesText, TellsFault}
use Rattle.input.specs.declared.Fault.{Fault}
use Rattle.input.specs.declared.Fault.TheVariants.{Output}
use Rattle.input.specs.Answering.{IsAnswered}
use Rattle.input.specs.Reading.{IsRead}
use Rattle.std.specs.declared.io.Error.{Error}
use Rattle.std.specs.declared.option.Option.{Option}
use mathlib.Core.Logic.{⊎_elim}

-- n bytes were read into a buffer, from i to y, and all there are where the buffer is not full
pub read_whole : (n : ℕ) (buf : List ℕ) → n ≤ length buf → (i y : Option (List ℕ)) → Consumes i y (take n buf)
    → (n < length buf → IsAtEnd y) → IfSome i (λ xs. take (length buf) xs ≡ take n buf)
read_whole n buf fits None y c e = tt
read_whole n buf fits (Some xs) None c e = absurd c
read_whole n buf fits (Some xs) (Some ys) c e = ⊎_elim full short (eq-or-lt_of_le fits)
  where
    held : length (take n buf) ≡ n
    held = length-take-le n buf fits

    full : n ≡ length buf → take (length buf) xs ≡ take n buf
    full h = ap (take (length buf)) c ∙ take_at (take n buf) ys (length buf) (held ∙ h)

    short : n < length buf → take (length buf) xs ≡ take n buf
    short h =
        let all : xs ≡ take n buf = c ∙ ap (λ l. take n buf ++ l) (e h) ∙ append-nil (take n buf) in
        ap (take (length buf)) all ∙ take_all (length buf) (take n buf) (omega (arith, held))

-- t is a text of every input that begins with the n bytes read, and ends with them where the buffer is not full
module _ (P : List ℕ → List ℕ → Type 0) (t : List ℕ) (n : ℕ) (buf : List ℕ) (fits : n ≤ length buf)
    (text_of : (xs : List ℕ) → take (length buf) xs ≡ take n buf → P xs t) where
  known : (Q : List ℕ → Type 0) (i : Option (List ℕ)) → IfSome i (λ xs. take (length buf) xs ≡ take n buf) → Q t
      → IfSome i (λ xs. (t : List ℕ) × P xs t × Q t)
  known Q None e h = tt
  known Q (Some xs) e h = (t, text_of xs e, h)

  -- they were read from i to y, and t was written from old to new with the outcome w
  pub text_answered : (i y : Option (List ℕ)) → Consumes i y (take n buf) → (n < length buf → IsAtEnd y)
      → (old new : Option (List ℕ)) (w : Result Unit Error) → WritesText w old new t → (r : Result Unit Fault)
      → MatchResult w (λ u. r ≡ Ok u) (λ e. r ≡ Err (Output e)) → IsAnswered P i r old new
  text_answered i y c e old new (Ok u) h r f =
      rw f (known (λ t. Appends old new t) i (read_whole n buf fits i y c e) h)
  text_answered i y c e old new (Err x) h r f =
      rw f (known (λ t. (k : ℕ) × Appends old new (take k t)) i (read_whole n buf fits i y c e) h)

-- what was read from i to y is answered by t, which was written from old to new with the outcome w
module _ (P : List ℕ → List ℕ → Type 0) (cut : (i t : List ℕ) (k : ℕ) → 32768 < k → P (take k i) t → P i t)
    (n : ℕ) (buf : List ℕ) (room : 32768 < length buf) (t : List ℕ) (text-is : P (take n buf) t)
    (i y old new : Option (List ℕ)) where
  text_of : (xs : List ℕ) → take (length buf) xs ≡ take n buf → P xs t
  text_of xs e = cut xs t (length buf) room (rw e text-is)

  pub answered : IsRead n buf i y × (n < length buf → IsAtEnd y) → (w : Result Unit Error) → WritesText w old new t
      → (r : Result Unit Fault) → MatchResult w (λ u. r ≡ Ok u) (λ e. IsErrAnd r (λ f. f ≡ Output e))
      → IsAnswered P i r old new
  answered read w h r f =
      text_answered P t n buf read.0.counted.0 text_of i y read.0.bytes read.1 old new w h r (outcome w r f)
    where
      outcome : (w : Result Unit Error) (r : Result Unit Fault)
          → MatchResult w (λ u. r ≡ Ok u) (λ e. IsErrAnd r (λ f. f ≡ Output e))
          → MatchResult w (λ u. r ≡ Ok u) (λ e. r ≡ Err (Output e))
      outcome (Ok u) r f = f
      outcome (Err x) (Ok u) f = absurd f
      outcome (Err x) (Err e) f = ap Err f

-- a was told behind the program's name p
pub told : (p a b : List ℕ) (x y z : Option (List ℕ)) (r : Result Unit Error) → Appends x y (p ++ codes ": ")
    → b ≡ codes ": " ++ a → OnOk r (TellsFault a y z) → OnOk r (TellsFault (p ++ b) x z)
told p a b x y z (Err u) h e t = tt
told p a b x y z (Ok u) h e (words, t) =
    (words, subst (Appends x z) (rw e (simp append_assoc refl)) (Appends-trans x y z _ _ h t))
