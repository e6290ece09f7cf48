-- How what a setting adds is written, cause by cause, lowest first: what is written so far, and what is left of the
-- setting for the causes left, make up the whole. Assumes nothing.
use mathlib.Core.Path.{◌≡◌, ap, ◌∙◌}
use mathlib.Core.List.{List, [], ◌++◌}
use Prim.Native.Nat.{ℕ, ◌/◌, ◌%◌}
use Rattle.words.specs.OneBit.{without_bit, LowestOf}
use Rattle.program.specs.Cause.{atoms_in}
use Rattle.program.specs.Setting.{choice_of, choices_for, digits}
use Rattle.program.proofs.Atoms.{atoms-zero, atoms_lowest}
use Rattle.output.specs.Writing.{Writes, Room}
use Rattle.output.proofs.FormTexts.{spaced_nil}
use Rattle.output.specs.Forms.{spaced}
use Rattle.wording.specs.Text.{with_abducible, abducibles}
use Rattle.wording.proofs.Progress.{Underway, underway-start, underway-room, underway-more, underway-end}
use Rattle.wording.proofs.LineTexts.{abducible_text}

-- what setting s of the causes w adds, of which those of tw are twofold, as it is written
abbrev setting_text : (ℕ → List ℕ) → ℕ → ℕ → ℕ → List ℕ
setting_text name tw w s = spaced (abducibles name (atoms_in w) (digits (choices_for tw (atoms_in w)) s))

-- that of the lowest cause, and behind it those of the others
text_lowest : (name : ℕ → List ℕ) (tw w a s : ℕ) → LowestOf w a → let c = choice_of tw a in
    setting_text name tw w s
    ≡ spaced (with_abducible (s % c) (name a) []) ++ setting_text name tw (without_bit w a) (s / c)
unfolding choices_for digits abducibles
text_lowest name tw w a s h =
    ap (λ (l : List ℕ). spaced (abducibles name l (digits (choices_for tw l) s))) (atoms_lowest w a h)
    ∙ abducible_text (s % choice_of tw a) (name a) _

text-none : (name : ℕ → List ℕ) (tw s : ℕ) → setting_text name tw 0 s ≡ []
unfolding choices_for digits abducibles
text-none name tw s = rw atoms-zero spaced_nil

-- ---- the walk over the causes
-- setting s of the causes w is written to out from place at on; rest is left of it for the causes left, and comes to
-- out₁ from place m on
pub record AtCause (name : ℕ → List ℕ) (tw w s : ℕ) (out : List ℕ) (at left rest m : ℕ) (out₁ : List ℕ) : Type 0
  where
    pub underway : Underway (setting_text name tw w s) out at (setting_text name tw left rest) m out₁

pub cause_start : (name : ℕ → List ℕ) (tw w s : ℕ) (out : List ℕ) (at : ℕ) → AtCause name tw w s out at w s at out
cause_start name tw w s out at = record { underway = underway-start _ _ _ }

-- c is the choice count of the lowest cause left
module _ {name : ℕ → List ℕ} {tw w s at left rest m a c : ℕ} {out out₁ : List ℕ}
    (h : AtCause name tw w s out at left rest m out₁) (l : LowestOf left a) (e : c ≡ choice_of tw a) where
  lowest_first : setting_text name tw left rest
      ≡ spaced (with_abducible (rest % c) (name a) []) ++ setting_text name tw (without_bit left a) (rest / c)
  lowest_first = rw e (text_lowest name tw left a rest l)

  pub cause_room : Room (setting_text name tw w s) at → Room (spaced (with_abducible (rest % c) (name a) [])) m
  cause_room r =
      underway-room h.underway (spaced (with_abducible (rest % c) (name a) []))
      (setting_text name tw (without_bit left a) (rest / c)) lowest_first r

  pub cause_next : {r : ℕ} {out₂ : List ℕ} → Writes (spaced (with_abducible (rest % c) (name a) [])) out₁ m r out₂
      → AtCause name tw w s out at (without_bit left a) (rest / c) r out₂
  cause_next k = record { underway = underway-more h.underway lowest_first k }

pub cause_end : {name : ℕ → List ℕ} {tw w s at left rest m : ℕ} {out out₁ : List ℕ}
    → AtCause name tw w s out at left rest m out₁ → left ≡ 0 → Writes (setting_text name tw w s) out at m out₁
cause_end {name} {tw} {rest = rest} h z =
    underway-end h.underway (ap (λ (w : ℕ). setting_text name tw w rest) z ∙ text-none name tw rest)
