-- The claims of specs/Claims.antt. Assumes nothing.
use mathlib.Core.Path.{sym, ap, refl, ◌∙◌}
use Prim.Native.Nat.{ℕ, ◌^◌}
use native.Mathlib.Omega.{arith}
use Rattle.words.specs.Bits.{has}
use Rattle.program.specs.Cause.{atoms_in}
use Rattle.program.specs.Setting.{settings_of}
use Rattle.program.specs.Claims.{CausesCounted, SettingsPower, EditionOne, TwofoldExact, TwoKinds}
use Rattle.program.proofs.Atoms.{atoms-length}
use Rattle.program.proofs.Causes.{causes-of, causes_plain, twofold_of, assumed_some, assumed_all, assumed-only}
use Rattle.program.proofs.Settings.{choices_power}
use Rattle.program.proofs.Soundness.{sound-kind}

pub causes_counted : CausesCounted
causes_counted = atoms-length

pub settings_power : SettingsPower
unfolding settings_of
settings_power w h = choices_power (atoms_in w) ∙ ap (λ (k : ℕ). 3 ^ k) (causes_counted w h)

pub edition-one : EditionOne
edition-one c cl e =
    causes-of c cl ∙ sym (causes_plain c.edition c.atoms cl c.clauses (λ q. omega (arith, e, q)) refl)

pub twofold_exact : TwofoldExact
twofold_exact = record {
  some = λ c cl e a l h. assumed_some cl c.clauses a l (ap (λ (w : ℕ). has w a) (sym (twofold_of c cl e)) ∙ h);
  all = λ c cl e a l h. assumed_all cl c.clauses a l (ap (λ (w : ℕ). has w a) (sym (twofold_of c cl e)) ∙ h);
  only = λ c cl e a l k m q f.
      ap (λ (w : ℕ). has w a) (twofold_of c cl e) ∙ assumed-only cl c.clauses a l k m q f;
}

pub two_kinds : TwoKinds
two_kinds = sound-kind
