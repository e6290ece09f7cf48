-- Laws of the order of information: a partial order that the connectives keep. Assumes nothing.
use mathlib.Core.Path.{◌≡◌, refl, sym, ◌∙◌}
use mathlib.Core.Bool.{Bool, true, false, false≢true}
use Rattle.words.proofs.Tests.{Gives, or_gives, and_gives}
use Rattle.logic.specs.declared.value.Value.{Value}
use Rattle.logic.specs.declared.value.Value.TheVariants.{False, Unknown, True}
use Rattle.logic.specs.Value.{is_true, is_false, is_decided, negated, lesser, greater}
use Rattle.logic.specs.Order.{Leq}
use Rattle.logic.proofs.Values.{value_ext, is_true_lem, is_false_lem, true_negated, false_negated}
use Rattle.logic.proofs.Values.{true_lesser, false_lesser, true_greater, false_greater}

pub leq_refl : (x : Value) → Leq x x
leq_refl x = record { true_kept = λ e. e; false_kept = λ e. e }

pub leq_unknown : (x : Value) → Leq Unknown x
leq_unknown x = record { true_kept = λ e. absurd (false≢true e); false_kept = λ e. absurd (false≢true e) }

pub leq_trans : {x y z : Value} → Leq x y → Leq y z → Leq x z
leq_trans h k = record {
  true_kept = λ e. k.true_kept (h.true_kept e);
  false_kept = λ e. k.false_kept (h.false_kept e);
}

-- tests that give each other are equal
gives_both : (a b : Bool) → Gives a b → Gives b a → a ≡ b
gives_both true b f g = sym (f refl)
gives_both false true f g = g refl
gives_both false false f g = refl

pub leq_antisym : (x y : Value) → Leq x y → Leq y x → x ≡ y
leq_antisym x y h k =
    value_ext x y
    (gives_both (is_true x) (is_true y) h.true_kept k.true_kept)
    (gives_both (is_false x) (is_false y) h.false_kept k.false_kept)

-- a decided value stays
pub leq_decided : (x y : Value) → Leq x y → is_decided x ≡ true → y ≡ x
leq_decided False y h e = is_false_lem y (h.false_kept refl)
leq_decided Unknown y h e = absurd (false≢true e)
leq_decided True y h e = is_true_lem y (h.true_kept refl)

pub negated_mono : {x y : Value} → Leq x y → Leq (negated x) (negated y)
negated_mono {x} {y} h = record {
  true_kept = λ e. true_negated y ∙ h.false_kept (sym (true_negated x) ∙ e);
  false_kept = λ e. false_negated y ∙ h.true_kept (sym (false_negated x) ∙ e);
}

pub lesser_mono : {x y z u : Value} → Leq x y → Leq z u → Leq (lesser x z) (lesser y u)
lesser_mono {x} {y} {z} {u} h k = record {
  true_kept = λ e. true_lesser y u
      ∙ and_gives {a = is_true x} {b = is_true y} h.true_kept k.true_kept (sym (true_lesser x z) ∙ e);
  false_kept = λ e. false_lesser y u
      ∙ or_gives {a = is_false x} {b = is_false y} h.false_kept k.false_kept (sym (false_lesser x z) ∙ e);
}

pub greater_mono : {x y z u : Value} → Leq x y → Leq z u → Leq (greater x z) (greater y u)
greater_mono {x} {y} {z} {u} h k = record {
  true_kept = λ e. true_greater y u
      ∙ or_gives {a = is_true x} {b = is_true y} h.true_kept k.true_kept (sym (true_greater x z) ∙ e);
  false_kept = λ e. false_greater y u
      ∙ and_gives {a = is_false x} {b = is_false y} h.false_kept k.false_kept (sym (false_greater x z) ∙ e);
}
