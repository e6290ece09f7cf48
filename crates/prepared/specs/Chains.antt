-- The rules of a head, from the last to the first.
--
--   rule_for cl a k        clause k is a rule with the head a
--   last_of cl a n         one more than the number of the last rule for a among the first n clauses, or 0
--   Lasts cl n t           the table t has the last rule of each head
--   Linked cl n t          the table t leads from each clause to the last rule before it with its head
--   rule_value v cl k      the value of the literals of clause k where v gives each atom's value
--   rules_value v cl a n   the greatest value of the rules for a among the first n clauses, false if there is none
use Rattle.std.specs.Prelude.{◌≡◌, Bool, ◌&&◌, List, ℕ, zero, suc, ◌<◌, eqb, leb, get_or}
use Rattle.words.specs.Choice.{pick}
use Rattle.logic.specs.declared.value.Value.{Value}
use Rattle.logic.specs.declared.value.Value.TheVariants.{False}
use Rattle.logic.specs.Value.{greater}
use Rattle.logic.specs.Formula.{value_of, body}
use Rattle.program.specs.Case.{head_at, kind_at, plain_at, negated_at}

abbrev pub rule_for : List ℕ → ℕ → ℕ → Bool
rule_for cl a k = eqb a (head_at cl k) && leb 2 (kind_at cl k)

unfoldable pub last_of : List ℕ → ℕ → ℕ → ℕ
last_of cl a zero = 0
last_of cl a (suc k) = pick (rule_for cl a k) (suc k) (last_of cl a k)

abbrev pub Lasts : List ℕ → ℕ → List ℕ → Type 0
Lasts cl n t = (a : ℕ) → a < 64 → get_or t a 0 ≡ last_of cl a n

abbrev pub Linked : List ℕ → ℕ → List ℕ → Type 0
Linked cl n t = (k : ℕ) → k < n → get_or t k 0 ≡ last_of cl (head_at cl k) k

abbrev pub rule_value : (ℕ → Value) → List ℕ → ℕ → Value
rule_value v cl k = value_of v (body (plain_at cl k) (negated_at cl k))

unfoldable pub rules_value : (ℕ → Value) → List ℕ → ℕ → ℕ → Value
rules_value v cl a zero = False
rules_value v cl a (suc k) = greater (rules_value v cl a k) (pick (rule_for cl a k) (rule_value v cl k) False)
