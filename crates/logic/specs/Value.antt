-- Truth values and the connectives on them.
-- From: document 01, "Interpretations and the step" and "Formulas"; document 003 (Łukasiewicz logic).
--
--   rank v              place in the order false < unknown < true, from 0
--   is_true, is_false   tests of a value
--   is_decided v        v is true or false
--   negated v           "not"
--   lesser v w          "and"
--   greater v w         "or"
--   implies v w         "then", by the table of document 01
--   equivalent v w      "same"
use Rattle.std.specs.Prelude.{Bool, true, false, ◌||◌, ℕ}
use Rattle.logic.specs.declared.value.Value.{Value}
use Rattle.logic.specs.declared.value.Value.TheVariants.{False, Unknown, True}

abbrev pub rank : Value → ℕ
rank False = 0
rank Unknown = 1
rank True = 2

abbrev pub is_true : Value → Bool
is_true False = false
is_true Unknown = false
is_true True = true

abbrev pub is_false : Value → Bool
is_false False = true
is_false Unknown = false
is_false True = false

abbrev pub is_decided : Value → Bool
is_decided v = is_true v || is_false v

-- "not" swaps true and false and keeps unknown
abbrev pub negated : Value → Value
negated False = True
negated Unknown = Unknown
negated True = False

-- "and" is the lesser
abbrev pub lesser : Value → Value → Value
lesser False w = False
lesser Unknown False = False
lesser Unknown Unknown = Unknown
lesser Unknown True = Unknown
lesser True w = w

-- "or" is the greater
abbrev pub greater : Value → Value → Value
greater False w = w
greater Unknown False = Unknown
greater Unknown Unknown = Unknown
greater Unknown True = True
greater True w = True

-- "then": the left side true gives T U F, unknown T T U, false T T T
abbrev pub implies : Value → Value → Value
implies True True = True
implies True Unknown = Unknown
implies True False = False
implies Unknown True = True
implies Unknown Unknown = True
implies Unknown False = Unknown
implies False True = True
implies False Unknown = True
implies False False = True

-- "same" is the "and" of both "then"s
abbrev pub equivalent : Value → Value → Value
equivalent v w = lesser (implies v w) (implies w v)
