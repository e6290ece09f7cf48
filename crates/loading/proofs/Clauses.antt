-- The clause that is drawn from a state, by what the draws yield: its kind, its literals, its line, and the state
-- behind it. Assumes nothing.
use mathlib.Core.Path.{◌≡◌, ap, ◌∙◌}
use mathlib.Core.Bool.{true, false}
use mathlib.Core.List.{[], ◌∷◌}
use Prim.Native.Nat.{ℕ, ◌+◌, ◌*◌, ◌%◌, ◌≤◌, min}
use native.Mathlib.Omega.{arith}
use lib.Dec.{leb}
use lib.ListN.{get_or}
use borrow.Author.Tests.{lt-leb, leb-true, leb-false}
use Rattle.words.specs.Choice.{pick}
use Rattle.words.proofs.Tests.{by_test}
use Rattle.text.specs.Tokens.{Token}
use Rattle.grammar.specs.Line.{line_words, body_tokens}
use Rattle.writing.specs.Lines.{line_text}
use Rattle.writing.proofs.LineTexts.{FormLine, clause-form}
use Rattle.loading.specs.Draws.{state_after, draw}
use Rattle.loading.specs.Load.{load_name, literals_drawn, is_rule, kind_drawn, literal_count, clause_drawn, draw_count}
use Rattle.loading.proofs.Drawing.{rule-kind, other-low, other-kind, other-count, rule_draws, other_draws}
use Rattle.loading.proofs.Drawing.{kind-le, literals-none}
use Rattle.loading.proofs.States.{state-none, state-add, second-draw, second-state}

rule-is : (s : ℕ) → leb 2 (kind_drawn s) ≡ is_rule s
rule-is s =
    by_test (is_rule s) (λ t. rw (rule-kind s t, t)) (λ t. rw t (lt-leb 2 (kind_drawn s) (other-low s t)))

-- the states behind the first and the second draw, and what the second yields
module _ (s : ℕ) {s₁ s₂ d : ℕ} (e₁ : s₁ ≡ state_after 1 s) (e₂ : s₂ ≡ state_after 1 s₁) (ed : d ≡ draw 1 s₁) where
  behind-two : s₂ ≡ state_after 2 s
  behind-two = e₂ ∙ second-state s e₁

  pub kind-is : min (d % 8) 2 ≡ kind_drawn s
  kind-is =
      let f : d ≡ draw 2 s = ed ∙ second-draw s e₁ in
      by_test (is_rule s)
      (λ t. let l = leb-true 2 (draw 2 s % 8) t in omega (arith, rule-kind s t))
      (λ t. let l = leb-false 2 (draw 2 s % 8) t in omega (arith, other-kind s t))

  -- its kind, the number of its literals, and the state behind that
  module _ {k m s₃ : ℕ} (ek : k ≡ kind_drawn s) (em : m ≡ pick (leb 2 k) (1 + draw 1 s₂ % 3) 0)
      (e₃ : s₃ ≡ state_after (pick (leb 2 k) 1 0) s₂) where
    is-rule : leb 2 k ≡ is_rule s
    is-rule = ap (leb 2) ek ∙ rule-is s

    third-draw : draw 1 s₂ ≡ draw 3 s
    unfolding state_after
    third-draw = ap (λ x. draw 1 x) behind-two

    third-state : state_after 1 s₂ ≡ state_after 3 s
    unfolding state_after
    third-state = ap (λ x. state_after 1 x) behind-two

    count-is : m ≡ literal_count s
    unfolding literal_count
    count-is = em ∙ rw (is-rule, third-draw)

    -- of a rule and of another clause
    rule-state : is_rule s ≡ true → s₃ ≡ state_after 3 s
    rule-state t = e₃ ∙ rw (is-rule, t) third-state

    other-state : is_rule s ≡ false → s₃ ≡ state_after 2 s
    other-state t = e₃ ∙ rw (is-rule, t) (state-none s₂ ∙ behind-two)

    other-none : is_rule s ≡ false → m ≡ 0
    other-none t = count-is ∙ other-count s t

    literals-are : (n : ℕ) → literals_drawn n s₃ m ≡ literals_drawn n (state_after 3 s) (literal_count s)
    literals-are n =
        by_test (is_rule s) (λ t. rw (rule-state t, count-is))
        (λ t. rw (other-none t, other-count s t, literals-none n s₃, literals-none n (state_after 3 s)))

    -- its line
    pub drawn_form : (n : ℕ) {a : ℕ} → a ≡ draw 1 s → FormLine (line_text (clause_drawn n s)) (get_or line_words k [])
        (Token.word (load_name (a % n)) ∷ body_tokens (literals_drawn n s₃ m))
    drawn_form n ea =
        rw (ek, ea, literals-are n)
        (clause-form (kind_drawn s) (load_name (draw 1 s % n)) (literals_drawn n (state_after 3 s) (literal_count s)))

    -- the state behind it
    pub behind-clause : {t : ℕ} → t ≡ state_after (2 * m) s₃ → t ≡ state_after (draw_count s) s
    behind-clause e =
        by_test (is_rule s)
        (λ r. let f : 2 * m + 3 ≡ draw_count s = omega (arith, count-is, rule_draws s r) in
        e ∙ ap (λ x. state_after (2 * m) x) (rule-state r) ∙ state-add (2 * m) 3 s ∙ ap (λ i. state_after i s) f)
        (λ r. let f : 2 * m + 2 ≡ draw_count s = omega (arith, other-none r, other_draws s r) in
        e ∙ ap (λ x. state_after (2 * m) x) (other-state r) ∙ state-add (2 * m) 2 s ∙ ap (λ i. state_after i s) f)

    pub kind-within : k ≤ 2
    kind-within = omega (arith, ek, kind-le s)
