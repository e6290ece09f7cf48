-- Laws of what is drawn from a state.
--
--   clause_states s c    the states from which c clauses are drawn, one after the other from the state s on
-- Assumes nothing.
use mathlib.Core.Path.{◌≡◌, refl, ap}
use mathlib.Core.Bool.{true, false}
use mathlib.Core.List.{List, [], ◌∷◌, map}
use Prim.Native.Nat.{ℕ, zero, suc, ◌+◌, ◌*◌, ◌%◌, ◌≤◌, ◌<◌}
use native.Mathlib.Omega.{arith}
use lib.ListN.{length}
use borrow.Author.Tests.{leb-false, lt-ltb}
use Rattle.words.proofs.Tests.{by_test}
use Rattle.text.proofs.Each.{Each}
use Rattle.grammar.specs.Line.{Line, Literal, takes, body_names}
use Rattle.loading.specs.Draws.{state_after, draw}
use Rattle.loading.specs.Load.{load_name, literal_drawn, literals_drawn, is_rule, kind_drawn, literal_count}
use Rattle.loading.specs.Load.{clause_drawn, draw_count, clauses_drawn}

-- ---- the parts of a clause
module _ (s : ℕ) where
  pub rule-kind : is_rule s ≡ true → kind_drawn s ≡ 2
  unfolding kind_drawn
  rule-kind h = rw h

  pub other-kind : is_rule s ≡ false → kind_drawn s ≡ draw 2 s % 8
  unfolding kind_drawn
  other-kind h = rw h

  pub rule-count : is_rule s ≡ true → literal_count s ≡ 1 + draw 3 s % 3
  unfolding literal_count
  rule-count h = rw h

  pub other-count : is_rule s ≡ false → literal_count s ≡ 0
  unfolding literal_count
  other-count h = rw h

  pub rule_draws : is_rule s ≡ true → draw_count s ≡ 3 + 2 * literal_count s
  unfolding draw_count
  rule_draws h = rw h

  pub other_draws : is_rule s ≡ false → draw_count s ≡ 2
  unfolding draw_count
  other_draws h = rw h

  pub other-low : is_rule s ≡ false → kind_drawn s < 2
  other-low h = rw (other-kind h) (leb-false 2 (draw 2 s % 8) h)

  pub kind-le : kind_drawn s ≤ 2
  kind-le = by_test (is_rule s) (λ t. omega (arith, rule-kind t)) (λ t. omega (arith, other-low t))

  pub count-le : literal_count s ≤ 3
  count-le = by_test (is_rule s) (λ t. omega (arith, rule-count t)) (λ t. omega (arith, other-count t))

  -- a rule has a literal, a fact and an assumption have none
  rule-takes : is_rule s ≡ true → takes (kind_drawn s) (literal_count s) ≡ true
  rule-takes t =
      let some : 0 < literal_count s = omega (arith, rule-count t) in
      rw (rule-kind t, lt-ltb 0 (literal_count s) some)

  other-takes : is_rule s ≡ false → takes (kind_drawn s) (literal_count s) ≡ true
  other-takes t = rw (lt-ltb (kind_drawn s) 2 (other-low t), other-count t)

  -- it has as many literals as its kind takes
  pub drawn_takes : takes (kind_drawn s) (literal_count s) ≡ true
  drawn_takes = by_test (is_rule s) rule-takes other-takes

-- ---- literals
module _ (n : ℕ) where
  pub literals-none : (s : ℕ) → literals_drawn n s 0 ≡ []
  unfolding literals_drawn
  literals-none s = refl

  pub literals-first : (s k : ℕ) → literals_drawn n s (suc k) ≡ literal_drawn n s ∷ literals_drawn n (state_after 2 s) k
  unfolding literals_drawn
  literals-first s k = refl

  pub literals-length : (s k : ℕ) → length (literals_drawn n s k) ≡ k
  unfolding literals_drawn
  literals-length s zero = refl
  literals-length s (suc k) = ap suc (literals-length (state_after 2 s) k)

  -- what holds of every literal that is drawn holds of each
  pub literals-each : (P : Literal → Type 0) → ((s : ℕ) → P (literal_drawn n s)) → (s k : ℕ)
      → Each P (literals_drawn n s k)
  unfolding literals_drawn
  literals-each P h s zero = tt
  literals-each P h s (suc k) = (h s, literals-each P h (state_after 2 s) k)

  -- and so does what holds of every name that is drawn
  pub drawn_names : (P : List ℕ → Type 0) → ((s : ℕ) → P (load_name (draw 1 s % n))) → (s k : ℕ)
      → Each P (body_names (literals_drawn n s k))
  unfolding literals_drawn
  drawn_names P h s zero = tt
  drawn_names P h s (suc k) = (h s, drawn_names P h (state_after 2 s) k)

-- ---- clauses
abbrev pub clause_states : ℕ → ℕ → List ℕ
clause_states s zero = []
clause_states s (suc c) = s ∷ clause_states (state_after (draw_count s) s) c

pub states_length : (s c : ℕ) → length (clause_states s c) ≡ c
states_length s zero = refl
states_length s (suc c) = ap suc (states_length (state_after (draw_count s) s) c)

module _ (n : ℕ) where
  pub clauses-none : (s : ℕ) → clauses_drawn n s 0 ≡ []
  unfolding clauses_drawn
  clauses-none s = refl

  pub clauses-first : (s c : ℕ)
      → clauses_drawn n s (suc c) ≡ clause_drawn n s ∷ clauses_drawn n (state_after (draw_count s) s) c
  unfolding clauses_drawn
  clauses-first s c = refl

  pub clauses_are : (s c : ℕ) → clauses_drawn n s c ≡ map (clause_drawn n) (clause_states s c)
  unfolding clauses_drawn
  clauses_are s zero = refl
  clauses_are s (suc c) = ap (λ l. clause_drawn n s ∷ l) (clauses_are (state_after (draw_count s) s) c)

  pub clauses-length : (s c : ℕ) → length (clauses_drawn n s c) ≡ c
  unfolding clauses_drawn
  clauses-length s zero = refl
  clauses-length s (suc c) = ap suc (clauses-length (state_after (draw_count s) s) c)

  -- what holds of every clause that is drawn holds of each
  pub clauses-each : (P : Line → Type 0) → ((s : ℕ) → P (clause_drawn n s)) → (s c : ℕ) → Each P (clauses_drawn n s c)
  unfolding clauses_drawn
  clauses-each P h s zero = tt
  clauses-each P h s (suc c) = (h s, clauses-each P h (state_after (draw_count s) s) c)
