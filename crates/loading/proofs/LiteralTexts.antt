-- How literals are drawn and written one after the other.
--
--   LiteralsLeft ..     of the literals drawn those behind the ones done are still to be drawn and written
-- Assumes nothing.
use mathlib.Core.Path.{◌≡◌, sym, ap, ◌∙◌}
use mathlib.Core.List.{List, [], ◌++◌}
use Prim.Native.Nat.{ℕ, zero, suc, ◌+◌, ◌-◌, ◌*◌, ◌%◌, ◌≤◌, ◌<◌}
use native.Mathlib.Nat.{not-suc-le-zero}
use native.Mathlib.Omega.{arith}
use lib.Dec.{eqb}
use Rattle.text.specs.Tokens.{Token}
use Rattle.grammar.specs.Line.{body_tokens}
use Rattle.grammar.proofs.LineTokens.{body-none, body-first}
use Rattle.output.specs.Writing.{Room}
use Rattle.spelling.specs.declared.Pen.{Pen}
use Rattle.spelling.specs.Pen.{inked, Spells}
use Rattle.writing.specs.Steps.{literal_tokens}
use Rattle.writing.proofs.Ways.{TokensLeft, tokens-start, tokens-room, tokens-more, tokens-end}
use Rattle.loading.specs.Draws.{state_after, draw}
use Rattle.loading.specs.Load.{load_name, literal_drawn, literals_drawn}
use Rattle.loading.proofs.States.{state-none, state-pairs, second-draw, second-state}
use Rattle.loading.proofs.Drawing.{literals-none, literals-first}

-- the tokens of k literals that are drawn from the state s on
abbrev drawn_tokens : ℕ → ℕ → ℕ → List Token
drawn_tokens n s k = body_tokens (literals_drawn n s k)

drawn_none : (n s : ℕ) → drawn_tokens n s 0 ≡ []
drawn_none n s = ap body_tokens (literals-none n s) ∙ body-none

drawn_first : (n s k : ℕ) → 0 < k
    → drawn_tokens n s k ≡ literal_tokens (eqb (draw 2 s % 2) 1) (load_name (draw 1 s % n))
    ++ drawn_tokens n (state_after 2 s) (k - 1)
drawn_first n s zero h = absurd (not-suc-le-zero h)
drawn_first n s (suc k) h =
    let e : suc k - 1 ≡ k = omega arith in
    rw e (ap body_tokens (literals-first n s k) ∙ body-first (literal_drawn n s) _)

-- of k literals on n atoms, drawn from the state start on and written to out with the pen p, those behind the ones done
-- are drawn from the state s on and written to out₁ with the pen q
pub record LiteralsLeft (n start k : ℕ) (out : List ℕ) (p : Pen) (s done : ℕ) (q : Pen) (out₁ : List ℕ) : Type 0 where
  pub state_is : s ≡ state_after (2 * done) start
  pub tokens : TokensLeft (drawn_tokens n start k) out p (drawn_tokens n s (k - done)) q out₁

module _ (n start k : ℕ) (out : List ℕ) (p : Pen) where
  pub literals-start : LiteralsLeft n start k out p start 0 p out
  literals-start =
      let e : k - 0 ≡ k = omega arith in
      record { state_is = sym (state-none start); tokens = rw e (tokens-start (drawn_tokens n start k) out p) }

module _ {n start k : ℕ} {out : List ℕ} {p : Pen} {s done : ℕ} {q : Pen} {out₁ : List ℕ}
    (h : LiteralsLeft n start k out p s done q out₁) where
  -- by what the two draws yield
  module _ {d e t : ℕ} {w : List ℕ} (l : done < k) (ed : d ≡ draw 1 s) (et : t ≡ state_after 1 s) (ee : e ≡ draw 1 t)
      (ew : w ≡ load_name (d % n)) where
    abbrev piece : List Token
    piece = literal_tokens (eqb (e % 2) 1) w

    first-is : drawn_tokens n s (k - done) ≡ piece ++ drawn_tokens n (state_after 2 s) (k - (done + 1))
    first-is =
        let less : k - done - 1 ≡ k - (done + 1) = omega arith in
        let sign : e ≡ draw 2 s = ee ∙ second-draw s et in
        rw (ew, ed, sign, ← less) (drawn_first n s (k - done) (omega arith))

    pub literal-room : Room (inked p (drawn_tokens n start k)) p.at → Room (inked q piece) q.at
    literal-room r = tokens-room h.tokens piece _ first-is r

    pub literal-more : {u : ℕ} {r : Pen} {out₂ : List ℕ} → Spells piece out₁ q r out₂ → u ≡ state_after 1 t
        → LiteralsLeft n start k out p u (done + 1) r out₂
    literal-more v eu =
        rw (eu ∙ second-state s et)
        (record {
          state_is = ap (λ x. state_after 2 x) h.state_is ∙ state-pairs done start;
          tokens = tokens-more h.tokens piece _ first-is v;
        })

  pub literals_end : k ≤ done → Spells (drawn_tokens n start k) out p q out₁
  literals_end l =
      let e : k - done ≡ 0 = omega arith in
      tokens-end h.tokens (ap (drawn_tokens n s) e ∙ drawn_none n s)

  pub literals_state : k ≤ done → done ≤ k → s ≡ state_after (2 * k) start
  literals_state l m =
      let e : done ≡ k = omega arith in
      h.state_is ∙ ap (λ i. state_after (2 * i) start) e
