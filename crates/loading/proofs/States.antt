-- Laws of the states that draws go through. Assumes nothing.
use mathlib.Core.Path.{◌≡◌, refl, sym, ap, ◌∙◌}
use Prim.Native.Nat.{ℕ, zero, suc, ◌+◌, ◌*◌}
use native.Mathlib.Nat.{zero-add, suc-add}
use native.Mathlib.Omega.{arith}
use Rattle.loading.specs.Draws.{next_state, state_after, draw}

-- j draws behind k draws
pub state-add : (j k s : ℕ) → state_after j (state_after k s) ≡ state_after (j + k) s
unfolding state_after
state-add zero k s = ap (λ i. state_after i s) (sym (zero-add k))
state-add (suc j) k s = ap next_state (state-add j k s) ∙ ap (λ i. state_after i s) (sym (suc-add j k))

-- none, and two more behind those of some pairs
pub state-none : (s : ℕ) → state_after 0 s ≡ s
unfolding state_after
state-none s = refl

pub state-pairs : (done s : ℕ) → state_after 2 (state_after (2 * done) s) ≡ state_after (2 * (done + 1)) s
state-pairs done s =
    let e : 2 + 2 * done ≡ 2 * (done + 1) = omega arith in
    state-add 2 (2 * done) s ∙ ap (λ i. state_after i s) e

-- a draw behind another
pub second-draw : (s : ℕ) {t : ℕ} → t ≡ state_after 1 s → draw 1 t ≡ draw 2 s
unfolding state_after
second-draw s e = ap (λ x. draw 1 x) e

pub second-state : (s : ℕ) {t : ℕ} → t ≡ state_after 1 s → state_after 1 t ≡ state_after 2 s
unfolding state_after
second-state s e = ap (λ x. state_after 1 x) e
