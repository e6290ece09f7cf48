-- What is claimed of layers is so. Assumes nothing.
use mathlib.Core.Path.{◌≡◌, refl, sym, ap, subst, ◌∙◌}
use mathlib.Core.Bool.{true, true≢false}
use mathlib.Core.List.{List}
use Prim.Native.Nat.{ℕ, ◌≤◌}
use lib.ListN.{length, take}
use native.Mathlib.Omega.{arith}
use Rattle.words.proofs.Lists.{list_of-length}
use Rattle.table.specs.Filled.{padded}
use Rattle.table.proofs.Filled.{padded-front}
use Rattle.program.specs.declared.case.Case.{Case}
use Rattle.program.specs.Case.{head_at}
use Rattle.program.specs.Sound.{sound}
use Rattle.program.proofs.Soundness.{sound-atoms, sound-head}
use Rattle.program.proofs.Dependence.{depends-on, depends_by, headless_none, sound-named}
use Rattle.layering.specs.Layers.{Numbering}
use Rattle.layering.specs.declared.answer.Layers.{Layers}
use Rattle.layering.specs.Operation.{layers_refusal, dependence, layered_in, numbers_in, RingIn, Answered}
use Rattle.layering.specs.Claims.{NumbersOf, number_of, NumbersLeast, LayeredExact, RingExact}
use Rattle.layering.specs.Claims.{AnsweredOf, AnswerExact}
use Rattle.layering.proofs.Chains.{least_numbering, least-least, numbering_layered, number-zero}
use Rattle.layering.proofs.Answers.{refusal-sound}
use Rattle.layering.proofs.Rings.{ring_no_numbering, ring-few}

-- a numbering by the clauses is one of the atoms by their dependence
by_dependence : (c : Case) (cl : List ℕ) (v : ℕ → ℕ) → NumbersOf c cl v → Numbering c.atoms (dependence c cl) v
by_dependence c cl v h a b l m e =
    let f = depends_by cl c.clauses a b e in
    let q : v (head_at cl f.0) ≡ v a = ap v f.2 in
    omega (arith, h f.0 b f.1 f.3, q)

-- and the other way round in a sound case, whose clauses have heads and name atoms of the case
by_clauses : (c : Case) (cl co fo : List ℕ) → sound c cl co fo ≡ true → (v : ℕ → ℕ)
    → Numbering c.atoms (dependence c cl) v → NumbersOf c cl v
by_clauses c cl co fo s v h k b l e =
    h (head_at cl k) b (sound-head c cl co fo s k l) (sound-named c cl co fo s k b l e)
    (depends-on cl c.clauses k b l e)

least_by_clauses : (c : Case) (cl co fo : List ℕ) → sound c cl co fo ≡ true → layered_in c cl ≡ true
    → NumbersOf c cl (number_of c cl)
least_by_clauses c cl co fo s h =
    by_clauses c cl co fo s (number_of c cl) (least_numbering c.atoms (dependence c cl) h)

pub numbers-least : NumbersLeast
numbers-least c cl co fo s h = record {
  are_numbers = least_by_clauses c cl co fo s h;
  are_least = λ v g a l. least-least c.atoms (dependence c cl) h v (by_dependence c cl v g) a l;
  headless_zero = λ a l e. number-zero c.atoms (dependence c cl) a l (λ b m. headless_none cl c.clauses a b e);
  bodiless_zero = λ a l e. number-zero c.atoms (dependence c cl) a l (λ b m. e b);
}

pub layered-exact : LayeredExact
layered-exact = record {
  numbered = λ c cl co fo s h. (number_of c cl, least_by_clauses c cl co fo s h);
  layered_by = λ c cl v g. numbering_layered c.atoms (dependence c cl) v (by_dependence c cl v g);
}

pub ring-exact : RingExact
ring-exact = record {
  no_numbering = λ c cl l g v h. ring_no_numbering c.atoms (dependence c cl) l g v (by_dependence c cl v h);
  at_most = λ c cl l g. ring-few c.atoms (dependence c cl) l g;
}

-- ---- what the operation answers of a case that it doesn't refuse
module _ (c : Case) (cl co fo : List ℕ) (z : layers_refusal c cl co fo ≡ 0) where
  is-sound : sound c cl co fo ≡ true
  is-sound = refusal-sound c cl co fo z

  few : c.atoms ≤ 64
  few = (sound-atoms c cl co fo is-sound).1

  numbers-front : take c.atoms (padded 64 (numbers_in c cl)) ≡ numbers_in c cl
  numbers-front =
      let n = list_of-length c.atoms (number_of c cl) in
      subst (λ (k : ℕ). take k (padded 64 (numbers_in c cl)) ≡ numbers_in c cl) n
      (padded-front 64 (numbers_in c cl) (omega (arith, n, few)))

  ring-front : (l : List ℕ) → RingIn c cl l → take (length l) (padded 64 l) ≡ l
  ring-front l g = padded-front 64 l (omega (arith, ring-few c.atoms (dependence c cl) l g, few))

  answered : (a : Layers) → Answered c cl a → AnsweredOf c cl a
  answered (Layers.Layered e) h =
      rw h.1 (record {
        ring_where_none = λ n. absurd (n (number_of c cl) (least_by_clauses c cl co fo is-sound h.0));
        none_where_ring = λ f. absurd (true≢false f);
        ring-is = λ f. absurd (true≢false f);
        numbers_are = λ f. numbers-front;
      })
  answered (Layers.Ring e) h =
      rw h.3 (record {
        ring_where_none = λ n. refl;
        none_where_ring = λ f v n. true≢false (sym (layered-exact.layered_by c cl v n) ∙ h.0);
        ring-is = λ f. rw (ring-front h.1 h.2) h.2;
        numbers_are = λ f. absurd (true≢false (sym f));
      })

pub answer-exact : AnswerExact
answer-exact c cl co fo a h = answered c cl co fo (sym h.refusal_is) a h.answered
