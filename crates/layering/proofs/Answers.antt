-- Laws of what the operation answers: which refusal is due, and the answer where none is. Assumes nothing.
use mathlib.Core.Path.{◌≡◌, refl, sym, ap, ap₂, subst, ◌∙◌}
use mathlib.Core.Bool.{Bool, true, false, and-true}
use mathlib.Core.List.{List, [], ◌∷◌}
use mathlib.Core.Logic.{◌⊎◌, ⊎_elim}
use Prim.Native.Nat.{ℕ, ◌≤◌, ◌<◌}
use native.Mathlib.Omega.{arith}
use lib.Dec.{ltb}
use lib.ListN.{length, get_or, get_or-eq_default}
use lib.Seq.{ext_get_or}
use borrow.Author.Tests.{eq-eqb, ne_eqb, lt-ltb, le-ltb}
use Rattle.std.specs.Prelude.{Err}
use Rattle.refusals.specs.declared.Refusal.{Refusal}
use Rattle.refusals.specs.Refusal.{number_of}
use Rattle.words.specs.Choice.{pick, check}
use Rattle.words.specs.Bits.{has}
use Rattle.words.specs.Lists.{list_of}
use Rattle.words.proofs.Tests.{lt-or-le}
use Rattle.words.proofs.Bits.{has-zero, below_of_has}
use Rattle.words.proofs.Checks.{first-failed-behind, none-failed}
use Rattle.words.proofs.Lists.{list_of-length, list_of-at}
use Rattle.table.specs.Filled.{padded}
use Rattle.table.proofs.Filled.{padded-length, padded-at}
use Rattle.program.specs.declared.case.Case.{Case}
use Rattle.program.specs.Case.{tables_full}
use Rattle.program.specs.Sound.{sound}
use Rattle.prepared.specs.Dependents.{Dependents}
use Rattle.prepared.proofs.Filling.{dependents_has}
use Rattle.settle.specs.Check.{checked}
use Rattle.settle.proofs.Asking.{refused_first}
use Rattle.layering.specs.declared.answer.Entries.{Entries}
use Rattle.layering.specs.declared.answer.Layers.{Layers}
use Rattle.layering.specs.Layers.{chain_heads, least_number, layered}
use Rattle.layering.specs.Operation.{layers_refusal, dependence, layered_in, numbers_in, RingIn, Answered}
use Rattle.layering.specs.Numbers.{linked_by, Numbered}
use Rattle.layering.specs.Path.{Stuck, Ringed}
use Rattle.layering.proofs.Chains.{heads-lt, heads_ext, number_ext, stuck-next}

-- ---- a table's entries: f of the atoms below n, 0 from n on
entries_are : (n : ℕ) (f : ℕ → ℕ) (u : List ℕ) → length u ≡ 64
    → ((a : ℕ) → a < 64 → get_or u a 0 ≡ pick (ltb a n) (f a) 0) → u ≡ padded 64 (list_of n f)
entries_are n f u s h =
    ext_get_or 0 u (padded 64 (list_of n f)) (s ∙ sym (padded-length 64 (list_of n f)))
    (λ a l. let m : a < 64 = omega (arith, s) in h a m ∙ go a (lt-or-le a n) ∙ sym (padded-at 64 (list_of n f) a m))
  where
    go : (a : ℕ) → (a < n) ⊎ (n ≤ a) → pick (ltb a n) (f a) 0 ≡ get_or (list_of n f) a 0
    go a o =
        ⊎_elim (λ (l : a < n). rw (lt-ltb a n l) (sym (list_of-at n f a 0 l)))
        (λ (l : n ≤ a). rw (le-ltb a n l)
        (sym (get_or-eq_default (list_of n f) 0 (subst (λ (k : ℕ). k ≤ a) (sym (list_of-length n f)) l)))) o

layered_true : (n : ℕ) (r : ℕ → ℕ → Bool) → chain_heads n r n ≡ 0 → layered n r ≡ true
unfolding layered
layered_true n r e = eq-eqb (chain_heads n r n) 0 e

layered_false : (n : ℕ) (r : ℕ → ℕ → Bool) → (chain_heads n r n ≡ 0 → ⊥) → layered n r ≡ false
unfolding layered
layered_false n r e = ne_eqb (chain_heads n r n) 0 e

module _ (c : Case) (cl co fo : List ℕ) where
  -- ---- the refusal that is due
  pub refusal_first : (e : Refusal) → checked (tables_full cl co fo) (sound c cl co fo) ≡ Err e
      → number_of e ≡ layers_refusal c cl co fo
  unfolding layers_refusal
  refusal_first e = refused_first _ _ [] e

  pub refusal-none : (tables_full cl co fo ≡ true) × (sound c cl co fo ≡ true) → layers_refusal c cl co fo ≡ 0
  unfolding layers_refusal
  refusal-none e = first-failed-behind 1 (check 13 (sound c cl co fo) ∷ []) e.0 ∙ first-failed-behind 13 [] e.1

  pub refusal-sound : layers_refusal c cl co fo ≡ 0 → sound c cl co fo ≡ true
  unfolding layers_refusal
  refusal-sound e =
      (none-failed (check 1 (tables_full cl co fo) ∷ check 13 (sound c cl co fo) ∷ []) refl e).1.0

-- ---- the answer
module _ (c : Case) (cl : List ℕ) where
  module _ (few : c.atoms ≤ 64) (t : List ℕ) (d : Dependents cl c.clauses t) where
    agree : (a b : ℕ) → a < c.atoms → b < c.atoms → linked_by t a b ≡ dependence c cl a b
    agree a b l m =
        ap (λ (w : ℕ). has w a) (d b (omega arith)) ∙ dependents_has cl c.clauses b a (omega arith)

    module _ {w : ℕ} {u : List ℕ} (h : Numbered c.atoms t w u) where
      stuck_are : w ≡ chain_heads c.atoms (dependence c cl) c.atoms
      stuck_are = h.stuck_are ∙ heads_ext c.atoms (linked_by t) (dependence c cl) agree c.atoms

      -- no atom is stuck
      pub answer-numbers : w ≡ 0 → Answered c cl (Layers.Layered (record { count = c.atoms; entries = u }))
      answer-numbers z = (is-layered, ap (λ (x : List ℕ). record { count = c.atoms; entries = x }) numbers)
        where
          is-layered : layered_in c cl ≡ true
          is-layered = layered_true c.atoms (dependence c cl) (sym stuck_are ∙ z)

          numbers : u ≡ padded 64 (numbers_in c cl)
          numbers = entries_are c.atoms (least_number c.atoms (dependence c cl)) u h.size_is
              (λ a l. h.entry-is a l
              ∙ rw (z, has-zero a, and-true (ltb a c.atoms))
              (ap (λ (k : ℕ). pick (ltb a c.atoms) k 0)
              (number_ext c.atoms (linked_by t) (dependence c cl) agree a)))

      -- each stuck atom depends on one
      pub numbered-stuck : Stuck t w
      numbered-stuck a b =
          let n = c.atoms in
          let l = below_of_has n w a (rw h.stuck_are (heads-lt n (linked_by t) n)) b.there in
          let f = stuck-next n (linked_by t) a l (ap (λ (x : ℕ). has x a) (sym h.stuck_are) ∙ b.there) in (
            f.0,
            record { small = omega (arith, f.1, few); there = ap (λ (x : ℕ). has x f.0) h.stuck_are ∙ f.3 },
            f.2,
          )

      -- some are
      pub answer-ring : (w ≡ 0 → ⊥) → {r : Entries} → Ringed t w r.count r.entries → Answered c cl (Layers.Ring r)
      answer-ring s g =
          let q = ap₂ (λ (k : ℕ) (x : List ℕ). record { count = k; entries = x }) g.count-is g.entries_are in
          (isnt_layered, g.ring, ring_in, q)
        where
          isnt_layered : layered_in c cl ≡ false
          isnt_layered = layered_false c.atoms (dependence c cl) (λ e. s (stuck_are ∙ e))

          small : (i : ℕ) → i < length g.ring → get_or g.ring i 0 < c.atoms
          small i l = below_of_has c.atoms w (get_or g.ring i 0) (rw stuck_are (heads-lt _ _ _)) (g.among i l)

          ring_in : RingIn c cl g.ring
          ring_in = record {
            some = g.ring-is.some;
            atoms = small;
            distinct = g.ring-is.distinct;
            linked = λ i l. sym (agree _ _ (small i (omega arith)) (small _ l)) ∙ g.ring-is.linked i l;
            closed = λ i l. sym (agree _ _ (small i (omega arith)) (small 0 g.ring-is.some))
                ∙ g.ring-is.closed i l;
          }
