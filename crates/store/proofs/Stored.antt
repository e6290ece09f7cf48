-- Storing a form of a line leaves tables that hold what was read with that line: a law for each kind of line.
-- Assumes nothing.
use mathlib.Core.Path.{◌≡◌, ap, ap₂, ◌∙◌, subst}
use mathlib.Core.List.{List, [], ◌∷◌}
use mathlib.Core.Option.{Option}
use Prim.Native.Nat.{ℕ, ◌*◌, ◌-◌, ◌≤◌, ◌<◌}
use native.Mathlib.Omega.{arith}
use lib.ListN.{length, take, drop}
use lib.Seq.{slice}
use Rattle.std.specs.Prelude.{None, Some}
use Rattle.std.specs.Prelude as code
use Rattle.logic.specs.Nodes.{nodes}
use Rattle.program.specs.declared.case.Case.{Case}
use Rattle.program.specs.Case.{clause_size, constraint_size, formula_size, part_size}
use Rattle.text.proofs.Slices.{part_slice}
use Rattle.text.specs.Tokens.{tokens}
use Rattle.table.proofs.Kept.{kept_refl, sets-kept}
use Rattle.formulas.specs.Parsing.{size_of}
use Rattle.formulas.proofs.Sizes.{first-formula-size}
use Rattle.grammar.specs.declared.line.Form.{Form}
use Rattle.grammar.specs.declared.line.Form.TheVariants.{Skipped, Clause, Constraint, Seen, Query, Cost, Atom}
use Rattle.grammar.specs.declared.line.Form.TheVariants.{Edition}
use Rattle.grammar.specs.Line.{Line, Literal}
use Rattle.grammar.specs.Parsing.{FormIs, FormOrNone, body_in}
use Rattle.names.specs.Row.{row_of}
use Rattle.store.specs.declared.masks.Masks.{Masks}
use Rattle.store.specs.Lent.{lent}
use Rattle.store.specs.Prices.{price_of}
use Rattle.store.specs.Saying.{encoded_by, said_by, is_second_cost}
use Rattle.store.specs.Held.{Long}
use Rattle.store.specs.Masks.{masks_by}
use Rattle.store.specs.Stored.{ClauseStored, ConstraintStored, ObservedStored, QueryStored, with_price, of_edition}
use Rattle.store.specs.Stored.{Storable, StoredAs}
use Rattle.store.proofs.Encoded.{encoded-length}
use Rattle.store.proofs.FilledLent.{lent_same, kept_refl-all}
use Rattle.store.proofs.NodeLaws.{formula_put}
use Rattle.store.proofs.Prices.{price-kept}
use Rattle.store.proofs.Held.{clause-held, constraint-held, observed-held, query-held, cost-held, edition-held}

-- the masks m are those of the literals at place at of the line l, by the first n names in the table na
abbrev MasksOf : List ℕ → ℕ → List ℕ → ℕ → Masks → Type 0
MasksOf l at na n m =
    (ls : List Literal) → body_in (tokens (drop at l)) ≡ Option.some ls → m ≡ masks_by (row_of na n) ls

-- of a line with no form
pub no_form_stored : {l : List ℕ} {x : code.Option Form} {c : Case} {y : Line} {cl co fo na pr : List ℕ}
    → Storable l x c y → x ≡ None → StoredAs y c (lent cl co fo na pr) c (lent cl co fo na pr)
unfolding said_by
no_form_stored {l} {y = y} s q =
    let f = subst (λ r. FormOrNone l r y) q s.form-is in
    record { kept = kept_refl-all _; held = λ st h known once. rw f h }

-- of a line of the form x
module _ {l : List ℕ} {o : code.Option Form} {x : Form} {c : Case} {y : Line} (s : Storable l o c y)
    (has : o ≡ Some x) where
  form-told : {z : Form} → x ≡ z → FormIs l z y
  form-told e =
      let f : FormIs l x y = subst (λ q. FormOrNone l q y) has s.form-is in
      subst (λ q. FormIs l q y) e f

  -- what the arms of a clause, a constraint and a query take

  module _ {k a e n : ℕ} (q : x ≡ Clause k a e n) where
    pub clause-kind : k ≤ 2
    clause-kind = (form-told q).0

    pub head-onward : a ≤ e
    head-onward = let f = (form-told q).1 in omega arith

    pub head-within : e ≤ length l
    head-within = (form-told q).1.1

    pub clause-room : c.clauses < 256
    clause-room =
        let room = rw (form-told q).2.line-is at s.room.clauses_fit in
        omega arith

  pub constraint-room : {k at n : ℕ} → x ≡ Constraint k at n → c.constraints < 32
  constraint-room q =
      let room = rw (form-told q).1.line-is at s.room.constraints_fit in
      omega arith

  pub query-room : {at d : ℕ} → x ≡ Query at d → c.formulas < 16
  query-room q =
      let room = rw (form-told q).line-is at s.room.queries_fit in
      omega arith

  module _ {a e p d : ℕ} (q : x ≡ Cost a e p d) where
    pub name-onward : a ≤ e
    name-onward = let f = (form-told q).0 in omega arith

    pub name-within : e ≤ length l
    name-within = (form-told q).0.1

    pub price-few : p ≤ 2000000
    price-few =
        let f = (form-told q).1 in
        let room = rw f.line-is at s.room.price-fits in
        rw f.price-is room

    pub supplement-few : d ≤ 100
    supplement-few =
        let f = (form-told q).1 in
        let room = rw f.line-is at s.room.supplement-fits in
        rw f.supplement-is room

  module _ {cl co fo na pr : List ℕ} where
    pub skipped_stored : x ≡ Skipped → StoredAs y c (lent cl co fo na pr) c (lent cl co fo na pr)
    unfolding said_by
    skipped_stored q = record { kept = kept_refl-all _; held = λ st h known once. rw (form-told q) h }

    pub atom_stored : {a e : ℕ} → x ≡ Atom a e → StoredAs y c (lent cl co fo na pr) c (lent cl co fo na pr)
    unfolding said_by
    atom_stored q = record { kept = kept_refl-all _; held = λ st h known once. rw (form-told q).1 h }

    pub edition_stored : {n : ℕ} → x ≡ Edition n
        → StoredAs y c (lent cl co fo na pr) (of_edition c n) (lent cl co fo na pr)
    unfolding said_by
    edition_stored {n} q = record {
      kept = kept_refl-all _;
      held = λ st h known once. rw (form-told q).2 (edition-held st c _ h n);
    }

    module _ (long : Long (lent cl co fo na pr)) {r : Case} where
      pub clause_stored : {k a e n : ℕ} {m : Masks} {u : List ℕ} → x ≡ Clause k a e n → MasksOf l e na c.atoms m
          → ClauseStored (take (e - a) (drop a l)) k m c na cl r u
          → StoredAs y c (lent cl co fo na pr) r (lent u co fo na pr)
      unfolding said_by
      clause_stored {k} {a} {e} {n} {m} {u} q i h =
          let d = subst (λ w. ClauseStored w k m c na cl r u) (part_slice l a e (head-onward q)) h in
          let f = (form-told q).2 in
          let room = clause-room q in
          record {
            kept =
                lent_same
                (rw d.table_is (sets-kept clause_size (_ ∷ (_ ∷ (_ ∷ []))) cl (3 * c.clauses) (omega arith)))
                (kept_refl _ co) (kept_refl _ fo) (kept_refl _ na) (kept_refl _ pr);
            held = λ st h known once.
                rw f.line-is
                (clause-held st c _ h long f.literals (i f.literals f.literals_are) k (slice a e l)
                (rw f.line-is at known) room d);
          }

      pub constraint_stored : {at k n : ℕ} {m : Masks} {u : List ℕ} → x ≡ Constraint k at n
          → MasksOf l at na c.atoms m → ConstraintStored m k c co r u
          → StoredAs y c (lent cl co fo na pr) r (lent cl u fo na pr)
      unfolding said_by
      constraint_stored {k = k} q i d =
          let f = (form-told q).1 in
          let room = constraint-room q in
          record {
            kept =
                lent_same (kept_refl _ cl)
                (rw d.table_is
                (sets-kept constraint_size (_ ∷ (_ ∷ (_ ∷ []))) co (3 * c.constraints) (omega arith)))
                (kept_refl _ fo) (kept_refl _ na) (kept_refl _ pr);
            held = λ st h known once.
                rw f.line-is
                (constraint-held st c _ h long f.literals (i f.literals f.literals_are)
                (rw f.line-is at known) k room d);
          }

      pub seen_stored : {at : ℕ} {m : Masks} → x ≡ Seen at → MasksOf l at na c.atoms m → ObservedStored m c r
          → StoredAs y c (lent cl co fo na pr) r (lent cl co fo na pr)
      unfolding said_by
      seen_stored q i d =
          let f = form-told q in
          record {
            kept = kept_refl-all _;
            held = λ st h known once.
                rw f.line-is
                (observed-held st c _ h long (f.reading ∷ []) (i (f.reading ∷ []) f.literals_are)
                (rw f.line-is at known) d);
          }

      pub query_stored : {at d : ℕ} {u : List ℕ} → x ≡ Query at d → QueryStored l at c na fo r u
          → StoredAs y c (lent cl co fo na pr) r (lent cl co u na pr)
      unfolding said_by
      query_stored {at = at} q d =
          let f = form-told q in
          let b = first-formula-size l at f.sentence _ f.items_are in
          let small : size_of f.sentence ≤ part_size = omega (arith, s.short) in
          let room = query-room q in
          let p = formula_put f.items_are small room long.formula-long d in
          let n = encoded-length (row_of na c.atoms) f.sentence in
          record {
            kept =
                lent_same (kept_refl _ cl) (kept_refl _ co)
                (rw p.table_is (sets-kept formula_size (nodes (encoded_by _ f.sentence)) fo _ (omega arith)))
                (kept_refl _ na) (kept_refl _ pr);
            held = λ st h known once.
                rw f.line-is (query-held st c _ h long f.sentence (rw f.line-is at known) room small p);
          }

    pub cost_stored : {a e p d i v : ℕ} {u : List ℕ} → Long (lent cl co fo na pr) → x ≡ Cost a e p d
        → i ≡ row_of na c.atoms (take (e - a) (drop a l)) → v ≡ price_of p d → u ≡ with_price pr i v
        → StoredAs y c (lent cl co fo na pr) c (lent cl co fo na u)
    unfolding said_by is_second_cost
    cost_stored {a} {e} {p} {d} {i} {v} long q j k n =
        let f = (form-told q).1 in
        let atom = j ∙ ap (row_of na c.atoms) (part_slice l a e (name-onward q)) in
        let price = k ∙ ap₂ price_of f.price-is f.supplement-is in
        record {
          kept =
              lent_same (kept_refl _ cl) (kept_refl _ co) (kept_refl _ fo) (kept_refl _ na)
              (rw n (price-kept pr i v));
          held = λ st h known once.
              rw f.line-is
              (cost-held st c _ h long (slice a e l) f.price f.supplement (rw f.line-is at known)
              (rw f.line-is at once)
              (n ∙ ap₂ (with_price pr) atom price));
        }
