-- Laws of the atoms with a cost: what they are after a line, and whether a line is a second cost; and how many editions
-- there are after a line. Assumes nothing.
use mathlib.Core.Path.{◌≡◌, refl, sym, ap, ◌∙◌, subst}
use mathlib.Core.Bool.{◌&&◌}
use mathlib.Core.List.{List, [], ◌∷◌, ◌++◌}
use Prim.Native.Nat.{ℕ, ◌+◌, ◌-◌, ◌≤◌, ◌<◌}
use native.Mathlib.Omega.{arith}
use lib.Dec.{ltb}
use lib.ListN.{length, length-append, take, drop}
use Rattle.std.specs.Prelude.{Some, None}
use Rattle.text.proofs.Slices.{part_slice}
use borrow.Author.Tests.{lt-ltb}
use Rattle.words.specs.Bits.{has, word}
use Rattle.words.proofs.Words.{has_word, is_word, word_lt}
use Rattle.text.specs.Tokens.{tokens}
use Rattle.text.proofs.Each.{Each}
use Rattle.grammar.specs.declared.line.Form.{Form}
use Rattle.grammar.specs.declared.line.Form.TheVariants.{Skipped, Clause, Constraint, Seen, Query, Cost, Atom}
use Rattle.grammar.specs.declared.line.Form.TheVariants.{Edition}
use Rattle.grammar.specs.Line.{Line, line_names}
use Rattle.grammar.specs.Bringing.{brings}
use Rattle.grammar.specs.LineOf.{line_of}
use Rattle.grammar.specs.Parsing.{FormIs}
use Rattle.program.specs.declared.case.Case.{Case}
use Rattle.names.specs.Names.{atom_of, with_names}
use Rattle.names.specs.Row.{row_of}
use Rattle.store.specs.Lent.{Lent}
use Rattle.store.specs.Held.{Long, Held}
use Rattle.store.specs.Prices.{CostRow, has_cost}
use Rattle.store.specs.Saying.{Said, said_by, is_second_cost}
use Rattle.store.specs.Masks.{with_atom}
use Rattle.store.proofs.Encoded.{Known}
use Rattle.store.proofs.Lookups.{Agree}
use Rattle.store.proofs.Held.{each-known, each-agree}
use Rattle.store.proofs.MaskLaws.{with_atom-lt, with_atom-has}
use Rattle.store.proofs.Prices.{cost_push}
use Rattle.checks.specs.Looked.{Formed}
use Rattle.checks.specs.Progress.{costed_in, cost_atom, CostAtomIs}

pub none_costed : 0 ≡ costed_in []
unfolding has_cost word
none_costed = refl

-- the atoms with a cost after a line

costed_push : (cs : List CostRow) (r : CostRow) → costed_in (cs ++ (r ∷ [])) ≡ with_atom (costed_in cs) r.atom
costed_push cs r =
    let w = costed_in cs in
    sym (is_word 64 (with_atom w r.atom) _ (with_atom-lt w r.atom (word_lt 64 (has_cost cs)))
    (λ i h.
    with_atom-has w r.atom i h
    ∙ rw (has_word 64 (has_cost cs) i h) (sym (cost_push r.atom r.price cs i))))

costed_after : (st : Said) (y : Line)
    → costed_in (said_by st y).costs ≡ with_atom (costed_in st.costs) (cost_atom (atom_of st.names) y)
unfolding said_by
costed_after st Line.skipped = refl
costed_after st Line.no_form = refl
costed_after st (Line.clause k w l) = refl
costed_after st (Line.constraint k l) = refl
costed_after st (Line.seen x) = refl
costed_after st (Line.query f) = refl
costed_after st (Line.cost w p s) = costed_push st.costs _
costed_after st (Line.atom w) = refl
costed_after st (Line.edition e) = refl

-- the editions after a line
pub editions-after : (st : Said) (y : Line)
    → length (said_by st y).editions ≡ length st.editions + (brings y).editions
unfolding said_by
editions-after st Line.skipped = omega arith
editions-after st Line.no_form = omega arith
editions-after st (Line.clause k w l) = omega arith
editions-after st (Line.constraint k l) = omega arith
editions-after st (Line.seen x) = omega arith
editions-after st (Line.query f) = omega arith
editions-after st (Line.cost w p s) = omega arith
editions-after st (Line.atom w) = omega arith
editions-after st (Line.edition e) = length-append st.editions (e ∷ [])

-- whether a line whose names are known is a second cost
second_is : (st : Said) (y : Line) → length st.names ≤ 64 → Each (Known st.names) (line_names y)
    → let a = cost_atom (atom_of st.names) y in (ltb a 64 && has (costed_in st.costs) a) ≡ is_second_cost st y
unfolding is_second_cost
second_is st Line.skipped few h = refl
second_is st Line.no_form few h = refl
second_is st (Line.clause k w l) few h = refl
second_is st (Line.constraint k l) few h = refl
second_is st (Line.seen x) few h = refl
second_is st (Line.query f) few h = refl
second_is st (Line.cost w p s) few h =
    let k : atom_of st.names w < 64 = omega (arith, h.0) in
    rw (lt-ltb (atom_of st.names w) 64 k) (has_word 64 (has_cost st.costs) (atom_of st.names w) k)
second_is st (Line.atom w) few h = refl
second_is st (Line.edition e) few h = refl

-- lookups that agree on the names of a line find the same atom
cost-atom-same : (f g : List ℕ → ℕ) (y : Line) → Each (Agree f g) (line_names y) → cost_atom f y ≡ cost_atom g y
cost-atom-same f g Line.skipped h = refl
cost-atom-same f g Line.no_form h = refl
cost-atom-same f g (Line.clause k w l) h = refl
cost-atom-same f g (Line.constraint k l) h = refl
cost-atom-same f g (Line.seen x) h = refl
cost-atom-same f g (Line.query q) h = refl
cost-atom-same f g (Line.cost w p s) h = h.0
cost-atom-same f g (Line.atom w) h = refl
cost-atom-same f g (Line.edition e) h = refl

-- where the record c and the tables t hold st with the names of the line y, whose atom is a
module _ (st : Said) (c : Case) (t : Lent) (h : Held st c t) (long : Long t) (y : Line)
    (known : with_names st.names (line_names y) ≡ st.names) {a w : ℕ}
    (e : a ≡ cost_atom (row_of t.names c.atoms) y) (g : w ≡ costed_in st.costs) where
  atom-is : a ≡ cost_atom (atom_of st.names) y
  atom-is = e ∙ cost-atom-same _ (atom_of st.names) y (each-agree st c t h long (line_names y) known)

  pub second-same : (ltb a 64 && has w a) ≡ is_second_cost st y
  second-same = rw (g, atom-is) (second_is st y h.few-names (each-known st c t h long (line_names y) known))

  pub costed_same : with_atom w a ≡ costed_in (said_by st y).costs
  costed_same = rw (g, atom-is) (sym (costed_after st y))

-- The ways out of `cost_atom`

module _ {l : List ℕ} {x : Form} (f : Formed l x) where
  form-told : {z : Form} → x ≡ z → FormIs l z (line_of (tokens l))
  form-told e = subst (λ q. FormIs l q (line_of (tokens l))) e f.form-is

  module _ {a e p d : ℕ} (q : x ≡ Cost a e p d) where
    pub name-onward : a ≤ e
    name-onward = let g = (form-told q).0 in omega arith

    pub name-within : e ≤ length l
    name-within = (form-told q).0.1

    pub atom-found : {na : List ℕ} {n r : ℕ} → r ≡ row_of na n (take (e - a) (drop a l)) → CostAtomIs l na n (Some r)
    atom-found {na} {n} h = record {
      atom-is =
          h ∙ ap (row_of na n) (part_slice l a e name-onward)
          ∙ sym (ap (cost_atom (row_of na n)) (form-told q).1.line-is);
    }

other-atom : (at : List ℕ → ℕ) (l : List ℕ) (x : Form) (y : Line) → ((a e p d : ℕ) → x ≡ Cost a e p d → ⊥)
    → FormIs l x y → cost_atom at y ≡ 64
other-atom at l Skipped y o f = rw f
other-atom at l (Clause k a e n) y o f = rw f.2.line-is
other-atom at l (Constraint k i n) y o f = rw f.1.line-is
other-atom at l (Seen i) y o f = rw f.line-is
other-atom at l (Query i d) y o f = rw f.line-is
other-atom at l (Cost a e p d) y o f = absurd (o a e p d refl)
other-atom at l (Atom a e) y o f = rw f.1
other-atom at l (Edition n) y o f = rw f.2

pub atom-none : {l na : List ℕ} {x : Form} {n : ℕ} → Formed l x → ((a e p d : ℕ) → x ≡ Cost a e p d → ⊥)
    → CostAtomIs l na n None
atom-none {l} {na} {x} {n} f o =
    record { atom-is = sym (other-atom (row_of na n) l x (line_of (tokens l)) o f.form-is) }
