-- The bodies of clauses and constraints, and readings: literals on the atoms of two words. Assumes nothing.
use mathlib.Core.Path.{◌≡◌}
use mathlib.Core.Bool.{true, false, ◌&&◌, false≢true}
use mathlib.Core.List.{List}
use Prim.Native.Nat.{ℕ, zero, suc, ◌+◌, ◌<◌}
use native.Mathlib.Omega.{arith}
use lib.Dec.{ltb, eqb}
use lib.ListN.{length}
use borrow.Author.Tests.{lt-ltb, not-true}
use Rattle.program.specs.Sound.{bare, shaped}
use Rattle.text.proofs.Each.{Each, each_gives}
use Rattle.formulas.proofs.Spelling.{Lettered}
use Rattle.grammar.specs.Line.{Literal, are_named, takes, body_names}
use Rattle.grammar.proofs.LineLaws.{lettered-body}
use Rattle.names.specs.Names.{atom_of}
use Rattle.store.specs.Saying.{plain_atoms, negated_atoms}
use Rattle.checks.proofs.Naming.{name-lettered}
use Rattle.reader.proofs.WellFormed.{BitsBelow}
use Rattle.writing.specs.Lines.{literals_for}
use Rattle.way_back.proofs.Masks.{plain_back, negated_back, literals-some, literals-none, literal-names}
use Rattle.way_back.proofs.KnownNames.{NamedBy, Usable, usable}

module _ (ns : List (List ℕ)) where
  pub body-named : (ls : List Literal) → Each (Usable ns) (body_names ls) → are_named ls ≡ true
  body-named ls h =
      lettered-body ls (each_gives (Usable ns) Lettered (λ w u. name-lettered w u.0) (body_names ls) h)

  module _ (name : ℕ → List ℕ) (h : NamedBy ns name) (p q : ℕ) (b : BitsBelow (length ns) p q) where
    abbrev ls : List Literal
    ls = literals_for name p q

    pub body-usable : Each (Usable ns) (body_names ls)
    body-usable =
        literal-names name (length ns) (Usable ns) (usable ns name h) p q b.plain-lt b.negated-lt

    pub plain-again : plain_atoms ns ls ≡ p
    plain-again =
        plain_back (atom_of ns) name (length ns) h.finds p q h.few b.plain-lt b.negated-lt

    pub negated-again : negated_atoms ns ls ≡ q
    negated-again =
        negated_back (atom_of ns) name (length ns) h.finds p q h.few b.plain-lt b.negated-lt

    some : bare p q ≡ false → ltb 0 (length ls) ≡ true
    some e =
        lt-ltb 0 (length ls)
        (literals-some (atom_of ns) name (length ns) h.finds p q h.few b.plain-lt b.negated-lt e)

    none : bare p q ≡ true → eqb (length ls) 0 ≡ true
    none e = rw (literals-none name p q e)

    -- as many as a clause or a constraint of kind k takes
    pub clause-takes : (k : ℕ) → shaped k (bare p q) ≡ true → (ltb k 3 && takes k (length ls)) ≡ true
    clause-takes zero e = none e
    clause-takes (suc zero) e = none e
    clause-takes (suc (suc zero)) e = some (not-true (bare p q) e)
    clause-takes (suc (suc (suc k))) e = absurd (false≢true e)

    pub constraint-takes : (k : ℕ) → k < 2 → bare p q ≡ false → takes (3 + k) (length ls) ≡ true
    constraint-takes zero l e = some e
    constraint-takes (suc zero) l e = some e
    constraint-takes (suc (suc k)) l e = absurd (omega arith)
