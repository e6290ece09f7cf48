-- Lines all of whose names were read before, and the room that a line needs.
--
--   NamedBy ns name    name gives the names ns by their numbers
--   Usable ns w        w is a name, and one of ns
-- Assumes nothing.
use mathlib.Core.Path.{◌≡◌, refl, sym, ap, subst}
use mathlib.Core.Bool.{true, false}
use mathlib.Core.List.{List}
use Prim.Native.Nat.{ℕ, ◌+◌, ◌≤◌, ◌<◌}
use native.Mathlib.Nat.{mul-zero}
use native.Mathlib.Omega.{arith}
use lib.ListN.{length}
use Rattle.text.proofs.Each.{Each, each_gives}
use Rattle.grammar.specs.Line.{Line, is_line, line_names}
use Rattle.grammar.specs.declared.brings.Brings.{Brings}
use Rattle.grammar.specs.Bringing.{brings}
use Rattle.names.specs.Names.{atom_of, with_names}
use Rattle.names.proofs.Adding.{with_names-known}
use Rattle.store.specs.Prices.{price_of}
use Rattle.store.specs.Saying.{Said, said_by, is_second_cost}
use Rattle.store.proofs.Prices.{supplement-near}
use Rattle.store.proofs.Encoded.{Known}
use Rattle.store.proofs.Lookups.{Finds}
use Rattle.checks.specs.Naming.{IsName}
use Rattle.writing.specs.Lines.{line_text}
use Rattle.way_back.proofs.Fits.{named_by, after, RoomFor, Fits}

pub record NamedBy (ns : List (List ℕ)) (name : ℕ → List ℕ) : Type 0 where
  pub few : length ns ≤ 64
  pub finds : Finds (atom_of ns) name (length ns)
  pub are_names : (a : ℕ) → a < length ns → IsName (name a)

abbrev pub Usable : List (List ℕ) → List ℕ → Type 0
Usable ns w = IsName w × Known ns w

pub usable : (ns : List (List ℕ)) (name : ℕ → List ℕ) → NamedBy ns name → (a : ℕ) → a < length ns
    → Usable ns (name a)
usable ns name h a l = (h.are_names a l, rw (h.finds a l) l)

-- a line with names that are known
module _ (st : Said) (x : Line) (u : Each (Usable st.names) (line_names x)) where
  same_names : with_names st.names (line_names x) ≡ st.names
  same_names =
      with_names-known st.names (line_names x)
      (each_gives _ (Known st.names) (λ w h. h.1) (line_names x) u)

  same-said : named_by st x ≡ st
  same-said = rw same_names

  pub known-says : after st x ≡ said_by st x
  known-says = ap (λ s. said_by s x) same-said

  pub known-fits : is_line x ≡ true → length (line_text x) ≤ 200 → (brings x).depth ≤ 16
      → RoomFor st (is_second_cost st x) (brings x) → length st.editions + (brings x).editions ≤ 1 → Fits st x
  known-fits i s d r e = record {
    is-line = i;
    named = each_gives _ IsName (λ w h. h.0) (line_names x) u;
    short = s;
    not_deep = d;
    room = subst (λ v. RoomFor v (is_second_cost v x) (brings x)) (sym same-said) r;
    editions-few = e;
  }

-- room
pub price-alone : (p : ℕ) → price_of p 0 ≡ p
price-alone p = omega (arith, (supplement-near p 0).0, mul-zero p)

module _ (st : Said) where
  -- of a line that brings no price
  pub room-rows : (b : Brings) → b.price ≡ 0 → b.supplement ≡ 0 → length st.names ≤ 64
      → length st.clauses + b.clauses ≤ 256 → length st.constraints + b.constraints ≤ 32
      → length st.queries + b.queries ≤ 16 → RoomFor st false b
  room-rows b p s h i j k = record {
    names-few = h;
    clauses-few = i;
    constraints-few = j;
    price-few = omega arith;
    worked_out_few = rw (p, s, price-alone 0) (omega arith);
    supplement-few = omega arith;
    not-second = refl;
    queries-few = k;
  }
