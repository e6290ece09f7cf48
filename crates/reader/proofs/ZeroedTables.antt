-- Laws of tables that are zeroed in their sizes. Assumes nothing.
use mathlib.Core.Path.{◌≡◌, ◌∙◌}
use mathlib.Core.List.{List, ◌++◌}
use Prim.Native.Nat.{ℕ, ◌≤◌}
use lib.ListN.{length, take, drop, replicate}
use Rattle.program.specs.Case.{clause_size, constraint_size, formula_size, name_size, price_size}
use Rattle.table.proofs.Zeroing.{zeroed_front}
use Rattle.store.specs.Lent.{Lent, lent}
use Rattle.store.specs.Saying.{nothing_said}
use Rattle.store.specs.Tables.{words_of}
use Rattle.store.specs.Held.{Long, Kept}
use Rattle.store.proofs.FilledLent.{lent_same, filled_with-kept}
use Rattle.store.proofs.KeptTables.{SameLengths, kept_lengths, kept-long, nothing-filled, nothing-held}
use Rattle.reader.specs.Steps.{Zeroed, Ready}

-- as many zeros as the first n entries of a table
abbrev pub zeros : ℕ → List ℕ → List ℕ
zeros n t = replicate (length (take n t)) 0

-- each of the five tables t with zeros for its first entries
pub zeroed : {t : Lent} {a b d e g : List ℕ} → Long t → a ≡ zeros clause_size t.clauses
    → b ≡ zeros constraint_size t.constraints → d ≡ zeros formula_size t.formula → e ≡ zeros name_size t.names
    → g ≡ zeros price_size t.prices
    → Zeroed t
    (lent (a ++ drop clause_size t.clauses) (b ++ drop constraint_size t.constraints)
    (d ++ drop formula_size t.formula) (e ++ drop name_size t.names) (g ++ drop price_size t.prices))
zeroed {t} l a b d e g = record {
  tables_are =
      lent_same (zeroed_front clause_size t.clauses _ l.clauses-long a)
      (zeroed_front constraint_size t.constraints _ l.constraints-long b)
      (zeroed_front formula_size t.formula _ l.formula-long d)
      (zeroed_front name_size t.names _ l.names-long e) (zeroed_front price_size t.prices _ l.prices-long g)
      ∙ nothing-filled t;
}

pub zeroed-kept : (t u : Lent) → Zeroed t u → Kept t u
zeroed-kept t u z = filled_with-kept (words_of nothing_said) t u z.tables_are

pub zeroed_lengths : {t u : Lent} → Zeroed t u → SameLengths t u
zeroed_lengths {t} {u} z = kept_lengths t u (zeroed-kept t u z)

pub zeroed_ready : {f : List ℕ} {t u : Lent} → Zeroed t u → Long t → length f ≤ 32768 → Ready f u
zeroed_ready {f} {t} {u} z l s =
    record { short = s; long = kept-long t u (zeroed-kept t u z) l; held = nothing-held t u z.tables_are }
