-- The bodies of a case are as long as those of what it says, and as those of what was read, where it was read: then
-- each holds at most 11 literals. Assumes nothing.
use mathlib.Core.Path.{◌≡◌, refl, sym, ap, ap₂, subst, ◌∙◌}
use mathlib.Core.List.{List, ◌++◌, map}
use Prim.Native.Nat.{ℕ, ◌≤◌, ◌<◌}
use lib.ListN.{length, get_or}
use Rattle.words.specs.Lists.{list_of}
use Rattle.words.proofs.Lists.{list_of-map, list_of_ext, list_of_is}
use Rattle.std.specs.Prelude.{Result}
use Rattle.program.specs.declared.case.Case.{Case}
use Rattle.text.proofs.Each.{each_at}
use Rattle.store.specs.Lent.{Lent}
use Rattle.store.proofs.BodySizes.{clause_body, constraint_body, said_bodies}
use Rattle.store.proofs.FilledRows.{no_row, no_constraint, clause-is, constraint-is}
use Rattle.reader.specs.declared.read.Refused.{Refused}
use Rattle.reader.specs.Answers.{case_in}
use Rattle.reader.proofs.FileSays.{Accepted}
use Rattle.reader.proofs.WellFormed.{WellFormed}
use Rattle.reader.proofs.WellFormedLines.{accepted-formed}
use Rattle.reader.proofs.Bodies.{accepted_bodies}
use Rattle.writing.specs.Used.{clause_in, constraint_in, said_of}
use Rattle.way_back.specs.Bodies.{body_size, body_sizes, AllFew}

pub said-bodies : (c : Case) (t : Lent) → body_sizes c t ≡ said_bodies (said_of c t)
said-bodies c t =
    sym (ap₂ ◌++◌ (list_of-map c.clauses (clause_in t.clauses) clause_body)
    (list_of-map c.constraints (constraint_in t.constraints) constraint_body))

-- the sizes of the entries of l
sizes_are : {A : Type 0} (size : A → ℕ) (l : List A) (d : A) (f : ℕ → ℕ)
    → ((k : ℕ) → k < length l → f k ≡ size (get_or l k d)) → list_of (length l) f ≡ map size l
sizes_are size l d f same =
    list_of_ext (length l) f _ same ∙ sym (list_of-map (length l) (λ k. get_or l k d) size)
    ∙ ap (map size) (list_of_is l d _ (λ k h. refl))

module _ (f : List ℕ) (t u : Lent) (r : Result Case Refused) (a : Accepted f t u r) where
  formed : WellFormed a.said
  formed = (accepted-formed f a.said a.file-is).formed

  read_bodies : body_sizes (case_in r) u ≡ said_bodies a.said
  read_bodies =
      let cs = a.said.clauses in
      let ds = a.said.constraints in
      rw (a.found-is, a.tables_are)
      (ap₂ ◌++◌
      (sizes_are clause_body cs no_row _ (λ k l.
      let w = clause-is cs t.clauses a.long.clauses-long formed.clauses.few k l in
      ap₂ body_size w.plain-is w.negated-is))
      (sizes_are constraint_body ds no_constraint _ (λ k l.
      let w = constraint-is ds t.constraints a.long.constraints-long formed.constraints.few k l in
      ap₂ body_size w.plain-is w.negated-is)))

  pub read-few : AllFew (body_sizes (case_in r) u)
  read-few =
      subst AllFew (sym read_bodies)
      (λ k h. each_at (λ n. n ≤ 11) (said_bodies a.said) k 0 (accepted_bodies f a.said a.file-is) h)
