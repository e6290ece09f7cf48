-- Where a walk over the settings stands before setting s.
--
--   Left ..        what it has left in the list, of which w slots are written, and in the work area
--   Visited ..     what it has found in the settings below s, and what it has left
use Rattle.std.specs.Prelude.{◌≡◌, List, ◌++◌, ℕ, min, length, take, drop}
use Rattle.explanation.specs.Judge.{Judge}
use Rattle.verdict.specs.declared.visit.Found.{Found}
use Rattle.verdict.specs.Walk.{bytes_below, minimals_below}
use Rattle.verdict.specs.Counting.{Counted}

-- the list and the work area were list₀ and work₀
pub record Left (J : Judge) (cs list₀ work₀ : List ℕ) (s w : ℕ) (list work : List ℕ) : Type 0 where
  pub work_is : work ≡ bytes_below J cs s ++ drop s work₀
  pub list_is : list ≡ take w (minimals_below J cs s) ++ drop w list₀
  pub written_is : w ≡ min (length (minimals_below J cs s)) (length list₀)

pub record Visited (J : Judge) (cs list₀ work₀ : List ℕ) (s : ℕ) (f : Found) (list work : List ℕ) : Type 0 where
  pub counted : Counted J cs s f.counts
  pub left : Left J cs list₀ work₀ s f.written list work
