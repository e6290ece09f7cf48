-- What the walk counts setting by setting.
--
--   no_counts n        the counts before the first setting, for n queries
--   counts_with k v    the counts k with one minimal explanation more, in which query q has the value v q
--   told_with k q x    the counts k with the value x of query q in a minimal explanation
--   verdicts_by k n    the verdicts on the first n queries by the counts k
--   Counted J cs s k   k are the counts over the settings below s
use Rattle.std.specs.Prelude.{◌≡◌, true, ◌&&◌, List, ℕ, ◌+◌, length}
use Rattle.words.specs.Choice.{pick}
use Rattle.words.specs.Bits.{has, word}
use Rattle.words.specs.OneBit.{without_bit}
use Rattle.words.specs.Lists.{list_of}
use Rattle.logic.specs.declared.value.Value.{Value}
use Rattle.logic.specs.Value.{is_true, is_false}
use Rattle.explanation.specs.Judge.{Judge}
use Rattle.verdict.specs.declared.verdict.Verdict.{Verdict}
use Rattle.verdict.specs.declared.counts.Counts.{Counts}
use Rattle.verdict.specs.Walk.{minimals_below, true_in_all, false_in_all, verdict_by}

abbrev pub no_counts : ℕ → Counts
no_counts n = record { minimal = 0; follows = word n (λ q. true); denied = word n (λ q. true) }

abbrev pub counts_with : Counts → (ℕ → Value) → Counts
counts_with k v = record {
  minimal = k.minimal + 1;
  follows = word 64 (λ q. has k.follows q && is_true (v q));
  denied = word 64 (λ q. has k.denied q && is_false (v q));
}

abbrev pub told_with : Counts → ℕ → Value → Counts
told_with k q x = record {
  minimal = k.minimal;
  follows = pick (is_true x) k.follows (without_bit k.follows q);
  denied = pick (is_false x) k.denied (without_bit k.denied q);
}

abbrev pub verdicts_by : Counts → ℕ → List Verdict
verdicts_by k n = list_of n (λ q. verdict_by k.minimal (has k.follows q) (has k.denied q))

-- bit q of the two words says that query q is true, and that it is false, under each minimal setting
pub record Counted (J : Judge) (cs : List ℕ) (s : ℕ) (k : Counts) : Type 0 where
  pub minimal-is : k.minimal ≡ length (minimals_below J cs s)
  pub follows_are : k.follows ≡ word J.queries (λ q. true_in_all J q (minimals_below J cs s))
  pub denied_are : k.denied ≡ word J.queries (λ q. false_in_all J q (minimals_below J cs s))
