-- What the program makes of a load's text, or of its refusal. Assumes nothing.
use mathlib.Core.Path.{◌≡◌, sym, ap, ◌∙◌}
use mathlib.Core.List.{List}
use Prim.Native.Nat.{ℕ, zero, suc}
use native.Mathlib.Omega.{arith}
use lib.ListN.{length}
use Rattle.system.proofs.Counting.{prefix_len_of_le}
use Rattle.std.specs.Prelude.{Result, Ok, Err}
use Rattle.refusals.specs.declared.Refusal.{Refusal}
use Rattle.refusals.specs.Refusal.{number_of, refused_as}
use Rattle.refusals.proofs.Numbers.{number_some}
use Rattle.output.proofs.Showing.{shown-within, shown_whole}
use Rattle.wording.specs.Text.{refusal_text}
use Rattle.report.specs.Operation.{ReportShown}
use Rattle.report.proofs.Showing.{report_within}
use Rattle.loading.specs.Operation.{load_refusal, Generated}
use Rattle.loading.specs.Claims.{longest_load}
use Rattle.loading.proofs.Generating.{unrefused-fits}
use Rattle.load.specs.Program.{load_answer, Answered}

-- what is answered for the load, and the number of its refusal
module _ (s n c : ℕ) {out u : List ℕ} {r : Result ℕ Refusal} (g : Generated s n c out r u)
    (room : length out ≡ longest_load) where
  refusal : refused_as r ≡ load_refusal s n c longest_load
  refusal = g.refusal_is ∙ ap (load_refusal s n c) room

module _ (s n c : ℕ) {out u : List ℕ} (room : length out ≡ longest_load) where
  pub text-answered : {m : ℕ} → Generated s n c out (Ok m) u → Answered s n c m u
  text-answered {m} g =
      let e : load_refusal s n c longest_load ≡ 0 = sym (refusal s n c g room) in
      record {
        counted = prefix_len_of_le m u (shown-within _ g (λ i. unrefused-fits s n c (length out) i));
        text-is = rw e (shown_whole g);
      }

  pub refusal-answered : {e : Refusal} → Generated s n c out (Err e) u → {v w : List ℕ} {q : ℕ}
      → ReportShown (refusal_text (number_of e) 0) v (Ok q) w → Answered s n c q w
  refusal-answered {e} g h = record {
    counted = prefix_len_of_le _ _ (report_within h);
    text-is =
        shown_whole h
        ∙ told (number_of e) (refusal s n c g room) (λ z. let k = number_some e in omega (arith, z));
  }
    where
      told : (k : ℕ) → k ≡ load_refusal s n c longest_load → (k ≡ 0 → ⊥) → refusal_text k 0 ≡ load_answer s n c
      told zero e f = absurd (f cc)
      told (suc k) e f = rw (← e)
