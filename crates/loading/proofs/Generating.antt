-- The refusals of generating one after the other, and the text where there is none. Assumes nothing.
use mathlib.Core.Path.{◌≡◌, refl, sym, ◌∙◌}
use mathlib.Core.Bool.{Bool, true, false}
use mathlib.Core.List.{List, [], ◌∷◌, map}
use Prim.Native.Nat.{ℕ, ◌≤◌, ◌<◌}
use native.Mathlib.Nat.{zero-add}
use native.Mathlib.Omega.{arith}
use lib.Dec.{leb}
use lib.ListN.{length}
use borrow.Author.Tests.{leb-true, le-leb, lt-leb}
use Rattle.std.specs.Prelude.{Ok, Err}
use Rattle.refusals.specs.declared.Refusal.{Refusal}
use Rattle.refusals.specs.Refusal.{number_of}
use Rattle.words.specs.Choice.{check}
use Rattle.words.proofs.Checks.{none-failed}
use Rattle.output.specs.Writing.{Room}
use Rattle.output.proofs.Showing.{shown-refused, shown-written}
use Rattle.spelling.specs.declared.Page.{Page}
use Rattle.spelling.specs.Page.{Sets}
use Rattle.spelling.proofs.Pages.{sets-writes}
use Rattle.writing.specs.Lines.{line_text}
use Rattle.writing.specs.Steps.{first_page}
use Rattle.loading.specs.Load.{load_lines, load_text}
use Rattle.loading.specs.Operation.{is_load, load_refusal, Generated}
use Rattle.loading.proofs.Sizes.{load_limits}
use Rattle.loading.proofs.Theorems.{load_fits}

-- ---- whether there is a load
module _ (n c : ℕ) where
  -- behind that test there are an atom and room for the text
  pub load_ready : (s : ℕ) {b : Bool} → b ≡ is_load n c → b ≡ true → (0 < n) × Room (load_text s n c) 0
  load_ready s {b} e h =
      let l : is_load n c ≡ true = sym e ∙ h in
      ((load_limits n c l).some, record { fits = omega (arith, load_fits s n c l) })

-- ---- the refusals
module _ (s n c : ℕ) (out : List ℕ) where
  refused-with : (r : Refusal) → load_refusal s n c (length out) ≡ number_of r → Generated s n c out (Err r) out
  refused-with r e = rw e (shown-refused r (load_text s n c) out)

  module _ {b : Bool} (e : b ≡ is_load n c) where
    pub out_of_range : b ≡ false → Generated s n c out (Err Refusal.NoLoad) out
    unfolding load_refusal
    out_of_range h = refused-with Refusal.NoLoad first
      where
        first : load_refusal s n c (length out) ≡ 22
        first = rw (← e, h)

    -- the first pass, to a spare output
    module _ (h : b ≡ true) {spare spare₁ : List ℕ} {g : Page}
        (w : Sets (map line_text (load_lines s n c)) spare first_page g spare₁) where
      size : g.at ≡ length (load_text s n c)
      size = w.place_is ∙ zero-add _

      pub output_short : length out < g.at → Generated s n c out (Err Refusal.ShortLoadOutput) out
      unfolding load_refusal
      output_short k = refused-with Refusal.ShortLoadOutput second
        where
          second : load_refusal s n c (length out) ≡ 23
          second = rw (← e, h, ← size, lt-leb g.at (length out) k)

      pub load_written : g.at ≤ length out → {r : Page} {u : List ℕ}
          → Sets (map line_text (load_lines s n c)) out first_page r u → Generated s n c out (Ok g.at) u
      unfolding load_refusal
      load_written k v = rw none (shown-written size k (sets-writes v))
        where
          none : load_refusal s n c (length out) ≡ 0
          none = rw (← e, h, ← size, le-leb g.at (length out) k)

-- where nothing is refused the text fits the output
pub unrefused-fits : (s n c m : ℕ) → load_refusal s n c m ≡ 0 → length (load_text s n c) ≤ m
unfolding load_refusal
unrefused-fits s n c m h =
    let room = check 23 (leb (length (load_text s n c)) m) ∷ [] in
    leb-true (length (load_text s n c)) m (none-failed (check 22 (is_load n c) ∷ room) refl h).1.0
