-- How the text of layers, and of a ring, is written: the room that its pieces take, and the pieces one behind another.
-- Assumes nothing.
use mathlib.Core.Path.{◌≡◌, ap}
use mathlib.Core.List.{List, [], ◌++◌, map}
use Prim.Native.Nat.{ℕ, ◌+◌, ◌*◌, ◌≤◌, ◌<◌}
use native.Mathlib.Omega.{arith}
use lib.ListN.{length, get_or, length-append}
use Rattle.words.specs.Lists.{list_of}
use Rattle.words.proofs.Lists.{list_of-length, list_of-at}
use Rattle.text.specs.Bytes.{bytes}
use Rattle.names.specs.Row.{name_in}
use Rattle.output.specs.Decimal.{decimal}
use Rattle.output.specs.Forms.{spaced}
use Rattle.output.specs.Writing.{Writes, text_limit, Room}
use Rattle.output.proofs.FormTexts.{line_end, line-parts, line-two, spaced_nil}
use Rattle.output.proofs.Laying.{writes-append, room-front, room-behind}
use Rattle.wording.proofs.Naming.{spaced_name, spaced-lines}
use Rattle.wording.proofs.Listings.{AtLine, line-start, line-room, line-more, line-end}
use Rattle.layer_report.specs.Text.{layer_line, layer_lines, numbers_text, ring_text}
use Rattle.layer_report.specs.Entries.{Atoms}

-- ---- the line of an atom
layer_text : (name : ℕ → List ℕ) (ks : List ℕ) (a : ℕ) → layer_line name ks a
    ≡ bytes "(layer " ++ (name a ++ (bytes " " ++ (decimal (get_or ks a 0) ++ line_end)))
unfolding layer_line
layer_text name ks a = line-two (bytes "layer") (name a) (decimal (get_or ks a 0))

pub layer_room : (name : ℕ → List ℕ) (ks : List ℕ) (a : ℕ) {at : ℕ} → Room (layer_line name ks a) at
    → at + (10 + length (name a) + length (decimal (get_or ks a 0))) ≤ text_limit
layer_room name ks a h = omega (arith, simp length-append at (rw (layer_text name ks a) at h.fits))

pub layer_written : {out out₁ out₂ out₃ out₄ out₅ : List ℕ} {at i j k l r : ℕ} (name : ℕ → List ℕ) (ks : List ℕ)
    (a : ℕ) → Writes (bytes "(layer ") out at i out₁ → Writes (name a) out₁ i j out₂ → Writes (bytes " ") out₂ j k out₃
    → Writes (decimal (get_or ks a 0)) out₃ k l out₄ → Writes line_end out₄ l r out₅
    → Writes (layer_line name ks a) out at r out₅
layer_written name ks a p q s t u =
    rw (layer_text name ks a) (writes-append p (writes-append q (writes-append s (writes-append t u))))

-- ---- the walk over the atoms
-- the lines of the atoms are written to out from place at on; those from atom a on are left, and come to out₁ from
-- place m on
abbrev pub AtAtom : (ℕ → List ℕ) → List ℕ → List ℕ → ℕ → ℕ → ℕ → List ℕ → Type 0
AtAtom name ks out at a m out₁ = AtLine (layer_line name ks) (list_of (length ks) (λ a. a)) out at a m out₁

module _ (name : ℕ → List ℕ) (ks : List ℕ) where
  pub atom-start : (out : List ℕ) (at : ℕ) → AtAtom name ks out at 0 at out
  atom-start out at = line-start _ _ out at

  module _ {at a m : ℕ} {out out₁ : List ℕ} (h : AtAtom name ks out at a m out₁) where
    pub atom-room : a < length ks → Room (layer_lines name ks) at → Room (layer_line name ks a) m
    atom-room l r =
        rw (list_of-at (length ks) (λ x. x) a 0 l)
        at (line-room _ h (omega (arith, list_of-length (length ks) (λ x. x))) r)

    pub atom-more : {r : ℕ} {out₂ : List ℕ} → a < length ks → Writes (layer_line name ks a) out₁ m r out₂
        → AtAtom name ks out at (a + 1) r out₂
    atom-more l w =
        line-more _ h (omega (arith, list_of-length (length ks) (λ x. x)))
        (rw (list_of-at (length ks) (λ x. x) a 0 l) w)

    pub atom-end : length ks ≤ a → Writes (layer_lines name ks) out at m out₁
    atom-end l = line-end _ h (omega (arith, list_of-length (length ks) (λ x. x)))

-- ---- the text of a layered case
module _ (name : ℕ → List ℕ) (ks : List ℕ) where
  numbers-text : numbers_text name ks ≡ bytes "(layered)\n" ++ layer_lines name ks
  unfolding numbers_text
  numbers-text = ap (λ (t : List ℕ). t ++ layer_lines name ks) (rw spaced_nil at (line-parts (bytes "layered") []))

  pub numbers-room : {at : ℕ} → Room (numbers_text name ks) at → at + (10 + length (layer_lines name ks)) ≤ text_limit
  numbers-room h = omega (arith, rw numbers-text at h.fits)

  pub numbers-written : {out out₁ out₂ : List ℕ} {at i r : ℕ} → Writes (bytes "(layered)\n") out at i out₁
      → Writes (layer_lines name ks) out₁ i r out₂ → Writes (numbers_text name ks) out at r out₂
  numbers-written p q = rw numbers-text (writes-append p q)

-- ---- the walk over a ring
-- the names of the atoms l by the table t are written to out from place at on; those from entry k on are left, and come
-- to out₁ from place m on
abbrev pub AtName : List ℕ → List ℕ → List ℕ → ℕ → ℕ → ℕ → List ℕ → Type 0
AtName t l out at k m out₁ = AtLine (spaced_name (name_in t)) l out at k m out₁

-- the row of an atom lies within the table
pub name-row : (t l : List ℕ) (k : ℕ) → Atoms l → k < length l → 1024 ≤ length t → 16 * get_or l k 0 + 16 ≤ length t
name-row t l k h s r = omega (arith, h.below k s)

module _ (t l : List ℕ) where
  pub name-start : (out : List ℕ) (at : ℕ) → AtName t l out at 0 at out
  name-start out at = line-start _ l out at

  module _ {at k m : ℕ} {out out₁ : List ℕ} (h : AtName t l out at k m out₁) where
    entry-room : k < length l → Room (spaced (map (name_in t) l)) at → Room (spaced_name (name_in t) (get_or l k 0)) m
    entry-room s r = line-room _ h s (rw (spaced-lines (name_in t) l) at r)

    pub space_room : k < length l → Room (spaced (map (name_in t) l)) at → Room (bytes " ") m
    space_room s r = room-front (bytes " ") (name_in t (get_or l k 0)) m (entry-room s r)

    pub name-room : {i : ℕ} {out₂ : List ℕ} → k < length l → Room (spaced (map (name_in t) l)) at
        → Writes (bytes " ") out₁ m i out₂ → Room (name_in t (get_or l k 0)) i
    name-room s r w = room-behind (bytes " ") (name_in t (get_or l k 0)) m (entry-room s r) w.place_is

    pub name-more : {i r : ℕ} {out₂ out₃ : List ℕ} → k < length l → Writes (bytes " ") out₁ m i out₂
        → Writes (name_in t (get_or l k 0)) out₂ i r out₃ → AtName t l out at (k + 1) r out₃
    name-more s p q = line-more _ h s (writes-append p q)

    pub name-end : length l ≤ k → Writes (spaced (map (name_in t) l)) out at m out₁
    name-end s = rw (spaced-lines (name_in t) l) (line-end _ h s)

-- ---- the line of a ring
module _ (name : ℕ → List ℕ) (l : List ℕ) where
  ring-text : ring_text name l ≡ bytes "(ring" ++ (spaced (map name l) ++ line_end)
  unfolding ring_text
  ring-text = line-parts (bytes "ring") (map name l)

  pub ring-room : {at : ℕ} → Room (ring_text name l) at → at + (7 + length (spaced (map name l))) ≤ text_limit
  ring-room h = omega (arith, simp length-append at (rw ring-text at h.fits))

  pub ring-written : {out out₁ out₂ out₃ : List ℕ} {at i j r : ℕ} → Writes (bytes "(ring") out at i out₁
      → Writes (spaced (map name l)) out₁ i j out₂ → Writes line_end out₂ j r out₃
      → Writes (ring_text name l) out at r out₃
  ring-written p q s = rw ring-text (writes-append p (writes-append q s))
