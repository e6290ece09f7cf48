-- Laws of lines written one behind the other, and of the room they take. Assumes nothing.
use mathlib.Core.Path.{◌≡◌, refl, sym, ap, ◌∙◌}
use mathlib.Core.Bool.{false, ◌||◌, or_assoc, or-false}
use mathlib.Core.List.{List, [], ◌∷◌, ◌++◌}
use Prim.Native.Nat.{ℕ, ◌-◌, ◌≤◌}
use native.Mathlib.Omega.{arith}
use lib.Dec.{ltb}
use lib.ListN.{length}
use borrow.Author.Tests.{ltb-false}
use Rattle.words.proofs.Tests.{or_false_l, or_false_r}
use Rattle.text.specs.Tokens.{Token}
use Rattle.text.specs.Spelled.{spelled, text_of}
use Rattle.text.proofs.Each.{Each}
use Rattle.text.proofs.Spelled.{text-none, text-one, text-append}
use Rattle.output.specs.Writing.{Room, Writes}
use Rattle.output.proofs.Laying as laying
use Rattle.spelling.specs.declared.Pen.{Pen}
use Rattle.spelling.specs.declared.Page.{Page}
use Rattle.spelling.specs.Pen.{Spells}
use Rattle.spelling.specs.Page.{some_long_line, start_of, Ends, Sets}
use Rattle.spelling.proofs.Pens.{spells-writes}

-- some_long_line

long-append : (ls ms : List (List ℕ)) → some_long_line (ls ++ ms) ≡ (some_long_line ls || some_long_line ms)
unfolding some_long_line
long-append [] ms = refl
long-append (l ∷ ls) ms =
    ap (λ b. ltb 200 (length l) || b) (long-append ls ms) ∙ sym (or_assoc (ltb 200 (length l)) _ _)

-- lines none of which is long
pub short-lines : (ls : List (List ℕ)) → some_long_line ls ≡ false → Each (λ l. length l ≤ 200) ls
unfolding some_long_line
short-lines [] h = tt
short-lines (l ∷ ls) h = (
  ltb-false 200 (length l) (or_false_l _ (some_long_line ls) h),
  short-lines ls (or_false_r (ltb 200 (length l)) _ h),
)

-- Sets

pub sets-none : (out : List ℕ) (g : Page) → Sets [] out g g out
unfolding some_long_line
sets-none out g =
    let w : Writes (text_of []) out g.at g.at out = rw text-none (laying.writes-none out g.at) in
    record { place_is = w.place_is; long-is = sym (or-false g.long); out_is = w.out_is }

module _ {ls : List (List ℕ)} {out out₁ : List ℕ} {g r : Page} (h : Sets ls out g r out₁) where
  pub sets-writes : Writes (text_of ls) out g.at r.at out₁
  sets-writes = record { place_is = h.place_is; out_is = h.out_is }

  pub sets-length : length out₁ ≡ length out
  sets-length = laying.writes-length sets-writes

module _ {ls : List (List ℕ)} {out out₁ : List ℕ} {g q : Page} (h : Sets ls out g q out₁) (ms : List (List ℕ)) where
  pub sets-both : {r : Page} {out₂ : List ℕ} → Sets ms out₁ q r out₂ → Sets (ls ++ ms) out g r out₂
  sets-both {r} {out₂} k =
      let w : Writes (text_of (ls ++ ms)) out g.at r.at out₂ =
      rw text-append (laying.writes-append (sets-writes h) (sets-writes k)) in
      record {
        place_is = w.place_is;
        long-is = k.long-is
            ∙ ap (λ b. b || some_long_line ms) h.long-is
            ∙ or_assoc g.long (some_long_line ls) (some_long_line ms)
            ∙ ap (λ b. g.long || b) (sym (long-append ls ms));
        out_is = w.out_is;
      }

  pub lines-room-behind : Room (text_of (ls ++ ms)) g.at → Room (text_of ms) q.at
  lines-room-behind k =
      laying.room-behind (text_of ls) (text_of ms) g.at (rw text-append at k) h.place_is

pub lines-room-before : (ls ms : List (List ℕ)) (at : ℕ) → Room (text_of (ls ++ ms)) at → Room (text_of ls) at
lines-room-before ls ms at k = laying.room-front (text_of ls) (text_of ms) at (rw text-append at k)

-- one line

pub line-room : (ts : List Token) (g : Page) → Room (text_of (spelled ts ∷ [])) g.at → Room (spelled ts) g.at
line-room ts g k = laying.room-front (spelled ts) (10 ∷ []) g.at (rw text-one at k)

module _ {ts : List Token} (g : Page) {p : Pen} {out out₁ : List ℕ} (h : Spells ts out (start_of g) p out₁) where
  pub line_set : {r : Page} {out₂ : List ℕ} → Ends g p out₁ r out₂ → Sets (spelled ts ∷ []) out g r out₂
  unfolding some_long_line
  line_set {r} {out₂} e =
      let feed : Writes (10 ∷ []) out₁ p.at r.at out₂ = record { place_is = e.place_is; out_is = e.out_is } in
      let w : Writes (text_of (spelled ts ∷ [])) out g.at r.at out₂ =
      rw text-one (laying.writes-append (spells-writes h) feed) in
      let n : p.at - g.at ≡ length (spelled ts) = omega (arith, h.place_is) in
      record {
        place_is = w.place_is;
        long-is = e.long-is ∙ ap (λ b. g.long || b) (ap (ltb 200) n ∙ sym (or-false (ltb 200 (length (spelled ts)))));
        out_is = w.out_is;
      }
