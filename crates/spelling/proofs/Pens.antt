-- Laws of tokens written one behind the other, and of the room they take. Assumes nothing.
use mathlib.Core.Path.{◌≡◌, refl, sym, ap, ◌∙◌}
use mathlib.Core.Bool.{Bool, true, false}
use mathlib.Core.List.{List, [], ◌∷◌, ◌++◌, append_assoc, append-nil}
use Prim.Native.Nat.{ℕ}
use lib.ListN.{length}
use Rattle.text.specs.Tokens.{Token}
use Rattle.text.specs.Spelled.{spelled_from}
use Rattle.output.specs.Writing.{Room, Writes}
use Rattle.output.proofs.Laying as laying
use Rattle.spelling.specs.declared.Pen.{Pen}
use Rattle.spelling.specs.Pen.{gap_of, behind_of, inked, Spells}

-- spelled_from, behind_of

pub spelled-append : (b : Bool) (ts us : List Token)
    → spelled_from b (ts ++ us) ≡ spelled_from b ts ++ spelled_from (behind_of b ts) us
unfolding spelled_from behind_of
spelled-append b [] us = refl
spelled-append b (Token.opening ∷ ts) us = ap (λ l. 40 ∷ l) (spelled-append false ts us)
spelled-append b (Token.closing ∷ ts) us = ap (λ l. 41 ∷ l) (spelled-append false ts us)
spelled-append false (Token.word w ∷ ts) us = ap (λ l. w ++ l) (spelled-append true ts us) ∙ sym (append_assoc w _ _)
spelled-append true (Token.word w ∷ ts) us =
    ap (λ l. 32 ∷ (w ++ l)) (spelled-append true ts us) ∙ ap (λ l. 32 ∷ l) (sym (append_assoc w _ _))

behind-append : (b : Bool) (ts us : List Token) → behind_of b (ts ++ us) ≡ behind_of (behind_of b ts) us
unfolding behind_of
behind-append b [] us = refl
behind-append b (Token.opening ∷ ts) us = behind-append false ts us
behind-append b (Token.closing ∷ ts) us = behind-append false ts us
behind-append b (Token.word w ∷ ts) us = behind-append true ts us

word-spelled : (b : Bool) (w : List ℕ) → spelled_from b (Token.word w ∷ []) ≡ gap_of b ++ w
unfolding spelled_from gap_of
word-spelled true w = ap (λ l. 32 ∷ l) (append-nil w)
word-spelled false w = append-nil w

-- Spells

pub spells-none : (out : List ℕ) (p : Pen) → Spells [] out p p out
unfolding spelled_from behind_of
spells-none out p = record {
  place_is = (laying.writes-none out p.at).place_is;
  behind-is = refl;
  out_is = (laying.writes-none out p.at).out_is;
}

module _ {ts : List Token} {out out₁ : List ℕ} {p q : Pen} where
  pub spells-writes : Spells ts out p q out₁ → Writes (inked p ts) out p.at q.at out₁
  spells-writes h = record { place_is = h.place_is; out_is = h.out_is }

  pub writes-spells : Writes (inked p ts) out p.at q.at out₁ → q.behind ≡ behind_of p.behind ts
      → Spells ts out p q out₁
  writes-spells w e = record { place_is = w.place_is; behind-is = e; out_is = w.out_is }

  pub spells-length : Spells ts out p q out₁ → length out₁ ≡ length out
  spells-length h = laying.writes-length (spells-writes h)

module _ {ts : List Token} {out out₁ : List ℕ} {p q : Pen} (h : Spells ts out p q out₁) (us : List Token) where
  inked-both : inked p (ts ++ us) ≡ inked p ts ++ inked q us
  inked-both = rw h.behind-is (spelled-append p.behind ts us)

  pub spells-both : {r : Pen} {out₂ : List ℕ} → Spells us out₁ q r out₂ → Spells (ts ++ us) out p r out₂
  spells-both {r} {out₂} k =
      writes-spells
      (rw inked-both (laying.writes-append (spells-writes h) (spells-writes k)))
      (k.behind-is ∙ ap (λ b. behind_of b us) h.behind-is ∙ sym (behind-append p.behind ts us))

  pub room-behind : Room (inked p (ts ++ us)) p.at → Room (inked q us) q.at
  room-behind g = laying.room-behind (inked p ts) (inked q us) p.at (rw inked-both at g) h.place_is

pub room-before : (ts us : List Token) (p : Pen) → Room (inked p (ts ++ us)) p.at → Room (inked p ts) p.at
room-before ts us p g = laying.room-front (inked p ts) _ p.at (rw spelled-append at g)

-- gap_of

pub gap_room : {b : Bool} {at : ℕ} → b ≡ true → Room (gap_of b) at → Room (32 ∷ []) at
unfolding gap_of
gap_room e g = rw e at g

module _ {b : Bool} {out : List ℕ} {at : ℕ} where
  pub gap_written : {r : ℕ} {out₁ : List ℕ} → b ≡ true → Writes (32 ∷ []) out at r out₁
      → Writes (gap_of b) out at r out₁
  unfolding gap_of
  gap_written e w = rw e w

  pub gap_none : b ≡ false → Writes (gap_of b) out at at out
  unfolding gap_of
  gap_none e = rw e (laying.writes-none out at)

-- one token

-- the pen at a place, just behind a word where the test holds
abbrev pen_at : ℕ → Bool → Pen
pen_at at b = record { at = at; behind = b }

module _ (p : Pen) where
  pub opening-room : Room (inked p (Token.opening ∷ [])) p.at → Room (40 ∷ []) p.at
  unfolding spelled_from
  opening-room g = g

  pub closing-room : Room (inked p (Token.closing ∷ [])) p.at → Room (41 ∷ []) p.at
  unfolding spelled_from
  closing-room g = g

  module _ {at : ℕ} {out out₁ : List ℕ} where
    pub opening-written : Writes (40 ∷ []) out p.at at out₁ → Spells (Token.opening ∷ []) out p (pen_at at false) out₁
    unfolding spelled_from behind_of
    opening-written w = writes-spells w refl

    pub closing-written : Writes (41 ∷ []) out p.at at out₁ → Spells (Token.closing ∷ []) out p (pen_at at false) out₁
    unfolding spelled_from behind_of
    closing-written w = writes-spells w refl

  module _ (w : List ℕ) where
    pub word_gap_room : Room (inked p (Token.word w ∷ [])) p.at → Room (gap_of p.behind) p.at
    word_gap_room g = laying.room-front (gap_of p.behind) w p.at (rw word-spelled at g)

    module _ {m : ℕ} {out out₁ : List ℕ} (h : Writes (gap_of p.behind) out p.at m out₁) where
      pub word_room : Room (inked p (Token.word w ∷ [])) p.at → Room w m
      word_room g = laying.room-behind (gap_of p.behind) w p.at (rw word-spelled at g) h.place_is

      pub word-written : {at : ℕ} {out₂ : List ℕ} → Writes w out₁ m at out₂
          → Spells (Token.word w ∷ []) out p (pen_at at true) out₂
      unfolding behind_of
      word-written k = writes-spells (rw word-spelled (laying.writes-append h k)) refl
