-- A path of dependencies among stuck atoms: how it grows, and the ring at its end. Assumes nothing.
use mathlib.Core.Path.{◌≡◌, refl, sym, ap, subst, ◌∙◌}
use mathlib.Core.Bool.{Bool, true, false, ◌||◌, true≢false, or-true}
use mathlib.Core.List.{List}
use mathlib.Core.Logic.{⊎_elim}
use Prim.Native.Nat.{ℕ, ◌+◌, ◌-◌, ◌^◌, ◌≤◌, ◌<◌}
use native.Mathlib.Nat.{not-suc-le-zero, eq-or-lt_of_le}
use native.Mathlib.Omega.{arith}
use lib.Bits.{bit_or}
use lib.Count.{ones, ones-le}
use lib.Dec.{eqb}
use lib.ListN.{length, get_or, set, take, drop, length-set}
use lib.Pow.{pow_pos}
use lib.Seq.{get_or-set_same, get_or-set_other, length-take-le, get_or-take, get_or-drop}
use Rattle.std.proofs.lemmas.List.{length-drop, take_rest}
use borrow.Author.Tests.{eqb-true, eq-eqb}
use Rattle.words.specs.Bits.{has}
use Rattle.words.specs.OneBit.{without_bit, BitOf, LowestOf}
use Rattle.words.proofs.Tests.{true_or_false, or_true_l}
use Rattle.words.proofs.Bits.{has-zero}
use Rattle.words.proofs.Words.{has-or-one, or-one-lt}
use Rattle.words.proofs.BitWalks.{without_within, without_other}
use Rattle.words.proofs.Counts.{ones-more}
use Rattle.layering.specs.declared.answer.Entries.{Entries}
use Rattle.layering.specs.Layers.{Ring}
use Rattle.layering.specs.Operation.{entries_of}
use Rattle.layering.specs.Numbers.{linked_by}
use Rattle.layering.specs.Path.{Followed, Ringed}

-- ---- the search for an atom that at depends on: one is left
module _ (t : List ℕ) (among at : ℕ) where
  pub record Seeking (left : ℕ) : Type 0 where
    pub within : (b : ℕ) → BitOf left b → BitOf among b
    pub waits : (b : ℕ) × BitOf left b × (linked_by t at b ≡ true)

  module _ {left : ℕ} (s : Seeking left) where
    pub seeking_some : left ≡ 0 → ⊥
    seeking_some e =
        let b = s.waits in
        true≢false (sym b.1.there ∙ ap (λ (w : ℕ). has w b.0) e ∙ has-zero b.0)

    pub seeking_next : (i : ℕ) → BitOf left i → linked_by t at i ≡ false → Seeking (without_bit left i)
    seeking_next i q n = record {
      within = λ b h. s.within b (without_within left i q b h);
      waits = let b = s.waits in (
        b.0,
        record {
          small = b.1.small;
          there = without_other left i q b.0 b.1.small (λ e. true≢false (sym b.2 ∙ ap (linked_by t at) e ∙ n))
              ∙ b.1.there;
        },
        b.2,
      );
    }

-- ---- the path
module _ (t : List ℕ) (w : ℕ) where
  pub followed_start : (path : List ℕ) (at : ℕ) → length path ≡ 64 → LowestOf w at → Followed t w path 0 0 at
  followed_start path at e h = record {
    size_is = e;
    seen-fits = pow_pos 64;
    few = omega arith;
    stuck = h.bit;
    found = λ a f. absurd (true≢false (sym f ∙ has-zero a));
    path_in = λ i l. absurd (not-suc-le-zero l);
    distinct = λ i j l m. absurd (not-suc-le-zero m);
    linked = λ i l. absurd (not-suc-le-zero l);
    last = λ i e. absurd (omega arith);
  }

  module _ {path : List ℕ} {len seen at : ℕ} (p : Followed t w path len seen at) where
    pub followed_fits : len ≤ 64
    followed_fits = omega (arith, p.few, ones-le 64 seen p.seen-fits)

    module _ (new : has seen at ≡ false) where
      more_fit : bit_or seen (2 ^ at) < 2 ^ 64
      more_fit = or-one-lt 64 seen at p.seen-fits p.stuck.small

      more-seen : ones seen < ones (bit_or seen (2 ^ at))
      more-seen = ones-more 64 seen at p.seen-fits p.stuck.small new

      -- there is room for one atom more
      pub followed_room : len < 64
      followed_room = omega (arith, p.few, more-seen, ones-le 64 (bit_or seen (2 ^ at)) more_fit)

      module _ (next : ℕ) (b : BitOf w next) (e : linked_by t at next ≡ true) where
        longer : List ℕ
        longer = set path len at

        here : get_or longer len 0 ≡ at
        unfolding longer
        here = get_or-set_same path len at 0 (omega (arith, p.size_is, followed_room))

        before : (i : ℕ) → i < len → get_or longer i 0 ≡ get_or path i 0
        unfolding longer
        before i l = get_or-set_other path len i at 0 (λ e. omega arith)

        -- what holds of the path so far, and of the atom behind it
        each : (P : ℕ → Type 0) → ((i : ℕ) → i < len → P (get_or path i 0)) → P at
            → (i : ℕ) → i < len + 1 → P (get_or longer i 0)
        each P f g i l =
            ⊎_elim (λ (e : i ≡ len). subst P (sym (ap (λ (k : ℕ). get_or longer k 0) e ∙ here)) g)
            (λ (m : i < len). subst P (sym (before i m)) (f i m)) (eq-or-lt_of_le (omega arith))

        seen_here : has (bit_or seen (2 ^ at)) at ≡ true
        seen_here =
            has-or-one seen at at ∙ ap (λ (t : Bool). has seen at || t) (eq-eqb at at refl) ∙ or-true (has seen at)

        still_in : (i : ℕ) → i < len → (has (bit_or seen (2 ^ at)) (get_or path i 0) ≡ true) × BitOf w (get_or path i 0)
        still_in i l =
            let q = p.path_in i l in
            (has-or-one seen at (get_or path i 0) ∙ ap (λ (s : Bool). s || eqb (get_or path i 0) at) q.0, q.1)

        place_of : (a : ℕ) → has (bit_or seen (2 ^ at)) a ≡ true → (j : ℕ) × (j < len + 1) × (get_or longer j 0 ≡ a)
        place_of a f =
            ⊎_elim (λ (q : eqb a at ≡ true). (len, omega arith, here ∙ sym (eqb-true a at q)))
            (λ (q : eqb a at ≡ false).
            let r = p.found a (or_true_l (has seen a) (eqb a at) q (sym (has-or-one seen at a) ∙ f)) in
            (r.0, omega (arith, r.1), before r.0 r.1 ∙ r.2))
            (true_or_false (eqb a at))

        apart : (i j : ℕ) → i < j → j < len + 1 → get_or longer i 0 ≡ get_or longer j 0 → ⊥
        apart i j l m f =
            ⊎_elim
            (λ (q : j ≡ len).
            let m : i < len = omega (arith, q) in
            let g : get_or path i 0 ≡ at = sym (before i m) ∙ f ∙ ap (λ (k : ℕ). get_or longer k 0) q ∙ here in
            true≢false (sym (p.path_in i m).0 ∙ ap (has seen) g ∙ new))
            (λ (q : j < len). p.distinct i j l q (sym (before i (omega arith)) ∙ f ∙ before j q))
            (eq-or-lt_of_le (omega arith))

        links : (i : ℕ) → i + 1 < len + 1 → linked_by t (get_or longer i 0) (get_or longer (i + 1) 0) ≡ true
        links i l =
            rw (before i (omega arith))
            (⊎_elim
            (λ (q : i + 1 ≡ len). rw (q, here) (p.last i q))
            (λ (q : i + 1 < len). rw (before (i + 1) q) (p.linked i q))
            (eq-or-lt_of_le (omega arith)))

        pub followed_next : Followed t w (set path len at) (len + 1) (bit_or seen (2 ^ at)) next
        unfolding longer
        followed_next = record {
          size_is = simp length-set p.size_is;
          seen-fits = more_fit;
          few = omega (arith, p.few, more-seen);
          stuck = b;
          found = place_of;
          path_in = each (λ a. (has (bit_or seen (2 ^ at)) a ≡ true) × BitOf w a) still_in (seen_here, p.stuck);
          distinct = apart;
          linked = links;
          last = λ i f. let q : i ≡ len = omega arith in rw (q, here) e;
        }

    -- ---- the ring: the path from the place of the atom that came again
    abbrev front : List ℕ
    front = take len path

    length_front : length front ≡ len
    length_front = length-take-le len path (omega (arith, followed_fits, p.size_is))

    pub followed_place : has seen at ≡ true → (j : ℕ) × (j < length front) × (get_or front j 0 ≡ at)
    followed_place h =
        let f = p.found at h in
        (f.0, omega (arith, length_front, f.1), get_or-take len path f.0 0 f.1 ∙ f.2)

    module _ (j : ℕ) (l : j < length front) (e : get_or front j 0 ≡ at) where
      abbrev ring : List ℕ
      ring = drop j front

      size : length ring ≡ len - j
      size = length-drop j front ∙ ap (λ (k : ℕ). k - j) length_front

      entry : (i : ℕ) → i < length ring → get_or ring i 0 ≡ get_or path (j + i) 0
      entry i m =
          let h : j + i < len = omega (arith, size) in
          get_or-drop j front i 0 ∙ get_or-take len path (j + i) 0 h

      again : get_or path j 0 ≡ at
      again = sym (get_or-take len path j 0 (omega (arith, length_front))) ∙ e

      ring-is : Ring 64 (linked_by t) ring
      ring-is = record {
        some = omega (arith, size, length_front);
        atoms = λ i m. rw (entry i m) (p.path_in (j + i) (omega (arith, size))).1.small;
        distinct = λ i k m n q. p.distinct (j + i) (j + k) (omega arith) (omega (arith, size))
            (sym (entry i (omega arith)) ∙ q ∙ entry k n);
        linked = λ i m. let f : j + (i + 1) ≡ j + i + 1 = omega arith in
            rw (entry i (omega arith), entry (i + 1) m, f) (p.linked (j + i) (omega (arith, size)));
        closed = λ i m. let z : j + 0 ≡ j = omega arith in
            rw (entry i (omega arith), entry 0 (omega (arith, size)), z, again) (p.last (j + i) (omega (arith, size)));
      }

      pub followed_ring : {r : Entries}
          → (let l = take (length front - j) (drop j front) in r ≡ entries_of (length l) l)
          → Ringed t w r.count r.entries
      followed_ring q = let s = rw (take_rest front j) at q in record {
        ring = ring;
        ring-is = ring-is;
        among = λ i m. rw (entry i m) (p.path_in (j + i) (omega (arith, size))).1.there;
        count-is = ap (λ (r : Entries). r.count) s;
        entries_are = ap (λ (r : Entries). r.entries) s;
      }
