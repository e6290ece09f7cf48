-- What a line that passes its checks is known to be, and that such a line is not refused. Assumes nothing.
use mathlib.Core.Path.{◌≡◌, refl, sym, ap, ◌∙◌}
use mathlib.Core.Bool.{Bool, true, false, ◌&&◌}
use mathlib.Core.List.{List, [], ◌∷◌, ◌++◌}
use Prim.Native.Nat.{ℕ, ◌+◌, ◌≤◌, ◌<◌}
use lib.Dec.{leb}
use lib.ListN.{length}
use borrow.Author.Tests.{leb-true, le-leb, not-true}
use Rattle.words.specs.Choice.{first_of, Check, check, first_failed}
use Rattle.words.proofs.Tests.{and_true_l, and_true_r}
use Rattle.words.proofs.Checks.{Passes, none-failed, first-failed-append, first_of-none}
use Rattle.text.specs.Bytes.{is_allowed, all_of}
use Rattle.text.specs.Lines.{is_comment}
use Rattle.text.specs.Tokens.{Token, tokens}
use Rattle.text.specs.Words.{names_in}
use Rattle.grammar.specs.declared.brings.Brings.{Brings}
use Rattle.grammar.specs.Line.{is_line}
use Rattle.grammar.specs.Bringing.{brings}
use Rattle.grammar.specs.LineOf.{line_of}
use Rattle.names.specs.Names.{some_long, with_names}
use Rattle.store.specs.Prices.{price_of}
use Rattle.store.specs.Saying.{Said, is_second_cost}
use Rattle.checks.proofs.Refusing.{names-refused}
use Rattle.checks.specs.Checks.{look_refusal, named_with, text_checks, room_checks, edition_checks, form_refusal}
use Rattle.checks.specs.Checks.{line_refusal}

-- the checks 6, 7 and 20
pub record TextPasses (ws : List (List ℕ)) (b : Brings) : Type 0 where
  pub names-short : some_long ws ≡ false
  pub not_deep : b.depth ≤ 16
  pub literals-few : b.literals ≤ 11

-- the checks from 8 to 10
pub record RoomPasses (names clauses constraints queries : ℕ) (second : Bool) (b : Brings) : Type 0 where
  pub names-few : names ≤ 64
  pub clauses-few : clauses + b.clauses ≤ 256
  pub constraints-few : constraints + b.constraints ≤ 32
  pub price-few : b.price ≤ 2000000
  pub worked_out_few : price_of b.price b.supplement ≤ 2000000
  pub supplement-few : b.supplement ≤ 100
  pub not-second : second ≡ false
  pub queries-few : queries + b.queries ≤ 16

-- the checks from 5 on
pub record FormPasses (st : Said) (ts : List Token) : Type 0 where
  pub is-line : is_line (line_of ts) ≡ true
  pub text : TextPasses (names_in ts) (brings (line_of ts))
  pub room : RoomPasses (length (with_names st.names (names_in ts))) (length st.clauses) (length st.constraints)
      (length st.queries) (is_second_cost (named_with st ts) (line_of ts)) (brings (line_of ts))
  pub editions-few : length st.editions + (brings (line_of ts)).editions ≤ 1

-- and 3
abbrev pub LinePasses : Said → List ℕ → Type 0
LinePasses st l = is_comment l ≡ false → (length l ≤ 200) × FormPasses st (tokens l)

room-has : (n cl co q : ℕ) (s : Bool) (b : Brings) → Passes (room_checks n cl co q s b) → RoomPasses n cl co q s b
room-has n cl co q s b (eight, (nine, (sixteen, (seventeen, (ten, _))))) =
    let rows = leb (cl + b.clauses) 256 in
    let price = leb b.price 2000000 in
    let both = price && leb (price_of b.price b.supplement) 2000000 in
    let worked-out = and_true_l both (leb b.supplement 100) sixteen in
    record {
      names-few = leb-true n 64 eight;
      clauses-few = leb-true _ 256 (and_true_l rows (leb (co + b.constraints) 32) nine);
      constraints-few = leb-true _ 32 (and_true_r rows (leb (co + b.constraints) 32) nine);
      price-few = leb-true _ 2000000 (and_true_l price _ worked-out);
      worked_out_few = leb-true _ 2000000 (and_true_r price _ worked-out);
      supplement-few = leb-true _ 100 (and_true_r both (leb b.supplement 100) sixteen);
      not-second = not-true s seventeen;
      queries-few = leb-true _ 16 ten;
    }

pub room-passes : {n cl co q : ℕ} {s : Bool} {b : Brings} → first_failed (room_checks n cl co q s b) ≡ 0
    → RoomPasses n cl co q s b
room-passes {n} {cl} {co} {q} {s} {b} e = room-has n cl co q s b (none-failed (room_checks n cl co q s b) refl e)

-- 21
pub edition-passes : (n : ℕ) (b : Brings) → first_failed (edition_checks n b) ≡ 0 → n + b.editions ≤ 1
edition-passes n b e = leb-true _ 1 (none-failed (edition_checks n b) refl e).0

text-has : (ws : List (List ℕ)) (b : Brings) → Passes (text_checks ws b) → TextPasses ws b
text-has ws b (six, (seven, (twenty, _))) =
    record { names-short = not-true _ six; not_deep = leb-true _ 16 seven; literals-few = leb-true _ 11 twenty }

pub text-passes : (ws : List (List ℕ)) (b : Brings) → first_failed (text_checks ws b) ≡ 0 → TextPasses ws b
text-passes ws b e = text-has ws b (none-failed (text_checks ws b) refl e)

look_passes : (l : List ℕ) → is_comment l ≡ false → look_refusal l ≡ 0
    → (length l ≤ 200) × (is_line (line_of (tokens l)) ≡ true)
unfolding look_refusal
look_passes l a e =
    let others = check 4 (all_of is_allowed l) ∷ check 5 (is_line (line_of (tokens l))) ∷ [] in
    let d : first_failed (check 3 (leb (length l) 200) ∷ others) ≡ 0 = rw a at e in
    let p = none-failed (check 3 (leb (length l) 200) ∷ others) refl d in
    (leb-true _ 200 p.0, p.1.1.0)

-- the refusal of a form by 6, 7 and 20, from 8 to 10, and by 21
abbrev pub text_number : List Token → ℕ
text_number ts = first_failed (text_checks (names_in ts) (brings (line_of ts)))

abbrev room_of : Said → List Token → List Check
room_of st ts =
    room_checks (length (with_names st.names (names_in ts))) (length st.clauses) (length st.constraints)
    (length st.queries) (is_second_cost (named_with st ts) (line_of ts)) (brings (line_of ts))

abbrev pub room_number : Said → List Token → ℕ
room_number st ts = first_failed (room_of st ts)

abbrev pub edition_number : Said → List Token → ℕ
edition_number st ts = first_failed (edition_checks (length st.editions) (brings (line_of ts)))

pub many-refused : (st : Said) (ts : List Token) → 64 < length (with_names st.names (names_in ts))
    → 8 ≡ room_number st ts
many-refused st ts h =
    names-refused (length (with_names st.names (names_in ts))) (length st.clauses) (length st.constraints)
    (length st.queries) (is_second_cost (named_with st ts) (line_of ts)) (brings (line_of ts)) h

pub form-refusal-is : (st : Said) (ts : List Token)
    → form_refusal st ts ≡ first_of (text_number ts) (first_of (room_number st ts) (edition_number st ts))
unfolding form_refusal
form-refusal-is st ts =
    let b = brings (line_of ts) in
    let late = edition_checks (length st.editions) b in
    first-failed-append (text_checks (names_in ts) b) (room_of st ts ++ late) refl
    ∙ ap (first_of (text_number ts)) (first-failed-append (room_of st ts) late refl)

form-passes : (st : Said) (ts : List Token) → is_line (line_of ts) ≡ true → form_refusal st ts ≡ 0 → FormPasses st ts
form-passes st ts h e =
    let p = first_of-none (text_number ts) _ (sym (form-refusal-is st ts) ∙ e) in
    let q = first_of-none (room_number st ts) (edition_number st ts) p.1 in
    record {
      is-line = h;
      text = text-passes (names_in ts) (brings (line_of ts)) p.0;
      room = room-passes q.0;
      editions-few = edition-passes (length st.editions) (brings (line_of ts)) q.1;
    }

pub line-passes : (st : Said) (l : List ℕ) → line_refusal st l ≡ 0 → LinePasses st l
unfolding line_refusal
line-passes st l e a =
    let p = first_of-none (look_refusal l) _ e in
    let look = look_passes l a p.0 in
    (look.0, form-passes st (tokens l) look.1 (rw a at p.1))

-- a line that passes is not refused

pub room-none : (n cl co q : ℕ) (s : Bool) (b : Brings) → RoomPasses n cl co q s b
    → first_failed (room_checks n cl co q s b) ≡ 0
room-none n cl co q s b r = rw (
  le-leb n 64 r.names-few,
  le-leb (cl + b.clauses) 256 r.clauses-few,
  le-leb (co + b.constraints) 32 r.constraints-few,
  le-leb b.price 2000000 r.price-few,
  le-leb _ 2000000 r.worked_out_few,
  le-leb b.supplement 100 r.supplement-few,
  r.not-second,
  le-leb (q + b.queries) 16 r.queries-few,
)

pub edition-none : (n : ℕ) (b : Brings) → n + b.editions ≤ 1 → first_failed (edition_checks n b) ≡ 0
edition-none n b h = rw (le-leb (n + b.editions) 1 h)

pub look_none : (l : List ℕ) → is_comment l ≡ false → length l ≤ 200 → all_of is_allowed l ≡ true
    → is_line (line_of (tokens l)) ≡ true → look_refusal l ≡ 0
unfolding look_refusal
look_none l c s a f = rw (c, le-leb (length l) 200 s, a, f)

-- a line that passes the checks 3 to 5 is judged from 6 on
pub line-looked : (st : Said) (l : List ℕ) → is_comment l ≡ false → look_refusal l ≡ 0
    → line_refusal st l ≡ form_refusal st (tokens l)
unfolding line_refusal
line-looked st l c a = rw (a, c)
