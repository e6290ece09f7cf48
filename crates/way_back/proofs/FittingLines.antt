-- Lines that may stand one behind the other, what was read after them, and what a file of them gives.
--
--   Reads st xs u        behind st each of the lines xs fits, and after them u was read
--   literals_in x        how many literals the line x has
--   Step line state ..   the line of a fits behind the entries done, and adds a to them
--   Left P m done rest   of at most m entries done and rest, P holds of each of rest
--   Written line P a     P holds of the entry a, and its line is at most 200 bytes long
-- Assumes nothing.
use mathlib.Core.Path.{◌≡◌, sym, ap, subst, ◌∙◌}
use mathlib.Core.List.{List, [], ◌∷◌, ◌++◌, map, append_assoc, append-nil}
use Prim.Native.Nat.{ℕ, zero, suc, ◌+◌, ◌≤◌, ◌<◌}
use native.Mathlib.Nat.{add-zero}
use native.Mathlib.Omega.{arith}
use lib.ListN.{length, length-append}
use borrow.Author.Tests.{le-leb}
use Rattle.words.specs.Choice.{pick}
use Rattle.words.proofs.Tests.{by_test}
use Rattle.text.specs.Spelled.{text_of}
use Rattle.text.proofs.Each.{Each}
use Rattle.text.proofs.Spelled.{EachOneLine, text-lines}
use Rattle.grammar.specs.Line.{Line}
use Rattle.grammar.specs.Bringing.{brings}
use Rattle.store.specs.Saying.{Said, nothing_said}
use Rattle.reader.specs.Reading.{Outcome, settings_few, ending, read_lines, read_file}
use Rattle.writing.specs.Lines.{line_text}
use Rattle.way_back.proofs.FirstOver.{FirstOver}
use Rattle.way_back.proofs.Fits.{after, Fits, line-alone, line-passes, line-long, line-said}

abbrev pub Reads : Said → List Line → Said → Type 0
Reads st [] u = st ≡ u
Reads st (x ∷ xs) u = Fits st x × Reads (after st x) xs u

pub reads-append : (xs ys : List Line) (st u v : Said) → Reads st xs u → Reads u ys v → Reads st (xs ++ ys) v
reads-append [] ys st u v h k = subst (λ s. Reads s ys v) (sym h) k
reads-append (x ∷ xs) ys st u v h k = (h.0, reads-append xs ys (after st x) u v h.1 k)

pub lines-alone : (xs : List Line) (st u : Said) → Reads st xs u → EachOneLine (map line_text xs)
lines-alone [] st u h = tt
lines-alone (x ∷ xs) st u h = (line-alone st x h.0, lines-alone xs (after st x) u h.1)

abbrev pub literals_in : Line → ℕ
literals_in x = (brings x).literals

pub lines-read : (xs : List Line) (st u : Said) (k : ℕ) → Reads st xs u → Each (λ n. n ≤ 11) (map literals_in xs)
    → read_lines (map line_text xs) st k ≡ ending u
unfolding read_lines
lines-read [] st u k h few = ap ending h
lines-read (x ∷ xs) st u k h few =
    rw (line-passes st x h.0 few.0, line-said st x h.0)
    (lines-read xs (after st x) u (suc k) h.1 few.1)

-- the first line with more than 11 literals decides
pub lines-refused : (xs : List Line) (j : ℕ) (st u : Said) (k : ℕ) → Reads st xs u → FirstOver (map literals_in xs) j
    → read_lines (map line_text xs) st k ≡ Outcome.refused 20 (k + j)
unfolding read_lines
lines-refused [] j st u k h f = absurd f
lines-refused (x ∷ xs) zero st u k h f = rw (line-long st x h.0 f, add-zero)
lines-refused (x ∷ xs) (suc j) st u k h f =
    rw (line-passes st x h.0 f.0, line-said st x h.0)
    (lines-refused xs j (after st x) u (suc k) h.1 f.1 ∙ ap (Outcome.refused 20) (omega arith))

-- ---- a file
-- the text of such lines is read as these lines
pub file-lines : (xs : List Line) (u : Said) → Reads nothing_said xs u
    → read_file (text_of (map line_text xs)) ≡ read_lines (map line_text xs) nothing_said 1
unfolding read_file
file-lines xs u h =
    ap (λ ls. read_lines ls nothing_said 1) (text-lines (map line_text xs) (lines-alone xs nothing_said u h))

-- behind a query, the number of settings decides
pub ending-few : (st : Said) → 1 ≤ length st.queries
    → ending st ≡ pick (settings_few st) (Outcome.case st) (Outcome.refused 12 0)
unfolding ending
ending-few st h =
    rw (le-leb 1 (length st.queries) h)
    (by_test (settings_few st) (λ t. rw t) (λ t. rw t))

-- ---- a list of entries, each with its line
module _ {A : Type 0} (line : A → Line) (state : List A → Said) where
  -- the next line fits and adds its entry, and the rest is ready
  pub record Step (Ready : List A → List A → Type 0) (done : List A) (a : A) (rest : List A) : Type 0 where
    pub fits : Fits (state done) (line a)
    pub says : after (state done) (line a) ≡ state (done ++ (a ∷ []))
    pub on : Ready (done ++ (a ∷ [])) rest

  module _ (Ready : List A → List A → Type 0)
      (step : (done : List A) (a : A) (rest : List A) → Ready done (a ∷ rest) → Step Ready done a rest) where
    from : (done rest : List A) → Ready done rest → Reads (state done) (map line rest) (state (done ++ rest))
    from done [] r = rw append-nil
    from done (a ∷ rest) r =
        let s = step done a rest r in
        let e = ap state (append_assoc done (a ∷ []) rest) in
        let more = from (done ++ (a ∷ [])) rest s.on in
        (s.fits, rw s.says (subst (Reads (state (done ++ (a ∷ []))) (map line rest)) e more))

    pub segment : (l : List A) → Ready [] l → Reads (state []) (map line l) (state l)
    segment l r = from [] l r

abbrev pub Written : {A : Type 0} → (A → Line) → (A → Type 0) → A → Type 0
Written line P a = P a × (length (line_text (line a)) ≤ 200)

pub record Left {A : Type 0} (P : A → Type 0) (m : ℕ) (done rest : List A) : Type 0 where
  pub few : length done + length rest ≤ m
  pub each : Each P rest

module _ {A : Type 0} (P : A → Type 0) (m : ℕ) (done : List A) (a : A) (rest : List A) (r : Left P m done (a ∷ rest))
  where
    pub left-room : length done < m
    left-room = omega (arith, r.few)

    pub left-on : Left P m (done ++ (a ∷ [])) rest
    left-on = record { few = omega (arith, r.few, length-append done (a ∷ [])); each = r.each.1 }
