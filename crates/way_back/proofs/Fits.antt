-- A line that may stand behind what was read: its text passes the checks, and gives what the line says, unless it has
-- more than 11 literals.
--
--   named_by st x   st with the names of the line x
--   after st x      st with the names of the line x and with what it says
--   Fits st x       the line x may stand behind st, the number of its literals aside
-- Assumes nothing.
use mathlib.Core.Path.{◌≡◌, ap, ◌∙◌}
use mathlib.Core.Bool.{Bool, true, false}
use mathlib.Core.List.{List}
use Prim.Native.Nat.{ℕ, ◌+◌, ◌≤◌, ◌<◌}
use lib.Dec.{leb}
use lib.ListN.{length}
use borrow.Author.Tests.{le-leb, lt-leb}
use Rattle.words.specs.Choice.{pick, first_of}
use Rattle.text.specs.Tokens.{Token, tokens}
use Rattle.text.specs.Words.{names_in, IsWord, WordBytes}
use Rattle.text.proofs.Each.{Each, each_gives}
use Rattle.text.proofs.Words.{lettered-some}
use Rattle.text.proofs.Spelled.{OneLine, spelled-read, spelled_allowed, spelled-one-line}
use Rattle.grammar.specs.declared.brings.Brings.{Brings}
use Rattle.grammar.specs.Line.{Line, line_tokens, is_line, line_names}
use Rattle.grammar.specs.Bringing.{brings}
use Rattle.grammar.specs.LineOf.{line_of}
use Rattle.grammar.proofs.LineReading.{line_read}
use Rattle.grammar.proofs.LineLaws.{names_are}
use Rattle.grammar.proofs.LineTokens.{line_no_comment}
use Rattle.grammar.proofs.LineWords.{line-bytes}
use Rattle.names.specs.Names.{some_long, with_names}
use Rattle.names.proofs.Short.{all_short}
use Rattle.store.specs.Saying.{Said, renamed, said_by, is_second_cost}
use Rattle.checks.specs.Checks.{look_refusal, line_refusal, said_after}
use Rattle.checks.specs.Naming.{IsName}
use Rattle.checks.proofs.Naming.{name-lettered, name-bytes, name-short}
use Rattle.checks.proofs.After.{after_line}
use Rattle.checks.proofs.Passing.{RoomPasses, text_number, room_number, edition_number, form-refusal-is, room-none}
use Rattle.checks.proofs.Passing.{edition-none, look_none, line-looked}
use Rattle.writing.specs.Lines.{line_text}

abbrev pub named_by : Said → Line → Said
named_by st x = renamed (with_names st.names (line_names x)) st

abbrev pub after : Said → Line → Said
after st x = said_by (named_by st x) x

-- the checks from 8 to 10, of a line that brings b
abbrev pub RoomFor : Said → Bool → Brings → Type 0
RoomFor st s b =
    RoomPasses (length st.names) (length st.clauses) (length st.constraints) (length st.queries) s b

pub record Fits (st : Said) (x : Line) : Type 0 where
  pub is-line : is_line x ≡ true
  pub named : Each IsName (line_names x)
  pub short : length (line_text x) ≤ 200
  pub not_deep : (brings x).depth ≤ 16
  pub room : RoomFor (named_by st x) (is_second_cost (named_by st x) x) (brings x)
  pub editions-few : length st.editions + (brings x).editions ≤ 1

-- a name is a word
name-word : (w : List ℕ) → IsName w → IsWord w
name-word w h = (lettered-some w (name-lettered w h), name-bytes w h)

module _ (st : Said) (x : Line) (h : Fits st x) where
  abbrev ts : List Token
  ts = line_tokens x

  bytes : WordBytes ts
  bytes = line-bytes x h.is-line (each_gives IsName IsWord name-word (line_names x) h.named)

  pub line-alone : OneLine (line_text x)
  line-alone = spelled-one-line ts bytes

  tokens_are : tokens (line_text x) ≡ ts
  tokens_are = spelled-read ts bytes

  read : line_of ts ≡ x
  read = line_read x h.is-line

  names : names_in ts ≡ line_names x
  names = names_are x h.is-line

  looked : look_refusal (line_text x) ≡ 0
  looked =
      look_none (line_text x) (line_no_comment x) h.short (spelled_allowed ts bytes)
      (rw (tokens_are, read) h.is-line)

  names-short : some_long (line_names x) ≡ false
  names-short = all_short (line_names x) (each_gives IsName _ name-short (line_names x) h.named)

  room-is : room_number st ts ≡ 0
  room-is = rw (names, read) (room-none _ _ _ _ _ (brings x) h.room)

  edition-is : edition_number st ts ≡ 0
  edition-is = rw read (edition-none (length st.editions) (brings x) h.editions-few)

  -- the checks 6 and 7 pass, and 20 is the test b
  text-is : {b : Bool} → leb (brings x).literals 11 ≡ b → text_number ts ≡ pick b 0 20
  text-is e = rw (names, read, names-short, le-leb (brings x).depth 16 h.not_deep, e)

  judged : line_refusal st (line_text x) ≡ first_of (text_number ts) 0
  judged =
      line-looked st (line_text x) (line_no_comment x) looked
      ∙ rw tokens_are (form-refusal-is st ts ∙ rw (room-is, edition-is))

  pub line-passes : (brings x).literals ≤ 11 → line_refusal st (line_text x) ≡ 0
  line-passes few = judged ∙ ap (λ (n : ℕ). first_of n 0) (text-is (le-leb _ 11 few))

  pub line-long : 11 < (brings x).literals → line_refusal st (line_text x) ≡ 20
  line-long more = judged ∙ ap (λ (n : ℕ). first_of n 0) (text-is (lt-leb _ 11 more))

  pub line-said : said_after st (line_text x) ≡ after st x
  line-said = after_line st (line_text x) (line_no_comment x) ∙ rw (tokens_are, read, names)
