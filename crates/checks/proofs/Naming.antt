-- The names of a line that passes its checks are names. Assumes nothing.
use mathlib.Core.Path.{◌≡◌, sym, subst}
use mathlib.Core.Bool.{true, false, ◌&&◌}
use mathlib.Core.List.{List}
use Prim.Native.Nat.{ℕ, ◌≤◌}
use lib.Dec.{leb}
use lib.ListN.{length}
use borrow.Author.Tests.{leb-true, le-leb}
use Rattle.words.proofs.Tests.{and_true_l, and_true_r}
use Rattle.text.specs.Bytes.{is_word_byte, all_of}
use Rattle.text.specs.Words.{begins_with_letter, names_in, IsWord}
use Rattle.text.specs.Tokens.{tokens}
use Rattle.text.proofs.Each.{Each, each_both, each_gives}
use Rattle.text.proofs.Words.{line-names_are_words}
use Rattle.formulas.proofs.Spelling.{Lettered}
use Rattle.grammar.specs.Line.{is_line}
use Rattle.grammar.specs.LineOf.{line_of}
use Rattle.grammar.proofs.LineLaws.{line-names, line-lettered}
use Rattle.names.specs.Names.{some_long}
use Rattle.names.specs.Held.{Named}
use Rattle.names.proofs.Short.{line-named}
use Rattle.checks.specs.Naming.{is_name, IsName}

module _ (w : List ℕ) where
  pub name_of : begins_with_letter w ≡ true → all_of is_word_byte w ≡ true → length w ≤ 16 → IsName w
  unfolding is_name
  name_of a b c = rw (a, b, le-leb (length w) 16 c)

  module _ (h : IsName w) where
    pub name-lettered : begins_with_letter w ≡ true
    unfolding is_name
    name-lettered =
        and_true_l (begins_with_letter w) (all_of is_word_byte w) (and_true_l _ (leb (length w) 16) h)

    pub name-bytes : all_of is_word_byte w ≡ true
    unfolding is_name
    name-bytes = and_true_r (begins_with_letter w) (all_of is_word_byte w) (and_true_l _ (leb (length w) 16) h)

    pub name-short : length w ≤ 16
    unfolding is_name
    name-short =
        leb-true (length w) 16 (and_true_r (begins_with_letter w && all_of is_word_byte w) (leb (length w) 16) h)

pub names-named : (l : List ℕ) → is_line (line_of (tokens l)) ≡ true → some_long (names_in (tokens l)) ≡ false
    → Each IsName (names_in (tokens l))
names-named l h k =
    let ws : List (List ℕ) = names_in (tokens l) in
    let letters = subst (Each Lettered) (sym (line-names (tokens l) h)) (line-lettered (line_of (tokens l)) h) in
    each_gives _ IsName (λ w p. name_of w p.0 p.1.0.1 p.1.1.short) ws
    (each_both Lettered _ ws letters (each_both IsWord Named ws (line-names_are_words l) (line-named l k)))
