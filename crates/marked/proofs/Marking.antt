-- The marked files, by computation, in three parts: as one it is more than a check may compute. Assumes nothing.
use mathlib.Core.Path.{◌≡◌, refl, ap₂}
use mathlib.Core.List.{List, [], ◌∷◌, ◌++◌}
use lib.Count.{ones, ones_in}
use Rattle.words.specs.Below.{sum}
use Rattle.words.specs.Bits.{has, word}
use Rattle.words.specs.Lists.{list_of}
use Rattle.logic.specs.Formula.{value_of, literals_below}
use Rattle.logic.specs.Nodes.{nodes, with_node, spelled, formula_of}
use Rattle.program.specs.Case.{nodes_of}
use Rattle.program.specs.Program.{clause_at, clauses_of, added_below, heads_of}
use Rattle.program.specs.Cause.{causes_among, assumed_only, causes_in, causes_of, atoms_from}
use Rattle.program.specs.Setting.{choices_for, product, digits, digit_of, settings_of, additions_of}
use Rattle.program.specs.Sound.{few_settings}
use Rattle.settle.specs.Step.{bodies_of, some_true, all_false, next_value, step}
use Rattle.settle.specs.Rounds.{rounds, round_count, settled}
use Rattle.cost.specs.Cost.{cost_of}
use Rattle.cost.specs.Cheapest.{cheaper, cheapest_of, lowest_cost}
use Rattle.explanation.specs.Explanation.{observed_true, all_met, explains_under, set_explains}
use Rattle.explanation.specs.Subset.{subset_of, proper_of, some_proper, minimal}
use Rattle.verdict.specs.Walk.{minimals_below, passes_in_all, verdict_of, verdicts_of}
use Rattle.text.specs.Bytes.{is_word_byte, is_allowed, all_of, same_bytes}
use Rattle.text.specs.Lines.{lines_from, is_comment}
use Rattle.text.specs.Tokens.{tokens_from}
use Rattle.table.specs.Filled.{padded}
use Rattle.names.specs.Names.{some_long, with_name, with_names, rows_of}
use Rattle.formulas.specs.Sentence.{depth_of}
use Rattle.formulas.specs.Keyword.{node_of}
use Rattle.text.specs.Numbers.{number_from, is_number}
use Rattle.text.specs.Words.{begins_with_letter, names_from, place_of}
use Rattle.formulas.specs.Sentence.{is_sentence}
use Rattle.formulas.specs.Items.{with_form, items_of}
use Rattle.grammar.specs.Line.{are_named, is_line}
use Rattle.grammar.specs.LineOf.{literals_of, flat_words, line_of}
use Rattle.store.specs.Prices.{supplement, has_cost, price_in, prices_of}
use Rattle.store.specs.Saying.{some_on, atoms_by, encoded_by, said_by, is_second_cost, last_or}
use Rattle.store.specs.Tables.{clause_words, constraint_words, formula_parts}
use Rattle.checks.specs.Checks.{look_refusal, form_refusal, line_refusal, said_after}
use Rattle.reader.specs.Reading.{ending, read_lines, read_file}
use Rattle.marked.specs.Marked.{Row, results, expected, MarkedRows}
use Rattle.marked.specs.Marked.{m1, m1_overridden, both_or_neither, m2, m3, m4, m4_priced, m5, m6, m6_avoid}
use Rattle.marked.specs.Marked.{m7, m8, m9, m10}

abbrev low : List Row
low = m1 ∷ m1_overridden ∷ both_or_neither ∷ m2 ∷ m3 ∷ []

low_rows : results low ≡ expected low
unfolding ones ones_in has word value_of literals_below nodes with_node spelled formula_of clause_at clauses_of
    added_below heads_of causes_among assumed_only causes_in causes_of atoms_from choices_for product digits
    digit_of settings_of additions_of few_settings bodies_of some_true all_false next_value step rounds round_count
    settled observed_true all_met explains_under set_explains subset_of proper_of some_proper minimal minimals_below
    sum passes_in_all verdict_of verdicts_of list_of nodes_of is_word_byte is_allowed all_of same_bytes
    lines_from is_comment tokens_from padded names_from some_long place_of with_name with_names rows_of node_of
    begins_with_letter depth_of with_form items_of literals_of line_of some_on atoms_by encoded_by said_by
    look_refusal form_refusal line_refusal said_after clause_words ending read_lines read_file constraint_words
    formula_parts is_sentence are_named is_line number_from is_number flat_words supplement has_cost price_in
    prices_of is_second_cost last_or cost_of cheaper cheapest_of lowest_cost
low_rows = refl

abbrev middle : List Row
middle = m4 ∷ m4_priced ∷ m5 ∷ []

middle-rows : results middle ≡ expected middle
unfolding ones ones_in has word value_of literals_below nodes with_node spelled formula_of clause_at clauses_of
    added_below heads_of causes_among assumed_only causes_in causes_of atoms_from choices_for product digits
    digit_of settings_of additions_of few_settings bodies_of some_true all_false next_value step rounds round_count
    settled observed_true all_met explains_under set_explains subset_of proper_of some_proper minimal minimals_below
    sum passes_in_all verdict_of verdicts_of list_of nodes_of is_word_byte is_allowed all_of same_bytes
    lines_from is_comment tokens_from padded names_from some_long place_of with_name with_names rows_of node_of
    begins_with_letter depth_of with_form items_of literals_of line_of some_on atoms_by encoded_by said_by
    look_refusal form_refusal line_refusal said_after clause_words ending read_lines read_file constraint_words
    formula_parts is_sentence are_named is_line number_from is_number flat_words supplement has_cost price_in
    prices_of is_second_cost last_or cost_of cheaper cheapest_of lowest_cost
middle-rows = refl

abbrev high : List Row
high = m6 ∷ m6_avoid ∷ m7 ∷ m8 ∷ m9 ∷ m10 ∷ []

high-rows : results high ≡ expected high
unfolding ones ones_in has word value_of literals_below nodes with_node spelled formula_of clause_at clauses_of
    added_below heads_of causes_among assumed_only causes_in causes_of atoms_from choices_for product digits
    digit_of settings_of additions_of few_settings bodies_of some_true all_false next_value step rounds round_count
    settled observed_true all_met explains_under set_explains subset_of proper_of some_proper minimal minimals_below
    sum passes_in_all verdict_of verdicts_of list_of nodes_of is_word_byte is_allowed all_of same_bytes
    lines_from is_comment tokens_from padded names_from some_long place_of with_name with_names rows_of node_of
    begins_with_letter depth_of with_form items_of literals_of line_of some_on atoms_by encoded_by said_by
    look_refusal form_refusal line_refusal said_after clause_words ending read_lines read_file constraint_words
    formula_parts is_sentence are_named is_line number_from is_number flat_words supplement has_cost price_in
    prices_of is_second_cost last_or cost_of cheaper cheapest_of lowest_cost
high-rows = refl

pub marked-rows : MarkedRows
marked-rows = ap₂ ◌++◌ low_rows (ap₂ ◌++◌ middle-rows high-rows)
