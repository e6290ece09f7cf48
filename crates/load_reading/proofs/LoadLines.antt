-- The lines of a load are read as its names, its clauses and its query, and its file as what they say or with 12.
--
--   said_drawn s n c    what the load with the seed s, n atoms and c clauses says
-- Assumes nothing.
use mathlib.Core.Path.{◌≡◌, refl, ◌∙◌}
use mathlib.Core.Bool.{true}
use mathlib.Core.List.{List, [], ◌∷◌, map}
use Prim.Native.Nat.{ℕ, ◌≤◌}
use native.Mathlib.Omega.{arith}
use lib.ListN.{length, length-map}
use Rattle.words.specs.Choice.{pick}
use Rattle.words.proofs.Lists.{list_of-map}
use Rattle.text.proofs.Each.{Each, each_append}
use Rattle.formulas.specs.Sentence.{Sentence, sentence_names, depth_of}
use Rattle.formulas.proofs.NameSentence.{name-tokens, name-is-sentence, name-names}
use Rattle.formulas.proofs.Sentences.{depth-le-size}
use Rattle.grammar.specs.Line.{Line, is_line, line_tokens}
use Rattle.grammar.proofs.LineLaws.{sentence-is-line, line-shaped}
use Rattle.grammar.proofs.LineReading.{line_read}
use Rattle.grammar.proofs.LineTokens.{query-tokens}
use Rattle.store.specs.Saying.{ClauseRow, Said, said, nothing_said, encoded}
use Rattle.store.proofs.Saying.{query-said, query_no_cost}
use Rattle.reader.specs.Reading.{Outcome, settings_few, read_file}
use Rattle.writing.proofs.Rows.{each_map, each_list_of}
use Rattle.way_back.proofs.Fits.{Fits}
use Rattle.way_back.proofs.FittingLines.{Reads, reads-append, literals_in, lines-read, file-lines, ending-few}
use Rattle.way_back.proofs.KnownNames.{Usable, known-says, known-fits, room-rows}
use Rattle.way_back.proofs.AtomLines.{AtomWritten, atoms-read}
use Rattle.loading.specs.Draws.{state_after}
use Rattle.loading.specs.Load.{load_name, literal_count, clause_drawn, clauses_drawn, atom_lines, query_of_first}
use Rattle.loading.specs.Load.{load_lines}
use Rattle.loading.specs.Load.{load_text}
use Rattle.loading.proofs.Drawing.{clause_states, states_length, literals-length, count-le, clauses-each}
use Rattle.loading.proofs.Names.{load_name-lettered, load_name-is-name, load_names, load_names-length}
use Rattle.loading.proofs.Names.{load_names-distinct}
use Rattle.loading.proofs.Sizes.{Limits, atom-size, query-size}
use Rattle.load_reading.proofs.DrawnClauses.{row_drawn, name-usable, drawn_read}

-- ---- the query
abbrev first : Sentence
first = Sentence.name (load_name 0)

query-is-line : is_line query_of_first ≡ true
query-is-line = sentence-is-line first ∙ name-is-sentence (load_name 0) ∙ load_name-lettered 0

query-depth : depth_of first ≤ 16
query-depth =
    let s = rw (line_read query_of_first query-is-line, query-tokens first, name-tokens (load_name 0)) at
    (line-shaped (line_tokens query_of_first)) in
    omega (arith, depth-le-size first)

module _ (n : ℕ) (some : 1 ≤ n) (few : n ≤ 64) (cs : List ClauseRow) (cs-few : length cs ≤ 256) where
  abbrev behind : Said
  behind = said (load_names n) cs [] 0 0 [] [] []

  query-usable : Each (Usable (load_names n)) (sentence_names first)
  query-usable = rw (name-names (load_name 0)) (name-usable n some few 0 some, tt)

  query-fits : Fits behind query_of_first
  query-fits =
      let e = load_names-length n in
      known-fits behind query_of_first query-usable query-is-line (omega (arith, query-size)) query-depth
      (rw (query_no_cost behind first)
      (room-rows behind _ refl refl (omega arith) (omega arith) (omega arith) (omega arith))) (omega arith)

  query-read : Reads behind (query_of_first ∷ [])
      (said (load_names n) cs [] 0 0 (encoded (load_names n) first ∷ []) [] [])
  query-read = (query-fits, known-says behind query_of_first query-usable ∙ query-said behind first)

-- ---- all lines
abbrev pub said_drawn : ℕ → ℕ → ℕ → Said
said_drawn s n c =
    said (load_names n) (map (row_drawn n) (clause_states s c)) [] 0 0 (encoded (load_names n) first ∷ []) [] []

-- the line has at most 11 literals
abbrev Few : Line → Type 0
Few x = literals_in x ≤ 11

clause-few : (n s : ℕ) → Few (clause_drawn n s)
clause-few n s = omega (arith, literals-length n (state_after 3 s) (literal_count s), count-le s)

module _ (s n c : ℕ) (h : Limits n c) where
  names-read : Reads nothing_said (atom_lines n) (said (load_names n) [] [] 0 0 [] [] [])
  names-read =
      let few = h.atoms-few in
      rw (← list_of-map n load_name Line.atom)
      (atoms-read (load_names n) (record {
        few = omega (arith, load_names-length n);
        each = each_list_of AtomWritten n load_name
            (λ a l. (load_name-is-name a (omega arith), omega (arith, atom-size a (omega arith))));
      }) (load_names-distinct n few))

  load_read : Reads nothing_said (load_lines s n c) (said_drawn s n c)
  load_read =
      let rows = map (row_drawn n) (clause_states s c) in
      let m : length rows ≤ 256 =
      omega (arith, length-map (clause_states s c) (row_drawn n), states_length s c, h.clauses-few) in
      reads-append (atom_lines n) _ _ _ _ names-read
      (reads-append (clauses_drawn n s c) (query_of_first ∷ []) _ _ _
      (drawn_read n h.some h.atoms-few s c h.clauses-few)
      (query-read n h.some h.atoms-few rows m))

  literals-few : Each (λ k. k ≤ 11) (map literals_in (load_lines s n c))
  literals-few =
      each_map (λ k. k ≤ 11) literals_in (load_lines s n c)
      (each_append Few (atom_lines n) _ (each_list_of Few n _ (λ a l. omega arith))
      (each_append Few (clauses_drawn n s c) (query_of_first ∷ [])
      (clauses-each n Few (clause-few n) s c) (omega arith, tt)))

  pub file-read : read_file (load_text s n c)
      ≡ pick (settings_few (said_drawn s n c)) (Outcome.case (said_drawn s n c)) (Outcome.refused 12 0)
  file-read =
      file-lines (load_lines s n c) (said_drawn s n c) load_read
      ∙ lines-read (load_lines s n c) nothing_said (said_drawn s n c) 1 load_read literals-few
      ∙ ending-few (said_drawn s n c) (omega arith)
