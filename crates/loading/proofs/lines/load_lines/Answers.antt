-- `lines::load_lines` meets its contract: the lines of the atoms, of the clauses and of the query. Assumes nothing.
use Rattle.writing.specs.Steps.{first_page}
use Rattle.loading.proofs.LineTexts.{atoms-room, clauses-room, query-room, lines-written}
use Rattle.loading.proofs.lines.load_lines.Goals as goal

pub atom_lines-named-requires : goal.atom_lines-named-requires
atom_lines-named-requires c = atoms-room _ _ _ first_page c.requires.1

pub drawn_clauses-ruled-requires : goal.drawn_clauses-ruled-requires
drawn_clauses-ruled-requires c =
    (c.requires.0, clauses-room _ _ _ first_page c.requires.1 c.atom_lines-named.ensures)

pub query_line-requires : goal.query_line-requires
query_line-requires c =
    query-room _ _ _ first_page c.requires.1 c.atom_lines-named.ensures c.drawn_clauses-ruled.ensures

pub returns : goal.returns
returns c =
    lines-written _ _ _ c.atom_lines-named.ensures c.drawn_clauses-ruled.ensures c.query_line.ensures
