-- `operation::generate` meets its contract: a law for each refusal, and for the text. Assumes nothing.
use Rattle.spelling.proofs.Pages.{sets-length}
use Rattle.loading.proofs.Generating.{load_ready, out_of_range, output_short, load_written}
use Rattle.loading.proofs.operation.generate.Goals as goal

pub returns-then-not-is_load : goal.returns-then-not-is_load
returns-then-not-is_load c = search out_of_range

pub load_lines-page-requires : goal.load_lines-page-requires
load_lines-page-requires c = load_ready _ _ _ c.is_load.ensures c.if-not-is_load.false

pub returns-then-out-page : goal.returns-then-out-page
returns-then-out-page c = search output_short

pub load_lines-requires : goal.load_lines-requires
load_lines-requires c = load_ready _ _ _ c.is_load.ensures c.if-not-is_load.false

pub shape_of-out : goal.shape_of-out
shape_of-out c = search sets-length

pub returns : goal.returns
returns c = search load_written
