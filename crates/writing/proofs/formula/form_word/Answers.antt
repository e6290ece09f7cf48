-- `formula::form_word` meets its contract: an arm for each word. Assumes nothing.
use native.Mathlib.Omega.{arith}
use Rattle.writing.proofs.Formulas.{form-word-room, form-word-written}
use Rattle.writing.proofs.formula.form_word.Goals as goal

pub open_word-requires : goal.open_word-requires
open_word-requires c = form-word-room 64 c.args.node c.args.p (omega arith) c.requires

pub open_word-requires-in-65 : goal.open_word-requires-in-65
open_word-requires-in-65 c = form-word-room 65 c.args.node c.args.p (omega arith) c.requires

pub open_word-requires-in-66 : goal.open_word-requires-in-66
open_word-requires-in-66 c = form-word-room 66 c.args.node c.args.p (omega arith) c.requires

pub open_word-requires-in-67 : goal.open_word-requires-in-67
open_word-requires-in-67 c = form-word-room 67 c.args.node c.args.p (omega arith) c.requires

pub open_word-requires-in_default : goal.open_word-requires-in_default
open_word-requires-in_default c = form-word-room 68 c.args.node c.args.p (omega arith) c.requires

pub returns-in-64 : goal.returns-in-64
returns-in-64 c = form-word-written 64 c.args.node c.args.p (omega arith) c.open_word.ensures

pub returns-in-65 : goal.returns-in-65
returns-in-65 c = form-word-written 65 c.args.node c.args.p (omega arith) c.open_word-in-65.ensures

pub returns-in-66 : goal.returns-in-66
returns-in-66 c = form-word-written 66 c.args.node c.args.p (omega arith) c.open_word-in-66.ensures

pub returns-in-67 : goal.returns-in-67
returns-in-67 c = form-word-written 67 c.args.node c.args.p (omega arith) c.open_word-in-67.ensures

pub returns-in_default : goal.returns-in_default
returns-in_default c =
    form-word-written 68 c.args.node c.args.p (omega arith) c.open_word-in_default.ensures
