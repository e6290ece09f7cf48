-- Answers to the goals of this function. Assumes nothing.
use Rattle.std.proofs.Common.{rules}
use Rattle.text.proofs.Names.{looking_end, looking_open, looking_close, looking_name, looking_opened, looking_other}
use Rattle.text.proofs.name.next_name.Goals as goal
use Rattle.text.proofs.name.next_name.Goals.{else-not-opened-via-then-not-opened+else-is_name}
use Rattle.text.proofs.name.next_name.Goals.{else-not-opened-via-else-not-opened}

pub returns-in-End : goal.returns-in-End
returns-in-End c = search (rules, looking_end)

pub loop-n-preserved-in-Open : goal.loop-n-preserved-in-Open
loop-n-preserved-in-Open c = search (rules, looking_open)

pub loop-n-preserved-in-Close : goal.loop-n-preserved-in-Close
loop-n-preserved-in-Close c = search (rules, looking_close)

pub returns-then-is_name : goal.returns-then-is_name
returns-then-is_name c = search (rules, looking_name)

pub loop-n-preserved : goal.loop-n-preserved
loop-n-preserved c =
    elim c.else-not-opened.branch [
      | else-not-opened-via-then-not-opened+else-is_name w ↦ search (rules, looking_other)
      | else-not-opened-via-else-not-opened w ↦ search (rules, looking_opened)
    ]
