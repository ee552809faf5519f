-- What the check refuses, the program is refused for.
use Rattle.std.proofs.Common.{◌≡◌, List, Result, Ok, Err, subst}
use Rattle.sr_text.specs.declared.refusal.FrontFail.{FrontFail}
use Rattle.sr_text.specs.declared.refusal.FrontFail.TheVariants.{Refused, NoMemory}
use Rattle.sr_text.specs.declared.refusal.Refusal.{Refusal}
use Rattle.sr_tree.specs.declared.component.File.{File}
use Rattle.sr_check_expr.specs.declared.facts.Facts.{Facts}
use Rattle.sr_check.specs.Checked.{Answers, verdict}
use Rattle.sr_front.specs.Program.{IsChecked}
use Rattle.sr_front.proofs.program.checked_trees.Goals as goal

refused : (trees : List File) (meant : Result Facts Refusal) (stop : FrontFail) → Answers (Err stop) meant → IsChecked trees meant (Err stop)
refused trees meant (Refused refusal) is = is
refused trees meant NoMemory is = tt

pub returns-in-Err : goal.returns-in-Err
returns-in-Err c =
    let meant : List File → Result Facts Refusal = verdict c.args.names.uses c.args.names.specs in
    refused c.args.trees (meant c.args.trees) c.in-Err.stop (subst (λ trees. Answers (Err c.in-Err.stop) (meant trees)) c.as_slice.ensures c.in-Err.ensures)
