-- A file that is read is spelled by the tokens; where none is read, none is spelled.
use Rattle.std.proofs.Common.{sym, subst}
use Rattle.sr_tree.specs.Components.{Spells}
use Rattle.sr_parse_expr.specs.Refused.{IsRefusedIn}
use Rattle.sr_program_reader.specs.Files.{SpellsFile}
use Rattle.sr_program_reader.proofs.FileLaws.{spelled}
use Rattle.sr_parser.specs.Programs.{SpellsNoFile}
use Rattle.sr_parser.proofs.Refusals.{none_of, dead_of}
use Rattle.sr_parser.proofs.program.parse.Goals as goal

pub returns-in-Ok-clause-tree : goal.returns-in-Ok-clause-tree
returns-in-Ok-clause-tree c =
    subst (λ w. Spells w c.in-Ok.tree) c.as_slice-items.ensures (spelled c.as_slice-items.result.now c.in-Ok.tree _ c.in-Ok.ensures.reads)

pub returns-in-Err-clause-none : goal.returns-in-Err-clause-none
returns-in-Err-clause-none c =
    subst (λ w. SpellsNoFile w c.refused.result) c.as_slice-items.ensures
    (subst (SpellsNoFile c.as_slice-items.result.now) (sym c.refused.ensures) (none_of c.as_slice-items.result.now c.in-Err.fail c.in-Err.ensures.reads))

pub returns-in-Err-clause-dead : goal.returns-in-Err-clause-dead
returns-in-Err-clause-dead c =
    subst (λ w. IsRefusedIn SpellsFile w 0 c.refused.result) c.as_slice-items.ensures
    (subst (IsRefusedIn SpellsFile c.as_slice-items.result.now 0) (sym c.refused.ensures) (dead_of c.as_slice-items.result.now c.in-Err.fail c.in-Err.ensures.reads))
