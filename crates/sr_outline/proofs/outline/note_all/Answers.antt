-- The tables of one component after another are those of all.
use Rattle.sr_tables.specs.Parts.{components_in}
use Rattle.sr_outline.proofs.Together.{whole}
use Rattle.sr_outline.proofs.outline.note_all.Goals as goal

pub returns : goal.returns
returns c =
    whole c.note_operations.result c.args.facts.now (components_in c.args.files.now) c.args.tables.now c.note_files.new.tables c.note_operations.new.tables c.declare_all.new.all
    c.requires c.in_ok-note_files.ensures c.in_ok-declare_all.ensures c.note_operations.ensures
