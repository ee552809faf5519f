-- What was opened is put back into the tables.
use Rattle.sr_tables.specs.Parts.{components_in}
use Rattle.sr_outline.proofs.DeclaredOperation.{opened_whole}
use Rattle.sr_outline.proofs.outline.note_operations.Goals as goal

pub returns : goal.returns
returns c =
    opened_whole c.open_all-opened.result c.args.facts.now (components_in c.args.files.now) c.args.tables.now c.take_opening-opening.new.tables c.put_back.new.tables
    c.take_opening-opening.result c.open_all-opened.new.opening
    c.take_opening-opening.ensures.opening c.take_opening-opening.ensures.tables
    c.open_all-opened.ensures.operations c.open_all-opened.ensures.shapes c.open_all-opened.ensures.heads c.open_all-opened.ensures.procs
    c.put_back.ensures
