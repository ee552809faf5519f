use Rattle.sr_journal.specs.Journal.{file_line}
use Rattle.sr_journal.proofs.Lines.{all-lines}
use Rattle.sr_journal.proofs.writing.push_file_lines.Goals as goal

pub returns : goal.returns
returns c = all-lines file_line c.args.files.now c.loop-file.file-index c.args.text.now c.loop-file.text c.loop-file-test.false c.loop-file.invariant
