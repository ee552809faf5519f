use Rattle.std.proofs.Common.{length, ap, sym, ◌∙◌}
use Rattle.std.proofs.lemmas.List.{length-append}
use Rattle.sr_line.specs.Lines.{joined}
use Rattle.sr_line.proofs.BlockLemmas.{same-items}
use Rattle.sr_line.proofs.line.Line.len.Goals as goal

pub returns : goal.returns
returns g c = c.self.invariant ∙ sym (length-append (joined c.self.inside.blocks.items) c.self.inside.last.items) ∙ ap length (same-items _ _ c.self.view_is)
