use Rattle.sr_line.proofs.BlockLemmas.{stands-nowhere}
use Rattle.sr_line.proofs.line.Line.at.Goals as goal

pub unreachable-requires : goal.unreachable-requires
unreachable-requires g c = absurd (stands-nowhere c.args.self.now.items c.args.place c.requires c.in-None.ensures)
