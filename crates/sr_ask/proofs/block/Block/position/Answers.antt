use Rattle.std.proofs.Common.{sym}
use Rattle.sr_ask.specs.Numbers.{is_number}
use Rattle.sr_ask.proofs.NumberLemmas.{place_lacking}
use Rattle.sr_ask.proofs.block.Block.position.Goals as goal

pub returns-then-is_beyond : goal.returns-then-is_beyond
returns-then-is_beyond c = sym (place_lacking (is_number c.args.number) c.args.self.now (c.is_beyond.ensures c.if-is_beyond.true))
