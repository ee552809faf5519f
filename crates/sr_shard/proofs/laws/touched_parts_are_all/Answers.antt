use Rattle.sr_shard.proofs.LawProofs.{others_stay, others_tell_nothing, touched_is_all}
use Rattle.sr_shard.proofs.laws.touched_parts_are_all.Goals as goal

pub returns-clause-acts : goal.returns-clause-acts
returns-clause-acts c = touched_is_all

pub returns-clause-stay : goal.returns-clause-stay
returns-clause-stay c = others_stay

pub returns-clause-tell : goal.returns-clause-tell
returns-clause-tell c = others_tell_nothing
