use Rattle.sr_meaning.proofs.RegularProcesses.{no_room_gained}
use Rattle.sr_meaning.proofs.laws.statements_gain_no_room.Goals as goal

pub returns : goal.returns
returns c = no_room_gained
