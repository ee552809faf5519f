-- It leaves its number alone.
use Rattle.sr_races.proofs.trail.Trail.note_alone.Goals as goal

pub returns-clause-left : goal.returns-clause-left
returns-clause-left g c = λ r made origins. c.note.ensures r origins made.nobody made.number made.duty made.readied made.ending
