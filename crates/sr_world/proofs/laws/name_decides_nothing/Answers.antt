use Rattle.sr_world.proofs.StepLemmas.{same-step}
use Rattle.sr_world.proofs.laws.name_decides_nothing.Goals as goal

pub returns : goal.returns
returns c = λ core world actor ask name other. same-step core world ask.place name other actor ask.role ask.request
