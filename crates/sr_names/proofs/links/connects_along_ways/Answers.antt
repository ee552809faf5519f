-- From a connection to a way and back.
use Rattle.sr_names.proofs.LinkLemmas.{way-from_connects, connects-from_way}
use Rattle.sr_names.proofs.links.connects_along_ways.Goals as goal

pub returns : goal.returns
returns c = λ links from to. (way-from_connects links from to, connects-from_way links from to)
