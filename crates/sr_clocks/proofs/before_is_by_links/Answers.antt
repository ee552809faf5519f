use Rattle.sr_clocks.proofs.ClockLemmas.{first_part, last_link}
use Rattle.sr_clocks.proofs.before_is_by_links.Goals as goal

pub returns-clause-first : goal.returns-clause-first
returns-clause-first g c = first_part g.L.Linked.links

pub returns-clause-last : goal.returns-clause-last
returns-clause-last g c = last_link g.L.Linked.links
