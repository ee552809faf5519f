use Rattle.sr_orders.proofs.OrderLemmas.{all_replay, parts_end, parts_replay}
use Rattle.sr_orders.proofs.acts.parts_decide.Goals as goal

pub returns-clause-replay : goal.returns-clause-replay
returns-clause-replay g c = λ count local. all_replay count g.A.Acting.part g.A.Acting.mask g.A.Acting.fits g.A.Acting.apply local

pub returns-clause-only : goal.returns-clause-only
returns-clause-only g c = λ count local. parts_replay count g.A.Acting.part g.A.Acting.mask g.A.Acting.fits g.A.Acting.apply local

pub returns-clause-end : goal.returns-clause-end
returns-clause-end g c = λ count local. parts_end count g.A.Acting.part g.A.Acting.mask g.A.Acting.fits g.A.Acting.apply local
