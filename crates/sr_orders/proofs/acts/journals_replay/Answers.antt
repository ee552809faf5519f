use Rattle.sr_orders.proofs.OrderLemmas as law
use Rattle.sr_orders.proofs.acts.journals_replay.Goals as goal

pub returns : goal.returns
returns g c = λ count local. law.journals_replay count g.A.Acting.part g.A.Acting.mask g.A.Acting.fits g.A.Acting.apply local g.E.Recorded.acts
