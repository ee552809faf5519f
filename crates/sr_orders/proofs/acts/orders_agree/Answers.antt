use Rattle.sr_orders.proofs.OrderLemmas as law
use Rattle.sr_orders.proofs.acts.orders_agree.Goals as goal

pub returns : goal.returns
returns g c = λ count local. law.orders_agree count g.A.Acting.part g.A.Acting.mask g.A.Acting.fits g.A.Acting.apply local g.E.Recorded.acts
