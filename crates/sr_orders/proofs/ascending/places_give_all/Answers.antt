use Rattle.sr_orders.proofs.ListLemmas as list
use Rattle.sr_orders.proofs.ascending.places_give_all.Goals as goal

pub returns : goal.returns
returns g c = list.places_give_all g.A.Placed.key g.A.Placed.place
