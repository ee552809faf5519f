use Rattle.std.proofs.Common.{refl}
use Rattle.std.proofs.lemmas.Result.{on_ok_weaker}
use Rattle.sr_races.proofs.marks.add_at.Goals as goal

pub returns : goal.returns
returns c =
    on_ok_weaker c.add_among.result (λ added. record { lines = c.at_mut.result.now; longer = c.add_among.new.lines; here = c.at_mut.ensures.value; adds = added; is = refl }) c.add_among.ensures
