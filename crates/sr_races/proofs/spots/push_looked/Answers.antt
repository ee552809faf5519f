use Rattle.std.proofs.lemmas.Result.{on_ok_weaker}
use Rattle.sr_races.proofs.SpotLemmas.{looked-reading, looked-writing}
use Rattle.sr_races.proofs.spots.push_looked.Goals as goal

pub returns-then-not-access : goal.returns-then-not-access
returns-then-not-access c = looked-reading c.args.count c.args.access.now c.args.spots.now c.push_with.new.spots c.if-not-access.true c.requires.none c.in_ok-push_with.ensures

pub returns : goal.returns
returns c =
    on_ok_weaker c.push_with-2.result
    (λ pushed. looked-writing c.args.count c.args.access.now c.args.spots.now c.push_with.new.spots c.push_with-2.new.spots c.if-not-access.false c.requires.none c.in_ok-push_with.ensures pushed)
    c.push_with-2.ensures
