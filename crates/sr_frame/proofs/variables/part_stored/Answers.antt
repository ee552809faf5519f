use Rattle.std.proofs.Common.{Some, ap, ◌∙◌}
use Rattle.sr_frame.proofs.Stores.{stored_early, stored_in}
use Rattle.sr_frame.proofs.variables.part_stored.Goals as goal

pub returns-in-Some : goal.returns-in-Some
returns-in-Some c =
    stored_in c.args.own.now c.args.var c.in-Some.held c.put.new.place c.args.path.now c.args.value c.put.result
    (c.at_mut.ensures.value ∙ ap Some c.in-Some.is) c.put.ensures

pub returns-in-None : goal.returns-in-None
returns-in-None c =
    stored_early c.args.own.now c.args.var c.args.path.now c.args.value c.at_mut.result.now c.at_mut.ensures.value c.in-None.is
