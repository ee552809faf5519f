use Rattle.std.proofs.Common.{rules, w32, List, Option, Some, ap, slice_set, ◌∙◌}
use Rattle.std.proofs.lemmas.Int.{to_z-of_z}
use mir.Val.{SFits}
use Rattle.sr_ask.specs.declared.environment.Own.{Own}
use Rattle.sr_frame.proofs.Stores.{left_there}
use Rattle.sr_frame.proofs.variables.set_number.Goals as goal

pub returns : goal.returns
returns c =
    let fits : SFits w32 c.args.number = search rules in
    let made = simp to_z-of_z at c.number_own.ensures in
    let same = left_there c.args.own.now c.args.var c.at_mut.result.now c.put_number.new.held c.at_mut.ensures.value (c.put_number.ensures.left c.if-put_number.false) in
    c.set_own.ensures
    ∙ (ap (λ (own : List (Option Own)). slice_set own c.args.var (Some c.number_own.result)) same
    ∙ ap (λ (held : Own). slice_set c.args.own.now c.args.var (Some held)) made)
