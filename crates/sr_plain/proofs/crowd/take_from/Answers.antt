use Rattle.std.proofs.Common.{◌≡◌, ap, sym, ◌∙◌}
use Rattle.std.specs.BTreeSet.{contains}
use Rattle.std.specs.Ordering.{nat_cmp}
use Rattle.sr_plain.specs.Waiting.{HoldsProcess}
use Rattle.sr_plain.specs.declared.crowd.Opened.{Opened}
use Rattle.sr_plain.proofs.CrowdLemmas.{has-left, within-row}
use Rattle.sr_plain.proofs.crowd.take_from.Goals as goal

pub at_mut-requires : goal.at_mut-requires
at_mut-requires c = within-row c.args.crowds.now c.args.place c.requires.crowd c.requires.here

pub leave-requires : goal.leave-requires
leave-requires c =
    let crowd : Opened = c.at_mut.result.now in
    let same : c.requires.crowd ≡ crowd = cc (c.requires.here, c.at_mut.ensures.value) in
    ap (λ (o : Opened). contains nat_cmp o.processes c.args.process) (sym same) ∙ c.requires.holds

pub returns : goal.returns
returns c =
    let crowd : Opened = c.at_mut.result.now in
    let same : c.requires.crowd ≡ crowd = cc (c.requires.here, c.at_mut.ensures.value) in
    let holds : HoldsProcess c.args.crowds.now c.args.process c.args.place =
    record { crowd = crowd; here = c.at_mut.ensures.value; holds = ap (λ (o : Opened). contains nat_cmp o.processes c.args.process) (sym same) ∙ c.requires.holds } in
    has-left c.args.process c.args.place c.args.crowds.now c.drop_if_empty.new.crowds holds c.leave.new.crowd c.leave.ensures c.drop_if_empty.ensures
