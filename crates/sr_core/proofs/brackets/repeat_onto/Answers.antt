use Rattle.std.proofs.Common.{◌++◌, List, replicate, ap, sym, ◌∙◌, append_assoc}
use Rattle.sr_value.specs.declared.value.Value.{Value}
use Rattle.sr_core.specs.Values.{flat}
use Rattle.sr_core.proofs.FlatLemmas.{flat_more}
use Rattle.sr_core.proofs.brackets.repeat_onto.Goals as goal

-- one more copy stands after those of the turns before
pub loop-preserved : goal.loop-preserved
loop-preserved c =
    c.in_ok-copy_onto.ensures
    ∙ (ap (λ (t : List Value). t ++ c.args.row.now) c.loop.invariant
    ∙ (append_assoc c.args.items.now (flat (replicate c.loop.counter c.args.row.now)) c.args.row.now
    ∙ ap (λ (t : List Value). c.args.items.now ++ t) (sym (flat_more c.loop.counter c.args.row.now))))
