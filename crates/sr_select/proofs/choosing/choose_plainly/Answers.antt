-- The first invocation of the one arm's operation is serviced.
use Rattle.std.proofs.Common.{ap, sym, ◌∙◌}
use Rattle.sr_queue.specs.Classes.{next_waiting}
use Rattle.sr_value.specs.declared.capability.Owner.{Owner}
use Rattle.sr_select.proofs.OldestLemmas.{serves-next, serves-none}
use Rattle.sr_select.proofs.choosing.choose_plainly.Goals as goal

pub returns-in-Some : goal.returns-in-Some
returns-in-Some c = λ reading env.
    serves-next reading c.args.site.now c.args.me env c.args.queue.now.items c.arm-item.result c.as_slice.result.now c.as_slice.ensures
    (record {
      some = c.in-len1.len_at_least;
      few = c.in-len1.len_below;
      is = c.arm-item.is;
      no_guard = sym c.is_some.ensures ∙ c.if-is_some.false;
      no_order = sym c.is_some-else-is_some.ensures ∙ c.if-is_some-2.false;
    })
    c.in-Some.place
    (ap (λ (owner : Owner). next_waiting owner c.arm-item.result.op 0 c.args.queue.now.items) (sym c.owner_in.ensures) ∙ sym c.next_of.ensures ∙ c.in-Some.is)

pub returns-in-None : goal.returns-in-None
returns-in-None c = λ reading env.
    c.unserviced.ensures
    ∙ serves-none reading c.args.site.now c.args.me env c.args.queue.now.items c.arm-item.result c.as_slice.result.now c.as_slice.ensures
    (record {
      some = c.in-len1.len_at_least;
      few = c.in-len1.len_below;
      is = c.arm-item.is;
      no_guard = sym c.is_some.ensures ∙ c.if-is_some.false;
      no_order = sym c.is_some-else-is_some.ensures ∙ c.if-is_some-2.false;
    })
    (ap (λ (owner : Owner). next_waiting owner c.arm-item.result.op 0 c.args.queue.now.items) (sym c.owner_in.ensures) ∙ sym c.next_of.ensures ∙ c.in-None.is)
