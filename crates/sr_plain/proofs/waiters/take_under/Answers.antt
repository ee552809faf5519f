use Rattle.std.proofs.Common.{Some, ap, is_some, subst, sym, ◌∙◌}
use Rattle.std.specs.HashMap.{UpdatesBy}
use Rattle.sr_plain.specs.Waiting.{AreTakenUnder}
use Rattle.sr_plain.specs.declared.waiters.Waiting.{Waiting}
use Rattle.sr_plain.specs.declared.waiters.Waiting.TheVariants.{Nobody}
use Rattle.sr_plain.proofs.WaitLemmas.{absent-under, emptied-under}
use Rattle.sr_plain.proofs.waiters.take_under.Goals as goal

pub returns-in-Some : goal.returns-in-Some
returns-in-Some g c =
    let left : Waiting = c.replace.new.dest in
    let through = c.get_mut.follows.holds left in
    emptied-under g.K.PartialEq.eq c.args.table.now c.args.key (c.get_mut.follows.lender left) c.replace.result (ap (λ (w : Waiting). Some w) c.replace.ensures.value ∙ c.in-Some.ensures.value)
    (subst (λ w. UpdatesBy g.K.PartialEq.eq (g.K.PartialEq.eq c.args.key) c.args.table.now (c.get_mut.follows.lender left) (Some w)) c.replace.ensures.after (through.3 (sym (ap is_some c.in-Some.ensures.value))))

pub returns-in-None : goal.returns-in-None
returns-in-None g c =
    subst (λ m. AreTakenUnder g.K.PartialEq.eq c.args.key c.args.table.now m Nobody) (sym c.get_mut.follows.holds-at-none) (absent-under g.K.PartialEq.eq c.args.table.now c.args.key c.in-None.ensures.value)
