use Rattle.sr_world.proofs.UsedLemmas.{bounds_pushed}
use Rattle.sr_world.proofs.used.Used.push.Goals as goal

pub invariant_of-self : goal.invariant_of-self
invariant_of-self c =
    let pushed = bounds_pushed c.self.inside.names.items c.args.name c.self.inside.next c.self.inside.greatest c.self.invariant in
    rw (c.push_reserved.ensures.items, c.next_after-self-inside.ensures, c.greater-self-inside.ensures) pushed
