use Rattle.std.proofs.Common.{◌∙◌, ap, get_or}
use Rattle.std.specs.Prelude.{find}
use Rattle.sr_calls.specs.Calls.{is_held_as}
use Rattle.sr_buckets.proofs.PartLemmas.{at-home}
use Rattle.sr_calls.proofs.BucketLemmas.{held-at}
use Rattle.sr_calls.proofs.calls.Calls.holding.Goals as goal

pub returns : goal.returns
returns c =
    c.holding.ensures
    ∙ ap (find (is_held_as c.args.id))
    (held-at c.self.inside.buckets c.args.self.now c.args.actor (get_or c.self.inside.buckets c.home.result c.index-self-home.result) c.self.view_is
    (at-home c.self.inside.buckets c.args.actor c.home.result c.self.invariant.all c.home.ensures.home c.index-self-home.result))
