use Rattle.std.proofs.Common.{◌∙◌, ap, get_or, is_some}
use Rattle.std.specs.Prelude.{find}
use Rattle.sr_calls.specs.Calls.{answers_one}
use Rattle.sr_buckets.proofs.PartLemmas.{at-home}
use Rattle.sr_calls.proofs.BucketLemmas.{replies-at}
use Rattle.sr_calls.proofs.calls.Calls.has_reply.Goals as goal

pub returns : goal.returns
returns c =
    c.has_reply.ensures
    ∙ ap (λ replies. is_some (find (answers_one c.args.ids.now) replies))
    (replies-at c.self.inside.buckets c.args.self.now c.args.caller (get_or c.self.inside.buckets c.home.result c.index-self-home.result) c.self.view_is
    (at-home c.self.inside.buckets c.args.caller c.home.result c.self.invariant.all c.home.ensures.home c.index-self-home.result))
