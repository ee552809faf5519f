use Rattle.std.proofs.Common.{ap, get_or, subst}
use Rattle.sr_value.specs.Operators.{Answers}
use Rattle.sr_store.specs.Variables.{block_loaded}
use Rattle.sr_buckets.proofs.PartLemmas.{at-home}
use Rattle.sr_store.proofs.BucketLemmas.{block-at}
use Rattle.sr_store.proofs.blocks.Blocks.load.Goals as goal

pub returns : goal.returns
returns c =
    subst (λ meant. Answers c.load.result meant)
    (ap (λ b. block_loaded b c.args.var c.args.path.now)
    (block-at c.self.inside.buckets c.args.self.now c.args.block (get_or c.self.inside.buckets c.home.result c.index-self-home.result) c.self.view_is
    (at-home c.self.inside.buckets c.args.block c.home.result c.self.invariant.all c.home.ensures.home c.index-self-home.result)))
    c.load.ensures
