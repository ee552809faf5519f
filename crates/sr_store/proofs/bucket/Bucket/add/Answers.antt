use Rattle.sr_store.proofs.CopyLemmas.{added}
use Rattle.sr_store.proofs.bucket.Bucket.add.Goals as goal

pub returns : goal.returns
returns c = added c.self.inside.tables c.insert.new.self c.args.self.now c.args.block c.args.kept c.self.view_is c.in_ok-insert.ensures.updates
