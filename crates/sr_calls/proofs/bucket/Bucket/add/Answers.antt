use Rattle.sr_calls.proofs.CopyLemmas.{held-added, replies-added}
use Rattle.sr_calls.proofs.bucket.Bucket.add.Goals as goal

pub returns-clause-held : goal.returns-clause-held
returns-clause-held c = held-added c.self.inside.by_process c.insert.new.self c.args.self.now c.args.process c.args.process_calls c.self.view_is c.in_ok-insert.ensures.updates

pub returns-clause-replies : goal.returns-clause-replies
returns-clause-replies c = replies-added c.self.inside.by_process c.insert.new.self c.args.self.now c.args.process c.args.process_calls c.self.view_is c.in_ok-insert.ensures.updates
