use Rattle.std.proofs.Common.{None}
use Rattle.sr_calls.proofs.ProcessCallsLemmas.{Changes, answers-others, changes, held-changed, holds-others, no_process_calls, replies-changed}
use Rattle.sr_calls.proofs.bucket.Bucket.forget.Goals as goal

change : (c : goal.Joined-remove) → Changes c.self.inside.by_process.entries c.remove.new.self.entries c.args.process no_process_calls
change c = changes c.self.inside.by_process.entries c.remove.new.self.entries c.args.process None c.remove.ensures.updates.0

pub returns-clause-held : goal.returns-clause-held
returns-clause-held c = held-changed c.self.inside.by_process.entries c.remove.new.self.entries c.args.self.now c.self.view_is c.args.process no_process_calls (change c)

pub returns-clause-replies : goal.returns-clause-replies
returns-clause-replies c = replies-changed c.self.inside.by_process.entries c.remove.new.self.entries c.args.self.now c.self.view_is c.args.process no_process_calls (change c)

pub returns-clause-holds : goal.returns-clause-holds
returns-clause-holds c = holds-others c.self.inside.by_process.entries c.remove.new.self.entries c.args.self.now c.self.view_is c.args.process no_process_calls (change c)

pub returns-clause-answers : goal.returns-clause-answers
returns-clause-answers c = answers-others c.self.inside.by_process.entries c.remove.new.self.entries c.args.self.now c.self.view_is c.args.process no_process_calls (change c)
