use Rattle.std.proofs.Common.{List, ◌∙◌, ap}
use Rattle.std.specs.Prelude.{slice_get}
use Rattle.sr_calls.specs.Calls.{Called}
use Rattle.sr_queue.specs.Queues.{Queued}
use Rattle.sr_store.specs.Variables.{Stored}
use Rattle.sr_shard.proofs.SplitLemmas.{set_other}
use Rattle.sr_shard.proofs.divided.Divided.take.Goals as goal

pub returns-clause-others : goal.returns-clause-others
returns-clause-others c = record {
  blocks = λ k off. ap (λ (l : List Stored). slice_get l k) c.replace-blocks.ensures.others ∙ set_other c.args.self.now.blocks c.args.number k c.new.result off;
  calls = λ k off. ap (λ (l : List Called). slice_get l k) c.replace-calls.ensures.others ∙ set_other c.args.self.now.calls c.args.number k c.new-2.result off;
  queues = λ k off. ap (λ (l : List Queued). slice_get l k) c.replace-queue.ensures.others ∙ set_other c.args.self.now.queues c.args.number k c.new-3.result off;
}
