use Rattle.std.proofs.Common.{◌∙◌, ap}
use Rattle.std.specs.HashMap.{get}
use Rattle.sr_queue.specs.Classes.{same_class}
use Rattle.sr_plain.specs.Waiting.{is_among}
use Rattle.sr_plain.proofs.BeginLemmas.{on_ok}
use Rattle.sr_plain.proofs.JoinLemmas.{ready-all}
use Rattle.sr_plain.proofs.waking.wake_all.Goals as goal

pub returns : goal.returns
returns c = on_ok c.make_all_ready.result (λ made. record {
  nobody = λ class process. ap (λ idle. is_among (get same_class idle class) process) made.idle ∙ c.open_all.ensures class process;
  all = ready-all c.args.world.now.live c.as_slice.result.now c.make_all_ready.new.waiters (c.as_slice.ensures ∙ c.in_ok-living.ensures) made.ready;
}) c.make_all_ready.ensures
