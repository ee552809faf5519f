use Rattle.std.proofs.Common.{◌++◌, ◌∙◌, ap}
use Rattle.sr_replay.proofs.CrewLemmas.{on_ok}
use Rattle.sr_replay.proofs.ShownLemmas.{instance-by}
use Rattle.sr_replay.proofs.shown.push_instance.Goals as goal

pub returns-in-Some : goal.returns-in-Some
returns-in-Some c = on_ok c.push.result
    (λ pushed. pushed ∙ ap (λ shown. c.args.shown.now ++ shown) (instance-by c.args.places.now c.args.name c.component.result c.in-Some.state c.in-Some.ensures c.component.ensures))
    c.push.ensures.ok
