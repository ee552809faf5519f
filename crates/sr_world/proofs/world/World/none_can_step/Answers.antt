use Rattle.std.proofs.Common.{◌≡◌, subst}
use Rattle.std.specs.Prelude.{IfOk}
use Rattle.std.specs.List.{list_all}
use Rattle.sr_world.specs.Runs.{is_blocked}
use Rattle.sr_world.proofs.QuietLemmas.{quiet_ok}
use Rattle.sr_world.proofs.world.World.none_can_step.Goals as goal

pub returns-clause-none : goal.returns-clause-none
returns-clause-none c =
    quiet_ok c.args.core.now c.args.self.now c.args.asks.now c.are_blocked.result
    (subst (λ asks. IfOk c.are_blocked.result (λ blocked. blocked ≡ list_all (λ one. is_blocked c.args.core.now c.args.self.now one.0 one.1) asks)) c.as_slice.ensures c.are_blocked.ensures)
