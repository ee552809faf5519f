use Rattle.std.proofs.Common.{ap, sym}
use Rattle.sr_gen_expr.proofs.Stretching.{gives_as}
use Rattle.sr_gen.specs.Doing.{ready_meaning}
use Rattle.sr_gen.proofs.Together.{acts_start}
use Rattle.sr_gen.proofs.invocation.gen_start.Goals as goal
use Rattle.sr_meaning.specs.Pieces.{call_part}

pub returns : goal.returns
returns c ways =
    acts_start c.args.arm (call_part c.args.quantifiers.now c.args.call.now) c.in_ok-vars.ensures c.is_some-has_place.ensures c.in_ok-emit.ensures
    (gives_as (ap (ready_meaning c.args.call.now.target) (sym c.as_slice.ensures)) c.in_ok-gen_ready.ensures) c.in_ok-gen_optional_place.ensures
