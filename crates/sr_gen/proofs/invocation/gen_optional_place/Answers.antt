use Rattle.std.proofs.Common.{ap}
use Rattle.sr_meaning.specs.Statements.{optional_place}
use Rattle.sr_gen_expr.proofs.Stretching.{gives_as}
use Rattle.sr_gen.proofs.Together.{gives_a_place, gives_no_place}
use Rattle.sr_gen.proofs.invocation.gen_optional_place.Goals as goal

pub returns-in-None : goal.returns-in-None
returns-in-None c = gives_as (ap optional_place c.in-None.is) (gives_no_place c.args.core.now c.args.place c.args.out.now)

pub returns-in_ok-gen_place-in-Some : goal.returns-in_ok-gen_place-in-Some
returns-in_ok-gen_place-in-Some c = gives_as (ap optional_place c.in-Some.is) (gives_a_place c.in-Some.at c.in_ok-gen_place-in-Some.ensures)
