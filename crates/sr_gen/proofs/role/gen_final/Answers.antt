use Rattle.std.proofs.Common.{ap, sym}
use Rattle.sr_gen.specs.Doing.{last_block}
use Rattle.sr_gen.proofs.Roles.{ends_as}
use Rattle.sr_gen.proofs.role.gen_final.Goals as goal

pub returns : goal.returns
returns c = ends_as (ap last_block (sym c.as_slice.ensures)) c.in_ok-gen_last.ensures
