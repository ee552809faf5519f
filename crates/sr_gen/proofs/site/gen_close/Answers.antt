use Rattle.sr_gen.proofs.Services.{closes_to}
use Rattle.sr_gen.proofs.site.gen_close.Goals as goal

pub returns : goal.returns
returns c core = closes_to core c.in_ok-emit.ensures c.in_ok-emit-2.ensures c.in_ok-emit-3.ensures
