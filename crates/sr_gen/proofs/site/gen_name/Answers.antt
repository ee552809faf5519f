use Rattle.sr_gen.proofs.Services.{joins_named}
use Rattle.sr_gen.proofs.site.gen_name.Goals as goal

pub returns : goal.returns
returns c core = joins_named c.args.named.now c.in_ok-emit.ensures
