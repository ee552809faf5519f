use Rattle.std.proofs.Common.{drop, sym, ◌∙◌}
use Rattle.sr_select.proofs.NameLemmas.{home-none}
use Rattle.sr_select.proofs.names.home_in.Goals as goal

pub returns-in-empty : goal.returns-in-empty
returns-in-empty c = sym (home-none (drop c.loop-name.name-index c.args.names.now) c.loop-name.rest.now c.args.import c.in-empty.len_below) ∙ c.loop-name.invariant
