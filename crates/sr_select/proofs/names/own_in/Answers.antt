use Rattle.std.proofs.Common.{drop, sym, ◌∙◌}
use Rattle.sr_select.proofs.NameLemmas.{named-none}
use Rattle.sr_select.proofs.names.own_in.Goals as goal

pub returns-in-empty : goal.returns-in-empty
returns-in-empty c = sym (named-none (drop c.loop-name.name-index c.args.names.now) c.loop-name.rest.now c.args.var c.in-empty.len_below) ∙ c.loop-name.invariant
