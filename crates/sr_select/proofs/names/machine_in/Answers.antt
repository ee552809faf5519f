use Rattle.std.proofs.Common.{drop, sym, ◌∙◌}
use Rattle.sr_select.proofs.NameLemmas.{machine-none}
use Rattle.sr_select.proofs.names.machine_in.Goals as goal

pub returns-in-empty : goal.returns-in-empty
returns-in-empty c = sym (machine-none (drop c.loop-name.name-index c.args.names.now) c.loop-name.rest.now c.in-empty.len_below) ∙ c.loop-name.invariant
