use Rattle.std.proofs.Common.{List, ap, ◌∙◌}
use Rattle.sr_value.specs.declared.value.Value.{Value}
use Rattle.sr_ask.specs.declared.environment.Located.{Located}
use Rattle.sr_code.specs.Stacks.{first_or}
use Rattle.sr_execute.proofs.Storing.{stored_from}
use Rattle.sr_execute.proofs.results.store_results.Goals as goal

pub returns : goal.returns
returns c =
    stored_from c.store_some.result c.store_some.new.frame c.args.frame.now c.take-places.result c.take-values.result c.take-places.new.self c.take-values.new.self c.args.to c.args.next
    (c.take-places.ensures.value ∙ ap (λ (none : List Located). first_or none c.args.frame.now.operands.targets) c.new.ensures)
    (c.take-values.ensures.value ∙ ap (λ (none : List Value). first_or none c.args.frame.now.operands.lists) c.new-2.ensures)
    c.take-places.ensures.rest c.take-values.ensures.rest c.store_some.ensures
