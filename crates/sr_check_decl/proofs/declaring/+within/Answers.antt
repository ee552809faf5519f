-- What the next formal declares is declared.
use Rattle.std.proofs.Common.{◌+◌, drop, flat_map, ap, ◌∙◌}
use Rattle.sr_tree.specs.Nested.{formal_types}
use Rattle.sr_check_decl.specs.Declaring.{types_declared}
use Rattle.sr_check_decl.proofs.TypesDeclared.{next_declared}
use Rattle.sr_check_decl.proofs.declaring.+within.Goals as goal

pub declare_within_formals-loop-formal-preserved : goal.declare_within_formals-loop-formal-preserved
declare_within_formals-loop-formal-preserved t c =
    ap (types_declared (flat_map formal_types (drop (c.loop-formal.formal-index + 1) c.args.formals.now))) c.in_ok-declare_within.ensures
    ∙ next_declared c.args.formals.now c.loop-formal.formal-index c.formal-item.result c.loop-formal.tally c.loop-formal-test.true c.formal-item.is
    ∙ c.loop-formal.invariant
