-- What is declared so far and what the rest declare are what all declare.
use Rattle.std.proofs.Common.{◌≡◌, drop, flat_map}
use Rattle.sr_tree.specs.Nested.{formal_types}
use Rattle.sr_check_decl.specs.Declaring.{types_declared}
use Rattle.sr_check_decl.proofs.declaring.+within.Given as goal

abbrev pub invariant-declare_within_formals-loop-formal : goal.invariant-declare_within_formals-loop-formal
invariant-declare_within_formals-loop-formal l =
    types_declared (flat_map formal_types (drop l.formal-index l.formals)) l.tally ≡ types_declared (flat_map formal_types l.formals) l.fn.tally
