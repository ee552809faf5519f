-- The names so far are those that were there and those of the list so far.
use Rattle.std.proofs.Common.{◌≡◌, ◌++◌, take}
use Rattle.sr_scope.proofs.components.push_names.Given as goal

abbrev pub invariant-loop-name : goal.invariant-loop-name
invariant-loop-name l = l.all ≡ l.fn.all ++ take l.name-index l.names
