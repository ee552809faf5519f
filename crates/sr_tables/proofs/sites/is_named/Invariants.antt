-- The variable is named by all where it is named by the rest.
use Rattle.std.proofs.Common.{◌≡◌, ◌==◌, drop}
use Rattle.std.specs.List.{list_any}
use Rattle.sr_tables.proofs.sites.is_named.Given as goal

abbrev pub invariant-loop-formal : goal.invariant-loop-formal
invariant-loop-formal l = list_any (λ formal. formal.var == l.var) (drop l.formal-index l.formals) ≡ list_any (λ formal. formal.var == l.var) l.formals
