-- The variable is listed where it is among the rest.
use Rattle.std.proofs.Common.{◌≡◌, drop}
use Rattle.std.specs.List.{list_any}
use Rattle.sr_select.specs.Worlds.{is_read}
use Rattle.sr_select.proofs.listed.variable_listed.Given as goal

abbrev pub invariant-loop-read : goal.invariant-loop-read
invariant-loop-read l = list_any (is_read l.home l.var) (drop l.read-index l.reads) ≡ list_any (is_read l.home l.var) l.reads
