-- The variable is among all where it is among the rest.
use Rattle.std.proofs.Common.{◌≡◌, drop}
use Rattle.std.specs.List.{list_any}
use Rattle.sr_tables.specs.Sites.{same_read}
use Rattle.sr_tables.proofs.sites.is_read.Given as goal

abbrev pub invariant-loop-other : goal.invariant-loop-other
invariant-loop-other l = list_any (same_read l.read) (drop l.other-index l.reads) ≡ list_any (same_read l.read) l.reads
