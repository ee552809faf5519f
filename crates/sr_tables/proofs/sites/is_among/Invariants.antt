-- The name is among all where it is among the rest.
use Rattle.std.proofs.Common.{◌≡◌, drop}
use Rattle.std.specs.List.{list_any}
use Rattle.sr_tables.specs.Sites.{same_named}
use Rattle.sr_tables.proofs.sites.is_among.Given as goal

abbrev pub invariant-loop-other : goal.invariant-loop-other
invariant-loop-other l = list_any (same_named l.name) (drop l.other-index l.names) ≡ list_any (same_named l.name) l.names
