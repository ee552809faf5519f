-- The names so far, with those of the rest, are those of all.
use Rattle.std.proofs.Common.{◌≡◌, drop, filter, fold}
use Rattle.std.specs.List.{filter_map}
use Rattle.sr_tables.specs.Sites.{is_outer, named_by, with_named}
use Rattle.sr_tables.proofs.sites.insert_outer.Given as goal

abbrev pub invariant-loop-mention : goal.invariant-loop-mention
invariant-loop-mention l =
    fold with_named l.names (filter (is_outer l.arm) (filter_map named_by (drop l.mention-index l.all)))
    ≡ fold with_named l.fn.names (filter (is_outer l.arm) (filter_map named_by l.all))
