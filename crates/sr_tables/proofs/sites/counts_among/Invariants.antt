-- The operations so far, with those of the rest, are those of all.
use Rattle.std.proofs.Common.{◌≡◌, [], drop, fold}
use Rattle.std.specs.List.{filter_map}
use Rattle.sr_tables.specs.Sites.{counted_by, with_count}
use Rattle.sr_tables.proofs.sites.counts_among.Given as goal

abbrev pub invariant-loop-mention : goal.invariant-loop-mention
invariant-loop-mention l = fold with_count l.counts (filter_map counted_by (drop l.mention-index l.all)) ≡ fold with_count [] (filter_map counted_by l.all)
