-- The variables so far, with those of the rest, are those of all.
use Rattle.std.proofs.Common.{◌≡◌, [], drop, fold}
use Rattle.std.specs.List.{filter_map}
use Rattle.sr_tables.specs.Sites.{read_by, with_read}
use Rattle.sr_tables.proofs.sites.reads_among.Given as goal

abbrev pub invariant-loop-mention : goal.invariant-loop-mention
invariant-loop-mention l = fold with_read l.reads (filter_map read_by (drop l.mention-index l.all)) ≡ fold with_read [] (filter_map read_by l.all)
