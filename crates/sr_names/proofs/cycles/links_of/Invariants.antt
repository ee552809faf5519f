-- The links so far and those of the rest are those of all.
use Rattle.std.proofs.Common.{◌≡◌, ◌++◌, drop}
use Rattle.sr_names.specs.Cycles.{links_of}
use Rattle.sr_names.proofs.cycles.links_of.Given as goal

abbrev pub invariant-loop-import : goal.invariant-loop-import
invariant-loop-import l = l.links ++ links_of (drop l.import-index l.imports) ≡ links_of l.imports
