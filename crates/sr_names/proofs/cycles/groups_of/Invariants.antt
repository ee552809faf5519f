-- What is known of a search holds, and each step leaves less to do.
use Rattle.sr_names.specs.Searches.{IsSearch, work}
use Rattle.sr_names.proofs.cycles.groups_of.Given as goal

abbrev pub invariant-search : goal.invariant-search
invariant-search l = IsSearch l.links l.search

abbrev pub decreases-search : goal.decreases-search
decreases-search l = work l.links l.search
