-- The beginnings so far and those of the rest are those of all links.
use Rattle.std.proofs.Common.{◌≡◌, ◌++◌, drop, map}
use Rattle.sr_names.proofs.search.Search.new.Given as goal

abbrev pub invariant-loop-link : goal.invariant-loop-link
invariant-loop-link l = l.pending ++ map (λ link. link.from) (drop l.link-index l.links) ≡ map (λ link. link.from) l.links
