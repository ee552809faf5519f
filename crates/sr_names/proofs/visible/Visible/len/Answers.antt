-- The spots are the map's keys, of which no two are one.
use Rattle.std.proofs.Common.{subst}
use Rattle.std.specs.List.{IsDistinct}
use Rattle.sr_names.specs.Spots.{same_spot}
use Rattle.sr_names.specs.Visible.{spots_of}
use Rattle.sr_names.proofs.VisibleLemmas.{distinct-spots}
use Rattle.sr_names.proofs.visible.Visible.len.Goals as goal

pub returns-clause-distinct : goal.returns-clause-distinct
returns-clause-distinct c = subst (λ visible. IsDistinct same_spot (spots_of visible)) c.self.view_is (distinct-spots c.self.inside.sorts.entries c.len.ensures.unique)
