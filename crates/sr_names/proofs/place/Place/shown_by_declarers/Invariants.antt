-- What was counted is what the visible ones of the components so far show.
use Rattle.std.proofs.Common.{◌≡◌, take}
use Rattle.std.specs.List.{filter_map}
use Rattle.sr_names.specs.Scopes.{shown_at}
use Rattle.sr_names.specs.Shown.{counted}
use Rattle.sr_names.proofs.place.Place.shown_by_declarers.Given as goal

abbrev pub invariant-loop-index : goal.invariant-loop-index
invariant-loop-index l = l.shown ≡ counted (filter_map (shown_at l.self.specs l.self.visible l.name) (take l.index l.declarers))
