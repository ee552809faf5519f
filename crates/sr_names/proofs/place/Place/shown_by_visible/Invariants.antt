-- What was counted is what the components so far show.
use Rattle.std.proofs.Common.{◌≡◌, take}
use Rattle.sr_names.specs.Scopes.{candidates}
use Rattle.sr_names.specs.Shown.{counted}
use Rattle.sr_names.proofs.place.Place.shown_by_visible.Given as goal

abbrev pub invariant-loop-index : goal.invariant-loop-index
invariant-loop-index l = l.shown ≡ counted (candidates l.self.specs (take l.index l.self.visible) l.name)
