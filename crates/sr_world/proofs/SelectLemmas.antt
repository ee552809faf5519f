-- Nothing is serviced where nothing is pending.
use Rattle.std.proofs.Common.{◌≡◌, ℕ, List, [], ◌∷◌, None, length, refl, arith}
use Rattle.sr_core.specs.declared.component.Core.{Core}
use Rattle.sr_core.specs.declared.owner.Me.{Me}
use Rattle.sr_core.specs.declared.site.Site.{Site}
use Rattle.sr_queue.specs.declared.pending.Pending.{Pending}
use Rattle.sr_select.specs.Choices.{choice, otherwise}
use Rattle.sr_select.specs.Readings.{Reading}
use Rattle.sr_value.specs.declared.value.Value.{Value}
use Rattle.sr_world.specs.Selecting.{choice_of, me_of, reading_of}
use Rattle.sr_world.specs.Worlds.{World}

choice-none : (reading : Reading) (site : Site) (me : Me) (env : List Value) (items : List Pending) → length items ≡ 0 → otherwise site.has_else None ≡ choice reading site me env items
choice-none reading site me env [] none = refl
choice-none reading site me env (p ∷ ps) none = absurd (omega (arith, none))

pub unserviced_is : (core : Core) (world : World) (process : ℕ) (env : List Value) (site : Site) → length world.pending ≡ 0 → otherwise site.has_else None ≡ choice_of core world process env site
unserviced_is core world process env site none = choice-none (reading_of core world process) site (me_of world process) env world.pending none
