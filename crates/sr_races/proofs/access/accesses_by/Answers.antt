use Rattle.std.proofs.Common.{◌≡◌, ◌∙◌, ap, refl, subst, sym}
use Rattle.std.specs.Prelude.{filter_map}
use Rattle.sr_ask.specs.declared.request.Request.{Request}
use Rattle.sr_replay.proofs.CrewLemmas.{if_ok}
use Rattle.sr_races.specs.Accesses.{accesses_by, cell_in}
use Rattle.sr_world.specs.Seeing.{seen_by}
use Rattle.sr_races.proofs.access.accesses_by.Goals as goal

pub returns-in_ok-seen-in-Select : goal.returns-in_ok-seen-in-Select
returns-in_ok-seen-in-Select c =
    if_ok c.cells.result
    (λ found is.
    is ∙ ap (filter_map cell_in) c.in_ok-seen-in-Select.ensures
    ∙ subst (λ (q : Request). filter_map cell_in (seen_by c.args.core.now c.args.world.now c.args.process q) ≡ accesses_by c.args.core.now c.args.world.now c.args.process q) (sym c.in-Select.is) refl)
    c.cells.ensures
