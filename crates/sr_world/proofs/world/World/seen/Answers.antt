use Rattle.std.proofs.Common.{◌≡◌, Option, Some, IfOk, subst, sym}
use Rattle.std.specs.Prelude.{slice_get}
use Rattle.sr_ask.specs.declared.request.Request.{Request}
use Rattle.sr_core.specs.declared.site.Site.{Site}
use Rattle.sr_world.specs.Seeing.{seen_by, seen_if}
use Rattle.sr_world.proofs.world.World.seen.Goals as goal

pub returns-in-Some : goal.returns-in-Some
returns-in-Some c =
    let found : Some c.in-Some.site.now ≡ slice_get c.args.core.now.sites c.in-Select.site = c.in-Some.ensures.value in
    subst (λ (r : Request). IfOk c.seen_at.result (λ seen. seen ≡ seen_by c.args.core.now c.args.self.now c.args.process r)) (sym c.in-Select.is)
    (subst (λ (site : Option Site). IfOk c.seen_at.result (λ seen. seen ≡ seen_if c.args.core.now c.args.self.now c.args.process c.in-Select.env site)) found c.seen_at.ensures)
