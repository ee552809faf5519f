use Rattle.std.proofs.Common.{rules, ◌≡◌, [], ◌∷◌, Some, ap, sym, ◌∙◌}
use Rattle.std.specs.Prelude.{is_some}
use Rattle.sr_classes.specs.Classes.{class_of}
use Rattle.sr_buckets.specs.Parts.{home}
use Rattle.sr_touch.specs.Orders.{all_added, parts_in}
use Rattle.sr_touch.specs.Touched.{site_parts}
use Rattle.sr_touch.proofs.OrderLemmas.{some_added, some_mapped}
use Rattle.sr_touch.proofs.site.touches_few.Goals as goal

pub returns : goal.returns
returns c =
    let parts = site_parts c.args.core.now (class_of c.args.classes.now.of) c.args.me c.args.env.now c.args.site.now in
    let given : c.is_some.result ≡ is_some c.with_site.result = search rules in
    given ∙ sym (some_mapped parts_in c.with_site.result) ∙ ap is_some c.with_site.ensures.value
    ∙ ap (λ n. is_some (all_added (Some (n ∷ [])) parts)) c.home.ensures.home ∙ some_added (home c.args.me.process) parts
