-- The imports whose ends are in one group are those that lie on a cycle.
use Rattle.std.proofs.Common.{◌≡◌, List, [], ◌∷◌, ◌++◌, refl, ap, ◌∙◌, subst, inl, inr, if◌then◌else◌}
use Rattle.std.proofs.lemmas.Result.{on_ok_weaker}
use Rattle.sr_names.specs.declared.cycles.Import.{Import}
use Rattle.sr_names.specs.declared.finding.Finding.{Finding}
use Rattle.sr_names.specs.declared.finding.Rule.TheVariants.{Cycle}
use Rattle.sr_names.specs.declared.links.Link.{Link}
use Rattle.sr_names.specs.declared.marks.Mark.{Mark}
use Rattle.sr_names.specs.declared.spot.Spot.{Spot}
use Rattle.sr_names.specs.Cycles.{links_of, cycle_found, all_cycles_found, all_together_found, AreGrouped}
use Rattle.sr_names.specs.Links.{Among}
use Rattle.sr_names.specs.Diagnostics.{all_noted}
use Rattle.sr_names.specs.Readings.{broken}
use Rattle.sr_names.proofs.cycles.note_cycles.Goals as goal

together-cycles : (links : List Link) (marks : List (Spot × Mark)) → AreGrouped links marks → (imports : List Import) → ((link : Link) → Among (links_of imports) link → Among links link)
    → all_together_found marks imports ≡ all_cycles_found links imports
together-cycles links marks good [] among = refl
together-cycles links marks good (import ∷ imports) among =
    ap (λ b. (if b then broken Cycle import.span ∷ [] else []) ++ all_together_found marks imports) (good import.link (among import.link (inl refl)))
    ∙ ap (λ (found : List Finding). cycle_found links import ++ found) (together-cycles links marks good imports (λ link h. among link (inr h)))

pub returns : goal.returns
returns c =
    let good = subst (λ (links : List Link). AreGrouped links c.in_ok-groups.groups) (c.as_slice.ensures ∙ c.in_ok-links.ensures) c.in_ok-groups.ensures in
    on_ok_weaker c.note_all.result
    (λ e. e ∙ ap (λ found. all_noted c.args.diagnostics.now found) (together-cycles (links_of c.args.imports.now) c.in_ok-groups.groups good c.args.imports.now (λ link h. h)))
    c.note_all.ensures
