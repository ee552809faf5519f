use Rattle.std.proofs.Common.{Bor, ℕ, List, [], ◌∷◌, ap, map, sym, ◌∙◌}
use Rattle.std.proofs.lemmas.List.{map-append}
use Rattle.std.specs.Option.{option_or}
use Rattle.sr_instances.specs.Instances.{Instance, first_among}
use Rattle.sr_instances.specs.Tables.{instance_in, instances_in}
use Rattle.sr_instances.specs.declared.tables.InstanceInfo.{InstanceInfo}
use Rattle.sr_instances.proofs.InstanceLemmas.{first_more}
use Rattle.sr_instances.proofs.places.Places.first_of.Goals as goal

pub loop-name-preserved : goal.loop-name-preserved
loop-name-preserved c =
    let seen : Bor ℕ × Bor InstanceInfo → ℕ × InstanceInfo = λ e. (e.0.now, e.1.now) in
    let before : List Instance = instances_in (map seen c.loop-name.yielded) in
    let last : Instance = instance_in (c.in-Some.name.now, c.in-Some.info.now) in
    c.note_first_of.ensures
    ∙ ap (λ o. option_or o (first_among c.args.component (last ∷ []))) c.loop-name.invariant
    ∙ sym (first_more c.args.component before (last ∷ []))
    ∙ sym (ap (first_among c.args.component) (ap instances_in (map-append seen c.loop-name.yielded ((c.in-Some.name, c.in-Some.info) ∷ [])) ∙ map-append instance_in (map seen c.loop-name.yielded) ((c.in-Some.name.now, c.in-Some.info.now) ∷ [])))
