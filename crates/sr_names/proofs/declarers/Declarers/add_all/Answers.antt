-- The component is one of those of one name more.
use Rattle.std.proofs.Common.{ℕ, List, option_copied, ap, sym, ◌∙◌, subst}
use Rattle.sr_names.specs.declared.spot.Spot.{Spot}
use Rattle.sr_names.specs.Declarers.{IsDeclarer}
use Rattle.sr_names.proofs.DeclaringLemmas.{added-next, some_same, none-some}
use Rattle.sr_names.proofs.declarers.Declarers.add_all.Goals as goal
use Rattle.sr_names.proofs.declarers.Declarers.add_all.Goals.{in-Some+in_ok-add, in_default}

pub loop-index-preserved : goal.loop-index-preserved
loop-index-preserved c =
    let seen = c.loop-index.self in
    let after = c.match-name_at.self in
    let component = c.args.component in
    elim c.match-name_at.branch [
      | in-Some+in_ok-add w ↦
          let kept : (name : List ℕ) (spot : Spot) → IsDeclarer seen name spot → IsDeclarer after name spot =
          λ name spot h. subst (λ all. IsDeclarer all name spot) (sym w.self-is) (w.add.ensures.kept name spot h) in (
            λ name spot h. kept name spot (c.loop-index.invariant.0 name spot h),
            added-next c.args.spec.now c.loop-index.index (option_copied c.name_at.result) c.name_at.ensures seen after component c.loop-index.invariant.1 kept
                (λ name e.
                subst (λ n. IsDeclarer after n component) (some_same w.in-Some.name.now name (sym (ap option_copied w.in-Some.is) ∙ e))
                (subst (λ all. IsDeclarer all w.in-Some.name.now component) (sym w.self-is) w.in_ok-add.ensures.added)),
          )
      | in_default w ↦
          let kept : (name : List ℕ) (spot : Spot) → IsDeclarer seen name spot → IsDeclarer after name spot =
          λ name spot h. subst (λ all. IsDeclarer all name spot) (sym w.self-is) h in (
            λ name spot h. kept name spot (c.loop-index.invariant.0 name spot h),
            added-next c.args.spec.now c.loop-index.index (option_copied c.name_at.result) c.name_at.ensures seen after component c.loop-index.invariant.1 kept
                (λ name e. absurd (none-some name (sym e ∙ ap option_copied w.in_default.is))),
          )
    ]
