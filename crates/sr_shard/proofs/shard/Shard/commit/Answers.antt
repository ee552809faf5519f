use Rattle.std.proofs.Common.{◌≡◌, ◌∷◌, ◌++◌, ◌∙◌, [], Some, ap, arith, subst, sym, true}
use Rattle.sr_world.specs.Worlds.{World}
use Rattle.sr_shard.specs.Changes.{all_changed}
use Rattle.sr_shard.specs.Committing.{FitsPresent, IsLaterThan}
use Rattle.sr_shard.specs.Laws.{is_touched_by, world_after}
use Rattle.sr_shard.specs.Presents.{AreApart, IsBase, present_in}
use Rattle.sr_shard.specs.Shards.{Sharded, acts_on, opened_part}
use Rattle.sr_shard.specs.declared.present.Present.{Present}
use Rattle.sr_shard.proofs.ApartLemmas.{changes_on, entry_apart}
use Rattle.sr_shard.proofs.CommitLemmas.{none_fits, none_planned, planned_is, planned_room, present_more, ready_beside, replay_after}
use Rattle.sr_shard.proofs.shard.Shard.commit.Goals as goal
use Rattle.sr_shard.proofs.shard.Shard.commit.Goals.{In-Some}

-- the changes that were planned are those of the entry
planned : (g : _) (c : In-Some g) → c.in-Some.changes ≡ changes_on g.P.Opening.opened c.self.inside.present.portion.number c.args.entry
planned g c =
    planned_is c.self.inside.planned c.in-Some.changes (changes_on g.P.Opening.opened c.self.inside.present.portion.number c.args.entry) (sym c.take.ensures.value ∙ c.in-Some.is)
    (ap (λ (shard : Sharded). shard.planned) c.self.view_is ∙ c.requires.planned ∙ ap (λ (shard : Sharded). Some (changes_on g.P.Opening.opened shard.number c.args.entry)) (sym c.self.view_is))

pub unreachable-requires : goal.unreachable-requires
unreachable-requires g c =
    none_planned c.self.inside.planned (changes_on g.P.Opening.opened c.self.inside.present.portion.number c.args.entry) (sym c.in_default.ensures.value)
    (ap (λ (shard : Sharded). shard.planned) c.self.view_is ∙ c.requires.planned ∙ ap (λ (shard : Sharded). Some (changes_on g.P.Opening.opened shard.number c.args.entry)) (sym c.self.view_is))

pub make_all-requires-clause-apart : goal.make_all-requires-clause-apart
make_all-requires-clause-apart g c =
    subst AreApart (sym (planned g (goal.at.make_all-requires-clause-apart g c).In-Some)) (entry_apart g.P.Opening.opened c.self.inside.present.portion.number c.args.entry)

pub make_all-requires-clause-ready : goal.make_all-requires-clause-ready
make_all-requires-clause-ready g c = λ base is.
    let room = planned_room g.P.Opening.opened _ c.self.inside.planned c.in-Some.changes c.self.inside.present (sym c.take.ensures.value ∙ c.in-Some.is) c.self.invariant.1 in
    ready_beside g.P.Opening.opened c.args.standing.now base c.self.inside.present c.in-Some.changes c.requires.standing room.1 is

pub push_reserved-requires : goal.push_reserved-requires
push_reserved-requires g c =
    let room = planned_room g.P.Opening.opened _ c.self.inside.planned c.in-Some.changes c.self.inside.present (sym c.take.ensures.value ∙ c.in-Some.is) c.self.invariant.1 in
    let more = room.0 in omega (arith, more, c.self.inside.journal.ok.0)

made : (g : _) (c : In-Some g) → (new : Present) → new.portion.number ≡ c.self.inside.present.portion.number
    → ((base : World) → IsBase c.self.inside.present.portion.number c.args.standing.now base → present_in base new ≡ all_changed c.in-Some.changes (present_in base c.self.inside.present))
    → present_in (opened_part g.P.Opening.opened new.portion.number) new
    ≡ world_after g.P.Opening.opened.core g.P.Opening.opened.class (acts_on g.P.Opening.opened c.self.inside.present.portion.number (c.args.entry ∷ []))
    (present_in (opened_part g.P.Opening.opened c.self.inside.present.portion.number) c.self.inside.present)
made g c new number present = present_more g.P.Opening.opened c.args.standing.now c.self.inside.present new c.args.entry c.in-Some.changes c.requires.standing (planned g c) number present

pub invariant_of-self : goal.invariant_of-self
invariant_of-self g c =
    let opened = g.P.Opening.opened in
    let some = (goal.at.invariant_of-self g c).In-Some in
    let new = c.make_all.new.self in (
      replay_after opened c.self.inside.journal.items c.push_reserved.new.self.items c.self.inside.planned c.take.new.self c.self.inside.present new c.args.entry c.self.invariant.0
          (subst (λ (shard : Sharded). is_touched_by opened.core opened.class shard.number c.args.entry ≡ true) (sym c.self.view_is) c.requires.touched)
          (subst (λ (shard : Sharded). FitsPresent opened shard c.args.entry) (sym c.self.view_is) c.requires.fits)
          (subst (λ (shard : Sharded). IsLaterThan shard.journal c.args.entry.stamp) (sym c.self.view_is) c.requires.later)
          c.push_reserved.ensures.items c.make_all.ensures.number (made g some new c.make_all.ensures.number c.make_all.ensures.present),
      none_fits opened _ c.take.new.self new c.take.ensures.after,
    )

pub returns-clause-number : goal.returns-clause-number
returns-clause-number g c = c.make_all.ensures.number ∙ ap (λ (shard : Sharded). shard.number) c.self.view_is

pub returns-clause-journal : goal.returns-clause-journal
returns-clause-journal g c = c.push_reserved.ensures.items ∙ ap (λ (shard : Sharded). shard.journal ++ c.args.entry ∷ []) c.self.view_is

pub returns-clause-present : goal.returns-clause-present
returns-clause-present g c =
    let opened = g.P.Opening.opened in
    let some = (goal.at.returns-clause-present g c).In-Some in
    made g some c.make_all.new.self c.make_all.ensures.number c.make_all.ensures.present
    ∙ ap (λ (shard : Sharded). world_after opened.core opened.class (acts_on opened shard.number (c.args.entry ∷ [])) shard.present) c.self.view_is
