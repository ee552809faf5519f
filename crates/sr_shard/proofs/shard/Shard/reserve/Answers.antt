use Rattle.std.proofs.Common.{◌∙◌, List, None, Some, ap, arith, subst, sym}
use Rattle.sr_shard.specs.Presents.{AreNewcomers, AreReady}
use Rattle.sr_shard.specs.Shards.{Sharded, opened_part}
use Rattle.sr_shard.specs.declared.change.Change.{Change}
use Rattle.sr_shard.proofs.ReadyLemmas.{newcomers_born}
use Rattle.sr_shard.proofs.ShardLemmas.{replay_same, same_present}
use Rattle.sr_shard.proofs.shard.Shard.reserve.Goals as goal

pub make_room-requires : goal.make_room-requires
make_room-requires g c =
    let old = c.self.inside.present in
    subst (λ (changes : List Change). AreNewcomers old.born.starts changes) (sym c.as_slice.ensures)
    (newcomers_born (opened_part g.P.Opening.opened old.portion.number).live old.ended.keys old.born.starts c.args.changes
    (subst (λ (shard : Sharded). AreNewcomers shard.present.live c.args.changes) (sym c.self.view_is) c.requires))

pub invariant_of-self : goal.invariant_of-self
invariant_of-self g c = (
  replay_same g.P.Opening.opened c.self.inside.journal.items c.make_room.new.journal.items c.self.inside.planned None c.self.inside.present c.make_room.new.present c.make_room.ensures.same c.make_room.ensures.journal c.self.invariant.0,
  tt,
)

pub invariant_of-self-2 : goal.invariant_of-self-2
invariant_of-self-2 g c =
    let new = c.make_room.new.present in
    let base = opened_part g.P.Opening.opened new.portion.number in
    let room = c.in_ok-make_room.ensures.room in (
      replay_same g.P.Opening.opened c.self.inside.journal.items c.make_room.new.journal.items c.self.inside.planned (Some c.args.changes) c.self.inside.present new c.make_room.ensures.same c.make_room.ensures.journal c.self.invariant.0,
      (omega (arith, room, c.make_room.new.journal.ok.0), subst (λ (changes : List Change). AreReady base new changes) c.as_slice.ensures (c.in_ok-make_room.ensures.ready base)),
    )

pub returns-clause-number : goal.returns-clause-number
returns-clause-number g c = c.make_room.ensures.same.number ∙ ap (λ (shard : Sharded). shard.number) c.self.view_is

pub returns-clause-journal : goal.returns-clause-journal
returns-clause-journal g c = c.make_room.ensures.journal ∙ ap (λ (shard : Sharded). shard.journal) c.self.view_is

pub returns-clause-present : goal.returns-clause-present
returns-clause-present g c =
    same_present g.P.Opening.opened c.self.inside.present c.make_room.new.present c.make_room.ensures.same ∙ ap (λ (shard : Sharded). shard.present) c.self.view_is

pub returns-in_err-make_room-clause-present : goal.returns-in_err-make_room-clause-present
returns-in_err-make_room-clause-present g c =
    same_present g.P.Opening.opened c.self.inside.present c.make_room.new.present c.make_room.ensures.same ∙ ap (λ (shard : Sharded). shard.present) c.self.view_is
