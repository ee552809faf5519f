use Rattle.std.proofs.Common.{◌<◌, ◌∙◌, ap, get_or, subst, sym}
use Rattle.std.specs.Prelude.{slice_set}
use Rattle.sr_buckets.proofs.PartLemmas.{at-home}
use Rattle.sr_store.proofs.BucketLemmas.{Turns, block-placed, keeps, room-look, turned, variable-set}
use Rattle.sr_store.specs.Variables.{room_of}
use Rattle.sr_store.proofs.blocks.Blocks.place.Goals as goal

turns : (c : goal.After-place) → Turns c.self.inside.buckets (slice_set c.self.inside.buckets c.home.result c.place.new.self) c.args.self.now c.args.block (get_or c.self.inside.buckets c.home.result c.index-self-home.result) c.place.new.self
turns c = turned c.self.inside.buckets c.args.self.now c.args.block c.home.result c.index-self-home.result c.place.new.self c.self.view_is c.self.invariant c.home.ensures.home

pub invariant_of-self : goal.invariant_of-self
invariant_of-self c = block-placed _ _ _ _ _ _ (turns c) _ c.place.ensures.variables

pub returns-clause-variables : goal.returns-clause-variables
returns-clause-variables c = variable-set _ _ _ _ _ _ (turns c) c.args.var _ c.place.ensures.variables

pub returns-clause-room : goal.returns-clause-room
returns-clause-room c = λ q ne can. keeps _ _ _ _ _ _ (turns c) q (c.place.ensures.room q ne) can

pub place-requires : goal.place-requires
place-requires c =
    subst (λ n. 0 < n)
    (ap (λ s. room_of s c.args.block) (sym c.self.view_is)
    ∙ room-look c.self.inside.buckets c.args.block (get_or c.self.inside.buckets c.home.result c.index-self-home.result)
    (at-home c.self.inside.buckets c.args.block c.home.result c.self.invariant.all c.home.ensures.home c.index-self-home.result))
    c.requires
