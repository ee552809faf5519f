use Rattle.std.proofs.Common.{get_or, subst, sym, ◌<◌}
use Rattle.std.specs.Prelude.{slice_set}
use Rattle.sr_store.proofs.BucketLemmas.{Turns, keeps, room-is, same-placed, turned, variables-same}
use Rattle.sr_store.proofs.KeptLemmas.{on_ok}
use Rattle.sr_store.proofs.blocks.Blocks.reserve.Goals as goal

turns : (c : goal.After-reserve) → Turns c.self.inside.buckets (slice_set c.self.inside.buckets c.home.result c.reserve.new.self) c.args.self.now c.args.block (get_or c.self.inside.buckets c.home.result c.index-self-home.result) c.reserve.new.self
turns c = turned c.self.inside.buckets c.args.self.now c.args.block c.home.result c.index-self-home.result c.reserve.new.self c.self.view_is c.self.invariant c.home.ensures.home

pub invariant_of-self : goal.invariant_of-self
invariant_of-self c = same-placed _ _ _ _ _ _ (turns c) c.reserve.ensures.variables

pub returns-clause-ok : goal.returns-clause-ok
returns-clause-ok c = on_ok c.reserve.result c.reserve.ensures.ok (λ has. subst (λ n. 0 < n) (sym (room-is _ _ _ _ _ _ (turns c))) has)

pub returns-clause-variables : goal.returns-clause-variables
returns-clause-variables c = variables-same _ _ _ _ _ _ (turns c) c.reserve.ensures.variables

pub returns-clause-room : goal.returns-clause-room
returns-clause-room c = λ q can. keeps _ _ _ _ _ _ (turns c) q (c.reserve.ensures.room q) can
