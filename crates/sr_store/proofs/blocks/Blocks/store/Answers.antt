use Rattle.std.proofs.Common.{get_or}
use Rattle.std.specs.Prelude.{slice_set}
use Rattle.sr_store.proofs.BucketLemmas.{Turns, all-same, keeps, turned, wrote-all, wrote-placed}
use Rattle.sr_store.proofs.KeptLemmas.{on_err}
use Rattle.sr_store.proofs.blocks.Blocks.store.Goals as goal

turns : (c : goal.After-store) → Turns c.self.inside.buckets (slice_set c.self.inside.buckets c.home.result c.store.new.self) c.args.self.now c.args.block (get_or c.self.inside.buckets c.home.result c.index-self-home.result) c.store.new.self
turns c = turned c.self.inside.buckets c.args.self.now c.args.block c.home.result c.index-self-home.result c.store.new.self c.self.view_is c.self.invariant c.home.ensures.home

pub invariant_of-self : goal.invariant_of-self
invariant_of-self c = wrote-placed _ _ _ _ _ _ (turns c) c.args.var c.args.path.now c.args.value c.store.result c.store.ensures.wrote

pub returns-clause-wrote : goal.returns-clause-wrote
returns-clause-wrote c = wrote-all _ _ _ _ _ _ (turns c) c.args.var c.args.path.now c.args.value c.store.result c.store.ensures.wrote

pub returns-clause-room : goal.returns-clause-room
returns-clause-room c = λ q can. keeps _ _ _ _ _ _ (turns c) q (c.store.ensures.room q) can

pub returns-clause-err : goal.returns-clause-err
returns-clause-err c = on_err c.store.result c.store.ensures.err (λ same. all-same _ _ _ _ _ _ (turns c) same)
