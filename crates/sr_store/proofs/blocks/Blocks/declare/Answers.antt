use Rattle.std.proofs.Common.{get_or}
use Rattle.std.specs.Prelude.{slice_set}
use Rattle.sr_store.proofs.BucketLemmas.{Turns, declared, declared-placed, keeps, turned}
use Rattle.sr_store.proofs.KeptLemmas.{on_err}
use Rattle.sr_store.proofs.blocks.Blocks.declare.Goals as goal

turns : (c : goal.After-declare) → Turns c.self.inside.buckets (slice_set c.self.inside.buckets c.home.result c.declare.new.self) c.args.self.now c.args.block (get_or c.self.inside.buckets c.home.result c.index-self-home.result) c.declare.new.self
turns c = turned c.self.inside.buckets c.args.self.now c.args.block c.home.result c.index-self-home.result c.declare.new.self c.self.view_is c.self.invariant c.home.ensures.home

pub invariant_of-self : goal.invariant_of-self
invariant_of-self c = declared-placed _ _ _ _ _ _ (turns c) c.args.var c.args.shape.now c.declare.result c.declare.ensures.made

pub returns-clause-made : goal.returns-clause-made
returns-clause-made c = declared _ _ _ _ _ _ (turns c) c.args.var c.args.shape.now c.declare.result c.declare.ensures.made

pub returns-clause-room : goal.returns-clause-room
returns-clause-room c = λ q ne can. keeps _ _ _ _ _ _ (turns c) q (c.declare.ensures.room q ne) can

pub returns-clause-err : goal.returns-clause-err
returns-clause-err c = on_err c.declare.result c.declare.ensures.err (λ kept q can. keeps _ _ _ _ _ _ (turns c) q (kept q) can)
