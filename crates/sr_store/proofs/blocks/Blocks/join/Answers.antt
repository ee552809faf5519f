use Rattle.std.proofs.Common.{◌<◌, subst, sym}
use Rattle.sr_buckets.proofs.PartLemmas.{part-gathered}
use Rattle.sr_store.specs.Variables.{Stored}
use Rattle.sr_store.proofs.BucketLemmas.{room-look}
use Rattle.sr_store.proofs.blocks.Blocks.join.Goals as goal

pub returns-clause-variables : goal.returns-clause-variables
returns-clause-variables c = λ i b at. part-gathered (λ (s : Stored). s.variables) c.args.buckets c.requires.variables i b at

pub returns-clause-room : goal.returns-clause-room
returns-clause-room c = λ p b at can. subst (λ n. 0 < n) (sym (room-look c.args.buckets p b at)) can
