use Rattle.std.proofs.Common.{◌<◌, ◌∙◌, ap, subst, sym}
use Rattle.sr_buckets.proofs.PartLemmas.{part-gathered}
use Rattle.sr_buckets.specs.Parts.{part}
use Rattle.sr_store.specs.Variables.{Stored, room_of}
use Rattle.sr_store.proofs.BucketLemmas.{room-look}
use Rattle.sr_store.proofs.blocks.Blocks.divide.Goals as goal

pub returns-clause-variables : goal.returns-clause-variables
returns-clause-variables c = λ i b at. sym (part-gathered (λ (s : Stored). s.variables) c.self.inside.buckets c.self.invariant.variables i b at) ∙ ap (λ (s : Stored). part i s.variables) c.self.view_is

pub returns-clause-room : goal.returns-clause-room
returns-clause-room c = λ p b at can. subst (λ n. 0 < n) (ap (λ s. room_of s p) (sym c.self.view_is) ∙ room-look c.self.inside.buckets p b at) can

pub returns-clause-buckets : goal.returns-clause-buckets
returns-clause-buckets c = c.self.invariant
