use Rattle.std.proofs.Common.{◌≡◌, ◌∙◌, ap, length, sym}
use Rattle.sr_buckets.proofs.PartLemmas.{copied}
use Rattle.sr_store.specs.Variables.{Stored}
use Rattle.sr_store.proofs.blocks.Blocks.copy.Goals as goal

as-long : (c : goal.In_ok-add_copies) → length c.add_copies.new.to ≡ length c.self.inside.buckets
as-long c = c.add_copies.ensures.long ∙ c.no_variables-buckets.ensures.all ∙ sym c.self.invariant.all

pub returns : goal.returns
returns c =
    copied (λ (b : Stored). b.variables) c.self.inside.buckets c.add_copies.new.to (as-long c) c.in_ok-add_copies.ensures.copied
    ∙ ap (λ (s : Stored). s.variables) c.self.view_is
