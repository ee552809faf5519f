use Rattle.std.proofs.Common.{◌≡◌, ◌∙◌, ap, length, sym}
use Rattle.sr_buckets.proofs.PartLemmas.{copied}
use Rattle.sr_calls.specs.Calls.{Called}
use Rattle.sr_calls.proofs.calls.Calls.copy.Goals as goal

as-long : (c : goal.In_ok-add_copies) → length c.add_copies.new.to ≡ length c.self.inside.buckets
as-long c = c.add_copies.ensures.long ∙ c.no_calls-buckets.ensures.all ∙ sym c.self.invariant.all

pub returns-clause-held : goal.returns-clause-held
returns-clause-held c =
    copied (λ (b : Called). b.held) c.self.inside.buckets c.add_copies.new.to (as-long c) (λ i b d at there. (c.in_ok-add_copies.ensures.copied i b d at there).0)
    ∙ ap (λ (s : Called). s.held) c.self.view_is

pub returns-clause-replies : goal.returns-clause-replies
returns-clause-replies c =
    copied (λ (b : Called). b.replies) c.self.inside.buckets c.add_copies.new.to (as-long c) (λ i b d at there. (c.in_ok-add_copies.ensures.copied i b d at there).1)
    ∙ ap (λ (s : Called). s.replies) c.self.view_is
