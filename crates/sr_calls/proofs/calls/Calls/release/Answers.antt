use Rattle.std.proofs.Common.{[], ◌∙◌, ap, get_or, inl, inr}
use Rattle.std.specs.Prelude.{find, slice_set}
use Rattle.std.specs.Option.{option_map}
use Rattle.sr_calls.specs.Calls.{is_held_as}
use Rattle.sr_calls.proofs.BucketLemmas.{Turns, all-same, held-less, held-was, keeps, placed-by, replies-same, turned}
use Rattle.sr_calls.proofs.StepLemmas.{if_none}
use Rattle.sr_calls.proofs.calls.Calls.release.Goals as goal

turns : (c : goal.After-release) → Turns c.self.inside.buckets (slice_set c.self.inside.buckets c.home.result c.release.new.self) c.args.self.now c.args.actor (get_or c.self.inside.buckets c.home.result c.index-self-home.result) c.release.new.self
turns c = turned c.self.inside.buckets c.args.self.now c.args.actor c.home.result c.index-self-home.result c.release.new.self c.self.view_is c.self.invariant c.home.ensures.home

pub invariant_of-self : goal.invariant_of-self
invariant_of-self c = placed-by _ _ _ _ _ _ (turns c) _ [] (inr c.release.ensures.held) (inl c.release.ensures.replies)

pub returns-clause-found : goal.returns-clause-found
returns-clause-found c = c.release.ensures.found ∙ ap (λ held. option_map (λ h. (h.back, h.back_id)) (find (is_held_as c.args.id) held)) (held-was _ _ _ _ _ _ (turns c))

pub returns-clause-held : goal.returns-clause-held
returns-clause-held c = held-less _ _ _ _ _ _ (turns c) c.args.id c.release.ensures.held

pub returns-clause-replies : goal.returns-clause-replies
returns-clause-replies c = replies-same _ _ _ _ _ _ (turns c) c.release.ensures.replies

pub returns-clause-none : goal.returns-clause-none
returns-clause-none c = if_none c.release.result c.release.ensures.none (λ same. all-same _ _ _ _ _ _ (turns c) same)

pub returns-clause-holds : goal.returns-clause-holds
returns-clause-holds c = λ q can. keeps _ _ _ _ _ _ (turns c) (λ r. r.holds) q (c.release.ensures.holds q) can

pub returns-clause-answers : goal.returns-clause-answers
returns-clause-answers c = λ q can. keeps _ _ _ _ _ _ (turns c) (λ r. r.answers) q (c.release.ensures.answers q) can
