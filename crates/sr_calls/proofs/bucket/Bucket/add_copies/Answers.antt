use Rattle.std.proofs.Common.{ap, nat_eq, refl, subst, sym}
use Rattle.std.specs.List.{IsDistinct}
use Rattle.std.specs.Map.{keys_of}
use Rattle.sr_calls.specs.PerProcess.{ProcessCalled}
use Rattle.sr_calls.proofs.CopyLemmas.{distinct-more, left-first, left-more, left-none, none-empty-first, none-empty-more}
use Rattle.sr_calls.proofs.bucket.Bucket.add_copies.Goals as goal

pub loop-process-init : goal.loop-process-init
loop-process-init c =
    let gives = c.into_iter-process-iterator.ensures.into_iter_gives in record {
      distinct = subst (λ r. IsDistinct nat_eq (keys_of r)) (sym gives.0) gives.4;
      held_full = none-empty-first c.args.self.now.held c.requires.held;
      replies_full = none-empty-first c.args.self.now.replies c.requires.replies;
      held = left-first (λ (d : ProcessCalled). d.held) refl c.into_iter-process-iterator.result c.other.inside.by_process.entries c.args.self.now.held c.args.other.now.held gives.0
          (ap (λ k. k.held) c.other.view_is) c.requires.held;
      replies = left-first (λ (d : ProcessCalled). d.replies) refl c.into_iter-process-iterator.result c.other.inside.by_process.entries c.args.self.now.replies c.args.other.now.replies gives.0
          (ap (λ k. k.replies) c.other.view_is) c.requires.replies;
    }

pub loop-process-preserved : goal.loop-process-preserved
loop-process-preserved c =
    let rest = c.loop-process.process-iterator in
    let more = c.next.new.self in
    let was = c.loop-process.invariant in record {
      distinct = distinct-more rest more c.in-Some.process.now c.in-Some.process_calls.now c.in-Some.ensures.steps was.distinct;
      held_full = none-empty-more c.loop-process.self.held c.add.new.self.held c.in-Some.process.now c.in_ok-copy.copy.held was.held_full c.in_ok-add.ensures.held;
      replies_full = none-empty-more c.loop-process.self.replies c.add.new.self.replies c.in-Some.process.now c.in_ok-copy.copy.replies was.replies_full c.in_ok-add.ensures.replies;
      held = left-more (λ (d : ProcessCalled). d.held) refl rest more c.in-Some.process.now c.in-Some.process_calls.now c.in-Some.ensures.steps was.distinct
          c.loop-process.self.held c.add.new.self.held c.args.other.now.held c.in_ok-copy.copy.held was.held c.in_ok-add.ensures.held c.in_ok-copy.ensures.held;
      replies = left-more (λ (d : ProcessCalled). d.replies) refl rest more c.in-Some.process.now c.in-Some.process_calls.now c.in-Some.ensures.steps was.distinct
          c.loop-process.self.replies c.add.new.self.replies c.args.other.now.replies c.in_ok-copy.copy.replies was.replies c.in_ok-add.ensures.replies c.in_ok-copy.ensures.replies;
    }

pub returns-clause-held : goal.returns-clause-held
returns-clause-held c =
    left-none (λ (d : ProcessCalled). d.held) refl c.loop-process.process-iterator c.other.inside.by_process.entries c.loop-process.self.held c.args.other.now.held c.in-None.ensures.steps.0
    (ap (λ k. k.held) c.other.view_is) c.loop-process.invariant.held_full c.loop-process.invariant.held

pub returns-clause-replies : goal.returns-clause-replies
returns-clause-replies c =
    left-none (λ (d : ProcessCalled). d.replies) refl c.loop-process.process-iterator c.other.inside.by_process.entries c.loop-process.self.replies c.args.other.now.replies c.in-None.ensures.steps.0
    (ap (λ k. k.replies) c.other.view_is) c.loop-process.invariant.replies_full c.loop-process.invariant.replies
