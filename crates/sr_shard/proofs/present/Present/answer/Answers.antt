use Rattle.std.proofs.Common.{◌∙◌, refl, sym}
use Rattle.sr_shard.proofs.PresentLemmas.{answered, base_of, unanswered}
use Rattle.sr_shard.proofs.ReadyLemmas.{on_ok}
use Rattle.sr_shard.proofs.present.Present.answer.Goals as goal

pub returns-then-is_live : goal.returns-then-is_live
returns-then-is_live c =
    let base = base_of c.args.self.now.portion.number c.args.standing.now in
    answered c.args.standing.now c.args.self.now c.answer.new.self c.args.process c.args.id c.args.results (λ base is. sym (c.is_live.ensures base is) ∙ c.if-is_live.true)
    (on_ok c.answer.result (c.answer.ensures.succeeds (c.requires base refl (sym (c.is_live.ensures base refl) ∙ c.if-is_live.true))) c.answer.ensures.replies) c.answer.ensures.held c.answer.ensures.holds

pub returns-else-is_live : goal.returns-else-is_live
returns-else-is_live c = unanswered c.args.standing.now c.args.self.now c.args.process c.args.id c.args.results (λ base is. sym (c.is_live.ensures base is) ∙ c.if-is_live.false)
