use Rattle.std.proofs.Common.{◌||◌, ◌∙◌, ap, sym}
use Rattle.sr_processes.specs.Living.{start_of}
use Rattle.sr_shard.specs.Presents.{has_stayed}
use Rattle.sr_shard.proofs.PresentLemmas.{lives_in_part}
use Rattle.sr_shard.proofs.ReadyLemmas.{test_of}
use Rattle.sr_shard.proofs.present.Present.is_live.Goals as goal

pub returns-then-is_live : goal.returns-then-is_live
returns-then-is_live c = λ base is.
    let now = c.args.self.now in
    let born = now.born.starts in
    c.if-is_live.true
    ∙ sym (lives_in_part now.portion.number c.args.standing.now base now.ended.keys born c.args.process is
    ∙ ap (λ b. b || has_stayed now.portion.number now.ended.keys c.args.standing.now.live c.args.process) (sym (test_of c.is_live.result (start_of born c.args.process) c.is_live.ensures) ∙ c.if-is_live.true))

pub returns-else-is_live : goal.returns-else-is_live
returns-else-is_live c = λ base is.
    let now = c.args.self.now in
    let born = now.born.starts in
    c.has_stayed.ensures
    ∙ sym (lives_in_part now.portion.number c.args.standing.now base now.ended.keys born c.args.process is
    ∙ ap (λ b. b || has_stayed now.portion.number now.ended.keys c.args.standing.now.live c.args.process) (sym (test_of c.is_live.result (start_of born c.args.process) c.is_live.ensures) ∙ c.if-is_live.false))
