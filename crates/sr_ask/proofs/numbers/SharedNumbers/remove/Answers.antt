use Rattle.std.proofs.Common.{◌≡◌, ℕ, ◌+◌, ◌-◌, ◌<◌, length, ap, ◌∙◌, arith}
use Rattle.std.specs.List.{remove}
use Rattle.sr_line.proofs.JoinedLemmas.{removed-after, removed-front}
use Rattle.sr_ask.specs.Numbers.{joined}
use Rattle.sr_ask.proofs.numbers.SharedNumbers.remove.Goals as goal

pub returns-then-at-before-clause-ok : goal.returns-then-at-before-clause-ok
returns-then-at-before-clause-ok c =
    let blocks = c.self.inside.blocks in
    let low : c.args.at < length (joined blocks) = omega (arith, c.if-at-before.true, c.len.ensures, c.self.invariant) in
    removed-front (joined blocks) c.self.inside.last (joined c.remove_in.new.blocks) c.args.at low c.in_ok-remove_in.ensures.ok ∙ ap (λ xs. remove xs c.args.at) c.self.view_is

pub returns-clause-ok : goal.returns-clause-ok
returns-clause-ok c =
    let blocks = c.self.inside.blocks in
    let k : ℕ = c.args.at - (c.self.inside.len - c.len.result) in
    let sum : length (joined blocks) + k ≡ c.args.at = omega (arith, c.if-at-before.false, c.len.ensures, c.self.invariant) in
    removed-after (joined blocks) c.self.inside.last c.remove.new.self c.args.at k sum c.remove.ensures.others ∙ ap (λ xs. remove xs c.args.at) c.self.view_is
