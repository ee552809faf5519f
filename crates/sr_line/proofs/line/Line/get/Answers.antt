use Rattle.std.proofs.Common.{◌≡◌, ℕ, ◌+◌, ◌-◌, ◌<◌, length, ap, sym, ◌∙◌, arith}
use Rattle.std.specs.List.{slice_get}
use Rattle.sr_line.specs.Lines.{joined}
use Rattle.sr_line.proofs.BlockLemmas.{got-last, same-items}
use Rattle.sr_line.proofs.JoinedLemmas.{in-front}
use Rattle.sr_line.proofs.line.Line.get.Goals as goal

pub returns-then-place-before : goal.returns-then-place-before
returns-then-place-before g c =
    let blocks = c.self.inside.blocks.items in
    let last = c.self.inside.last in
    let k : ℕ = c.args.place - (c.self.inside.len - c.len-last.result) in
    let sum : length (joined blocks) + k ≡ c.args.place = omega (arith, c.if-place-before.true, c.len-last.ensures, last.ok.0, c.self.invariant) in
    got-last blocks last c.args.place k c.get.result c.get.ensures.item sum ∙ ap (λ xs. slice_get xs c.args.place) (same-items _ _ c.self.view_is)

pub returns : goal.returns
returns g c =
    let blocks = c.self.inside.blocks.items in
    let last = c.self.inside.last in
    let low : c.args.place < length (joined blocks) = omega (arith, c.if-place-before.false, c.len-last.ensures, last.ok.0, c.self.invariant) in
    c.get_in.ensures ∙ sym (in-front (joined blocks) last.items c.args.place low) ∙ ap (λ xs. slice_get xs c.args.place) (same-items _ _ c.self.view_is)
