use Rattle.std.proofs.Common.{ℕ, List, ◌∙◌, ◌++◌, ◌∷◌, [], ap, arith, sym}
use Rattle.sr_classes.specs.Classes.{class_of}
use Rattle.sr_shard.specs.Dividing.{line_of}
use Rattle.sr_shard.proofs.SplitLemmas.{lines_all, lines_more}
use Rattle.sr_shard.proofs.divided.lines_of.Goals as goal

pub loop-place-preserved : goal.loop-place-preserved
loop-place-preserved c =
    let class = class_of c.args.classes.now.of in
    c.in_ok-push.ensures.ok ∙ ap (λ (n : ℕ). c.loop-place.numbers ++ n ∷ []) c.line_home-line.ensures
    ∙ ap (λ (l : List ℕ). l ++ line_of class c.at-invocation.result.now ∷ []) c.loop-place.invariant
    ∙ sym (lines_more class c.args.queue.now.items c.loop-place.place c.at-invocation.result.now c.at-invocation.ensures)

pub returns : goal.returns
returns c = c.loop-place.invariant ∙ lines_all (class_of c.args.classes.now.of) c.args.queue.now.items c.loop-place.place (omega arith)
