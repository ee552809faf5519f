use Rattle.std.proofs.Common.{◌∙◌, ◌++◌, ◌∷◌, [], ap, replicate, sym}
use Rattle.sr_races.proofs.MarkLemmas.{copies-more}
use Rattle.sr_races.proofs.marks.push_empty.Goals as goal

pub loop-preserved : goal.loop-preserved
loop-preserved c =
    c.in_ok-push.ensures.ok ∙ ap (λ spots. spots ++ c.new.result ∷ []) c.loop.invariant ∙ ap (λ lines. replicate c.loop.counter [] ++ lines ∷ []) c.new.ensures ∙ sym (copies-more c.loop.counter [])
