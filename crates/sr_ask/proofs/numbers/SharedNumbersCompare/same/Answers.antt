use Rattle.std.proofs.Common.{ap, length, sym, ◌∙◌}
use Rattle.std.proofs.lemmas.Bool.{eq-eqb, eqb-true}
use Rattle.std.proofs.lemmas.List.{length-append}
use Rattle.sr_ask.specs.Numbers.{joined}
use Rattle.sr_ask.proofs.numbers.SharedNumbersCompare.same.Goals as goal

pub returns-else-self-other : goal.returns-else-self-other
returns-else-self-other c =
    let mine = c.self.invariant ∙ sym (length-append (joined c.self.inside.blocks) c.self.inside.last) ∙ ap length c.self.view_is in
    let theirs = c.other.invariant ∙ sym (length-append (joined c.other.inside.blocks) c.other.inside.last) ∙ ap length c.other.view_is in
    (λ is. absurd (c.if-self-other.false (eqb-true c.self.inside.len c.other.inside.len is)), λ same. eq-eqb c.self.inside.len c.other.inside.len (mine ∙ ap length same ∙ sym theirs))
