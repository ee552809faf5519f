use Rattle.std.proofs.Common.{ap, subst, sym}
use Rattle.sr_value.specs.Operators.{Answers}
use Rattle.sr_store.proofs.BlockLemmas.{loaded-early, loaded-here}
use Rattle.sr_store.proofs.block.Block.load.Goals as goal

pub returns-in-Some : goal.returns-in-Some
returns-in-Some c =
    subst (λ meant. Answers c.value_at.result meant)
    (sym (loaded-here c.self.inside.variables.entries c.args.self.now.variables (ap (λ k. k.variables) c.self.view_is) c.args.var c.args.path.now c.in-Some.variable.now c.in-Some.ensures.value)) c.value_at.ensures

pub returns-in-None : goal.returns-in-None
returns-in-None c = loaded-early c.self.inside.variables.entries c.args.self.now.variables (ap (λ k. k.variables) c.self.view_is) c.args.var c.args.path.now c.in-None.ensures.value
