use Rattle.std.proofs.Common.{ap, subst, sym, Some}
use Rattle.sr_value.specs.Operators.{Answers}
use Rattle.sr_store.specs.Variables.{block_loaded}
use Rattle.sr_store.proofs.KeptLemmas.{block-here, none-loaded}
use Rattle.sr_store.proofs.bucket.Bucket.load.Goals as goal

pub returns-in-Some : goal.returns-in-Some
returns-in-Some c =
    subst (λ meant. Answers c.load.result meant)
    (sym (ap (λ b. block_loaded b c.args.var c.args.path.now) (block-here c.self.inside.tables.entries c.args.self.now c.self.view_is c.args.block (Some c.in-Some.kept.now) c.in-Some.ensures.value))) c.load.ensures

pub returns-in-None : goal.returns-in-None
returns-in-None c = none-loaded c.self.inside.tables.entries c.args.self.now c.self.view_is c.args.block c.in-None.ensures.value c.args.var c.args.path.now
