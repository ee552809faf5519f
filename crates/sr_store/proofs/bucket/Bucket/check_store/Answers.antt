use Rattle.std.proofs.Common.{ap, sym, Some, ◌∙◌}
use Rattle.sr_in_place.proofs.CheckingLemmas.{outcome-made}
use Rattle.sr_in_place.specs.Puts.{outcome}
use Rattle.sr_store.specs.Variables.{block_of, block_stored, with_block}
use Rattle.sr_store.proofs.KeptLemmas.{block-here, none-stored}
use Rattle.sr_store.proofs.bucket.Bucket.check_store.Goals as goal

pub returns-in-Some : goal.returns-in-Some
returns-in-Some c =
    let all = c.args.self.now.variables in
    let path = c.args.path.now in
    c.check_store.ensures
    ∙ ap (λ b. outcome (block_stored b c.args.var path c.args.value.now)) (sym (block-here c.self.inside.tables.entries c.args.self.now c.self.view_is c.args.block (Some c.in-Some.kept.now) c.in-Some.ensures.value))
    ∙ sym (outcome-made (block_stored (block_of all c.args.block) c.args.var path c.args.value.now) (with_block all c.args.block))

pub returns-in-None : goal.returns-in-None
returns-in-None c =
    sym (ap outcome (none-stored c.self.inside.tables.entries c.args.self.now c.self.view_is c.args.block c.in-None.ensures.value c.args.var c.args.path.now c.args.value.now))
