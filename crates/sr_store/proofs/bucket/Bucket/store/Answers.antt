use Rattle.std.proofs.Common.{ap, ◌∙◌, arith}
use Rattle.sr_store.proofs.KeptLemmas.{keeps, lent, lent-same, none-stored, on_err, wrote}
use Rattle.sr_store.specs.Kept.{variables_on}
use Rattle.sr_store.proofs.bucket.Bucket.store.Goals as goal

pub returns-in_default-clause-wrote : goal.returns-in_default-clause-wrote
returns-in_default-clause-wrote c = (
  none-stored c.self.inside.tables.entries c.args.self.now c.self.view_is c.args.block c.in_default.ensures.value c.args.var c.args.path.now c.args.value,
  ap (λ m. variables_on m.entries) c.get_mut.follows.holds-at-none ∙ ap (λ s. s.variables) c.self.view_is,
)

pub returns-clause-wrote : goal.returns-clause-wrote
returns-clause-wrote c =
    let s = lent c.self.inside.tables (c.get_mut.follows.lender c.store.new.self) c.args.self.now c.args.block c.in-Some.kept.now c.store.new.self c.self.view_is c.in-Some.ensures.value (c.get_mut.follows.holds c.store.new.self) in
    wrote _ _ _ _ _ _ s c.args.var c.args.path.now c.args.value c.store.result c.store.ensures.wrote

pub returns-clause-room : goal.returns-clause-room
returns-clause-room c =
    let s = lent c.self.inside.tables (c.get_mut.follows.lender c.store.new.self) c.args.self.now c.args.block c.in-Some.kept.now c.store.new.self c.self.view_is c.in-Some.ensures.value (c.get_mut.follows.holds c.store.new.self) in
    keeps _ _ _ _ _ _ s (omega arith)

pub returns-clause-err : goal.returns-clause-err
returns-clause-err c =
    on_err c.store.result c.store.ensures.err (λ same. lent-same c.self.inside.tables (c.get_mut.follows.lender c.store.new.self) c.args.self.now c.args.block c.in-Some.kept.now c.store.new.self c.self.view_is c.in-Some.ensures.value (c.get_mut.follows.holds c.store.new.self) same)
