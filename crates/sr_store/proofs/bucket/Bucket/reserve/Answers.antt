use Rattle.std.proofs.Common.{◌∙◌, arith}
use Rattle.sr_store.proofs.KeptLemmas.{Step, can-place, keeps, lent, made, no_block, on_ok, stays}
use Rattle.sr_store.proofs.bucket.Bucket.reserve.Goals as goal

some : (c : goal.After-self-in-Some-1) → Step c.self.inside.tables.entries (c.get_mut.follows.lender c.reserve.new.self).entries c.args.self.now c.args.block c.in-Some.kept.now c.reserve.new.self
some c =
    lent c.self.inside.tables (c.get_mut.follows.lender c.reserve.new.self) c.args.self.now c.args.block c.in-Some.kept.now c.reserve.new.self c.self.view_is c.in-Some.ensures.value
    (c.get_mut.follows.holds c.reserve.new.self)

pub returns-in-Some-clause-ok : goal.returns-in-Some-clause-ok
returns-in-Some-clause-ok c = on_ok c.reserve.result c.reserve.ensures.ok (λ has. can-place _ _ _ _ _ _ (some c) has)

pub returns-in-Some-clause-variables : goal.returns-in-Some-clause-variables
returns-in-Some-clause-variables c = stays _ _ _ _ _ _ (some c) c.reserve.ensures.variables

pub returns-in-Some-clause-room : goal.returns-in-Some-clause-room
returns-in-Some-clause-room c = keeps _ _ _ _ _ _ (some c) c.reserve.ensures.kept

none : (c : goal.Joined-branch-3) → Step c.self.inside.tables.entries c.insert.new.self.entries c.args.self.now c.args.block no_block c.reserve-2.new.self
none c =
    made c.self.inside.tables c.get_mut.follows.lender-at-none c.insert.new.self c.args.self.now c.args.block c.reserve-2.new.self c.self.view_is c.in_default.ensures.value
    c.get_mut.follows.holds-at-none c.in_ok-insert.ensures.updates

pub returns-clause-ok : goal.returns-clause-ok
returns-clause-ok c = can-place _ _ _ _ _ _ (none c) c.in_ok-reserve.ensures.ok

pub returns-clause-variables : goal.returns-clause-variables
returns-clause-variables c = stays _ _ _ _ _ _ (none c) (c.in_ok-reserve.ensures.variables ∙ c.new-kept.ensures)

pub returns-clause-room : goal.returns-clause-room
returns-clause-room c = keeps _ _ _ _ _ _ (none c) (omega arith)
