use Rattle.std.proofs.Common.{ap, ◌∙◌, arith}
use Rattle.std.specs.FinMap as map
use Rattle.sr_store.specs.Kept.{stored_on}
use Rattle.sr_store.proofs.KeptLemmas.{Step, at_err, could-place, keeps, keeps-other, lent, made, no-room, no_block, on_err, on_ok, placed, same-room, stays}
use Rattle.sr_store.proofs.bucket.Bucket.set.Goals as goal

some : (c : goal.After-self-in-Some-1) → Step c.self.inside.tables.entries (c.get_mut.follows.lender c.set.new.self).entries c.args.self.now c.args.block c.in-Some.kept.now c.set.new.self
some c =
    lent c.self.inside.tables (c.get_mut.follows.lender c.set.new.self) c.args.self.now c.args.block c.in-Some.kept.now c.set.new.self c.self.view_is c.in-Some.ensures.value
    (c.get_mut.follows.holds c.set.new.self)

pub returns-in-Some-clause-ok : goal.returns-in-Some-clause-ok
returns-in-Some-clause-ok c = on_ok c.set.result c.set.ensures.ok (λ set. placed _ _ _ _ _ _ (some c) c.args.var c.args.variable set)

pub returns-in-Some-clause-succeeds : goal.returns-in-Some-clause-succeeds
returns-in-Some-clause-succeeds c = λ can. c.set.ensures.succeeds (could-place _ _ _ _ _ _ (some c) can)

pub returns-in-Some-clause-err : goal.returns-in-Some-clause-err
returns-in-Some-clause-err c = on_err c.set.result c.set.ensures.err (λ same. stays _ _ _ _ _ _ (some c) same)

pub returns-in-Some-clause-kept : goal.returns-in-Some-clause-kept
returns-in-Some-clause-kept c = on_err c.set.result c.set.ensures.kept (λ more. keeps _ _ _ _ _ _ (some c) more)

pub returns-in-Some-clause-room : goal.returns-in-Some-clause-room
returns-in-Some-clause-room c = keeps-other _ _ _ _ _ _ (some c)

pub returns-in_err-set-clause-succeeds : goal.returns-in_err-set-clause-succeeds
returns-in_err-set-clause-succeeds c = λ can. absurd (omega (arith, no-room c.self.inside.tables.entries c.args.self.now c.self.view_is c.args.block c.in_default.ensures.value can))

pub returns-in_err-insert-clause-succeeds : goal.returns-in_err-insert-clause-succeeds
returns-in_err-insert-clause-succeeds c = λ can. absurd (omega (arith, no-room c.self.inside.tables.entries c.args.self.now c.self.view_is c.args.block c.in_default.ensures.value can))

pub returns-in_err-insert-clause-kept : goal.returns-in_err-insert-clause-kept
returns-in_err-insert-clause-kept c =
    at_err c.from_residual-in_err-insert.result
    (same-room c.args.self.now _ (ap stored_on c.in_err-insert.ensures.err ∙ ap (λ m. stored_on m.entries) c.get_mut.follows.holds-at-none ∙ c.self.view_is))

none : (c : goal.Joined-branch-3) → Step c.self.inside.tables.entries c.insert.new.self.entries c.args.self.now c.args.block no_block c.set-2.new.self
none c =
    made c.self.inside.tables c.get_mut.follows.lender-at-none c.insert.new.self c.args.self.now c.args.block c.set-2.new.self c.self.view_is c.in_default.ensures.value
    c.get_mut.follows.holds-at-none c.in_ok-insert.ensures.updates

pub returns-clause-ok : goal.returns-clause-ok
returns-clause-ok c = placed _ _ _ _ _ _ (none c) c.args.var c.args.variable (c.in_ok-set.ensures.ok ∙ ap (λ b. map.insert b c.args.var c.args.variable) c.new-kept.ensures)

pub returns-clause-room : goal.returns-clause-room
returns-clause-room c = keeps-other _ _ _ _ _ _ (none c)
