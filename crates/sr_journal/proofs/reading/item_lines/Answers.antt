use Rattle.std.proofs.Common.{◌≡◌, ◌++◌, ◌∷◌, []}
use Rattle.std.proofs.lemmas.Result.{err_from_is_err_and}
use Rattle.sr_journal.specs.Reading.{item_at, many_at}
use Rattle.sr_journal.proofs.Loops.{goes-on, fails, is-done}
use Rattle.sr_journal.proofs.reading.item_lines.Goals as goal

pub returns-in_err-item : goal.returns-in_err-item
returns-in_err-item c =
    let p = err_from_is_err_and c.from_residual.result c.from_residual.ensures.1 in
    rw (p.1, p.2) (λ n. fails (item_at c.args.timed) c.loop.items c.args.count c.loop.counter c.loop.rest.now (many_at (item_at c.args.timed) c.args.count c.args.bytes.now) c.in_err-item.field-0.0 c.loop-test.true c.in_err-item.ensures c.loop.invariant)

pub loop-preserved : goal.loop-preserved
loop-preserved c =
    let e : c.push.new.self ≡ c.loop.items ++ c.in_ok-item.item ∷ [] = c.in_ok-push.ensures.ok in
    rw e (goes-on (item_at c.args.timed) c.loop.items c.args.count c.loop.counter c.loop.rest.now (many_at (item_at c.args.timed) c.args.count c.args.bytes.now) c.in_ok-item.item c.in_ok-item.after.now c.loop-test.true c.in_ok-item.ensures c.loop.invariant)

pub returns : goal.returns
returns c = is-done (item_at c.args.timed) c.loop.items c.args.count c.loop.counter c.loop.rest.now (many_at (item_at c.args.timed) c.args.count c.args.bytes.now) c.loop-test.false c.loop.invariant
