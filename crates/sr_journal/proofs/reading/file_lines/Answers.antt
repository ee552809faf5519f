use Rattle.std.proofs.Common.{◌≡◌, ◌++◌, ◌∷◌, []}
use Rattle.std.proofs.lemmas.Result.{err_from_is_err_and}
use Rattle.sr_journal.specs.Reading.{file_at, many_at}
use Rattle.sr_journal.proofs.Loops.{goes-on, fails, is-done}
use Rattle.sr_journal.proofs.reading.file_lines.Goals as goal

pub returns-in_err-file : goal.returns-in_err-file
returns-in_err-file c =
    let p = err_from_is_err_and c.from_residual.result c.from_residual.ensures.1 in
    rw (p.1, p.2) (λ n. fails file_at c.loop.files c.args.count c.loop.counter c.loop.rest.now (many_at file_at c.args.count c.args.bytes.now) c.in_err-file.field-0.0 c.loop-test.true (c.in_err-file.ensures n) c.loop.invariant)

pub loop-preserved : goal.loop-preserved
loop-preserved c =
    let e : c.push.new.self ≡ c.loop.files ++ c.in_ok-file.file ∷ [] = c.in_ok-push.ensures.ok in
    rw e (goes-on file_at c.loop.files c.args.count c.loop.counter c.loop.rest.now (many_at file_at c.args.count c.args.bytes.now) c.in_ok-file.file c.in_ok-file.after.now c.loop-test.true c.in_ok-file.ensures c.loop.invariant)

pub returns : goal.returns
returns c = is-done file_at c.loop.files c.args.count c.loop.counter c.loop.rest.now (many_at file_at c.args.count c.args.bytes.now) c.loop-test.false c.loop.invariant
