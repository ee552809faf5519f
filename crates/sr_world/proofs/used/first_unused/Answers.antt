use Rattle.std.proofs.Common.{rules, ◌≤◌, arith}
use Rattle.std.specs.List.{Contains}
use Rattle.sr_world.proofs.UsedLemmas.{all_used, last_unused, one_more}
use Rattle.sr_world.proofs.used.first_unused.Goals as goal

pub loop-name-preserved : goal.loop-name-preserved
loop-name-preserved c =
    let here : Contains c.args.names.now c.loop-name.name-counter = search rules in
    one_more c.args.names.now c.loop-name.name-counter c.loop-name.invariant here

pub returns-then-contains-clause-none : goal.returns-then-contains-clause-none
returns-then-contains-clause-none c =
    let here : Contains c.args.names.now 4294967295 = search rules in
    let most : 4294967295 ≤ c.loop-name.name-counter = omega arith in
    all_used c.args.names.now c.loop-name.name-counter c.loop-name.invariant most here

pub returns-else-contains-clause-some : goal.returns-else-contains-clause-some
returns-else-contains-clause-some c =
    let new : ¬ Contains c.args.names.now 4294967295 = search rules in
    let most : 4294967295 ≤ c.loop-name.name-counter = omega arith in
    last_unused c.args.names.now c.loop-name.name-counter c.loop-name.invariant most new
