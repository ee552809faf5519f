use Rattle.std.proofs.Common.{◌<◌, IfOk, length, subst, sym, slice_index_or}
use Rattle.sr_hands.proofs.Jobs.{answer-passed, job-passed}
use Rattle.sr_hands.proofs.threads.work_all.Goals as goal
use Rattle.sr_worker.specs.Jobs.{DoesJob}
use Rattle.sr_worker.specs.declared.job.Job.{Job}

pub map_vec-requires-send-J : goal.map_vec-requires-send-J
map_vec-requires-send-J g c κs within = job-passed _ _ c.type_bounds.send-A c.type_bounds.send-D-Seat 1 _

pub map_vec-requires-send-X : goal.map_vec-requires-send-X
map_vec-requires-send-X g c κs within = answer-passed _ _ c.type_bounds.send-A c.type_bounds.send-D-Seat 2 _

pub returns-clause-each : goal.returns-clause-each
returns-clause-each g c = λ place job other low.
    let within : place < length c.args.jobs.items = subst (λ n. place < n) c.args.jobs.ok.0 low in
    let given = (c.in_ok-done.ensures.each place other within).1 in
    subst
    (λ (j : Job g.row.A.Denot g.row.D-Seat.Denot). IfOk (slice_index_or c.in_ok-done.done.items place other) (DoesJob (g.A.Actor.asks_after c.args.program.now) (g.D.Desk.rests c.args.desk.now) (g.D.Desk.made c.args.desk.now) (g.D.Desk.declines c.args.desk.now) j))
    (sym (given.job_is job)) given.call.met
