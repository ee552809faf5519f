use Rattle.std.proofs.Common.{IsSome}
use Rattle.sr_actor.specs.Crew.{member_of}
use Rattle.sr_replay.proofs.BeginLemmas.{begun-at, begun-member}
use Rattle.sr_replay.proofs.replayer.Replayer.begin_process.Goals as goal

pub returns-in_ok-begin_once-in-Some-clause-begun : goal.returns-in_ok-begin_once-in-Some-clause-begun
returns-in_ok-begin_once-in-Some-clause-begun g c = λ lives.
    begun-member c.args.self.now.world c.args.process c.in-Some.start.now c.in-Some.ensures (λ n. IsSome (member_of c.begin_once.new.crew n)) c.in_ok-begin_once-in-Some.ensures.known

pub returns-in_ok-begin_once-in-Some-clause-stands : goal.returns-in_ok-begin_once-in-Some-clause-stands
returns-in_ok-begin_once-in-Some-clause-stands g c = λ program limit state stands.
    begun-at g.A.Actor.asks_after g.A.Actor.core_of program limit state c.args.self.now (record c.args.self.now { crew = c.begin_once.new.crew }) stands c.args.process c.in-Some.start.now c.in-Some.ensures
    c.in_ok-begin_once-in-Some.ensures.begins
