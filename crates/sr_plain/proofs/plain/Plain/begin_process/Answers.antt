use Rattle.std.proofs.Common.{◌≡◌, IsSome, Some, subst, sym}
use Rattle.sr_ask.specs.declared.start.Start.{Start}
use Rattle.sr_world.specs.Worlds.{started}
use Rattle.sr_plain.specs.Crew.{member_of}
use Rattle.sr_plain.specs.declared.plain.Plain.{Plain}
use Rattle.sr_plain.proofs.AsideLemmas.{find-number}
use Rattle.sr_plain.proofs.BeginLemmas.{begins-looks}
use Rattle.sr_plain.proofs.LivingLemmas.{living-begun}
use Rattle.sr_plain.proofs.MemberLemmas.{live_is, looked_now}
use Rattle.sr_plain.proofs.plain.Plain.begin_process.Goals as goal

pub returns-in_ok-begin_once-in-Some-clause-begun : goal.returns-in_ok-begin_once-in-Some-clause-begun
returns-in_ok-begin_once-in-Some-clause-begun g c = λ lives.
    let s : Start = c.in-Some.start.now in
    let number = find-number c.args.self.now.world.live c.args.process s (sym c.in-Some.ensures) in
    subst (λ n. IsSome (member_of c.begin_once.new.crew n)) (sym number) c.in_ok-begin_once-in-Some.ensures.known

pub returns-in_ok-begin_once-in-Some-clause-engine : goal.returns-in_ok-begin_once-in-Some-clause-engine
returns-in_ok-begin_once-in-Some-clause-engine g c = λ program limit state events engine.
    let after = g.A.Actor.asks_after program in
    let core_of = g.A.Actor.core_of in
    let s : Start = c.in-Some.start.now in
    let found = live_is after g.A.Actor.can_feed (core_of program) limit state events c.args.self.now engine c.args.process (Some s) c.in-Some.ensures in
    let number = find-number state.world.live c.args.process s found in
    let lives = subst (λ n. started state.world n ≡ Some s) number found in
    let begun : Plain _ = record c.args.self.now { crew = c.begin_once.new.crew } in
    let begins = c.in_ok-begin_once-in-Some.ensures.begins in
    looked_now after g.A.Actor.can_feed (core_of program) limit state events c.args.self.now engine s lives begun
    (begins-looks g.A.Actor.asks_after g.A.Actor.can_feed core_of s c.args.self.now.ticks program c.args.self.now.crew c.begin_once.new.crew begins)
    (living-begun state.world c.args.self.now.woken g.A.Actor.asks_after core_of s c.args.self.now.ticks c.args.self.now.crew c.begin_once.new.crew lives begins engine.living)
