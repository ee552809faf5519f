use Rattle.std.proofs.Common.{◌≡◌, ◌<◌, ap, subst, sym, ◌∙◌, true}
use Rattle.std.proofs.lemmas.Result.{err_from_is_err_and}
use Rattle.std.specs.Prelude.{IfNone}
use Rattle.sr_world.specs.Worlds.{World, started}
use Rattle.sr_plain.specs.Crew.{member_of}
use Rattle.sr_plain.specs.Engine.{IsEngine}
use Rattle.sr_plain.specs.Turns.{turn_of}
use Rattle.sr_plain.specs.Waiting.{is_ready, turns_len}
use Rattle.sr_plain.specs.declared.plain.Plain.{Plain}
use Rattle.sr_plain.specs.declared.waiters.Waiters.{Waiters}
use Rattle.sr_plain.proofs.BeginLemmas.{absent-here, begins-less}
use Rattle.sr_plain.proofs.MemberLemmas.{at_asked, at_unbegun, ended_tries, tries_asked, tries_err}
use Rattle.sr_plain.proofs.plain.Plain.try_ready.Goals as goal

pub returns-in_err-tried-clause-tries : goal.returns-in_err-tried-clause-tries
returns-in_err-tried-clause-tries g c = λ limit state events engine.
    let inv = c.loop-tried.invariant in
    let core = g.A.Actor.core_of c.args.program.now in
    let failed = err_from_is_err_and c.from_residual.result c.from_residual.ensures.1 in
    tries_err (g.A.Actor.asks_after c.args.program.now) g.A.Actor.can_feed core limit state events (turn_of core limit state (started state.world c.args.process)) c.from_residual.result failed.0 c.try_member.new.self failed.1
    (c.in_err-tried.ensures.tries limit state events (inv.3 limit state events engine) (subst (λ (w : Waiters). is_ready w c.args.process ≡ true) (sym inv.1) c.requires.ready) (inv.2 ∙ c.requires.awake))

pub returns-in-Asked-clause-tries : goal.returns-in-Asked-clause-tries
returns-in-Asked-clause-tries g c = λ limit state events engine.
    let inv = c.loop-tried.invariant in
    let core = g.A.Actor.core_of c.args.program.now in
    tries_asked (g.A.Actor.asks_after c.args.program.now) g.A.Actor.can_feed core limit state events (turn_of core limit state (started state.world c.args.process)) c.in_ok-tried.tried c.in-Asked.came c.try_member.new.self c.in-Asked.is
    (c.in_ok-tried.ensures.tries limit state events (inv.3 limit state events engine) (subst (λ (w : Waiters). is_ready w c.args.process ≡ true) (sym inv.1) c.requires.ready) (inv.2 ∙ c.requires.awake))

pub returns-in-Asked-clause-less : goal.returns-in-Asked-clause-less
returns-in-Asked-clause-less g c =
    let inv = c.loop-tried.invariant in
    subst (λ (w : Waiters). IfNone c.in-Asked.came (turns_len c.try_member.new.self.waiters < turns_len w)) inv.1
    (at_asked c.in_ok-tried.tried c.in-Asked.came _ c.in-Asked.is (c.in_ok-tried.ensures.less (subst (λ (w : Waiters). is_ready w c.args.process ≡ true) (sym inv.1) c.requires.ready)))

pub returns-in-Asked-clause-awake : goal.returns-in-Asked-clause-awake
returns-in-Asked-clause-awake g c = at_asked c.in_ok-tried.tried c.in-Asked.came _ c.in-Asked.is c.in_ok-tried.ensures.awake

pub returns-in_err-lives-in-Unbegun-clause-tries : goal.returns-in_err-lives-in-Unbegun-clause-tries
returns-in_err-lives-in-Unbegun-clause-tries g c = λ limit state events engine.
    let inv = c.loop-tried.invariant in
    let core = g.A.Actor.core_of c.args.program.now in
    let unbegun = (at_unbegun c.in_ok-tried.tried _ c.in-Unbegun.is c.in_ok-tried.ensures.unbegun).0 in
    let failed = err_from_is_err_and c.from_residual-in_err-lives-in-Unbegun.result c.from_residual-in_err-lives-in-Unbegun.ensures.1 in
    tries_err (g.A.Actor.asks_after c.args.program.now) g.A.Actor.can_feed core limit state events (turn_of core limit state (started state.world c.args.process)) c.from_residual-in_err-lives-in-Unbegun.result failed.0
    c.begin_process.new.self failed.1 (c.begin_process.ensures.world ∙ ap (λ (p : Plain _). p.world) unbegun ∙ inv.0 ∙ engine.world)

pub returns-then-not-lives-clause-tries : goal.returns-then-not-lives-clause-tries
returns-then-not-lives-clause-tries g c = λ limit state events engine.
    let after = g.A.Actor.asks_after c.args.program.now in
    let inv = c.loop-tried.invariant in
    let core = g.A.Actor.core_of c.args.program.now in
    let unbegun = (at_unbegun c.in_ok-tried.tried _ c.in-Unbegun.is c.in_ok-tried.ensures.unbegun).0 in
    let now = subst (λ (p : Plain _). IsEngine after g.A.Actor.can_feed core limit state events p) (sym unbegun) (inv.3 limit state events engine) in
    ended_tries after g.A.Actor.can_feed core limit state events c.begin_process.new.self (c.in_ok-lives-in-Unbegun.ensures.engine c.args.program.now limit state events now)
    (c.begin_process.ensures.woken ∙ ap (λ (p : Plain _). p.woken) unbegun ∙ inv.2 ∙ c.requires.awake) c.args.process
    (ap (λ (w : World). started w c.args.process) (sym now.world) ∙ absent-here (started c.try_member.new.self.world c.args.process) (sym c.in_ok-lives-in-Unbegun.ensures.lives ∙ c.if-not-lives.true)) c.take_out.new.self c.take_out.ensures.out

pub returns-then-not-lives-clause-less : goal.returns-then-not-lives-clause-less
returns-then-not-lives-clause-less g c =
    let inv = c.loop-tried.invariant in
    let unbegun = (at_unbegun c.in_ok-tried.tried _ c.in-Unbegun.is c.in_ok-tried.ensures.unbegun).0 in
    let same = c.begin_process.ensures.waiters ∙ ap (λ (p : Plain _). p.waiters) unbegun ∙ inv.1 in
    subst (λ (w : Waiters). turns_len c.take_out.new.self < turns_len w) same (c.take_out.ensures.less (subst (λ (w : Waiters). is_ready w c.args.process ≡ true) (sym same) c.requires.ready))

pub returns-then-not-lives-clause-awake : goal.returns-then-not-lives-clause-awake
returns-then-not-lives-clause-awake g c =
    let unbegun = (at_unbegun c.in_ok-tried.tried _ c.in-Unbegun.is c.in_ok-tried.ensures.unbegun).0 in
    c.begin_process.ensures.woken ∙ ap (λ (p : Plain _). p.woken) unbegun ∙ c.loop-tried.invariant.2 ∙ c.requires.awake

pub loop-tried-preserved : goal.loop-tried-preserved
loop-tried-preserved g c =
    let inv = c.loop-tried.invariant in
    let unbegun = (at_unbegun c.in_ok-tried.tried _ c.in-Unbegun.is c.in_ok-tried.ensures.unbegun).0 in (
      c.begin_process.ensures.world ∙ ap (λ (p : Plain _). p.world) unbegun ∙ inv.0,
      c.begin_process.ensures.waiters ∙ ap (λ (p : Plain _). p.waiters) unbegun ∙ inv.1,
      c.begin_process.ensures.woken ∙ ap (λ (p : Plain _). p.woken) unbegun ∙ inv.2,
      λ limit state events engine.
          let core = g.A.Actor.core_of c.args.program.now in
          c.in_ok-lives-in-Unbegun.ensures.engine c.args.program.now limit state events
          (subst (λ (p : Plain _). IsEngine (g.A.Actor.asks_after c.args.program.now) g.A.Actor.can_feed core limit state events p) (sym unbegun) (inv.3 limit state events engine)),
    )

pub loop-tried-smaller : goal.loop-tried-smaller
loop-tried-smaller g c =
    let unbegun = at_unbegun c.in_ok-tried.tried _ c.in-Unbegun.is c.in_ok-tried.ensures.unbegun in
    begins-less (member_of c.begin_process.new.self.crew c.args.process) (member_of c.loop-tried.self.crew c.args.process) (c.in_ok-lives-in-Unbegun.ensures.begun c.if-not-lives.false) unbegun.1
