use Rattle.std.proofs.Common.{◌≡◌, ◌∙◌, IfOk, subst, sym}
use Rattle.std.specs.Prelude.{IfSome, Ok, is_some}
use Rattle.sr_ask.specs.declared.item.Item.{Item}
use Rattle.sr_ask.specs.declared.item.Item.TheVariants.{Step, Quiesce, Tick}
use Rattle.sr_replay.proofs.BeginLemmas.{swept-at}
use Rattle.sr_replay.proofs.FollowLemmas.{ended-follows, going-follows}
use Rattle.sr_replay.specs.Naming.{named_at}
use Rattle.sr_replay.specs.Replaying.{Follows}
use Rattle.sr_world.specs.Runs.{and_then, next}
use Rattle.sr_replay.proofs.replayer.Replayer.step_named.Goals as goal

pub returns-then-is_some-clause-follows : goal.returns-then-is_some-clause-follows
returns-then-is_some-clause-follows g c = λ limit now at.
    ended-follows (g.A.Actor.asks_after c.args.program.now) (g.A.Actor.core_of c.args.program.now) limit now c.args.self.now c.args.item at (sym c.is_some.ensures ∙ c.if-is_some.true)

pub returns-in-Step-clause-follows : goal.returns-in-Step-clause-follows
returns-in-Step-clause-follows g c = λ limit now at.
    let after = g.A.Actor.asks_after c.args.program.now in
    let core = g.A.Actor.core_of c.args.program.now in
    let old = c.args.self.now in
    subst (λ (i : Item). IfOk c.step_by.result (λ named. Follows after core limit (and_then now (λ state. next core limit state i)) (is_some named) c.step_by.new.self)) (sym c.in-Step.is)
    (going-follows after core limit now old c.step_by.new.self (Step c.in-Step.actor c.in-Step.name) c.step_by.result at (sym c.is_some.ensures ∙ c.if-is_some.false)
    (λ state going. c.step_by.ensures.follows limit state (going.0, swept-at g.A.Actor.asks_after g.A.Actor.core_of c.args.program.now limit state old (record old { crew = c.sweep.new.crew }) going.1 c.sweep.ensures)))

pub returns-in-Step-clause-named : goal.returns-in-Step-clause-named
returns-in-Step-clause-named g c = λ limit state at.
    let core = g.A.Actor.core_of c.args.program.now in
    let old = c.args.self.now in
    subst (λ (i : Item). IfOk c.step_by.result (λ named. IfSome named (λ number. number ≡ named_at core limit state i))) (sym c.in-Step.is)
    (c.step_by.ensures.named limit state (at.0, swept-at g.A.Actor.asks_after g.A.Actor.core_of c.args.program.now limit state old (record old { crew = c.sweep.new.crew }) at.1 c.sweep.ensures))

pub returns-in_ok-legal-in-Quiesce-clause-follows : goal.returns-in_ok-legal-in-Quiesce-clause-follows
returns-in_ok-legal-in-Quiesce-clause-follows g c = λ limit now at.
    let after = g.A.Actor.asks_after c.args.program.now in
    let core = g.A.Actor.core_of c.args.program.now in
    let old = c.args.self.now in
    subst (λ (i : Item). Follows after core limit (and_then now (λ state. next core limit state i)) (is_some c.where_legal.result) c.quiesce.new.self) (sym c.in-Quiesce.is)
    (going-follows after core limit now old c.quiesce.new.self (Quiesce c.in-Quiesce.name) (Ok c.where_legal.result) at (sym c.is_some.ensures ∙ c.if-is_some.false)
    (λ state going. subst (λ b. Follows after core limit (next core limit state (Quiesce c.in-Quiesce.name)) b c.quiesce.new.self) (sym c.where_legal.ensures.legal)
    (c.in_ok-legal-in-Quiesce.ensures limit state (going.0, swept-at g.A.Actor.asks_after g.A.Actor.core_of c.args.program.now limit state old (record old { crew = c.sweep.new.crew }) going.1 c.sweep.ensures))))

pub returns-in_ok-legal-in-Quiesce-clause-named : goal.returns-in_ok-legal-in-Quiesce-clause-named
returns-in_ok-legal-in-Quiesce-clause-named g c = λ limit state at.
    subst (λ (i : Item). IfSome c.where_legal.result (λ number. number ≡ named_at (g.A.Actor.core_of c.args.program.now) limit state i)) (sym c.in-Quiesce.is) c.where_legal.ensures.number

pub returns-in_ok-legal-in-Tick-clause-follows : goal.returns-in_ok-legal-in-Tick-clause-follows
returns-in_ok-legal-in-Tick-clause-follows g c = λ limit now at.
    let after = g.A.Actor.asks_after c.args.program.now in
    let core = g.A.Actor.core_of c.args.program.now in
    let old = c.args.self.now in
    subst (λ (i : Item). Follows after core limit (and_then now (λ state. next core limit state i)) (is_some c.where_legal-in-Tick.result) c.tick.new.self) (sym c.in-Tick.is)
    (going-follows after core limit now old c.tick.new.self (Tick c.in-Tick.to) (Ok c.where_legal-in-Tick.result) at (sym c.is_some.ensures ∙ c.if-is_some.false)
    (λ state going. subst (λ b. Follows after core limit (next core limit state (Tick c.in-Tick.to)) b c.tick.new.self) (sym c.where_legal-in-Tick.ensures.legal)
    (c.in_ok-legal-in-Tick.ensures limit state (going.0, swept-at g.A.Actor.asks_after g.A.Actor.core_of c.args.program.now limit state old (record old { crew = c.sweep.new.crew }) going.1 c.sweep.ensures))))

pub returns-in_ok-legal-in-Tick-clause-named : goal.returns-in_ok-legal-in-Tick-clause-named
returns-in_ok-legal-in-Tick-clause-named g c = λ limit state at.
    subst (λ (i : Item). IfSome c.where_legal-in-Tick.result (λ number. number ≡ named_at (g.A.Actor.core_of c.args.program.now) limit state i)) (sym c.in-Tick.is) c.where_legal-in-Tick.ensures.number
