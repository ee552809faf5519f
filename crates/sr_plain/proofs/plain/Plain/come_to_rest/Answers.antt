use Rattle.std.proofs.Common.{subst, sym, ◌∙◌, None, Some, inl, inr}
use Rattle.std.proofs.lemmas.Result.{err_from_is_err_and}
use Rattle.std.specs.Prelude.{List, ℕ, Result, Ok}
use Rattle.sr_ask.specs.declared.item.Item.TheVariants.{Quiesce}
use Rattle.sr_core.specs.declared.component.Core.{Core}
use Rattle.sr_value.specs.declared.memory.NoMemory.{NoMemory}
use Rattle.sr_world.specs.Acting.{Acts}
use Rattle.sr_world.specs.Endings.{quiesce}
use Rattle.sr_world.specs.declared.acted.Acted.{Acted}
use Rattle.sr_plain.specs.Engine.{Comes, Steps}
use Rattle.sr_plain.specs.declared.plain.Plain.{Plain}
use Rattle.sr_plain.specs.declared.plainly.Plainly.{Plainly}
use Rattle.sr_plain.specs.declared.plainly.Plainly.TheVariants as plainly
use Rattle.sr_plain.proofs.MemberLemmas.{steps_err}
use Rattle.sr_plain.proofs.RestLemmas.{failed-same, never_cannot, never_undecided, rest_begins, rest_ends}
use Rattle.sr_plain.proofs.plain.Plain.come_to_rest.Goals as goal
use Rattle.sr_plain.proofs.plain.Plain.come_to_rest.Goals.{in-Done, in-Ends}

pub returns-in_err-name : goal.returns-in_err-name
returns-in_err-name g c = λ limit state events engine none.
    let failed = err_from_is_err_and c.from_residual.result c.from_residual.ensures.1 in
    steps_err (g.A.Actor.asks_after c.args.program.now) g.A.Actor.can_feed (g.A.Actor.core_of c.args.program.now) limit state events None c.from_residual.result failed.0 c.args.self.now failed.1 engine.world

pub returns-in_err-end : goal.returns-in_err-end
returns-in_err-end g c = λ limit state events engine none.
    let failed = err_from_is_err_and c.from_residual-in_err-end.result c.from_residual-in_err-end.ensures.1 in
    steps_err (g.A.Actor.asks_after c.args.program.now) g.A.Actor.can_feed (g.A.Actor.core_of c.args.program.now) limit state events None c.from_residual-in_err-end.result failed.0
    (record c.args.self.now { world = c.quiesce.new.self; woken = Some c.everyone.result }) failed.1
    (failed-same (quiesce c.core.result.now c.in_ok-name.name c.args.self.now.world) c.args.self.now.world c.quiesce.new.self c.in_err-end.field-0.0 c.in_err-end.ensures ∙ engine.world)

pub unreachable-requires : goal.unreachable-requires
unreachable-requires g c =
    let acts = λ (a : Acted). Acts (quiesce c.core.result.now c.in_ok-name.name c.args.self.now.world) c.args.self.now.world c.quiesce.new.self (Ok a) in
    elim c.in-Cannot.is [
      | inl is ↦ never_cannot c.core.result.now c.in_ok-name.name c.args.self.now.world c.quiesce.new.self (subst acts is c.in_ok-end.ensures)
      | inr is ↦ never_undecided c.core.result.now c.in_ok-name.name c.args.self.now.world c.quiesce.new.self (subst acts is c.in_ok-end.ensures)
    ]

pub returns : goal.returns
returns g c = λ limit state events engine none.
    let after = g.A.Actor.asks_after c.args.program.now in
    let core = g.A.Actor.core_of c.args.program.now in
    let name = c.in_ok-name.name in
    let old = c.args.self.now.world in
    let rested : Plain _ = record c.args.self.now { world = c.quiesce.new.self; woken = Some c.everyone.result } in
    let acts = subst (λ (k : Core). Acts (quiesce k name old) old c.quiesce.new.self (Ok c.in_ok-end.field-0)) c.core.ensures c.in_ok-end.ensures in
    let whole = λ (r : Result Plainly NoMemory). Steps after g.A.Actor.can_feed core limit state events None r rested in
    elim c.match-branch-3.branch [
      | in-Done w ↦
          subst whole (sym w.result-is)
          (subst (λ (text : List ℕ). Comes after g.A.Actor.can_feed core limit state events None (plainly.Stepped (Quiesce name) text) rested) (sym w.new.ensures)
          (rest_begins after g.A.Actor.can_feed core limit state events none name c.args.self.now engine c.quiesce.new.self w.in-Done.field-0
          (subst (λ (a : Acted). Acts (quiesce core name old) old c.quiesce.new.self (Ok a)) w.in-Done.is acts) c.in_ok-name.ensures.next c.everyone.result c.everyone.ensures.change c.everyone.ensures.gone))
      | in-Ends w ↦
          subst whole (sym w.result-is)
          (rest_ends after g.A.Actor.can_feed core limit state events none name c.args.self.now engine c.quiesce.new.self w.in-Ends.end
          (subst (λ (a : Acted). Acts (quiesce core name old) old c.quiesce.new.self (Ok a)) w.in-Ends.is acts) c.everyone.result c.everyone.ensures.change c.everyone.ensures.gone)
    ]
