use Rattle.std.proofs.Common.{◌≡◌, ◌∙◌, ap, is_some, sym, true≢false}
use Rattle.sr_classes.specs.Classes.{class_of}
use Rattle.sr_world.specs.Worlds.{World, started}
use Rattle.sr_plain.specs.Passing.{is_left}
use Rattle.sr_plain.proofs.BeginLemmas.{absent-here}
use Rattle.sr_plain.proofs.MemberLemmas.{if_none}
use Rattle.sr_plain.proofs.PassLemmas.{some_is}
use Rattle.sr_plain.proofs.plain.Plain.begins_left.Goals as goal

pub member_is_left-requires : goal.member_is_left-requires
member_is_left-requires g c = c.begin_process.ensures.woken ∙ c.requires

pub returns-then-not-lives-clause-left : goal.returns-then-not-lives-clause-left
returns-then-not-lives-clause-left g c = λ limit state events engine.
    let core = g.A.Actor.core_of c.args.program.now in
    let absent = absent-here (started c.args.self.now.world c.args.process) (sym c.in_ok-lives.ensures.lives ∙ c.if-not-lives.true) in
    sym (ap (is_left core (class_of c.args.classes.now.of) limit state) (ap (λ (w : World). started w c.args.process) (sym engine.world) ∙ absent))

pub returns-then-not-lives-clause-engine : goal.returns-then-not-lives-clause-engine
returns-then-not-lives-clause-engine g c = λ limit state events engine. c.in_ok-lives.ensures.engine c.args.program.now limit state events engine

pub returns-clause-left : goal.returns-clause-left
returns-clause-left g c = λ limit state events engine.
    let core = g.A.Actor.core_of c.args.program.now in
    some_is c.in_ok-known.known c.in-Some.left (λ is. is ≡ is_left core (class_of c.args.classes.now.of) limit state (started state.world c.args.process)) c.in-Some.is
    (c.in_ok-known.ensures.left limit state events (c.in_ok-lives.ensures.engine c.args.program.now limit state events engine))

pub returns-clause-engine : goal.returns-clause-engine
returns-clause-engine g c = λ limit state events engine.
    c.in_ok-known.ensures.engine limit state events (c.in_ok-lives.ensures.engine c.args.program.now limit state events engine)

pub unreachable-requires : goal.unreachable-requires
unreachable-requires g c =
    let none = (if_none c.in_ok-known.known c.in-None.is c.in_ok-known.ensures.unbegun).1 in
    true≢false (sym (c.in_ok-lives.ensures.begun c.if-not-lives.false) ∙ ap is_some none)
