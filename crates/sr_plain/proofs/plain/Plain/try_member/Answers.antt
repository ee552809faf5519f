use Rattle.std.proofs.Common.{◌≡◌, [], refl, subst, sym, ◌∙◌, ℕ, Some}
use Rattle.std.proofs.lemmas.Result.{err_from_is_err_and}
use Rattle.std.specs.Prelude.{Ok}
use Rattle.sr_ask.specs.declared.ask.Ask.{Ask}
use Rattle.sr_ask.specs.declared.ask.Asks.TheVariants.{Asked, OverTicks}
use Rattle.sr_core.specs.declared.component.Core.{Core}
use Rattle.sr_core.specs.declared.owner.Me.{Me}
use Rattle.sr_world.specs.Acting.{Acts}
use Rattle.sr_world.specs.Steps.{does}
use Rattle.sr_world.specs.Worlds.{started}
use Rattle.sr_plain.specs.Carrying.{Names}
use Rattle.sr_plain.specs.Crew.{member_of}
use Rattle.sr_plain.specs.Noting.{NotesBy}
use Rattle.sr_plain.specs.Turns.{turn_of}
use Rattle.sr_actor.specs.declared.member.Member.{Member}
use Rattle.sr_plain.specs.declared.plain.Plain.{Plain}
use Rattle.sr_plain.specs.declared.plainly.Plainly.TheVariants as plainly
use Rattle.sr_plain.proofs.CrewLemmas.{written-itself}
use Rattle.sr_plain.proofs.MemberLemmas.{answers_member, begun_lives, carried_of, carried_wrote, hears, lives_tries, looked_member, over_of, tried_err}
use Rattle.sr_plain.proofs.plain.Plain.try_member.Goals as goal

pub returns-in_err-look-in-Some-clause-tries : goal.returns-in_err-look-in-Some-clause-tries
returns-in_err-look-in-Some-clause-tries g c = λ limit state events engine ready awake.
    let core = g.A.Actor.core_of c.args.program.now in
    let failed = err_from_is_err_and c.from_residual.result c.from_residual.ensures.1 in
    tried_err (g.A.Actor.asks_after c.args.program.now) g.A.Actor.can_feed core limit state events (turn_of core limit state (started state.world c.args.process)) c.from_residual.result failed.0
    (record c.args.self.now { crew = c.get_mut.follows.lender c.look.new.self }) failed.1 engine.world

pub returns-in_err-carried-in-Asked-clause-tries : goal.returns-in_err-carried-in-Asked-clause-tries
returns-in_err-carried-in-Asked-clause-tries g c = λ limit state events engine ready awake.
    let core = g.A.Actor.core_of c.args.program.now in
    let failed = err_from_is_err_and c.from_residual-in_err-carried-in-Asked.result c.from_residual-in_err-carried-in-Asked.ensures.1 in
    tried_err (g.A.Actor.asks_after c.args.program.now) g.A.Actor.can_feed core limit state events (turn_of core limit state (started state.world c.args.process)) c.from_residual-in_err-carried-in-Asked.result failed.0
    (record c.args.self.now { crew = c.get_mut.follows.lender c.look.new.self; world = c.carry_out.new.world }) failed.1 (c.in_err-carried-in-Asked.ensures.err ∙ engine.world)

pub returns-in-OverTicks-clause-tries : goal.returns-in-OverTicks-clause-tries
returns-in-OverTicks-clause-tries g c = λ limit state events engine ready awake.
    let after = g.A.Actor.asks_after c.args.program.now in
    let core = g.A.Actor.core_of c.args.program.now in
    let old = c.args.self.now in
    let process = c.args.process in
    let m = c.in-Some.member.now in
    let me : Me = record { process = process; instance = m.instance } in
    let m' = c.look.new.self in
    let looked : Plain _ = record old { crew = c.get_mut.follows.lender m' } in
    let here : Some m ≡ member_of old.crew process = c.in-Some.ensures.value in
    let known : OverTicks ≡ after m'.actor [] = cc (c.in-OverTicks.is, c.asked.ensures c.args.program.now) in
    let begun = begun_lives after g.A.Actor.can_feed core limit state events old engine awake process m here in
    let engine1 = looked_member after g.A.Actor.can_feed core limit state events old looked engine begun.start begun.lives process begun.process_is m m' here (c.get_mut.follows.holds m') c.in_ok-look-in-Some.ensures.same in
    lives_tries after g.A.Actor.can_feed core limit state events process begun.start (Ok (Some (plainly.Over process))) looked begun.found
    (over_of after g.A.Actor.can_feed core limit state events begun.start looked engine1 begun.lives process begun.process_is me begun.me_is m'
    (sym (written-itself process old.crew looked.crew m m' here (c.get_mut.follows.holds m'))) known)

pub returns-in_ok-self-in-Asked-clause-tries : goal.returns-in_ok-self-in-Asked-clause-tries
returns-in_ok-self-in-Asked-clause-tries g c = λ limit state events engine ready awake.
    let after = g.A.Actor.asks_after c.args.program.now in
    let core = g.A.Actor.core_of c.args.program.now in
    let old = c.args.self.now in
    let process = c.args.process in
    let m = c.in-Some.member.now in
    let me : Me = record { process = process; instance = m.instance } in
    let m' = c.look.new.self in
    let m'' = c.hear.new.member in
    let asks : Ask = c.in-Asked.ask in
    let carried = c.in_ok-carried-in-Asked.carried in
    let woken = c.in_ok-self-in-Asked.field-0 in
    let plain_of = λ (x : Member _) (l : ℕ). record old { crew = c.get_mut.follows.lender x; world = c.carry_out.new.world; waiters = c.note.new.waiters; woken = woken; last = l } in
    let looked : Plain _ = record old { crew = c.get_mut.follows.lender m' } in
    let here : Some m ≡ member_of old.crew process = c.in-Some.ensures.value in
    let known : Asked asks ≡ after m'.actor [] = cc (c.in-Asked.is, c.asked.ensures c.args.program.now) in
    let acts = subst (λ (k : Core). Acts (does k old.world process asks carried.name) old.world c.carry_out.new.world (Ok carried.acted)) c.core-core.ensures c.in_ok-carried-in-Asked.ensures.acts in
    let names = subst (λ (k : Core). Names (does k old.world process asks carried.name) old.world carried.name) c.core-core.ensures c.in_ok-carried-in-Asked.ensures.names in
    let notes = subst (λ (k : Core). NotesBy k me asks carried.caller carried.name carried.acted old.waiters c.note.new.waiters woken) c.core-core.ensures c.in_ok-self-in-Asked.ensures.ok in
    let begun = begun_lives after g.A.Actor.can_feed core limit state events old engine awake process m here in
    let engine1 = looked_member after g.A.Actor.can_feed core limit state events old looked engine begun.start begun.lives process begun.process_is m m' here (c.get_mut.follows.holds m') c.in_ok-look-in-Some.ensures.same in
    let there = sym (written-itself process old.crew looked.crew m m' here (c.get_mut.follows.holds m')) in
    lives_tries after g.A.Actor.can_feed core limit state events process begun.start (Ok c.hear.result) (plain_of m'' c.hear.new.last) begun.found
    (hears after g.A.Actor.can_feed core limit state events begun.start process carried.name begun.process_is carried.output plain_of m' m'' old.last c.hear.new.last c.hear.result
    (record { world = λ x l. refl; ticks = λ x l. refl; last = λ x l. refl; waiters = λ x l. refl; woken = λ x l. refl })
    (answers_member after g.A.Actor.can_feed core limit state events old looked engine begun.start begun.lives process begun.process_is m m' here (c.get_mut.follows.holds m') (plain_of m'' c.hear.new.last) m'' (c.get_mut.follows.holds m''))
    carried.acted
    (carried_of after g.A.Actor.can_feed core limit state events begun.start looked engine1 begun.lives process begun.process_is me begun.me_is m' there asks known c.in_ok-look-in-Some.ensures.asked
    c.carry_out.new.world carried.name carried.acted acts names c.note.new.waiters woken carried.caller c.in_ok-carried-in-Asked.ensures.caller notes ready awake)
    (carried_wrote after g.A.Actor.can_feed core limit state events begun.start looked engine1 begun.lives process begun.process_is me begun.me_is m' there asks known c.in_ok-look-in-Some.ensures.asked
    c.carry_out.new.world carried.name carried.acted acts names c.note.new.waiters woken carried.caller c.in_ok-carried-in-Asked.ensures.caller notes ready awake
    carried.output c.in_ok-carried-in-Asked.ensures.output)
    (c.hear.ensures.answered c.args.program.now))
