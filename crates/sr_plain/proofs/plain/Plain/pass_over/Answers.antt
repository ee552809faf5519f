use Rattle.std.proofs.Common.{◌≡◌, ◌≤◌, ◌+◌, ℕ, List, Option, Some, ap, arith, length, subst}
use Rattle.sr_ask.specs.declared.item.Item.{Item}
use Rattle.sr_classes.specs.Classes.{class_of}
use Rattle.sr_world.specs.Runs.{Makes_item}
use Rattle.std.specs.Prelude.{map, ◌++◌}
use Rattle.sr_plain.specs.Waiting.{IsNextToAsk}
use Rattle.sr_plain.proofs.MemberLemmas.{promoted_engine}
use Rattle.sr_plain.proofs.PassLemmas.{none-left, one-asked}
use Rattle.sr_plain.proofs.plain.Plain.pass_over.Goals as goal

next-is : (o : Option ℕ) (x : ℕ) (P : Option ℕ → Type 0) → o ≡ Some x → P o → P (Some x)
next-is o x P is h = subst P is h

pub loop-process-init : goal.loop-process-init
loop-process-init g c = record {
  awake = c.requires;
  within = λ within. within;
  fit = λ fit. fit;
  passing = λ limit state events bound below passing. (passing, λ is. (is, λ q above under. absurd (omega (arith, above, under))));
}

pub promote-requires : goal.promote-requires
promote-requires g c =
    (subst (λ (o : Option ℕ). IsNextToAsk c.loop-process.self.waiters c.loop-process.at c.args.high c.args.room (length c.loop-process.made) o) c.in-Some.is c.next_to_ask.ensures).1.goes

pub ask_once-requires-clause-ready : goal.ask_once-requires-clause-ready
ask_once-requires-clause-ready g c = c.in_ok-promote.ensures.ready

pub loop-process-preserved : goal.loop-process-preserved
loop-process-preserved g c = record {
  awake = c.in_ok-ask_once.ensures.awake;
  within = λ within.
      let next = subst (λ (o : Option ℕ). IsNextToAsk c.loop-process.self.waiters c.loop-process.at c.args.high c.args.room (length c.loop-process.made) o) c.in-Some.is c.next_to_ask.ensures in
      let room = next.0 in
      let one = c.in_ok-ask_once.ensures.within in
      omega (arith, room, one);
  fit = λ fit. c.in_ok-ask_once.ensures.fit (c.loop-process.invariant.fit fit);
  passing = λ limit state events bound below begun.
      let after = g.A.Actor.asks_after c.args.program.now in
      let core = g.A.Actor.core_of c.args.program.now in
      let class = class_of c.args.classes.now.of in
      let next = (subst (λ (o : Option ℕ). IsNextToAsk c.loop-process.self.waiters c.loop-process.at c.args.high c.args.room (length c.loop-process.made) o) c.in-Some.is c.next_to_ask.ensures).1 in
      let so_far = c.loop-process.invariant.passing limit state events bound below begun in
      let passing = so_far.0 in
      let promoted = promoted_engine after g.A.Actor.can_feed core limit passing.later (events ++ map Makes_item c.loop-process.made) c.loop-process.self passing.engine c.loop-process.invariant.awake c.in-Some.process
      c.promote.new.self c.in_ok-promote.ensures in
      let asked = c.in_ok-ask_once.ensures.once limit passing.later (events ++ map Makes_item c.loop-process.made) promoted in
      let within : c.in-Some.process ≤ bound = (let high = next.within in omega (arith, high, below)) in
      let more = one-asked after g.A.Actor.can_feed core class limit state events bound c.loop-process.made c.loop-process.self passing c.loop-process.invariant.awake c.args.low c.loop-process.at
      (λ is. (so_far.1 is).1) c.in-Some.process within next.between c.ask_once.new.made c.ask_once.new.self asked in
      (more.0, λ is. let nothing = more.1 is in ((so_far.1 nothing.0).0, nothing.1));
}

pub loop-process-smaller : goal.loop-process-smaller
loop-process-smaller g c =
    let next = (subst (λ (o : Option ℕ). IsNextToAsk c.loop-process.self.waiters c.loop-process.at c.args.high c.args.room (length c.loop-process.made) o) c.in-Some.is c.next_to_ask.ensures).1 in
    let above = next.above in
    let within = next.within in
    omega (arith, above, within)

pub returns-clause-over : goal.returns-clause-over
returns-clause-over g c = λ limit state events bound below begun.
    let after = g.A.Actor.asks_after c.args.program.now in
    let core = g.A.Actor.core_of c.args.program.now in
    let class = class_of c.args.classes.now.of in
    let next = subst (λ (o : Option ℕ). IsNextToAsk c.loop-process.self.waiters c.loop-process.at c.args.high c.args.room (length c.loop-process.made) o) c.in_default.is c.next_to_ask.ensures in
    let so_far = c.loop-process.invariant.passing limit state events bound below begun in (
      so_far.0,
      λ is. (
        (so_far.1 is).0,
        λ some.
            none-left after g.A.Actor.can_feed core class limit state events bound c.loop-process.made c.loop-process.self so_far.0 c.loop-process.invariant.awake c.args.low c.loop-process.at
            (λ same. (so_far.1 same).1) c.args.high (next (omega (arith, some, ap (λ (made : List Item). length made) is))) is,
      ),
    )
