use Rattle.std.proofs.Common.{◌≡◌, ◌+◌, arith, length, subst, sym}
use Rattle.sr_races.proofs.FollowLemmas.{alone-entry, comes-to, entries-more, length-pushed, told-made, told-none}
use Rattle.sr_races.proofs.LeaveLemmas.{alone-made}
use Rattle.sr_races.specs.Items.{stands_after}
use Rattle.sr_races.specs.Walks.{AreEntries}
use Rattle.sr_replay.specs.Replaying.{IsAt}
use Rattle.sr_races.proofs.walk.Walk.follow_alone.Goals as goal

pub returns-then-not-legal-clause-walks : goal.returns-then-not-legal-clause-walks
returns-then-not-legal-clause-walks g c = λ r is core walked.
    told-none (g.A.Actor.asks_after c.args.program.now) r c.args.place (g.A.Actor.core_of c.args.program.now) core c.args.item is c.args.self.now.replayer c.step.new.self walked.at c.in_ok-legal.legal c.in_ok-legal.ensures
    c.if-not-legal.true

pub returns-clause-grows : goal.returns-clause-grows
returns-clause-grows g c = λ _. record {
  clocks = c.in_ok-leave_alone.ensures.grows;
  entries = subst (λ xs. length xs ≡ length c.args.self.now.entries + 1) (sym c.in_ok-leave_alone.ensures.entries) (length-pushed c.args.self.now.entries _);
}

pub returns-clause-walks : goal.returns-clause-walks
returns-clause-walks g c = λ r is core walked.
    let after = g.A.Actor.asks_after c.args.program.now in
    let place = c.args.place in
    let moved = comes-to after r place c.args.item is c.step.new.self
    (told-made after r place (g.A.Actor.core_of c.args.program.now) core c.args.item is c.args.self.now.replayer c.step.new.self walked.at c.in_ok-legal.legal c.in_ok-legal.ensures c.if-not-legal.false) in
    let made = alone-made r place c.args.item c.args.name c.args.ends c.requires.alone is in
    let left = c.in_ok-leave_alone.ensures.left r made (record { rows = walked.rows; origins = walked.origins }) in
    let within = made.within in
    record {
      within = omega (arith, within);
      at = subst (λ x. IsAt after r.core r.limit (stands_after r (place + 1)) x) (sym c.leave_alone.ensures.replayer) (moved.1 moved.0);
      origins = left.origins;
      rows = left.rows;
      entries = subst (λ xs. AreEntries r c.leave_alone.new.self.clocks (place + 1) xs) (sym c.in_ok-leave_alone.ensures.entries)
          (entries-more r c.args.self.now.clocks c.leave_alone.new.self.clocks place c.args.self.now.entries _ c.in_ok-leave_alone.ensures.grows.adds.columns walked.entries
          (alone-entry r c.leave_alone.new.self.clocks place made.nobody made.asked));
    }
