use Rattle.std.proofs.Common.{◌≡◌, ◌∙◌, ap, arith, length, subst}
use Rattle.sr_races.proofs.PairLemmas.{begin-all}
use Rattle.sr_races.specs.Searches.{AreRacesBefore}
use Rattle.sr_races.proofs.search.push_over.Goals as goal

pub loop-second-init : goal.loop-second-init
loop-second-init c = record {
  size = c.requires.size;
  found = λ r read noted. begin-all r c.args.clocks.now c.args.entries.now read c.args.races.now c.requires.none;
  noted = λ r read noted. noted;
  few = let none = ap length c.requires.none in omega (arith, none);
}

pub loop-second-preserved : goal.loop-second-preserved
loop-second-preserved c = record {
  size = c.in_ok-note.ensures.size ∙ c.loop-second.invariant.size;
  found = λ r read noted. c.in_ok-push_of.ensures r read (c.loop-second.invariant.noted r read noted) (c.loop-second.invariant.found r read noted);
  noted = λ r read noted. c.in_ok-note.ensures.noted r read (c.loop-second.invariant.noted r read noted);
  few = omega arith;
}

pub returns-then-len-gt-MOST_RACES : goal.returns-then-len-gt-MOST_RACES
returns-then-len-gt-MOST_RACES c = λ r read noted. ((c.in_ok-push_of.ensures r read (c.loop-second.invariant.noted r read noted) (c.loop-second.invariant.found r read noted)).each, omega arith)

pub returns : goal.returns
returns c = λ r read noted.
    let all : c.loop-second.second ≡ length c.args.entries.now = omega arith in
    (subst (λ n. AreRacesBefore r 0 n c.loop-second.races) all (c.loop-second.invariant.found r read noted), c.loop-second.invariant.few)
