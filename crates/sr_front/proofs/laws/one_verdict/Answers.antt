use Rattle.sr_front.proofs.Verdicts.{accepted_apart, accepted_or_refused, one_accepted, one_phase}
use Rattle.sr_front.proofs.laws.one_verdict.Goals as goal

pub returns : goal.returns
returns c = record {
  some = accepted_or_refused;
  apart = accepted_apart;
  accepted = one_accepted;
  phase = one_phase;
}
