use Rattle.std.proofs.Common.{◌+◌, subst, sym}
use Rattle.sr_clock_rows.specs.Lasts.{IsLastIf}
use Rattle.sr_races.proofs.OriginLemmas.{closing-more}
use Rattle.sr_races.specs.Items.{actor_at, number_at}
use Rattle.sr_races.specs.Origins.{duty_at, ending_at, readied_at}
use Rattle.sr_races.proofs.origins.Origins.note.Goals as goal

pub returns : goal.returns
returns c = λ r old process number duty readied ends. record {
  lasts = c.in_ok-note.ensures (actor_at r) old.lasts process;
  makers = c.in_ok-note-2.ensures (number_at r) old.makers number;
  answerers = c.in_ok-note-3.ensures (duty_at r) old.answerers duty;
  readiers = c.in_ok-note-4.ensures (readied_at r) old.readiers readied;
  closing = subst (λ o. IsLastIf (ending_at r) (c.args.item + 1) 1 o) (sym c.closing_if-self.ensures) (closing-more r c.args.item c.args.left.ends c.args.self.now.closing old.closing ends);
}
