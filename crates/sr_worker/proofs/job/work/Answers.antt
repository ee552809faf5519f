use Rattle.sr_worker.proofs.job.work.Goals as goal

pub returns : goal.returns
returns g c = record {
  at_rest = c.in_ok-run.ensures.rests;
  same_entries = c.in_ok-run.ensures.made;
  adds = c.in_ok-run.ensures.adds;
  players = c.in_ok-run.ensures.players;
  playing = c.in_ok-run.ensures.playing;
  idle = c.in_ok-run.ensures.idle;
  none = c.in_ok-run.ensures.none;
}
