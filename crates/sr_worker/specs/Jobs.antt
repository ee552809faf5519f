-- What a hand in a thread did.
use Rattle.std.specs.Prelude.{◌≡◌, ◌⊎◌, ℕ, List, false, true}
use Rattle.sr_ask.specs.declared.answer.Answer.{Answer}
use Rattle.sr_ask.specs.declared.ask.Ask.{Ask}
use Rattle.sr_ask.specs.declared.ask.Asks.{Asks}
use Rattle.sr_ask.specs.declared.entry.Entry.{Entry}
use Rattle.sr_core.specs.declared.owner.Me.{Me}
use Rattle.sr_worker.specs.Hands.{Adds, ArePassedOver, IsPlaying, processes_of}
use Rattle.sr_worker.specs.Notes.{is_spent}
use Rattle.sr_worker.specs.declared.job.Job.{Job}

-- all that `Hand::run` says of a hand and its seat
pub record DoesJob {A S : Type 0} (after : A → List Answer → Asks) (rests : S → Type 0) (made : S → List Entry) (declines : S → Me → Ask → Type 0) (job done : Job A S) : Type 0 where
  pub at_rest : rests done.seat
  pub same_entries : made job.seat ≡ job.hand.notes.entries → made done.seat ≡ done.hand.notes.entries
  pub adds : Adds (processes_of job.hand.players) job.hand.notes done.hand.notes
  pub players : processes_of done.hand.players ≡ processes_of job.hand.players
  pub playing : (plays : ℕ → List Answer → Asks) → IsPlaying plays after job.hand → IsPlaying plays after done.hand
  pub idle : (is_spent done.hand.notes ≡ true) ⊎ ArePassedOver after declines done.seat done.hand.players
  pub none : done.hand.notes.entries ≡ job.hand.notes.entries → is_spent job.hand.notes ≡ false → ArePassedOver after declines done.seat job.hand.players
