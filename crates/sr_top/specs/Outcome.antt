-- What a call of the program comes to.
use Rattle.std.specs.Prelude.{◌≡◌, ◌⊎◌, ℕ, List, Option}
use Rattle.sr_top.specs.Causes.{Call, HasCause}
use Rattle.sr_top.specs.Headline.{Headline, IsComplete}
use Rattle.sr_top.specs.Journal.{HasNoJournal, PutsJournal}
use Rattle.sr_top.specs.declared.report.Ending.{Ending}
use Rattle.sr_top.specs.declared.report.Side.{Side}

-- A call ends for this cause; what it made, put and took is what its ending says; where no device failed, the ending
-- blames none. The text of the journal was put, or there is none and its sink is as before.
pub record HasOutcome {J : Type 0} (call : Call) (ending : Ending) (side : Side) (journal journal_now : J)
    (held held_now : Option (List ℕ)) (faults faults_now : ℕ) : Type 0 where
  pub cause : HasCause call ending
  pub headline : Headline call ending
  pub complete : IsComplete call ending
  pub kept : PutsJournal call ending side held held_now faults faults_now ⊎ (HasNoJournal call ending side × (journal_now ≡ journal))
