-- What a call that carries a request out leaves.
use Rattle.std.specs.Prelude.{◌≡◌, ℕ, Result, Ok, Err}
use Rattle.std.specs.List.{Contains}
use Rattle.sr_instances.specs.Instances.{IsAdded}
use Rattle.sr_processes.specs.Living.{IsLive}
use Rattle.sr_value.specs.declared.memory.NoMemory.{NoMemory}
use Rattle.sr_world.specs.Does.{Does, Did, Makes, Cannot, Ends, Undecided}
use Rattle.sr_world.specs.Worlds.{World}
use Rattle.sr_world.specs.declared.acted.Acted.{Acted}
use Rattle.sr_world.specs.declared.acted.Acted.TheVariants as acted

-- the call did what was meant and answers so; or memory ran out, and all is as before
abbrev pub Acts : Does → World → World → Result Acted NoMemory → Type 0
Acts (Did world answer) old new (Ok (acted.Done given)) = (new ≡ world) × (given ≡ answer)
Acts (Makes world answer) old new (Ok (acted.Done given)) = (new ≡ world) × (given ≡ answer)
Acts Cannot old new (Ok acted.Cannot) = new ≡ old
Acts (Ends ending) old new (Ok (acted.Ends given)) = (new ≡ old) × (given ≡ ending)
Acts Undecided old new (Ok acted.Undecided) = new ≡ old
Acts meant old new (Err out_of_memory) = new ≡ old
Acts meant old new result = ⊥

-- nothing that is there has this number
pub record IsNew (world : World) (name : ℕ) : Type 0 where
  pub no_process : ¬ IsLive world.live name
  pub no_instance : ¬ IsAdded world.places name
  pub no_machine : ¬ Contains world.places.machines name

-- a step that makes something needs a new number
abbrev pub NeedsNew : Does → World → ℕ → Type 0
NeedsNew (Makes world answer) old name = IsNew old name
NeedsNew meant old name = Unit {0}
