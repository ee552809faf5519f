-- How the processes of the tests are numbered.
use Rattle.std.specs.Prelude.{◌≡◌, ◌+◌, ℕ, List, Some, slice_get}
use Rattle.sr_core.specs.declared.owner.Me.{Me}

-- each process is numbered by its place
abbrev pub AreNumbered : ℕ → List Me → Type 0
AreNumbered first mes = (place : ℕ) (me : Me) → slice_get mes place ≡ Some me → me.process ≡ first + place
