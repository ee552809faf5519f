-- Why the laying out of a file ends as it does. Each cause says what was there before it.
use Rattle.std.specs.Prelude.{◌≡◌, ℕ, List, Option, Some}
use Rattle.sr_layout.specs.LaidOut.{IsLaidOut, IsRefused}
use Rattle.sr_text.specs.declared.refusal.Refusal.{Refusal}
use Rattle.sr_top.specs.Calls.{Call, HasNoItems, RunsNothing}
use Rattle.sr_top.specs.Reading.{FailsAt, IsRead, Reads}
use Rattle.sr_top.specs.Tasks.{LaysOut, task}
use Rattle.sr_top.specs.declared.report.Ending.{Ending}
use Rattle.sr_top.specs.declared.report.Ending.TheVariants.{Refused, NoFile, NoMemory}

-- the words ask for a file in the one style
pub record AsksLayout (call : Call) : Type 0 where
  pub name : List ℕ
  pub asked : task call.words ≡ Some (LaysOut name)

-- the file was read
pub record ReadsSource (call : Call) : Type 0 where
  pub asks : AsksLayout call
  pub bytes : List ℕ
  pub read : IsRead call.files (asks.name, bytes)
  pub no_fault : call.reads_now.faults ≡ call.reads.faults

-- this is its text in the one style; no item was made, and nothing was taken from the input
pub record HasLayout (call : Call) (lines : List ℕ) : Type 0 where
  pub source : ReadsSource call
  pub is : IsLaidOut source.bytes lines
  pub no_items : HasNoItems call
  pub left : call.now.left ≡ call.before.left
  pub no_read_fault : call.now.read_faults ≡ call.before.read_faults

-- the file can't be read
pub record EndsNoSource (call : Call) (file : ℕ) : Type 0 where
  pub asks : AsksLayout call
  pub first : file ≡ 0
  pub failed : FailsAt file call.reads call.reads_now
  pub nothing : RunsNothing call

-- its tokens or its tree are refused
pub record EndsSourceRefused (call : Call) (refusal : Refusal) : Type 0 where
  pub source : ReadsSource call
  pub refused : IsRefused source.bytes refusal
  pub nothing : RunsNothing call

-- ---- its stages

-- the text of the file of a name
pub record IsTextOfFile (told : Option (List (List ℕ × List ℕ))) (name text : List ℕ) : Type 0 where
  pub bytes : List ℕ
  pub read : IsRead told (name, bytes)
  pub is : IsLaidOut bytes text

-- its refusal
pub record IsRefusedFile (told : Option (List (List ℕ × List ℕ))) (name : List ℕ) (refusal : Refusal) : Type 0 where
  pub bytes : List ℕ
  pub read : IsRead told (name, bytes)
  pub refused : IsRefused bytes refusal

abbrev pub EndsSource : List ℕ → Ending → Type 0
EndsSource bytes (Refused refusal) = IsRefused bytes refusal
EndsSource bytes NoMemory = Unit {0}
EndsSource bytes _ = ⊥

abbrev pub EndsFile : Option (List (List ℕ × List ℕ)) → List ℕ → Reads → Reads → Ending → Type 0
EndsFile told name before now (NoFile file) = (file ≡ 0) × FailsAt file before now
EndsFile told name before now (Refused refusal) = IsRefusedFile told name refusal × (now.faults ≡ before.faults)
EndsFile told name before now NoMemory = now.faults ≡ before.faults
EndsFile told name before now _ = ⊥
