-- The files that a call reads, and the program in them.
use Rattle.std.specs.Prelude.{◌≡◌, ℕ, zero, suc, ◌<◌, List, [], ◌∷◌, ◌++◌, length, map, take, Option, Some, Result, Ok, Err, IfSome}
use Rattle.std.specs.List.{AllByRecursion}
use Rattle.std.specs.Option.{option_map}
use Rattle.std.specs.Str.{IsUtf8}
use Rattle.sr_core.specs.declared.component.Core.{Core}
use Rattle.sr_core.specs.declared.owner.Classes.{Classes}
use Rattle.sr_front.specs.Cores.{IsCoreOf}
use Rattle.sr_front.specs.Program.{IsRefused}
use Rattle.sr_front.specs.Reading.{contents_of}
use Rattle.sr_ports.specs.Faults.{Rose}
use Rattle.sr_ports.specs.Files.{Readings, bytes_of, next_read}
use Rattle.sr_ports.specs.declared.fault.PortFail.{PortFail}
use Rattle.sr_ports.specs.declared.fault.PortFail.TheVariants as fail
use Rattle.sr_sample.specs.Sample.{sample_text}
use Rattle.sr_text.specs.declared.refusal.Refusal.{Refusal}
use Rattle.sr_top.specs.Tasks.{Origin, Named, Sampled, sample_name}
use Rattle.sr_top.specs.declared.report.Ending.{Ending}
use Rattle.sr_top.specs.declared.report.Ending.TheVariants.{NoFile, NoMemory, Refused}

-- the first 1,048,577 bytes, or all, of the file of a name
abbrev pub first_bytes : List (List ℕ × List ℕ) → List ℕ → Option (List ℕ)
first_bytes held name = option_map (take 1048577) (bytes_of held name)

-- a file was read by its name, which is text: where the files tell, these are its first bytes
pub record IsRead (told : Option (List (List ℕ × List ℕ))) (file : List ℕ × List ℕ) : Type 0 where
  pub text : IsUtf8 file.0
  pub bytes : IfSome told (λ held. first_bytes held file.0 ≡ Some file.1)

-- the files of these names were read, in order
pub record AreRead (told : Option (List (List ℕ × List ℕ))) (names : List (List ℕ)) (files : List (List ℕ × List ℕ)) : Type 0 where
  pub named : map (λ file. file.0) files ≡ names
  pub each : AllByRecursion (IsRead told) files

-- the length and the name of a file
abbrev pub size_of : List ℕ × List ℕ → ℕ × List ℕ
size_of file = (length file.1, file.0)

abbrev pub sizes_of : List (List ℕ × List ℕ) → List (ℕ × List ℕ)
sizes_of files = map size_of files

-- one more file was read
pub record ReadsOne (told : Option (List (List ℕ × List ℕ))) (name : List ℕ) (old new : List (List ℕ × List ℕ)) : Type 0 where
  pub bytes : List ℕ
  pub is : IsRead told (name, bytes)
  pub added : new ≡ old ++ (name, bytes) ∷ []

-- a file can't be read, and those before it were read
pub record IsUnread (told : Option (List (List ℕ × List ℕ))) (names : List (List ℕ)) (file : ℕ) : Type 0 where
  pub within : file < length names
  pub before : List (List ℕ × List ℕ)
  pub read : AreRead told (take file names) before

-- the reads of files at one time: how many there were, the number of the last that failed, or 0, and how many failed
pub record Reads : Type 0 where
  pub reads : ℕ
  pub failed : ℕ
  pub faults : ℕ

abbrev pub reads_by : Readings → ℕ → Reads
reads_by readings faults = record { reads = readings.reads; failed = readings.failed; faults = faults }

-- the count of reads after so many more
abbrev pub reads_after : ℕ → ℕ → ℕ
reads_after reads zero = reads
reads_after reads (suc more) = next_read (reads_after reads more)

-- the file of this place was read after those before it, and nothing since; and that read failed
pub record FailsAt (file : ℕ) (before now : Reads) : Type 0 where
  pub last : now.reads ≡ reads_after before.reads (suc file)
  pub failed : now.failed ≡ now.reads
  pub rose : Rose before.faults now.faults

-- one more file was read; a read that failed is the last that did
abbrev pub ReadsNext : {T : Type 0} → Reads → Reads → Result T PortFail → Type 0
ReadsNext before now (Ok value) = now.reads ≡ next_read before.reads
ReadsNext before now (Err fail.Failed) = (now.reads ≡ next_read before.reads) × (now.failed ≡ now.reads)
ReadsNext before now (Err fail.NoMemory) = Unit {0}

-- why no more is read: this file failed, or memory ran out
abbrev pub EndsReading : Option (List (List ℕ × List ℕ)) → List (List ℕ) → Reads → Reads → Ending → Type 0
EndsReading told names before now (NoFile file) = IsUnread told names file × FailsAt file before now
EndsReading told names before now NoMemory = now.faults ≡ before.faults
EndsReading told names before now _ = ⊥

-- ---- the program in the files

-- the one file of the sample of a seed
abbrev pub sample_files : ℕ → List (List ℕ × List ℕ)
sample_files seed = (sample_name, sample_text seed) ∷ []

-- the files of the program, with their names: those that were read, or the sample alone
abbrev pub AreFiles : Option (List (List ℕ × List ℕ)) → Origin → List (List ℕ × List ℕ) → Type 0
AreFiles told (Named names) files = AreRead told names files
AreFiles told (Sampled seed) files = files ≡ sample_files seed

-- the files of the program are accepted, and these are its core and its classes
pub record AreCompiled (told : Option (List (List ℕ × List ℕ))) (origin : Origin) (core : Core) (classes : Classes) : Type 0 where
  pub files : List (List ℕ × List ℕ)
  pub read : AreFiles told origin files
  pub written_out : IsCoreOf (contents_of files) (core, classes)

-- this is the refusal of the files of the program
pub record AreRefused (told : Option (List (List ℕ × List ℕ))) (origin : Origin) (refusal : Refusal) : Type 0 where
  pub files : List (List ℕ × List ℕ)
  pub read : AreFiles told origin files
  pub refused : IsRefused (contents_of files) refusal

-- why files have no program
abbrev pub StopsCompiling : List (List ℕ × List ℕ) → Ending → Type 0
StopsCompiling files (Refused refusal) = IsRefused (contents_of files) refusal
StopsCompiling files NoMemory = Unit {0}
StopsCompiling files _ = ⊥

-- the file of this place can't be read; a sample is in no file
abbrev pub IsUnreadIn : Option (List (List ℕ × List ℕ)) → Origin → ℕ → Type 0
IsUnreadIn told (Named names) file = IsUnread told names file
IsUnreadIn told (Sampled seed) file = ⊥

-- why there is no program: its files are refused, or one of them can't be read, or memory ran out
abbrev pub EndsCompiling : Option (List (List ℕ × List ℕ)) → Origin → Reads → Reads → Ending → Type 0
EndsCompiling told origin before now (Refused refusal) = AreRefused told origin refusal × (now.faults ≡ before.faults)
EndsCompiling told origin before now (NoFile file) = IsUnreadIn told origin file × FailsAt file before now
EndsCompiling told origin before now NoMemory = now.faults ≡ before.faults
EndsCompiling told origin before now _ = ⊥
