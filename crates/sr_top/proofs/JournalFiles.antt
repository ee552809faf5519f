-- The journal that is replayed, and the files of its program.
use Rattle.std.proofs.Common.{◌≡◌, ◌+◌, ◌<◌, ◌≤◌, ℕ, List, length, min, arith, subst}
use Rattle.std.proofs.Math.Nat.{min-eq_left}
use Rattle.std.specs.Prelude.{◌^◌, ◌-◌, take, Some, Result, Ok, Err, IfOk, IfErr, IfSome}
use Rattle.std.specs.Option.{option_map}
use Rattle.std.specs.Str.{IsUtf8}
use Rattle.sr_compiled.specs.declared.compiled.Compiled.{Compiled}
use Rattle.sr_front.specs.Cores.{IsCoreOf}
use Rattle.sr_front.specs.Reading.{contents_of}
use Rattle.sr_journal.specs.Causes.{IsJournal}
use Rattle.sr_journal.specs.declared.header.Header.{Header}
use Rattle.sr_ports.specs.Faults.{Rose}
use Rattle.sr_ports.specs.Files.{bytes_of, next_read}
use Rattle.sr_top.specs.Programs.{classes_in, core_in}
use Rattle.sr_top.specs.Reading.{AreRead, EndsReading, FailsAt, Reads, StopsCompiling, sizes_of}
use Rattle.sr_top.specs.Replaying.{AreBytesOf}
use Rattle.sr_top.specs.Stages.{AreProgram, EndsBytes, EndsFiles, EndsJournal, EndsProgram, IsJournalOf, IsProgramOf, Told, after_journal}
use Rattle.sr_top.specs.declared.recorded.Journal.{Journal}
use Rattle.sr_top.specs.declared.report.Ending.{Ending}
use Rattle.sr_top.specs.declared.report.Ending.TheVariants.{Done, Quiet, Stopped, Failed, Limit, Refused, NoFile, ReadFault, WriteFault, NoMemory, Usage, BadJournal, OtherFiles, Illegal}

-- ---- the journal

-- the first read failed
pub first_failed : (before now : Reads) → now.reads ≡ next_read before.reads → now.failed ≡ now.reads → Rose before.faults now.faults → FailsAt 0 before now
first_failed before now reads failed rose = record { last = reads; failed = failed; rose = rose }

-- a journal that was read by its path, which is text, was read by its name
pub bytes_as : (told : Told) (path name bytes : List ℕ) → path ≡ name → IsUtf8 name → IfSome told (λ held. option_map (take 536870912) (bytes_of held path) ≡ Some bytes) → AreBytesOf told name bytes
bytes_as told path name bytes same text read =
    record { text = text; read = subst (λ word. IfSome told (λ held. option_map (take 536870912) (bytes_of held word) ≡ Some bytes)) same read }

pub journal_as : (told : Told) (name bytes : List ℕ) (result : Result Journal Ending) → AreBytesOf told name bytes
    → IfOk result (λ journal. IsJournal journal.header journal.items bytes) → IfOk result (IsJournalOf told name)
journal_as told name bytes (Ok journal) read is = record { bytes = bytes; read = read; is = is }
journal_as told name bytes (Err ending) read is = tt

no_journal : (told : Told) (name bytes : List ℕ) (before now : Reads) → AreBytesOf told name bytes → now.faults ≡ before.faults
    → (ending : Ending) → EndsBytes bytes ending → EndsJournal told name before now ending
no_journal told name bytes before now read same Done ends = absurd ends
no_journal told name bytes before now read same Quiet ends = absurd ends
no_journal told name bytes before now read same (Stopped status) ends = absurd ends
no_journal told name bytes before now read same (Failed fault place) ends = absurd ends
no_journal told name bytes before now read same (Limit kind) ends = absurd ends
no_journal told name bytes before now read same (Refused refusal) ends = absurd ends
no_journal told name bytes before now read same (NoFile file) ends = absurd ends
no_journal told name bytes before now read same ReadFault ends = absurd ends
no_journal told name bytes before now read same WriteFault ends = absurd ends
no_journal told name bytes before now read same NoMemory ends = same
no_journal told name bytes before now read same Usage ends = absurd ends
no_journal told name bytes before now read same (BadJournal fail) ends = (record { bytes = bytes; read = read; cause = ends }, same)
no_journal told name bytes before now read same (OtherFiles file) ends = absurd ends
no_journal told name bytes before now read same (Illegal at) ends = absurd ends

pub no_journal_as : (told : Told) (name bytes : List ℕ) (before now : Reads) (result : Result Journal Ending) → AreBytesOf told name bytes → now.faults ≡ before.faults
    → IfErr result (EndsBytes bytes) → IfErr result (EndsJournal told name before now)
no_journal_as told name bytes before now (Ok journal) read same ends = tt
no_journal_as told name bytes before now (Err ending) read same ends = no_journal told name bytes before now read same ending ends

-- ---- the files

pub program_as : (told : Told) (names : List (List ℕ)) (header : Header) (files : List (List ℕ × List ℕ)) (result : Result Compiled Ending) → AreRead told names files
    → IfOk result (λ program. IsProgramOf header files (core_in program) (classes_in program))
    → IfOk result (λ program. AreProgram told names header (core_in program) (classes_in program))
program_as told names header files (Ok program) read is = record { files = files; read = read; is = is }
program_as told names header files (Err ending) read is = tt

no_program : (told : Told) (names : List (List ℕ)) (header : Header) (files : List (List ℕ × List ℕ)) (before now : Reads) → AreRead told names files → now.faults ≡ before.faults
    → (ending : Ending) → EndsFiles header files ending → EndsProgram told names header before now ending
no_program told names header files before now read same Done ends = absurd ends
no_program told names header files before now read same Quiet ends = absurd ends
no_program told names header files before now read same (Stopped status) ends = absurd ends
no_program told names header files before now read same (Failed fault place) ends = absurd ends
no_program told names header files before now read same (Limit kind) ends = absurd ends
no_program told names header files before now read same (Refused refusal) ends = (record { files = files; read = read; same = ends.0; refused = ends.1 }, same)
no_program told names header files before now read same (NoFile file) ends = absurd ends
no_program told names header files before now read same ReadFault ends = absurd ends
no_program told names header files before now read same WriteFault ends = absurd ends
no_program told names header files before now read same NoMemory ends = same
no_program told names header files before now read same Usage ends = absurd ends
no_program told names header files before now read same (BadJournal fail) ends = absurd ends
no_program told names header files before now read same (OtherFiles file) ends = (record { files = files; read = read; other = ends }, same)
no_program told names header files before now read same (Illegal at) ends = absurd ends

pub no_program_as : (told : Told) (names : List (List ℕ)) (header : Header) (files : List (List ℕ × List ℕ)) (before now : Reads) (result : Result Compiled Ending)
    → AreRead told names files → now.faults ≡ before.faults → IfErr result (EndsFiles header files) → IfErr result (EndsProgram told names header before now)
no_program_as told names header files before now (Ok program) read same ends = tt
no_program_as told names header files before now (Err ending) read same ends = no_program told names header files before now read same ending ends

one_later : (file count : ℕ) → file < count → count ≤ 64 → min (file + 1) (2 ^ 32 - 1) ≡ file + 1
one_later file count within few = let less : file + 1 ≤ 2 ^ 32 - 1 = omega arith in min-eq_left less

-- the reading of files ended after that of the journal
pub unread_after : (told : Told) (names : List (List ℕ)) (header : Header) (before now : Reads) → length names ≤ 64
    → (ending : Ending) → EndsReading told names before now ending → EndsProgram told names header before now (after_journal ending)
unread_after told names header before now few Done ends = absurd ends
unread_after told names header before now few Quiet ends = absurd ends
unread_after told names header before now few (Stopped status) ends = absurd ends
unread_after told names header before now few (Failed fault place) ends = absurd ends
unread_after told names header before now few (Limit kind) ends = absurd ends
unread_after told names header before now few (Refused refusal) ends = absurd ends
unread_after told names header before now few (NoFile file) ends = record { file = file; place = one_later file (length names) ends.0.within few; unread = ends.0; failed = ends.1 }
unread_after told names header before now few ReadFault ends = absurd ends
unread_after told names header before now few WriteFault ends = absurd ends
unread_after told names header before now few NoMemory ends = ends
unread_after told names header before now few Usage ends = absurd ends
unread_after told names header before now few (BadJournal fail) ends = absurd ends
unread_after told names header before now few (OtherFiles file) ends = absurd ends
unread_after told names header before now few (Illegal at) ends = absurd ends

-- the files that a journal tells
pub told_as : (header : Header) (files : List (List ℕ × List ℕ)) (result : Result Compiled Ending) → sizes_of files ≡ header.files
    → IfOk result (λ program. IsCoreOf (contents_of files) (core_in program, classes_in program))
    → IfOk result (λ program. IsProgramOf header files (core_in program) (classes_in program))
told_as header files (Ok program) same core = record { same = same; accepted = core }
told_as header files (Err ending) same core = tt

refused_as : (header : Header) (files : List (List ℕ × List ℕ)) → sizes_of files ≡ header.files → (ending : Ending) → StopsCompiling files ending → EndsFiles header files ending
refused_as header files same Done ends = absurd ends
refused_as header files same Quiet ends = absurd ends
refused_as header files same (Stopped status) ends = absurd ends
refused_as header files same (Failed fault place) ends = absurd ends
refused_as header files same (Limit kind) ends = absurd ends
refused_as header files same (Refused refusal) ends = (same, ends)
refused_as header files same (NoFile file) ends = absurd ends
refused_as header files same ReadFault ends = absurd ends
refused_as header files same WriteFault ends = absurd ends
refused_as header files same NoMemory ends = tt
refused_as header files same Usage ends = absurd ends
refused_as header files same (BadJournal fail) ends = absurd ends
refused_as header files same (OtherFiles file) ends = absurd ends
refused_as header files same (Illegal at) ends = absurd ends

pub not_told_as : (header : Header) (files : List (List ℕ × List ℕ)) (result : Result Compiled Ending) → sizes_of files ≡ header.files → IfErr result (StopsCompiling files)
    → IfErr result (EndsFiles header files)
not_told_as header files (Ok program) same ends = tt
not_told_as header files (Err ending) same ends = refused_as header files same ending ends
