-- What a call of the program says at its end: the diagnostic line and the status.
use Rattle.std.specs.Prelude.{◌≡◌, ℕ, ◌≤◌, List, [], ◌∷◌, ◌++◌, length, take, codes, zero, suc, Option, None, Some, slice_index_or}
use Rattle.std.specs.Fmt.{decimal}
use Rattle.std.specs.Io.KnownBytes.{append_known}
use Rattle.sr_ports.specs.Faults.{Rose}
use Rattle.sr_value.specs.declared.place.Place.{Place}
use Rattle.sr_value.specs.declared.fault.Fault.{Fault}
use Rattle.sr_value.specs.declared.fault.Fault.TheVariants.{Overflow, ZeroDivisor, Index, Shape, StringLength, Range, NullCap, Gone, BadStatus, TooLarge, Early}
use Rattle.sr_text.specs.Labels.{kind_label}
use Rattle.sr_journal.specs.declared.fail.JournalFail.{JournalFail}
use Rattle.sr_journal.specs.declared.fail.JournalFail.TheVariants as fails
use Rattle.sr_top.specs.declared.report.Ending.{Ending}
use Rattle.sr_top.specs.declared.report.Ending.TheVariants.{Done, Quiet, Stopped, Failed, Limit, Refused, NoFile, ReadFault, WriteFault, NoMemory, Usage, BadJournal, OtherFiles, Illegal}
use Rattle.sr_top.specs.declared.report.LimitKind.{LimitKind}
use Rattle.sr_top.specs.declared.report.LimitKind.TheVariants.{Steps, Ticks, Input, Items, Races}
use Rattle.sr_top.specs.declared.report.Side.{Side}
use Rattle.sr_top.specs.declared.report.Side.TheVariants as sides

abbrev pub fault_label : Fault → List ℕ
fault_label Overflow = codes "E1 Overflow"
fault_label ZeroDivisor = codes "E2 ZeroDivisor"
fault_label Index = codes "E3 Index"
fault_label Shape = codes "E4 Shape"
fault_label StringLength = codes "E5 StringLength"
fault_label Range = codes "E6 Range"
fault_label NullCap = codes "E7 NullCap"
fault_label Gone = codes "E8 Gone"
fault_label BadStatus = codes "E9 BadStatus"
fault_label TooLarge = codes "E10 TooLarge"
fault_label Early = codes "E11 Early"

abbrev pub limit_label : LimitKind → List ℕ
limit_label Steps = codes "steps"
limit_label (Ticks process) = codes "ticks"
limit_label Input = codes "input"
limit_label Items = codes "items"
limit_label Races = codes "races"

-- the number and the name of what a journal isn't
abbrev pub journal_label : JournalFail → List ℕ
journal_label fails.NotJournal = codes "J1 NotJournal"
journal_label fails.Truncated = codes "J2 Truncated"
journal_label fails.Version = codes "J3 Version"
journal_label fails.NoMemory = codes "no memory"

abbrev pub file_name : List (List ℕ) → ℕ → List ℕ
file_name names file = slice_index_or names file []

-- `sr: FILE:LINE: LABEL`
abbrev pub placed_line : List (List ℕ) → Place → List ℕ → List ℕ
placed_line names place label =
    codes "sr: " ++ file_name names place.file ++ codes ":" ++ decimal place.line ++ codes ": " ++ label ++ 10 ∷ []

-- the text for words that are no command
abbrev pub usage_text : List ℕ
usage_text =
    codes "usage: sr run FILE... [--workers N] [--steps N] [--ticks N] [--journal]" ++ 10 ∷
    codes "       sr check FILE..." ++ 10 ∷
    codes "       sr classes FILE..." ++ 10 ∷
    codes "       sr gen SEED [--workers N]" ++ 10 ∷
    codes "       sr replay JOURNAL FILE... [--upto N] [--where]" ++ 10 ∷
    codes "       sr races JOURNAL FILE..." ++ 10 ∷
    codes "       sr trace JOURNAL FILE... [--upto N] [--picture]" ++ 10 ∷
    codes "       sr fmt FILE" ++ 10 ∷ []

-- the name of what was read of this place: a journal that is replayed comes before the files
abbrev pub read_name : Option (List ℕ) → List (List ℕ) → ℕ → List ℕ
read_name None names file = file_name names file
read_name (Some journal) names zero = journal
read_name (Some journal) names (suc file) = file_name names file

-- the diagnostic text of an ending, for the name of the journal that is replayed, where one is, and the names of the files
abbrev pub diag_text : Option (List ℕ) → List (List ℕ) → Ending → List ℕ
diag_text journal names Done = []
diag_text journal names Quiet = []
diag_text journal names (Stopped status) = []
diag_text journal names (Failed fault place) = placed_line names place (fault_label fault)
diag_text journal names (Limit kind) = codes "sr: limit: " ++ limit_label kind ++ 10 ∷ []
diag_text journal names (Refused refusal) = placed_line names refusal.place (kind_label refusal.kind)
diag_text journal names (NoFile file) = codes "sr: cannot read " ++ read_name journal names file ++ 10 ∷ []
diag_text journal names ReadFault = codes "sr: input failed" ++ 10 ∷ []
diag_text journal names WriteFault = codes "sr: output failed" ++ 10 ∷ []
diag_text journal names NoMemory = codes "sr: no memory" ++ 10 ∷ []
diag_text journal names Usage = usage_text
diag_text journal names (BadJournal fail) = codes "sr: journal: " ++ journal_label fail ++ 10 ∷ []
diag_text journal names (OtherFiles file) = codes "sr: journal: other files" ++ 10 ∷ []
diag_text journal names (Illegal at) = codes "sr: journal: item " ++ decimal at ++ codes " is no step" ++ 10 ∷ []

abbrev pub ending_status : Ending → ℕ
ending_status Done = 0
ending_status Quiet = 0
ending_status (Stopped status) = status
ending_status (Failed fault place) = 101
ending_status (Limit kind) = 102
ending_status (Refused refusal) = 103
ending_status (NoFile file) = 104
ending_status ReadFault = 105
ending_status WriteFault = 106
ending_status NoMemory = 107
ending_status Usage = 108
ending_status (BadJournal fail) = 110
ending_status (OtherFiles file) = 111
ending_status (Illegal at) = 109

-- a journal that couldn't be put decides the status, whatever the ending
abbrev pub status_of : Ending → Side → ℕ
status_of ending sides.Whole = ending_status ending
status_of ending sides.Failed = 106
status_of ending sides.NoMemory = 107

-- some first bytes of a text were put
pub record PutsFirst (before now : Option (List ℕ)) (text : List ℕ) : Type 0 where
  pub count : ℕ
  pub within : count ≤ length text
  pub put : now ≡ append_known before (take count text)

-- how far a text got into a sink, and that the sink failed only where its count of faults says so
abbrev pub GotAsFar : Side → List ℕ → Option (List ℕ) → Option (List ℕ) → ℕ → ℕ → Type 0
GotAsFar sides.Whole text before now faults faults_now = (now ≡ append_known before text) × (faults_now ≡ faults)
GotAsFar sides.Failed text before now faults faults_now = PutsFirst before now text × Rose faults faults_now
GotAsFar sides.NoMemory text before now faults faults_now = PutsFirst before now text × (faults_now ≡ faults)
