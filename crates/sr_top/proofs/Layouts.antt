-- From the stages of the laying out of a file to why the call ends.
use Rattle.std.proofs.Common.{◌≡◌, ℕ, List, [], Some, inl, inr}
use Rattle.std.specs.Prelude.{Option, Result, Ok, Err, IfErr, IfOk}
use Rattle.sr_layout.specs.LaidOut.{IsLaidOut}
use Rattle.sr_top.specs.Causes.{Call, HasCause, HasNoItems, RunsNothing}
use Rattle.sr_top.specs.LayingOut.{AsksLayout, EndsFile, EndsSource, HasLayout, IsTextOfFile, ReadsSource}
use Rattle.sr_top.specs.Reading.{IsRead, Reads}
use Rattle.sr_top.specs.Tasks.{LaysOut, task}
use Rattle.sr_top.specs.declared.report.Ending.{Ending}
use Rattle.sr_top.specs.declared.report.Ending.TheVariants.{Done, Quiet, Stopped, Failed, Limit, Refused, NoFile, ReadFault, WriteFault, NoMemory, Usage, BadJournal, OtherFiles, Illegal}

module _ (told : Option (List (List ℕ × List ℕ))) (name bytes : List ℕ) (read : IsRead told (name, bytes)) where
  pub file_text_as : (result : Result (List ℕ) Ending) → IfOk result (IsLaidOut bytes) → IfOk result (IsTextOfFile told name)
  file_text_as (Ok text) is = record { bytes = bytes; read = read; is = is }
  file_text_as (Err ending) is = tt

  no_file_text : (before now : Reads) → now.faults ≡ before.faults → (ending : Ending) → EndsSource bytes ending → EndsFile told name before now ending
  no_file_text before now same Done ends = absurd ends
  no_file_text before now same Quiet ends = absurd ends
  no_file_text before now same (Stopped status) ends = absurd ends
  no_file_text before now same (Failed fault place) ends = absurd ends
  no_file_text before now same (Limit kind) ends = absurd ends
  no_file_text before now same (Refused refusal) ends = (record { bytes = bytes; read = read; refused = ends }, same)
  no_file_text before now same (NoFile file) ends = absurd ends
  no_file_text before now same ReadFault ends = absurd ends
  no_file_text before now same WriteFault ends = absurd ends
  no_file_text before now same NoMemory ends = same
  no_file_text before now same Usage ends = absurd ends
  no_file_text before now same (BadJournal fail) ends = absurd ends
  no_file_text before now same (OtherFiles file) ends = absurd ends
  no_file_text before now same (Illegal at) ends = absurd ends

  pub no_file_text_as : (before now : Reads) (result : Result (List ℕ) Ending) → now.faults ≡ before.faults → IfErr result (EndsSource bytes) → IfErr result (EndsFile told name before now)
  no_file_text_as before now (Ok text) same ends = tt
  no_file_text_as before now (Err ending) same ends = no_file_text before now same ending ends

module _ (call : Call) (name : List ℕ) (asked : task call.words ≡ Some (LaysOut name)) where
  abbrev asks : AsksLayout call
  asks = record { name = name; asked = asked }

  abbrev source_of : (bytes : List ℕ) → IsRead call.files (name, bytes) → call.reads_now.faults ≡ call.reads.faults → ReadsSource call
  source_of bytes read no_fault = record { asks = asks; bytes = bytes; read = read; no_fault = no_fault }

  -- a file that isn't laid out
  pub layout_ended : RunsNothing call → (ending : Ending) → EndsFile call.files name call.reads call.reads_now ending → HasCause call ending
  layout_ended nothing Done ends = absurd ends
  layout_ended nothing Quiet ends = absurd ends
  layout_ended nothing (Stopped status) ends = absurd ends
  layout_ended nothing (Failed fault place) ends = absurd ends
  layout_ended nothing (Limit kind) ends = absurd ends
  layout_ended nothing (Refused refusal) ends = inr (inr (record { source = source_of ends.0.bytes ends.0.read ends.1; refused = ends.0.refused; nothing = nothing }))
  layout_ended nothing (NoFile file) ends = inr (inr (record { asks = asks; first = ends.0; failed = ends.1; nothing = nothing }))
  layout_ended nothing ReadFault ends = absurd ends
  layout_ended nothing WriteFault ends = absurd ends
  layout_ended nothing NoMemory ends = inl (record { no_fault = ends; nothing = nothing })
  layout_ended nothing Usage ends = absurd ends
  layout_ended nothing (BadJournal fail) ends = absurd ends
  layout_ended nothing (OtherFiles file) ends = absurd ends
  layout_ended nothing (Illegal at) ends = absurd ends

  -- a file that is
  pub layout_shown : HasNoItems call → call.now.left ≡ call.before.left → call.now.read_faults ≡ call.before.read_faults → call.reads_now.faults ≡ call.reads.faults
      → (lines : List ℕ) → IsTextOfFile call.files name lines → HasLayout call lines
  layout_shown no_items left no_read_fault no_fault lines text =
      record { source = source_of text.bytes text.read no_fault; is = text.is; no_items = no_items; left = left; no_read_fault = no_read_fault }
