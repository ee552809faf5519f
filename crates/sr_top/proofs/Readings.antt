-- From the reading of files to the program in them.
use Rattle.std.proofs.Common.{◌≡◌, ◌<◌, ◌+◌, ℕ, Bool, List, [], ◌∷◌, ◌++◌, add-one, get_or, length, map, take, ap, refl, subst, sym, ◌∙◌}
use Rattle.std.proofs.lemmas.List.{map-append, take_more}
use Rattle.std.specs.Prelude.{Option, Some, Result, Ok, Err, IfOk, IfErr, IfSome, OnOk}
use Rattle.std.specs.List.{AllByRecursion}
use Rattle.std.specs.Str.{IsUtf8}
use Rattle.sr_core.specs.declared.component.Core.{Core}
use Rattle.sr_core.specs.declared.owner.Classes.{Classes}
use Rattle.sr_front.specs.Cores.{IsCoreOf}
use Rattle.sr_front.specs.Reading.{contents_of}
use Rattle.sr_journal.specs.declared.header.Header.{Header}
use Rattle.sr_ports.specs.Faults.{Rose}
use Rattle.sr_ports.specs.Files.{next_read}
use Rattle.sr_top.specs.Journal.{IsPrepared}
use Rattle.sr_top.specs.Reading.{AreCompiled, AreFiles, AreRead, EndsCompiling, FailsAt, IsRead, StopsCompiling, Reads, first_bytes, reads_after, sample_files}
use Rattle.sr_top.specs.Tasks.{Named, Origin, Sampled}
use Rattle.sr_top.specs.declared.report.Ending.{Ending}
use Rattle.sr_top.specs.declared.report.Ending.TheVariants.{Done, Quiet, Stopped, Failed, Limit, Refused, NoFile, ReadFault, WriteFault, NoMemory, Usage, BadJournal, OtherFiles, Illegal}

-- ---- the program in the files

pub compiled_as : {P : Type 0} (core_of : P → Core) (classes_of : P → Classes) (told : Option (List (List ℕ × List ℕ))) (names : List (List ℕ)) (files : List (List ℕ × List ℕ))
    (result : Result P Ending) → OnOk result (AreRead told names files) → IfOk result (λ program. IsCoreOf (contents_of files) (core_of program, classes_of program))
    → IfOk result (λ program. AreCompiled told (Named names) (core_of program) (classes_of program))
compiled_as core_of classes_of told names files (Ok program) read core = record { files = files; read = read; written_out = core }
compiled_as core_of classes_of told names files (Err ending) read core = tt

pub ended_as : (told : Option (List (List ℕ × List ℕ))) (origin : Origin) (files : List (List ℕ × List ℕ)) (before now : Reads) (ending : Ending)
    → AreFiles told origin files → now.faults ≡ before.faults → StopsCompiling files ending → EndsCompiling told origin before now ending
ended_as told origin files before now (Refused refusal) read same stops = (record { files = files; read = read; refused = stops }, same)
ended_as told origin files before now NoMemory read same stops = same
ended_as told origin files before now Done read same stops = stops
ended_as told origin files before now Quiet read same stops = stops
ended_as told origin files before now (Stopped status) read same stops = stops
ended_as told origin files before now (Failed fault place) read same stops = stops
ended_as told origin files before now (Limit kind) read same stops = stops
ended_as told origin files before now (NoFile file) read same stops = absurd stops
ended_as told origin files before now ReadFault read same stops = stops
ended_as told origin files before now WriteFault read same stops = stops
ended_as told origin files before now Usage read same stops = stops
ended_as told origin files before now (BadJournal fail) read same stops = stops
ended_as told origin files before now (OtherFiles file) read same stops = stops
ended_as told origin files before now (Illegal at) read same stops = stops

pub stopped_as : {P : Type 0} (told : Option (List (List ℕ × List ℕ))) (names : List (List ℕ)) (files : List (List ℕ × List ℕ)) (before now : Reads)
    (result : Result P Ending) → AreRead told names files → now.faults ≡ before.faults → IfErr result (StopsCompiling files)
    → IfErr result (EndsCompiling told (Named names) before now)
stopped_as told names files before now (Ok program) read same stops = tt
stopped_as told names files before now (Err ending) read same stops = ended_as told (Named names) files before now ending read same stops

pub compiled_of : (told : Option (List (List ℕ × List ℕ))) (names : List (List ℕ)) (steps ticks : ℕ) (journal : Bool) (core : Core) (classes : Classes) (header : Option Header)
    → IsPrepared told names steps ticks journal core classes header → AreCompiled told (Named names) core classes
compiled_of told names steps ticks journal core classes header prepared = record { files = prepared.files; read = prepared.read; written_out = prepared.written_out }

pub sampled_of : (told : Option (List (List ℕ × List ℕ))) (seed : ℕ) (core : Core) (classes : Classes) → IsCoreOf (contents_of (sample_files seed)) (core, classes)
    → AreCompiled told (Sampled seed) core classes
sampled_of told seed core classes core_of = record { files = sample_files seed; read = refl; written_out = core_of }

-- ---- one file

pub reads-more : (reads more now : ℕ) (last : ℕ) → last ≡ reads_after reads more → now ≡ next_read last → now ≡ reads_after reads (more + 1)
reads-more reads more now last before is = is ∙ ap next_read before ∙ ap (reads_after reads) (sym (add-one more))

-- a read failed after those before it
pub failed_at : (file index : ℕ) (before mid now : Reads) → file ≡ index → mid.reads ≡ reads_after before.reads index → mid.faults ≡ before.faults
    → now.reads ≡ next_read mid.reads → now.failed ≡ now.reads → Rose mid.faults now.faults → FailsAt file before now
failed_at file index before mid now at reads same next failed rose = record {
  last = next ∙ ap next_read reads ∙ ap (λ n. next_read (reads_after before.reads n)) (sym at);
  failed = failed;
  rose = subst (λ faults. Rose faults now.faults) same rose;
}

pub added_as : (old new : List (List ℕ × List ℕ)) (file text name bytes : List ℕ) → new ≡ old ++ (file, text) ∷ [] → file ≡ name → text ≡ bytes
    → new ≡ old ++ (name, bytes) ∷ []
added_as old new file text name bytes pushed named is = pushed ∙ ap (λ f. old ++ (f, text) ∷ []) named ∙ ap (λ t. old ++ (name, t) ∷ []) is

-- what holds of each and of one more holds of all
pub all_pushed : {A : Type 0} (P : A → Type 0) (xs : List A) (x : A) → AllByRecursion P xs → P x → AllByRecursion P (xs ++ x ∷ [])
all_pushed P [] x all holds = (holds, tt)
all_pushed P (y ∷ xs) x all holds = (all.0, all_pushed P xs x all.1 holds)

-- the files that were read have the names so far
pub named_on : (names : List (List ℕ)) (i : ℕ) (name bytes : List ℕ) (old new : List (List ℕ × List ℕ)) → i < length names → name ≡ get_or names i name
    → map (λ file. file.0) old ≡ take i names → new ≡ old ++ (name, bytes) ∷ [] → map (λ file. file.0) new ≡ take (i + 1) names
named_on names i name bytes old new within at named added =
    ap (map (λ (file : List ℕ × List ℕ). file.0)) added ∙ map-append (λ (file : List ℕ × List ℕ). file.0) old ((name, bytes) ∷ []) ∙ ap (λ ns. ns ++ name ∷ []) named
    ∙ ap (λ n. take i names ++ n ∷ []) at ∙ sym (take_more names i name within)

-- what the files tell stays the same
pub read_of : (told told_now : Option (List (List ℕ × List ℕ))) (file : List ℕ × List ℕ) → told ≡ told_now → IsRead told file → IsRead told_now file
read_of told told_now file same read = subst (λ known. IsRead known file) same read

-- a file that was read by its path, which is text, was read by its name
pub read_as : (told : Option (List (List ℕ × List ℕ))) (path name bytes : List ℕ) → path ≡ name → IsUtf8 name → IfSome told (λ held. first_bytes held path ≡ Some bytes) → IsRead told (name, bytes)
read_as told path name bytes same text read = record { text = text; bytes = subst (λ word. IfSome told (λ held. first_bytes held word ≡ Some bytes)) same read }
