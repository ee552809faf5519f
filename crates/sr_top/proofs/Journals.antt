-- When a call has a journal, and that it is one that can be written.
use Rattle.std.proofs.Common.{◌≡◌, ◌≤◌, ◌⊎◌, ℕ, suc, Bool, true, false, List, [], ◌∷◌, length, map, Option, None, Some, inl, inr, refl, ap, sym, ◌∙◌, subst, arith}
use Rattle.std.specs.Prelude.{Result, Ok, Err, IfOk, IfErr, IfNone, IfSome, unwrap_or}
use Rattle.std.specs.List.{AllByRecursion}
use Rattle.std.specs.Option.{option_map}
use Rattle.sr_ask.specs.declared.item.Item.{Item}
use Rattle.sr_ask.specs.declared.item.Item.TheVariants.{Step, Quiesce, Tick}
use Rattle.sr_compiled.specs.declared.compiled.Compiled.{Compiled}
use Rattle.sr_core.specs.declared.component.Core.{Core}
use Rattle.sr_core.specs.declared.owner.Classes.{Classes}
use Rattle.sr_front.specs.Cores.{IsCoreOf}
use Rattle.sr_front.specs.Phases.{AllPass, none_left, one_more}
use Rattle.sr_front.specs.Reading.{HasItsSize, contents_of}
use Rattle.sr_journal.specs.Journal.{IsFile, IsInRange, IsItem, journal_text}
use Rattle.sr_journal.specs.declared.header.Header.{Header}
use Rattle.sr_run.specs.Numbers.{IsNumbered}
use Rattle.sr_run.specs.declared.end.RunEnd.{RunEnd}
use Rattle.sr_run.specs.declared.end.RunEnd.TheVariants as run_end
use Rattle.sr_top.specs.Causes.{Call, ending_of}
use Rattle.sr_top.specs.Journal.{CanBeAsked, EndsBeforeRun, EndsWithRun, HasHeaderIf, with_header, without, HasNoJournal, IsPrepared, PutsJournal, header_if, header_of}
use Rattle.sr_top.specs.Report.{GotAsFar}
use Rattle.sr_top.specs.Programs.{classes_in, core_in}
use Rattle.sr_top.specs.Reading.{AreRead, EndsCompiling, IsRead, Reads, size_of, sizes_of}
use Rattle.sr_top.specs.Tasks.{Named, Origin, Runs, keeps_journal, task}
use Rattle.sr_top.specs.declared.preparing.Prepared.{Prepared}
use Rattle.sr_top.specs.declared.report.Ending.{Ending}
use Rattle.sr_top.specs.declared.report.Ending.TheVariants.{Done, Quiet, Stopped, Failed, Limit, Refused, NoFile, ReadFault, WriteFault, NoMemory, Usage, BadJournal, OtherFiles, Illegal}
use Rattle.sr_top.specs.declared.report.Side.{Side}
use Rattle.sr_top.specs.declared.report.Side.TheVariants as sides
use Rattle.sr_world.specs.declared.ends.End.TheVariants as end

-- ---- before the run

module _ (told : Option (List (List ℕ × List ℕ))) (names : List (List ℕ)) (steps ticks : ℕ) (journal : Bool) where
  pub prepared_as : (program : Compiled) (texts files : List (List ℕ × List ℕ)) (result : Result Prepared Ending) → files ≡ texts → AreRead told names texts
      → IsCoreOf (contents_of texts) (core_in program, classes_in program) → IfOk result (λ prepared. prepared.program ≡ program)
      → IfOk result (λ prepared. prepared.header ≡ header_if files steps ticks journal)
      → IfOk result (λ prepared. IsPrepared told names steps ticks journal (core_in prepared.program) (classes_in prepared.program) prepared.header)
  prepared_as program texts files (Ok prepared) same read core is header = record {
    files = texts;
    read = read;
    written_out = subst (λ p. IsCoreOf (contents_of texts) (core_in p, classes_in p)) (sym is) core;
    is = header ∙ ap (λ fs. header_if fs steps ticks journal) same;
  }
  prepared_as program texts files (Err ending) same read core is header = tt

pub unprepared_as : (told : Option (List (List ℕ × List ℕ))) (origin : Origin) (before now : Reads) (result : Result Prepared Ending) → now.faults ≡ before.faults
    → IfErr result (λ ending. ending ≡ NoMemory) → IfErr result (EndsCompiling told origin before now)
unprepared_as told origin before now (Ok prepared) same is = tt
unprepared_as told origin before now (Err ending) same is = subst (EndsCompiling told origin before now) (sym is) same

-- ---- whether there is a journal

pub ran_to : (given : RunEnd) → EndsWithRun (ending_of given)
ran_to (run_end.Ended end.Quiet) = tt
ran_to (run_end.Ended (end.Stopped status)) = tt
ran_to (run_end.Ended (end.Failed fault place)) = tt
ran_to (run_end.Limit kind) = tt
ran_to run_end.ReadFault = tt
ran_to run_end.WriteFault = tt
ran_to run_end.NoMemory = tt

pub came_before : (told : Option (List (List ℕ × List ℕ))) (origin : Origin) (before now : Reads) (ending : Ending) → EndsCompiling told origin before now ending → EndsBeforeRun ending
came_before told origin before now (Refused refusal) ends = tt
came_before told origin before now (NoFile file) ends = tt
came_before told origin before now NoMemory ends = tt
came_before told origin before now Done ends = absurd ends
came_before told origin before now Quiet ends = absurd ends
came_before told origin before now (Stopped status) ends = absurd ends
came_before told origin before now (Failed fault place) ends = absurd ends
came_before told origin before now (Limit kind) ends = absurd ends
came_before told origin before now ReadFault ends = absurd ends
came_before told origin before now WriteFault ends = absurd ends
came_before told origin before now Usage ends = absurd ends
came_before told origin before now (BadJournal fail) ends = absurd ends
came_before told origin before now (OtherFiles file) ends = absurd ends
came_before told origin before now (Illegal at) ends = absurd ends

module _ (call : Call) (ending : Ending) (names : List (List ℕ)) (workers steps ticks : ℕ) (core : Core) (classes : Classes) where
  pub headed : (journal : Bool) (header : Option Header) → task call.words ≡ Some (Runs (Named names) workers steps ticks journal)
      → IsPrepared call.files names steps ticks journal core classes header → EndsWithRun ending → HasHeaderIf call ending header
  headed true header asked prepared ran = subst (HasHeaderIf call ending) (sym prepared.is) (with_header (record {
    names = names;
    workers = workers;
    asked = asked;
    files = prepared.files;
    read = prepared.read;
    core = core;
    classes = classes;
    accepted = prepared.written_out;
    is = refl;
    ran = ran;
  }))
  headed false header asked prepared ran = subst (HasHeaderIf call ending) (sym prepared.is) (without (inl (ap (λ t. unwrap_or (option_map keeps_journal t) false) asked)))

-- ---- what can be written

small : (number : ℕ) (contents mades : List (List ℕ)) → AllPass HasItsSize number contents mades → AllByRecursion (λ bytes. length bytes ≤ 1048576) contents
small number [] [] none_left = tt
small number [] (made ∷ mades) passes = elim passes [ ]
small number (bytes ∷ contents) [] passes = elim passes [ ]
small number (bytes ∷ contents) (made ∷ mades) (one_more passes others) = (passes.small, small (suc number) contents mades others)

each_file : (told : Option (List (List ℕ × List ℕ))) (files : List (List ℕ × List ℕ)) → AllByRecursion (IsRead told) files
    → AllByRecursion (λ bytes. length bytes ≤ 1048576) (contents_of files) → AllByRecursion IsFile (sizes_of files)
each_file told [] read are = tt
each_file told (file ∷ files) read are = ((are.0, read.0.text), each_file told files read.1 are.1)

item : (made : Item) → IsNumbered made → IsItem made
item (Step actor name) is = is
item (Quiesce name) is = is
item (Tick to) is = is

each_item : (items : List Item) → AllByRecursion IsNumbered items → AllByRecursion IsItem items
each_item [] are = tt
each_item (made ∷ items) are = (item made are.0, each_item items are.1)

length_map : {A B : Type 0} (f : A → B) (xs : List A) → length (map f xs) ≡ length xs
length_map f [] = refl
length_map f (x ∷ xs) = ap suc (length_map f xs)

module _ (told : Option (List (List ℕ × List ℕ))) (names : List (List ℕ)) (steps ticks : ℕ) (core : Core) (classes : Classes) (items : List Item)
    (can : CanBeAsked names steps ticks) (within : length items ≤ steps) (numbered : AllByRecursion IsNumbered items) where
  as_many : (files : List (List ℕ × List ℕ)) → AreRead told names files → length (sizes_of files) ≡ length names
  as_many files read = length_map size_of files ∙ sym (length_map (λ file. file.0) files) ∙ ap length read.named

  header_in_range : (files : List (List ℕ × List ℕ)) → AreRead told names files → IsCoreOf (contents_of files) (core, classes) → IsInRange (header_of files steps ticks) items
  header_in_range files read core_of =
      let many = as_many files read in
      let some_file = can.some_file in
      let few_files = can.few_files in
      record {
        some_file = omega (arith, many, some_file);
        few_files = omega (arith, many, few_files);
        each_file = each_file told files read.each (small 0 (contents_of files) (contents_of files) core_of.is_accepted.read.sizes);
        some_steps = can.some_steps;
        few_steps = can.few_steps;
        some_ticks = can.some_ticks;
        few_ticks = can.few_ticks;
        few_items = within;
        each_item = each_item items numbered;
      }

  pub in_range : (journal : Bool) (header : Option Header) → IsPrepared told names steps ticks journal core classes header → IfSome header (λ h. IsInRange h items)
  in_range true header prepared = subst (λ o. IfSome o (λ h. IsInRange h items)) (sym prepared.is) (header_in_range prepared.files prepared.read prepared.written_out)
  in_range false header prepared = subst (λ o. IfSome o (λ h. IsInRange h items)) (sym prepared.is) tt

-- ---- what is put

-- the journal that the header says, or none
pub journal_of : (call : Call) (ending : Ending) (side : Side) (header : Option Header) (before now : Option (List ℕ)) (faults faults_now : ℕ) (Untouched : Type 0)
    → HasHeaderIf call ending header → IfSome header (λ h. GotAsFar side (journal_text h call.items) before now faults faults_now) → IfNone header (side ≡ sides.Whole)
    → IfNone header Untouched → PutsJournal call ending side before now faults faults_now ⊎ (HasNoJournal call ending side × Untouched)
journal_of call ending side (Some header) before now faults faults_now Untouched (with_header has) put whole untouched = inl (record { header = header; has = has; got = put })
journal_of call ending side None before now faults faults_now Untouched (without none) put whole untouched = inr (record { none = none; whole = whole }, untouched)
