-- From the command that the words give to what the call is to do.
use Rattle.std.proofs.Common.{◌≡◌, ◌∙◌, ℕ, List, [], Some, ap, sym, subst}
use Rattle.std.specs.Prelude.{Option, option_and_then, unwrap_or}
use Rattle.std.specs.Option.{option_map}
use Rattle.sr_ask.specs.declared.item.Item.{Item}
use Rattle.sr_journal.specs.declared.header.Header.{Header}
use Rattle.sr_run.specs.declared.stretch.Stretch.{Stretch}
use Rattle.sr_top.specs.Report.{diag_text}
use Rattle.sr_top.specs.Tasks.{Task, file_names, names_in, replayed_by, replayed_journal, task, task_of}
use Rattle.sr_top.specs.declared.report.Ending.{Ending}
use Rattle.sr_words.specs.Commands.{command_of}
use Rattle.sr_words.specs.declared.command.Command.{Command}

pub task_is : (words : List (List ℕ)) (command made : Command) (asked : Task) → command_of words ≡ Some command → command ≡ made → task_of made ≡ asked
    → task words ≡ Some asked
task_is words command made asked told is meant = ap (option_map task_of) (told ∙ ap Some is) ∙ ap Some meant

-- the names of the task's files, and of the journal that is replayed, are those of the words
pub named_as : (words names : List (List ℕ)) (replayed : Option (List ℕ)) (asked : Task) (ending : Ending) → task words ≡ Some asked → names ≡ names_in asked → replayed ≡ replayed_by asked
    → diag_text replayed names ending ≡ diag_text (replayed_journal words) (file_names words) ending
named_as words names replayed asked ending told files journal =
    ap (λ ns. diag_text replayed ns ending) (files ∙ sym (ap (λ t. unwrap_or (option_map names_in t) []) told))
    ∙ ap (λ j. diag_text j (file_names words) ending) (journal ∙ sym (ap (λ t. option_and_then replayed_by t) told))

-- what holds of an outcome holds of what a command came to
pub handed_on : (P : List Item → List Stretch → Ending → Option Header → Type 0) (items made : List Item) (rounds stretches : List Stretch) (ending given : Ending) (header kept : Option Header)
    → items ≡ made → rounds ≡ stretches → ending ≡ given → header ≡ kept → P made stretches given kept → P items rounds ending header
handed_on P items made rounds stretches ending given header kept same same_rounds is has known =
    subst (λ us. P us rounds ending header) (sym same)
    (subst (λ rs. P made rs ending header) (sym same_rounds) (subst (λ e. P made stretches e header) (sym is) (subst (P made stretches given) (sym has) known)))
