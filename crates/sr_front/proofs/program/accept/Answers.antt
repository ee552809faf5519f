-- What a phase refuses, the program is refused for; trees are as many as the files.
use Rattle.std.proofs.Common.{◌≡◌, ℕ, arith, List, Result, Ok, Err, IfOk, IfErr, ap, sym, ◌∙◌, subst}
use Rattle.std.proofs.lemmas.List.{length-map}
use Rattle.std.proofs.lemmas.Result.{err_from_is_err_and}
use Rattle.sr_text.specs.declared.refusal.FrontFail.{FrontFail}
use Rattle.sr_text.specs.declared.refusal.FrontFail.TheVariants.{Refused, NoMemory}
use Rattle.sr_tree.specs.declared.component.File.{File}
use Rattle.sr_scope.specs.Resolved.{Answers, resolved}
use Rattle.sr_scope.specs.declared.program.Names.{Names}
use Rattle.sr_check.specs.Checked.{verdict}
use Rattle.sr_front.specs.declared.program.Checked.{Checked}
use Rattle.sr_front.specs.Program.{IsAccepted, IsRefused, IsChecked, in_reading, in_names, in_types}
use Rattle.sr_front.specs.Reading.{AreRead, AreRefused, IsRefusal, contents_of}
use Rattle.sr_front.proofs.Lists.FileByFile.{as_many}
use Rattle.sr_front.proofs.program.accept.Goals as goal

refused_in_reading : (contents : List (List ℕ)) (fail : FrontFail) → IsRefusal (AreRefused contents) fail → IsRefusal (IsRefused contents) fail
refused_in_reading contents (Refused refusal) refused = in_reading refused
refused_in_reading contents NoMemory refused = refused

refused_in_names : (contents : List (List ℕ)) (trees : List File) (fail : FrontFail) → AreRead contents trees → Answers (Err fail) (resolved trees)
    → IsRefusal (IsRefused contents) fail
refused_in_names contents trees (Refused refusal) read refused = in_names read refused
refused_in_names contents trees NoMemory read refused = refused

-- trees that pass with these names are those of the program
accepted_with : (contents : List (List ℕ)) (trees : List File) (names : Names) (accepted : Checked) → AreRead contents trees → resolved trees ≡ Ok names
    → accepted.trees ≡ trees → verdict names.uses names.specs trees ≡ Ok accepted.facts → IsAccepted contents accepted
accepted_with contents trees names accepted read named same met = record {
  read = subst (AreRead contents) (sym same) read;
  names = names;
  named = ap resolved same ∙ named;
  checked = ap (verdict names.uses names.specs) same ∙ met;
}

accepted_by : (contents : List (List ℕ)) (trees : List File) (names : Names) (result : Result Checked FrontFail) → AreRead contents trees
    → resolved trees ≡ Ok names → IsChecked trees (verdict names.uses names.specs trees) result → IfOk result (IsAccepted contents)
accepted_by contents trees names (Ok accepted) read named checked_trees = accepted_with contents trees names accepted read named checked_trees.0 checked_trees.1
accepted_by contents trees names (Err fail) read named checked_trees = tt

refused_in_types : (contents : List (List ℕ)) (trees : List File) (names : Names) (fail : FrontFail) → AreRead contents trees → resolved trees ≡ Ok names
    → IsChecked trees (verdict names.uses names.specs trees) (Err fail) → IsRefusal (IsRefused contents) fail
refused_in_types contents trees names (Refused refusal) read named checked_trees = in_types {names = names} read named checked_trees
refused_in_types contents trees names NoMemory read named checked_trees = tt

refused_by : (contents : List (List ℕ)) (trees : List File) (names : Names) (result : Result Checked FrontFail) → AreRead contents trees
    → resolved trees ≡ Ok names → IsChecked trees (verdict names.uses names.specs trees) result → IfErr result (IsRefusal (IsRefused contents))
refused_by contents trees names (Ok accepted) read named checked_trees = tt
refused_by contents trees names (Err fail) read named checked_trees = refused_in_types contents trees names fail read named checked_trees

pub returns-in_err-trees-clause-refused : goal.returns-in_err-trees-clause-refused
returns-in_err-trees-clause-refused c =
    let answer = err_from_is_err_and c.from_residual.result c.from_residual.ensures.1 in
    subst (λ result. IfErr result (IsRefusal (IsRefused (contents_of c.args.files.now)))) (sym answer.1)
    (subst (λ fail. IsRefusal (IsRefused (contents_of c.args.files.now)) fail) (sym answer.2)
    (refused_in_reading (contents_of c.args.files.now) c.in_err-trees.field-0.0 c.in_err-trees.ensures.refused))

pub resolve-requires : goal.resolve-requires
resolve-requires c =
    let read = c.in_ok-trees.ensures.trees in
    let trees = as_many read.parsed ∙ as_many read.lexed in
    omega (arith, trees, length-map c.args.files.now (λ file. file.1), c.requires.few)

pub returns-in-Err-clause-refused : goal.returns-in-Err-clause-refused
returns-in-Err-clause-refused c =
    refused_in_names (contents_of c.args.files.now) c.in_ok-trees.trees c.in-Err.fail c.in_ok-trees.ensures.trees c.in-Err.ensures

pub returns-in-Ok-clause-accepted : goal.returns-in-Ok-clause-accepted
returns-in-Ok-clause-accepted c =
    accepted_by (contents_of c.args.files.now) c.in_ok-trees.trees c.in-Ok.names _ c.in_ok-trees.ensures.trees c.in-Ok.ensures c.checked_trees.ensures

pub returns-in-Ok-clause-refused : goal.returns-in-Ok-clause-refused
returns-in-Ok-clause-refused c =
    refused_by (contents_of c.args.files.now) c.in_ok-trees.trees c.in-Ok.names _ c.in_ok-trees.ensures.trees c.in-Ok.ensures c.checked_trees.ensures
