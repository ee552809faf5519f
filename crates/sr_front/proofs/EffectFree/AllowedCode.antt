-- Where no rule is broken nothing in the initial code, the final code and the procs of a component stands where it has
-- nothing to leave or to answer.
use Rattle.std.proofs.Common.{◌≡◌, refl, ℕ, ◌+◌, true, false, List, [], ◌∷◌, ◌++◌, Option, Some, None, map}
use Rattle.std.proofs.lemmas.Bool.{and_parts}
use Rattle.std.specs.Prelude.{IsTrue}
use Rattle.std.specs.List.{list_all}
use Rattle.sr_core.specs.declared.component.Body.{Body}
use Rattle.sr_core.specs.declared.statement.Scope.TheVariants.{Own, Shared}
use Rattle.sr_core.specs.declared.statement.Statement.TheOpen.{Statement-F as Core-F}
use Rattle.sr_core.specs.declared.statement.Statement.TheVariants as core
use Rattle.sr_core.specs.Leaving.{Enclosing, all_allowed_in, block_allowed, body_allowed, codes_allowed, within_loop}
use Rattle.sr_core.specs.Tests.{if_some}
use Rattle.sr_check.specs.Checked.{checked, first_refused}
use Rattle.sr_check.specs.Components.{beginning, block_read, component_read, components_read, files_read, head_found, item_read, items_procs, items_read, proc_item_read, proc_rules}
use Rattle.sr_check.specs.Contexts.{Context, with_facts}
use Rattle.sr_check.specs.declared.serving.Serving.TheVariants.{SetsUp, Ends}
use Rattle.sr_check.specs.Procs.{Procs}
use Rattle.sr_check.specs.Quantifying.{quantifiers_found}
use Rattle.sr_check.specs.Services.{operation_named}
use Rattle.sr_check_decl.specs.Declaring.{standing}
use Rattle.sr_check_decl.specs.Parts.{component_decl}
use Rattle.sr_check_decl.specs.Cycles.{type_cycles_found, leads_left}
use Rattle.sr_check_decl.specs.Inferring.{program_inferred, program_known}
use Rattle.sr_check_decl.specs.Waiting.{files_waiting}
use Rattle.sr_check_decl.specs.TypeTrees.{signature_read}
use Rattle.sr_check_expr.specs.declared.facts.Facts.{Facts}
use Rattle.sr_names.specs.Noted.{Meanings}
use Rattle.sr_names.specs.Specs.{Specs}
use Rattle.sr_tree.specs.declared.component.Component.{Component}
use Rattle.sr_tree.specs.declared.component.File.{File}
use Rattle.sr_tree.specs.declared.component.Item.{Item}
use Rattle.sr_tree.specs.declared.component.Item.TheVariants as item
use Rattle.sr_tree.specs.declared.component.Process.{Process}
use Rattle.sr_tree.specs.declared.component.ProcItem.{ProcItem}
use Rattle.sr_tree.specs.declared.component.ProcItem.TheVariants as inner
use Rattle.sr_tree.specs.declared.component.SpecItem.{SpecItem}
use Rattle.sr_tree.specs.declared.component.SpecItem.TheVariants as spec
use Rattle.sr_tree.specs.declared.declaration.Semaphore.{Semaphore}
use Rattle.sr_tree.specs.declared.expr.Expr.{Expr}
use Rattle.sr_tree.specs.declared.statement.Quantifier.{Quantifier}
use Rattle.sr_tree.specs.Parts.{body_of, spec_of}
use Rattle.sr_value.specs.declared.place.Place.{Place}
use Rattle.sr_value.specs.declared.place.Span.{Span}
use Rattle.sr_tables.specs.declared.tables.Tables.{Tables}
use Rattle.sr_tables.specs.Lists.{maybe}
use Rattle.sr_tables.specs.Parts.{components_in, line_of, spot_named}
use Rattle.sr_tree.specs.declared.types.Signature.{out-Signature}
use Rattle.sr_outline.specs.Numbers.{formal_names, own_spots, quantifier_names, returned_names, signature_returned}
use Rattle.sr_outline.specs.Outline.{imports_of, tables_of}
use Rattle.sr_lower_expr.specs.declared.scene.Scene.{Scene}
use Rattle.sr_desugar.specs.Bodies.{Output, all_code, all_finals, all_procs, first_final, in_body, inner_made, item_output, item_outputs, process_sends, spec_item_core}
use Rattle.sr_desugar.specs.Core.{LoweredComponent, all_components, core_of, procs_in, scene_of, spec_code, whole_in, whole_of, wholes_from}
use Rattle.sr_desugar.specs.Statements.{block_made, semaphore_sends, semaphores_core, value_sends}
use Rattle.sr_desugar.proofs.Waits.{all_appended, both}
use Rattle.sr_front.proofs.EffectFree.Allowed.{act_allowed, allowed, enclosing_of, block_appended, const_allowed, rolled, sends_allowed, statement_is_allowed, var_allowed}
use Rattle.sr_check.specs.ErrorFree.{ErrorFree}
use Rattle.sr_check.proofs.Kept.{none_found}
use Rattle.sr_check.proofs.ErrorFree.{error_free_both, error_free_first, error_free_second}

-- ---- blocks

semaphore_allowed : (scene : Scene) (enclosing : Enclosing) (place : Place) (semaphore : Semaphore) → IsTrue (block_allowed (semaphore_sends scene place semaphore) enclosing)
semaphore_allowed scene enclosing place semaphore = by semaphore.value
  where
    by : (value : Option Expr) → IsTrue (block_allowed (maybe (value_sends scene place (spot_named semaphore.name)) value) enclosing)
    by None = refl
    by (Some value) = both _ true (sends_allowed enclosing place _ _) refl

semaphores_allowed : (scene : Scene) (enclosing : Enclosing) (span : Span) (semaphores : List Semaphore) → IsTrue (block_allowed (semaphores_core scene span semaphores) enclosing)
semaphores_allowed scene enclosing span [] = refl
semaphores_allowed scene enclosing span (semaphore ∷ semaphores) =
    block_appended enclosing (semaphore_sends scene (line_of span) semaphore) (semaphores_core scene span semaphores)
    (semaphore_allowed scene enclosing (line_of span) semaphore) (semaphores_allowed scene enclosing span semaphores)

inner_good : (scene : Scene) (context : Context) (item : ProcItem) → ErrorFree (proc_item_read item context).found → IsTrue (block_allowed (inner_made scene item).made (enclosing_of context))
inner_good scene context (inner.Const constant) whole = const_allowed (enclosing_of context) scene Own constant
inner_good scene context (inner.Var variables) whole = var_allowed (enclosing_of context) scene Own variables
inner_good scene context (inner.Op operations) whole = refl
inner_good scene context (inner.Sem semaphores) whole = semaphores_allowed scene (enclosing_of context) semaphores.span semaphores.semaphores
inner_good scene context (inner.Statement statement) whole = both _ true (statement_is_allowed statement scene context whole) refl

block_good : (scene : Scene) (context : Context) (items : List ProcItem) → ErrorFree (block_read items context).found
    → IsTrue (block_allowed (block_made (map (inner_made scene) items)).made (enclosing_of context))
block_good scene context [] whole = refl
block_good scene context (item ∷ items) whole =
    block_appended (enclosing_of context) (inner_made scene item).made (block_made (map (inner_made scene) items)).made
    (inner_good scene context item (error_free_first (proc_item_read item context).found _ whole))
    (block_good scene (with_facts context (proc_item_read item context).facts) items (error_free_second (proc_item_read item context).found _ whole))

-- ---- items of components

-- what is around initial code
abbrev setting_up : Enclosing
setting_up = record { in_loop = false; may_reply = true; may_forward = false }

spec_allowed : (scene : Scene) (declared : SpecItem) → IsTrue (block_allowed (spec_item_core scene declared) setting_up)
spec_allowed scene (spec.Const constant) = const_allowed setting_up scene Shared constant
spec_allowed scene (spec.Var variables) = var_allowed setting_up scene Shared variables
spec_allowed scene (spec.Sem semaphores) = semaphores_allowed scene setting_up semaphores.span semaphores.semaphores
spec_allowed scene _ = refl

specs_allowed : (scene : Scene) (items : List SpecItem) → IsTrue (block_allowed (spec_code scene items) setting_up)
specs_allowed scene [] = refl
specs_allowed scene (item ∷ items) =
    block_appended setting_up (spec_item_core scene item) (spec_code scene items) (spec_allowed scene item) (specs_allowed scene items)

process_allowed : (scene : Scene) (process : Process) → IsTrue (allowed (process_sends scene process) setting_up)
process_allowed scene process = by process.quantifiers
  where
    by : (quantifiers : List Quantifier) → IsTrue (allowed (process_sends scene (record process { quantifiers = quantifiers })) setting_up)
    by [] = act_allowed setting_up _ _ refl
    by (quantifier ∷ more) =
        rolled setting_up _ (Core-F.Fa _ _ _) (core.rolls-Fa _ _ _) (both _ true (act_allowed (within_loop setting_up) _ _ refl) refl)

-- what an item of a component is in the core stands where it may
pub record OutputGood (output : Output) : Type 0 where
  pub code : IsTrue (block_allowed output.code setting_up)
  pub procs : IsTrue (list_all (λ proc. body_allowed true true proc.body) output.procs)
  pub finals : IsTrue (list_all (body_allowed false false) output.finals)

item_good : (scene : Scene) (procs : Procs) (facts : Facts) (one : Item) → ErrorFree (item_read procs one facts).found → OutputGood (item_output scene one)
item_good scene procs facts (item.Spec declared) whole = record { code = spec_allowed scene declared; procs = refl; finals = refl }
item_good scene procs facts (item.Proc proc) whole = record {
  code = refl;
  procs = both _ true (block_good (in_body scene (own_spots scene.facts (map spot_named proc.formals) (returned_names proc.returned) proc.block)) _ proc.block (error_free_second (proc_rules facts proc (operation_named facts proc.name)) _ whole)) refl;
  finals = refl;
}
item_good scene procs facts (item.Procedure procedure) whole = record {
  code = refl;
  procs = both _ true (block_good (in_body scene (own_spots scene.facts (formal_names (out-Signature procedure.signature).formals) (signature_returned procedure.signature) procedure.block)) _ procedure.block (error_free_second (signature_read procedure.signature facts).found _ whole)) refl;
  finals = refl;
}
item_good scene procs facts (item.Process process) whole = record {
  code = both _ true (process_allowed scene process) refl;
  procs = both _ true (block_good (in_body scene (own_spots scene.facts (quantifier_names process.quantifiers) [] process.block)) _ process.block (error_free_second (quantifiers_found facts process.quantifiers) _ whole)) refl;
  finals = refl;
}
item_good scene procs facts (item.Final final) whole = record { code = refl; procs = refl; finals = both _ true (block_good (in_body scene (own_spots scene.facts [] [] final.block)) (beginning procs Ends facts) final.block whole) refl }
item_good scene procs facts (item.Statement statement) whole = record {
  code = both _ true (statement_is_allowed statement scene (beginning procs SetsUp facts) whole) refl;
  procs = refl;
  finals = refl;
}

items_good : (scene : Scene) (procs : Procs) (facts : Facts) (items : List Item) → ErrorFree (items_read procs items facts).found
    → OutputGood (record {
      code = all_code (item_outputs scene items);
      procs = all_procs (item_outputs scene items);
      finals = all_finals (item_outputs scene items);
      sites = [];
    })
items_good scene procs facts [] whole = record { code = refl; procs = refl; finals = refl }
items_good scene procs facts (one ∷ items) whole =
    let first = item_good scene procs facts one (error_free_first (item_read procs one facts).found _ whole) in
    let rest = items_good scene procs (item_read procs one facts).facts items (error_free_second (item_read procs one facts).found _ whole) in
    record {
      code = block_appended setting_up (item_output scene one).code (all_code (item_outputs scene items)) first.code rest.code;
      procs = all_appended (λ proc. body_allowed true true proc.body) (item_output scene one).procs (all_procs (item_outputs scene items)) first.procs rest.procs;
      finals = all_appended (body_allowed false false) (item_output scene one).finals (all_finals (item_outputs scene items)) first.finals rest.finals;
    }

-- ---- components

final_good : (finals : List Body) → IsTrue (list_all (body_allowed false false) finals) → IsTrue (if_some (body_allowed false false) (first_final finals))
final_good [] all = refl
final_good (final ∷ finals) all = (and_parts (body_allowed false false final) (list_all (body_allowed false false) finals) all).0

-- what is in a component in the core
pub record WholeGood (whole : LoweredComponent) : Type 0 where
  pub codes : IsTrue (codes_allowed whole.component)
  pub procs : IsTrue (list_all (λ proc. body_allowed true true proc.body) whole.procs)

component_good : (scene : Scene) (imports : List (List ℕ)) (component : Component) (facts : Facts) → ErrorFree (component_read component facts).found
    → WholeGood (whole_in scene imports component)
component_good scene imports component facts whole =
    let there = standing facts (component_decl component) in
    let items = items_good scene (items_procs there (body_of component) []) there (body_of component) (error_free_second (head_found component there) _ whole) in
    record {
      codes =
          both (body_allowed true false (whole_in scene imports component).component.initial) _
          (block_appended setting_up (spec_code scene (spec_of component)) (all_code (item_outputs scene (body_of component))) (specs_allowed scene (spec_of component)) items.code)
          (final_good (all_finals (item_outputs scene (body_of component))) items.finals);
      procs = items.procs;
    }

-- components of which all are so
pub record WholesGood (wholes : List LoweredComponent) : Type 0 where
  pub codes : IsTrue (list_all codes_allowed (all_components wholes))
  pub procs : IsTrue (list_all (λ proc. body_allowed true true proc.body) (procs_in wholes))

components_good : (known : Facts) (tables : Tables) (imports : List (List ℕ)) (number : ℕ) (components : List Component) (facts : Facts)
    → ErrorFree (components_read components facts).found → WholesGood (wholes_from known tables imports number components)
components_good known tables imports number [] facts whole = record { codes = refl; procs = refl }
components_good known tables imports number (component ∷ more) facts whole =
    let made = whole_of known tables imports (number, component) in
    let first = component_good (scene_of known tables imports number component) imports component facts (error_free_first (component_read component facts).found _ whole) in
    let rest = components_good known tables imports (number + 1) more (component_read component facts).facts (error_free_second (component_read component facts).found _ whole) in
    record {
      codes = both (codes_allowed made.component) _ first.codes rest.codes;
      procs = all_appended (λ proc. body_allowed true true proc.body) made.procs (procs_in (wholes_from known tables imports (number + 1) more)) first.procs rest.procs;
    }

-- ---- files

components_appended : (xs ys : List Component) (facts : Facts) → ErrorFree (components_read xs facts).found → ErrorFree (components_read ys (components_read xs facts).facts).found
    → ErrorFree (components_read (xs ++ ys) facts).found
components_appended [] ys facts first second = second
components_appended (x ∷ xs) ys facts first second =
    error_free_both (component_read x facts).found _ (error_free_first (component_read x facts).found _ first)
    (components_appended xs ys (component_read x facts).facts (error_free_second (component_read x facts).found _ first) second)

-- the components of files one after another
pub files_error_free : (files : List File) (facts : Facts) → ErrorFree (files_read files facts).found → ErrorFree (components_read (components_in files) facts).found
files_error_free [] facts whole = tt
files_error_free (file ∷ files) facts whole =
    components_appended file.components (components_in files) facts
    (error_free_first (components_read file.components facts).found _ whole)
    (files_error_free files (components_read file.components facts).facts (error_free_second (components_read file.components facts).found _ whole))

pub core_allowed : (uses : Meanings) (specs : Specs) (files : List File) (facts : Facts) → ErrorFree (checked uses specs files).found → IsTrue (all_allowed_in (core_of files facts))
core_allowed uses specs files facts whole =
    let components = components_in files in
    let tables = tables_of facts components in
    let good =
    components_good facts tables (map (imports_of facts tables.components) components) 0 components (program_known uses specs files)
    (files_error_free files (program_known uses specs files) (error_free_second (type_cycles_found (leads_left (program_inferred uses specs files) (files_waiting files))) _ whole)) in
    both _ _ good.codes good.procs

-- where no rule of kinds is broken nothing is misplaced
pub accepted_allowed : (uses : Meanings) (specs : Specs) (files : List File) (facts : Facts) → first_refused uses specs files ≡ None → IsTrue (all_allowed_in (core_of files facts))
accepted_allowed uses specs files facts none = core_allowed uses specs files facts (none_found uses specs files none)
