-- What procs, processes and initial and final code are in the core.
use Rattle.std.specs.Prelude.{List, [], ◌∷◌, ◌++◌, Option, Some, None, option_to_list, map, flat_map, length}
use Rattle.sr_core.specs.declared.component.Body.{Body}
use Rattle.sr_core.specs.declared.component.Proc.{Proc}
use Rattle.sr_core.specs.declared.expression.Argument.{Argument}
use Rattle.sr_core.specs.declared.expression.Argument.TheVariants.{Val}
use Rattle.sr_core.specs.declared.expression.Expr.TheVariants.{Load}
use Rattle.sr_core.specs.declared.site.Site.{Site}
use Rattle.sr_core.specs.declared.statement.Action.{Action}
use Rattle.sr_core.specs.declared.statement.Action.TheVariants.{Send}
use Rattle.sr_core.specs.declared.statement.Scope.TheVariants.{Own, Shared}
use Rattle.sr_core.specs.declared.statement.Statement.{Statement}
use Rattle.sr_core.specs.declared.statement.Statement.TheVariants.{Fa}
use Rattle.sr_names.specs.declared.spot.Spot.{Spot}
use Rattle.sr_tree.specs.declared.component.FinalCode.{FinalCode}
use Rattle.sr_tree.specs.declared.component.Item.{Item}
use Rattle.sr_tree.specs.declared.component.Item.TheVariants as item
use Rattle.sr_tree.specs.declared.component.Proc.{Proc as ProcTree}
use Rattle.sr_tree.specs.declared.component.Procedure.{Procedure}
use Rattle.sr_tree.specs.declared.component.Process.{Process}
use Rattle.sr_tree.specs.declared.component.ProcItem.{ProcItem}
use Rattle.sr_tree.specs.declared.component.ProcItem.TheVariants as inner
use Rattle.sr_tree.specs.declared.component.SpecItem.{SpecItem}
use Rattle.sr_tree.specs.declared.component.SpecItem.TheVariants as spec
use Rattle.sr_tree.specs.declared.statement.Quantifier.{Quantifier}
use Rattle.sr_tree.specs.declared.types.Signature.{out-Signature}
use Rattle.sr_value.specs.declared.place.Span.{Span}
use Rattle.sr_desugar.specs.declared.bodies.Codes.{Codes}
use Rattle.sr_desugar.specs.declared.bodies.Gathered.{Gathered}
use Rattle.sr_lower_expr.specs.declared.scene.Scene.{Scene}
use Rattle.sr_desugar.specs.Declarations.{var_core, const_core}
use Rattle.sr_check_expr.specs.Meanings.{meant_by}
use Rattle.sr_outline.specs.Numbers.{formal_names, returned_names, signature_returned, quantifier_names, own_spots}
use Rattle.sr_tables.specs.Parts.{line_of, spot_named}
use Rattle.sr_lower_expr.specs.Places.{own_place, own_formals, own_returned, operation_expr, operation_number}
use Rattle.sr_desugar.specs.Statements.{WithSites, Block, alone, block_made, act, quantifiers_core, semaphores_core, core_statement}

-- ---- blocks of procs and final code

abbrev pub statement_item : WithSites Statement → WithSites Block
statement_item statement = record { made = statement.made ∷ []; sites = statement.sites }

-- what a proc declares is the process's own
abbrev pub inner_made : Scene → ProcItem → WithSites Block
inner_made scene (inner.Const constant) = alone (const_core scene Own constant)
inner_made scene (inner.Var variables) = alone (var_core scene Own variables)
inner_made scene (inner.Op operations) = alone []
inner_made scene (inner.Sem semaphores) = alone (semaphores_core scene semaphores.span semaphores.semaphores)
inner_made scene (inner.Statement statement) = statement_item (core_statement scene statement)

abbrev pub in_body : Scene → List Spot → Scene
in_body scene own = record scene { own = own }

-- the code of a process, which has these own variables
abbrev pub body_made : Scene → List ProcItem → WithSites Body
body_made scene block = record {
  made = record { owns = length scene.own; block = (block_made (map (inner_made scene) block)).made };
  sites = (block_made (map (inner_made scene) block)).sites;
}

-- ---- procs

-- a proc serves an operation, with names for its formals and for what it returns
abbrev pub served : Scene → Span → Spot → List Spot → List Spot → List ProcItem → WithSites Proc
served scene span operation formals returned block = record {
  made = record {
    place = line_of span;
    op = operation_number scene operation;
    formals = own_formals scene formals operation;
    returned = own_returned scene returned operation;
    body = (body_made scene block).made;
  };
  sites = (body_made scene block).sites;
}

abbrev pub service : Scene → Span → Spot → List Spot → List Spot → List ProcItem → WithSites Proc
service scene span operation formals returned block =
    served (in_body scene (own_spots scene.facts formals returned block)) span operation formals returned block

abbrev pub proc_made : Scene → ProcTree → WithSites Proc
proc_made scene proc = service scene proc.span (meant_by scene.facts proc.name) (map spot_named proc.formals) (returned_names proc.returned) proc.block

-- the proc of `procedure f` has the names of its signature
abbrev pub procedure_made : Scene → Procedure → WithSites Proc
procedure_made scene procedure =
    service scene procedure.span (spot_named procedure.name)
    (formal_names (out-Signature procedure.signature).formals) (signature_returned procedure.signature) procedure.block

-- in the body of a process the names of its quantifiers are formals
abbrev pub process_made : Scene → Process → WithSites Proc
process_made scene process = service scene process.span (spot_named process.name) (quantifier_names process.quantifiers) [] process.block

abbrev pub final_made : Scene → FinalCode → WithSites Body
final_made scene final = body_made (in_body scene (own_spots scene.facts [] [] final.block)) final.block

-- ---- initial code

abbrev pub quantifier_argument : Scene → Quantifier → Argument
quantifier_argument scene quantifier = Val (Load (own_place scene (spot_named quantifier.name)))

abbrev pub process_send : Scene → Process → Action
process_send scene process = Send (operation_expr scene (spot_named process.name)) (map (quantifier_argument scene) process.quantifiers)

-- `process p` sends to its operation where it stands, and with quantifiers once for each of their values
abbrev pub process_sends : Scene → Process → Statement
process_sends scene process = by process.quantifiers
  where
    by : List Quantifier → Statement
    by [] = act process.span (process_send scene process)
    by (quantifier ∷ more) = Fa (line_of process.span) (quantifiers_core scene (quantifier ∷ more)) (act process.span (process_send scene process) ∷ [])

-- what a component declares is shared
abbrev pub spec_item_core : Scene → SpecItem → Block
spec_item_core scene (spec.Const constant) = const_core scene Shared constant
spec_item_core scene (spec.Var variables) = var_core scene Shared variables
spec_item_core scene (spec.Sem semaphores) = semaphores_core scene semaphores.span semaphores.semaphores
spec_item_core scene _ = []

-- What an item of a component is: what it is of the initial code, its proc, or the final code.
pub record Output : Type 0 where
  pub code : Block
  pub procs : List Proc
  pub finals : List Body
  pub sites : List Site

abbrev pub of_code : WithSites Block → Output
of_code block = record { code = block.made; procs = []; finals = []; sites = block.sites }

abbrev pub of_proc : Block → WithSites Proc → Output
of_proc code proc = record { code = code; procs = proc.made ∷ []; finals = []; sites = proc.sites }

abbrev pub of_final : WithSites Body → Output
of_final final = record { code = []; procs = []; finals = final.made ∷ []; sites = final.sites }

abbrev pub item_output : Scene → Item → Output
item_output scene (item.Spec declared) = of_code (alone (spec_item_core scene declared))
item_output scene (item.Proc proc) = of_proc [] (proc_made scene proc)
item_output scene (item.Procedure procedure) = of_proc [] (procedure_made scene procedure)
item_output scene (item.Process process) = of_proc (process_sends scene process ∷ []) (process_made scene process)
item_output scene (item.Final final) = of_final (final_made scene final)
item_output scene (item.Statement statement) = of_code (statement_item (core_statement scene statement))

abbrev pub item_outputs : Scene → List Item → List Output
item_outputs scene items = map (item_output scene) items

abbrev pub all_code : List Output → Block
all_code outputs = flat_map (λ output. output.code) outputs

abbrev pub all_procs : List Output → List Proc
all_procs outputs = flat_map (λ output. output.procs) outputs

abbrev pub all_finals : List Output → List Body
all_finals outputs = flat_map (λ output. output.finals) outputs

abbrev pub output_sites : List Output → List Site
output_sites outputs = flat_map (λ output. output.sites) outputs

-- ---- what is gathered of all components

abbrev pub with_proc : Gathered → WithSites Proc → Gathered
with_proc gathered proc = record { procs = gathered.procs ++ proc.made ∷ []; sites = gathered.sites ++ proc.sites }

abbrev pub with_outputs : Gathered → List Output → Gathered
with_outputs gathered outputs = record { procs = gathered.procs ++ all_procs outputs; sites = gathered.sites ++ output_sites outputs }

-- a resource has one final code, or none
abbrev pub first_final : List Body → Option Body
first_final [] = None
first_final (final ∷ finals) = Some final

-- with these items after what there is
abbrev pub with_codes : Codes → List Output → Codes
with_codes codes outputs = record {
  initial = codes.initial ++ all_code outputs;
  last = first_final (option_to_list codes.last ++ all_finals outputs);
}
