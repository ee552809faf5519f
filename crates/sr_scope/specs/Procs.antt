-- What is found in procs, procedures, processes and final code.
use Rattle.std.specs.Prelude.{List, [], ◌++◌, map}
use Rattle.sr_names.specs.declared.meaning.Sort.TheVariants.{Constant, Variable, Operation}
use Rattle.sr_names.specs.Scopes.{opened}
use Rattle.sr_tree.specs.declared.component.FinalCode.{FinalCode}
use Rattle.sr_tree.specs.declared.component.Proc.{Proc}
use Rattle.sr_tree.specs.declared.component.Procedure.{Procedure}
use Rattle.sr_tree.specs.declared.component.Process.{Process}
use Rattle.sr_tree.specs.declared.component.ProcItem.{ProcItem}
use Rattle.sr_tree.specs.declared.component.ProcItem.TheVariants.{Const, Var, Op, Sem, Statement}
use Rattle.sr_tree.specs.declared.declaration.Semaphore.{Semaphore}
use Rattle.sr_tree.specs.declared.name.Name.{Name}
use Rattle.sr_tree.specs.declared.statement.Quantifier.{Quantifier}
use Rattle.sr_scope.specs.Declarations.{with_inner, const_found, var_found, var_names, semaphores_found, op_items_found, quantifiers_found}
use Rattle.sr_scope.specs.Declares.{name_declared, name_twice, names_declared, names_twice, op_name}
use Rattle.sr_scope.specs.Exprs.{Finds}
use Rattle.sr_scope.specs.Names.{name_found}
use Rattle.sr_scope.specs.Statements.{Steps, steps_found, statement_found, arm_scope, arm_twice}
use Rattle.sr_scope.specs.Types.{signature_read, signed_found, signed_declared, signed_twice}

abbrev pub semaphore_names : List Semaphore → List Name
semaphore_names semaphores = map (λ semaphore. semaphore.name) semaphores

-- a name in the block of a proc is visible after its declaration
abbrev pub proc_item_read : ProcItem → Steps
proc_item_read (Const constant) place blocks = record {
  found = const_found constant place blocks ++ name_twice Constant constant.name blocks.inner;
  inner = name_declared Constant constant.name blocks.inner;
}
proc_item_read (Var variables) place blocks = record {
  found = var_found variables place blocks ++ names_twice Variable (var_names variables) blocks.inner;
  inner = names_declared Variable (var_names variables) blocks.inner;
}
proc_item_read (Op operations) place blocks = record {
  found = op_items_found operations.items place blocks ++ names_twice Operation (map op_name operations.items) blocks.inner;
  inner = names_declared Operation (map op_name operations.items) blocks.inner;
}
proc_item_read (Sem declared) place blocks = record {
  found = semaphores_found declared.semaphores place blocks ++ names_twice Operation (semaphore_names declared.semaphores) blocks.inner;
  inner = names_declared Operation (semaphore_names declared.semaphores) blocks.inner;
}
proc_item_read (Statement statement) place blocks = record { found = statement_found statement place blocks; inner = blocks.inner }

abbrev pub proc_items_found : List ProcItem → Finds
proc_items_found items place blocks = steps_found (map proc_item_read items) place blocks

-- a proc names its operation, and its formals, what it returns and its block are one scope
abbrev pub proc_found : Proc → Finds
proc_found proc place blocks =
    name_found place blocks proc.name
    ++ (arm_twice proc.formals proc.returned ++ proc_items_found proc.block place (arm_scope proc.formals proc.returned blocks))

-- a procedure is an operation with its proc
abbrev pub procedure_found : Procedure → Finds
procedure_found procedure place blocks =
    signed_found (signature_read procedure.signature) place blocks
    ++ (signed_twice (signature_read procedure.signature) []
    ++ proc_items_found procedure.block place (with_inner (opened blocks) (signed_declared (signature_read procedure.signature) [])))

abbrev pub quantifier_names : List Quantifier → List Name
quantifier_names quantifiers = map (λ quantifier. quantifier.name) quantifiers

-- a process gives the values of its quantifiers to formals of their names
abbrev pub process_found : Process → Finds
process_found process place blocks =
    quantifiers_found process.quantifiers place (opened blocks)
    ++ (names_twice Variable (quantifier_names process.quantifiers) []
    ++ proc_items_found process.block place (with_inner (opened blocks) (names_declared Variable (quantifier_names process.quantifiers) [])))

abbrev pub final_found : FinalCode → Finds
final_found final place blocks = proc_items_found final.block place (opened blocks)
