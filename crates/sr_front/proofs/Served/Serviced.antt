-- What statements that wait service, and the calls among statements.
use Rattle.std.specs.Prelude.{◌≡◌, Bool, true, not, ◌&&◌, List, [], ◌∷◌, ◌++◌, Option, Some, flat_map}
use Rattle.std.specs.List.{list_all}
use Rattle.sr_check.specs.Servicing.{call_waits}
use Rattle.sr_check_expr.specs.declared.facts.Facts.{Facts}
use Rattle.sr_core.specs.declared.component.Core.{Core}
use Rattle.sr_core.specs.declared.component.Operation.{Operation}
use Rattle.sr_core.specs.declared.site.Arm.{Arm as CoreArm}
use Rattle.sr_core.specs.EffectFree.{is_effect_free}
use Rattle.sr_core.specs.Serving.{names_formals, one_owner}
use Rattle.sr_core.specs.Tests.{if_some, is_there, same_there, with_operation}
use Rattle.sr_names.specs.declared.meaning.Decl.{Decl}
use Rattle.sr_outline.specs.Numbers.{is_wait, wait_operation}
use Rattle.sr_tables.specs.Lists.{lists, maybe_lists}
use Rattle.sr_tree.specs.declared.component.Component.{Component}
use Rattle.sr_tree.specs.declared.component.Item.{Item}
use Rattle.sr_tree.specs.declared.component.Item.TheVariants as item
use Rattle.sr_tree.specs.declared.component.ProcItem.{ProcItem}
use Rattle.sr_tree.specs.declared.component.ProcItem.TheVariants as inner
use Rattle.sr_tree.specs.declared.expr.Invocation.{Invocation}
use Rattle.sr_tree.specs.declared.statement.Arm.{Arm, fold-Arm}
use Rattle.sr_tree.specs.declared.statement.BlockItem.{BlockItem, fold-BlockItem}
use Rattle.sr_tree.specs.declared.statement.BlockItem.TheOpen.{BlockItem-F, Statement-F, Arm-F, Branch-F, CoArm-F}
use Rattle.sr_tree.specs.declared.statement.Branch.{Branch, fold-Branch}
use Rattle.sr_tree.specs.declared.statement.CoArm.{CoArm, fold-CoArm}
use Rattle.sr_tree.specs.declared.statement.Statement.{Statement, fold-Statement}
use Rattle.sr_tree.specs.Parts.{body_of}
use Rattle.sr_value.specs.declared.place.Span.{Span}

-- ---- sites of a core, but for their guards

-- an arm services an operation that has no proc, and names its formals
abbrev pub arm_serves : Core → Operation → CoreArm → Bool
arm_serves core first arm =
    with_operation core arm.op (λ operation. (not (is_there operation.proc) && one_owner first operation)
    && (names_formals arm.formals operation.parameters && same_there arm.returned operation.returns))

-- all operations of an `in` have one owner
abbrev pub arms_serve : Core → List CoreArm → Bool
arms_serve core [] = true
arms_serve core (arm ∷ arms) = with_operation core arm.op (λ first. list_all (arm_serves core first) (arm ∷ arms))

-- so is every site
abbrev pub sites_serve : Core → Bool
sites_serve core = list_all (λ site. arms_serve core site.arms) core.sites

-- the guard and the order of an arm don't wait
abbrev pub arm_effect_free : CoreArm → Bool
arm_effect_free arm = if_some is_effect_free arm.guard && if_some is_effect_free arm.by

abbrev pub sites_effect_free : Core → Bool
sites_effect_free core = list_all (λ site. list_all arm_effect_free site.arms) core.sites

-- ---- the invocations among statements

abbrev pub Called : Type 0
Called = Span × Invocation

abbrev pub item_step : BlockItem-F (List Called) (List Called) (List Called) (List Called) (List Called) → List Called
item_step (BlockItem-F.Statement statement) = statement
item_step _ = []

abbrev pub statement_step : Statement-F (List Called) (List Called) (List Called) (List Called) (List Called) → List Called
statement_step (Statement-F.Call span with_call invocation) = (span, invocation) ∷ []
statement_step (Statement-F.If span branches otherwise) = lists branches ++ maybe_lists otherwise
statement_step (Statement-F.Do span branches otherwise) = lists branches ++ maybe_lists otherwise
statement_step (Statement-F.ForAll span quantifiers block) = lists block
statement_step (Statement-F.In span arms otherwise) = lists arms ++ maybe_lists otherwise
statement_step (Statement-F.Co span arms) = lists arms
statement_step _ = []

abbrev pub arm_step : Arm-F (List Called) (List Called) (List Called) (List Called) (List Called) → List Called
arm_step arm = lists arm.block

abbrev pub branch_step : Branch-F (List Called) (List Called) (List Called) (List Called) (List Called) → List Called
branch_step branch = lists branch.block

abbrev pub co_arm_step : CoArm-F (List Called) (List Called) (List Called) (List Called) (List Called) → List Called
co_arm_step arm = maybe_lists arm.block

abbrev pub statement_calls : Statement → List Called
statement_calls = fold-Statement (List Called) (List Called) (List Called) (List Called) (List Called) item_step statement_step arm_step branch_step co_arm_step

abbrev pub block_item_calls : BlockItem → List Called
block_item_calls = fold-BlockItem (List Called) (List Called) (List Called) (List Called) (List Called) item_step statement_step arm_step branch_step co_arm_step

abbrev pub arm_calls : Arm → List Called
arm_calls = fold-Arm (List Called) (List Called) (List Called) (List Called) (List Called) item_step statement_step arm_step branch_step co_arm_step

abbrev pub branch_calls : Branch → List Called
branch_calls = fold-Branch (List Called) (List Called) (List Called) (List Called) (List Called) item_step statement_step arm_step branch_step co_arm_step

abbrev pub co_arm_calls : CoArm → List Called
co_arm_calls = fold-CoArm (List Called) (List Called) (List Called) (List Called) (List Called) item_step statement_step arm_step branch_step co_arm_step

abbrev pub inner_calls : ProcItem → List Called
inner_calls (inner.Statement statement) = statement_calls statement
inner_calls _ = []

abbrev pub block_calls : List ProcItem → List Called
block_calls block = flat_map inner_calls block

abbrev pub item_calls : Item → List Called
item_calls (item.Spec declared) = []
item_calls (item.Proc proc) = block_calls proc.block
item_calls (item.Procedure procedure) = block_calls procedure.block
item_calls (item.Process process) = block_calls process.block
item_calls (item.Final final) = block_calls final.block
item_calls (item.Statement statement) = statement_calls statement

-- the invocations that stand as statements in a component
abbrev pub component_calls : Component → List Called
component_calls component = flat_map item_calls (body_of component)

-- ---- `P`

-- `P` waits for the operation that its argument means
pub record WaitsFor (facts : Facts) (called : Called) : Type 0 where
  pub meant : Option Decl
  pub waits : call_waits facts.uses called.1 ≡ (meant ∷ []) ∷ []
  pub operation : (decl : Decl) → meant ≡ Some decl → wait_operation facts called.0 called.1 ≡ decl.spot

-- an invocation that waits by the facts of a program waits by what its names mean
abbrev pub IsClear : Facts → Called → Type 0
IsClear facts called = is_wait facts called.1 ≡ true → WaitsFor facts called
