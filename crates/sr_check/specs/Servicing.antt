-- What the components of a program service, by its trees: the operations that their `in`, `receive`, `P` and procs name.
use Rattle.std.specs.Prelude.{◌≡◌, Bool, true, false, List, [], ◌∷◌, ◌++◌, Option, Some, None, All, Contains, flat_map, is_some, map}
use Rattle.sr_value.specs.declared.place.Span.{Span}
use Rattle.sr_names.specs.declared.meaning.Decl.{Decl}
use Rattle.sr_names.specs.declared.meaning.Meaning.{Meaning}
use Rattle.sr_names.specs.declared.meaning.Meaning.TheVariants.{Predefined as MeansPredefined}
use Rattle.sr_names.specs.declared.predefined.Predefined.TheVariants.{P}
use Rattle.sr_names.specs.declared.spot.Spot.{Spot}
use Rattle.sr_names.specs.Noted.{Meanings}
use Rattle.sr_names.specs.Spots.{spot_of}
use Rattle.sr_names.specs.Uses.{meaning_at}
use Rattle.sr_tree.specs.declared.component.Component.{Component}
use Rattle.sr_tree.specs.declared.component.File.{File}
use Rattle.sr_tree.specs.declared.component.Item.{Item}
use Rattle.sr_tree.specs.declared.component.Item.TheVariants as item
use Rattle.sr_tree.specs.declared.component.ProcItem.{ProcItem}
use Rattle.sr_tree.specs.declared.component.ProcItem.TheVariants as inner
use Rattle.sr_tree.specs.declared.expr.Create.TheOpen.{Expr-F}
use Rattle.sr_tree.specs.declared.expr.Expr.{Expr, out-Expr}
use Rattle.sr_tree.specs.declared.expr.Invocation.{Invocation, out-Invocation}
use Rattle.sr_tree.specs.declared.statement.Arm.{Arm, fold-Arm}
use Rattle.sr_tree.specs.declared.statement.BlockItem.{BlockItem, fold-BlockItem}
use Rattle.sr_tree.specs.declared.statement.BlockItem.TheOpen.{BlockItem-F, Statement-F, Arm-F, Branch-F, CoArm-F}
use Rattle.sr_tree.specs.declared.statement.Branch.{Branch, fold-Branch}
use Rattle.sr_tree.specs.declared.statement.CoArm.{CoArm, fold-CoArm}
use Rattle.sr_tree.specs.declared.statement.Statement.{Statement, fold-Statement}
use Rattle.sr_tree.specs.Parts.{body_of}
use Rattle.sr_types.specs.declared.ty.Ty.{Ty}
use Rattle.sr_check_expr.specs.declared.facts.Facts.{Facts}
use Rattle.sr_check_expr.specs.declared.info.Info.TheVariants as info
use Rattle.sr_check_expr.specs.Infos.{info_at}
use Rattle.sr_check_expr.specs.Naming.{decl_of}
use Rattle.sr_check.specs.Owners.{Declared, component_at}
use Rattle.sr_check.specs.Procs.{Procs, proc_of}

-- ---- what is named

-- the declaration that the name means that is used at a span
abbrev pub meant_at : Meanings → Span → Option Decl
meant_at uses span = decl_of (meaning_at uses (spot_of span))

abbrev pub layer_meant : {A B C D : Type 0} → Meanings → Expr-F A B C D → Option Decl
layer_meant uses (Expr-F.Name name) = meant_at uses name.span
layer_meant uses (Expr-F.Field span owner field) = meant_at uses field.span
layer_meant uses _ = None

-- the declaration that a name means, or a component's name, a point and a name
abbrev pub expr_meant : Meanings → Expr → Option Decl
expr_meant uses expr = layer_meant uses (out-Expr expr)

-- ---- statements that wait: `in`, `receive` and `P`

-- what is serviced by one statement
abbrev pub Together : Type 0
Together = List (Option Decl)

abbrev pub Waits : Type 0
Waits = List Together

abbrev pub joined : List Waits → Waits
joined waits = flat_map (λ one. one) waits

abbrev pub maybe_joined : Option (List Waits) → Waits
maybe_joined None = []
maybe_joined (Some waits) = joined waits

abbrev pub first_meant : Meanings → List Expr → Option Decl
first_meant uses (argument ∷ []) = expr_meant uses argument
first_meant uses _ = None

-- `P(s)` is `receive s()`
abbrev pub waits_by : Meanings → List Expr → Option Meaning → Waits
waits_by uses arguments (Some (MeansPredefined P)) = (first_meant uses arguments ∷ []) ∷ []
waits_by uses arguments _ = []

abbrev pub layer_waits : {A B C D : Type 0} → Meanings → List Expr → Expr-F A B C D → Waits
layer_waits uses arguments (Expr-F.Name name) = waits_by uses arguments (meaning_at uses (spot_of name.span))
layer_waits uses arguments _ = []

abbrev pub call_waits : Meanings → Invocation → Waits
call_waits uses invocation = layer_waits uses (out-Invocation invocation).arguments (out-Expr (out-Invocation invocation).callee)

-- an arm: what its operation means, and what its block services
abbrev pub ArmWaits : Type 0
ArmWaits = Option Decl × Waits

abbrev pub item_step : BlockItem-F Waits Waits ArmWaits Waits Waits → Waits
item_step (BlockItem-F.Statement statement) = statement
item_step _ = []

abbrev pub arms_meant : List ArmWaits → Together
arms_meant arms = map (λ arm. arm.0) arms

abbrev pub arms_waits : List ArmWaits → Waits
arms_waits arms = joined (map (λ arm. arm.1) arms)

abbrev pub statement_step : Meanings → Statement-F Waits Waits ArmWaits Waits Waits → Waits
statement_step uses (Statement-F.Call span with_call invocation) = call_waits uses invocation
statement_step uses (Statement-F.Receive span operation places) = (meant_at uses operation.span ∷ []) ∷ []
statement_step uses (Statement-F.If span branches otherwise) = joined branches ++ maybe_joined otherwise
statement_step uses (Statement-F.Do span branches otherwise) = joined branches ++ maybe_joined otherwise
statement_step uses (Statement-F.ForAll span quantifiers block) = joined block
statement_step uses (Statement-F.In span arms otherwise) = arms_meant arms ∷ (arms_waits arms ++ maybe_joined otherwise)
statement_step uses (Statement-F.Co span arms) = joined arms
statement_step uses _ = []

abbrev pub arm_step : Meanings → Arm-F Waits Waits ArmWaits Waits Waits → ArmWaits
arm_step uses arm = (meant_at uses arm.operation.span, joined arm.block)

abbrev pub branch_step : Branch-F Waits Waits ArmWaits Waits Waits → Waits
branch_step branch = joined branch.block

abbrev pub co_arm_step : CoArm-F Waits Waits ArmWaits Waits Waits → Waits
co_arm_step arm = maybe_joined arm.block

-- what the statements service that stand in a statement, in the order of the text
abbrev pub statement_waits : Meanings → Statement → Waits
statement_waits uses = fold-Statement Waits Waits ArmWaits Waits Waits item_step (statement_step uses) (arm_step uses) branch_step co_arm_step

abbrev pub block_item_waits : Meanings → BlockItem → Waits
block_item_waits uses = fold-BlockItem Waits Waits ArmWaits Waits Waits item_step (statement_step uses) (arm_step uses) branch_step co_arm_step

abbrev pub arm_waits : Meanings → Arm → ArmWaits
arm_waits uses = fold-Arm Waits Waits ArmWaits Waits Waits item_step (statement_step uses) (arm_step uses) branch_step co_arm_step

abbrev pub branch_waits : Meanings → Branch → Waits
branch_waits uses = fold-Branch Waits Waits ArmWaits Waits Waits item_step (statement_step uses) (arm_step uses) branch_step co_arm_step

abbrev pub co_arm_waits : Meanings → CoArm → Waits
co_arm_waits uses = fold-CoArm Waits Waits ArmWaits Waits Waits item_step (statement_step uses) (arm_step uses) branch_step co_arm_step

-- ---- procs and components

abbrev pub inner_waits : Meanings → ProcItem → Waits
inner_waits uses (inner.Statement statement) = statement_waits uses statement
inner_waits uses _ = []

abbrev pub block_waits : Meanings → List ProcItem → Waits
block_waits uses block = flat_map (inner_waits uses) block

abbrev pub item_waits : Meanings → Item → Waits
item_waits uses (item.Spec inner) = []
item_waits uses (item.Proc proc) = block_waits uses proc.block
item_waits uses (item.Procedure procedure) = block_waits uses procedure.block
item_waits uses (item.Process process) = block_waits uses process.block
item_waits uses (item.Final final) = block_waits uses final.block
item_waits uses (item.Statement statement) = statement_waits uses statement

-- what a component services by statements
abbrev pub component_waits : Meanings → Component → Waits
component_waits uses component = flat_map (item_waits uses) (body_of component)

-- what a proc serves
abbrev pub item_served : Meanings → Item → Together
item_served uses (item.Proc proc) = meant_at uses proc.name.span ∷ []
item_served uses _ = []

abbrev pub component_served : Meanings → Component → Together
component_served uses component = flat_map (item_served uses) (body_of component)

-- procedures and processes are operations with their procs
abbrev pub item_procedures : Item → List Spot
item_procedures (item.Procedure procedure) = spot_of procedure.name.span ∷ []
item_procedures (item.Process process) = spot_of process.name.span ∷ []
item_procedures _ = []

abbrev pub component_procedures : Component → List Spot
component_procedures component = flat_map item_procedures (body_of component)

-- ---- whose operations are serviced

-- an operation of a component that is known before any statement is looked at
abbrev pub IsShared : Facts → Spot → Spot → Type 0
IsShared known component spot = (ty : Ty) × (info_at known.infos spot ≡ Some (info.Operation ty component false))

-- a name means an operation of the component that services it; one that isn't declared in a block of a proc is known
pub record Own (files : List File) (known : Facts) (component : Spot) (is_local : Bool) (meant : Option Decl) : Type 0 where
  pub decl : Decl
  pub means : meant ≡ Some decl
  pub declared : Declared files decl.spot component is_local
  pub shared : is_local ≡ false → IsShared known component decl.spot

-- what a statement services has no proc
pub record Waited (files : List File) (known : Facts) (component : Spot) (procs : Procs) (is_local : Bool) (meant : Option Decl) : Type 0 where
  pub own : Own files known component is_local meant
  pub has_none : proc_of procs own.decl.spot ≡ None

-- the operations of one `in` are all of the component or all of procs
abbrev pub AreWaited : List File → Facts → Spot → Procs → Together → Type 0
AreWaited files known component procs together = (is_local : Bool) × All (Waited files known component procs is_local) together

-- what a proc serves has a proc
pub record Served (files : List File) (known : Facts) (component : Spot) (procs : Procs) (meant : Option Decl) : Type 0 where
  pub is_local : Bool
  pub own : Own files known component is_local meant
  pub has_one : is_local ≡ false → is_some (proc_of procs own.decl.spot) ≡ true

-- what a component services is its own, and is serviced either by a proc or by statements
pub record ServicesOwn (uses : Meanings) (files : List File) (known : Facts) (component : Component) : Type 0 where
  -- the operations of the component that have procs
  pub procs : Procs
  pub by_statements : All (AreWaited files known (component_at component) procs) (component_waits uses component)
  pub by_procs : All (Served files known (component_at component) procs) (component_served uses component)
  pub by_procedures : All (λ spot. is_some (proc_of procs spot) ≡ true) (component_procedures component)

abbrev pub AllServiceOwn : Meanings → List File → Facts → Type 0
AllServiceOwn uses files known = All (λ file. All (ServicesOwn uses files known) file.components) files

-- ---- what is serviced by statements isn't served by procs

-- each operation is declared once
abbrev pub OneOwner : List File → Type 0
OneOwner files = (spot a b : Spot) (k l : Bool) → Declared files spot a k → Declared files spot b l → (a ≡ b) × (k ≡ l)

-- what a component services by statements
abbrev pub IsWaited : Meanings → Component → Decl → Type 0
IsWaited uses component decl = (together : Together) × (Contains (component_waits uses component) together × Contains together (Some decl))

-- what its procs serve, but for procedures and processes
abbrev pub IsServed : Meanings → Component → Decl → Type 0
IsServed uses component decl = Contains (component_served uses component) (Some decl)

-- what is declared in a block of a proc can't be named by a proc
abbrev pub ServesShared : Meanings → List File → Component → Type 0
ServesShared uses files component = (decl : Decl) → IsServed uses component decl → Declared files decl.spot (component_at component) true → ⊥
