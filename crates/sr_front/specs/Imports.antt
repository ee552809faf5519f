-- Each imported global that code or a site names is one that its component imports, also where only an operation of it is named.
use Rattle.std.specs.Prelude.{ℕ, Bool, true, List, [], ◌++◌, length, map, nat_lt, IsTrue}
use Rattle.std.specs.List.{list_all}
use Rattle.sr_core.specs.declared.component.Core.{Core}
use Rattle.sr_core.specs.declared.expression.Argument.{Argument}
use Rattle.sr_core.specs.declared.owner.Home.TheVariants as home
use Rattle.sr_core.specs.declared.owner.OperationOwner.TheVariants as whose
use Rattle.sr_core.specs.declared.owner.Root.TheVariants as root
use Rattle.sr_core.specs.declared.site.Named.{Named}
use Rattle.sr_core.specs.declared.site.Named.TheVariants.{Home as home_name}
use Rattle.sr_core.specs.declared.site.Site.{Site}
use Rattle.sr_core.specs.declared.statement.Action.{Action}
use Rattle.sr_core.specs.declared.statement.Action.TheVariants.{Evaluate, Send, Forward, Assign, Swap, Bump, Write, Stop, Destroy, Until}
use Rattle.sr_core.specs.declared.statement.CoArm.{CoArm}
use Rattle.sr_core.specs.declared.statement.CoCall.{CoCall}
use Rattle.sr_core.specs.declared.statement.DimsExpr.{DimsExpr}
use Rattle.sr_core.specs.declared.statement.DimsExpr.TheVariants.{None as no_dims, One, Two}
use Rattle.sr_core.specs.declared.statement.Guarded.{Guarded}
use Rattle.sr_core.specs.declared.statement.ItemShape.{ItemShape}
use Rattle.sr_core.specs.declared.statement.ItemShape.TheVariants.{Fixed, Str}
use Rattle.sr_core.specs.declared.statement.Quantifier.{Quantifier}
use Rattle.sr_core.specs.declared.statement.Range.{Range}
use Rattle.sr_core.specs.declared.statement.Setup.{Setup}
use Rattle.sr_core.specs.declared.statement.Setup.TheVariants.{Typed, Untyped}
use Rattle.sr_core.specs.declared.statement.Statement.{Statement}
use Rattle.sr_core.specs.declared.statement.Statement.TheFolds.{fold-CoArm, fold-Guarded, fold-Statement}
use Rattle.sr_core.specs.declared.statement.Statement.TheOpen.{CoArm-F, Guarded-F, Statement-F}
use Rattle.sr_core.specs.Waiting.{all_code, block_waits}
use Rattle.sr_tables.specs.declared.sites.Mention.{Mention}
use Rattle.sr_tables.specs.declared.sites.Mention.TheVariants as mention
use Rattle.sr_tables.specs.Lists.{lists, maybe, maybe_lists}
use Rattle.sr_tables.specs.Sites.{mentions_at, mentions_in, mentions_in_argument}

-- ---- what code mentions: the variables, the operations and the machine in its expressions, in the order of the text

abbrev pub arguments_mentions : List Argument → List Mention
arguments_mentions arguments = lists (map mentions_in_argument arguments)

abbrev pub action_mentions : Action → List Mention
action_mentions (Evaluate expr) = mentions_in expr
action_mentions (Send target arguments) = mentions_in target ++ arguments_mentions arguments
action_mentions (Forward target arguments) = mentions_in target ++ arguments_mentions arguments
action_mentions (Assign place value) = mentions_at place ++ mentions_in value
action_mentions (Swap left right) = mentions_at left ++ mentions_at right
action_mentions (Bump place bump) = mentions_at place
action_mentions (Write arguments line) = lists (map mentions_in arguments)
action_mentions (Stop status) = maybe mentions_in status
action_mentions (Destroy target) = mentions_in target
action_mentions (Until time) = mentions_in time
action_mentions action = []

abbrev pub range_mentions : Range → List Mention
range_mentions range = mentions_in range.lo ++ mentions_in range.hi

abbrev pub dims_mentions : DimsExpr → List Mention
dims_mentions no_dims = []
dims_mentions (One range) = range_mentions range
dims_mentions (Two range second) = range_mentions range ++ range_mentions second

abbrev pub item_mentions : ItemShape → List Mention
item_mentions (Fixed shape) = []
item_mentions (Str most) = mentions_in most

abbrev pub setup_mentions : Setup → List Mention
setup_mentions (Typed shape value) = (dims_mentions shape.dims ++ item_mentions shape.item) ++ maybe mentions_in value
setup_mentions (Untyped shape value) = mentions_in value

abbrev pub quantifier_mentions : Quantifier → List Mention
quantifier_mentions q = (mentions_in q.from ++ mentions_in q.to) ++ (mentions_in q.by ++ maybe mentions_in q.condition)

abbrev pub quantifiers_mentions : List Quantifier → List Mention
quantifiers_mentions quantifiers = lists (map quantifier_mentions quantifiers)

abbrev pub co_call_mentions : CoCall → List Mention
co_call_mentions call = maybe mentions_at call.place ++ (mentions_in call.target ++ arguments_mentions call.args)

abbrev pub statement_mentions : Statement-F (List Mention) (List Mention) (List Mention) → List Mention
statement_mentions (Statement-F.Declare place declaration) = setup_mentions declaration.setup
statement_mentions (Statement-F.Act place action) = action_mentions action
statement_mentions (Statement-F.If place guards otherwise) = lists guards ++ lists otherwise
statement_mentions (Statement-F.Do place guards otherwise) = lists guards ++ maybe_lists otherwise
statement_mentions (Statement-F.Fa place quantifiers body) = quantifiers_mentions quantifiers ++ lists body
statement_mentions (Statement-F.In place site arms otherwise) = lists (map lists arms) ++ lists otherwise
statement_mentions (Statement-F.Co place arms) = lists arms
statement_mentions (Statement-F.Sends place target count) = mentions_in target ++ mentions_in count

abbrev pub guarded_mentions : Guarded-F (List Mention) (List Mention) (List Mention) → List Mention
guarded_mentions guarded = mentions_in guarded.condition ++ lists guarded.body

abbrev pub co_arm_mentions : CoArm-F (List Mention) (List Mention) (List Mention) → List Mention
co_arm_mentions arm = quantifiers_mentions arm.quantifiers ++ (co_call_mentions arm.call ++ lists arm.body)

abbrev pub mentions_of : Statement → List Mention
mentions_of = fold-Statement (List Mention) (List Mention) (List Mention) statement_mentions co_arm_mentions guarded_mentions

abbrev pub mentions_of_branch : Guarded → List Mention
mentions_of_branch = fold-Guarded (List Mention) (List Mention) (List Mention) statement_mentions co_arm_mentions guarded_mentions

abbrev pub mentions_of_arm : CoArm → List Mention
mentions_of_arm = fold-CoArm (List Mention) (List Mention) (List Mention) statement_mentions co_arm_mentions guarded_mentions

abbrev pub block_mentions : List Statement → List Mention
block_mentions block = lists (map mentions_of block)

-- ---- what is imported

-- the global of a variable or an operation is one of so many imports
abbrev pub mention_imported : ℕ → Mention → Bool
mention_imported imports (mention.Variable (root.Shared (home.Imported import) var)) = nat_lt import imports
mention_imported imports (mention.Operation (whose.Imported import)) = nat_lt import imports
mention_imported imports one = true

-- each global that code mentions is one that the component imports in which the code stands
abbrev pub all_imported : Core → Bool
all_imported core = all_code core (λ number component body. list_all (mention_imported (length component.imports)) (block_mentions body.block))

-- ---- what sites name

-- a global that is named is one of so many imports
abbrev pub name_imported : ℕ → Named → Bool
name_imported imports (home_name import) = nat_lt import imports
name_imported imports name = true

abbrev pub names_imported : ℕ → Site → Bool
names_imported imports site = list_all (name_imported imports) site.names

-- each global among the names of a site is one that the component imports in which its `in` stands
abbrev pub all_names_imported : Core → Bool
all_names_imported core =
    all_code core (λ number component body. block_waits (λ site blocks other. names_imported (length component.imports) site) core.sites body.block)

-- A core whose code and sites name imported globals alone that their components import.
pub record HasImports (core : Core) : Type 0 where
  -- in all code, where a variable or an operation is named
  pub code : IsTrue (all_imported core)
  -- among the names of the site of each `in`
  pub sites : IsTrue (all_names_imported core)
