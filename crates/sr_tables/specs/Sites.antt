-- The heads of statements that wait for invocations.
use Rattle.std.specs.Prelude.{ℕ, ◌==◌, Bool, true, false, not, ◌&&◌, ◌||◌, List, [], ◌∷◌, ◌++◌, Option, Some, None, flat_map, filter, fold}
use Rattle.std.specs.List.{list_any, filter_map}
use Rattle.sr_core.specs.declared.expression.Argument.TheFolds.{fold-Expr, fold-Argument, fold-Part, fold-PlaceExpr, fold-Reading, fold-Step}
use Rattle.sr_core.specs.declared.expression.Argument.TheOpen.{Argument-F, Expr-F, Part-F, Step-F, PlaceExpr-F}
use Rattle.sr_core.specs.declared.expression.Argument.{Argument}
use Rattle.sr_core.specs.declared.expression.Expr.{Expr}
use Rattle.sr_core.specs.declared.expression.Leaf.{Leaf}
use Rattle.sr_core.specs.declared.expression.Leaf.TheVariants as leaf
use Rattle.sr_core.specs.declared.expression.Part.{Part}
use Rattle.sr_core.specs.declared.expression.PlaceExpr.{PlaceExpr}
use Rattle.sr_core.specs.declared.expression.Reading.{Reading}
use Rattle.sr_core.specs.declared.expression.Step.{Step}
use Rattle.sr_core.specs.declared.formal.Formal.{Formal}
use Rattle.sr_core.specs.declared.formal.Returned.{Returned}
use Rattle.sr_core.specs.declared.owner.Home.{Home}
use Rattle.sr_core.specs.declared.owner.Home.TheVariants as home
use Rattle.sr_core.specs.declared.owner.Root.{Root}
use Rattle.sr_core.specs.declared.owner.Root.TheVariants as root
use Rattle.sr_core.specs.declared.owner.OperationOwner.{OperationOwner}
use Rattle.sr_core.specs.declared.owner.OperationOwner.TheVariants as whose
use Rattle.sr_core.specs.declared.site.Arm.{Arm}
use Rattle.sr_core.specs.declared.site.Named.{Named}
use Rattle.sr_core.specs.declared.site.Named.TheVariants as named
use Rattle.sr_core.specs.declared.site.SharedRead.{SharedRead}
use Rattle.sr_core.specs.declared.site.Site.{Site}
use Rattle.sr_core.specs.declared.statement.Scope.{Scope}
use Rattle.sr_tables.specs.declared.sites.Mention.{Mention}
use Rattle.sr_tables.specs.declared.sites.Mention.TheVariants as mention
use Rattle.sr_tables.specs.Lists.{maybe, lists, with_new}

-- ---- what an expression mentions that stands outside it

abbrev pub leaf_mentions : Leaf → List Mention
leaf_mentions (leaf.Operation whose op) = mention.Operation whose ∷ []
leaf_mentions leaf.MyMachine = mention.Machine ∷ []
leaf_mentions (leaf.Count op) = mention.Count op ∷ []
leaf_mentions _ = []

abbrev pub node_mentions : Expr-F (List Mention) (List Mention) (List Mention) (List Mention) (List Mention) (List Mention) → List Mention
node_mentions (Expr-F.Leaf leaf) = leaf_mentions leaf
node_mentions (Expr-F.Load place) = place
node_mentions (Expr-F.Unary op operand) = operand
node_mentions (Expr-F.Binary op left right) = left ++ right
node_mentions (Expr-F.And left right) = left ++ right
node_mentions (Expr-F.Or left right) = left ++ right
node_mentions (Expr-F.Apply function args) = lists args
node_mentions (Expr-F.Array parts) = lists parts
node_mentions (Expr-F.Of whole step) = whole ++ step
node_mentions (Expr-F.Member of op) = of
node_mentions (Expr-F.Call target args returns) = target ++ lists args
node_mentions (Expr-F.Create resource args machine) = lists args ++ machine
node_mentions (Expr-F.Read readings) = lists readings

abbrev pub step_mentions : Step-F (List Mention) (List Mention) (List Mention) (List Mention) (List Mention) (List Mention) → List Mention
step_mentions (Step-F.At index) = index
step_mentions (Step-F.At2 row column) = row ++ column
step_mentions (Step-F.Field field) = []

abbrev pub part_mentions : Part-F (List Mention) (List Mention) (List Mention) (List Mention) (List Mention) (List Mention) → List Mention
part_mentions (Part-F.One value) = value
part_mentions (Part-F.Repeated count value) = count ++ value

abbrev pub argument_mentions : Argument-F (List Mention) (List Mention) (List Mention) (List Mention) (List Mention) (List Mention) → List Mention
argument_mentions (Argument-F.Val value) = value
argument_mentions (Argument-F.Var place) = place
argument_mentions (Argument-F.Res place) = place

abbrev pub place_mentions : PlaceExpr-F (List Mention) (List Mention) (List Mention) (List Mention) (List Mention) (List Mention) → List Mention
place_mentions place = mention.Variable place.root ∷ lists place.path

-- the variables, the operations and the machine, in the order of the text
abbrev pub mentions_in : Expr → List Mention
mentions_in = fold-Expr (List Mention) (List Mention) (List Mention) (List Mention) (List Mention) (List Mention)
    argument_mentions node_mentions part_mentions step_mentions place_mentions (λ reading. reading.place)

-- the same of the parts of expressions
abbrev pub mentions_at : PlaceExpr → List Mention
mentions_at = fold-PlaceExpr (List Mention) (List Mention) (List Mention) (List Mention) (List Mention) (List Mention)
    argument_mentions node_mentions part_mentions step_mentions place_mentions (λ reading. reading.place)

abbrev pub mentions_in_step : Step → List Mention
mentions_in_step = fold-Step (List Mention) (List Mention) (List Mention) (List Mention) (List Mention) (List Mention)
    argument_mentions node_mentions part_mentions step_mentions place_mentions (λ reading. reading.place)

abbrev pub mentions_in_part : Part → List Mention
mentions_in_part = fold-Part (List Mention) (List Mention) (List Mention) (List Mention) (List Mention) (List Mention)
    argument_mentions node_mentions part_mentions step_mentions place_mentions (λ reading. reading.place)

abbrev pub mentions_in_argument : Argument → List Mention
mentions_in_argument = fold-Argument (List Mention) (List Mention) (List Mention) (List Mention) (List Mention) (List Mention)
    argument_mentions node_mentions part_mentions step_mentions place_mentions (λ reading. reading.place)

abbrev pub mentions_in_reading : Reading → List Mention
mentions_in_reading = fold-Reading (List Mention) (List Mention) (List Mention) (List Mention) (List Mention) (List Mention)
    argument_mentions node_mentions part_mentions step_mentions place_mentions (λ reading. reading.place)

-- what the guard and the order of an arm mention
abbrev pub arm_mentions : Arm → List Mention
arm_mentions arm = maybe mentions_in arm.guard ++ maybe mentions_in arm.by

-- ---- what goes with a `Select`

abbrev pub home_named : Home → Option Named
home_named home.Mine = None
home_named (home.Imported import) = Some (named.Home import)

abbrev pub root_named : Root → Option Named
root_named (root.Own var) = Some (named.Own var)
root_named (root.Shared home var) = home_named home

abbrev pub whose_named : OperationOwner → Option Named
whose_named (whose.Imported import) = Some (named.Home import)
whose_named _ = None

-- an own variable, the home of what is imported, or the machine of the process
abbrev pub named_by : Mention → Option Named
named_by (mention.Variable root) = root_named root
named_by (mention.Operation whose) = whose_named whose
named_by mention.Machine = Some named.Machine
named_by (mention.Count op) = None

abbrev pub is_formal : List Formal → Option Returned → ℕ → Bool
is_formal formals None var = list_any (λ formal. formal.var == var) formals
is_formal formals (Some returned) var = list_any (λ formal. formal.var == var) formals || (returned.var == var)

abbrev pub is_outer : Arm → Named → Bool
is_outer arm (named.Own var) = not (is_formal arm.formals arm.returned var)
is_outer arm _ = true

-- what the guard and the order of an arm name besides its formals
abbrev pub arm_outer : Arm → List Named
arm_outer arm = filter (is_outer arm) (filter_map named_by (arm_mentions arm))

abbrev pub same_named : Named → Named → Bool
same_named (named.Own var) (named.Own other) = var == other
same_named (named.Home import) (named.Home other) = import == other
same_named named.Machine named.Machine = true
same_named _ _ = false

abbrev pub with_named : List Named → Named → List Named
with_named = with_new same_named

-- what the guards of all arms name, each once
abbrev pub names_of : List Arm → List Named
names_of arms = fold with_named [] (flat_map arm_outer arms)

-- ---- what the world may change

-- the shared variable that is read
abbrev pub read_by : Mention → Option SharedRead
read_by (mention.Variable (root.Shared home var)) = Some (record { home = home; var = var })
read_by _ = None

-- the operation whose pending invocations are counted
abbrev pub counted_by : Mention → Option ℕ
counted_by (mention.Count op) = Some op
counted_by _ = None

abbrev pub same_home : Home → Home → Bool
same_home home.Mine home.Mine = true
same_home (home.Imported import) (home.Imported other) = import == other
same_home _ _ = false

abbrev pub same_read : SharedRead → SharedRead → Bool
same_read read other = same_home read.home other.home && (read.var == other.var)

abbrev pub with_read : List SharedRead → SharedRead → List SharedRead
with_read = with_new same_read

abbrev pub with_count : List ℕ → ℕ → List ℕ
with_count = with_new (λ op other. op == other)

-- the shared variables that the guards of all arms read, each once
abbrev pub reads_of : List Arm → List SharedRead
reads_of arms = fold with_read [] (filter_map read_by (flat_map arm_mentions arms))

-- the operations whose pending invocations they count, each once
abbrev pub counts_of : List Arm → List ℕ
counts_of arms = fold with_count [] (filter_map counted_by (flat_map arm_mentions arms))

-- ---- sites

abbrev pub site_of : Scope → List Arm → Bool → Site
site_of scope arms has_else = record {
  scope = scope;
  arms = arms;
  has_else = has_else;
  names = names_of arms;
  reads = reads_of arms;
  counts = counts_of arms;
}
