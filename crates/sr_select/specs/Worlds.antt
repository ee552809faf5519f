-- What of the world the guards of a statement name, and worlds that hold the same there.
use Rattle.std.specs.Prelude.{◌≡◌, ℕ, ◌==◌, ◌&&◌, Bool, true, false, List, Option, Ok}
use Rattle.std.specs.List.{list_all, list_any}
use Rattle.sr_value.specs.declared.shape.Sel.{Sel}
use Rattle.sr_value.specs.declared.value.Value.{Value}
use Rattle.sr_core.specs.declared.expression.Expr.{Expr}
use Rattle.sr_core.specs.declared.expression.Leaf.{Leaf}
use Rattle.sr_core.specs.declared.expression.Leaf.TheVariants.{Count as count_of_op}
use Rattle.sr_core.specs.declared.owner.Home.{Home}
use Rattle.sr_core.specs.declared.owner.Home.TheVariants.{Mine, Imported}
use Rattle.sr_core.specs.declared.owner.Me.{Me}
use Rattle.sr_core.specs.declared.owner.Root.{Root}
use Rattle.sr_core.specs.declared.owner.Root.TheVariants.{Own as own_root, Shared as shared_root}
use Rattle.sr_core.specs.declared.site.Arm.{Arm}
use Rattle.sr_core.specs.declared.site.SharedRead.{SharedRead}
use Rattle.sr_core.specs.declared.site.Site.{Site}
use Rattle.sr_select.specs.Guards.{guard_block, home_seen}
use Rattle.sr_select.specs.Readings.{Reading}
use Rattle.sr_select.specs.Tests.{expr_all, maybe_all}

-- some shared variables, and some operations whose pending invocations are counted
pub record Watched : Type 0 where
  pub variable : Home → ℕ → Bool
  pub operation : ℕ → Bool

-- ---- expressions that name no more of the world than what is watched

abbrev pub leaf_within : Watched → Leaf → Bool
leaf_within watched (count_of_op op) = watched.operation op
leaf_within watched _ = true

abbrev pub root_within : Watched → Root → Bool
root_within watched (own_root var) = true
root_within watched (shared_root home var) = watched.variable home var

abbrev pub names_only : Watched → Expr → Bool
names_only watched = expr_all (leaf_within watched) (root_within watched)

-- ---- statements

abbrev pub maybe_names_only : Watched → Option Expr → Bool
maybe_names_only watched = maybe_all (leaf_within watched) (root_within watched)

abbrev pub arm_names_only : Watched → Arm → Bool
arm_names_only watched arm = maybe_names_only watched arm.guard && maybe_names_only watched arm.by

-- the guards of a statement read no more of the world than what is watched
abbrev pub reads_only : Watched → Site → Bool
reads_only watched site = list_all (arm_names_only watched) site.arms

abbrev pub same_home : Home → Home → Bool
same_home Mine Mine = true
same_home (Imported import) (Imported other) = import == other
same_home _ _ = false

abbrev pub is_read : Home → ℕ → SharedRead → Bool
is_read home var read = same_home home read.home && (var == read.var)

-- the variables and the operations that a statement lists as what its guards read and count
abbrev pub listed : Site → Watched
listed site = record {
  variable = λ home var. list_any (is_read home var) site.reads;
  operation = λ op. list_any (λ other. op == other) site.counts;
}

-- ---- worlds

-- Two worlds hold the same in the watched variables, and as many invocations of the watched operations are pending.
pub record SameWatched (watched : Watched) (site : Site) (me : Me) (env : List Value) (reading reading' : Reading) : Type 0 where
  pub cells : (home : Home) (var block : ℕ) (path : List Sel) → watched.variable home var ≡ true → guard_block me (home_seen site.names env) home ≡ Ok block
      → reading.load block var path ≡ reading'.load block var path
  pub counts : (op : ℕ) → watched.operation op ≡ true → reading.count op ≡ reading'.count op
  pub literals : reading.names ≡ reading'.names
