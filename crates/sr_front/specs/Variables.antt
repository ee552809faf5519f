-- Each shared variable that code or a site names is one that the component has which is meant: the component itself, or the
-- global that it imports.
use Rattle.std.specs.Prelude.{ℕ, Bool, true, false, List, [], ◌∷◌, ◌++◌, Option, Some, None, map, flat_map, slice_get, IsTrue}
use Rattle.std.specs.List.{list_all}
use Rattle.sr_core.specs.declared.component.Component.{Component}
use Rattle.sr_core.specs.declared.component.Core.{Core}
use Rattle.sr_core.specs.declared.formal.Formal.{Formal}
use Rattle.sr_core.specs.declared.owner.Home.{Home}
use Rattle.sr_core.specs.declared.owner.Home.TheVariants as home
use Rattle.sr_core.specs.declared.owner.Root.TheVariants as root
use Rattle.sr_core.specs.declared.site.SharedRead.{SharedRead}
use Rattle.sr_core.specs.declared.site.Site.{Site}
use Rattle.sr_core.specs.declared.statement.Scope.{Scope}
use Rattle.sr_core.specs.declared.statement.Scope.TheVariants as scope
use Rattle.sr_core.specs.declared.statement.Statement.{Statement, out-Statement}
use Rattle.sr_core.specs.declared.statement.Statement.TheOpen.{Statement-F}
use Rattle.sr_core.specs.Tests.{with_component}
use Rattle.sr_core.specs.Waiting.{all_code, block_waits}
use Rattle.sr_core.specs.WellFormed.{member}
use Rattle.sr_tables.specs.declared.sites.Mention.{Mention}
use Rattle.sr_tables.specs.declared.sites.Mention.TheVariants as mention
use Rattle.sr_tables.specs.Sites.{arm_mentions}
use Rattle.sr_front.specs.Imports.{block_mentions}

-- ---- the shared variables of a component: its formals, and what its initial code declares in no block within

abbrev pub scoped_var : Scope → ℕ → List ℕ
scoped_var scope.Own var = []
scoped_var scope.Shared var = var ∷ []

abbrev pub declared_vars : Statement → List ℕ
declared_vars statement = elim (out-Statement statement) [
  | Statement-F.Declare place declaration ↦ scoped_var declaration.scope declaration.var
  | _ ↦ []
]

abbrev pub shared_vars : Component → List ℕ
shared_vars component = map (λ (formal : Formal). formal.var) component.formals ++ flat_map declared_vars component.initial.block

-- ---- the component that is meant has the variable

-- a variable of an import that isn't there passes no test
abbrev pub with_import : Core → Option ℕ → (Component → Bool) → Bool
with_import core None test = false
with_import core (Some number) test = with_component core number test

-- the component itself, or the global at this place among its imports
abbrev pub with_meant : Core → Component → Home → (Component → Bool) → Bool
with_meant core component home.Mine test = test component
with_meant core component (home.Imported import) test = with_import core (slice_get component.imports import) test

abbrev pub has_variable : Core → Component → Home → ℕ → Bool
has_variable core component whose var = with_meant core component whose (λ meant. member var (shared_vars meant))

abbrev pub mention_had : Core → Component → Mention → Bool
mention_had core component (mention.Variable (root.Shared whose var)) = has_variable core component whose var
mention_had core component one = true

-- in the component with this number
abbrev pub mention_stands : Core → ℕ → Mention → Bool
mention_stands core number one = with_component core number (λ component. mention_had core component one)

-- ---- code and sites

-- each variable that code mentions
abbrev pub all_variables_stand : Core → Bool
all_variables_stand core = all_code core (λ number component body. list_all (mention_stands core number) (block_mentions body.block))

-- each that the guards and orders of a site mention
abbrev pub site_variables_stand : Core → ℕ → Site → Bool
site_variables_stand core number site = list_all (mention_stands core number) (flat_map arm_mentions site.arms)

abbrev pub all_guard_variables_stand : Core → Bool
all_guard_variables_stand core =
    all_code core (λ number component body. block_waits (λ site blocks other. site_variables_stand core number site) core.sites body.block)

-- each in the list of what the guards of a site read
abbrev pub site_reads_stand : Core → ℕ → Site → Bool
site_reads_stand core number site = list_all (λ (read : SharedRead). mention_stands core number (mention.Variable (root.Shared read.home read.var))) site.reads

abbrev pub all_reads_stand : Core → Bool
all_reads_stand core = all_code core (λ number component body. block_waits (λ site blocks other. site_reads_stand core number site) core.sites body.block)

-- A core whose code and sites name shared variables alone that the component meant has.
pub record HasVariables (core : Core) : Type 0 where
  -- in all code
  pub code : IsTrue (all_variables_stand core)
  -- in the guards and orders of the site of each `in`
  pub guards : IsTrue (all_guard_variables_stand core)
  -- and among the variables that they read
  pub reads : IsTrue (all_reads_stand core)
