-- Each `in` finds its site, which it names by a number, and what the site says fits its operations and where the `in` stands.
use Rattle.std.specs.List.{list_all}
use Rattle.std.specs.Prelude.{ℕ, Bool, true, not, ◌&&◌, ◌||◌, length, ◌==◌, nat_lt}
use Rattle.sr_core.specs.declared.component.Core.{Core}
use Rattle.sr_core.specs.declared.owner.Home.{Home}
use Rattle.sr_core.specs.declared.owner.Home.TheVariants.{Mine, Imported}
use Rattle.sr_core.specs.declared.site.Arm.{Arm}
use Rattle.sr_core.specs.declared.site.Named.{Named}
use Rattle.sr_core.specs.declared.site.Named.TheVariants.{Own as own_name, Home as home_name, Machine as machine_name}
use Rattle.sr_core.specs.declared.site.SharedRead.{SharedRead}
use Rattle.sr_core.specs.declared.site.Site.{Site}
use Rattle.sr_core.specs.Numbers.{Test, Where, expr_ok, where_code}
use Rattle.sr_core.specs.Serving.{scope_eq}
use Rattle.sr_core.specs.Tests.{if_some, with_operation}
use Rattle.sr_core.specs.Waiting.{SiteTest, all_code, block_waits}

-- ---- the blocks of an `in`

-- an `in` has a block for each arm of its site, and a statement in its last block only where the site has an `else`
abbrev pub has_blocks : SiteTest
has_blocks site blocks other = (length site.arms == blocks) && (site.has_else || not other)

abbrev pub all_else_ok : Core → Bool
all_else_ok core = all_code core (λ number component body. block_waits has_blocks core.sites body.block)

-- ---- whose operations are meant

-- all arms name operations of this component
abbrev pub is_of : Core → ℕ → Site → Bool
is_of core component site = list_all (λ arm. with_operation core arm.op (λ operation. operation.component == component)) site.arms

-- an `in` names operations of the component in which it stands
abbrev pub all_own : Core → Bool
all_own core = all_code core (λ number component body. block_waits (λ site blocks other. is_of core number site) core.sites body.block)

-- all arms name operations of the instance or of the process, as the site says
abbrev pub has_scope : Core → Site → Bool
has_scope core site = list_all (λ arm. with_operation core arm.op (λ operation. scope_eq operation.scope site.scope)) site.arms

abbrev pub all_scopes_ok : Core → Bool
all_scopes_ok core = list_all (has_scope core) core.sites

-- ---- numbers in guards

-- each number in what an arm says after `and` and `by` names something
abbrev pub guard_exists : Arm → Test
guard_exists arm at = if_some (λ expr. expr_ok expr at) arm.guard && if_some (λ expr. expr_ok expr at) arm.by

-- an own variable of the process; that a global is imported where only an operation of it is named isn't looked at, as in code
abbrev pub named_exists : Named → Test
named_exists (own_name var) at = nat_lt var at.owns
named_exists (home_name import) at = true
named_exists machine_name at = true

-- a shared variable of the component itself, or of a global that it imports
abbrev pub home_exists : Home → Test
home_exists Mine at = true
home_exists (Imported import) at = nat_lt import at.imports

abbrev pub read_exists : SharedRead → Test
read_exists read at = home_exists read.home at

abbrev pub count_exists : ℕ → Test
count_exists op at = nat_lt op (length at.core.operations)

-- each number in the guards of a site, and in its lists of what they name, read and count
abbrev pub guards_exist : Where → Site → Bool
guards_exist at site =
    list_all (λ arm. guard_exists arm at) site.arms
    && (list_all (λ name. named_exists name at) site.names && (list_all (λ read. read_exists read at) site.reads && list_all (λ op. count_exists op at) site.counts))

abbrev pub all_guards_ok : Core → Bool
all_guards_ok core =
    all_code core (λ number component body. block_waits (λ site blocks other. guards_exist (where_code core component body) site) core.sites body.block)
