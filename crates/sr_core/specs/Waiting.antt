-- A test of each `in` in all code of a core, by the site that it finds and by where it stands.
use Rattle.std.specs.List.{list_all}
use Rattle.std.specs.Prelude.{ℕ, ◌+◌, Bool, true, false, ◌&&◌, List, [], ◌∷◌, length, map, Option, Some, None, slice_get}
use Rattle.sr_core.specs.declared.component.Body.{Body}
use Rattle.sr_core.specs.declared.component.Component.{Component}
use Rattle.sr_core.specs.declared.component.Core.{Core}
use Rattle.sr_core.specs.declared.component.Proc.{Proc}
use Rattle.sr_core.specs.declared.site.Site.{Site}
use Rattle.sr_core.specs.declared.statement.Statement.{Statement}
use Rattle.sr_core.specs.declared.statement.Statement.TheFolds.{fold-Statement}
use Rattle.sr_core.specs.declared.statement.Statement.TheOpen.{Statement-F}
use Rattle.sr_core.specs.Blocks.{co_arm_waits, guarded_waits}
use Rattle.sr_core.specs.Tests.{all_true, codes_of, if_some, with_component, with_operation}

-- ---- a test of each `in` of a block

-- A test of a site, of how many blocks an `in` has for arms, and of whether a statement stands in its last block.
abbrev pub SiteTest : Type 0
SiteTest = Site → ℕ → Bool → Bool

abbrev pub site_found : SiteTest → ℕ → Bool → Option Site → Bool
site_found test blocks other None = false
site_found test blocks other (Some site) = test site blocks other

-- the site with this number is there and passes
abbrev pub site_passes : SiteTest → List Site → ℕ → ℕ → Bool → Bool
site_passes test sites number blocks other = site_found test blocks other (slice_get sites number)

abbrev pub is_filled : {A : Type 0} → List A → Bool
is_filled [] = false
is_filled (thing ∷ things) = true

abbrev pub statement_waits : SiteTest → List Site → Statement-F Bool Bool Bool → Bool
statement_waits test sites (Statement-F.Declare place declaration) = true
statement_waits test sites (Statement-F.Act place action) = true
statement_waits test sites (Statement-F.If place guards otherwise) = all_true guards && all_true otherwise
statement_waits test sites (Statement-F.Do place guards otherwise) = all_true guards && if_some all_true otherwise
statement_waits test sites (Statement-F.Fa place quantifiers body) = all_true body
statement_waits test sites (Statement-F.In place site arms otherwise) =
    site_passes test sites site (length arms) (is_filled otherwise) && (list_all all_true arms && all_true otherwise)
statement_waits test sites (Statement-F.Co place arms) = all_true arms
statement_waits test sites (Statement-F.Sends place target count) = true

abbrev pub block_waits : SiteTest → List Site → List Statement → Bool
block_waits test sites block = all_true (map (fold-Statement Bool Bool Bool (statement_waits test sites) co_arm_waits guarded_waits) block)

-- ---- a test of all code of a core

-- A test of code, by the number of the component in which it stands and by that component.
abbrev pub CodeTest : Type 0
CodeTest = ℕ → Component → Body → Bool

-- the initial and the final code of components, of which the first has this number
abbrev pub component_codes : CodeTest → ℕ → List Component → Bool
component_codes test number [] = true
component_codes test number (component ∷ components) = list_all (test number component) (codes_of component) && component_codes test (number + 1) components

-- a proc stands in the component of the operation that it serves
abbrev pub proc_code : Core → CodeTest → Proc → Bool
proc_code core test proc = with_operation core proc.op (λ operation. with_component core operation.component (λ component. test operation.component component proc.body))

abbrev pub all_code : Core → CodeTest → Bool
all_code core test = component_codes test 0 core.components && list_all (proc_code core test) core.procs
