-- An `in` has a block for each arm of its site.
use Rattle.std.specs.List.{list_all}
use Rattle.std.specs.Prelude.{ℕ, Bool, true, false, ◌&&◌, List, length, map, Option, Some, None, ◌==◌, slice_get}
use Rattle.sr_core.specs.declared.component.Core.{Core}
use Rattle.sr_core.specs.declared.site.Site.{Site}
use Rattle.sr_core.specs.declared.statement.Statement.{Statement}
use Rattle.sr_core.specs.declared.statement.Statement.TheFolds.{fold-Statement}
use Rattle.sr_core.specs.declared.statement.Statement.TheOpen.{CoArm-F, Guarded-F, Statement-F}
use Rattle.sr_core.specs.Tests.{all_true, codes_of, if_some}

abbrev pub site_ok : List Site → ℕ → ℕ → Bool
site_ok sites site arms = site_has (slice_get sites site) where
  site_has : Option Site → Bool
  site_has None = false
  site_has (Some found) = length found.arms == arms

abbrev pub statement_waits : List Site → Statement-F Bool Bool Bool → Bool
statement_waits sites (Statement-F.Declare place declaration) = true
statement_waits sites (Statement-F.Act place action) = true
statement_waits sites (Statement-F.If place guards otherwise) = all_true guards && all_true otherwise
statement_waits sites (Statement-F.Do place guards otherwise) = all_true guards && if_some all_true otherwise
statement_waits sites (Statement-F.Fa place quantifiers body) = all_true body
statement_waits sites (Statement-F.In place site arms otherwise) = site_ok sites site (length arms) && (list_all all_true arms && all_true otherwise)
statement_waits sites (Statement-F.Co place arms) = all_true arms
statement_waits sites (Statement-F.Sends place target count) = true

abbrev pub guarded_waits : Guarded-F Bool Bool Bool → Bool
guarded_waits guarded = all_true guarded.body

abbrev pub co_arm_waits : CoArm-F Bool Bool Bool → Bool
co_arm_waits arm = all_true arm.body

abbrev pub block_waits : List Site → List Statement → Bool
block_waits sites block = all_true (map (fold-Statement Bool Bool Bool (statement_waits sites) co_arm_waits guarded_waits) block)

abbrev pub all_waits_ok : Core → Bool
all_waits_ok core =
    list_all (λ component. list_all (λ body. block_waits core.sites body.block) (codes_of component)) core.components
    && list_all (λ proc. block_waits core.sites proc.body.block) core.procs
