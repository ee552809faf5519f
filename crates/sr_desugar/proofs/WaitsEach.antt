-- Where statements that wait stand at different spots, each `in` has a block for each arm of its site.
use Rattle.std.proofs.Common.{◌≡◌, refl, ap, ◌∙◌, ℕ, ◌+◌, Bool, false, ◌&&◌, ◌==◌, List, [], ◌∷◌, length, map, Option, Some, None, slice_get}
use Rattle.std.specs.Prelude.{IsTrue}
use Rattle.std.specs.List.{list_all}
use Rattle.std.proofs.lemmas.Bool.{and_parts}
use Rattle.sr_check_expr.specs.declared.facts.Facts.{Facts}
use Rattle.sr_core.specs.declared.component.Body.{Body}
use Rattle.sr_core.specs.declared.component.Component.{Component as CoreComponent}
use Rattle.sr_core.specs.declared.component.Proc.{Proc}
use Rattle.sr_core.specs.declared.site.Site.{Site}
use Rattle.sr_core.specs.declared.statement.Statement.{Statement}
use Rattle.sr_core.specs.declared.statement.Statement.TheFolds.{fold-Statement}
use Rattle.sr_core.specs.declared.statement.Statement.TheOpen.{Statement-F}
use Rattle.sr_core.specs.Blocks as blocks
use Rattle.sr_core.specs.Tests.{all_true, codes_of}
use Rattle.sr_core.specs.Waiting.{CodeTest, SiteTest, block_waits, component_codes, is_filled, site_found, site_passes, statement_waits}
use Rattle.sr_outline.specs.Outline.{imports_of, tables_of}
use Rattle.sr_tables.specs.Parts.{components_in}
use Rattle.sr_tree.specs.declared.component.File.{File}
use Rattle.sr_desugar.specs.Core.{LoweredComponent, all_components, core_of, procs_in, wholes_of}
use Rattle.sr_desugar.specs.Laws.{WaitApart}
use Rattle.sr_desugar.proofs.Numbered.{any_site}
use Rattle.sr_desugar.proofs.Waits.{all_appended, both}
use Rattle.sr_desugar.proofs.WaitsCode.{any_component, code_fits, component_procs, sites_found}

-- a site has as many arms as there are blocks
abbrev as_many : SiteTest
as_many site blocks other = length site.arms == blocks

-- ---- this test and that of the definition are one

abbrev site_has : ℕ → Option Site → Bool
site_has arms None = false
site_has arms (Some found) = length found.arms == arms

same_found : (arms : ℕ) (other : Bool) (found : Option Site) → site_has arms found ≡ site_found as_many arms other found
same_found arms other None = refl
same_found arms other (Some site) = refl

same_site : (sites : List Site) (number arms : ℕ) (other : Bool) → blocks.site_ok sites number arms ≡ site_passes as_many sites number arms other
same_site sites number arms other = same_found arms other (slice_get sites number)

same_waits : (sites : List Site) (one : Statement-F Bool Bool Bool) → blocks.statement_waits sites one ≡ statement_waits as_many sites one
same_waits sites (Statement-F.In place site arms otherwise) =
    ap (λ passes. passes && (list_all all_true arms && all_true otherwise)) (same_site sites site (length arms) (is_filled otherwise))
same_waits sites (Statement-F.Declare place declaration) = refl
same_waits sites (Statement-F.Act place action) = refl
same_waits sites (Statement-F.If place guards otherwise) = refl
same_waits sites (Statement-F.Do place guards otherwise) = refl
same_waits sites (Statement-F.Fa place quantifiers body) = refl
same_waits sites (Statement-F.Co place arms) = refl
same_waits sites (Statement-F.Sends place target count) = refl

same_block : (sites : List Site) (block : List Statement) → blocks.block_waits sites block ≡ block_waits as_many sites block
same_block sites block i = all_true (map (fold-Statement Bool Bool Bool (λ one. same_waits sites one i) blocks.co_arm_waits blocks.guarded_waits) block)

same_bodies : (sites : List Site) (bodies : List Body) → list_all (λ body. blocks.block_waits sites body.block) bodies ≡ list_all (λ body. block_waits as_many sites body.block) bodies
same_bodies sites bodies i = list_all (λ body. same_block sites body.block i) bodies

same_procs : (sites : List Site) (procs : List Proc) → list_all (λ proc. blocks.block_waits sites proc.body.block) procs ≡ list_all (λ proc. block_waits as_many sites proc.body.block) procs
same_procs sites procs i = list_all (λ proc. same_block sites proc.body.block i) procs

-- ---- the core

abbrev fits : List Site → CodeTest
fits = code_fits (λ number count owns. as_many)

codes_wait : (sites : List Site) (number : ℕ) (components : List CoreComponent) → IsTrue (component_codes (fits sites) number components)
    → IsTrue (list_all (λ component. list_all (λ body. blocks.block_waits sites body.block) (codes_of component)) components)
codes_wait sites number [] all = refl
codes_wait sites number (component ∷ components) all =
    let parts = and_parts (list_all (fits sites number component) (codes_of component)) _ all in
    both _ _ (same_bodies sites (codes_of component) ∙ parts.0) (codes_wait sites (number + 1) components parts.1)

procs_wait : (sites : List Site) (number : ℕ) (wholes : List LoweredComponent) → IsTrue (component_procs (fits sites) number wholes)
    → IsTrue (list_all (λ proc. blocks.block_waits sites proc.body.block) (procs_in wholes))
procs_wait sites number [] all = refl
procs_wait sites number (whole ∷ wholes) all =
    let parts = and_parts (list_all (λ proc. fits sites number whole.component proc.body) whole.procs) _ all in
    all_appended (λ proc. blocks.block_waits sites proc.body.block) whole.procs (procs_in wholes) (same_procs sites whole.procs ∙ parts.0) (procs_wait sites (number + 1) wholes parts.1)

pub core_waits : (files : List File) (facts : Facts) → WaitApart files facts → IsTrue (blocks.all_waits_ok (core_of files facts))
core_waits files facts distinct =
    let components = components_in files in
    let tables = tables_of facts components in
    let wholes = wholes_of facts components tables in
    let sites = (core_of files facts).sites in
    let good = sites_found (λ number count owns. any_site) (λ number count owns. as_many) (λ number count owns site arms other okay has. (and_parts (length site.arms == arms) _ has).0) files facts distinct
    (any_component facts tables (map (imports_of facts tables.components) components) 0 components) in
    both _ _ (codes_wait sites 0 (all_components wholes) good.codes_fit) (procs_wait sites 0 wholes good.procs_fit)
