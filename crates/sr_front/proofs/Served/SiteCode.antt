-- What the site of an `in` says fits where the `in` stands.
use Rattle.std.proofs.Common.{◌≡◌, ℕ, zero, suc, ◌+◌, List, [], ◌∷◌, subst, arith}
use Rattle.std.specs.Prelude.{IsTrue}
use Rattle.std.specs.List.{list_all}
use Rattle.std.proofs.lemmas.Bool.{and_parts}
use Rattle.sr_check.specs.Servicing.{AllServiceOwn}
use Rattle.sr_check_expr.specs.declared.facts.Facts.{Facts}
use Rattle.sr_core.specs.declared.component.Core.{Core}
use Rattle.sr_core.specs.declared.component.Proc.{Proc}
use Rattle.sr_desugar.specs.Core.{LoweredComponent, scene_of, whole_of}
use Rattle.sr_desugar.specs.Laws.{WaitApart}
use Rattle.sr_core.specs.Sites.{all_else_ok, all_guards_ok, all_own, guards_exist, has_blocks, is_of}
use Rattle.sr_core.specs.Waiting.{CodeTest, SiteTest}
use Rattle.sr_front.specs.Formals.{all_arms_own, arms_own}
use Rattle.sr_front.specs.Imports.{all_imported, all_names_imported}
use Rattle.sr_front.proofs.Mentioned.GuardCode.{core_guards, guards_test, imports_test}
use Rattle.sr_front.proofs.Mentioned.ImportedCode.{code_imported, core_imported}
use Rattle.sr_desugar.proofs.WaitsCode.{ComponentsOkay, any_component, code_fits, component_procs, items_okay, sites_found}
use Rattle.sr_desugar.proofs.Numbered.{any_site}
use Rattle.sr_names.specs.Noted.{Meanings}
use Rattle.sr_names.specs.Searches.{At}
use Rattle.sr_tables.specs.declared.tables.Tables.{Tables}
use Rattle.sr_tree.specs.declared.component.Component.{Component}
use Rattle.sr_tree.specs.declared.component.File.{File}
use Rattle.sr_tree.specs.Parts.{body_of}
use Rattle.sr_front.proofs.Known.Declared.{Apart}
use Rattle.sr_front.proofs.Served.Operations.{components, core, imports, tables, wholes}
use Rattle.sr_front.proofs.Served.ProcNumbers.{all_code_ok}

-- ---- procs by the number of their component

procs_at : (test : CodeTest) (first : ℕ) (wholes : List LoweredComponent) (place : ℕ) (whole : LoweredComponent) → IsTrue (component_procs test first wholes) → At wholes place whole
    → IsTrue (list_all (λ (proc : Proc). test (first + place) whole.component proc.body) whole.procs)
procs_at test first [] place whole all h = absurd h
procs_at test first (one ∷ wholes) zero whole all h =
    let parts = and_parts (list_all (λ (proc : Proc). test first one.component proc.body) one.procs) _ all in
    let same : first ≡ first + 0 = omega arith in
    subst (λ number. IsTrue (list_all (λ (proc : Proc). test number whole.component proc.body) whole.procs)) same
    (subst (λ (at : LoweredComponent). IsTrue (list_all (λ (proc : Proc). test first at.component proc.body) at.procs)) h parts.0)
procs_at test first (one ∷ wholes) (suc place) whole all h =
    let parts = and_parts (list_all (λ (proc : Proc). test first one.component proc.body) one.procs) _ all in
    let same : (first + 1) + place ≡ first + suc place = omega arith in
    subst (λ number. IsTrue (list_all (λ (proc : Proc). test number whole.component proc.body) whole.procs)) same (procs_at test (first + 1) wholes place whole parts.1 h)

pub from_zero : (test : CodeTest) (wholes : List LoweredComponent) → IsTrue (component_procs test 0 wholes) → (number : ℕ) (whole : LoweredComponent) → At wholes number whole
    → IsTrue (list_all (λ (proc : Proc). test number whole.component proc.body) whole.procs)
from_zero test wholes all number whole h =
    let same : 0 + number ≡ number = omega arith in
    subst (λ at. IsTrue (list_all (λ (proc : Proc). test at whole.component proc.body) whole.procs)) same (procs_at test 0 wholes number whole all h)

-- ---- the formals of arms

abbrev formals_test : ℕ → ℕ → ℕ → SiteTest
formals_test number count owns site blocks other = arms_own owns site

-- ---- whose operations sites name

abbrev own_test : Core → ℕ → ℕ → ℕ → SiteTest
own_test core number count owns site blocks other = is_of core number site

module _ (facts : Facts) (tables : Tables) (imports : List (List ℕ)) (core : Core) where
  all_own_from : (first : ℕ) (components : List Component)
      → ((place : ℕ) (component : Component) → At components place component → IsTrue (list_all (is_of core (first + place)) (whole_of facts tables imports (first + place, component)).sites))
      → ComponentsOkay (λ number count owns. is_of core number) facts tables imports first components
  all_own_from first [] each = tt
  all_own_from first (component ∷ more) each =
      let here : first + 0 ≡ first = omega arith in (
        items_okay (is_of core first) (scene_of facts tables imports first component) (body_of component)
            (subst (λ number. IsTrue (list_all (is_of core number) (whole_of facts tables imports (number, component)).sites)) here (each 0 component (λ i. component))),
        all_own_from (first + 1) more (λ place one h. later place one (each (suc place) one h)),
      )
    where
      later : (place : ℕ) (one : Component) → IsTrue (list_all (is_of core (first + suc place)) (whole_of facts tables imports (first + suc place, one)).sites)
          → IsTrue (list_all (is_of core ((first + 1) + place)) (whole_of facts tables imports ((first + 1) + place, one)).sites)
      later place one own =
          let next : first + suc place ≡ (first + 1) + place = omega arith in
          subst (λ number. IsTrue (list_all (is_of core number) (whole_of facts tables imports (number, one)).sites)) next own

-- ---- the core of a program

module _ (uses : Meanings) (files : List File) (known facts : Facts) (same : facts.uses ≡ uses) (services : AllServiceOwn uses files known) (apart : Apart files)
    (distinct : WaitApart files facts) where
  -- clause `own` of `HasSites`
  pub own_ok : ((number : ℕ) (component : Component) → At (components files facts) number component
      → IsTrue (list_all (is_of (core files facts) number) (whole_of facts (tables files facts) (imports files facts) (number, component)).sites))
      → IsTrue (all_own (core files facts))
  own_ok own =
      let good = sites_found (λ number count owns. is_of (core files facts) number) (own_test (core files facts)) (λ number count owns site blocks other okay has. okay) files facts distinct
      (all_own_from facts (tables files facts) (imports files facts) (core files facts) 0 (components files facts) (λ place component h. start place component (own place component h))) in
      all_code_ok uses files known facts same services apart (code_fits (own_test (core files facts)) (core files facts).sites) good.codes_fit
      (from_zero (code_fits (own_test (core files facts)) (core files facts).sites) (wholes files facts) good.procs_fit)
    where
      start : (place : ℕ) (component : Component) → IsTrue (list_all (is_of (core files facts) place) (whole_of facts (tables files facts) (imports files facts) (place, component)).sites)
          → IsTrue (list_all (is_of (core files facts) (0 + place)) (whole_of facts (tables files facts) (imports files facts) (0 + place, component)).sites)
      start place component is =
          let zero_more : place ≡ 0 + place = omega arith in
          subst (λ number. IsTrue (list_all (is_of (core files facts) number) (whole_of facts (tables files facts) (imports files facts) (number, component)).sites)) zero_more is

  -- clause `otherwise` of `HasSites`
  pub otherwise_ok : IsTrue (all_else_ok (core files facts))
  otherwise_ok =
      let good = sites_found (λ number count owns. any_site) (λ number count owns. has_blocks) (λ number count owns site blocks other okay has. has) files facts distinct
      (any_component facts (tables files facts) (imports files facts) 0 (components files facts)) in
      all_code_ok uses files known facts same services apart (code_fits (λ number count owns. has_blocks) (core files facts).sites) good.codes_fit
      (from_zero (code_fits (λ number count owns. has_blocks) (core files facts).sites) (wholes files facts) good.procs_fit)

  -- clause `guards` of `HasSites`
  pub guards_ok : IsTrue (all_guards_ok (core files facts))
  guards_ok =
      let good = core_guards (guards_test (core files facts)) files facts
      (λ number count owns site blocks other okay. (and_parts (guards_exist (record { owns = owns; imports = count; core = core files facts }) site) _ okay).0) distinct in
      all_code_ok uses files known facts same services apart (code_fits (guards_test (core files facts)) (core files facts).sites) good.codes_fit
      (from_zero (code_fits (guards_test (core files facts)) (core files facts).sites) (wholes files facts) good.procs_fit)

  -- clause `sites` of `HasImports`
  pub imported_ok : IsTrue (all_names_imported (core files facts))
  imported_ok =
      let good = core_guards imports_test files facts
      (λ number count owns site blocks other okay. (and_parts (guards_exist (record { owns = owns; imports = count; core = core files facts }) site) _ okay).1) distinct in
      all_code_ok uses files known facts same services apart (code_fits imports_test (core files facts).sites) good.codes_fit
      (from_zero (code_fits imports_test (core files facts).sites) (wholes files facts) good.procs_fit)

  -- clause `arms` of `HasFormals`
  pub arms_own_ok : ComponentsOkay (λ number count owns. arms_own owns) facts (tables files facts) (imports files facts) 0 (components files facts) → IsTrue (all_arms_own (core files facts))
  arms_own_ok own =
      let good = sites_found (λ number count owns. arms_own owns) formals_test (λ number count owns site blocks other okay has. okay) files facts distinct own in
      all_code_ok uses files known facts same services apart (code_fits formals_test (core files facts).sites) good.codes_fit
      (from_zero (code_fits formals_test (core files facts).sites) (wholes files facts) good.procs_fit)

  -- clause `code` of `HasImports`
  pub code_imported_ok : IsTrue (all_imported (core files facts))
  code_imported_ok =
      let good = core_imported files facts in
      all_code_ok uses files known facts same services apart code_imported good.0 (from_zero code_imported (wholes files facts) good.1)
