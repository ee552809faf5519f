-- What all code of an accepted program mentions passes a test, and what the guards of its sites mention and read, where what names mean passes.
use Rattle.std.proofs.Common.{◌≡◌, ℕ, Bool, List, map, None, Ok, IsTrue, flat_map}
use Rattle.std.specs.List.{IsDistinct, list_all}
use Rattle.std.proofs.lemmas.Bool.{and_parts}
use Rattle.sr_check.specs.Checked.{checked, first_refused}
use Rattle.sr_check.specs.Components.{components_read}
use Rattle.sr_check.specs.ErrorFree.{ErrorFree}
use Rattle.sr_check.specs.Servicing.{AllServiceOwn}
use Rattle.sr_check_decl.specs.Inferring.{program_known}
use Rattle.sr_check_expr.specs.declared.facts.Facts.{Facts}
use Rattle.sr_core.specs.declared.component.Core.{Core}
use Rattle.sr_core.specs.Waiting.{all_code, SiteTest, block_waits}
use Rattle.sr_desugar.specs.Core.{scene_of}
use Rattle.sr_lower_expr.specs.declared.scene.Scene.{Scene}
use Rattle.sr_names.specs.Specs.{Specs}
use Rattle.sr_names.specs.Spots.{same_spot, spot_of}
use Rattle.sr_order.specs.Names.{file_names}
use Rattle.sr_scope.specs.declared.program.Names.{Names}
use Rattle.sr_scope.specs.Resolved.{resolved}
use Rattle.sr_tree.specs.declared.component.Component.{Component}
use Rattle.sr_tree.specs.declared.component.File.{File}
use Rattle.sr_tables.specs.Parts.{components_in}
use Rattle.sr_front.proofs.Headed.Heads.{heads_found}
use Rattle.sr_front.proofs.Known.FreeBlocks.{FreeComponents}
use Rattle.sr_front.proofs.Known.Declared.{Apart}
use Rattle.sr_front.proofs.Invoked.InvokesKnown.{Between, Free, between, between_first, code_is_free, grows, heads, shapes}
use Rattle.sr_front.proofs.Lists.Members.{Among, all_among}
use Rattle.sr_front.proofs.Served.Operations.{components, core, imports, tables, wholes}
use Rattle.sr_front.proofs.Lists.Placed.{Ending}
use Rattle.sr_front.proofs.Known.ProgramCode.{code_ends, code_error_free, code_placed}
use Rattle.sr_front.proofs.Served.ProcNumbers.{all_code_ok}
use Rattle.sr_core.specs.declared.site.Site.{Site}
use Rattle.sr_desugar.specs.Laws.{WaitApart}
use Rattle.sr_desugar.proofs.WaitsCode.{code_fits, sites_found}
use Rattle.sr_tables.specs.Sites.{arm_mentions}
use Rattle.sr_tables.specs.declared.sites.Mention.{Mention}
use Rattle.sr_front.specs.Imports.{block_mentions}
use Rattle.sr_front.proofs.Mentioned.MentionedCode.{mentions_test}
use Rattle.sr_front.proofs.Mentioned.RootedCode.{AllRooted, components_fit}
use Rattle.sr_front.proofs.Served.SiteCode.{from_zero}
use Rattle.sr_front.proofs.Typed.TypedCode.{Good}
use Rattle.sr_front.proofs.Typed.TypedPlaces.{AtPlace}
use Rattle.sr_front.proofs.Mentioned.VariablesReads.{read_passes, site_passes}
use Rattle.sr_front.proofs.Known.KeptBy.{KeptBetween}

-- in the code of each component, and in its guards, what is mentioned passes
pub record CorePasses (core : Core) (test : ℕ → Mention → Bool) : Type 0 where
  pub code : IsTrue (all_code core (λ number component body. list_all (test number) (block_mentions body.block)))
  pub guards : IsTrue (all_code core (λ number component body. block_waits (λ site blocks other. list_all (test number) (flat_map arm_mentions site.arms)) core.sites body.block))
  pub reads : IsTrue (all_code core (λ number component body. block_waits (λ site blocks other. list_all (read_passes (test number)) site.reads) core.sites body.block))

module _ (specs : Specs) (files : List File) (facts : Facts) (names : Names) (named : resolved files ≡ Ok names) (kept : facts.uses ≡ names.uses)
    (services : AllServiceOwn names.uses files (program_known names.uses specs files)) (apart : Apart files)
    (names_apart : IsDistinct same_spot (map spot_of (flat_map file_names files))) (none : first_refused names.uses specs files ≡ None) (headed : ErrorFree (heads_found names.uses specs files))
    (types : FreeComponents (components_in files) (program_known names.uses specs files)) (checked_so : facts ≡ (checked names.uses specs files).facts) where
  abbrev first : Facts
  first = program_known names.uses specs files

  whole : ErrorFree (components_read (components files facts) first).found
  whole = code_error_free specs files facts names none

  final : facts ≡ (components_read (components files facts) first).facts
  final = code_ends specs files facts names checked_so

  abbrev pub scene : ℕ → Component → Scene
  scene number component = scene_of facts (tables files facts) (imports files facts) number component

  abbrev Between_here : Facts → Type 0
  Between_here = Between specs files facts names.uses kept apart headed names_apart

  abbrev between_here : (component : Component) (there : Among (components files facts) component) → KeptBetween facts (shapes specs files facts names.uses kept apart headed names_apart)
      (heads specs files facts names.uses kept apart headed names_apart) Between_here (Free specs files facts names.uses kept apart headed names_apart) component
  between_here = between specs files facts names.uses kept apart headed names_apart

  at_place : (number : ℕ) (component : Component) (there : Among (components files facts) component) (now : Facts) → (between_here component there).Q now → Ending (scene number component).facts now → Good now → AtPlace (scene number component) now
  at_place number component there now h ending good = record {
    typed = good.typed;
    grows = grows specs files facts names.uses kept apart headed names_apart whole types final number there.0 component now h ending;
    operations = h.1.0;
  }

  -- all names of all components pass
  abbrev pub Rooted : (ℕ → Mention → Bool) → Type 0
  Rooted test = AllRooted test facts (tables files facts) (imports files facts) 0 (components files facts)

  module _ (test : ℕ → Mention → Bool) where
    abbrev site_test : ℕ → ℕ → ℕ → Site → Bool
    site_test number count owns = site_passes (test number)

    abbrev guards_test : ℕ → ℕ → ℕ → SiteTest
    guards_test number count owns site blocks other = list_all (test number) (flat_map arm_mentions site.arms)

    abbrev reads_test : ℕ → ℕ → ℕ → SiteTest
    reads_test number count owns site blocks other = list_all (read_passes (test number)) site.reads

    pub core_passes : Rooted test → Good first → WaitApart files facts → CorePasses (core files facts) test
    core_passes had good distinct =
        let fits = components_fit test facts (tables files facts) (imports files facts) (shapes specs files facts names.uses kept apart headed names_apart) (heads specs files facts names.uses kept apart headed names_apart) facts
        Between_here (Free specs files facts names.uses kept apart headed names_apart) (Among (components files facts)) between_here at_place
        0 (components files facts) (all_among (components files facts)) (code_is_free specs files facts names.uses kept apart headed names_apart) had first types (code_placed specs files facts names checked_so names_apart) (between_first specs files facts names.uses kept apart headed names_apart) (λ asked. good) whole in
        let guards = sites_found site_test guards_test (λ number count owns site blocks other passes has. (and_parts (list_all (test number) (flat_map arm_mentions site.arms)) _ passes).0) files facts distinct fits.sites in
        let reads = sites_found site_test reads_test (λ number count owns site blocks other passes has. (and_parts (list_all (test number) (flat_map arm_mentions site.arms)) _ passes).1) files facts distinct fits.sites in
        record {
          code = all_code_ok names.uses files first facts kept services apart (mentions_test (λ number component. test number)) fits.codes
              (from_zero (mentions_test (λ number component. test number)) (wholes files facts) fits.procs);
          guards = all_code_ok names.uses files first facts kept services apart (code_fits guards_test (core files facts).sites) guards.codes_fit
              (from_zero (code_fits guards_test (core files facts).sites) (wholes files facts) guards.procs_fit);
          reads = all_code_ok names.uses files first facts kept services apart (code_fits reads_test (core files facts).sites) reads.codes_fit
              (from_zero (code_fits reads_test (core files facts).sites) (wholes files facts) reads.procs_fit);
        }
