-- What the code of an accepted program invokes may be invoked, and what it makes is a resource.
use Rattle.std.proofs.Common.{◌≡◌, ℕ, Bool, true, List, [], ◌∷◌, map, Option, Some, None, Ok, IsTrue, refl, sym, ap, ◌∙◌, inl, inr, suc, unwrap_or, not, ◌&&◌, length, flat_map, eq-eqb, subst, ◌==◌}
use Rattle.std.specs.Prelude.{position, slice_get}
use Rattle.std.specs.List.{IsDistinct}
use Rattle.std.specs.Option.{option_map}
use Rattle.std.proofs.lemmas.Bool.{and_from, false≢true}
use Rattle.std.proofs.lemmas.Option.{slice_get-map}
use Rattle.sr_check.specs.Checked.{checked, first_refused}
use Rattle.sr_check.specs.Components.{components_read}
use Rattle.sr_check.specs.ErrorFree.{ErrorFree}
use Rattle.sr_check.specs.Servicing.{AllServiceOwn}
use Rattle.sr_check_decl.specs.Inferring.{program_known}
use Rattle.sr_check_expr.specs.declared.facts.Facts.{Facts}
use Rattle.sr_check_expr.specs.PredefinedCalls.{is_resource}
use Rattle.sr_core.specs.declared.component.Component.{Component as CoreComponent}
use Rattle.sr_core.specs.declared.component.Core.{Core}
use Rattle.sr_core.specs.declared.component.Operation.{Operation}
use Rattle.sr_core.specs.Tests.{with_component, with_operation}
use Rattle.sr_core.specs.Waiting.{all_code}
use Rattle.sr_core.specs.WellFormed.{is_global}
use Rattle.sr_desugar.specs.Core.{component_formals, scene_of, whole_of}
use Rattle.sr_outline.specs.Heads.{parameters_of}
use Rattle.sr_core.specs.declared.component.Parameter.{Parameter}
use Rattle.sr_tree.specs.Parts.{formals_of}
use Rattle.sr_check_expr.specs.declared.info.Info.TheVariants as info
use Rattle.sr_check_expr.specs.Infos.{info_at}
use Rattle.sr_lower_expr.specs.declared.scene.Scene.{Scene}
use Rattle.sr_names.specs.declared.meaning.Decl.{Decl}
use Rattle.sr_names.specs.declared.meaning.Meaning.TheVariants.{Declared}
use Rattle.sr_names.specs.declared.spot.Spot.{Spot}
use Rattle.sr_names.specs.Specs.{Specs}
use Rattle.sr_names.specs.Spots.{same_spot, spot_of}
use Rattle.sr_names.specs.Uses.{meaning_at}
use Rattle.sr_order.specs.Names.{file_names}
use Rattle.sr_scope.specs.declared.program.Names.{Names}
use Rattle.sr_scope.specs.Components.{sort_of}
use Rattle.sr_scope.specs.Resolved.{resolved}
use Rattle.sr_scope.specs.Uses.{IsIn}
use Rattle.sr_scope.proofs.Meant.{IsComponent}
use Rattle.sr_tables.specs.Parts.{component_spot, components_in, kind_of}
use Rattle.sr_tree.specs.declared.component.Component.{Component}
use Rattle.sr_tree.specs.declared.component.Component.TheVariants.{Resource, SplitResource, Global}
use Rattle.sr_tree.specs.declared.component.File.{File}
use Rattle.sr_front.specs.Invocations.{InvocationTest, calls_operation, code_invokes, forwards_operation, makes_resource, of_calls, of_forwards, of_makes, of_sends, sends_operation, takes}
use Rattle.sr_front.proofs.Known.FreeBlocks.{FreeComponents}
use Rattle.sr_front.proofs.Headed.Heads.{heads_found}
use Rattle.sr_front.proofs.CoreComponents.{component_at}
use Rattle.sr_front.proofs.Known.Declared.{Apart}
use Rattle.sr_front.proofs.Invoked.InvokesCode.{components_invoke}
use Rattle.sr_front.proofs.Invoked.InvokesKnown.{Between, Free, between, between_first, code_is_free, counted, ends, grows, heads, heads_here, in_table, shapes, stays}
use Rattle.sr_front.proofs.Invoked.InvokesMet.{Allowed}
use Rattle.sr_front.proofs.Headed.MakingHeaded.{core_formals}
use Rattle.sr_front.proofs.Invoked.InvokesTargets.{AllAtEnd}
use Rattle.sr_front.proofs.Lists.Lists.{place_of}
use Rattle.sr_front.proofs.Lists.Members.{Among, all_among}
use Rattle.sr_front.proofs.Lists.Numbered.{each_once_apart, number_at}
use Rattle.sr_front.proofs.Served.Operations.{components, core, imports, tables, wholes}
use Rattle.sr_front.proofs.Known.ProgramCode.{code_ends, code_error_free, code_placed}
use Rattle.sr_front.proofs.Served.ProcNumbers.{all_code_ok}
use Rattle.sr_front.proofs.Served.SiteCode.{from_zero}
use Rattle.sr_front.proofs.Names.UsesInFiles.{means_resource}

-- ---- what a resource is in the core

kind_fits : (component : Component) → is_resource (sort_of component) ≡ true → IsTrue (not (is_global (kind_of component)))
kind_fits (Resource span name formals items) h = refl
kind_fits (SplitResource span name spec formals items) h = refl
kind_fits (Global span name spec body) h = absurd (false≢true h)

among_in : {A : Type 0} (xs : List A) (a : A) → IsIn a xs → Among xs a
among_in [] a h = absurd h
among_in (x ∷ xs) a (inl e) = (0, e)
among_in (x ∷ xs) a (inr h) = let found = among_in xs a h in (suc found.0, found.1)

with_component_at : (core : Core) (number : ℕ) (test : CoreComponent → Bool) (component : CoreComponent) → slice_get core.components number ≡ Some component
    → with_component core number test ≡ test component
with_component_at core number test component e = rw e refl

module _ (files : List File) (facts : Facts) (apart : IsDistinct same_spot (map component_spot (components_in files))) where
  -- the number of a component is its place
  numbered : (place number : ℕ) (component : Component) → slice_get (components_in files) place ≡ Some component
      → position (same_spot (component_spot component)) (tables files facts).components ≡ Some number → place ≡ number
  numbered place number component at found =
      let spots = map component_spot (components_in files) in
      let here : slice_get spots place ≡ Some (component_spot component) = slice_get-map component_spot (components_in files) place ∙ ap (option_map component_spot) at in
      let once : position (same_spot (component_spot component)) spots ≡ Some number = ap (position (same_spot (component_spot component))) (sym (each_once_apart spots apart)) ∙ found in
      sym (number_at spots place (component_spot component) apart here) ∙ ap (λ (n : Option ℕ). unwrap_or n 0) once

  abbrev scene_at : ℕ → Component → Scene
  scene_at number component = scene_of facts (tables files facts) (imports files facts) number component

  abbrev parameters_at : Facts → Component → List Parameter
  parameters_at outline component = parameters_of outline (tables files facts).shapes (formals_of component)

  -- what has the number of a resource is one
  resource_makes : (component : Component) (number args : ℕ) → IsIn component (components_in files) → is_resource (sort_of component) ≡ true
      → position (same_spot (component_spot component)) (tables files facts).components ≡ Some number → ((outline : Facts) → args ≡ length (parameters_at outline component)) → IsTrue (makes_resource (core files facts) number args)
  resource_makes component number args there is found count =
      let place = place_of (components_in files) component there in
      let same : place.0 ≡ number = numbered place.0 number component place.1 found in
      let at : slice_get (components_in files) number ≡ Some component = ap (slice_get (components_in files)) (sym same) ∙ place.1 in
      let scene = scene_at number component in
      with_component_at (core files facts) number (λ (one : CoreComponent). not (is_global one.kind) && args == length one.formals) (whole_of facts (tables files facts) (imports files facts) (number, component)).component
      (component_at facts (tables files facts) (imports files facts) (components_in files) number component at)
      ∙ and_from _ _ (kind_fits component is) (eq-eqb args (length (component_formals scene component)) (count scene.facts ∙ sym (core_formals scene component)))

  -- there are as many arguments as the component at a spot has formals
  abbrev pub Counts : Spot → ℕ → Type 0
  Counts spot args = (component : Component) → Among (components_in files) component → component_spot component ≡ spot → (outline : Facts) → args ≡ length (parameters_at outline component)

  module _ (names : Names) (named : resolved files ≡ Ok names) (kept : facts.uses ≡ names.uses) where
    -- a name that means a resource has the number of one
    may_make : (spot : Spot) (decl : Decl) (number args : ℕ) → meaning_at facts.uses spot ≡ Some (Declared decl) → is_resource decl.sort ≡ true
        → position (same_spot decl.spot) (tables files facts).components ≡ Some number → Counts decl.spot args → IsTrue (makes_resource (core files facts) number args)
    may_make spot decl number args means is found count =
        let one : IsComponent (components_in files) decl = means_resource files facts names named spot decl (ap (λ uses. meaning_at uses spot) (sym kept) ∙ means) is in
        resource_makes one.component number args one.there (ap (λ (d : Decl). is_resource d.sort) (sym one.is) ∙ is)
        (ap (λ (d : Decl). position (same_spot d.spot) (tables files facts).components) (sym one.is) ∙ found)
        (count one.component (among_in (components_in files) one.component one.there) (ap (λ (d : Decl). d.spot) (sym one.is)))

-- ---- the core of an accepted program

with_operation_at : (core : Core) (number : ℕ) (test : Operation → Bool) (operation : Operation) → slice_get core.operations number ≡ Some operation → with_operation core number test ≡ test operation
with_operation_at core number test operation e = rw e refl

module _ (specs : Specs) (files : List File) (facts : Facts) (names : Names) (named : resolved files ≡ Ok names) (kept : facts.uses ≡ names.uses)
    (services : AllServiceOwn names.uses files (program_known names.uses specs files)) (apart : Apart files) (distinct : IsDistinct same_spot (map component_spot (components_in files)))
    (names_apart : IsDistinct same_spot (map spot_of (flat_map file_names files))) (none : first_refused names.uses specs files ≡ None) (headed : ErrorFree (heads_found names.uses specs files))
    (types : FreeComponents (components_in files) (program_known names.uses specs files)) (checked_so : facts ≡ (checked names.uses specs files).facts) where
  abbrev first : Facts
  first = program_known names.uses specs files

  whole : ErrorFree (components_read (components files facts) first).found
  whole = code_error_free specs files facts names none

  final : facts ≡ (components_read (components files facts) first).facts
  final = code_ends specs files facts names checked_so

  abbrev scene : ℕ → Component → Scene
  scene number component = scene_of facts (tables files facts) (imports files facts) number component

  -- what a test asks of what is made of a resource
  abbrev Makes : (ℕ → ℕ → Bool) → Type 0
  Makes makes =
      (used : Spot) (decl : Decl) (number args : ℕ) → meaning_at facts.uses used ≡ Some (Declared decl) → is_resource decl.sort ≡ true → position (same_spot decl.spot) (tables files facts).components ≡ Some number
      → Counts files facts distinct decl.spot args → IsTrue (makes number args)

  -- what the code of the core invokes passes a test that the rules allow
  all_pass : (test : InvocationTest) → Makes test.makes → ((number : ℕ) (component : Component) → Allowed test (scene number component)) → IsTrue (all_code (core files facts) (code_invokes test))
  all_pass test makes allowed =
      let known = shapes specs files facts names.uses kept apart headed names_apart in
      let good = components_invoke test facts (tables files facts) (imports files facts) known (heads specs files facts names.uses kept apart headed names_apart) facts
      (Between specs files facts names.uses kept apart headed names_apart) (Free specs files facts names.uses kept apart headed names_apart) (Among (components files facts))
      (between specs files facts names.uses kept apart headed names_apart)
      (λ number component there. record {
        allowed = allowed number component;
        reads = λ now h ending. record {
          stay = stays specs files facts names.uses kept apart headed names_apart whole types final number there.0 component now h;
          grows = grows specs files facts names.uses kept apart headed names_apart whole types final number there.0 component now h ending;
          makes = λ used decl ty number arguments means is at known_as takes.
              makes used decl number (length arguments) means is at
              (λ other among spot outline. counted specs files facts names.uses kept apart headed names_apart whole types final there.0 component now h outline other among ty arguments
              (subst (λ s. info_at now.infos s ≡ Some (info.Component ty)) (sym spot) known_as) takes);
          heads = heads_here specs files facts names.uses kept apart headed names_apart whole types final there.0 component now h;
        };
        entry = in_table specs files facts names.uses kept apart headed names_apart whole types final number there.0 component there.1;
      })
      0 (components files facts) (all_among (components files facts)) (code_is_free specs files facts names.uses kept apart headed names_apart) first types (code_placed specs files facts names checked_so names_apart) (between_first specs files facts names.uses kept apart headed names_apart) whole in
      all_code_ok names.uses files first facts kept services apart (code_invokes test) good.codes (from_zero (code_invokes test) (wholes files facts) good.procs)

  ends_at : (number : ℕ) (component : Component) → AllAtEnd (scene number component)
  ends_at = ends specs files facts names.uses kept apart headed names_apart whole types final

  abbrev made_core : Core
  made_core = core files facts

  -- clauses of `HasInvocations`
  pub made_ok : IsTrue (all_code made_core (code_invokes (of_makes (makes_resource made_core))))
  made_ok = all_pass (of_makes (makes_resource made_core)) (may_make files facts distinct names named kept) (λ number component. record {
    ends = ends_at number component;
    calls = λ number operation at may. refl;
    sends = λ number operation at may. refl;
    forwards = λ number operation at. refl;
  })

  pub called_ok : IsTrue (all_code made_core (code_invokes (of_calls (calls_operation made_core))))
  called_ok = all_pass (of_calls (calls_operation made_core)) (λ used decl number args means is found count. refl) (λ number component. record {
    ends = ends_at number component;
    calls = λ number operation at may.
        with_operation_at made_core number (λ (one : Operation). one.can_call && takes one (length operation.parameters)) operation at
        ∙ and_from _ _ may (eq-eqb (length operation.parameters) (length operation.parameters) refl);
    sends = λ number operation at may. refl;
    forwards = λ number operation at. refl;
  })

  pub sent_ok : IsTrue (all_code made_core (code_invokes (of_sends (sends_operation made_core))))
  sent_ok = all_pass (of_sends (sends_operation made_core)) (λ used decl number args means is found count. refl) (λ number component. record {
    ends = ends_at number component;
    calls = λ number operation at may. refl;
    sends = λ number operation at may.
        with_operation_at made_core number (λ (one : Operation). one.can_send && takes one (length operation.parameters)) operation at
        ∙ and_from _ _ may (eq-eqb (length operation.parameters) (length operation.parameters) refl);
    forwards = λ number operation at. refl;
  })

  pub forwarded_ok : IsTrue (all_code made_core (code_invokes (of_forwards (forwards_operation made_core))))
  forwarded_ok = all_pass (of_forwards (forwards_operation made_core)) (λ used decl number args means is found count. refl) (λ number component. record {
    ends = ends_at number component;
    calls = λ number operation at may. refl;
    sends = λ number operation at may. refl;
    forwards = λ number operation at.
        with_operation_at made_core number (λ (one : Operation). takes one (length operation.parameters)) operation at
        ∙ eq-eqb (length operation.parameters) (length operation.parameters) refl;
  })
