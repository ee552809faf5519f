-- In an accepted program the variable that a name means is one that the component has, if the sorts of names are those of what is known of them.
use Rattle.std.proofs.Common.{◌≡◌, ◌⊎◌, inl, inr, ℕ, suc, ◌+◌, ◌≤◌, Bool, true, false, List, [], ◌∷◌, ◌++◌, Some, None, Ok, is_some, map, flat_map, refl, sym, ap, subst, ◌∙◌, arith}
use Rattle.std.specs.Prelude.{IsTrue, slice_get}
use Rattle.std.specs.List.{IsDistinct}
use Rattle.std.proofs.lemmas.Bool.{false≢true}
use Rattle.sr_check.proofs.Each.{Each}
use Rattle.sr_check_expr.specs.declared.facts.Facts.{Facts}
use Rattle.sr_check_expr.specs.Infos.{info_at}
use Rattle.sr_check_expr.specs.Meanings.{constant_at, is_constant}
use Rattle.sr_core.specs.declared.component.Component.{Component as CoreComponent}
use Rattle.sr_core.specs.declared.component.Core.{Core}
use Rattle.sr_core.specs.Tests.{with_component}
use Rattle.sr_desugar.specs.Bodies.{in_body}
use Rattle.sr_desugar.specs.Core.{scene_of, standing, whole_of}
use Rattle.sr_lower_expr.specs.declared.scene.Scene.{Scene}
use Rattle.sr_lower_expr.specs.Places.{own_root, root_of, operation_number, whose_by}
use Rattle.sr_names.specs.declared.finding.Finding.TheVariants.{Use}
use Rattle.sr_names.specs.declared.meaning.Decl.{Decl}
use Rattle.sr_names.specs.declared.meaning.Meaning.TheVariants.{Declared}
use Rattle.sr_names.specs.declared.spot.Spot.{Spot}
use Rattle.sr_names.specs.Spots.{same_spot, spot_of}
use Rattle.sr_names.specs.Uses.{meaning_at}
use Rattle.sr_order.specs.Names.{block_names, component_names, const_names, file_names, item_names as names_of_item, name_names, names_spans, quantifier_names as quantifier_spans, semaphore_names, signature_names, spec_item_names, statement_names, var_names, where_some}
use Rattle.sr_outline.specs.Numbers.{formal_names, initial_spots, inner_names, item_names, names_in, own_spots, quantifier_names, returned_names, signature_returned}
use Rattle.sr_scope.specs.declared.program.Names.{Names}
use Rattle.sr_scope.specs.Components.{component_found, imported_names, item_imports}
use Rattle.sr_scope.specs.Resolved.{program, resolved}
use Rattle.sr_scope.specs.Uses.{IsIn}
use Rattle.sr_scope.proofs.Among.{at_most_one, names_at, names_both, one_if}
use Rattle.sr_tables.specs.declared.sites.Mention.{Mention}
use Rattle.sr_tables.specs.Parts.{components_in, spot_named}
use Rattle.sr_tables.specs.Tables.{found_at}
use Rattle.sr_tree.specs.declared.component.Component.{Component}
use Rattle.sr_tree.specs.declared.component.File.{File}
use Rattle.sr_tree.specs.declared.component.Item.{Item}
use Rattle.sr_tree.specs.declared.component.Process.{Process}
use Rattle.sr_tree.specs.declared.component.ProcItem.{ProcItem}
use Rattle.sr_tree.specs.declared.component.SpecItem.{SpecItem}
use Rattle.sr_tree.specs.declared.types.Signature.{out-Signature}
use Rattle.sr_tree.specs.Parts.{body_of, spec_of}
use Rattle.sr_value.specs.declared.place.Span.{Span}
use Rattle.sr_front.specs.Variables.{mention_had, mention_stands}
use Rattle.sr_front.proofs.CoreComponents.{component_at}
use Rattle.sr_front.proofs.Known.Declared.{Apart}
use Rattle.sr_front.proofs.Names.Globals.{in_at}
use Rattle.sr_front.proofs.Served.Operations.{components, core, imports, tables}
use Rattle.sr_front.proofs.Own.OwnOrShared.{in_once, is_variable, item_owns}
use Rattle.sr_front.proofs.Mentioned.RootedCode.{AllRooted, ComponentHad, ItemHad, NamesHad, OwnedAt, SpecHad}
use Rattle.sr_front.proofs.Mentioned.RootedParts.{Had, means_value}
use Rattle.sr_front.proofs.Mentioned.RootsHad.{RootHad, SharedRules, UseHad, own_had, send_use_had, spec_use_had, use_had}
use Rattle.sr_front.proofs.Names.UsableNames.{file_fewer}
use Rattle.sr_front.proofs.Names.UsesOfItems.{in_quantifiers, item_found_in, item_in_component, item_once, spec_found_in, spec_in_component}
use Rattle.sr_front.proofs.Names.UsesWithin.{meant_within}
use Rattle.sr_scope.proofs.Findings.{in_flat, in_right}
use Rattle.sr_names.proofs.LinkLemmas.{same_spot-refl}
use Rattle.sr_tables.specs.declared.sites.Mention.TheVariants as mention
use Rattle.sr_tree.specs.declared.component.Item.TheVariants as item
use Rattle.sr_tree.specs.declared.component.SpecItem.TheVariants as spec

-- what is known of a name that isn't one of a variable is no value, but a static constant or an operation
abbrev pub SortFits : List File → Facts → Decl → Type 0
SortFits files facts decl =
    is_variable decl.sort ≡ false → means_value (info_at facts.infos decl.spot) ≡ true → constant_at facts decl.spot ≡ None → found_at (tables files facts).operations decl.spot ≡ None → ⊥

-- so it is with each name that is used in a component
abbrev pub SortsFit : List File → Facts → Component → Type 0
SortsFit files facts component =
    (spot : Spot) (decl : Decl) → IsIn (Use spot (Declared decl)) (component_found (program files).components (program files).specs component) → SortFits files facts decl

each_so : {A : Type 0} (Q : A → Type 0) (xs : List A) → ((x : A) → IsIn x xs → Q x) → Each Q xs
each_so Q [] all = tt
each_so Q (x ∷ xs) all = (all x (inl refl), each_so Q xs (λ one k. all one (inr k)))

with_found : (core : Core) (number : ℕ) (made : CoreComponent) (test : CoreComponent → Bool) → slice_get core.components number ≡ Some made → with_component core number test ≡ test made
with_found core number made test e = rw e refl

module _ (files : List File) (names : Names) (named : resolved files ≡ Ok names) (facts : Facts) (kept : facts.uses ≡ names.uses)
    (distinct : IsDistinct same_spot (map spot_of (flat_map file_names files))) (apart : Apart files) (rules : SharedRules files facts)
    (number : ℕ) (component : Component) (here : slice_get (components files facts) number ≡ Some component) (sorts : SortsFit files facts component) where
  abbrev scene : Scene
  scene = scene_of facts (tables files facts) (imports files facts) number component

  abbrev made : CoreComponent
  made = (whole_of facts (tables files facts) (imports files facts) (number, component)).component

  abbrev test : Mention → Bool
  test = mention_stands (core files facts) number

  there : IsIn component (components_in files)
  there = in_at (components files facts) number component here

  passes : (one : Mention) → mention_had (core files facts) made one ≡ true → IsTrue (test one)
  passes one had =
      with_found (core files facts) number made (λ meant. mention_had (core files facts) meant one) (component_at facts (tables files facts) (imports files facts) (components files facts) number component here) ∙ had

  once : (spot : Spot) → names_at spot (component_names component) ≤ 1
  once spot = omega (arith, file_fewer spot files component there, at_most_one spot (flat_map file_names files) distinct)

  abbrev Within : Spot → Decl → Type 0
  Within spot decl = IsIn (Use spot (Declared decl)) (component_found (program files).components (program files).specs component)

  -- what a name means is found in the component
  found_here : (span : Span) (decl : Decl) → 1 ≤ names_at (spot_of span) (component_names component) → meaning_at facts.uses (spot_of span) ≡ Some (Declared decl) → Within (spot_of span) decl
  found_here span decl stands meant = meant_within files names named distinct component there (spot_of span) decl stands (ap (λ uses. meaning_at uses (spot_of span)) (sym kept) ∙ meant)

  -- where it is used, its root passes
  use_passes : (own : List Spot) (spot : Spot) (decl : Decl) → Within spot decl → UseHad files facts number component own spot decl → means_value (info_at facts.infos decl.spot) ≡ true → constant_at facts decl.spot ≡ None
      → found_at (tables files facts).operations decl.spot ≡ None → IsTrue (test (mention.Variable (root_of (in_body scene own) decl.spot)))
  use_passes own spot decl found used value constant operation = by (is_variable decl.sort) refl
    where
      rooted : (is_constant facts decl.spot ≡ true) ⊎ RootHad files facts number component own decl.spot → IsTrue (test (mention.Variable (root_of (in_body scene own) decl.spot)))
      rooted (inl is) = absurd (false≢true (sym (ap is_some constant) ∙ is))
      rooted (inr root) = passes (mention.Variable (root_of (in_body scene own) decl.spot)) root

      by : (b : Bool) → is_variable decl.sort ≡ b → IsTrue (test (mention.Variable (root_of (in_body scene own) decl.spot)))
      by true is = rooted (used.root is)
      by false is = absurd (sorts spot decl found is value constant operation)

  -- ---- own variables

  owned : (own spots : List Spot) → ((spot : Spot) → IsIn spot spots → IsIn spot own) → OwnedAt (in_body scene own) test spots
  owned own spots among =
      each_so (λ spot. IsTrue (test (mention.Variable (own_root (in_body scene own) spot)))) spots
      (λ spot k. passes (mention.Variable (own_root (in_body scene own) spot)) (own_had files names named facts kept distinct apart rules number component here own spot (among spot k)))

  body_owned : (formals returned : List Spot) (block : List ProcItem)
      → OwnedAt (in_body scene (own_spots scene.facts formals returned block)) test (flat_map (inner_names scene.facts) block)
  body_owned formals returned block =
      let declared = flat_map (inner_names scene.facts) block in
      owned (own_spots scene.facts formals returned block) declared (λ spot k. in_once spot (formals ++ (returned ++ declared)) (in_right spot formals (returned ++ declared) (in_right spot returned declared k)))

  initial_owned : (one : Item) → IsIn one (body_of component) → (spots : List Spot) → ((spot : Spot) → IsIn spot spots → IsIn spot (item_names scene.facts one)) → OwnedAt scene test spots
  initial_owned one among spots each =
      owned (initial_spots scene.facts component) spots
      (λ spot k. in_once spot (flat_map (item_names scene.facts) (body_of component)) (in_flat (item_names scene.facts) one spot (body_of component) among (each spot k)))

  -- ---- names

  abbrev Among : List Span → List Span → Type 0
  Among spans whole = (spot : Spot) → 1 ≤ names_at spot spans → 1 ≤ names_at spot whole

  names_so : (own : List Spot) (spans whole : List Span) → Among spans whole → ((span : Span) → 1 ≤ names_at (spot_of span) whole → Had (in_body scene own) test span) → NamesHad (in_body scene own) test spans
  names_so own [] whole among each = tt
  names_so own (span ∷ spans) whole among each = (each span (among (spot_of span) first), names_so own spans whole (λ spot h. among spot (later spot h)) each)
    where
      counted : names_at (spot_of span) (span ∷ spans) ≡ suc (names_at (spot_of span) spans)
      counted = ap (λ b. one_if b + names_at (spot_of span) spans) (same_spot-refl (spot_of span)) ∙ omega arith

      first : 1 ≤ names_at (spot_of span) (span ∷ spans)
      first = omega (arith, counted)

      later : (spot : Spot) → 1 ≤ names_at spot spans → 1 ≤ names_at spot (span ∷ spans)
      later spot h = omega (arith, h)

  -- ---- items

  module _ (one : Item) (none : item_imports one ≡ []) (among : IsIn one (body_of component)) where
    abbrev own : List Spot
    own = item_owns (standing facts component) component one

    in_component : (span : Span) (decl : Decl) → 1 ≤ names_at (spot_of span) (names_of_item one) → 1 ≤ names_at (spot_of span) (component_names component)
    in_component span decl = item_in_component (spot_of span) decl component one among

    item_name : (span : Span) → 1 ≤ names_at (spot_of span) (names_of_item one) → Had (in_body scene own) test span
    item_name span stands decl meant value constant operation =
        let spot = spot_of span in
        let found = found_here span decl (in_component span decl stands) meant in
        let in_item = item_found_in spot decl files component (once spot) one none among stands found in
        use_passes own spot decl found (use_had files names named facts kept distinct apart rules number component here one among spot decl in_item) value constant operation

    pub item_names_had : (spans : List Span) → Among spans (names_of_item one) → NamesHad (in_body scene own) test spans
    item_names_had spans within = names_so own spans (names_of_item one) within item_name

  -- ---- specs

  module _ (one : SpecItem) (none : imported_names one ≡ []) (among : IsIn one (spec_of component)) where
    abbrev own_initial : List Spot
    own_initial = initial_spots (standing facts component) component

    in_whole : (span : Span) (decl : Decl) → 1 ≤ names_at (spot_of span) (spec_item_names one) → 1 ≤ names_at (spot_of span) (component_names component)
    in_whole span decl = spec_in_component (spot_of span) decl component one among

    spec_name : (span : Span) → 1 ≤ names_at (spot_of span) (spec_item_names one) → Had (in_body scene own_initial) test span
    spec_name span stands decl meant value constant operation =
        let spot = spot_of span in
        let found = found_here span decl (in_whole span decl stands) meant in
        let in_item = spec_found_in spot decl files component (once spot) one none among stands found in
        use_passes own_initial spot decl found (spec_use_had files names named facts kept distinct apart rules number component here one among spot decl in_item) value constant operation

    pub spec_names_had : NamesHad (in_body scene own_initial) test (spec_item_names one)
    spec_names_had = names_so own_initial (spec_item_names one) (spec_item_names one) (λ spot h. h) spec_name

  spec_had : (one : SpecItem) → IsIn one (spec_of component) → SpecHad scene test one
  spec_had (spec.Import declared) among = tt
  spec_had (spec.Const constant) among = spec_names_had (spec.Const constant) refl among
  spec_had (spec.«Type» named) among = tt
  spec_had (spec.OpType named) among = tt
  spec_had (spec.Op operations) among = tt
  spec_had (spec.Var variables) among = spec_names_had (spec.Var variables) refl among
  spec_had (spec.Sem declared) among = spec_names_had (spec.Sem declared) refl among

  body_spec_had : (one : SpecItem) → IsIn (item.Spec one) (body_of component) → SpecHad scene test one
  body_spec_had (spec.Import declared) among = tt
  body_spec_had (spec.Const constant) among = item_names_had (item.Spec (spec.Const constant)) refl among (const_names constant) (λ spot h. h)
  body_spec_had (spec.«Type» named) among = tt
  body_spec_had (spec.OpType named) among = tt
  body_spec_had (spec.Op operations) among = tt
  body_spec_had (spec.Var variables) among = item_names_had (item.Spec (spec.Var variables)) refl among (var_names variables) (λ spot h. h)
  body_spec_had (spec.Sem declared) among = item_names_had (item.Spec (spec.Sem declared)) refl among (flat_map semaphore_names declared.semaphores) (λ spot h. h)

  -- ---- processes

  abbrev quantifiers_in : Process → List Span
  quantifiers_in process = flat_map quantifier_spans process.quantifiers

  module _ (process : Process) (among : IsIn (item.Process process) (body_of component)) where
    abbrev own_sends : List Spot
    own_sends = initial_spots (standing facts component) component

    quantifiers_among : Among (quantifiers_in process) (names_of_item (item.Process process))
    quantifiers_among spot h = omega (arith, h, names_both spot (quantifiers_in process) (block_names process.block))

    quantifier_name : (span : Span) → 1 ≤ names_at (spot_of span) (quantifiers_in process) → Had (in_body scene own_sends) test span
    quantifier_name span stands decl meant value constant operation =
        let spot = spot_of span in
        let whole = quantifiers_among spot stands in
        let found = found_here span decl (in_component (item.Process process) refl among span decl whole) meant in
        let in_item = item_found_in spot decl files component (once spot) (item.Process process) refl among whole found in
        let less = item_once spot decl files component (once spot) (item.Process process) among in
        let in_sends = in_quantifiers spot decl process _ (omega (arith, less)) stands in_item in
        use_passes own_sends spot decl found (send_use_had files names named facts kept distinct apart rules number component here process among spot decl in_sends) value constant operation

    pub quantifiers_had : NamesHad (in_body scene own_sends) test (quantifiers_in process)
    quantifiers_had = names_so own_sends (quantifiers_in process) (quantifiers_in process) (λ spot h. h) quantifier_name

  -- ---- all items

  item_had : (one : Item) → IsIn one (body_of component) → ItemHad scene test one
  item_had (item.Spec declared) among = body_spec_had declared among
  item_had (item.Proc proc) among =
      let formals = names_spans proc.formals in
      let returned = where_some name_names proc.returned in
      record {
        names = item_names_had (item.Proc proc) refl among (block_names proc.block)
            (λ spot h. omega (arith, h, names_both spot formals (returned ++ block_names proc.block), names_both spot returned (block_names proc.block)));
        owned = body_owned (map spot_named proc.formals) (returned_names proc.returned) proc.block;
      }
  item_had (item.Procedure procedure) among = record {
    names = item_names_had (item.Procedure procedure) refl among (block_names procedure.block) (λ spot h. omega (arith, h, names_both spot (signature_names procedure.signature) (block_names procedure.block)));
    owned = body_owned (formal_names (out-Signature procedure.signature).formals) (signature_returned procedure.signature) procedure.block;
  }
  item_had (item.Process process) among = record {
    names = quantifiers_had process among;
    own = initial_owned (item.Process process) among (quantifier_names process.quantifiers) (λ spot k. k);
    body = record {
      names = item_names_had (item.Process process) refl among (block_names process.block) (λ spot h. omega (arith, h, names_both spot (quantifiers_in process) (block_names process.block)));
      owned = body_owned (quantifier_names process.quantifiers) [] process.block;
    };
  }
  item_had (item.Final final) among = record {
    names = item_names_had (item.Final final) refl among (block_names final.block) (λ spot h. h);
    owned = body_owned [] [] final.block;
  }
  item_had (item.Statement statement) among = record {
    names = item_names_had (item.Statement statement) refl among (statement_names statement) (λ spot h. h);
    own = initial_owned (item.Statement statement) among (names_in scene.facts statement) (λ spot k. k);
  }

  pub component_had : ComponentHad scene test component
  component_had = record {
    others = record {
      operations = λ scope one. passes (mention.Operation (whose_by scene scope one)) refl;
      machine = passes mention.Machine refl;
      counts = λ spot operation is. passes (mention.Count (operation_number scene spot)) refl;
    };
    code = record { in_spec = each_so (SpecHad scene test) (spec_of component) spec_had; in_body = each_so (ItemHad scene test) (body_of component) item_had };
  }

-- ---- all components

module _ (files : List File) (names : Names) (named : resolved files ≡ Ok names) (facts : Facts) (kept : facts.uses ≡ names.uses)
    (distinct : IsDistinct same_spot (map spot_of (flat_map file_names files))) (apart : Apart files) (rules : SharedRules files facts) where
  abbrev scene_here : ℕ → Component → Scene
  scene_here number component = scene_of facts (tables files facts) (imports files facts) number component

  abbrev test_here : ℕ → Mention → Bool
  test_here number = mention_stands (core files facts) number

  abbrev Fits : ℕ → Component → Type 0
  Fits number component = ComponentHad (scene_here number component) (test_here number) component

  all_from : (first : ℕ) (trees : List Component) → ((place : ℕ) (component : Component) → slice_get trees place ≡ Some component → Fits (first + place) component) → AllRooted test_here facts (tables files facts) (imports files facts) first trees
  all_from first [] each = tt
  all_from first (component ∷ more) each =
      let start : first + 0 ≡ first = omega arith in (
        subst (λ number. Fits number component) start (each 0 component refl),
        all_from (first + 1) more (λ place one at. later place one (each (suc place) one at)),
      )
    where
      later : (place : ℕ) (one : Component) → Fits (first + suc place) one → Fits ((first + 1) + place) one
      later place one h =
          let next : first + suc place ≡ (first + 1) + place = omega arith in
          subst (λ number. Fits number one) next h

  -- each variable that code names is one that the component has
  pub all_rooted : ((component : Component) → IsIn component (components_in files) → SortsFit files facts component) → AllRooted test_here facts (tables files facts) (imports files facts) 0 (components files facts)
  all_rooted sorts = all_from 0 (components files facts) (λ place component at. start place component (component_had files names named facts kept distinct apart rules place component at (sorts component (in_at (components files facts) place component at))))
    where
      start : (place : ℕ) (component : Component) → Fits place component → Fits (0 + place) component
      start place component h =
          let same : place ≡ 0 + place = omega arith in
          subst (λ number. Fits number component) same h
