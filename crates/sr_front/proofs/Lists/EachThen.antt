-- Where each item and each head of a component is declared: what is known there, and that what is declared after it leads from
-- there to all that is declared.
use Rattle.std.proofs.Common.{◌≡◌, ◌⊎◌, inl, inr, true, List, [], ◌∷◌, ◌++◌, append_assoc, flat_map, map, Ok, refl, subst}
use Rattle.std.specs.List.{IsDistinct}
use Rattle.sr_check.proofs.Each.{Each, each-left, each-right}
use Rattle.sr_check_decl.specs.declared.tally.Tally.{Tally}
use Rattle.sr_check_decl.specs.Declaring.{component_declared, components_declared, files_declared, files_named, head_declared, item_declared, items_declared, no_facts, spec_item_declared, spec_items_declared}
use Rattle.sr_check_expr.specs.declared.facts.Facts.{Facts}
use Rattle.sr_names.specs.Specs.{Specs}
use Rattle.sr_names.specs.Spots.{same_spot, spot_of}
use Rattle.sr_order.specs.Names.{component_names, file_names, formal_names, item_names, spec_item_names}
use Rattle.sr_scope.proofs.Findings.{in_either}
use Rattle.sr_scope.specs.declared.program.Names.{Names}
use Rattle.sr_scope.specs.Resolved.{resolved}
use Rattle.sr_scope.specs.Uses.{IsIn}
use Rattle.sr_tables.specs.Parts.{components_in}
use Rattle.sr_tree.specs.declared.component.Component.{Component}
use Rattle.sr_tree.specs.declared.component.File.{File}
use Rattle.sr_tree.specs.declared.component.Item.{Item}
use Rattle.sr_tree.specs.declared.component.SpecItem.{SpecItem}
use Rattle.sr_tree.specs.Parts.{body_of, formals_of, name_of, spec_of}
use Rattle.sr_value.specs.declared.place.Span.{Span}
use Rattle.sr_front.proofs.Known.DeclaredThen.{KeepsInv, at_body, at_head, at_spec, from_body, from_formals, from_specs, inv_at_body, inv_at_head, inv_at_spec, inv_component, inv_components, rises_assoc}
use Rattle.sr_front.proofs.Known.FilesInOrder.{Fit, HeadFine, Inv, ItemFine, SpecFine, all_fit, components, final, first_inv, kept}
use Rattle.sr_front.proofs.Known.KeptAll.{LeadsAll, keeps_components, keeps_files, keeps_head, keeps_items, keeps_spec}
use Rattle.sr_front.proofs.Lists.Rising.{BeforeAll, Rises, rises_right}

module _ (files : List File) (names : Names) (named : resolved files ≡ Ok names) (distinct : IsDistinct same_spot (map spot_of (flat_map file_names files))) (rises : Rises (flat_map file_names files)) (specs : Specs) where
  abbrev Known : List Span → Facts → Type 0
  Known = Inv files names named distinct rises specs

  abbrev SpecGood : SpecItem → Type 0
  SpecGood = SpecFine files names named distinct rises specs

  abbrev ItemGood : Item → Type 0
  ItemGood = ItemFine files names named distinct rises specs

  abbrev HeadGood : Component → Type 0
  HeadGood = HeadFine files names named distinct rises specs

  abbrev named_all : List Span
  named_all = components files names named distinct rises specs

  abbrev end : Facts
  end = final files names named distinct rises specs

  abbrev keeps : KeepsInv Known SpecGood ItemGood HeadGood
  keeps = kept files names named distinct rises specs

  abbrev Fits : Component → Type 0
  Fits = Fit files names named distinct rises specs

  abbrev Before : Component → List Span → Type 0
  Before here = BeforeAll (spot_of (name_of here).span)

  -- where a part of a component with these names is declared: `own` are names that may be declared again
  pub record ThenIn (here : Component) (own part : List Span) (now after : Facts) : Type 1 where
    pub rest : List Span
    pub inv : Known (part ++ rest) now
    pub rising : Rises (part ++ rest)
    pub before : Before here (part ++ rest)
    pub leads : LeadsAll (own ++ rest) after end

  abbrev pub SpecThen : Component → SpecItem → Type 1
  SpecThen here one = (tally : Tally) × ThenIn here ((name_of here).span ∷ []) (spec_item_names one) tally.facts (spec_item_declared true one tally).facts

  abbrev pub ItemThen : Component → Item → Type 1
  ItemThen here one = (tally : Tally) × ThenIn here [] (item_names one) tally.facts (item_declared one tally).facts

  abbrev pub HeadThen : Component → Type 1
  HeadThen here = (now : Facts) × ThenIn here [] (flat_map formal_names (formals_of here)) now (head_declared here now)

  pub record ComponentThen (here : Component) : Type 1 where
    pub in_spec : (one : SpecItem) → IsIn one (spec_of here) → SpecThen here one
    pub head : HeadThen here
    pub in_body : (one : Item) → IsIn one (body_of here) → ItemThen here one

  known_assoc : (xs ys zs : List Span) (facts : Facts) → Known ((xs ++ ys) ++ zs) facts → Known (xs ++ (ys ++ zs)) facts
  known_assoc xs ys zs facts inv = subst (λ some. Known some facts) (append_assoc xs ys zs) inv

  before_assoc : (here : Component) (xs ys zs : List Span) → Before here ((xs ++ ys) ++ zs) → Before here (xs ++ (ys ++ zs))
  before_assoc here xs ys zs before = subst (Before here) (append_assoc xs ys zs) before

  module _ (here : Component) where
    abbrev own : Span
    own = (name_of here).span

    right_of : (xs ys : List Span) → Before here (xs ++ ys) → Before here ys
    right_of xs ys before = each-right _ xs ys before

    specs_then : (items : List SpecItem) (tally : Tally) (after : List Span) → Each SpecGood items → Known (flat_map spec_item_names items ++ after) tally.facts → Rises (flat_map spec_item_names items ++ after)
        → Before here (flat_map spec_item_names items ++ after) → LeadsAll (own ∷ after) (spec_items_declared items tally).facts end → (one : SpecItem) → IsIn one items → SpecThen here one
    specs_then [] tally after fine inv rising before leads one k = absurd k
    specs_then (first ∷ items) tally after fine inv rising before leads one (inl e) =
        let part = spec_item_names first in
        let more = flat_map spec_item_names items in
        subst (λ it. SpecThen here it) e (
          tally,
          record {
            rest = more ++ after;
            inv = known_assoc part more after tally.facts inv;
            rising = rises_assoc part more after rising;
            before = before_assoc here part more after before;
            leads = λ Q Free declares free h.
                leads Q Free declares (free.0, each-right (λ span. Free (spot_of span)) more after free.1)
                (keeps_spec Q Free declares items (spec_item_declared true first tally) (each-left (λ span. Free (spot_of span)) more after free.1) h);
          },
        )
    specs_then (first ∷ items) tally after fine inv rising before leads one (inr k) =
        let part = spec_item_names first in
        let more = flat_map spec_item_names items in
        let rising_here = rises_assoc part more after rising in
        specs_then items (spec_item_declared true first tally) after fine.1 (keeps.spec_item true first tally (more ++ after) fine.0 rising_here (known_assoc part more after tally.facts inv))
        (rises_right part (more ++ after) rising_here) (right_of part (more ++ after) (before_assoc here part more after before)) leads one k

    items_then : (items : List Item) (tally : Tally) (after : List Span) → Each ItemGood items → Known (flat_map item_names items ++ after) tally.facts → Rises (flat_map item_names items ++ after)
        → Before here (flat_map item_names items ++ after) → LeadsAll after (items_declared items tally).facts end → (one : Item) → IsIn one items → ItemThen here one
    items_then [] tally after fine inv rising before leads one k = absurd k
    items_then (first ∷ items) tally after fine inv rising before leads one (inl e) =
        let part = item_names first in
        let more = flat_map item_names items in
        subst (λ it. ItemThen here it) e (
          tally,
          record {
            rest = more ++ after;
            inv = known_assoc part more after tally.facts inv;
            rising = rises_assoc part more after rising;
            before = before_assoc here part more after before;
            leads = λ Q Free declares free h.
                leads Q Free declares (each-right (λ span. Free (spot_of span)) more after free)
                (keeps_items Q Free declares items (item_declared first tally) (each-left (λ span. Free (spot_of span)) more after free) h);
          },
        )
    items_then (first ∷ items) tally after fine inv rising before leads one (inr k) =
        let part = item_names first in
        let more = flat_map item_names items in
        let rising_here = rises_assoc part more after rising in
        items_then items (item_declared first tally) after fine.1 (keeps.item first tally (more ++ after) fine.0 rising_here (known_assoc part more after tally.facts inv))
        (rises_right part (more ++ after) rising_here) (right_of part (more ++ after) (before_assoc here part more after before)) leads one k

    component_then : (tally : Tally) (after : List Span) → Fits here → Known (component_names here ++ after) tally.facts → Rises (component_names here ++ after) → LeadsAll after (component_declared here tally).facts end → ComponentThen here
    component_then tally after fit inv rising leads = record { in_spec = in_spec; head = (head_tally.facts, at_formals); in_body = in_body }
      where
        parts : List Span
        parts = flat_map spec_item_names (spec_of here)

        formals : List Span
        formals = flat_map formal_names (formals_of here)

        body : List Span
        body = flat_map item_names (body_of here)

        spec_tally : Tally
        spec_tally = at_spec Known SpecGood ItemGood HeadGood keeps named_all end here tally

        head_tally : Tally
        head_tally = at_head Known SpecGood ItemGood HeadGood keeps named_all end here tally

        body_tally : Tally
        body_tally = at_body Known SpecGood ItemGood HeadGood keeps named_all end here tally

        before_specs : Before here (parts ++ ((formals ++ body) ++ after))
        before_specs = before_assoc here parts (formals ++ body) after rising.0

        before_formals : Before here (formals ++ (body ++ after))
        before_formals = before_assoc here formals body after (right_of parts ((formals ++ body) ++ after) before_specs)

        before_body : Before here (body ++ after)
        before_body = right_of formals (body ++ after) before_formals

        in_spec : (one : SpecItem) → IsIn one (spec_of here) → SpecThen here one
        in_spec =
            specs_then (spec_of here) spec_tally ((formals ++ body) ++ after) fit.specs (inv_at_spec Known SpecGood ItemGood HeadGood keeps named_all end here tally after fit rising inv)
            (from_specs Known SpecGood ItemGood HeadGood keeps named_all end here tally after fit rising inv) before_specs
            (λ Q Free declares free h.
            let inner = each-left (λ span. Free (spot_of span)) (formals ++ body) after free.1 in
            leads Q Free declares (each-right (λ span. Free (spot_of span)) (formals ++ body) after free.1)
            (keeps_items Q Free declares (body_of here) body_tally (each-right (λ span. Free (spot_of span)) formals body inner)
            (keeps_head Q Free declares here head_tally.facts free.0 (each-left (λ span. Free (spot_of span)) formals body inner) h)))

        at_formals : ThenIn here [] formals head_tally.facts (head_declared here head_tally.facts)
        at_formals = record {
          rest = body ++ after;
          inv = inv_at_head Known SpecGood ItemGood HeadGood keeps named_all end here tally after fit rising inv;
          rising = from_formals Known SpecGood ItemGood HeadGood keeps named_all end here tally after fit rising inv;
          before = before_formals;
          leads = λ Q Free declares free h.
              leads Q Free declares (each-right (λ span. Free (spot_of span)) body after free)
              (keeps_items Q Free declares (body_of here) body_tally (each-left (λ span. Free (spot_of span)) body after free) h);
        }

        in_body : (one : Item) → IsIn one (body_of here) → ItemThen here one
        in_body =
            items_then (body_of here) body_tally after fit.items (inv_at_body Known SpecGood ItemGood HeadGood keeps named_all end here tally after fit rising inv)
            (from_body Known SpecGood ItemGood HeadGood keeps named_all end here tally after fit rising inv) before_body leads

  -- ---- all of them

  components_then : (some : List Component) (tally : Tally) (after : List Span) → Each Fits some → Known (flat_map component_names some ++ after) tally.facts → Rises (flat_map component_names some ++ after)
      → LeadsAll after (components_declared some tally).facts end → (component : Component) → IsIn component some → ComponentThen component
  components_then [] tally after fit inv rising leads component k = absurd k
  components_then (one ∷ some) tally after fit inv rising leads component (inl e) =
      let part = component_names one in
      let more = flat_map component_names some in
      subst (λ it. ComponentThen it) e
      (component_then one tally (more ++ after) fit.0 (known_assoc part more after tally.facts inv) (rises_assoc part more after rising)
      (λ Q Free declares free h.
      leads Q Free declares (each-right (λ span. Free (spot_of span)) more after free)
      (keeps_components Q Free declares some (component_declared one tally) (each-left (λ span. Free (spot_of span)) more after free) h)))
  components_then (one ∷ some) tally after fit inv rising leads component (inr k) =
      let part = component_names one in
      let more = flat_map component_names some in
      let rising_here = rises_assoc part more after rising in
      components_then some (component_declared one tally) after fit.1
      (inv_component Known SpecGood ItemGood HeadGood keeps named_all end one tally (more ++ after) fit.0 rising_here (known_assoc part more after tally.facts inv))
      (rises_right part (more ++ after) rising_here) leads component k

  files_then : (some : List File) (tally : Tally) → Each Fits (components_in some) → Known (flat_map file_names some) tally.facts → Rises (flat_map file_names some) → (files_declared some tally).facts ≡ end
      → (component : Component) → IsIn component (components_in some) → ComponentThen component
  files_then [] tally fit inv rising is component k = absurd k
  files_then (file ∷ some) tally fit inv rising is component k =
      by (in_either component file.components (components_in some) k)
      (files_then some (components_declared file.components tally) (each-right Fits file.components (components_in some) fit)
      (inv_components Known SpecGood ItemGood HeadGood keeps named_all end file.components tally (flat_map file_names some) (each-left Fits file.components (components_in some) fit) rising inv)
      (rises_right (file_names file) (flat_map file_names some) rising) is component)
    where
      by : IsIn component file.components ⊎ IsIn component (components_in some) → (IsIn component (components_in some) → ComponentThen component) → ComponentThen component
      by (inl h) more =
          components_then file.components tally (flat_map file_names some) (each-left Fits file.components (components_in some) fit) inv rising
          (λ Q Free declares free q. subst Q is (keeps_files Q Free declares some (components_declared file.components tally) free q)) component h
      by (inr h) more = more h

  -- each component of the program
  pub each_then : (component : Component) → IsIn component (components_in files) → ComponentThen component
  each_then = files_then files (record { facts = files_named files (no_facts names.uses specs); enumerations = 0 }) (all_fit files names named distinct rises specs) (first_inv files names named distinct rises specs) rises refl
