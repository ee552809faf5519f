-- Something is known at the names of components wherever a declaration is read.
use Rattle.std.proofs.Common.{◌≡◌, ◌⊎◌, inl, inr, true, List, [], ◌∷◌, flat_map, is_some, refl, sym, ap, ◌∙◌}
use Rattle.sr_check.proofs.Each.{Each}
use Rattle.sr_check_decl.specs.Declaring.{components_named, files_named, no_facts}
use Rattle.sr_check_decl.specs.Variables.{declare}
use Rattle.sr_check_expr.specs.declared.facts.Facts.{Facts}
use Rattle.sr_check_expr.specs.declared.info.Info.{Info}
use Rattle.sr_check_expr.specs.declared.info.Info.TheVariants as info
use Rattle.sr_check_expr.specs.Infos.{info_at}
use Rattle.sr_names.proofs.Marking.{entry-same}
use Rattle.sr_names.specs.declared.spot.Spot.{Spot}
use Rattle.sr_names.specs.Noted.{Meanings}
use Rattle.sr_names.specs.Specs.{Specs}
use Rattle.sr_names.specs.Spots.{spot_of}
use Rattle.sr_order.specs.Names.{formal_names}
use Rattle.sr_scope.proofs.Findings.{in_either}
use Rattle.sr_scope.specs.Uses.{IsIn}
use Rattle.sr_tables.specs.Parts.{component_spot, components_in}
use Rattle.sr_tree.specs.declared.component.Component.{Component}
use Rattle.sr_tree.specs.declared.component.File.{File}
use Rattle.sr_tree.specs.declared.component.Item.{Item}
use Rattle.sr_tree.specs.declared.component.SpecItem.{SpecItem}
use Rattle.sr_tree.specs.Parts.{formals_of}
use Rattle.sr_types.specs.declared.ty.Ty.TheVariants as ty
use Rattle.sr_value.specs.declared.place.Span.{Span}
use Rattle.sr_front.proofs.Known.DeclaredThen.{KeepsInv}
use Rattle.sr_front.proofs.Known.KeptDeclared.{Declares, keeps_files_named, keeps_head, keeps_item, keeps_named, keeps_spec_item}
use Rattle.sr_front.proofs.Known.KeptNames.{Anywhere, anywhere}
use Rattle.sr_front.proofs.Names.PlainNames.{component_plain, item_plain, spec_plain}
use Rattle.sr_front.proofs.Lists.Put.{put_holds}

module _ (spot : Spot) where
  -- something is known there
  abbrev pub IsKnown : Facts → Type 0
  IsKnown facts = is_some (info_at facts.infos spot) ≡ true

  pub known_with : (facts : Facts) (at : Spot) (one : Info) → IsKnown facts → IsKnown (declare facts at one)
  known_with facts at one h = put_holds facts at one (λ other found. is_some found ≡ true) refl spot (λ apart. h)

  pub known_declares : Declares IsKnown Anywhere
  known_declares = record {
    entered = λ facts signature h. h;
    put = λ facts at one free h. known_with facts at one h;
    operation = λ facts at ty component is_local h. known_with facts at (info.Operation ty component is_local) h;
    standing = λ facts component h. h;
  }

  pub all_free : (all : List Component) → Each (λ one. Each (λ span. Anywhere (spot_of span)) (component_plain one)) all
  all_free [] = tt
  all_free (one ∷ all) = (anywhere (component_plain one), all_free all)

  pub files_free : (files : List File) → Each (λ file. Each (λ one. Each (λ span. Anywhere (spot_of span)) (component_plain one)) file.components) files
  files_free [] = tt
  files_free (file ∷ files) = (all_free file.components, files_free files)

  named_in : (all : List Component) (component : Component) → IsIn component all → component_spot component ≡ spot → (facts : Facts) → IsKnown (components_named all facts)
  named_in [] component k is facts = absurd k
  named_in (one ∷ all) component (inl e) is facts =
      keeps_named IsKnown Anywhere known_declares all _ (all_free all)
      (ap (λ s. is_some (info_at (declare facts (component_spot one) (info.Component ty.Untyped)).infos s)) (sym (ap component_spot e ∙ is)) ∙ ap is_some (entry-same facts.infos (component_spot one) (info.Component ty.Untyped)))
  named_in (one ∷ all) component (inr k) is facts = named_in all component k is _

  named_in_files : (files : List File) (component : Component) → IsIn component (components_in files) → component_spot component ≡ spot → (facts : Facts) → IsKnown (files_named files facts)
  named_in_files [] component k is facts = absurd k
  named_in_files (file ∷ files) component k is facts =
      by (in_either component file.components (components_in files) k) (λ h. named_in_files files component h is (components_named file.components facts))
    where
      by : IsIn component file.components ⊎ IsIn component (components_in files) → (IsIn component (components_in files) → IsKnown (files_named files (components_named file.components facts)))
          → IsKnown (files_named files (components_named file.components facts))
      by (inl h) more = keeps_files_named IsKnown Anywhere known_declares files _ (files_free files) (named_in file.components component h is facts)
      by (inr h) more = more h

module _ (files : List File) where
  abbrev pub AllKnown : Facts → Type 0
  AllKnown facts = (component : Component) → IsIn component (components_in files) → is_some (info_at facts.infos (component_spot component)) ≡ true

  pub named_known : (uses : Meanings) (specs : Specs) → AllKnown (files_named files (no_facts uses specs))
  named_known uses specs component there = named_in_files (component_spot component) files component there refl (no_facts uses specs)

  -- names mean what they mean
  abbrev pub UsesAre : Meanings → Facts → Type 0
  UsesAre uses facts = facts.uses ≡ uses

  pub uses_declares : (uses : Meanings) → Declares (UsesAre uses) Anywhere
  uses_declares uses = record {
    entered = λ facts signature h. h;
    put = λ facts at one free h. h;
    operation = λ facts at ty component is_local h. h;
    standing = λ facts component h. h;
  }

  pub named_uses : (uses : Meanings) (specs : Specs) → (files_named files (no_facts uses specs)).uses ≡ uses
  named_uses uses specs = keeps_files_named (UsesAre uses) Anywhere (uses_declares uses) files (no_facts uses specs) (files_free (record { file = 0; from = 0 }) files) refl

  -- besides, something is known at the names of components, and names mean what they mean
  module _ (uses : Meanings) (Inv : List Span → Facts → Type 0) (SpecFits : SpecItem → Type 0) (ItemFits : Item → Type 0) (HeadFits : Component → Type 0) (keeps : KeepsInv Inv SpecFits ItemFits HeadFits) where
    abbrev pub KnownInv : List Span → Facts → Type 0
    KnownInv after facts = Inv after facts × (AllKnown facts × (facts.uses ≡ uses))

    pub known_kept : KeepsInv KnownInv SpecFits ItemFits HeadFits
    known_kept = record {
      spec_item = λ in_spec one tally after fits rises inv. (
        keeps.spec_item in_spec one tally after fits rises inv.0,
        (
          λ component there. keeps_spec_item (IsKnown (component_spot component)) Anywhere (known_declares (component_spot component)) in_spec one tally (anywhere (spec_plain one)) (inv.1.0 component there),
          keeps_spec_item (UsesAre uses) Anywhere (uses_declares uses) in_spec one tally (anywhere (spec_plain one)) inv.1.1,
        ),
      );
      item = λ one tally after fits rises inv. (
        keeps.item one tally after fits rises inv.0,
        (
          λ component there. keeps_item (IsKnown (component_spot component)) Anywhere (known_declares (component_spot component)) one tally (anywhere (item_plain one)) (inv.1.0 component there),
          keeps_item (UsesAre uses) Anywhere (uses_declares uses) one tally (anywhere (item_plain one)) inv.1.1,
        ),
      );
      head = λ tree facts after fits rises inv. (
        keeps.head tree facts after fits rises inv.0,
        (
          λ component there. keeps_head (IsKnown (component_spot component)) Anywhere (known_declares (component_spot component)) tree facts tt (anywhere (flat_map formal_names (formals_of tree))) (inv.1.0 component there),
          keeps_head (UsesAre uses) Anywhere (uses_declares uses) tree facts tt (anywhere (flat_map formal_names (formals_of tree))) inv.1.1,
        ),
      );
      standing = λ facts component after inv. (keeps.standing facts component after inv.0, inv.1);
      name = λ facts name after inv. (keeps.name facts name after inv.0, inv.1);
    }
