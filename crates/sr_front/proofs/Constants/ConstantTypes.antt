-- The own type of a constant takes its value where it is declared, as where it is checked: so constants in the specs of resources are static in the end where their values have types.
use Rattle.std.proofs.Common.{◌≡◌, inl, inr, ℕ, Bool, true, false, ◌&&◌, ◌||◌, List, flat_map, map, Option, Some, None, Ok, refl, sym, ap, ◌∙◌}
use Rattle.std.specs.List.{IsDistinct}
use Rattle.sr_check.proofs.Each.{Each}
use Rattle.sr_check.specs.Checked.{first_refused}
use Rattle.sr_check.specs.Components.{components_read}
use Rattle.sr_check.specs.ErrorFree.{ErrorFree}
use Rattle.sr_check_decl.specs.Constants.{has_type_of, written_found, written_kind}
use Rattle.sr_check_decl.specs.TypeTrees.{fixed_bounds, type_kinding}
use Rattle.sr_check_expr.specs.declared.facts.Facts.{Facts}
use Rattle.sr_names.specs.declared.meaning.Sort.TheVariants.{Resource as resource_sort}
use Rattle.sr_names.specs.Specs.{Specs}
use Rattle.sr_names.specs.Spots.{same_spot, spot_of}
use Rattle.sr_names.specs.Uses.{meaning_at}
use Rattle.sr_order.specs.Names.{file_names, type_names, where_some}
use Rattle.sr_scope.specs.Components.{sort_of}
use Rattle.sr_scope.specs.declared.program.Names.{Names}
use Rattle.sr_scope.specs.Resolved.{resolved}
use Rattle.sr_scope.specs.Uses.{IsIn}
use Rattle.sr_tables.specs.Parts.{components_in}
use Rattle.sr_tree.specs.declared.component.Component.{Component}
use Rattle.sr_tree.specs.declared.component.File.{File}
use Rattle.sr_tree.specs.declared.component.SpecItem.TheVariants as spec
use Rattle.sr_tree.specs.declared.declaration.ConstDecl.{ConstDecl}
use Rattle.sr_tree.specs.declared.types.TypeTree.{TypeTree}
use Rattle.sr_tree.specs.Parts.{spec_of}
use Rattle.sr_types.specs.declared.signature.Signature.{Signature}
use Rattle.sr_types.specs.declared.ty.Ty.{Ty}
use Rattle.sr_types.specs.declared.ty.Ty.TheVariants as ty
use Rattle.sr_types.specs.Equality.{same_type}
use Rattle.sr_types.specs.Signatures.{number_of}
use Rattle.sr_types.specs.Types.{are_nulls, fits_type, is_cap_type, is_no_type, is_null_type}
use Rattle.sr_front.proofs.Constants.ConstantsChecked.{constant_written}
use Rattle.sr_front.proofs.Constants.ConstantsMet.{checked, constants_static, declaring, ends_here, first, here, here_uses, value, waves, whole}
use Rattle.sr_front.proofs.Known.KeptDeclared.{keeps_if}
use Rattle.sr_front.proofs.Typed.NumbersStay.{Numbered, numbered_declares, numbered_steady}
use Rattle.sr_front.proofs.Own.OwnOrShared.{ConstantsStatic}
use Rattle.sr_front.proofs.Known.ProgramReads.{meanings_then, reading_uses}
use Rattle.sr_front.proofs.Mentioned.ReadsCode.{component_inside}
use Rattle.sr_front.proofs.Lists.Rising.{Rises}
use Rattle.sr_front.proofs.Constants.StaticNames.{SameMeaning}
use Rattle.sr_front.proofs.Known.TypesRead.{type_then}
use Rattle.sr_front.proofs.Known.TypesThen.{SameOrNone, no_type}
use Rattle.sr_front.proofs.Names.RightNames.{spec_names_right}
use Rattle.sr_front.proofs.Known.DeclaredThen.{names_of_components}
use Rattle.sr_front.proofs.Known.KeptNames.{Anywhere, anywhere}

-- what has no type takes everything
fits_none : (value : Ty) → fits_type value ty.Untyped ≡ true
fits_none value =
    ap (λ c. same_type value ty.Untyped || (is_no_type value || (c || rest))) no_type ∙ by (same_type value ty.Untyped) (is_no_type value)
  where
    rest : Bool
    rest = (is_null_type value && is_cap_type ty.Untyped) || are_nulls value ty.Untyped

    by : (a b : Bool) → (a || (b || true)) ≡ true
    by true b = refl
    by false true = refl
    by false false = refl

module _ (files : List File) (names : Names) (named : resolved files ≡ Ok names) (distinct : IsDistinct same_spot (map spot_of (flat_map file_names files))) (rises : Rises (flat_map file_names files)) (specs : Specs)
    (none : first_refused names.uses specs files ≡ None) where
  abbrev all : List Component
  all = components_in files

  module _ (component : Component) (there : IsIn component all) (constant : ConstDecl) (among : IsIn (spec.Const constant) (spec_of component)) where
    abbrev now : Facts
    now = declaring files names named distinct rises specs none component there constant among

    abbrev end : Facts
    end = here files names named distinct rises specs none component there

    numbers : (signature : Signature) (number : ℕ) → number_of now.signatures signature ≡ Some number → number_of end.signatures signature ≡ Some number
    numbers signature number is =
        let then = whole files names named distinct rises specs none component there constant among in
        (checked files names named distinct rises specs none component there).reads (Numbered signature number) Anywhere (numbered_steady signature number) (anywhere (flat_map component_inside all))
        (ap (λ signatures. number_of signatures signature) (waves files names named distinct rises specs none).signatures
        ∙ then.leads (Numbered signature number) Anywhere (numbered_declares signature number) (anywhere (names_of_components files)) (anywhere then.after)
        (keeps_if (Numbered signature number) Anywhere (numbered_declares signature number) _ constant.name _ now tt is))

    names_mean : Each (λ used. SameMeaning now end (meaning_at end.uses (spot_of used))) (where_some type_names constant.ty)
    names_mean =
        meanings_then files names named distinct rises specs component there true constant (whole files names named distinct rises specs none component there constant among) end
        (ends_here files names named distinct rises specs none component there) (here_uses files names named distinct rises specs none component there) (spec_names_right files names named distinct component there (spec.Const constant) refl among)

    same_uses : now.uses ≡ end.uses
    same_uses =
        reading_uses files names named distinct rises specs component there true constant (whole files names named distinct rises specs none component there constant among)
        ∙ sym (here_uses files names named distinct rises specs none component there)

    abbrev type : Ty
    type = (value files names named distinct rises specs none component there constant among).ty

    takes : has_type_of (written_kind end constant.ty) (value files names named distinct rises specs none component there constant among) ≡ true
        → has_type_of (written_kind now constant.ty) (value files names named distinct rises specs none component there constant among) ≡ true
    takes = by constant.ty names_mean (constant_written all (first files names named distinct rises specs none) component (checked files names named distinct rises specs none component there) constant among)
      where
        last : (a b : Ty) → SameOrNone a b → fits_type type b ≡ true → fits_type type a ≡ true
        last a b (inl e) h = ap (fits_type type) e ∙ h
        last a b (inr none) h = ap (fits_type type) none ∙ fits_none type

        by : (written : Option TypeTree) → Each (λ used. SameMeaning now end (meaning_at end.uses (spot_of used))) (where_some type_names written) → ErrorFree (written_found end written)
            → has_type_of (written_kind end written) (value files names named distinct rises specs none component there constant among) ≡ true
            → has_type_of (written_kind now written) (value files names named distinct rises specs none component there constant among) ≡ true
        by None same found h = h
        by (Some tree) same found h =
            last (type_kinding tree now fixed_bounds).kind.ty (type_kinding tree end fixed_bounds).kind.ty (type_then now end same_uses numbers tree same fixed_bounds found) h

  -- the constants in the specs of resources are static, where their values have types
  pub typed_static : ((component : Component) (there : IsIn component all) (constant : ConstDecl) (among : IsIn (spec.Const constant) (spec_of component)) → sort_of component ≡ resource_sort
      → is_no_type (value files names named distinct rises specs none component there constant among).ty ≡ false) → ConstantsStatic files (components_read all (first files names named distinct rises specs none)).facts
  typed_static typed =
      constants_static files names named distinct rises specs none
      (λ component there constant among is. record { typed = typed component there constant among is; takes = takes component there constant among })
