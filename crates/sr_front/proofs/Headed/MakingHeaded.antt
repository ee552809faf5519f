-- What makes an instance of a component is known by the formals of the component.
use Rattle.std.proofs.Common.{◌≡◌, ℕ, suc, true, true≢false, List, [], ◌∷◌, ◌++◌, Option, Some, is_some, length, map, flat_map, refl, sym, ap}
use Rattle.std.proofs.lemmas.Bool.{and_parts}
use Rattle.std.specs.List.{IsDistinct}
use Rattle.sr_names.specs.declared.finding.Rule.TheVariants.{BadType}
use Rattle.sr_names.specs.Noted.{Meanings}
use Rattle.sr_names.specs.Searches.{At}
use Rattle.sr_names.specs.Specs.{Specs}
use Rattle.sr_names.specs.Spots.{same_spot, spot_of}
use Rattle.sr_order.specs.Names.{file_names}
use Rattle.sr_tree.specs.declared.component.Component.{Component}
use Rattle.sr_tree.specs.declared.component.File.{File}
use Rattle.sr_tree.specs.Parts.{body_of, formals_of, name_of, spec_of}
use Rattle.sr_types.specs.declared.signature.Signature.{Signature}
use Rattle.sr_types.specs.declared.ty.Ty.{Ty}
use Rattle.sr_types.specs.Signatures.{signature_of}
use Rattle.sr_check.specs.ErrorFree.{ErrorFree}
use Rattle.sr_check.specs.Owners.{component_at}
use Rattle.sr_check.proofs.ErrorFree.{error_free_first, rule_met}
use Rattle.sr_check_expr.specs.declared.facts.Facts.{Facts}
use Rattle.sr_check_expr.specs.declared.info.Info.{Info}
use Rattle.sr_check_expr.specs.declared.info.Info.TheVariants as info
use Rattle.sr_check_expr.specs.Infos.{info_at}
use Rattle.sr_front.proofs.Headed.Heads.{component_headed, declared_type, head_found, heads_found, is_known_as, is_of, items_headed, making_type, spec_items_headed}
use Rattle.sr_check_decl.specs.Inferring.{program_known}
use Rattle.sr_core.specs.declared.component.Parameter.{Parameter}
use Rattle.sr_desugar.specs.Core.{component_formals}
use Rattle.sr_lower_expr.specs.declared.scene.Scene.{Scene}
use Rattle.sr_lower_expr.specs.Places.{formals_of as formals_in, vars_after}
use Rattle.sr_outline.specs.Heads.{parameters_of}
use Rattle.sr_tables.specs.Parts.{components_in}
use Rattle.sr_tables.specs.Shapes.{Shapes}
use Rattle.sr_front.proofs.Known.FirstNames.{operation_first, optype_first}
use Rattle.sr_front.proofs.Names.FirstShares.{first_apart}
use Rattle.sr_front.proofs.Headed.HeadTrees.{making_fits}
use Rattle.sr_front.proofs.Headed.KnownHeaded.{files_each}
use Rattle.sr_front.proofs.Lists.Members.{among_each}
use Rattle.sr_front.proofs.Headed.Optypes.{known_signed}

-- a component is known, and its type has a signature with a param for each name of its formals
pub record IsMade (facts : Facts) (shapes : Shapes) (known : Facts) (tree : Component) : Type 0 where
  pub ty : Ty
  pub signature : Signature
  pub info : info_at known.infos (component_at tree) ≡ Some (info.Component ty)
  pub at : signature_of known.signatures ty ≡ Some signature
  pub params : length signature.params ≡ length (parameters_of facts shapes (formals_of tree))

-- the core has a formal for each of them
as_long : (vars : List ℕ) (parameters : List Parameter) → length (formals_in vars parameters) ≡ length parameters
as_long vars [] = refl
as_long vars (parameter ∷ parameters) = ap suc (as_long (vars_after vars) parameters)

pub core_formals : (scene : Scene) (tree : Component) → length (component_formals scene tree) ≡ length (parameters_of scene.facts scene.tables.shapes (formals_of tree))
core_formals scene tree = as_long _ (parameters_of scene.facts scene.tables.shapes (formals_of tree))

module _ (uses : Meanings) (specs : Specs) (files : List File) (facts : Facts) (shapes : Shapes) (headed : ErrorFree (heads_found uses specs files)) (distinct : IsDistinct same_spot (map spot_of (flat_map file_names files))) where
  abbrev known : Facts
  known = program_known uses specs files

  made_by : (number : ℕ) (tree : Component) → At (components_in files) number tree → ErrorFree (head_found known (name_of tree) (making_type known tree)) → (found : Option Info) → info_at known.infos (component_at tree) ≡ found
      → is_of (making_type known tree) (declared_type found) ≡ true → IsMade facts shapes known tree
  made_by number tree there nothing (Some (info.Component ty)) is same =
      let signed = known_signed known (name_of tree) (making_type known tree) ty nothing (ap declared_type is) in
      record { ty = ty; signature = signed.0; info = is; at = signed.2; params = (making_fits known facts shapes (formals_of tree) signed.0 signed.1).params }
  made_by number tree there nothing (Some (info.Operation ty component is_local)) is same = absurd (first_apart files distinct number tree there (operation_first uses specs files (component_at tree) ty component is_local is))
  made_by number tree there nothing (Some (info.OpType ty)) is same = absurd (first_apart files distinct number tree there (optype_first uses specs files (component_at tree) ty is).0)
  made_by number tree there nothing _ is same = absurd (true≢false (sym same))

  -- each component of a program
  pub making_headed : (number : ℕ) (tree : Component) → At (components_in files) number tree → IsMade facts shapes known tree
  making_headed number tree there =
      let whole = among_each (λ one. ErrorFree (component_headed known one)) (components_in files) number tree (files_each known files headed) there in
      let nothing = error_free_first (head_found known (name_of tree) (making_type known tree)) (spec_items_headed known (spec_of tree) ++ items_headed known (body_of tree)) whole in
      let met = rule_met (is_known_as known (name_of tree) (making_type known tree)) BadType (name_of tree).span nothing in
      made_by number tree there nothing (info_at known.infos (component_at tree)) refl (and_parts (is_some (signature_of known.signatures (making_type known tree))) _ met).1
