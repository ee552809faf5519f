-- Formals, arrays and names of types that pass a test, and a test that lets more pass.
use Rattle.std.proofs.Common.{◌≡◌, Bool, true, false, not, ◌||◌, List, [], ◌∷◌, Option, Some, None, IsTrue, refl, sym, if◌then◌else◌}
use Rattle.std.specs.Option.{option_map}
use Rattle.std.proofs.lemmas.Bool.{false≢true}
use Rattle.std.specs.Prelude.{ℕ}
use Rattle.sr_names.specs.declared.meaning.Decl.{Decl}
use Rattle.sr_tree.specs.declared.types.DimsTree.{DimsTree}
use Rattle.sr_tree.specs.declared.types.RangeTree.{RangeTree}
use Rattle.sr_types.specs.declared.signature.Param.{Param}
use Rattle.sr_types.specs.declared.spot.Spot as types
use Rattle.sr_types.specs.declared.ty.Ty.{Ty, out-Ty}
use Rattle.sr_types.specs.declared.ty.Ty.TheOpen.{Ty-F}
use Rattle.sr_types.specs.declared.ty.Ty.TheVariants as ty
use Rattle.sr_types.specs.Types.{is_no_type, layer_is_untyped}
use Rattle.sr_check_expr.specs.declared.info.Info.{Info}
use Rattle.sr_check_expr.specs.declared.info.Info.TheVariants as info
use Rattle.sr_check_expr.specs.Infos.{type_spot}
use Rattle.sr_check_expr.specs.PredefinedCalls.{is_resource}
use Rattle.sr_check_decl.specs.declared.kind.NamedParam.{NamedParam}
use Rattle.sr_check_decl.specs.declared.kind.Signed.{Signed}
use Rattle.sr_check_decl.specs.Bounds.{item_type_rule, layer_item_type}
use Rattle.sr_check_decl.specs.TypeTrees.{array_by, array_type, capability_by, capability_of, declared_type, params_of, type_by, whole_signature}
use Rattle.sr_check.proofs.Each.{Each}
use Rattle.sr_front.proofs.Typed.PassingTypes.{FoundPasses, InfoPasses, MaybePasses, Passes, SignaturePasses, TypeTest, enum_passes, item_passes, layer_passes, matrix_passes, record_passes, refused_passes, resource_passes, untyped_passes, vector_passes}

module _ (old new : TypeTest) (grown : (number : ℕ) → IsTrue (old.operation number) → IsTrue (new.operation number)) where
  -- an item passes another test that lets all these operations pass
  pub item_lifted : (layer : Ty-F Ty) → IsTrue (item_passes old layer) → IsTrue (item_passes new layer)
  item_lifted (Ty-F.Op number) h = grown number h
  item_lifted (Ty-F.Vector item) h = absurd (false≢true h)
  item_lifted (Ty-F.Matrix item) h = absurd (false≢true h)
  item_lifted Ty-F.Untyped h = absurd (false≢true h)
  item_lifted _ h = refl

  layer_lifted : (IsTrue old.refused → IsTrue new.refused) → (layer : Ty-F Ty) → IsTrue (layer_passes old layer) → IsTrue (layer_passes new layer)
  layer_lifted refused (Ty-F.Op number) h = grown number h
  layer_lifted refused (Ty-F.Vector item) h = item_lifted (out-Ty item) h
  layer_lifted refused (Ty-F.Matrix item) h = item_lifted (out-Ty item) h
  layer_lifted refused Ty-F.Untyped h = refused h
  layer_lifted refused _ h = refl

  -- so does a type
  pub type_lifted : (IsTrue old.refused → IsTrue new.refused) → (type : Ty) → Passes old type → Passes new type
  type_lifted refused type h = layer_lifted refused (out-Ty type) h

  pub maybe_lifted : (IsTrue old.refused → IsTrue new.refused) → (type : Option Ty) → MaybePasses old type → MaybePasses new type
  maybe_lifted refused None h = tt
  maybe_lifted refused (Some type) h = type_lifted refused type h

module _ (test : TypeTest) where
  -- ---- arrays

  like_layer : (layer : Ty-F Ty) → layer_is_untyped layer ≡ false → IsTrue (layer_passes test layer) → IsTrue (layer_item_type layer) → IsTrue (item_passes test layer)
  like_layer (Ty-F.Vector item) kept passes is = absurd (false≢true is)
  like_layer (Ty-F.Matrix item) kept passes is = absurd (false≢true is)
  like_layer (Ty-F.Op number) kept passes is = passes
  like_layer Ty-F.Untyped kept passes is = absurd (false≢true (sym kept))
  like_layer _ kept passes is = refl

  ranged_passes : (second : Option RangeTree) (item : Ty) → IsTrue (item_passes test (out-Ty item)) → Passes test (array_by second item)
  ranged_passes None item like = vector_passes test item like
  ranged_passes (Some range) item like = matrix_passes test item like

  pub array_passes : (dims : DimsTree) (item : Ty) → Passes test item → (item_type_rule item ≡ false → IsTrue test.refused) → Passes test (array_type dims item)
  array_passes dims item passes broken = by (is_no_type item) (item_type_rule item) refl refl
    where
      by : (none rule : Bool) → is_no_type item ≡ none → item_type_rule item ≡ rule → Passes test (if none || not rule then ty.Untyped else array_by dims.second item)
      by true rule is met = untyped_passes test (refused_passes test item passes is)
      by false false is met = untyped_passes test (broken met)
      by false true is met = ranged_passes dims.second item (like_layer (out-Ty item) is passes met)

  -- ---- formals

  abbrev pub ParamsPass : List NamedParam → Type 0
  ParamsPass = Each (λ param. Passes test param.ty)

  params_pass : (params : List NamedParam) → ParamsPass params → Each (λ (param : Param). Passes test param.ty) (params_of params)
  params_pass [] each = tt
  params_pass (param ∷ params) each = (each.0, params_pass params each.1)

  abbrev pub ReturnedPasses : Option NamedParam → Type 0
  ReturnedPasses None = Unit {0}
  ReturnedPasses (Some param) = Passes test param.ty

  returns_pass : (returned : Option NamedParam) → ReturnedPasses returned → MaybePasses test (option_map (λ (param : NamedParam). param.ty) returned)
  returns_pass None h = tt
  returns_pass (Some param) h = h

  pub record AllParamsPass (signed : Signed) : Type 0 where
    pub params : ParamsPass signed.params
    pub returned : ReturnedPasses signed.returned

  pub whole_passes : (signed : Signed) → AllParamsPass signed → SignaturePasses test (whole_signature signed)
  whole_passes signed all = record { params = params_pass signed.params all.params; returns = returns_pass signed.returned all.returned }

  -- ---- names

  declared_so : (decl : Decl) (one : Info) → InfoPasses test one → MaybePasses test (declared_type decl one)
  declared_so decl (info.«Type» type) h = h
  declared_so decl (info.Enumeration number literals) h = enum_passes test _
  declared_so decl (info.Record fields) h = record_passes test _
  declared_so decl _ h = tt

  pub named_passes : (decl : Option Decl) (found : Option Info) → FoundPasses test found → MaybePasses test (type_by decl found)
  named_passes None found h = tt
  named_passes (Some decl) None h = tt
  named_passes (Some decl) (Some one) h = declared_so decl one h

  resource_by : (is : Bool) (spot : types.Spot) → MaybePasses test (if is then Some (ty.Resource spot) else None)
  resource_by true spot = resource_passes test spot
  resource_by false spot = tt

  capability_so : (decl : Decl) (one : Info) → InfoPasses test one → MaybePasses test (capability_of decl one)
  capability_so decl (info.OpType type) h = h
  capability_so decl (info.Component type) h = resource_by (is_resource decl.sort) (type_spot decl.spot)
  capability_so decl _ h = tt

  pub capable_passes : (decl : Option Decl) (found : Option Info) → FoundPasses test found → MaybePasses test (capability_by decl found)
  capable_passes None found h = tt
  capable_passes (Some decl) None h = tt
  capable_passes (Some decl) (Some one) h = capability_so decl one h
