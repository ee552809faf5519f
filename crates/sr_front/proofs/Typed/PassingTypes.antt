-- Types that pass a test, and rules that give such where their parts do. A test asks whether a type is one at all, or whether its
-- operations have a signature.
use Rattle.std.proofs.Common.{◌≡◌, Bool, true, false, not, List, [], ◌∷◌, Option, Some, None, IsTrue, refl, ap, subst, ◌∙◌, if◌then◌else◌}
use Rattle.std.specs.Prelude.{ℕ, find}
use Rattle.std.specs.Option.{option_and_then, option_map}
use Rattle.std.specs.Str.{bytes_eq}
use Rattle.std.proofs.lemmas.Bool.{false≢true}
use Rattle.sr_value.specs.declared.operator.Operator.{Operator}
use Rattle.sr_names.specs.declared.spot.Spot.{Spot}
use Rattle.sr_types.specs.declared.aggregates.Repeated.{Repeated}
use Rattle.sr_types.specs.declared.operators.Operand.{Operand}
use Rattle.sr_types.specs.declared.operators.Operand.TheVariants as operand
use Rattle.sr_types.specs.declared.operators.Operands.{Operands}
use Rattle.sr_types.specs.declared.operators.Operands.TheVariants as operands
use Rattle.sr_types.specs.declared.signature.Param.{Param}
use Rattle.sr_types.specs.declared.signature.Signature.{Signature}
use Rattle.sr_types.specs.declared.spot.Spot as types
use Rattle.sr_types.specs.declared.ty.Ty.{Ty, out-Ty, roll-Ty, out-roll-Ty}
use Rattle.sr_types.specs.declared.ty.Ty.TheOpen.{Ty-F}
use Rattle.sr_types.specs.declared.ty.Ty.TheVariants as ty
use Rattle.sr_types.specs.declared.typed.Outcome.{Outcome}
use Rattle.sr_types.specs.declared.typed.Outcome.TheVariants.{Broken, Met}
use Rattle.sr_types.specs.declared.typed.Static.{Static}
use Rattle.sr_types.specs.declared.typed.Typed.{Typed}
use Rattle.sr_types.specs.Aggregates.{array_with, are_counted, bracketed_rule, common_of_all, common_type, layer_array}
use Rattle.sr_types.specs.Operators.{binary_rule, binary_with, operand_type, operand_wanted, operands_wanted, unary_rule, unary_with, whole_type}
use Rattle.sr_types.specs.Outcomes.{computed, met_if}
use Rattle.sr_types.specs.Parts.{index_one_rule, index_two_rule, indexed, item_of_one, item_of_two, layer_item, layer_item_of_two}
use Rattle.sr_types.specs.Signatures.{layer_signature, signature_at, signature_of}
use Rattle.sr_types.specs.Types.{fits_type, is_no_type, layer_is_untyped}
use Rattle.sr_check_expr.specs.declared.facts.Facts.{Facts}
use Rattle.sr_check_expr.specs.declared.info.FieldInfo.{FieldInfo}
use Rattle.sr_check_expr.specs.declared.info.Info.{Info}
use Rattle.sr_check_expr.specs.declared.info.Info.TheVariants as info
use Rattle.sr_check_expr.specs.Infos.{info_at}
use Rattle.sr_check_expr.specs.Meanings.{known}
use Rattle.sr_check_expr.specs.Naming.{field_named, fields_of}
use Rattle.sr_check.proofs.Each.{Each}

-- ---- tests

-- which types pass: that of what was refused, and those of operations
pub record TypeTest : Type 0 where
  pub refused : Bool
  pub operation : ℕ → Bool

-- what is asked but in one case
abbrev pub Unless : Bool → Type 0 → Type 0
Unless true asked = Unit {0}
Unless false asked = asked

pub unless_so : (but : Bool) (P Q : Type 0) → (P → Q) → Unless but P → Unless but Q
unless_so true P Q f h = tt
unless_so false P Q f h = f h

module _ (test : TypeTest) where
  -- ---- types

  -- an item is no array, and never what was refused
  abbrev pub item_passes : {A : Type 0} → Ty-F A → Bool
  item_passes (Ty-F.Op number) = test.operation number
  item_passes (Ty-F.Vector item) = false
  item_passes (Ty-F.Matrix item) = false
  item_passes Ty-F.Untyped = false
  item_passes _ = true

  abbrev pub layer_passes : Ty-F Ty → Bool
  layer_passes (Ty-F.Op number) = test.operation number
  layer_passes (Ty-F.Vector item) = item_passes (out-Ty item)
  layer_passes (Ty-F.Matrix item) = item_passes (out-Ty item)
  layer_passes Ty-F.Untyped = test.refused
  layer_passes _ = true

  -- a type that passes, and so do its items
  abbrev pub Passes : Ty → Type 0
  Passes type = IsTrue (layer_passes (out-Ty type))

  pub rolled_passes : (layer : Ty-F Ty) → IsTrue (layer_passes layer) → Passes (roll-Ty layer)
  rolled_passes layer h = ap layer_passes (out-roll-Ty layer) ∙ h

  pub int_passes : Passes ty.Int
  int_passes = subst Passes ty.rolls-Int (rolled_passes Ty-F.Int refl)

  pub bool_passes : Passes ty.Bool
  bool_passes = subst Passes ty.rolls-Bool (rolled_passes Ty-F.Bool refl)

  pub char_passes : Passes ty.Char
  char_passes = subst Passes ty.rolls-Char (rolled_passes Ty-F.Char refl)

  pub str_passes : Passes ty.Str
  str_passes = subst Passes ty.rolls-Str (rolled_passes Ty-F.Str refl)

  pub vm_passes : Passes ty.Vm
  vm_passes = subst Passes ty.rolls-Vm (rolled_passes Ty-F.Vm refl)

  pub null_passes : Passes ty.NullCap
  null_passes = subst Passes ty.rolls-NullCap (rolled_passes Ty-F.NullCap refl)

  pub untyped_passes : IsTrue test.refused → Passes ty.Untyped
  untyped_passes h = subst Passes ty.rolls-Untyped (rolled_passes Ty-F.Untyped h)

  pub enum_passes : (spot : types.Spot) → Passes (ty.Enum spot)
  enum_passes spot = subst Passes (ty.rolls-Enum spot) (rolled_passes (Ty-F.Enum spot) refl)

  pub record_passes : (spot : types.Spot) → Passes (ty.Rec spot)
  record_passes spot = subst Passes (ty.rolls-Rec spot) (rolled_passes (Ty-F.Rec spot) refl)

  pub resource_passes : (spot : types.Spot) → Passes (ty.Resource spot)
  resource_passes spot = subst Passes (ty.rolls-Resource spot) (rolled_passes (Ty-F.Resource spot) refl)

  pub op_passes : (number : ℕ) → IsTrue (test.operation number) → Passes (ty.Op number)
  op_passes number h = subst Passes (ty.rolls-Op number) (rolled_passes (Ty-F.Op number) h)

  pub vector_passes : (item : Ty) → IsTrue (item_passes (out-Ty item)) → Passes (ty.Vector item)
  vector_passes item h = subst Passes (ty.rolls-Vector item) (rolled_passes (Ty-F.Vector item) h)

  pub matrix_passes : (item : Ty) → IsTrue (item_passes (out-Ty item)) → Passes (ty.Matrix item)
  matrix_passes item h = subst Passes (ty.rolls-Matrix item) (rolled_passes (Ty-F.Matrix item) h)

  item_layer : (layer : Ty-F Ty) → IsTrue (item_passes layer) → IsTrue (layer_passes layer)
  item_layer (Ty-F.Vector item) h = absurd (false≢true h)
  item_layer (Ty-F.Matrix item) h = absurd (false≢true h)
  item_layer (Ty-F.Op number) h = h
  item_layer Ty-F.Untyped h = absurd (false≢true h)
  item_layer _ h = refl

  refused_layer : (layer : Ty-F Ty) → IsTrue (layer_passes layer) → layer_is_untyped layer ≡ true → IsTrue test.refused
  refused_layer Ty-F.Untyped h is = h
  refused_layer _ h is = absurd (false≢true is)

  -- what was refused passes only where the test lets it
  pub refused_passes : (type : Ty) → Passes type → is_no_type type ≡ true → IsTrue test.refused
  refused_passes type h is = refused_layer (out-Ty type) h is

  -- ---- what rules give

  abbrev pub MaybePasses : Option Ty → Type 0
  MaybePasses None = Unit {0}
  MaybePasses (Some type) = Passes type

  abbrev pub OutcomePasses : Outcome → Type 0
  OutcomePasses Broken = Unit {0}
  OutcomePasses (Met whole) = Passes whole.ty

  -- a whole that is a place only where what was refused passes
  abbrev pub Computed : Outcome → Type 0
  Computed Broken = Unit {0}
  Computed (Met whole) = Passes whole.ty × (IsTrue whole.is_place → IsTrue test.refused)

  pub computed_passes : (outcome : Outcome) → Computed outcome → OutcomePasses outcome
  computed_passes Broken h = tt
  computed_passes (Met whole) h = h.0

  pub computed_met : (met : Bool) (type : Ty) (value : Static) → Passes type → Computed (met_if met (computed type value))
  computed_met true type value h = (h, λ place. absurd (false≢true place))
  computed_met false type value h = tt

  -- ---- operators

  operands_passes : (wanted : Operands) → Passes (whole_type wanted)
  operands_passes operands.Ints = int_passes
  operands_passes operands.Texts = str_passes
  operands_passes _ = bool_passes

  binary_by : (wanted : Option Operands) (op : Operator) (a b : Typed) → Computed (binary_with wanted op a b)
  binary_by None op a b = tt
  binary_by (Some wanted) op a b = computed_met _ _ _ (operands_passes wanted)

  pub binary_passes : (op : Operator) (a b : Typed) → Computed (binary_rule op a b)
  binary_passes op a b = binary_by (operands_wanted op) op a b

  operand_passes : (wanted : Operand) → Passes (operand_type wanted)
  operand_passes operand.Number = int_passes
  operand_passes operand.Condition = bool_passes

  unary_by : (wanted : Option Operand) (op : Operator) (a : Typed) → Computed (unary_with wanted op a)
  unary_by None op a = tt
  unary_by (Some wanted) op a = computed_met _ _ _ (operand_passes wanted)

  pub unary_passes : (op : Operator) (a : Typed) → Computed (unary_rule op a)
  unary_passes op a = unary_by (operand_wanted op) op a

  -- ---- parts

  part_passes : (whole : Typed) (met : Bool) (item : Option Ty) → MaybePasses item → OutcomePasses (indexed whole met item)
  part_passes whole met None h = tt
  part_passes whole false (Some item) h = tt
  part_passes whole true (Some item) h = h

  one_layer : (layer : Ty-F Ty) → IsTrue (layer_passes layer) → MaybePasses (layer_item layer)
  one_layer (Ty-F.Vector item) h = item_layer (out-Ty item) h
  one_layer Ty-F.Str h = char_passes
  one_layer Ty-F.Untyped h = untyped_passes h
  one_layer _ h = tt

  two_layer : (layer : Ty-F Ty) → IsTrue (layer_passes layer) → MaybePasses (layer_item_of_two layer)
  two_layer (Ty-F.Matrix item) h = item_layer (out-Ty item) h
  two_layer Ty-F.Untyped h = untyped_passes h
  two_layer _ h = tt

  pub index_one_passes : (whole at : Typed) → Passes whole.ty → OutcomePasses (index_one_rule whole at)
  index_one_passes whole at h = part_passes whole _ (item_of_one whole.ty) (one_layer (out-Ty whole.ty) h)

  pub index_two_passes : (whole row column : Typed) → Passes whole.ty → OutcomePasses (index_two_rule whole row column)
  index_two_passes whole row column h = part_passes whole _ (item_of_two whole.ty) (two_layer (out-Ty whole.ty) h)

  -- ---- bracketed lists

  maybe_if : (met : Bool) (a b : Option Ty) → MaybePasses a → MaybePasses b → MaybePasses (if met then a else b)
  maybe_if true a b h k = h
  maybe_if false a b h k = k

  common_passes : (a b : Ty) → Passes a → Passes b → MaybePasses (common_type a b)
  common_passes a b h k =
      maybe_if (is_no_type a) (Some b) _ k (maybe_if (fits_type b a) (Some a) _ h (maybe_if (fits_type a b) (Some b) None k tt))

  abbrev pub PartsPass : List Repeated → Type 0
  PartsPass = Each (λ part. Passes part.value.ty)

  all_common : (known : Ty) (parts : List Repeated) → Passes known → PartsPass parts → MaybePasses (common_of_all known parts)
  all_common known [] h each = h
  all_common known (part ∷ parts) h each = by (common_type known part.value.ty) (common_passes known part.value.ty h each.0) (λ type found. all_common type parts found each.1)
    where
      by : (found : Option Ty) → MaybePasses found → ((type : Ty) → Passes type → MaybePasses (common_of_all type parts)) → MaybePasses (option_and_then (λ type. common_of_all type parts) found)
      by None found more = tt
      by (Some type) found more = more type found

  array_layer : (type : Ty) (met : Bool) (layer : Ty-F Ty) → out-Ty type ≡ layer → IsTrue (layer_passes layer) → Computed (layer_array type met layer)
  array_layer type met (Ty-F.Vector item) is h = computed_met met _ _ (matrix_passes item h)
  array_layer type met (Ty-F.Matrix item) is h = tt
  array_layer type met Ty-F.Untyped is h = computed_met met _ _ (untyped_passes h)
  array_layer type met (Ty-F.Op number) is h = computed_met met _ _ (vector_passes type (ap item_passes is ∙ h))
  array_layer type met _ is h = computed_met met _ _ (vector_passes type (ap item_passes is))

  array_passes : (found : Option Ty) (met : Bool) → MaybePasses found → Computed (array_with found met)
  array_passes None met h = tt
  array_passes (Some type) met h = array_layer type met (out-Ty type) refl h

  pub bracketed_passes : (parts : List Repeated) → PartsPass parts → Computed (bracketed_rule parts)
  bracketed_passes [] each = tt
  bracketed_passes (part ∷ parts) each = array_passes (common_of_all part.value.ty parts) (are_counted (part ∷ parts)) (all_common part.value.ty parts each.0 each.1)

  -- ---- what is known

  abbrev pub FieldsPass : List FieldInfo → Type 0
  FieldsPass = Each (λ field. Passes field.ty)

  -- where nothing was refused, what is a place isn't known before the run
  abbrev pub ValuePasses : Typed → Type 0
  ValuePasses typed = Passes typed.ty × Unless test.refused (IsTrue typed.is_place → known typed.value ≡ None)

  -- where nothing was refused, what makes an instance may be known before its formals are
  abbrev pub InfoPasses : Info → Type 0
  InfoPasses (info.Value typed) = ValuePasses typed
  InfoPasses (info.«Type» type) = Passes type
  InfoPasses (info.Enumeration number literals) = Unit {0}
  InfoPasses (info.Record fields) = FieldsPass fields
  InfoPasses (info.OpType type) = Passes type
  InfoPasses (info.Operation type component is_local) = Passes type
  InfoPasses (info.Component type) = Unless (not test.refused) (Passes type)

  abbrev pub FoundPasses : Option Info → Type 0
  FoundPasses None = Unit {0}
  FoundPasses (Some one) = InfoPasses one

  pub record SignaturePasses (signature : Signature) : Type 0 where
    pub params : Each (λ (param : Param). Passes param.ty) signature.params
    pub returns : MaybePasses signature.returns

  abbrev pub SignedPasses : Option Signature → Type 0
  SignedPasses None = Unit {0}
  SignedPasses (Some signature) = SignaturePasses signature

  -- all types that are known pass
  pub record AllPass (facts : Facts) : Type 0 where
    pub infos : (spot : Spot) → FoundPasses (info_at facts.infos spot)
    pub signatures : (number : ℕ) → SignedPasses (signature_at facts.signatures number)

  -- the signature of a type
  pub signed_passes : (facts : Facts) → AllPass facts → (type : Ty) → SignedPasses (signature_of facts.signatures type)
  signed_passes facts all type = by (out-Ty type)
    where
      by : (layer : Ty-F Ty) → SignedPasses (layer_signature facts.signatures layer)
      by (Ty-F.Op number) = all.signatures number
      by _ = tt

  found_fields : (found : Option Info) → FoundPasses found → FieldsPass (fields_of found)
  found_fields (Some (info.Record fields)) h = h
  found_fields _ h = tt

  -- the fields of a record
  pub fields_passes : (facts : Facts) → AllPass facts → (spot : Spot) → FieldsPass (fields_of (info_at facts.infos spot))
  fields_passes facts all spot = found_fields (info_at facts.infos spot) (all.infos spot)

  pub field_passes : (fields : List FieldInfo) (name : List ℕ) → FieldsPass fields → MaybePasses (field_named fields name)
  field_passes [] name each = tt
  field_passes (field ∷ fields) name each = by (bytes_eq field.name name) (field_passes fields name each.1)
    where
      by : (met : Bool) → MaybePasses (field_named fields name) → MaybePasses (option_map (λ (field : FieldInfo). field.ty) (if met then Some field else find (λ (field : FieldInfo). bytes_eq field.name name) fields))
      by true more = each.0
      by false more = more
