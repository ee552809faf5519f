-- The word of an enumeration that is known as a type where a declaration is read stands before the declaration.
use Rattle.std.proofs.Common.{◌≡◌, ℕ, Bool, true, false, not, ◌||◌, List, [], ◌∷◌, ◌++◌, flat_map, Option, Some, None, if◌then◌else◌, refl, sym, ap, subst, ◌∙◌}
use Rattle.std.proofs.lemmas.Option.{none-some, same_Some}
use Rattle.sr_check.proofs.Each.{Each, each-right}
use Rattle.sr_check_decl.specs.Bounds.{item_type_rule}
use Rattle.sr_check_decl.specs.declared.kind.Signed.{Signed}
use Rattle.sr_check_decl.specs.Declaring.{op_item_name}
use Rattle.sr_check_decl.specs.TypeTrees.{Kinds, ReadsFormals, ReadsReturned, ReadsSignature, array_by, array_type, capability_by, capability_of, declared_type, fixed_bounds, formal_read, formal_step, is_refused, kinding, named_decl, numbered_type, operation_type, returned_read, returned_step, signature_read, signature_step, signature_type, type_by, type_kinding, type_step, whole_signature}
use Rattle.sr_check_decl.specs.Variables.{variable}
use Rattle.sr_check_expr.specs.declared.facts.Facts.{Facts}
use Rattle.sr_check_expr.specs.declared.info.Info.{Info}
use Rattle.sr_check_expr.specs.declared.info.Info.TheVariants as info
use Rattle.sr_check_expr.specs.Infos.{info_at, name_spot, type_spot}
use Rattle.sr_check_expr.specs.Naming.{decl_info}
use Rattle.sr_check_expr.specs.PredefinedCalls.{is_resource}
use Rattle.sr_names.specs.declared.meaning.Decl.{Decl}
use Rattle.sr_names.specs.declared.spot.Spot.{Spot}
use Rattle.sr_names.specs.Spots.{spot_of}
use Rattle.sr_order.specs.Names.{formal_names, formal_names_step, item_names, returned_names, returned_names_step, signature_names, signature_names_step, spec_item_names, type_names, type_names_step}
use Rattle.sr_tree.specs.declared.component.Component.{Component}
use Rattle.sr_tree.specs.declared.component.Item.{Item}
use Rattle.sr_tree.specs.declared.component.Item.TheVariants as item
use Rattle.sr_tree.specs.declared.component.SpecItem.{SpecItem}
use Rattle.sr_tree.specs.declared.component.SpecItem.TheVariants as spec
use Rattle.sr_tree.specs.declared.declaration.OpItem.{OpItem}
use Rattle.sr_tree.specs.declared.declaration.Semaphore.{Semaphore}
use Rattle.sr_tree.specs.declared.types.Decl.{Decl as DeclTree}
use Rattle.sr_tree.specs.declared.types.DimsTree.{DimsTree}
use Rattle.sr_tree.specs.declared.types.Formal.{Formal}
use Rattle.sr_tree.specs.declared.types.RangeTree.{RangeTree}
use Rattle.sr_tree.specs.declared.types.Returned.{Returned}
use Rattle.sr_tree.specs.declared.types.Signature.{Signature as SignatureTree}
use Rattle.sr_tree.specs.declared.types.TypeTree.{TypeTree, out-TypeTree}
use Rattle.sr_tree.specs.declared.types.TypeTree.TheFolds.{fold_out-TypeTree, map-TypeTree}
use Rattle.sr_tree.specs.declared.types.TypeTree.TheOpen.{TypeTree-F}
use Rattle.sr_tree.specs.Parts.{formals_of}
use Rattle.sr_types.specs.declared.ty.Ty.{Ty, out-Ty, out-roll-Ty}
use Rattle.sr_types.specs.declared.ty.Ty.TheOpen.{Ty-F}
use Rattle.sr_types.specs.declared.ty.Ty.TheVariants as ty
use Rattle.sr_types.specs.Signatures.{number_of}
use Rattle.sr_types.specs.Types.{is_no_type}
use Rattle.sr_value.specs.declared.place.Span.{Span}
use Rattle.sr_front.proofs.Known.DeclaredThen.{KeepsInv}
use Rattle.sr_front.proofs.Known.FirstFits.{AllFit, HeadFits, ItemFits, SpecFits, WordAt, fit_head, fit_item, fit_spec_item}
use Rattle.sr_front.proofs.Lists.Rising.{BeforeAll, IsBefore, Rises}

-- `Word spot`: a word of an enumeration may stand there
module _ (Word : Spot → Type 0) where
  -- a word that stands before all these names
  abbrev pub WordBefore : List Span → Spot → Type 0
  WordBefore after spot = BeforeAll spot after × Word spot

  abbrev pub LayerBefore : List Span → Ty-F Ty → Type 0
  LayerBefore after (Ty-F.Enum spot) = WordBefore after (name_spot spot)
  LayerBefore after _ = Unit {0}

  -- a type of which the word stands before
  abbrev pub TypeBefore : List Span → Ty → Type 0
  TypeBefore after ty = LayerBefore after (out-Ty ty)

  abbrev pub InfoBefore : List Span → Spot → Info → Type 0
  InfoBefore after spot (info.«Type» ty) = TypeBefore after ty
  InfoBefore after spot (info.OpType ty) = TypeBefore after ty
  InfoBefore after spot (info.Enumeration number literals) = WordBefore after spot
  InfoBefore after spot _ = Unit {0}

  -- ---- fewer names

  layer_fewer : (more after : List Span) → ((spot : Spot) → BeforeAll spot more → BeforeAll spot after) → (layer : Ty-F Ty) → LayerBefore more layer → LayerBefore after layer
  layer_fewer more after fewer (Ty-F.Enum spot) h = (fewer (name_spot spot) h.0, h.1)
  layer_fewer more after fewer _ h = tt

  info_fewer : (more after : List Span) → ((spot : Spot) → BeforeAll spot more → BeforeAll spot after) → (spot : Spot) (one : Info) → InfoBefore more spot one → InfoBefore after spot one
  info_fewer more after fewer spot (info.«Type» ty) h = layer_fewer more after fewer (out-Ty ty) h
  info_fewer more after fewer spot (info.OpType ty) h = layer_fewer more after fewer (out-Ty ty) h
  info_fewer more after fewer spot (info.Enumeration number literals) h = (fewer spot h.0, h.1)
  info_fewer more after fewer spot _ h = tt

  -- ---- the types that are written

  module _ (after : List Span) where
    -- the word of a type that is this layer
    layered : (type : Ty) (layer : Ty-F Ty) → out-Ty type ≡ layer → LayerBefore after layer → TypeBefore after type
    layered type layer is h = subst (LayerBefore after) (sym is) h

    untyped_before : TypeBefore after ty.Untyped
    untyped_before = layered ty.Untyped Ty-F.Untyped (ap out-Ty (sym ty.rolls-Untyped) ∙ out-roll-Ty Ty-F.Untyped) tt

    enum_at : (spot : Spot) → WordBefore after spot → TypeBefore after (ty.Enum (type_spot spot))
    enum_at spot h = layered _ (Ty-F.Enum (type_spot spot)) (ap out-Ty (sym (ty.rolls-Enum (type_spot spot))) ∙ out-roll-Ty (Ty-F.Enum (type_spot spot))) h

    record_before : (spot : Spot) → TypeBefore after (ty.Rec (type_spot spot))
    record_before spot = layered _ (Ty-F.Rec (type_spot spot)) (ap out-Ty (sym (ty.rolls-Rec (type_spot spot))) ∙ out-roll-Ty (Ty-F.Rec (type_spot spot))) tt

    resource_type_before : (spot : Spot) → TypeBefore after (ty.Resource (type_spot spot))
    resource_type_before spot = layered _ (Ty-F.Resource (type_spot spot)) (ap out-Ty (sym (ty.rolls-Resource (type_spot spot))) ∙ out-roll-Ty (Ty-F.Resource (type_spot spot))) tt

    vector_before : (item : Ty) → TypeBefore after (ty.Vector item)
    vector_before item = layered _ (Ty-F.Vector item) (ap out-Ty (sym (ty.rolls-Vector item)) ∙ out-roll-Ty (Ty-F.Vector item)) tt

    matrix_before : (item : Ty) → TypeBefore after (ty.Matrix item)
    matrix_before item = layered _ (Ty-F.Matrix item) (ap out-Ty (sym (ty.rolls-Matrix item)) ∙ out-roll-Ty (Ty-F.Matrix item)) tt

    op_before : (number : ℕ) → TypeBefore after (ty.Op number)
    op_before number = layered _ (Ty-F.Op number) (ap out-Ty (sym (ty.rolls-Op number)) ∙ out-roll-Ty (Ty-F.Op number)) tt

    numbered_before : (number : Option ℕ) → TypeBefore after (numbered_type number)
    numbered_before None = untyped_before
    numbered_before (Some number) = op_before number

    signature_before : (facts : Facts) (signed : Signed) → TypeBefore after (signature_type facts signed)
    signature_before facts signed = by (is_refused signed)
      where
        by : (b : Bool) → TypeBefore after (if b then ty.Untyped else operation_type facts (whole_signature signed))
        by true = untyped_before
        by false = numbered_before (number_of facts.signatures (whole_signature signed))

    array_before : (dims : DimsTree) (item : Ty) → TypeBefore after (array_type dims item)
    array_before dims item = by (is_no_type item || not (item_type_rule item)) dims.second
      where
        by : (b : Bool) (second : Option RangeTree) → TypeBefore after (if b then ty.Untyped else array_by second item)
        by true second = untyped_before
        by false None = vector_before item
        by false (Some range) = matrix_before item

    kinding_before : (span : Span) (found : Option Ty) → ((one : Ty) → found ≡ Some one → TypeBefore after one) → TypeBefore after (kinding span found).kind.ty
    kinding_before span None before = untyped_before
    kinding_before span (Some one) before = before one refl

    -- what is known stands before
    abbrev AllBefore : Facts → Type 0
    AllBefore facts = (spot : Spot) (one : Info) → info_at facts.infos spot ≡ Some one → InfoBefore after spot one

    declared_before : (decl : Decl) (one : Info) → InfoBefore after decl.spot one → (type : Ty) → declared_type decl one ≡ Some type → TypeBefore after type
    declared_before decl (info.«Type» ty) h type e = subst (TypeBefore after) (same_Some ty type e) h
    declared_before decl (info.Enumeration number literals) h type e = subst (TypeBefore after) (same_Some (ty.Enum (type_spot decl.spot)) type e) (enum_at decl.spot h)
    declared_before decl (info.Record fields) h type e = subst (TypeBefore after) (same_Some (ty.Rec (type_spot decl.spot)) type e) (record_before decl.spot)
    declared_before decl (info.Value typed) h type e = absurd (none-some type e)
    declared_before decl (info.OpType ty) h type e = absurd (none-some type e)
    declared_before decl (info.Operation ty component is_local) h type e = absurd (none-some type e)
    declared_before decl (info.Component ty) h type e = absurd (none-some type e)

    resource_before : (is : Bool) (spot : Spot) (type : Ty) → (if is then Some (ty.Resource (type_spot spot)) else None) ≡ Some type → TypeBefore after type
    resource_before true spot type e = subst (TypeBefore after) (same_Some (ty.Resource (type_spot spot)) type e) (resource_type_before spot)
    resource_before false spot type e = absurd (none-some type e)

    capability_before : (decl : Decl) (one : Info) → InfoBefore after decl.spot one → (type : Ty) → capability_of decl one ≡ Some type → TypeBefore after type
    capability_before decl (info.OpType ty) h type e = subst (TypeBefore after) (same_Some ty type e) h
    capability_before decl (info.Component ty) h type e = resource_before (is_resource decl.sort) decl.spot type e
    capability_before decl (info.«Type» ty) h type e = absurd (none-some type e)
    capability_before decl (info.Enumeration number literals) h type e = absurd (none-some type e)
    capability_before decl (info.Record fields) h type e = absurd (none-some type e)
    capability_before decl (info.Value typed) h type e = absurd (none-some type e)
    capability_before decl (info.Operation ty component is_local) h type e = absurd (none-some type e)

    named_before : (facts : Facts) → AllBefore facts → (decl : Option Decl) (type : Ty) → type_by decl (decl_info facts.infos decl) ≡ Some type → TypeBefore after type
    named_before facts before None type e = absurd (none-some type e)
    named_before facts before (Some decl) type e = by (info_at facts.infos decl.spot) refl e
      where
        by : (found : Option Info) → info_at facts.infos decl.spot ≡ found → type_by (Some decl) found ≡ Some type → TypeBefore after type
        by None is e = absurd (none-some type e)
        by (Some one) is e = declared_before decl one (before decl.spot one is) type e

    cap_before : (facts : Facts) → AllBefore facts → (decl : Option Decl) (type : Ty) → capability_by decl (decl_info facts.infos decl) ≡ Some type → TypeBefore after type
    cap_before facts before None type e = absurd (none-some type e)
    cap_before facts before (Some decl) type e = by (info_at facts.infos decl.spot) refl e
      where
        by : (found : Option Info) → info_at facts.infos decl.spot ≡ found → capability_by (Some decl) found ≡ Some type → TypeBefore after type
        by None is e = absurd (none-some type e)
        by (Some one) is e = capability_before decl one (before decl.spot one is) type e

    abbrev kinds_of : TypeTree-F TypeTree Formal Returned SignatureTree → Kinds
    kinds_of layer = type_step (map-TypeTree TypeTree Formal Returned SignatureTree Kinds ReadsFormals ReadsReturned ReadsSignature type_kinding formal_read returned_read signature_read layer)

    abbrev names_of : TypeTree-F TypeTree Formal Returned SignatureTree → List Span
    names_of layer = type_names_step (map-TypeTree TypeTree Formal Returned SignatureTree (List Span) (List Span) (List Span) (List Span) type_names formal_names returned_names signature_names layer)

    layer_before : (facts : Facts) → AllBefore facts → (layer : TypeTree-F TypeTree Formal Returned SignatureTree) → Each (λ span. WordBefore after (spot_of span)) (names_of layer)
        → TypeBefore after (kinds_of layer facts fixed_bounds).kind.ty
    layer_before facts before (TypeTree-F.Int span) words = layered ty.Int Ty-F.Int (ap out-Ty (sym ty.rolls-Int) ∙ out-roll-Ty Ty-F.Int) tt
    layer_before facts before (TypeTree-F.Bool span) words = layered ty.Bool Ty-F.Bool (ap out-Ty (sym ty.rolls-Bool) ∙ out-roll-Ty Ty-F.Bool) tt
    layer_before facts before (TypeTree-F.Char span) words = layered ty.Char Ty-F.Char (ap out-Ty (sym ty.rolls-Char) ∙ out-roll-Ty Ty-F.Char) tt
    layer_before facts before (TypeTree-F.Str span length) words = layered ty.Str Ty-F.Str (ap out-Ty (sym ty.rolls-Str) ∙ out-roll-Ty Ty-F.Str) tt
    layer_before facts before (TypeTree-F.Enum span literals) words = enum_at (spot_of span) words.0
    layer_before facts before (TypeTree-F.Rec span fields) words = record_before (spot_of span)
    layer_before facts before (TypeTree-F.CapOf span name) words =
        kinding_before span (capability_by (named_decl facts name) (decl_info facts.infos (named_decl facts name))) (cap_before facts before (named_decl facts name))
    layer_before facts before (TypeTree-F.CapMachine span) words = layered ty.Vm Ty-F.Vm (ap out-Ty (sym ty.rolls-Vm) ∙ out-roll-Ty Ty-F.Vm) tt
    layer_before facts before (TypeTree-F.CapOperation span signature) words = signature_before facts (signature_read signature facts).signed
    layer_before facts before (TypeTree-F.Array span dims item) words = array_before dims (type_kinding item facts fixed_bounds).kind.ty
    layer_before facts before (TypeTree-F.Named span name) words =
        kinding_before span (type_by (named_decl facts name) (decl_info facts.infos (named_decl facts name))) (named_before facts before (named_decl facts name))

    -- the word of a type that is written stands in it, or before it
    pub written_before : (facts : Facts) → AllBefore facts → (tree : TypeTree) → Each (λ span. WordBefore after (spot_of span)) (type_names tree) → TypeBefore after (type_kinding tree facts fixed_bounds).kind.ty
    written_before facts before tree words =
        subst (λ (kinds : Kinds). TypeBefore after (kinds facts fixed_bounds).kind.ty) (sym (fold_out-TypeTree Kinds ReadsFormals ReadsReturned ReadsSignature type_step formal_step returned_step signature_step tree))
        (layer_before facts before (out-TypeTree tree)
        (subst (Each (λ span. WordBefore after (spot_of span)))
        (fold_out-TypeTree (List Span) (List Span) (List Span) (List Span) type_names_step formal_names_step returned_names_step signature_names_step tree) words))

  -- ---- it is kept, besides what else fits

  module _ (Fits : Spot → Info → Type 0) where
    -- besides, the words of types stand before all these names
    abbrev pub FitsBefore : List Span → Spot → Info → Type 0
    FitsBefore after spot one = Fits spot one × InfoBefore after spot one

    abbrev pub Inv : List Span → Facts → Type 0
    Inv after = AllFit (FitsBefore after)

    inv_fewer : (more after : List Span) → ((spot : Spot) → BeforeAll spot more → BeforeAll spot after) → (facts : Facts) → Inv more facts → Inv after facts
    inv_fewer more after fewer facts inv spot one is = let h = inv spot one is in ((h.0.0, info_fewer more after fewer spot one h.0.1), h.1)

    fewer_right : (names after : List Span) (spot : Spot) → BeforeAll spot (names ++ after) → BeforeAll spot after
    fewer_right names after spot before = each-right (λ span. IsBefore spot (spot_of span)) names after before

    only_fits : (after : List Span) (facts : Facts) → Inv after facts → AllFit Fits facts
    only_fits after facts inv spot one is = let h = inv spot one is in (h.0.0, h.1)

    only_before : (after : List Span) (facts : Facts) → Inv after facts → AllBefore after facts
    only_before after facts inv spot one is = (inv spot one is).0.1

    -- the words of a declared type may be words
    abbrev pub SpecWords : SpecItem → Type 0
    SpecWords (spec.«Type» named) = Each (λ span. Word (spot_of span)) (type_names named.ty)
    SpecWords one = Unit {0}

    abbrev pub ItemWords : Item → Type 0
    ItemWords (item.Spec declared) = SpecWords declared
    ItemWords one = Unit {0}

    abbrev pub SpecGood : SpecItem → Type 0
    SpecGood one = SpecFits Fits one × SpecWords one

    abbrev pub ItemGood : Item → Type 0
    ItemGood one = ItemFits Fits one × ItemWords one

    words_before : (names after : List Span) → Rises (names ++ after) → Each (λ span. Word (spot_of span)) names → Each (λ span. WordBefore after (spot_of span)) names
    words_before [] after rises words = tt
    words_before (name ∷ names) after rises words = ((fewer_right names after (spot_of name) rises.0, words.0), words_before names after rises.1 words.1)

    words_fit : (after : List Span) (names : List Span) → Each (λ span. WordBefore after (spot_of span)) names → Each (λ span. WordAt Fits (spot_of span)) names → Each (λ span. WordAt (FitsBefore after) (spot_of span)) names
    words_fit after [] before fits = tt
    words_fit after (name ∷ names) before fits = (
      record { enumeration = λ number literals. (fits.0.enumeration number literals, before.0); fields = λ fields. (fits.0.fields fields, tt); literal = λ word number index. (fits.0.literal word number index, tt) },
      words_fit after names before.1 fits.1,
    )

    each_ops : (after : List Span) (ops : List OpItem) → Each (λ op. (type : Ty) (component : Spot) (is_local : Bool) → Fits (spot_of (op_item_name op).span) (info.Operation type component is_local)) ops
        → Each (λ op. (type : Ty) (component : Spot) (is_local : Bool) → FitsBefore after (spot_of (op_item_name op).span) (info.Operation type component is_local)) ops
    each_ops after [] fits = tt
    each_ops after (op ∷ ops) fits = (λ type component is_local. (fits.0 type component is_local, tt), each_ops after ops fits.1)

    each_sems : (after : List Span) (some : List Semaphore) → Each (λ (one : Semaphore). (type : Ty) (component : Spot) (is_local : Bool) → Fits (spot_of one.name.span) (info.Operation type component is_local)) some
        → Each (λ (one : Semaphore). (type : Ty) (component : Spot) (is_local : Bool) → FitsBefore after (spot_of one.name.span) (info.Operation type component is_local)) some
    each_sems after [] fits = tt
    each_sems after (one ∷ some) fits = (λ type component is_local. (fits.0 type component is_local, tt), each_sems after some fits.1)

    each_vars : (after : List Span) (decls : List DeclTree) → Each (λ (decl : DeclTree). (type : Ty) → Fits (spot_of decl.name.span) (variable type)) decls
        → Each (λ (decl : DeclTree). (type : Ty) → FitsBefore after (spot_of decl.name.span) (variable type)) decls
    each_vars after [] fits = tt
    each_vars after (decl ∷ decls) fits = (λ type. (fits.0 type, tt), each_vars after decls fits.1)

    each_names : (after names : List Span) → Each (λ span. (type : Ty) → Fits (spot_of span) (variable type)) names → Each (λ span. (type : Ty) → FitsBefore after (spot_of span) (variable type)) names
    each_names after [] fits = tt
    each_names after (name ∷ names) fits = (λ type. (fits.0 type, tt), each_names after names fits.1)

    spec_fits : (after : List Span) (one : SpecItem) → SpecGood one → Rises (spec_item_names one ++ after) → SpecFits (FitsBefore after) one
    spec_fits after (spec.Import declared) good rises = tt
    spec_fits after (spec.Const constant) good rises = λ typed. (good.0 typed, tt)
    spec_fits after (spec.«Type» named) good rises =
        let before = words_before (type_names named.ty) after rises.1 good.1 in (
          λ facts fit. (good.0.0 facts (only_fits after facts fit), written_before after facts (only_before after facts fit) named.ty before),
          words_fit after (type_names named.ty) before good.0.1,
        )
    spec_fits after (spec.OpType named) good rises = λ facts fit. (good.0 facts (only_fits after facts fit), signature_before after facts (signature_read named.signature facts).signed)
    spec_fits after (spec.Op operations) good rises = each_ops after operations.items good.0
    spec_fits after (spec.Var variables) good rises = each_vars after variables.decls good.0
    spec_fits after (spec.Sem declared) good rises = each_sems after declared.semaphores good.0

    item_fits : (after : List Span) (one : Item) → ItemGood one → Rises (item_names one ++ after) → ItemFits (FitsBefore after) one
    item_fits after (item.Spec declared) good rises = spec_fits after declared good rises
    item_fits after (item.Procedure procedure) good rises = λ type component is_local. (good.0 type component is_local, tt)
    item_fits after (item.Process process) good rises = λ type component is_local. (good.0 type component is_local, tt)
    item_fits after _ good rises = tt

    head_fits : (after : List Span) (component : Component) → HeadFits Fits component → HeadFits (FitsBefore after) component
    head_fits after component fits = (λ type. (fits.0 type, tt), each_names after (flat_map formal_names (formals_of component)) fits.1)

    pub inv_kept : KeepsInv Inv SpecGood ItemGood (HeadFits Fits)
    inv_kept = record {
      spec_item = λ in_spec one tally after good rises inv.
          fit_spec_item (FitsBefore after) in_spec one tally (spec_fits after one good rises) (inv_fewer (spec_item_names one ++ after) after (fewer_right (spec_item_names one) after) tally.facts inv);
      item = λ one tally after good rises inv.
          fit_item (FitsBefore after) one tally (item_fits after one good rises) (inv_fewer (item_names one ++ after) after (fewer_right (item_names one) after) tally.facts inv);
      head = λ component facts after fits rises inv.
          fit_head (FitsBefore after) component facts (head_fits after component fits)
          (inv_fewer (flat_map formal_names (formals_of component) ++ after) after (fewer_right (flat_map formal_names (formals_of component)) after) facts inv);
      standing = λ facts component after inv. inv;
      name = λ facts name after inv. inv_fewer (name ∷ after) after (fewer_right (name ∷ []) after) facts inv;
    }
