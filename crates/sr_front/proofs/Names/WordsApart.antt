-- The words of enumerations and records stand elsewhere than the names that are declared: those of constants, types, their
-- literals, and types of operations.
use Rattle.std.proofs.Common.{◌≡◌, inl, inr, refl, ap, sym, subst, List, [], ◌∷◌, ◌++◌, map, flat_map}
use Rattle.std.proofs.lemmas.List.Concat.{flat_map-append}
use Rattle.std.specs.List.{IsDistinct}
use Rattle.sr_value.specs.declared.place.Span.{Span}
use Rattle.sr_names.specs.declared.meaning.Sort.{Sort}
use Rattle.sr_names.specs.declared.meaning.Sort.TheVariants.{Literal}
use Rattle.sr_names.specs.Spots.{same_spot, spot_of}
use Rattle.sr_tree.specs.declared.component.Component.{Component}
use Rattle.sr_tree.specs.declared.component.File.{File}
use Rattle.sr_tree.specs.declared.component.Item.{Item}
use Rattle.sr_tree.specs.declared.component.Item.TheVariants as item
use Rattle.sr_tree.specs.declared.component.SpecItem.{SpecItem}
use Rattle.sr_tree.specs.declared.component.SpecItem.TheVariants as spec
use Rattle.sr_tree.specs.declared.name.Name.{Name}
use Rattle.sr_tree.specs.declared.types.Formal.{Formal}
use Rattle.sr_tree.specs.declared.types.TypeTree.{TypeTree, out-TypeTree}
use Rattle.sr_tree.specs.declared.types.TypeTree.TheVariants as ty
use Rattle.sr_tree.specs.Nested.{types_within, layer_place, maybe_place, word_places}
use Rattle.sr_tree.specs.Parts.{body_of, formals_of, name_of, spec_of}
use Rattle.sr_order.specs.Names.{component_names, names_spans, file_names, formal_names, item_names, spec_item_names, type_names}
use Rattle.sr_scope.specs.Literals.{literals_of}
use Rattle.sr_scope.specs.Uses.{IsIn}
use Rattle.sr_scope.proofs.OwnNames.{own_names}
use Rattle.sr_scope.proofs.Tables.{sorted}
use Rattle.sr_tables.specs.Parts.{components_in, spot_named}
use Rattle.sr_check.proofs.Each.{Each}
use Rattle.sr_front.proofs.Own.DeclaredIn.{Stands}
use Rattle.sr_front.proofs.Names.FirmNames.{component_loose, component_with, item_with, spec_with}
use Rattle.sr_front.proofs.Known.Lasting.{Away}
use Rattle.sr_front.proofs.Names.OwnApart.{placed_with, IsPlaced}
use Rattle.sr_front.proofs.Mentioned.ReadsCode.{parts_share}
use Rattle.sr_front.proofs.Names.Shares.{apart_in}
use Rattle.sr_front.proofs.Lists.Sharing.{Shares, in_first, in_second, left_out, both_share, all_left_out, all_second}
use Rattle.sr_tree.proofs.TypeFolds.{out-enum, out-record}
use Rattle.sr_scope.proofs.TypeParts.{type_parts}

-- ---- in a type

-- the words and the literals among its names
abbrev Words : List Span → List TypeTree → List Name → Type 0
Words names types literals = Shares names (word_places types) (names_spans literals)

spans_append : (a b : List Name) → names_spans (a ++ b) ≡ names_spans a ++ names_spans b
spans_append [] b = refl
spans_append (name ∷ a) b = ap (λ spans. name.span ∷ spans) (spans_append a b)

words_both : (s t : List Span) (a b : List TypeTree) (x y : List Name) → Words s a x → Words t b y → Words (s ++ t) (a ++ b) (x ++ y)
words_both s t a b x y first second =
    subst (λ words. Shares (s ++ t) words (names_spans (x ++ y))) (sym (flat_map-append (λ tree. maybe_place (layer_place (out-TypeTree tree))) a b))
    (subst (λ literals. Shares (s ++ t) (word_places a ++ word_places b) literals) (sym (spans_append x y)) (both_share first second))

enum_words : (span : Span) (literals : List Name) → Words (span ∷ names_spans literals) (ty.Enum span literals ∷ []) literals
enum_words span literals =
    subst (λ layer. Shares (span ∷ names_spans literals) (maybe_place (layer_place layer) ++ []) (names_spans literals)) (sym (out-enum span literals)) (in_first span (all_second (names_spans literals)))

record_words : (span : Span) (fields : List Formal) (names : List Span) (types : List TypeTree) (literals : List Name) → Words names types literals → Words (span ∷ names) (ty.Rec span fields ∷ types) literals
record_words span fields names types literals x =
    subst (λ layer. Shares (span ∷ names) (maybe_place (layer_place layer) ++ word_places types) (names_spans literals)) (sym (out-record span fields)) (in_first span x)

pub type_shares : (tree : TypeTree) → Words (type_names tree) (types_within tree) (literals_of tree)
type_shares = type_parts Words (record { others = all_left_out; both = words_both; enumeration = enum_words; fields_in = record_words })

-- ---- in a component

abbrev pub spec_words : SpecItem → List Span
spec_words (spec.«Type» named) = word_places (types_within named.ty)
spec_words one = []

-- of constants, types, their literals, and types of operations
abbrev pub spec_named : SpecItem → List Span
spec_named = spec_with (λ tree. names_spans (literals_of tree))

abbrev pub item_words : Item → List Span
item_words (item.Spec declared) = spec_words declared
item_words one = []

abbrev pub item_named : Item → List Span
item_named = item_with (λ tree. names_spans (literals_of tree))

abbrev pub component_words : Component → List Span
component_words component = flat_map spec_words (spec_of component) ++ flat_map item_words (body_of component)

abbrev pub component_named : Component → List Span
component_named = component_with (λ tree. names_spans (literals_of tree))

spec_share : (one : SpecItem) → Shares (spec_item_names one) (spec_words one) (spec_named one)
spec_share (spec.Const constant) = in_second constant.name.span (all_left_out _)
spec_share (spec.«Type» named) = in_second named.name.span (type_shares named.ty)
spec_share (spec.OpType named) = in_second named.name.span (all_left_out _)
spec_share _ = all_left_out _

item_share : (one : Item) → Shares (item_names one) (item_words one) (item_named one)
item_share (item.Spec declared) = spec_share declared
item_share _ = all_left_out _

component_share : (component : Component) → Shares (component_names component) (component_words component) (component_named component)
component_share component =
    left_out (name_of component).span (both_share (parts_share spec_item_names spec_words spec_named spec_share (spec_of component))
    (both_share (all_left_out (flat_map formal_names (formals_of component))) (parts_share item_names item_words item_named item_share (body_of component))))

-- the names stand elsewhere than the words
pub named_from_words : (files : List File) → IsDistinct same_spot (map spot_of (flat_map file_names files))
    → Each (λ span. Away (spot_of span) (flat_map component_words (components_in files))) (flat_map component_named (components_in files))
named_from_words = apart_in component_words component_named component_share

-- ---- what a component declares stands at the names of variables, formals and operations, or at these names, which are ordered

pub literals_named : (names : List Name) (one : Sort × Name) → IsIn one (sorted Literal names) → Stands (spot_named one.1) (names_spans names)
literals_named [] one k = absurd k
literals_named (name ∷ names) one (inl e) = inl (ap (λ (pair : Sort × Name). spot_named pair.1) e)
literals_named (name ∷ names) one (inr k) = inr (literals_named names one k)

pub own_named : (component : Component) (one : Sort × Name) → IsIn one (own_names component) → IsPlaced (component_loose component) (component_named component) one
own_named = placed_with (λ tree. names_spans (literals_of tree)) (λ named one k. inr (literals_named (literals_of named.ty) one k))
