-- The words and literals of enumerations, and the words of records, are among the names in a type.
use Rattle.std.proofs.Common.{sym, subst, List, [], ◌∷◌, ◌++◌, flat_map}
use Rattle.std.proofs.lemmas.List.Concat.{flat_map-append}
use Rattle.sr_value.specs.declared.place.Span.{Span}
use Rattle.sr_tree.specs.declared.name.Name.{Name}
use Rattle.sr_tree.specs.declared.types.Formal.{Formal}
use Rattle.sr_tree.specs.declared.types.TypeTree.{TypeTree, out-TypeTree}
use Rattle.sr_tree.specs.declared.types.TypeTree.TheOpen.{TypeTree-F}
use Rattle.sr_tree.specs.declared.types.TypeTree.TheVariants as ty
use Rattle.sr_tree.specs.Nested.{types_within}
use Rattle.sr_order.specs.Names.{names_spans, type_names}
use Rattle.sr_front.proofs.Lists.Sharing.{Shares, in_first, both_share, all_first_only, all_left_out}
use Rattle.sr_tree.proofs.TypeFolds.{out-enum, out-record}
use Rattle.sr_scope.proofs.TypeParts.{type_parts}

-- the word of an enumeration with its literals, and the word of a record
abbrev pub layer_words : {A B C D : Type 0} → TypeTree-F A B C D → List Span
layer_words (TypeTree-F.Enum span literals) = span ∷ names_spans literals
layer_words (TypeTree-F.Rec span fields) = span ∷ []
layer_words _ = []

abbrev pub words_of : TypeTree → List Span
words_of tree = layer_words (out-TypeTree tree)

abbrev Words : List Span → List TypeTree → Type 0
Words names types = Shares names (flat_map words_of types) []

words_both : (s t : List Span) (a b : List TypeTree) → Words s a → Words t b → Words (s ++ t) (a ++ b)
words_both s t a b x y = subst (λ words. Shares (s ++ t) words []) (sym (flat_map-append words_of a b)) (both_share x y)

-- an enumeration: its word and its literals
enum_words : (span : Span) (literals : List Name) → Words (span ∷ names_spans literals) (ty.Enum span literals ∷ [])
enum_words span literals =
    subst (λ layer. Shares (span ∷ names_spans literals) (layer_words layer ++ []) []) (sym (out-enum span literals)) (in_first span (all_first_only (names_spans literals)))

-- a record: its word, and those in its fields
record_words : (span : Span) (fields : List Formal) (names : List Span) (types : List TypeTree) → Words names types → Words (span ∷ names) (ty.Rec span fields ∷ types)
record_words span fields names types x =
    subst (λ layer. Shares (span ∷ names) (layer_words layer ++ flat_map words_of types) []) (sym (out-record span fields)) (in_first span x)

pub words_share : (tree : TypeTree) → Words (type_names tree) (types_within tree)
words_share = type_parts (λ names types literals. Words names types) (record {
  others = all_left_out;
  both = λ s t a b x y. words_both s t a b;
  enumeration = enum_words;
  fields_in = λ span fields names types literals. record_words span fields names types;
})
