-- The literals that a type brings are those of the enumerations that are written in it.
use Rattle.std.proofs.Common.{◌⊎◌, inl, inr, ap, sym, subst, List, [], ◌∷◌, ◌++◌, flat_map}
use Rattle.std.proofs.lemmas.List.Concat.{flat_map-append}
use Rattle.sr_order.specs.Names.{names_spans}
use Rattle.sr_scope.proofs.Findings.{in_either, in_left, in_right}
use Rattle.sr_scope.specs.Literals.{literals_of}
use Rattle.sr_scope.specs.Uses.{IsIn}
use Rattle.sr_tree.specs.declared.name.Name.{Name}
use Rattle.sr_tree.specs.declared.types.Formal.{Formal}
use Rattle.sr_tree.specs.declared.types.TypeTree.{TypeTree}
use Rattle.sr_tree.specs.declared.types.TypeTree.TheVariants as ty
use Rattle.sr_tree.specs.Nested.{types_within}
use Rattle.sr_value.specs.declared.place.Span.{Span}
use Rattle.sr_tree.proofs.TypeFolds.{out-enum, out-record}
use Rattle.sr_scope.proofs.TypeParts.{type_parts}
use Rattle.sr_front.proofs.Names.WordShares.{layer_words, words_of}

-- these literals are words of types
abbrev Stand : List Name → List TypeTree → Type 0
Stand literals types = (name : Name) → IsIn name literals → IsIn name.span (flat_map words_of types)

stand_both : (s t : List Name) (a b : List TypeTree) → Stand s a → Stand t b → Stand (s ++ t) (a ++ b)
stand_both s t a b x y name k = subst (IsIn name.span) (sym (flat_map-append words_of a b)) (by (in_either name s t k))
  where
    by : IsIn name s ⊎ IsIn name t → IsIn name.span (flat_map words_of a ++ flat_map words_of b)
    by (inl h) = in_left name.span (flat_map words_of a) (flat_map words_of b) (x name h)
    by (inr h) = in_right name.span (flat_map words_of a) (flat_map words_of b) (y name h)

spans_in : (literals : List Name) (name : Name) → IsIn name literals → IsIn name.span (names_spans literals)
spans_in [] name k = absurd k
spans_in (first ∷ literals) name (inl e) = inl (ap (λ (it : Name). it.span) e)
spans_in (first ∷ literals) name (inr k) = inr (spans_in literals name k)

stand_enum : (span : Span) (literals : List Name) → Stand literals (ty.Enum span literals ∷ [])
stand_enum span literals name k =
    subst (λ layer. IsIn name.span (layer_words layer ++ [])) (sym (out-enum span literals)) (inr (in_left name.span (names_spans literals) [] (spans_in literals name k)))

stand_record : (span : Span) (fields : List Formal) (literals : List Name) (types : List TypeTree) → Stand literals types → Stand literals (ty.Rec span fields ∷ types)
stand_record span fields literals types x name k =
    subst (λ layer. IsIn name.span (layer_words layer ++ flat_map words_of types)) (sym (out-record span fields)) (inr (x name k))

pub literals_within : (tree : TypeTree) (name : Name) → IsIn name (literals_of tree) → IsIn name.span (flat_map words_of (types_within tree))
literals_within = type_parts (λ names types literals. Stand literals types) (record {
  others = λ names name k. absurd k;
  both = λ s t a b x y. stand_both x y a b;
  enumeration = stand_enum;
  fields_in = λ span fields names types literals. stand_record span fields literals types;
})
