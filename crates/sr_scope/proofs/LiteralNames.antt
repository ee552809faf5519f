-- The literals in a type are among the names in it.
use Rattle.std.proofs.Common.{◌≡◌, ◌+◌, ◌≤◌, List, [], ◌∷◌, ◌++◌, arith}
use Rattle.sr_value.specs.declared.place.Span.{Span}
use Rattle.sr_names.specs.declared.spot.Spot.{Spot}
use Rattle.sr_tree.specs.declared.name.Name.{Name}
use Rattle.sr_tree.specs.declared.types.TypeTree.{TypeTree}
use Rattle.sr_order.specs.Names.{names_spans, type_names}
use Rattle.sr_scope.specs.Literals.{literals_of}
use Rattle.sr_scope.proofs.Among.{names_at, names_both}
use Rattle.sr_scope.proofs.TypeParts.{type_parts}

-- at no spot stand more of the literals than of the names
pub record Within (literals : List Name) (spans : List Span) : Type 0 where
  pub at : (spot : Spot) → names_at spot (names_spans literals) ≤ names_at spot spans

literals_both : (spot : Spot) (a b : List Name) → names_at spot (names_spans (a ++ b)) ≡ names_at spot (names_spans a) + names_at spot (names_spans b)
literals_both spot [] b = omega arith
literals_both spot (name ∷ a) b = omega (arith, literals_both spot a b)

both : {a b : List Name} {s t : List Span} → Within a s → Within b t → Within (a ++ b) (s ++ t)
both {a = a} {b = b} {s = s} {t = t} h k = record {
  at = λ spot. omega (arith, literals_both spot a b, names_both spot s t, h.at spot, k.at spot);
}

after_one : {a : List Name} {t : List Span} (span : Span) → Within a t → Within a (span ∷ t)
after_one {a = a} {t = t} span h = record { at = λ spot. omega (arith, h.at spot) }

no_literals : {s : List Span} → Within [] s
no_literals = record { at = λ spot. omega arith }

own_literals : (literals : List Name) → Within literals (names_spans literals)
own_literals literals = record { at = λ spot. omega arith }

pub literals_within : (tree : TypeTree) → Within (literals_of tree) (type_names tree)
literals_within = type_parts (λ names types literals. Within literals names) (record {
  others = λ names. no_literals;
  both = λ s t a b x y. both;
  enumeration = λ span literals. after_one span (own_literals literals);
  fields_in = λ span fields names types literals. after_one span;
})
