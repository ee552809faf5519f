-- How spans are picked from pieces of a list of tokens.
use Rattle.std.proofs.Common.{◌≡◌, refl, ap, sym, subst, Bool, List, [], ◌∷◌, ◌++◌, map, flat_map, append_assoc}
use Rattle.sr_value.specs.declared.place.Span.{Span}
use Rattle.sr_tree.specs.declared.token.Token.{Token}
use Rattle.sr_tree.specs.Components as c
use Rattle.sr_tree.specs.Components.{SpellsList}
use Rattle.sr_order.specs.Order.{Picks, nothing, left_out, picked}
use Rattle.sr_order.specs.Spans.{joined}

-- no span is picked from any tokens
pub none : {u : List Token} → Picks [] u
none {u = []} = nothing
none {u = t ∷ u} = left_out t none

-- from two pieces, one after the other
pub both : {a b : List Span} {u v : List Token} → Picks a u → Picks b v → Picks (a ++ b) (u ++ v)
both nothing q = q
both (left_out t p) q = left_out t (both p q)
both (picked t p) q = picked t (both p q)

-- from three pieces, where the spans of the first two go together
pub three : {a b c : List Span} {u v w : List Token} → Picks a u → Picks b v → Picks c w → Picks ((a ++ b) ++ c) (u ++ (v ++ w))
three {a = a} {b = b} {c = c} {u = u} {v = v} {w = w} p q r = subst (λ spans. Picks spans (u ++ (v ++ w))) (sym (append_assoc a b c)) (both p (both q r))

-- from the first of two pieces alone
pub first : {a : List Span} {u : List Token} (v : List Token) → Picks a u → Picks a (u ++ v)
first v nothing = none
first v (left_out t p) = left_out t (first v p)
first v (picked t p) = picked t (first v p)

-- from the second of two pieces alone
pub second : {b : List Span} (u : List Token) {v : List Token} → Picks b v → Picks b (u ++ v)
second [] q = q
second (t ∷ u) q = left_out t (second u q)

-- from the items of a list with separators
pub listed : {A : Type 0} {Spells : A → List Token → Type 0} (spans : A → List Span)
    → ((i : A) (u : List Token) → Spells i u → Picks (spans i) u)
    → {may_begin : Bool} {is : List A} {u : List Token} → SpellsList Spells may_begin is u → Picks (flat_map spans is) u
listed spans pick c.stop_here = nothing
listed spans pick (c.separator t h d) = left_out t (listed spans pick d)
listed spans pick (c.one {i = i} {u = u} d more) = both (pick i u d) (listed spans pick more)

-- the lists of some parts, joined
pub joined-map : {A : Type 0} (spans : A → List Span) (parts : List A) → joined (map spans parts) ≡ flat_map spans parts
joined-map spans [] = refl
joined-map spans (part ∷ parts) = ap (λ more. spans part ++ more) (joined-map spans parts)

pub gathered : {A : Type 0} (spans : A → List Span) (parts : List A) {u : List Token} → Picks (joined (map spans parts)) u → Picks (flat_map spans parts) u
gathered spans parts {u = u} p = subst (λ some. Picks some u) (joined-map spans parts) p
