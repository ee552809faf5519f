-- What visible components show as a name, counted along the components whose specs have the name.
use Rattle.std.proofs.Common.{◌≡◌, ℕ, Bool, true, false, ◌||◌, List, [], ◌∷◌, Option, None, Some, is_some, refl, ap, sym, ◌∙◌, subst, if◌then◌else◌, true≢false}
use Rattle.std.proofs.lemmas.Map.Keys.{IsDistinct-head, IsDistinct-tail}
use Rattle.std.specs.List.{filter_map, cons_option, list_any, IsDistinct, AllByRecursion}
use Rattle.std.specs.Option.{option_and_then}
use Rattle.sr_names.specs.declared.meaning.Decl.{Decl}
use Rattle.sr_names.specs.declared.place.Shown.{Shown}
use Rattle.sr_names.specs.declared.place.Shown.TheVariants.{Nowhere, Once, Often}
use Rattle.sr_names.specs.declared.spot.Spot.{Spot}
use Rattle.sr_names.specs.Components.{member_named}
use Rattle.sr_names.specs.Declarers.{AreDeclarers}
use Rattle.sr_names.specs.Scopes.{candidates, shown, shown_at}
use Rattle.sr_names.specs.Shown.{counted}
use Rattle.sr_names.specs.Sorts.{is_hidden}
use Rattle.sr_names.specs.Specs.{Specs}
use Rattle.sr_names.specs.Spots.{same_spot}
use Rattle.sr_names.specs.Visible.{component_at, spots_of}
use Rattle.sr_names.proofs.LinkLemmas.{same_spot-eq, same_spot-refl}

-- one more that shows the name, or not
abbrev added : Option Decl → Shown → Shown
added None shown = shown
added (Some decl) Nowhere = Once decl
added (Some decl) (Once other) = Often
added (Some decl) Often = Often

counted-cons : (more : Option Decl) (decls : List Decl) → counted (cons_option more decls) ≡ added more (counted decls)
counted-cons None decls = refl
counted-cons (Some decl) [] = refl
counted-cons (Some decl) (first ∷ []) = refl
counted-cons (Some decl) (first ∷ second ∷ decls) = refl

added-swap : (a b : Option Decl) (shown : Shown) → added a (added b shown) ≡ added b (added a shown)
added-swap None b shown = refl
added-swap (Some a) None shown = refl
added-swap (Some a) (Some b) Nowhere = refl
added-swap (Some a) (Some b) (Once decl) = refl
added-swap (Some a) (Some b) Often = refl

-- how many of some spots give a declaration
abbrev count : (Spot → Option Decl) → List Spot → Shown
count gives spots = counted (filter_map gives spots)

same-flips : (a b : Spot) → same_spot a b ≡ true → same_spot b a ≡ true
same-flips a b e = subst (λ x. same_spot x a ≡ true) (same_spot-eq a b e) (same_spot-refl a)

other-flips : (a b : Spot) → same_spot a b ≡ false → same_spot b a ≡ false
other-flips a b e = by (same_spot b a) refl
  where
    by : (test : Bool) → same_spot b a ≡ test → same_spot b a ≡ false
    by true is = absurd (true≢false (sym (same-flips b a is) ∙ e))
    by false is = is

-- a spot that differs from all of some isn't among them
apart : (spot : Spot) (spots : List Spot) → AllByRecursion (λ other. same_spot spot other ≡ false) spots → list_any (same_spot spot) spots ≡ false
apart spot [] h = refl
apart spot (first ∷ spots) h = ap (λ b. b || list_any (same_spot spot) spots) h.0 ∙ apart spot spots h.1

-- two ways of giving declarations that differ at one spot
module _ (first second : Spot → Option Decl) (spot : Spot) (given : Option Decl)
    (here : (s : Spot) → same_spot s spot ≡ true → first s ≡ given) (none : (s : Spot) → same_spot s spot ≡ true → second s ≡ None)
    (other : (s : Spot) → same_spot s spot ≡ false → first s ≡ second s) where
  count-absent : (spots : List Spot) → list_any (same_spot spot) spots ≡ false → count first spots ≡ count second spots
  count-absent [] h = refl
  count-absent (s ∷ spots) h = by (same_spot spot s) refl (count-absent spots)
    where
      by : (test : Bool) → same_spot spot s ≡ test → (list_any (same_spot spot) spots ≡ false → count first spots ≡ count second spots) → count first (s ∷ spots) ≡ count second (s ∷ spots)
      by true is more = absurd (true≢false (sym (ap (λ b. b || list_any (same_spot spot) spots) is) ∙ h))
      by false is more =
          counted-cons (first s) (filter_map first spots)
          ∙ ap (λ o. added o (count first spots)) (other s (other-flips spot s is))
          ∙ ap (added (second s)) (more (sym (ap (λ b. b || list_any (same_spot spot) spots) is) ∙ h))
          ∙ sym (counted-cons (second s) (filter_map second spots))

  count-there : (spots : List Spot) → IsDistinct same_spot spots → list_any (same_spot spot) spots ≡ true → count first spots ≡ added given (count second spots)
  count-there [] distinct h = absurd (true≢false (sym h))
  count-there (s ∷ spots) distinct h = by (same_spot spot s) refl (count-there spots (IsDistinct-tail same_spot s spots distinct))
    where
      by : (test : Bool) → same_spot spot s ≡ test → (list_any (same_spot spot) spots ≡ true → count first spots ≡ added given (count second spots)) → count first (s ∷ spots) ≡ added given (count second (s ∷ spots))
      by true is more =
          let out : list_any (same_spot spot) spots ≡ false =
          subst (λ x. list_any (same_spot x) spots ≡ false) (sym (same_spot-eq spot s is)) (apart s spots (IsDistinct-head same_spot s spots distinct)) in
          counted-cons (first s) (filter_map first spots)
          ∙ ap (λ o. added o (count first spots)) (here s (same-flips spot s is))
          ∙ ap (added given) (count-absent spots out)
          ∙ ap (added given) (sym (counted-cons (second s) (filter_map second spots) ∙ ap (λ o. added o (count second spots)) (none s (same-flips spot s is))))
      by false is more =
          counted-cons (first s) (filter_map first spots)
          ∙ ap (λ o. added o (count first spots)) (other s (other-flips spot s is))
          ∙ ap (added (second s)) (more (sym (ap (λ b. b || list_any (same_spot spot) spots) is) ∙ h))
          ∙ added-swap (second s) given (count second spots)
          ∙ ap (added given) (sym (counted-cons (second s) (filter_map second spots)))

-- a component that isn't there isn't found
component-none : (components : List Decl) (spot : Spot) → AllByRecursion (λ other. same_spot spot other ≡ false) (spots_of components) → component_at components spot ≡ None
component-none [] spot h = refl
component-none (component ∷ components) spot h = ap (λ b. if b then Some component else component_at components spot) h.0 ∙ component-none components spot h.1

none_from : {A : Type 0} (o : Option A) → is_some o ≡ false → o ≡ None
none_from None e = refl
none_from (Some x) e = absurd (true≢false e)

-- what is shown as a name is declared as it
shown-declared : (o : Option Decl) (component : Decl) → is_some (option_and_then (λ (decl : Decl). if is_hidden component.sort decl.sort then None else Some decl) o) ≡ true → is_some o ≡ true
shown-declared None component h = h
shown-declared (Some decl) component h = refl

module _ (specs : Specs) (name : List ℕ) (declarers : List Spot) (all : AreDeclarers declarers specs name) where
  -- a component that isn't among those that declare the name doesn't show it
  unshown : (component : Decl) → list_any (same_spot component.spot) declarers ≡ false → shown specs component name ≡ None
  unshown component out = none_from (shown specs component name) (by (is_some (shown specs component name)) refl)
    where
      by : (test : Bool) → is_some (shown specs component name) ≡ test → is_some (shown specs component name) ≡ false
      by true is = absurd (true≢false (sym (all component.spot (shown-declared (member_named specs component.spot name) component is)) ∙ out))
      by false is = is

  nothing-visible : (spots : List Spot) → Nowhere ≡ count (shown_at specs [] name) spots
  nothing-visible [] = refl
  nothing-visible (spot ∷ spots) = nothing-visible spots

  pub along-declarers : IsDistinct same_spot declarers → (visible : List Decl) → IsDistinct same_spot (spots_of visible)
      → count (shown_at specs visible name) declarers ≡ counted (candidates specs visible name)
  along-declarers once [] distinct = sym (nothing-visible declarers)
  along-declarers once (component ∷ visible) distinct =
      by (list_any (same_spot component.spot) declarers) refl
      ∙ ap (added (shown specs component name)) (along-declarers once visible (IsDistinct-tail same_spot component.spot (spots_of visible) distinct))
      ∙ sym (counted-cons (shown specs component name) (candidates specs visible name))
    where
      here : (s : Spot) → same_spot s component.spot ≡ true → shown_at specs (component ∷ visible) name s ≡ shown specs component name
      here s e = ap (λ b. option_and_then (λ c. shown specs c name) (if b then Some component else component_at visible s)) e

      none : (s : Spot) → same_spot s component.spot ≡ true → shown_at specs visible name s ≡ None
      none s e =
          ap (option_and_then (λ c. shown specs c name))
          (component-none visible s
          (subst (λ x. AllByRecursion (λ other. same_spot x other ≡ false) (spots_of visible)) (sym (same_spot-eq s component.spot e))
          (IsDistinct-head same_spot component.spot (spots_of visible) distinct)))

      other : (s : Spot) → same_spot s component.spot ≡ false → shown_at specs (component ∷ visible) name s ≡ shown_at specs visible name s
      other s e = ap (λ b. option_and_then (λ c. shown specs c name) (if b then Some component else component_at visible s)) e

      by : (test : Bool) → list_any (same_spot component.spot) declarers ≡ test
          → count (shown_at specs (component ∷ visible) name) declarers ≡ added (shown specs component name) (count (shown_at specs visible name) declarers)
      by true is = count-there (shown_at specs (component ∷ visible) name) (shown_at specs visible name) component.spot (shown specs component name) here none other declarers once is
      by false is =
          count-absent (shown_at specs (component ∷ visible) name) (shown_at specs visible name) component.spot (shown specs component name) here none other declarers is
          ∙ sym (ap (λ o. added o (count (shown_at specs visible name) declarers)) (unshown component is))

-- a name that no spec has is shown nowhere
pub undeclared : (specs : Specs) (name : List ℕ) → AreDeclarers [] specs name → (visible : List Decl) → Nowhere ≡ counted (candidates specs visible name)
undeclared specs name all [] = refl
undeclared specs name all (component ∷ visible) =
    undeclared specs name all visible ∙ sym (ap (λ o. counted (cons_option o (candidates specs visible name))) (unshown specs name [] all component refl))
