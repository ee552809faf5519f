-- Visible components as their map has them.
use Rattle.std.proofs.Common.{◌≡◌, Bool, true, false, cond, List, [], ◌∷◌, ◌++◌, Option, None, Some, is_some, refl, ap, sym, ◌∙◌, subst, if◌then◌else◌, true≢false}
use Rattle.std.specs.List.{IsDistinct}
use Rattle.std.specs.Map.{lookup, keys_of}
use Rattle.std.specs.Option.{option_map}
use Rattle.indexmap.specs.IndexMap.{insert_entry}
use Rattle.sr_names.specs.declared.meaning.Decl.{Decl}
use Rattle.sr_names.specs.declared.meaning.Sort.{Sort}
use Rattle.sr_names.specs.declared.spot.Spot.{Spot}
use Rattle.sr_names.specs.Spots.{same_spot}
use Rattle.sr_names.specs.Visible.{component_at, components_of, spots_of}
use Rattle.sr_names.proofs.LinkLemmas.{same_spot-eq}

abbrev pub as_decl : Spot → Sort → Decl
as_decl spot sort = record { sort = sort; spot = spot }

-- a component is found as the map finds its sort
pub component-found : (sorts : List (Spot × Sort)) (spot : Spot) → component_at (components_of sorts) spot ≡ option_map (as_decl spot) (lookup (same_spot spot) sorts)
component-found [] spot = refl
component-found (e ∷ sorts) spot = by (same_spot spot e.0) refl (component-found sorts spot)
  where
    by : (test : Bool) → same_spot spot e.0 ≡ test → component_at (components_of sorts) spot ≡ option_map (as_decl spot) (lookup (same_spot spot) sorts)
        → component_at (components_of (e ∷ sorts)) spot ≡ option_map (as_decl spot) (lookup (same_spot spot) (e ∷ sorts))
    by true is more =
        ap (λ b. if b then Some (as_decl e.0 e.1) else component_at (components_of sorts) spot) is
        ∙ ap (λ s. Some (as_decl s e.1)) (sym (same_spot-eq spot e.0 is))
        ∙ sym (ap (λ b. option_map (as_decl spot) (cond b (Some e.1) (lookup (same_spot spot) sorts))) is)
    by false is more =
        ap (λ b. if b then Some (as_decl e.0 e.1) else component_at (components_of sorts) spot) is
        ∙ more
        ∙ sym (ap (λ b. option_map (as_decl spot) (cond b (Some e.1) (lookup (same_spot spot) sorts))) is)

pub component-from_map : (sorts : List (Spot × Sort)) (visible : List Decl) (spot : Spot) (found : Option Sort) → found ≡ lookup (same_spot spot) sorts → components_of sorts ≡ visible
    → option_map (as_decl spot) found ≡ component_at visible spot
component-from_map sorts visible spot found e view = ap (option_map (as_decl spot)) e ∙ sym (component-found sorts spot) ∙ ap (λ components. component_at components spot) view

pub is_some-map : {A B : Type 0} (f : A → B) (o : Option A) → is_some (option_map f o) ≡ is_some o
is_some-map f None = refl
is_some-map f (Some x) = refl

-- their spots are the map's keys
spots-keys : (sorts : List (Spot × Sort)) → keys_of sorts ≡ spots_of (components_of sorts)
spots-keys [] = refl
spots-keys (e ∷ sorts) = ap (λ spots. e.0 ∷ spots) (spots-keys sorts)

pub distinct-spots : (sorts : List (Spot × Sort)) → IsDistinct same_spot (keys_of sorts) → IsDistinct same_spot (spots_of (components_of sorts))
distinct-spots sorts h = subst (IsDistinct same_spot) (spots-keys sorts) h

-- a component that isn't there goes last
pub components-insert : (spot : Spot) (sort : Sort) (sorts : List (Spot × Sort)) → is_some (lookup (same_spot spot) sorts) ≡ false
    → components_of (insert_entry same_spot sorts spot sort) ≡ components_of sorts ++ as_decl spot sort ∷ []
components-insert spot sort [] none = refl
components-insert spot sort (e ∷ sorts) none = by (same_spot spot e.0) refl (components-insert spot sort sorts)
  where
    by : (b : Bool) → same_spot spot e.0 ≡ b
        → (is_some (lookup (same_spot spot) sorts) ≡ false → components_of (insert_entry same_spot sorts spot sort) ≡ components_of sorts ++ as_decl spot sort ∷ [])
        → components_of (if same_spot spot e.0 then (e.0, sort) ∷ sorts else e ∷ insert_entry same_spot sorts spot sort) ≡ as_decl e.0 e.1 ∷ (components_of sorts ++ as_decl spot sort ∷ [])
    by true is more = absurd (true≢false (sym (ap (λ b. is_some (cond b (Some e.1) (lookup (same_spot spot) sorts))) is) ∙ none))
    by false is more =
        ap (λ b. components_of (if b then (e.0, sort) ∷ sorts else e ∷ insert_entry same_spot sorts spot sort)) is
        ∙ ap (λ t. as_decl e.0 e.1 ∷ t) (more (sym (ap (λ b. is_some (cond b (Some e.1) (lookup (same_spot spot) sorts))) is) ∙ none))
