-- A shared variable of a component is in the table of shared variables, with the component and its place among the component's variables.
use Rattle.std.proofs.Common.{◌≡◌, ◌⊎◌, ℕ, ◌+◌, true, false, List, [], ◌∷◌, Some, flat_map, sym, ap, ◌∙◌, subst, inl, inr, is_some}
use Rattle.std.specs.List.{enumerate_from}
use Rattle.std.proofs.lemmas.Bool.{false≢true}
use Rattle.std.proofs.lemmas.Option.{same_Some}
use Rattle.sr_check_expr.specs.declared.facts.Facts.{Facts}
use Rattle.sr_names.proofs.Marking.{entry-same, entry-other, same_spot-cases}
use Rattle.sr_names.specs.declared.spot.Spot.{Spot}
use Rattle.sr_names.specs.Spots.{same_spot}
use Rattle.sr_outline.specs.Numbers.{component_shared, shared_of, shared_spots}
use Rattle.sr_scope.specs.Uses.{IsIn}
use Rattle.sr_scope.proofs.Findings.{in_flat}
use Rattle.sr_scope.proofs.Operations.{from_flat}
use Rattle.sr_tables.specs.declared.tables.SharedVariable.{SharedVariable}
use Rattle.sr_tables.specs.Tables.{each_once, found_at, with_entries, with_entry}
use Rattle.sr_tree.specs.declared.component.Component.{Component}
use Rattle.sr_front.proofs.Lists.Lists.{from_mapped, in_mapped}
use Rattle.sr_front.proofs.Own.OwnOrShared.{in_once}

-- ---- tables

module _ {A : Type 0} where
  -- what a table has for a spot stays
  kept : (entries table : List (Spot × A)) (spot : Spot) → is_some (found_at table spot) ≡ true → is_some (found_at (with_entries table entries) spot) ≡ true
  kept [] table spot h = h
  kept (entry ∷ entries) table spot h = kept entries (with_entry table entry.0 entry.1) spot (by (same_spot-cases spot entry.0))
    where
      by : (spot ≡ entry.0) ⊎ (same_spot spot entry.0 ≡ false) → is_some (found_at (with_entry table entry.0 entry.1) spot) ≡ true
      by (inl e) = subst (λ s. is_some (found_at (with_entry table entry.0 entry.1) s) ≡ true) (sym e) (ap is_some (entry-same table entry.0 entry.1))
      by (inr other) = ap is_some (entry-other table entry.0 entry.1 spot other) ∙ h

  -- each spot of the entries is in the table
  put : (entries table : List (Spot × A)) (entry : Spot × A) → IsIn entry entries → is_some (found_at (with_entries table entries) entry.0) ≡ true
  put [] table entry h = absurd h
  put (first ∷ entries) table entry (inl e) =
      kept entries (with_entry table first.0 first.1) entry.0
      (subst (λ (one : Spot × A). is_some (found_at (with_entry table first.0 first.1) one.0) ≡ true) e (ap is_some (entry-same table first.0 first.1)))
  put (first ∷ entries) table entry (inr h) = put entries (with_entry table first.0 first.1) entry h

  -- what the table has is one of the entries
  from : (entries table : List (Spot × A)) (spot : Spot) (thing : A) → found_at (with_entries table entries) spot ≡ Some thing
      → IsIn (spot, thing) entries ⊎ (found_at table spot ≡ Some thing)
  from [] table spot thing e = inr e
  from (first ∷ entries) table spot thing e = last (from entries (with_entry table first.0 first.1) spot thing e)
    where
      by : (spot ≡ first.0) ⊎ (same_spot spot first.0 ≡ false) → found_at (with_entry table first.0 first.1) spot ≡ Some thing
          → IsIn (spot, thing) (first ∷ entries) ⊎ (found_at table spot ≡ Some thing)
      by (inl same) found =
          let there : first.1 ≡ thing = same_Some _ _ (sym (entry-same table first.0 first.1) ∙ ap (λ s. found_at (with_entry table first.0 first.1) s) (sym same) ∙ found) in
          inl (inl (λ i. (sym same i, there i)))
      by (inr other) found = inr (sym (entry-other table first.0 first.1 spot other) ∙ found)

      last : IsIn (spot, thing) entries ⊎ (found_at (with_entry table first.0 first.1) spot ≡ Some thing) → IsIn (spot, thing) (first ∷ entries) ⊎ (found_at table spot ≡ Some thing)
      last (inl k) = inl (inr k)
      last (inr found) = by (same_spot-cases spot first.0) found

-- ---- lists

in_numbered : {A : Type 0} (first : ℕ) (xs : List A) (x : A) → IsIn x xs → (number : ℕ) × IsIn (number, x) (enumerate_from first xs)
in_numbered first [] x h = absurd h
in_numbered first (y ∷ xs) x (inl e) = (first, inl (ap (λ z. (first, z)) e))
in_numbered first (y ∷ xs) x (inr k) = let more = in_numbered (first + 1) xs x k in (more.0, inr more.1)

-- ---- shared variables

-- where a shared variable stands: by its component's place among the components, and by its own among the variables of the component
pub record IsEntry (facts : Facts) (all : List Component) (spot : Spot) (variable : SharedVariable) : Type 0 where
  pub component : Component
  pub numbered : IsIn (variable.component, component) (enumerate_from 0 all)
  pub place : IsIn (variable.var, spot) (enumerate_from 0 (each_once (shared_spots facts component)))

module _ (facts : Facts) (all : List Component) where
  abbrev entries_of : ℕ × Component → List (Spot × SharedVariable)
  entries_of numbered = component_shared facts numbered.0 numbered.1

  -- what the table has
  pub entry_is : (spot : Spot) (variable : SharedVariable) → found_at (shared_of facts all) spot ≡ Some variable → IsEntry facts all spot variable
  entry_is spot variable e = by (from (flat_map entries_of (enumerate_from 0 all)) [] spot variable e)
    where
      by : IsIn (spot, variable) (flat_map entries_of (enumerate_from 0 all)) ⊎ (found_at [] spot ≡ Some variable) → IsEntry facts all spot variable
      by (inr none) = absurd (false≢true (ap is_some none))
      by (inl k) =
          let part = from_flat entries_of (spot, variable) (enumerate_from 0 all) k in
          let one = from_mapped (λ (numbered : ℕ × Spot). (numbered.1, record { component = part.0.0; var = numbered.0 })) (enumerate_from 0 (each_once (shared_spots facts part.0.1))) (spot, variable) part.2 in
          let component : part.0.0 ≡ variable.component = ap (λ (entry : Spot × SharedVariable). entry.1.component) one.2 in
          let var : one.0.0 ≡ variable.var = ap (λ (entry : Spot × SharedVariable). entry.1.var) one.2 in
          let there : one.0.1 ≡ spot = ap (λ (entry : Spot × SharedVariable). entry.0) one.2 in
          record {
            component = part.0.1;
            numbered = subst (λ number. IsIn (number, part.0.1) (enumerate_from 0 all)) component part.1;
            place = subst (λ (pair : ℕ × Spot). IsIn pair (enumerate_from 0 (each_once (shared_spots facts part.0.1)))) (λ i. (var i, there i)) one.1;
          }

  -- a shared variable of one of the components is in it
  pub shared_found : (component : Component) → IsIn component all → (spot : Spot) → IsIn spot (shared_spots facts component) → is_some (found_at (shared_of facts all) spot) ≡ true
  shared_found component there spot among =
      let numbered = in_numbered 0 all component there in
      let place = in_numbered 0 (each_once (shared_spots facts component)) spot (in_once spot (shared_spots facts component) among) in
      let entry : IsIn (spot, record { component = numbered.0; var = place.0 }) (entries_of (numbered.0, component)) =
      in_mapped (λ (one : ℕ × Spot). (one.1, record { component = numbered.0; var = one.0 })) (enumerate_from 0 (each_once (shared_spots facts component))) (place.0, spot) place.1 in
      put (flat_map entries_of (enumerate_from 0 all)) [] (spot, record { component = numbered.0; var = place.0 })
      (in_flat entries_of (numbered.0, component) (spot, record { component = numbered.0; var = place.0 }) (enumerate_from 0 all) numbered.1 entry)
