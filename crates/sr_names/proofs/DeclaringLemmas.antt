-- The components whose specs have a name, as the map from names to components grows.
use Rattle.std.proofs.Common.{◌≡◌, ◌⊎◌, ℕ, zero, suc, ◌+◌, Bool, true, false, cond, ◌||◌, List, [], ◌∷◌, ◌++◌, Option, None, Some, Result, Ok, Err, OnOk, OnErr, take, slice_get, is_some, map, unwrap_or, Vec, Global, refl, ap, sym, ◌∙◌, subst, inl, inr, add-one, if◌then◌else◌, true≢false}
use Rattle.std.proofs.lemmas.Slice.Eq.{bytes_eq-Decides}
use Rattle.std.specs.List.{list_any}
use Rattle.std.specs.Map.{lookup, set_value}
use Rattle.std.specs.Option.{option_map, option_and_then}
use Rattle.std.specs.Str.{bytes_eq}
use Rattle.indexmap.specs.IndexMap.{insert_entry}
use Rattle.indexmap.specs.IndexSet.{insert_key}
use Rattle.sr_names.specs.declared.spot.Spot.{Spot}
use Rattle.sr_names.specs.Declarers.{Declarers, IsDeclarer, HoldsDeclarers}
use Rattle.sr_names.specs.Entries.{Entries}
use Rattle.sr_names.specs.Specs.{Specs}
use Rattle.sr_names.specs.Spots.{same_spot}
use Rattle.sr_names.specs.Tables.{declared_as}
use Rattle.sr_names.proofs.LinkLemmas.{same_spot-refl}
use Rattle.sr_names.proofs.Marking.{same_spot-cases, entry-same, entry-other}
use Rattle.sr_names.proofs.Places.{take-none}

-- some spots hold all others
abbrev pub Holds : List Spot → List Spot → Type 0
Holds spots others = (spot : Spot) → list_any (same_spot spot) others ≡ true → list_any (same_spot spot) spots ≡ true

any-left : (test : Spot → Bool) (spots more : List Spot) → list_any test spots ≡ true → list_any test (spots ++ more) ≡ true
any-left test [] more h = absurd (true≢false (sym h))
any-left test (first ∷ spots) more h = by (test first) refl (any-left test spots more)
  where
    by : (b : Bool) → test first ≡ b → (list_any test spots ≡ true → list_any test (spots ++ more) ≡ true) → (test first || list_any test (spots ++ more)) ≡ true
    by true is rest = ap (λ b. b || list_any test (spots ++ more)) is
    by false is rest = ap (λ b. b || list_any test (spots ++ more)) is ∙ rest (sym (ap (λ b. b || list_any test spots) is) ∙ h)

any-last : (spots : List Spot) (spot : Spot) → list_any (same_spot spot) (spots ++ spot ∷ []) ≡ true
any-last [] spot = ap (λ b. b || false) (same_spot-refl spot)
any-last (first ∷ spots) spot = by (same_spot spot first) refl (any-last spots spot)
  where
    by : (b : Bool) → same_spot spot first ≡ b → list_any (same_spot spot) (spots ++ spot ∷ []) ≡ true → (same_spot spot first || list_any (same_spot spot) (spots ++ spot ∷ [])) ≡ true
    by true is rest = ap (λ b. b || list_any (same_spot spot) (spots ++ spot ∷ [])) is
    by false is rest = ap (λ b. b || list_any (same_spot spot) (spots ++ spot ∷ [])) is ∙ rest

-- a spot that is put in is there, and so are those that were
holds-insert : (spots : List Spot) (spot : Spot) → Holds (insert_key same_spot spots spot) spots
holds-insert spots spot other h = by (list_any (same_spot spot) spots) refl
  where
    by : (b : Bool) → list_any (same_spot spot) spots ≡ b → list_any (same_spot other) (insert_key same_spot spots spot) ≡ true
    by true is = ap (λ b. list_any (same_spot other) (if b then spots else spots ++ spot ∷ [])) is ∙ h
    by false is = ap (λ b. list_any (same_spot other) (if b then spots else spots ++ spot ∷ [])) is ∙ any-left (same_spot other) spots (spot ∷ []) h

inserted : (spots : List Spot) (spot : Spot) → list_any (same_spot spot) (insert_key same_spot spots spot) ≡ true
inserted spots spot = by (list_any (same_spot spot) spots) refl
  where
    by : (b : Bool) → list_any (same_spot spot) spots ≡ b → list_any (same_spot spot) (insert_key same_spot spots spot) ≡ true
    by true is = ap (λ b. list_any (same_spot spot) (if b then spots else spots ++ spot ∷ [])) is ∙ is
    by false is = ap (λ b. list_any (same_spot spot) (if b then spots else spots ++ spot ∷ [])) is ∙ any-last spots spot

pub holds-added : {E : Type 0} (r : Result (Unit {0}) E) (old new : List Spot) (spot : Spot) → OnOk r (new ≡ insert_key same_spot old spot) → OnErr r (new ≡ old) → Holds new old
holds-added (Ok u) old new spot ok err other h = ap (list_any (same_spot other)) ok ∙ holds-insert old spot other h
holds-added (Err e) old new spot ok err other h = ap (list_any (same_spot other)) err ∙ h

pub is-added : (old new : List Spot) (spot : Spot) → new ≡ insert_key same_spot old spot → list_any (same_spot spot) new ≡ true
is-added old new spot e = ap (list_any (same_spot spot)) e ∙ inserted old spot

-- the map from names to components
module _ {V : Type 0} where
  abbrev named : List (Vec ℕ Global × V) → List (List ℕ × V)
  named entries = map (λ entry. (entry.0.items, entry.1)) entries

  pub named-set : (q : List ℕ) (es : List (Vec ℕ Global × V)) (w : V)
      → named (set_value (λ k. bytes_eq q k.items) es w) ≡ set_value (bytes_eq q) (named es) w
  named-set q [] w = refl
  named-set q (e ∷ es) w = by (bytes_eq q e.0.items) refl (named-set q es w)
    where
      by : (b : Bool) → bytes_eq q e.0.items ≡ b → named (set_value (λ k. bytes_eq q k.items) es w) ≡ set_value (bytes_eq q) (named es) w
          → named (cond (bytes_eq q e.0.items) ((e.0, w) ∷ es) (e ∷ set_value (λ k. bytes_eq q k.items) es w))
          ≡ cond (bytes_eq q e.0.items) ((e.0.items, w) ∷ named es) ((e.0.items, e.1) ∷ set_value (bytes_eq q) (named es) w)
      by true is rest =
          ap (λ b. named (cond b ((e.0, w) ∷ es) (e ∷ set_value (λ k. bytes_eq q k.items) es w))) is
          ∙ sym (ap (λ b. cond b ((e.0.items, w) ∷ named es) ((e.0.items, e.1) ∷ set_value (bytes_eq q) (named es) w)) is)
      by false is rest =
          ap (λ b. named (cond b ((e.0, w) ∷ es) (e ∷ set_value (λ k. bytes_eq q k.items) es w))) is
          ∙ ap (λ t. (e.0.items, e.1) ∷ t) rest
          ∙ sym (ap (λ b. cond b ((e.0.items, w) ∷ named es) ((e.0.items, e.1) ∷ set_value (bytes_eq q) (named es) w)) is)

abbrev is_home : Option (List Spot) → Spot → Bool
is_home found spot = list_any (same_spot spot) (unwrap_or found [])

pub some_same : {A : Type 0} (a b : A) → Some a ≡ Some b → a ≡ b
some_same a b e = ap (λ o. unwrap_or o a) e

-- where the components of a name grow, no name loses one
pub set-keeps : (all : Declarers) (name : List ℕ) (old new : List Spot) → Some old ≡ lookup (bytes_eq name) all → Holds new old
    → (other : List ℕ) (spot : Spot) → IsDeclarer all other spot → IsDeclarer (set_value (bytes_eq name) all new) other spot
set-keeps [] name old new found holds other spot h = h
set-keeps (e ∷ all) name old new found holds other spot h = by (bytes_eq name e.0) refl (bytes_eq other e.0) refl (λ f k. set-keeps all name old new f holds other spot k)
  where
    by : (b : Bool) → bytes_eq name e.0 ≡ b → (d : Bool) → bytes_eq other e.0 ≡ d
        → (Some old ≡ lookup (bytes_eq name) all → IsDeclarer all other spot → IsDeclarer (set_value (bytes_eq name) all new) other spot)
        → IsDeclarer (cond (bytes_eq name e.0) ((e.0, new) ∷ all) (e ∷ set_value (bytes_eq name) all new)) other spot
    by true is true at rest =
        let same : old ≡ e.1 = some_same old e.1 (found ∙ ap (λ b. cond b (Some e.1) (lookup (bytes_eq name) all)) is) in
        ap (λ b. is_home (lookup (bytes_eq other) (cond b ((e.0, new) ∷ all) (e ∷ set_value (bytes_eq name) all new))) spot) is
        ∙ ap (λ b. is_home (cond b (Some new) (lookup (bytes_eq other) all)) spot) at
        ∙ holds spot (ap (list_any (same_spot spot)) same ∙ sym (ap (λ b. is_home (cond b (Some e.1) (lookup (bytes_eq other) all)) spot) at) ∙ h)
    by true is false at rest =
        ap (λ b. is_home (lookup (bytes_eq other) (cond b ((e.0, new) ∷ all) (e ∷ set_value (bytes_eq name) all new))) spot) is
        ∙ ap (λ b. is_home (cond b (Some new) (lookup (bytes_eq other) all)) spot) at
        ∙ sym (ap (λ b. is_home (cond b (Some e.1) (lookup (bytes_eq other) all)) spot) at) ∙ h
    by false is true at rest =
        ap (λ b. is_home (lookup (bytes_eq other) (cond b ((e.0, new) ∷ all) (e ∷ set_value (bytes_eq name) all new))) spot) is
        ∙ ap (λ b. is_home (cond b (Some e.1) (lookup (bytes_eq other) (set_value (bytes_eq name) all new))) spot) at
        ∙ sym (ap (λ b. is_home (cond b (Some e.1) (lookup (bytes_eq other) all)) spot) at) ∙ h
    by false is false at rest =
        ap (λ b. is_home (lookup (bytes_eq other) (cond b ((e.0, new) ∷ all) (e ∷ set_value (bytes_eq name) all new))) spot) is
        ∙ ap (λ b. is_home (cond b (Some e.1) (lookup (bytes_eq other) (set_value (bytes_eq name) all new))) spot) at
        ∙ rest (found ∙ ap (λ b. cond b (Some e.1) (lookup (bytes_eq name) all)) is)
        (sym (ap (λ b. is_home (cond b (Some e.1) (lookup (bytes_eq other) all)) spot) at) ∙ h)

pub none-some : {A : Type 0} (a : A) → Some a ≡ None → ⊥
none-some a e = cc

pub set-found : (all : Declarers) (name : List ℕ) (old new : List Spot) → Some old ≡ lookup (bytes_eq name) all → lookup (bytes_eq name) (set_value (bytes_eq name) all new) ≡ Some new
set-found [] name old new found = absurd (none-some old found)
set-found (e ∷ all) name old new found = by (bytes_eq name e.0) refl (set-found all name old new)
  where
    by : (b : Bool) → bytes_eq name e.0 ≡ b → (Some old ≡ lookup (bytes_eq name) all → lookup (bytes_eq name) (set_value (bytes_eq name) all new) ≡ Some new)
        → lookup (bytes_eq name) (cond (bytes_eq name e.0) ((e.0, new) ∷ all) (e ∷ set_value (bytes_eq name) all new)) ≡ Some new
    by true is rest =
        ap (λ b. lookup (bytes_eq name) (cond b ((e.0, new) ∷ all) (e ∷ set_value (bytes_eq name) all new))) is
        ∙ ap (λ b. cond b (Some new) (lookup (bytes_eq name) all)) is
    by false is rest =
        ap (λ b. lookup (bytes_eq name) (cond b ((e.0, new) ∷ all) (e ∷ set_value (bytes_eq name) all new))) is
        ∙ ap (λ b. cond b (Some e.1) (lookup (bytes_eq name) (set_value (bytes_eq name) all new))) is
        ∙ rest (found ∙ ap (λ b. cond b (Some e.1) (lookup (bytes_eq name) all)) is)

pub push-keeps : (all : Declarers) (name : List ℕ) (spots : List Spot) (other : List ℕ) (spot : Spot) → IsDeclarer all other spot → IsDeclarer (all ++ (name, spots) ∷ []) other spot
push-keeps [] name spots other spot h = absurd (true≢false (sym h))
push-keeps (e ∷ all) name spots other spot h = by (bytes_eq other e.0) refl (push-keeps all name spots other spot)
  where
    by : (b : Bool) → bytes_eq other e.0 ≡ b → (IsDeclarer all other spot → IsDeclarer (all ++ (name, spots) ∷ []) other spot) → IsDeclarer (e ∷ (all ++ (name, spots) ∷ [])) other spot
    by true at rest =
        ap (λ b. is_home (cond b (Some e.1) (lookup (bytes_eq other) (all ++ (name, spots) ∷ []))) spot) at
        ∙ sym (ap (λ b. is_home (cond b (Some e.1) (lookup (bytes_eq other) all)) spot) at) ∙ h
    by false at rest =
        ap (λ b. is_home (cond b (Some e.1) (lookup (bytes_eq other) (all ++ (name, spots) ∷ []))) spot) at
        ∙ rest (sym (ap (λ b. is_home (cond b (Some e.1) (lookup (bytes_eq other) all)) spot) at) ∙ h)

pub push-found : (all : Declarers) (name : List ℕ) (spots : List Spot) → lookup (bytes_eq name) all ≡ None → lookup (bytes_eq name) (all ++ (name, spots) ∷ []) ≡ Some spots
push-found [] name spots none = ap (λ b. cond b (Some spots) None) ((bytes_eq-Decides name name).1 refl)
push-found (e ∷ all) name spots none = by (bytes_eq name e.0) refl (push-found all name spots)
  where
    by : (b : Bool) → bytes_eq name e.0 ≡ b → (lookup (bytes_eq name) all ≡ None → lookup (bytes_eq name) (all ++ (name, spots) ∷ []) ≡ Some spots) → lookup (bytes_eq name) (e ∷ (all ++ (name, spots) ∷ [])) ≡ Some spots
    by true is rest = absurd (none-some e.1 (sym (ap (λ b. cond b (Some e.1) (lookup (bytes_eq name) all)) is) ∙ none))
    by false is rest =
        ap (λ b. cond b (Some e.1) (lookup (bytes_eq name) (all ++ (name, spots) ∷ []))) is
        ∙ rest (sym (ap (λ b. cond b (Some e.1) (lookup (bytes_eq name) all)) is) ∙ none)

-- what is found holds a component
pub is-declarer : (all : Declarers) (name : List ℕ) (spots : List Spot) (spot : Spot) → lookup (bytes_eq name) all ≡ Some spots → list_any (same_spot spot) spots ≡ true → IsDeclarer all name spot
is-declarer all name spots spot found h = ap (λ o. is_home o spot) found ∙ h

-- a name of the first entries of a spec is that of the last of them, or of those before
pub declared-next : (spec : Entries) (i : ℕ) (name : List ℕ) → is_some (declared_as (take (i + 1) spec) name) ≡ true
    → (is_some (declared_as (take i spec) name) ≡ true) ⊎ (option_map (λ entry. entry.0) (slice_get spec i) ≡ Some name)
declared-next spec i name h = next spec i (subst (λ n. is_some (declared_as (take n spec) name) ≡ true) (add-one i) h)
  where
    next : (spec : Entries) (i : ℕ) → is_some (declared_as (take (suc i) spec) name) ≡ true
        → (is_some (declared_as (take i spec) name) ≡ true) ⊎ (option_map (λ entry. entry.0) (slice_get spec i) ≡ Some name)
    next [] i h = absurd (true≢false (sym h))
    next (e ∷ spec) zero h = by (bytes_eq name e.0) refl
      where
        by : (b : Bool) → bytes_eq name e.0 ≡ b → (is_some (declared_as (take zero (e ∷ spec)) name) ≡ true) ⊎ (Some e.0 ≡ Some name)
        by true is = inr (ap Some (sym ((bytes_eq-Decides name e.0).0 is)))
        by false is =
            absurd (true≢false (sym h ∙ ap (λ b. is_some (cond b (Some e.1) (declared_as (take zero spec) name))) is ∙ ap (λ entries. is_some (declared_as entries name)) (take-none spec)))
    next (e ∷ spec) (suc i) h = by (bytes_eq name e.0) refl (next spec i)
      where
        by : (b : Bool) → bytes_eq name e.0 ≡ b
            → (is_some (declared_as (take (suc i) spec) name) ≡ true → (is_some (declared_as (take i spec) name) ≡ true) ⊎ (option_map (λ entry. entry.0) (slice_get spec i) ≡ Some name))
            → (is_some (cond (bytes_eq name e.0) (Some e.1) (declared_as (take i spec) name)) ≡ true) ⊎ (option_map (λ entry. entry.0) (slice_get spec i) ≡ Some name)
        by true is more = inl (ap (λ b. is_some (cond b (Some e.1) (declared_as (take i spec) name))) is)
        by false is more = after (more (sym (ap (λ b. is_some (cond b (Some e.1) (declared_as (take (suc i) spec) name))) is) ∙ h))
          where
            after : ((is_some (declared_as (take i spec) name) ≡ true) ⊎ (option_map (λ entry. entry.0) (slice_get spec i) ≡ Some name))
                → (is_some (cond (bytes_eq name e.0) (Some e.1) (declared_as (take i spec) name)) ≡ true) ⊎ (option_map (λ entry. entry.0) (slice_get spec i) ≡ Some name)
            after (inl k) = inl (ap (λ b. is_some (cond b (Some e.1) (declared_as (take i spec) name))) is ∙ k)
            after (inr k) = inr k

-- where a spec is put in and its component is one of those of each of its names, all components of each name are there
pub holds-members : (old new : Declarers) (specs : Specs) (at : Spot) (spec : Entries) → HoldsDeclarers old specs
    → ((name : List ℕ) (spot : Spot) → IsDeclarer old name spot → IsDeclarer new name spot)
    → ((name : List ℕ) → is_some (declared_as spec name) ≡ true → IsDeclarer new name at)
    → HoldsDeclarers new (insert_entry same_spot specs at spec)
holds-members old new specs at spec holds kept added name component h = by (same_spot-cases component at)
  where
    by : ((component ≡ at) ⊎ (same_spot component at ≡ false)) → IsDeclarer new name component
    by (inl e) =
        subst (IsDeclarer new name) (sym e)
        (added name
        (sym (ap (λ o. is_some (option_and_then (λ spec. declared_as spec name) o)) (ap (λ s. lookup (same_spot s) (insert_entry same_spot specs at spec)) e ∙ entry-same specs at spec)) ∙ h))
    by (inr e) =
        kept name component
        (holds name component (sym (ap (λ o. is_some (option_and_then (λ spec. declared_as spec name) o)) (entry-other specs at spec component e)) ∙ h))

-- a component that is put among those of a spec's next name
pub added-next : (spec : Entries) (i : ℕ) (at : Option (List ℕ)) → at ≡ option_map (λ entry. entry.0) (slice_get spec i) → (seen after : Declarers) (component : Spot)
    → ((name : List ℕ) → is_some (declared_as (take i spec) name) ≡ true → IsDeclarer seen name component)
    → ((name : List ℕ) (spot : Spot) → IsDeclarer seen name spot → IsDeclarer after name spot)
    → ((name : List ℕ) → at ≡ Some name → IsDeclarer after name component)
    → (name : List ℕ) → is_some (declared_as (take (i + 1) spec) name) ≡ true → IsDeclarer after name component
added-next spec i at here seen after component before kept added name h = by (declared-next spec i name h)
  where
    by : ((is_some (declared_as (take i spec) name) ≡ true) ⊎ (option_map (λ entry. entry.0) (slice_get spec i) ≡ Some name)) → IsDeclarer after name component
    by (inl k) = kept name component (before name k)
    by (inr k) = added name (here ∙ k)
