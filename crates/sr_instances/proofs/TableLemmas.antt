-- The tables against the instances that they stand for.
use Rattle.std.proofs.Common.{◌≡◌, ℕ, Bool, true, false, cond, ◌&&◌, ◌==◌, List, [], ◌∷◌, ◌++◌, Option, None, Some, IsSome, is_some, map, refl, ap, sym, ◌∙◌, subst, true≢false, nat_eq}
use Rattle.std.proofs.lemmas.Bool.{eqb-true}
use Rattle.std.proofs.lemmas.List.{map-append}
use Rattle.std.proofs.lemmas.Map.{keys-set_value}
use Rattle.std.specs.Cmp.{nat_eq_equiv}
use Rattle.std.specs.Prelude.{find}
use Rattle.std.specs.List.{AllByRecursion, IsDistinct}
use Rattle.std.specs.Map.{keys_of, lookup, set_value}
use Rattle.std.specs.Option.{option_map}
use Rattle.sr_instances.specs.Instances.{Instance, in_state, is_global}
use Rattle.sr_instances.specs.Tables.{IsIndexed, first_of, instance_in, instances_in, same_spot}
use Rattle.sr_instances.specs.declared.state.State.{State}
use Rattle.sr_instances.specs.declared.tables.Spot.{Spot}
use Rattle.sr_instances.specs.declared.tables.InstanceInfo.{InstanceInfo}
use Rattle.sr_instances.proofs.InstanceLemmas.{found-push, global-in_state, named}

-- ---- by name

-- what is read of an instance stands in its entry
pub look-up : {A : Type 0} (f : Instance → A) (g : InstanceInfo → A) → ((e : ℕ × InstanceInfo) → f (instance_in e) ≡ g e.1) → (name : ℕ) (es : List (ℕ × InstanceInfo))
    → option_map f (find (named name) (instances_in es)) ≡ option_map g (lookup (nat_eq name) es)
look-up f g same name [] = refl
look-up f g same name (e ∷ es) = by (nat_eq name e.0) (look-up f g same name es)
  where
    by : (b : Bool) → option_map f (find (named name) (instances_in es)) ≡ option_map g (lookup (nat_eq name) es)
        → option_map f (cond b (Some (instance_in e)) (find (named name) (instances_in es))) ≡ option_map g (cond b (Some e.1) (lookup (nat_eq name) es))
    by true more = ap Some (same e)
    by false more = more

is_some-option_map : {A B : Type 0} (f : A → B) (o : Option A) → is_some (option_map f o) ≡ is_some o
is_some-option_map f None = refl
is_some-option_map f (Some x) = refl

pub is_some-look-up : (name : ℕ) (es : List (ℕ × InstanceInfo)) → is_some (find (named name) (instances_in es)) ≡ is_some (lookup (nat_eq name) es)
is_some-look-up name es =
    sym (is_some-option_map (λ i. i.component) (find (named name) (instances_in es)))
    ∙ ap is_some (look-up (λ i. i.component) (λ s. s.component) (λ e. refl) name es)
    ∙ is_some-option_map (λ s. s.component) (lookup (nat_eq name) es)

none_from_is_some : {A : Type 0} (o : Option A) → (IsSome o → ⊥) → o ≡ None
none_from_is_some None not = refl
none_from_is_some (Some x) not = absurd (not refl)

pub absent : (name : ℕ) (es : List (ℕ × InstanceInfo)) → (IsSome (find (named name) (instances_in es)) → ⊥) → lookup (nat_eq name) es ≡ None
absent name es not = none_from_is_some (lookup (nat_eq name) es) (λ there. not (is_some-look-up name es ∙ there))

pub names-in : (es : List (ℕ × InstanceInfo)) → keys_of es ≡ map (λ (i : Instance). i.name) (instances_in es)
names-in [] = refl
names-in (e ∷ es) = ap (λ ns. e.0 ∷ ns) (names-in es)

-- ---- a new state

module _ (n : ℕ) (s : State) where
  untouched : (es : List (ℕ × InstanceInfo)) → AllByRecursion (λ k. nat_eq n k ≡ false) (keys_of es) → map (in_state n s) (instances_in es) ≡ instances_in es
  untouched [] all = refl
  untouched (e ∷ es) all = ap (λ b. cond b (record (instance_in e) { state = s }) (instance_in e) ∷ map (in_state n s) (instances_in es)) all.0 ∙ ap (λ is. instance_in e ∷ is) (untouched es all.1)

  unwrapped : (x y : InstanceInfo) → Some x ≡ Some y → x ≡ y
  unwrapped x y e = ap (λ o. cond (is_some o) (from o) y) e
    where
      from : Option InstanceInfo → InstanceInfo
      from None = y
      from (Some z) = z

  -- the entry of one instance changes as the instance does
  pub instances-set : (es : List (ℕ × InstanceInfo)) (standing : InstanceInfo) → IsDistinct nat_eq (keys_of es) → lookup (nat_eq n) es ≡ Some standing
      → instances_in (set_value (nat_eq n) es (record standing { state = s })) ≡ map (in_state n s) (instances_in es)
  unfolding IsDistinct
  instances-set [] standing distinct at = absurd (true≢false (sym (ap is_some at)))
  instances-set (e ∷ es) standing distinct at = by (nat_eq n e.0) refl at (instances-set es standing distinct.1)
    where
      by : (b : Bool) → nat_eq n e.0 ≡ b → cond b (Some e.1) (lookup (nat_eq n) es) ≡ Some standing
          → (lookup (nat_eq n) es ≡ Some standing → instances_in (set_value (nat_eq n) es (record standing { state = s })) ≡ map (in_state n s) (instances_in es))
          → instances_in (cond b ((e.0, record standing { state = s }) ∷ es) (e ∷ set_value (nat_eq n) es (record standing { state = s }))) ≡ cond b (record (instance_in e) { state = s }) (instance_in e) ∷ map (in_state n s) (instances_in es)
      by true is here more =
          ap (λ x. instance_in (e.0, record x { state = s }) ∷ instances_in es) (sym (unwrapped e.1 standing here))
          ∙ ap (λ is. record (instance_in e) { state = s } ∷ is) (sym (untouched es (subst (λ k. AllByRecursion (λ y. nat_eq k y ≡ false) (keys_of es)) (sym (eqb-true n e.0 is)) distinct.0)))
      by false is there more = ap (λ is. instance_in e ∷ is) (more there)

  pub indexed-set : (es : List (ℕ × InstanceInfo)) (names : List ℕ) (globals : List (Spot × ℕ)) (standing : InstanceInfo) → IsDistinct nat_eq (keys_of es) → lookup (nat_eq n) es ≡ Some standing
      → IsIndexed es names globals → IsIndexed (set_value (nat_eq n) es (record standing { state = s })) names globals
  indexed-set es names globals standing distinct at is = record {
    named = is.named ∙ sym (keys-set_value (nat_eq n) es (record standing { state = s }));
    found = λ spot. is.found spot ∙ sym (ap (λ all. option_map (λ (i : Instance). i.name) (find (is_global spot.component spot.machine) all)) (instances-set es standing distinct at)
        ∙ global-in_state n s spot.component spot.machine (instances_in es));
  }

-- ---- a new instance

keys-push : (es : List (ℕ × InstanceInfo)) (e : ℕ × InstanceInfo) → keys_of (es ++ e ∷ []) ≡ keys_of es ++ e.0 ∷ []
keys-push es e = map-append (λ (x : ℕ × InstanceInfo). x.0) es (e ∷ [])

pub instances-push : (es : List (ℕ × InstanceInfo)) (e : ℕ × InstanceInfo) → instances_in (es ++ e ∷ []) ≡ instances_in es ++ instance_in e ∷ []
instances-push es e = map-append instance_in es (e ∷ [])

pub indexed-push : (es : List (ℕ × InstanceInfo)) (names : List ℕ) (globals globals' : List (Spot × ℕ)) (e : ℕ × InstanceInfo) (spot : Spot)
    → spot.component ≡ e.1.component → spot.machine ≡ e.1.machine
    → ((q : Spot) → lookup (same_spot q) globals' ≡ first_of (lookup (same_spot q) globals) (cond (same_spot q spot) (Some e.0) None))
    → IsIndexed es names globals → IsIndexed (es ++ e ∷ []) (names ++ e.0 ∷ []) globals'
indexed-push es names globals globals' e spot component machine grown is = record {
  named = ap (λ ns. ns ++ e.0 ∷ []) is.named ∙ sym (keys-push es e);
  found = λ q. grown q
      ∙ ap (λ o. first_of o (cond (same_spot q spot) (Some e.0) None)) (is.found q)
      ∙ ap (λ c. first_of (option_map (λ (i : Instance). i.name) (find (is_global q.component q.machine) (instances_in es))) (cond ((q.component == c) && (q.machine == spot.machine)) (Some e.0) None)) component
      ∙ ap (λ m. first_of (option_map (λ (i : Instance). i.name) (find (is_global q.component q.machine) (instances_in es))) (cond ((q.component == e.1.component) && (q.machine == m)) (Some e.0) None)) machine
      ∙ sym (found-push (is_global q.component q.machine) (instances_in es) (instance_in e))
      ∙ sym (ap (λ all. option_map (λ (i : Instance). i.name) (find (is_global q.component q.machine) all)) (instances-push es e));
}

-- ---- the globals

same_spot-turned : (a b : Spot) → same_spot a b ≡ same_spot b a
same_spot-turned a b = ap (λ t. t && (a.machine == b.machine)) (nat_eq_equiv.symm a.component b.component) ∙ ap (λ t. (b.component == a.component) && t) (nat_eq_equiv.symm a.machine b.machine)

same_parts : (a b : Spot) → same_spot a b ≡ true → a ≡ b
same_parts a b same = by (a.component == b.component) refl same
  where
    by : (t : Bool) → (a.component == b.component) ≡ t → (t && (a.machine == b.machine)) ≡ true → a ≡ b
    by true c m = ap (λ x. record a { component = x }) (eqb-true a.component b.component c) ∙ ap (λ x. record b { machine = x }) (eqb-true a.machine b.machine m)
    by false c m = absurd (true≢false (sym m))

-- a spot that is there keeps its instance, and no other is changed
pub first-kept : (globals : List (Spot × ℕ)) (spot : Spot) (name : ℕ) → IsSome (lookup (same_spot spot) globals)
    → (q : Spot) → lookup (same_spot q) globals ≡ first_of (lookup (same_spot q) globals) (cond (same_spot q spot) (Some name) None)
first-kept globals spot name there q = by (same_spot q spot) refl
  where
    kept : (o r : Option ℕ) → IsSome o → o ≡ first_of o r
    kept None r h = absurd (true≢false (sym h))
    kept (Some x) r h = refl

    nothing : (o : Option ℕ) → o ≡ first_of o None
    nothing None = refl
    nothing (Some x) = refl

    by : (b : Bool) → same_spot q spot ≡ b → lookup (same_spot q) globals ≡ first_of (lookup (same_spot q) globals) (cond b (Some name) None)
    by true is = kept (lookup (same_spot q) globals) (Some name) (subst (λ x. IsSome (lookup (same_spot x) globals)) (sym (same_parts q spot is)) there)
    by false is = nothing (lookup (same_spot q) globals)

-- a new spot has the instance
pub first-put : (globals globals' : List (Spot × ℕ)) (spot : Spot) (name : ℕ) → lookup (same_spot spot) globals ≡ None
    → ((q : Spot) → lookup (same_spot q) globals' ≡ cond (same_spot spot q) (Some name) (lookup (same_spot q) globals))
    → (q : Spot) → lookup (same_spot q) globals' ≡ first_of (lookup (same_spot q) globals) (cond (same_spot q spot) (Some name) None)
first-put globals globals' spot name none put q =
    put q ∙ ap (λ b. cond b (Some name) (lookup (same_spot q) globals)) (same_spot-turned spot q) ∙ by (same_spot q spot) refl
  where
    nothing : (o : Option ℕ) → o ≡ first_of o None
    nothing None = refl
    nothing (Some x) = refl

    by : (b : Bool) → same_spot q spot ≡ b → cond b (Some name) (lookup (same_spot q) globals) ≡ first_of (lookup (same_spot q) globals) (cond b (Some name) None)
    by true is = sym (ap (λ o. first_of o (Some name)) (ap (λ x. lookup (same_spot x) globals) (same_parts q spot is) ∙ none))
    by false is = nothing (lookup (same_spot q) globals)

pub indexed-along : (es es' : List (ℕ × InstanceInfo)) (names names' : List ℕ) (globals : List (Spot × ℕ)) → es' ≡ es → names' ≡ names → IsIndexed es names globals → IsIndexed es' names' globals
indexed-along es es' names names' globals entries named is = subst (λ x. IsIndexed x names' globals) (sym entries) (subst (λ ns. IsIndexed es ns globals) (sym named) is)
