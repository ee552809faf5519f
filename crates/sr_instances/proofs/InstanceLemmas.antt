-- Instances in lists: by name, and the first of a component on a machine.
use Rattle.std.proofs.Common.{◌≡◌, ◌≢◌, ℕ, Bool, true, false, cond, ◌==◌, List, [], ◌∷◌, ◌++◌, Option, None, Some, IsSome, map, refl, ap, sym, ◌∙◌, true≢false}
use Rattle.std.proofs.lemmas.Bool.{eqb-true, false_from_ne_true}
use Rattle.std.proofs.lemmas.List.Folds.{find-append}
use Rattle.std.specs.Prelude.{find}
use Rattle.std.specs.Option.{option_map, option_or}
use Rattle.sr_instances.specs.Instances.{Instance, first_among, in_state, is_global}
use Rattle.sr_instances.specs.Tables.{first_of}
use Rattle.sr_instances.specs.declared.state.State.{State}

abbrev pub named : ℕ → Instance → Bool
named name i = name == i.name

module _ (n : ℕ) (s : State) where
  named-in_state : (o : ℕ) (i : Instance) → named o (in_state n s i) ≡ named o i
  named-in_state o i = by (n == i.name)
    where
      by : (b : Bool) → named o (cond b (record i { state = s }) i) ≡ named o i
      by true = refl
      by false = refl

  same-name : (i : Instance) → (in_state n s i).name ≡ i.name
  same-name i = by (n == i.name)
    where
      by : (b : Bool) → (cond b (record i { state = s }) i).name ≡ i.name
      by true = refl
      by false = refl

  is_global-in_state : (g m : ℕ) (i : Instance) → is_global g m (in_state n s i) ≡ is_global g m i
  is_global-in_state g m i = by (n == i.name)
    where
      by : (b : Bool) → is_global g m (cond b (record i { state = s }) i) ≡ is_global g m i
      by true = refl
      by false = refl

  -- the instance that is put into a state is in it
  pub state-itself : (is : List Instance) → IsSome (find (named n) is) → option_map (λ i. i.state) (find (named n) (map (in_state n s) is)) ≡ Some s
  state-itself [] there = absurd (true≢false (sym there))
  state-itself (i ∷ is) there =
      ap (λ b. option_map (λ x. x.state) (cond b (Some (in_state n s i)) (find (named n) (map (in_state n s) is)))) (named-in_state n i)
      ∙ by (n == i.name) there (state-itself is)
    where
      by : (b : Bool) → IsSome (cond b (Some i) (find (named n) is))
          → (IsSome (find (named n) is) → option_map (λ x. x.state) (find (named n) (map (in_state n s) is)) ≡ Some s)
          → option_map (λ x. x.state) (cond b (Some (cond b (record i { state = s }) i)) (find (named n) (map (in_state n s) is))) ≡ Some s
      by true h more = refl
      by false h more = more h

  -- any other stays in its own
  pub state-others : (o : ℕ) → o ≢ n → (is : List Instance) → option_map (λ i. i.state) (find (named o) (map (in_state n s) is)) ≡ option_map (λ i. i.state) (find (named o) is)
  state-others o ne [] = refl
  state-others o ne (i ∷ is) =
      ap (λ b. option_map (λ x. x.state) (cond b (Some (in_state n s i)) (find (named o) (map (in_state n s) is)))) (named-in_state o i)
      ∙ by (o == i.name) refl (state-others o ne is)
    where
      by : (b : Bool) → (o == i.name) ≡ b
          → option_map (λ x. x.state) (find (named o) (map (in_state n s) is)) ≡ option_map (λ x. x.state) (find (named o) is)
          → option_map (λ x. x.state) (cond b (Some (in_state n s i)) (find (named o) (map (in_state n s) is))) ≡ option_map (λ x. x.state) (cond b (Some i) (find (named o) is))
      by true is_o more =
          let other : (n == i.name) ≡ false = false_from_ne_true (n == i.name) (λ e. ne (eqb-true o i.name is_o ∙ sym (eqb-true n i.name e))) in
          ap (λ b. Some (cond b (record i { state = s }) i).state) other
      by false is_o more = more

  -- a state changes no global
  pub global-in_state : (g m : ℕ) (is : List Instance) → option_map (λ i. i.name) (find (is_global g m) (map (in_state n s) is)) ≡ option_map (λ i. i.name) (find (is_global g m) is)
  global-in_state g m [] = refl
  global-in_state g m (i ∷ is) =
      ap (λ b. option_map (λ x. x.name) (cond b (Some (in_state n s i)) (find (is_global g m) (map (in_state n s) is)))) (is_global-in_state g m i)
      ∙ by (is_global g m i) (global-in_state g m is)
    where
      by : (b : Bool) → option_map (λ x. x.name) (find (is_global g m) (map (in_state n s) is)) ≡ option_map (λ x. x.name) (find (is_global g m) is)
          → option_map (λ x. x.name) (cond b (Some (in_state n s i)) (find (is_global g m) (map (in_state n s) is))) ≡ option_map (λ x. x.name) (cond b (Some i) (find (is_global g m) is))
      by true more = ap Some (same-name i)
      by false more = more

-- the last of a list is found where none before it is
pub found-push : (test : Instance → Bool) (is : List Instance) (i : Instance)
    → option_map (λ x. x.name) (find test (is ++ i ∷ [])) ≡ first_of (option_map (λ x. x.name) (find test is)) (cond (test i) (Some i.name) None)
found-push test [] i = by (test i)
  where
    by : (b : Bool) → option_map (λ (x : Instance). x.name) (cond b (Some i) None) ≡ cond b (Some i.name) None
    by true = refl
    by false = refl
found-push test (x ∷ is) i = by (test x) (found-push test is i)
  where
    by : (b : Bool) → option_map (λ (y : Instance). y.name) (find test (is ++ i ∷ [])) ≡ first_of (option_map (λ y. y.name) (find test is)) (cond (test i) (Some i.name) None)
        → option_map (λ (y : Instance). y.name) (cond b (Some x) (find test (is ++ i ∷ []))) ≡ first_of (option_map (λ y. y.name) (cond b (Some x) (find test is))) (cond (test i) (Some i.name) None)
    by true more = refl
    by false more = more

-- the first of a component, where one more is looked at
pub first_more : (component : ℕ) (is js : List Instance) → first_among component (is ++ js) ≡ option_or (first_among component is) (first_among component js)
first_more component is js =
    ap (option_map (λ (i : Instance). (i.name, i.state))) (find-append (λ (i : Instance). i.component == component) is js)
    ∙ by (find (λ (i : Instance). i.component == component) is)
  where
    by : (o : Option Instance) → option_map (λ (i : Instance). (i.name, i.state)) (option_or o (find (λ (i : Instance). i.component == component) js)) ≡ option_or (option_map (λ (i : Instance). (i.name, i.state)) o) (first_among component js)
    by None = refl
    by (Some i) = refl
