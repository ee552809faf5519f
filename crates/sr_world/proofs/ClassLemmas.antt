-- A choice depends on the invocations alone that its statement can service, wherever they stand.
use Rattle.std.proofs.Common.{◌≡◌, ℕ, zero, suc, ◌+◌, ◌&&◌, ◌||◌, Bool, true, false, cond, ℤ, List, [], ◌∷◌, ◌++◌, drop, map, Option, None, Some, refl, ap, sym, ◌∙◌, subst, true≢false, add-one}
use Rattle.std.specs.Prelude.{Result, Ok, Err, filter, find, filter_map, int_lt, slice_get, unwrap_or}
use Rattle.std.specs.List.{cons_option, enumerate_from, list_any}
use Rattle.std.specs.Option.{option_map}
use Rattle.sr_core.specs.Formals.{first_of}
use Rattle.sr_core.specs.declared.expression.Expr.{Expr}
use Rattle.sr_core.specs.declared.owner.Me.{Me}
use Rattle.sr_core.specs.declared.site.Arm.{Arm}
use Rattle.sr_core.specs.declared.site.Site.{Site}
use Rattle.sr_queue.specs.Queues.{is_of}
use Rattle.sr_queue.specs.declared.pending.Pending.{Pending}
use Rattle.sr_select.specs.Choices.{Pair, Seeing, all_pairs, by_key, choice, choice_among, decides, deciding, fault_in, fixed, fixed_by, is_not_false, key_fault, key_with, keyed, keys_of, least, lesser, otherwise, owner_in, pairs, pairs_of, passes_with, sees_of, serviced}
use Rattle.sr_select.specs.Looks.{result_of}
use Rattle.sr_select.specs.Readings.{Reading}
use Rattle.sr_select.specs.declared.choice.Choice.{Choice}
use Rattle.sr_select.specs.declared.least.Keyed.{Keyed}
use Rattle.sr_value.specs.declared.capability.Owner.{Owner}
use Rattle.sr_value.specs.declared.fault.Fault.{Fault}
use Rattle.sr_value.specs.declared.value.Value.{Value}
use Rattle.sr_select.specs.Laws.{is_named}
use Rattle.sr_world.specs.Laws.{ClassesAreSeparate, Taken, Takes, TakesElse, TakesNothing, Faults, taken}

abbrev or_first : {A : Type 0} → Option A → Option A → Option A
or_first (Some a) later = Some a
or_first None later = later

find-append : {A : Type 0} (t : A → Bool) (xs ys : List A) → find t (xs ++ ys) ≡ or_first (find t xs) (find t ys)
find-append t [] ys = refl
find-append t (x ∷ xs) ys = by (t x) (find-append t xs ys)
  where
    by : (b : Bool) → find t (xs ++ ys) ≡ or_first (find t xs) (find t ys) → cond b (Some x) (find t (xs ++ ys)) ≡ or_first (cond b (Some x) (find t xs)) (find t ys)
    by true more = refl
    by false more = more

-- the head of what is left of a list
drop-head : {A : Type 0} (whole : List A) (n : ℕ) (x : A) (xs : List A) → drop n whole ≡ x ∷ xs → (slice_get whole n ≡ Some x) × (drop (suc n) whole ≡ xs)
drop-head [] zero x xs is = absurd (cc)
drop-head [] (suc n) x xs is = absurd (cc)
drop-head (y ∷ ys) zero x xs is = let first : y ≡ x = cc in let rest : ys ≡ xs = cc in (ap (λ z. Some z) first, rest)
drop-head (y ∷ ys) (suc n) x xs is = drop-head ys n x xs is

module _ (sees : Seeing) (owner : Owner) where
  abbrev result : Arm → Pending → Result Bool Fault
  result arm p = result_of (passes_with sees arm p.args)

  abbrev key : Arm → Expr → Pending → Result (Option ℤ) Fault
  key arm by p = result_of (key_with sees arm by p.args)

  -- ---- the arm

  abbrev first_arm : List (ℕ × Arm) → Pending → Option (ℕ × Arm)
  first_arm [] p = None
  first_arm ((m, arm) ∷ arms) p = cond (is_of owner arm.op p && is_not_false (result arm p)) (Some (m, arm)) (first_arm arms p)

  abbrev pair_at : ℕ → Pending → ℕ × Arm → Pair
  pair_at n p (m, arm) = record { place = n; invocation = p; number = m; arm = arm }

  found-arm : (n : ℕ) (p : Pending) (arms : List (ℕ × Arm)) → deciding sees (pairs_of owner arms (n, p)) ≡ option_map (pair_at n p) (first_arm arms p)
  found-arm n p [] = refl
  found-arm n p ((m, arm) ∷ arms) = by (is_of owner arm.op p) (found-arm n p arms)
    where
      here : (d : Bool) → deciding sees (pairs_of owner arms (n, p)) ≡ option_map (pair_at n p) (first_arm arms p)
          → cond d (Some (pair_at n p (m, arm))) (deciding sees (pairs_of owner arms (n, p))) ≡ option_map (pair_at n p) (cond d (Some (m, arm)) (first_arm arms p))
      here true more = refl
      here false more = more

      by : (b : Bool) → deciding sees (pairs_of owner arms (n, p)) ≡ option_map (pair_at n p) (first_arm arms p)
          → find (decides sees) (cons_option (cond b (Some (pair_at n p (m, arm))) None) (pairs_of owner arms (n, p)))
          ≡ option_map (pair_at n p) (cond (b && is_not_false (result arm p)) (Some (m, arm)) (first_arm arms p))
      by true more = here (is_not_false (result arm p)) more
      by false more = more

  -- ---- keys

  abbrev fault_of : Arm → Expr → List Pending → Option Fault
  fault_of arm by [] = None
  fault_of arm by (p ∷ ps) = cond (is_of owner arm.op p) (or_first (fault_in (key arm by p)) (fault_of arm by ps)) (fault_of arm by ps)

  fault-is : (arm : Arm) (by : Expr) (n : ℕ) (ps : List Pending) → key_fault sees arm by (filter (λ i. is_of owner arm.op i.1) (enumerate_from n ps)) ≡ fault_of arm by ps
  fault-is arm by n [] = refl
  fault-is arm by n (p ∷ ps) = cases (is_of owner arm.op p) (fault-is arm by (n + 1) ps)
    where
      later : List (ℕ × Pending)
      later = filter (λ i. is_of owner arm.op i.1) (enumerate_from (n + 1) ps)

      one : (o : Option Fault) → key_fault sees arm by later ≡ fault_of arm by ps
          → first_of (cons_option o (filter_map (λ (i : ℕ × Pending). fault_in (result_of (key_with sees arm by i.1.args))) later)) ≡ or_first o (fault_of arm by ps)
      one (Some found) more = refl
      one None more = more

      cases : (b : Bool) → key_fault sees arm by later ≡ fault_of arm by ps → key_fault sees arm by (cond b ((n, p) ∷ later) later) ≡ cond b (or_first (fault_in (key arm by p)) (fault_of arm by ps)) (fault_of arm by ps)
      cases true more = one (fault_in (key arm by p)) more
      cases false more = more

  abbrev key_on : Pending → Result (Option ℤ) Fault → Option (Option Pending × ℤ)
  key_on p (Ok (Some k)) = Some (Some p, k)
  key_on p (Ok None) = None
  key_on p (Err found) = None

  abbrev keys : Arm → Expr → List Pending → List (Option Pending × ℤ)
  keys arm by [] = []
  keys arm by (p ∷ ps) = cond (is_of owner arm.op p) (cons_option (key_on p (key arm by p)) (keys arm by ps)) (keys arm by ps)

  -- an invocation in place of its place
  abbrev placed : List Pending → Keyed → Option Pending × ℤ
  placed whole k = (slice_get whole k.place, k.key)

  keys-are : (arm : Arm) (by : Expr) (whole : List Pending) (n : ℕ) (ps : List Pending) → drop n whole ≡ ps
      → map (placed whole) (keys_of sees arm by (filter (λ i. is_of owner arm.op i.1) (enumerate_from n ps))) ≡ keys arm by ps
  keys-are arm by whole n [] is = refl
  keys-are arm by whole n (p ∷ ps) is =
      let head = drop-head whole n p ps is in
      cases (is_of owner arm.op p) head.0 (keys-are arm by whole (n + 1) ps (ap (λ m. drop m whole) (add-one n) ∙ head.1))
    where
      later : List (ℕ × Pending)
      later = filter (λ i. is_of owner arm.op i.1) (enumerate_from (n + 1) ps)

      one : (r : Result (Option ℤ) Fault) → slice_get whole n ≡ Some p → map (placed whole) (keys_of sees arm by later) ≡ keys arm by ps
          → map (placed whole) (cons_option (keyed n r) (keys_of sees arm by later)) ≡ cons_option (key_on p r) (keys arm by ps)
      one (Ok (Some k)) at more = ap (λ o. (o, k) ∷ map (placed whole) (keys_of sees arm by later)) at ∙ ap (λ ks. (Some p, k) ∷ ks) more
      one (Ok None) at more = more
      one (Err found) at more = more

      cases : (b : Bool) → slice_get whole n ≡ Some p → map (placed whole) (keys_of sees arm by later) ≡ keys arm by ps
          → map (placed whole) (keys_of sees arm by (cond b ((n, p) ∷ later) later)) ≡ cond b (cons_option (key_on p (key arm by p)) (keys arm by ps)) (keys arm by ps)
      cases true at more = one (key arm by p) at more
      cases false at more = more

  -- ---- the least

  abbrev lower : Option Pending × ℤ → Option (Option Pending × ℤ) → Option Pending × ℤ
  lower older None = older
  lower older (Some younger) = cond (int_lt younger.1 older.1) younger older

  abbrev lowest : List (Option Pending × ℤ) → Option (Option Pending × ℤ)
  lowest [] = None
  lowest (older ∷ younger) = Some (lower older (lowest younger))

  least-is : (whole : List Pending) (ks : List Keyed) → option_map (placed whole) (least ks) ≡ lowest (map (placed whole) ks)
  least-is whole [] = refl
  least-is whole (k ∷ ks) = by (least ks) ∙ ap (λ l. Some (lower (placed whole k) l)) (least-is whole ks)
    where
      either : (y : Keyed) (b : Bool) → ◌≡◌ {A = Option (Option Pending × ℤ)} (Some (placed whole (cond b y k))) (Some (cond b (placed whole y) (placed whole k)))
      either y true = refl
      either y false = refl

      by : (l : Option Keyed) → ◌≡◌ {A = Option (Option Pending × ℤ)} (Some (placed whole (lesser k l))) (Some (lower (placed whole k) (option_map (placed whole) l)))
      by None = refl
      by (Some y) = either y (int_lt y.key k.key)

  -- ---- what comes of it

  abbrev keyed_out : ℕ → Pending → Option Fault → Option (Option Pending × ℤ) → Taken
  keyed_out m p (Some found) best = Faults found m
  keyed_out m p None (Some best) = Takes best.0 m
  keyed_out m p None None = Takes (Some p) m

  abbrev served : ℕ → Arm → Pending → List Pending → Option Expr → Taken
  served m arm p ps None = Takes (Some p) m
  served m arm p ps (Some by) = keyed_out m p (fault_of arm by ps) (lowest (keys arm by ps))

  abbrev out : ℕ → Arm → Pending → List Pending → Result Bool Fault → Taken
  out m arm p ps (Ok truth) = served m arm p ps arm.by
  out m arm p ps (Err found) = Faults found m

  served-is : (whole : List Pending) (n m : ℕ) (arm : Arm) (p : Pending) (ps : List Pending) → drop n whole ≡ ps → slice_get whole n ≡ Some p → (by : Option Expr)
      → taken whole (serviced sees owner whole n m arm by) ≡ served m arm p ps by
  served-is whole n m arm p ps is at None = ap (λ o. Takes o m) at
  served-is whole n m arm p ps is at (Some by) =
      ap (λ zs. taken whole (by_key n m (key_fault sees arm by (invocations zs)) (least (keys_of sees arm by (invocations zs))))) is
      ∙ ap (λ o. taken whole (by_key n m o (least (keys_of sees arm by (invocations ps))))) (fault-is arm by n ps)
      ∙ cases (fault_of arm by ps) (least (keys_of sees arm by (invocations ps)))
      ∙ ap (keyed_out m p (fault_of arm by ps)) (least-is whole (keys_of sees arm by (invocations ps)) ∙ ap lowest (keys-are arm by whole n ps is))
    where
      invocations : List Pending → List (ℕ × Pending)
      invocations zs = filter (λ i. is_of owner arm.op i.1) (enumerate_from n zs)

      cases : (o : Option Fault) (l : Option Keyed) → taken whole (by_key n m o l) ≡ keyed_out m p o (option_map (placed whole) l)
      cases (Some found) l = refl
      cases None (Some best) = refl
      cases None None = ap (λ o. Takes o m) at

  abbrev or_later : Option (ℕ × Arm) → Pending → List Pending → Option Taken → Option Taken
  or_later (Some (m, arm)) p ps later = Some (out m arm p ps (result arm p))
  or_later None p ps later = later

  abbrev bare : List (ℕ × Arm) → List Pending → Option Taken
  bare arms [] = None
  bare arms (p ∷ ps) = or_later (first_arm arms p) p (p ∷ ps) (bare arms ps)

  pub bare-is : (arms : List (ℕ × Arm)) (whole : List Pending) (n : ℕ) (ps : List Pending) → drop n whole ≡ ps
      → option_map (taken whole) (choice_among sees owner whole (pairs owner arms (enumerate_from n ps))) ≡ bare arms ps
  bare-is arms whole n [] is = refl
  bare-is arms whole n (p ∷ ps) is =
      let head = drop-head whole n p ps is in
      ap (λ o. option_map (taken whole) (fixed_by sees owner whole o))
      (find-append (decides sees) (pairs_of owner arms (n, p)) (pairs owner arms (enumerate_from (n + 1) ps))
      ∙ ap (λ o. or_first o (deciding sees (pairs owner arms (enumerate_from (n + 1) ps)))) (found-arm n p arms))
      ∙ cases (first_arm arms p) head.0 (bare-is arms whole (n + 1) ps (ap (λ m. drop m whole) (add-one n) ∙ head.1))
    where
      by : (m : ℕ) (arm : Arm) → slice_get whole n ≡ Some p → (r : Result Bool Fault) → taken whole (fixed sees owner whole (pair_at n p (m, arm)) r) ≡ out m arm p (p ∷ ps) r
      by m arm at (Ok truth) = served-is whole n m arm p (p ∷ ps) is at arm.by
      by m arm at (Err found) = refl

      cases : (o : Option (ℕ × Arm)) → slice_get whole n ≡ Some p
          → option_map (taken whole) (choice_among sees owner whole (pairs owner arms (enumerate_from (n + 1) ps))) ≡ bare arms ps
          → option_map (taken whole) (fixed_by sees owner whole (or_first (option_map (pair_at n p) o) (deciding sees (pairs owner arms (enumerate_from (n + 1) ps)))))
          ≡ or_later o p (p ∷ ps) (bare arms ps)
      cases (Some (m, arm)) at more = ap (λ t. Some t) (by m arm at (result arm p))
      cases None at more = more

  -- ---- only what can be serviced

  module _ (c : Pending → Bool) where
    abbrev Covers : Arm → Type 0
    Covers arm = (q : Pending) → is_of owner arm.op q ≡ true → c q ≡ true

    abbrev AllCover : List (ℕ × Arm) → Type 0
    AllCover [] = Unit {0}
    AllCover ((m, arm) ∷ arms) = Covers arm × AllCover arms

    not-of : (arm : Arm) (p : Pending) → Covers arm → c p ≡ false → is_of owner arm.op p ≡ false
    not-of arm p covers out' = by (is_of owner arm.op p) refl
      where
        by : (b : Bool) → is_of owner arm.op p ≡ b → b ≡ false
        by true is = absurd (true≢false (sym (covers p is) ∙ out'))
        by false is = refl

    fault-filter : (arm : Arm) (by : Expr) (ps : List Pending) → Covers arm → fault_of arm by (filter c ps) ≡ fault_of arm by ps
    fault-filter arm by [] covers = refl
    fault-filter arm by (p ∷ ps) covers = cases (c p) refl (fault-filter arm by ps covers)
      where
        cases : (b : Bool) → c p ≡ b → fault_of arm by (filter c ps) ≡ fault_of arm by ps → fault_of arm by (cond b (p ∷ filter c ps) (filter c ps)) ≡ fault_of arm by (p ∷ ps)
        cases true is more = ap (λ o. cond (is_of owner arm.op p) (or_first (fault_in (key arm by p)) o) o) more
        cases false is more = more ∙ sym (ap (λ b. cond b (or_first (fault_in (key arm by p)) (fault_of arm by ps)) (fault_of arm by ps)) (not-of arm p covers is))

    keys-filter : (arm : Arm) (by : Expr) (ps : List Pending) → Covers arm → keys arm by (filter c ps) ≡ keys arm by ps
    keys-filter arm by [] covers = refl
    keys-filter arm by (p ∷ ps) covers = cases (c p) refl (keys-filter arm by ps covers)
      where
        cases : (b : Bool) → c p ≡ b → keys arm by (filter c ps) ≡ keys arm by ps → keys arm by (cond b (p ∷ filter c ps) (filter c ps)) ≡ keys arm by (p ∷ ps)
        cases true is more = ap (λ ks. cond (is_of owner arm.op p) (cons_option (key_on p (key arm by p)) ks) ks) more
        cases false is more = more ∙ sym (ap (λ b. cond b (cons_option (key_on p (key arm by p)) (keys arm by ps)) (keys arm by ps)) (not-of arm p covers is))

    served-filter : (m : ℕ) (arm : Arm) (p : Pending) (ps : List Pending) (by : Option Expr) → Covers arm → served m arm p (p ∷ filter c ps) by ≡ served m arm p (p ∷ ps) by
    served-filter m arm p ps None covers = refl
    served-filter m arm p ps (Some by) covers =
        let faults = ap (λ o. cond (is_of owner arm.op p) (or_first (fault_in (key arm by p)) o) o) (fault-filter arm by ps covers) in
        let all = ap (λ ks. cond (is_of owner arm.op p) (cons_option (key_on p (key arm by p)) ks) ks) (keys-filter arm by ps covers) in
        ap (λ o. keyed_out m p o (lowest (keys arm by (p ∷ filter c ps)))) faults ∙ ap (λ ks. keyed_out m p (fault_of arm by (p ∷ ps)) (lowest ks)) all

    out-filter : (m : ℕ) (arm : Arm) (p : Pending) (ps : List Pending) (r : Result Bool Fault) → Covers arm → out m arm p (p ∷ filter c ps) r ≡ out m arm p (p ∷ ps) r
    out-filter m arm p ps (Ok truth) covers = served-filter m arm p ps arm.by covers
    out-filter m arm p ps (Err found) covers = refl

    first-none : (arms : List (ℕ × Arm)) (p : Pending) → AllCover arms → c p ≡ false → first_arm arms p ≡ None
    first-none [] p all out' = refl
    first-none ((m, arm) ∷ arms) p all out' =
        ap (λ b. cond (b && is_not_false (result arm p)) (Some (m, arm)) (first_arm arms p)) (not-of arm p all.0 out') ∙ first-none arms p all.1 out'

    first-covers : (arms : List (ℕ × Arm)) (p : Pending) (m : ℕ) (arm : Arm) → AllCover arms → first_arm arms p ≡ Some (m, arm) → Covers arm
    first-covers [] p m arm all is = absurd (cc)
    first-covers ((m', arm') ∷ arms) p m arm all is = by (is_of owner arm'.op p && is_not_false (result arm' p)) is (first-covers arms p m arm all.1)
      where
        by : (b : Bool) → cond b (Some (m', arm')) (first_arm arms p) ≡ Some (m, arm) → (first_arm arms p ≡ Some (m, arm) → Covers arm) → Covers arm
        by true h more = let same : arm' ≡ arm = ap (λ (o : Option (ℕ × Arm)). (unwrap_or o (m', arm')).1) h in subst Covers same all.0
        by false h more = more h

    pub bare-filter : (arms : List (ℕ × Arm)) (ps : List Pending) → AllCover arms → bare arms (filter c ps) ≡ bare arms ps
    bare-filter arms [] all = refl
    bare-filter arms (p ∷ ps) all = cases (c p) refl (bare-filter arms ps all)
      where
        found : (o : Option (ℕ × Arm)) → first_arm arms p ≡ o → bare arms (filter c ps) ≡ bare arms ps → or_later o p (p ∷ filter c ps) (bare arms (filter c ps)) ≡ or_later o p (p ∷ ps) (bare arms ps)
        found (Some (m, arm)) is more = ap (λ t. Some t) (out-filter m arm p ps (result arm p) (first-covers arms p m arm all is))
        found None is more = more

        cases : (b : Bool) → c p ≡ b → bare arms (filter c ps) ≡ bare arms ps → bare arms (cond b (p ∷ filter c ps) (filter c ps)) ≡ bare arms (p ∷ ps)
        cases true is more = found (first_arm arms p) refl more
        cases false is more = more ∙ sym (ap (λ o. or_later o p (p ∷ ps) (bare arms ps)) (first-none arms p all is))

    pub all-cover : (n : ℕ) (arms : List Arm) → ((q : Pending) → list_any (λ arm. is_of owner arm.op q) arms ≡ true → c q ≡ true) → AllCover (enumerate_from n arms)
    all-cover n [] h = tt
    all-cover n (arm ∷ arms) h = (λ q is. h q (either (is_of owner arm.op q) (list_any (λ a. is_of owner a.op q) arms) is), all-cover (n + 1) arms (λ q is. h q (other (is_of owner arm.op q) (list_any (λ a. is_of owner a.op q) arms) is)))
      where
        either : (a b : Bool) → a ≡ true → (a || b) ≡ true
        either true b is = refl
        either false b is = absurd (true≢false (sym is))

        other : (a b : Bool) → b ≡ true → (a || b) ≡ true
        other true b is = refl
        other false b is = is

-- ---- the law

abbrev otherwise_taken : Bool → Option Taken → Taken
otherwise_taken has_else (Some t) = t
otherwise_taken true None = TakesElse
otherwise_taken false None = TakesNothing

otherwise-is : (items : List Pending) (has_else : Bool) (o : Option Choice) → taken items (otherwise has_else o) ≡ otherwise_taken has_else (option_map (taken items) o)
otherwise-is items true (Some chosen) = refl
otherwise-is items false (Some chosen) = refl
otherwise-is items true None = refl
otherwise-is items false None = refl

choice-bare : (reading : Reading) (site : Site) (me : Me) (env : List Value) (items : List Pending)
    → taken items (choice reading site me env items)
    ≡ otherwise_taken site.has_else (bare (sees_of reading site me env) (owner_in site.scope me) (enumerate_from 0 site.arms) (filter (is_named (owner_in site.scope me) site.arms) items))
choice-bare reading site me env items =
    let sees : Seeing = sees_of reading site me env in
    let owner : Owner = owner_in site.scope me in
    otherwise-is items site.has_else (choice_among sees owner items (all_pairs site owner items))
    ∙ ap (otherwise_taken site.has_else)
    (bare-is sees owner (enumerate_from 0 site.arms) items 0 items refl
    ∙ sym (bare-filter sees owner (is_named owner site.arms) (enumerate_from 0 site.arms) items (all-cover sees owner (is_named owner site.arms) 0 site.arms (λ q is. is))))

pub classes_are_separate : ClassesAreSeparate
classes_are_separate reading site me env items others same =
    choice-bare reading site me env items
    ∙ ap (λ ps. otherwise_taken site.has_else (bare (sees_of reading site me env) (owner_in site.scope me) (enumerate_from 0 site.arms) ps)) same
    ∙ sym (choice-bare reading site me env others)
