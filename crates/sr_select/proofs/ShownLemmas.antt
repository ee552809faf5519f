-- What the guards of a statement read decides its choice, is there, and is watched.
use Rattle.std.proofs.Common.{◌≡◌, ℕ, Bool, true, false, List, [], ◌∷◌, ◌++◌, refl, ap, sym, ◌∙◌, subst, cond, ℤ}
use Rattle.std.specs.Prelude.{Option, Some, None, Result, Ok, Err, flat_map, filter_map, is_some}
use Rattle.std.specs.List.{cons_option}
use Rattle.sr_value.specs.declared.capability.Owner.{Owner}
use Rattle.sr_value.specs.declared.fault.Fault.{Fault}
use Rattle.sr_value.specs.declared.shape.Sel.{Sel}
use Rattle.sr_value.specs.declared.value.Value.{Value}
use Rattle.sr_ask.specs.declared.entry.Seen.{Seen}
use Rattle.sr_ask.specs.declared.entry.Seen.TheVariants.{Cell, Pending as pending_count}
use Rattle.sr_core.specs.Formals.{first_of}
use Rattle.sr_core.specs.declared.expression.Expr.{Expr}
use Rattle.sr_core.specs.declared.owner.Home.{Home}
use Rattle.sr_core.specs.declared.owner.Me.{Me}
use Rattle.sr_core.specs.declared.site.Arm.{Arm}
use Rattle.sr_core.specs.declared.site.Site.{Site}
use Rattle.sr_queue.specs.declared.pending.Pending.{Pending}
use Rattle.sr_select.specs.declared.choice.Choice.{Choice}
use Rattle.sr_select.specs.declared.least.Keyed.{Keyed}
use Rattle.sr_select.specs.Choices.{Pair, Seeing, all_pairs, by_key, choice, choice_among, choice_seen, decides, fault_in, fixed, invocations_from, is_not_false, key_fault, key_with, keyed, keys_of, least, otherwise, owner_in, passes, passes_with, seen_among, seen_fixed, seen_keys, seen_serviced, sees_of, serviced, through_first}
use Rattle.sr_select.specs.Guards.{guard_block, home_seen, machine_seen, own_seen}
use Rattle.sr_select.specs.Looks.{Looked, Found, Faulted, result_of, seen_of}
use Rattle.sr_select.specs.Readings.{Reading}
use Rattle.sr_select.specs.Shown.{EachSeen, IsMade, IsWatched, Shows, ShowsAll}
use Rattle.sr_select.specs.Worlds.{Watched, arm_names_only, maybe_names_only, names_only, reads_only}
use Rattle.sr_select.proofs.ChoiceLemmas.{choice-skip, choice-take, seen-skip, seen-take}
use Rattle.sr_select.proofs.FollowLemmas.{each-append, each-front, each-later, key-follows, key-keeps, truth-follows, truth-keeps}
use Rattle.sr_select.proofs.PairLemmas.{ArmsPass, both-true, pairs-pass}

-- ---- keys, one after another

module _ (sees : Seeing) (arm : Arm) (by : Expr) where
  abbrev Key : ℕ × Pending → Looked (Option ℤ)
  Key invocation = key_with sees arm by invocation.1.args

  fault-later : (it : ℕ × Pending) (later : List (ℕ × Pending)) (found : Result (Option ℤ) Fault) → result_of (Key it) ≡ found
      → key_fault sees arm by (it ∷ later) ≡ first_of (cons_option (fault_in found) (filter_map (λ invocation. fault_in (result_of (Key invocation))) later))
  fault-later it later found is = ap (λ (r : Result (Option ℤ) Fault). first_of (cons_option (fault_in r) (filter_map (λ invocation. fault_in (result_of (Key invocation))) later))) is

  keys-later : (it : ℕ × Pending) (later : List (ℕ × Pending)) (found : Result (Option ℤ) Fault) → result_of (Key it) ≡ found
      → keys_of sees arm by (it ∷ later) ≡ cons_option (keyed it.0 found) (keys_of sees arm by later)
  keys-later it later found is = ap (λ (r : Result (Option ℤ) Fault). cons_option (keyed it.0 r) (keys_of sees arm by later)) is

  seen-later : (it : ℕ × Pending) (later : List (ℕ × Pending)) (key : Option ℤ) → result_of (Key it) ≡ Ok key
      → seen_keys sees arm by (it ∷ later) ≡ seen_of (Key it) ++ seen_keys sees arm by later
  seen-later it later key is =
      ap (λ (r : Result (Option ℤ) Fault). flat_map (λ invocation. seen_of (Key invocation))
      (it ∷ cond (is_some (fault_in r)) [] (through_first (λ invocation. is_some (fault_in (result_of (Key invocation)))) later))) is

-- ---- the same where it was read

abbrev MadeOf : Option Choice → Type 0
MadeOf None = Unit {0}
MadeOf (Some chosen) = IsMade chosen

made-of : (has_else : Bool) (chosen : Option Choice) → IsMade (otherwise has_else chosen) → MadeOf chosen
made-of has_else None made = tt
made-of has_else (Some chosen) made = made

module _ (sees sees' : Seeing) (owner : Owner) (items : List Pending) (reading' : Reading) (test : Arm → Bool)
    (truths : (arm : Arm) (args : List Value) (truth : Bool) → test arm ≡ true → result_of (passes_with sees arm args) ≡ Ok truth
    → ShowsAll reading' (seen_of (passes_with sees arm args)) → result_of (passes_with sees' arm args) ≡ Ok truth)
    (keys : (arm : Arm) (by : Expr) (args : List Value) (key : Option ℤ) → test arm ≡ true → arm.by ≡ Some by → result_of (key_with sees arm by args) ≡ Ok key
    → ShowsAll reading' (seen_of (key_with sees arm by args)) → result_of (key_with sees' arm by args) ≡ Ok key) where
  keys-follow : (arm : Arm) (by : Expr) → test arm ≡ true → arm.by ≡ Some by → (invocations : List (ℕ × Pending)) → key_fault sees arm by invocations ≡ None
      → ShowsAll reading' (seen_keys sees arm by invocations)
      → (key_fault sees' arm by invocations ≡ None) × (keys_of sees' arm by invocations ≡ keys_of sees arm by invocations)
  keys-follow arm by within its [] sound all = (refl, refl)
  keys-follow arm by within its (it ∷ later) sound all = go (result_of (key_with sees arm by it.1.args)) refl (keys-follow arm by within its later)
    where
      go : (found : Result (Option ℤ) Fault) → result_of (key_with sees arm by it.1.args) ≡ found
          → (key_fault sees arm by later ≡ None → ShowsAll reading' (seen_keys sees arm by later)
          → (key_fault sees' arm by later ≡ None) × (keys_of sees' arm by later ≡ keys_of sees arm by later))
          → (key_fault sees' arm by (it ∷ later) ≡ None) × (keys_of sees' arm by (it ∷ later) ≡ keys_of sees arm by (it ∷ later))
      go (Ok key) is more =
          let all : ShowsAll reading' (seen_of (key_with sees arm by it.1.args) ++ seen_keys sees arm by later) = subst (λ s. ShowsAll reading' s) (seen-later sees arm by it later key is) all in
          let there : result_of (key_with sees' arm by it.1.args) ≡ Ok key =
          keys arm by it.1.args key within its is (each-front (Shows reading') (seen_of (key_with sees arm by it.1.args)) (seen_keys sees arm by later) all) in
          let rest = more (sym (fault-later sees arm by it later (Ok key) is) ∙ sound) (each-later (Shows reading') (seen_of (key_with sees arm by it.1.args)) (seen_keys sees arm by later) all) in (
            fault-later sees' arm by it later (Ok key) there ∙ rest.0,
            keys-later sees' arm by it later (Ok key) there ∙ ap (λ (l : List Keyed). cons_option (keyed it.0 (Ok key)) l) rest.1 ∙ sym (keys-later sees arm by it later (Ok key) is),
          )
      go (Err fault) is more = let some = fault-later sees arm by it later (Err fault) is in absurd (cc (some, sound))

  serviced-follows : (place number : ℕ) (arm : Arm) (by : Option Expr) → test arm ≡ true → arm.by ≡ by → IsMade (serviced sees owner items place number arm by)
      → ShowsAll reading' (seen_serviced sees owner items place arm by) → serviced sees' owner items place number arm by ≡ serviced sees owner items place number arm by
  serviced-follows place number arm None within its made all = refl
  serviced-follows place number arm (Some by) within its made all = go (key_fault sees arm by (invocations_from owner arm place items)) refl made
    where
      go : (fault : Option Fault) → key_fault sees arm by (invocations_from owner arm place items) ≡ fault
          → IsMade (by_key place number fault (least (keys_of sees arm by (invocations_from owner arm place items))))
          → by_key place number (key_fault sees' arm by (invocations_from owner arm place items)) (least (keys_of sees' arm by (invocations_from owner arm place items)))
          ≡ by_key place number (key_fault sees arm by (invocations_from owner arm place items)) (least (keys_of sees arm by (invocations_from owner arm place items)))
      go None sound made =
          let rest = keys-follow arm by within its (invocations_from owner arm place items) sound all in
          ap (λ (f : Option Fault). by_key place number f (least (keys_of sees' arm by (invocations_from owner arm place items)))) (rest.0 ∙ sym sound)
          ∙ ap (λ (l : List Keyed). by_key place number (key_fault sees arm by (invocations_from owner arm place items)) (least l)) rest.1
      go (Some fault) sound made = absurd made

  among-follows : (tried : List Pair) → ArmsPass test tried → MadeOf (choice_among sees owner items tried) → ShowsAll reading' (seen_among sees owner items tried)
      → choice_among sees' owner items tried ≡ choice_among sees owner items tried
  among-follows [] within made all = refl
  among-follows (pair ∷ rest) within made all = go (result_of (passes sees pair)) refl (among-follows rest within.1)
    where
      there : (truth : Bool) → result_of (passes sees pair) ≡ Ok truth → ShowsAll reading' (seen_of (passes sees pair)) → result_of (passes sees' pair) ≡ Ok truth
      there truth is all = truths pair.arm pair.invocation.args truth within.0 is all

      go : (found : Result Bool Fault) → result_of (passes sees pair) ≡ found
          → (MadeOf (choice_among sees owner items rest) → ShowsAll reading' (seen_among sees owner items rest) → choice_among sees' owner items rest ≡ choice_among sees owner items rest)
          → choice_among sees' owner items (pair ∷ rest) ≡ choice_among sees owner items (pair ∷ rest)
      go (Ok false) is more =
          let other : decides sees pair ≡ false = ap is_not_false is in
          let all : ShowsAll reading' (seen_of (passes sees pair) ++ seen_among sees owner items rest) = subst (λ s. ShowsAll reading' s) (seen-skip sees owner items pair rest other) all in
          let same = there false is (each-front (Shows reading') (seen_of (passes sees pair)) (seen_among sees owner items rest) all) in
          choice-skip sees' owner items pair rest (ap is_not_false same)
          ∙ more (subst MadeOf (choice-skip sees owner items pair rest other) made) (each-later (Shows reading') (seen_of (passes sees pair)) (seen_among sees owner items rest) all)
          ∙ sym (choice-skip sees owner items pair rest other)
      go (Ok true) is more =
          let decided : decides sees pair ≡ true = ap is_not_false is in
          let seen : seen_among sees owner items (pair ∷ rest) ≡ seen_of (passes sees pair) ++ seen_serviced sees owner items pair.place pair.arm pair.arm.by =
          seen-take sees owner items pair rest decided ∙ ap (λ (r : Result Bool Fault). seen_of (passes sees pair) ++ seen_fixed sees owner items pair r) is in
          let taken : choice_among sees owner items (pair ∷ rest) ≡ Some (serviced sees owner items pair.place pair.number pair.arm pair.arm.by) =
          choice-take sees owner items pair rest decided ∙ ap (λ (r : Result Bool Fault). Some (fixed sees owner items pair r)) is in
          let all : ShowsAll reading' (seen_of (passes sees pair) ++ seen_serviced sees owner items pair.place pair.arm pair.arm.by) = subst (λ s. ShowsAll reading' s) seen all in
          let same = there true is (each-front (Shows reading') (seen_of (passes sees pair)) (seen_serviced sees owner items pair.place pair.arm pair.arm.by) all) in
          choice-take sees' owner items pair rest (ap is_not_false same)
          ∙ ap (λ (r : Result Bool Fault). Some (fixed sees' owner items pair r)) same
          ∙ ap (λ (c : Choice). Some c)
          (serviced-follows pair.place pair.number pair.arm pair.arm.by within.0 refl (subst MadeOf taken made)
          (each-later (Shows reading') (seen_of (passes sees pair)) (seen_serviced sees owner items pair.place pair.arm pair.arm.by) all))
          ∙ sym taken
      go (Err fault) is more =
          absurd (subst MadeOf (choice-take sees owner items pair rest (ap is_not_false is) ∙ ap (λ (r : Result Bool Fault). Some (fixed sees owner items pair r)) is) made)

-- ---- what is read

module _ (sees : Seeing) (owner : Owner) (items : List Pending) (Is : Seen → Type 0) (test : Arm → Bool)
    (truths : (arm : Arm) (args : List Value) → test arm ≡ true → EachSeen Is (seen_of (passes_with sees arm args)))
    (keys : (arm : Arm) (by : Expr) (args : List Value) → test arm ≡ true → arm.by ≡ Some by → EachSeen Is (seen_of (key_with sees arm by args))) where
  keys-keep : (arm : Arm) (by : Expr) → test arm ≡ true → arm.by ≡ Some by → (invocations : List (ℕ × Pending)) → EachSeen Is (flat_map (λ invocation. seen_of (key_with sees arm by invocation.1.args)) invocations)
  keys-keep arm by within its [] = tt
  keys-keep arm by within its (it ∷ later) =
      each-append Is (seen_of (key_with sees arm by it.1.args)) (flat_map (λ invocation. seen_of (key_with sees arm by invocation.1.args)) later) (keys arm by it.1.args within its) (keys-keep arm by within its later)

  serviced-keeps : (place : ℕ) (arm : Arm) (by : Option Expr) → test arm ≡ true → arm.by ≡ by → EachSeen Is (seen_serviced sees owner items place arm by)
  serviced-keeps place arm None within its = tt
  serviced-keeps place arm (Some by) within its =
      keys-keep arm by within its (through_first (λ invocation. is_some (fault_in (result_of (key_with sees arm by invocation.1.args)))) (invocations_from owner arm place items))

  fixed-keeps : (pair : Pair) (found : Result Bool Fault) → test pair.arm ≡ true → EachSeen Is (seen_fixed sees owner items pair found)
  fixed-keeps pair (Ok truth) within = serviced-keeps pair.place pair.arm pair.arm.by within refl
  fixed-keeps pair (Err fault) within = tt

  among-keeps : (tried : List Pair) → ArmsPass test tried → EachSeen Is (seen_among sees owner items tried)
  among-keeps [] within = tt
  among-keeps (pair ∷ rest) within = go (decides sees pair) refl (among-keeps rest within.1)
    where
      go : (b : Bool) → decides sees pair ≡ b → EachSeen Is (seen_among sees owner items rest) → EachSeen Is (seen_among sees owner items (pair ∷ rest))
      go false other more =
          subst (λ s. EachSeen Is s) (sym (seen-skip sees owner items pair rest other))
          (each-append Is (seen_of (passes sees pair)) (seen_among sees owner items rest) (truths pair.arm pair.invocation.args within.0) more)
      go true decided more =
          subst (λ s. EachSeen Is s) (sym (seen-take sees owner items pair rest decided))
          (each-append Is (seen_of (passes sees pair)) (seen_fixed sees owner items pair (result_of (passes sees pair))) (truths pair.arm pair.invocation.args within.0)
          (fixed-keeps pair (result_of (passes sees pair)) within.0))

-- ---- statements

result-found : {A : Type 0} (look : Looked A) (a : A) → result_of look ≡ Ok a → look ≡ Found a (seen_of look)
result-found (Found b seen) a is = ap (λ x. Found x seen) (cc is)
result-found (Faulted fault seen) a is = absurd (cc is)

module _ (watched : Watched) (reading : Reading) (site : Site) (me : Me) (env : List Value) (items : List Pending) (within : reads_only watched site ≡ true) where
  guard-within : (arm : Arm) → arm_names_only watched arm ≡ true → maybe_names_only watched arm.guard ≡ true
  guard-within arm named = (both-true (maybe_names_only watched arm.guard) (maybe_names_only watched arm.by) named).0

  by-within : (arm : Arm) (by : Expr) → arm_names_only watched arm ≡ true → arm.by ≡ Some by → names_only watched by ≡ true
  by-within arm by named its = sym (ap (maybe_names_only watched) its) ∙ (both-true (maybe_names_only watched arm.guard) (maybe_names_only watched arm.by) named).1

  abbrev owner : Owner
  owner = owner_in site.scope me

  abbrev homes : ℕ → Option ℕ
  homes = home_seen site.names env

  abbrev machines : Option ℕ
  machines = machine_seen site.names env

  abbrev own : Arm → List Value → ℕ → Result Value Fault
  own arm args = own_seen arm args site.names env

  pub what-was-read-decides : (reading' : Reading) → reading.names ≡ reading'.names → IsMade (choice reading site me env items) → ShowsAll reading' (choice_seen reading site me env items)
      → choice reading' site me env items ≡ choice reading site me env items
  what-was-read-decides reading' literals made all =
      ap (λ (c : Option Choice). otherwise site.has_else c)
      (among-follows (sees_of reading site me env) (sees_of reading' site me env) owner items reading' (arm_names_only watched) truths keys
      (all_pairs site owner items) (pairs-pass (arm_names_only watched) owner site.arms 0 items within)
      (made-of site.has_else (choice_among (sees_of reading site me env) owner items (all_pairs site owner items)) made) all)
    where
      truths : (arm : Arm) (args : List Value) (truth : Bool) → arm_names_only watched arm ≡ true → result_of (passes_with (sees_of reading site me env) arm args) ≡ Ok truth
          → ShowsAll reading' (seen_of (passes_with (sees_of reading site me env) arm args)) → result_of (passes_with (sees_of reading' site me env) arm args) ≡ Ok truth
      truths arm args truth named is all =
          ap (λ (look : Looked Bool). result_of look)
          (truth-follows watched reading reading' me (own arm args) homes machines literals arm.guard (guard-within arm named) [] truth (seen_of (passes_with (sees_of reading site me env) arm args))
          (result-found (passes_with (sees_of reading site me env) arm args) truth is) all).0

      keys : (arm : Arm) (by : Expr) (args : List Value) (key : Option ℤ) → arm_names_only watched arm ≡ true → arm.by ≡ Some by → result_of (key_with (sees_of reading site me env) arm by args) ≡ Ok key
          → ShowsAll reading' (seen_of (key_with (sees_of reading site me env) arm by args)) → result_of (key_with (sees_of reading' site me env) arm by args) ≡ Ok key
      keys arm by args key named its is all =
          ap (λ (look : Looked (Option ℤ)). result_of look)
          (key-follows watched reading reading' me (own arm args) homes machines literals arm.guard by (guard-within arm named) (by-within arm by named its) [] key
          (seen_of (key_with (sees_of reading site me env) arm by args)) (result-found (key_with (sees_of reading site me env) arm by args) key is) all).0

  what-is-read : (Is : Seen → Type 0)
      → ((whose : Home) (var block : ℕ) (path : List Sel) (value : Value) → watched.variable whose var ≡ true → guard_block me (home_seen site.names env) whose ≡ Ok block → reading.load block var path ≡ Ok value
      → Is (Cell block var path value))
      → ((op : ℕ) → watched.operation op ≡ true → Is (pending_count op (reading.count op))) → EachSeen Is (choice_seen reading site me env items)
  what-is-read Is cells counts =
      among-keeps (sees_of reading site me env) owner items Is (arm_names_only watched)
      (λ arm args named. truth-keeps watched reading reading me (own arm args) homes machines Is cells counts arm.guard (guard-within arm named) [] tt)
      (λ arm by args named its. key-keeps watched reading reading me (own arm args) homes machines Is cells counts arm.guard by (guard-within arm named) (by-within arm by named its) [] tt)
      (all_pairs site owner items) (pairs-pass (arm_names_only watched) owner site.arms 0 items within)

  pub what-was-read-is-there : ShowsAll reading (choice_seen reading site me env items)
  what-was-read-is-there = what-is-read (Shows reading) (λ whose var block path value watched stands is. is) (λ op watched. refl)

  pub what-was-read-is-watched : EachSeen (IsWatched watched site me env) (choice_seen reading site me env items)
  what-was-read-is-watched =
      what-is-read (IsWatched watched site me env) (λ whose var block path value within stands is. record { home = whose; variable = within; stands = stands }) (λ op within. within)
