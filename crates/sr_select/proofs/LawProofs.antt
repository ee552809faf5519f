-- Proofs of the laws of choices.
use Rattle.std.proofs.Common.{◌≡◌, ℕ, ◌+◌, ℤ, Bool, true, false, List, [], ◌∷◌, ◌++◌, refl, ap, sym, ◌∙◌, cond}
use Rattle.std.specs.Prelude.{Option, Some, None, Result, Ok, is_none, option_map, ◌||◌, ◌==◌, filter, slice_get}
use Rattle.std.specs.List.{list_all}
use Rattle.std.proofs.Common.{true≢false, subst, eqb-true}
use Rattle.std.proofs.lemmas.List.Elements.{filter-append}
use Rattle.std.proofs.lemmas.Bool.{and_from as both-and}
use Rattle.sr_value.specs.declared.capability.Owner.{Owner}
use Rattle.sr_value.specs.declared.fault.Fault.{Fault}
use Rattle.sr_value.specs.declared.value.Value.{Value}
use Rattle.sr_value.specs.Operators.{owner_eq}
use Rattle.sr_core.specs.Formals.{first_of}
use Rattle.sr_core.specs.declared.expression.Expr.{Expr}
use Rattle.sr_core.specs.declared.owner.Me.{Me}
use Rattle.sr_core.specs.declared.site.Arm.{Arm}
use Rattle.sr_core.specs.declared.site.Site.{Site}
use Rattle.sr_queue.specs.declared.pending.Pending.{Pending}
use Rattle.sr_queue.specs.Queues.{is_of}
use Rattle.sr_select.specs.declared.choice.Choice.{Choice}
use Rattle.sr_select.specs.declared.choice.Choice.TheVariants.{Service, Else, Nothing, Bad}
use Rattle.sr_select.specs.Choices.{Pair, Seeing, all_pairs, choice, choice_among, decides, fixed, is_not_false, key_with, otherwise, owner_in, passes, passes_with, sees_of, serviced}
use Rattle.sr_select.specs.Guards.{home_seen, machine_seen, own_seen, truth_of_guard}
use Rattle.sr_select.specs.Laws.{is_plain, oldest, Services, Services_it, chosen_in, is_in_class, is_named}
use Rattle.sr_select.specs.Looks.{Looked, result_of}
use Rattle.sr_select.specs.Readings.{Reading}
use Rattle.sr_select.specs.Worlds.{SameWatched, Watched, arm_names_only, maybe_names_only, reads_only}
use Rattle.sr_select.proofs.ChoiceLemmas.{choice-take}
use Rattle.sr_select.proofs.PairLemmas.{ArmsPass, both-true, listed-passes, pairs-pass}
use Rattle.sr_select.proofs.WatchedLemmas.{key-alike, truth-alike}
use Rattle.sr_select.proofs.TwinLemmas.{SameChoice, same-otherwise, same-queues}

none-of : {A : Type 0} (o : Option A) → is_none o ≡ true → o ≡ None
none-of None h = refl
none-of (Some a) h = absurd (true≢false (sym h))

-- a pair without `and` and `by` fixes the arm and is serviced
first-plain : (sees : Seeing) (owner : Owner) (items : List Pending) (tried : List Pair) → ArmsPass is_plain tried
    → choice_among sees owner items tried ≡ option_map (λ (pair : Pair). Service pair.place pair.number) (first_of tried)
first-plain sees owner items [] _ = refl
first-plain sees owner items (pair ∷ rest) plain =
    let parts = both-true (is_none pair.arm.guard) (is_none pair.arm.by) plain.0 in
    let passed : result_of (passes sees pair) ≡ Ok true = ap (λ g. result_of (truth_of_guard g (sees pair.arm pair.invocation.args) [])) (none-of pair.arm.guard parts.0) in
    let decided : decides sees pair ≡ true = ap is_not_false passed in
    choice-take sees owner items pair rest decided
    ∙ ap (λ (r : Result Bool Fault). Some (fixed sees owner items pair r)) passed
    ∙ ap (λ b. Some (serviced sees owner items pair.place pair.number pair.arm b)) (none-of pair.arm.by parts.1)

pub oldest-first : (reading : Reading) (site : Site) (me : Me) (env : List Value) (items : List Pending) → list_all is_plain site.arms ≡ true
    → choice reading site me env items ≡ otherwise site.has_else (oldest site me items)
oldest-first reading site me env items plain =
    ap (λ (c : Option Choice). otherwise site.has_else c)
    (first-plain (sees_of reading site me env) (owner_in site.scope me) items (all_pairs site (owner_in site.scope me) items)
    (pairs-pass is_plain (owner_in site.scope me) site.arms 0 items plain))

-- ---- choices from two queues

-- two choices that are the same service the same invocation
same-chosen : (owner : Owner) (arms : List Arm) (items items' : List Pending) (c c' : Choice) → SameChoice owner arms items items' c c' → chosen_in items c ≡ chosen_in items' c'
same-chosen owner arms items items' (Service here number) (Service there number') same =
    ap (λ (found : Option Pending). Services_it found number) (same.1.is_here ∙ sym same.1.is_there) ∙ ap (λ (n : ℕ). Services_it (slice_get items' there) n) same.0
same-chosen owner arms items items' Else Else same = refl
same-chosen owner arms items items' Nothing Nothing same = refl
same-chosen owner arms items items' (Bad found number) (Bad found' number') same =
    ap (λ (f : Fault). chosen_in items (Bad f number)) same.0 ∙ ap (λ (n : ℕ). chosen_in items (Bad found' n)) same.1
same-chosen owner arms items items' (Service here number) Else same = absurd same
same-chosen owner arms items items' (Service here number) Nothing same = absurd same
same-chosen owner arms items items' (Service here number) (Bad found' number') same = absurd same
same-chosen owner arms items items' Else (Service there number') same = absurd same
same-chosen owner arms items items' Else Nothing same = absurd same
same-chosen owner arms items items' Else (Bad found' number') same = absurd same
same-chosen owner arms items items' Nothing (Service there number') same = absurd same
same-chosen owner arms items items' Nothing Else same = absurd same
same-chosen owner arms items items' Nothing (Bad found' number') same = absurd same
same-chosen owner arms items items' (Bad found number) (Service there number') same = absurd same
same-chosen owner arms items items' (Bad found number) Else same = absurd same
same-chosen owner arms items items' (Bad found number) Nothing same = absurd same

-- In two worlds the guards of a statement come to the same, each for whatever arguments.
pub record GuardsAgree (site : Site) (me : Me) (env : List Value) (reading reading' : Reading) : Type 0 where
  pub conditions : (number : ℕ) (arm : Arm) → slice_get site.arms number ≡ Some arm → (args : List Value)
      → result_of (passes_with (sees_of reading site me env) arm args) ≡ result_of (passes_with (sees_of reading' site me env) arm args)
  pub keys : (number : ℕ) (arm : Arm) (by : Expr) → slice_get site.arms number ≡ Some arm → arm.by ≡ Some by → (args : List Value)
      → result_of (key_with (sees_of reading site me env) arm by args) ≡ result_of (key_with (sees_of reading' site me env) arm by args)

-- so they do where the worlds hold the same in all that the guards name
guards-agree : (watched : Watched) (site : Site) (me : Me) (env : List Value) (reading reading' : Reading) → reads_only watched site ≡ true → SameWatched watched site me env reading reading'
    → GuardsAgree site me env reading reading'
guards-agree watched site me env reading reading' within same =
    let parts : (number : ℕ) (arm : Arm) → slice_get site.arms number ≡ Some arm → (maybe_names_only watched arm.guard ≡ true) × (maybe_names_only watched arm.by ≡ true) =
    λ number arm found. both-true (maybe_names_only watched arm.guard) (maybe_names_only watched arm.by) (listed-passes (arm_names_only watched) site.arms number arm within found) in
    record {
      conditions = λ number arm found args.
          ap (λ (look : Looked Bool). result_of look)
          (truth-alike watched reading reading' me (own_seen arm args site.names env) (home_seen site.names env) (machine_seen site.names env) same.cells same.counts same.literals
          arm.guard (parts number arm found).0 []);
      keys = λ number arm by found its args.
          ap (λ (look : Looked (Option ℤ)). result_of look)
          (key-alike watched reading reading' me (own_seen arm args site.names env) (home_seen site.names env) (machine_seen site.names env) same.cells same.counts same.literals
          arm.guard by (parts number arm found).0 (sym (ap (maybe_names_only watched) its) ∙ (parts number arm found).1) []);
    }

-- the choices of two queues with the same named invocations, where the guards agree
same-choice : (site : Site) (me : Me) (env : List Value) (reading reading' : Reading) (items items' : List Pending) → GuardsAgree site me env reading reading'
    → filter (is_named (owner_in site.scope me) site.arms) items ≡ filter (is_named (owner_in site.scope me) site.arms) items'
    → SameChoice (owner_in site.scope me) site.arms items items' (choice reading site me env items) (choice reading' site me env items')
same-choice site me env reading reading' items items' agree e =
    same-otherwise (owner_in site.scope me) site.arms items items' site.has_else
    (choice_among (sees_of reading site me env) (owner_in site.scope me) items (all_pairs site (owner_in site.scope me) items))
    (choice_among (sees_of reading' site me env) (owner_in site.scope me) items' (all_pairs site (owner_in site.scope me) items'))
    (same-queues (owner_in site.scope me) site.arms items items' (sees_of reading site me env) (sees_of reading' site me env) agree.conditions agree.keys e)

agrees-alone : (site : Site) (me : Me) (env : List Value) (reading : Reading) → GuardsAgree site me env reading reading
agrees-alone site me env reading = record { conditions = λ number arm found args. refl; keys = λ number arm by found its args. refl }

pub serves-pending : (reading : Reading) (site : Site) (me : Me) (env : List Value) (items : List Pending) (place number : ℕ) → choice reading site me env items ≡ Service place number
    → Services site me items place number
serves-pending reading site me env items place number is =
    let same : SameChoice (owner_in site.scope me) site.arms items items (Service place number) (Service place number) =
    subst (λ (c : Choice). SameChoice (owner_in site.scope me) site.arms items items c c) is (same-choice site me env reading reading items items (agrees-alone site me env reading) refl) in
    record { invocation = same.1.invocation; arm = same.1.arm; is_pending = same.1.is_here; is_arm = same.1.is_arm; is_of_both = same.1.fits }

-- an invocation that no arm names
without-one : (test : Pending → Bool) (front later : List Pending) (p : Pending) → test p ≡ false → filter test (front ++ p ∷ later) ≡ filter test (front ++ later)
without-one test front later p other =
    filter-append test front (p ∷ later)
    ∙ ap (λ b. filter test front ++ cond b (p ∷ filter test later) (filter test later)) other
    ∙ sym (filter-append test front later)

pub unnamed-changes-nothing : (reading : Reading) (site : Site) (me : Me) (env : List Value) (front later : List Pending) (p : Pending)
    → is_named (owner_in site.scope me) site.arms p ≡ false
    → chosen_in (front ++ p ∷ later) (choice reading site me env (front ++ p ∷ later)) ≡ chosen_in (front ++ later) (choice reading site me env (front ++ later))
unnamed-changes-nothing reading site me env front later p other =
    same-chosen (owner_in site.scope me) site.arms (front ++ p ∷ later) (front ++ later) (choice reading site me env (front ++ p ∷ later)) (choice reading site me env (front ++ later))
    (same-choice site me env reading reading (front ++ p ∷ later) (front ++ later) (agrees-alone site me env reading)
    (without-one (is_named (owner_in site.scope me) site.arms) front later p other))

-- ---- classes

class-of-one : (owner : Owner) (class : ℕ → Bool) (op : ℕ) (p : Pending) → class op ≡ true → is_of owner op p ≡ true → is_in_class owner class p ≡ true
class-of-one owner class op p in_class one =
    let parts = both-true (p.op == op) (owner_eq p.owner owner) one in
    both-and (class p.op) (owner_eq p.owner owner) (ap class (eqb-true p.op op parts.0) ∙ in_class) parts.1

class-step : (owner : Owner) (class : ℕ → Bool) (arm : Arm) (arms : List Arm) (p : Pending) (b : Bool) → is_of owner arm.op p ≡ b → class arm.op ≡ true
    → (is_named owner arms p ≡ true → is_in_class owner class p ≡ true) → (b || is_named owner arms p) ≡ true → is_in_class owner class p ≡ true
class-step owner class arm arms p true one in_class later named = class-of-one owner class arm.op p in_class one
class-step owner class arm arms p false other in_class later named = later named

class-of-named : (owner : Owner) (class : ℕ → Bool) (arms : List Arm) (p : Pending) → list_all (λ (arm : Arm). class arm.op) arms ≡ true → is_named owner arms p ≡ true → is_in_class owner class p ≡ true
class-of-named owner class [] p all named = absurd (true≢false (sym named))
class-of-named owner class (arm ∷ arms) p all named =
    let parts = both-true (class arm.op) (list_all (λ (a : Arm). class a.op) arms) all in
    class-step owner class arm arms p (is_of owner arm.op p) refl parts.0 (class-of-named owner class arms p parts.1) named

-- those that pass one test are among those that pass a weaker one
narrower-step : (test wide : Pending → Bool) (p : Pending) (items : List Pending) (b c : Bool) → wide p ≡ b → test p ≡ c → (test p ≡ true → wide p ≡ true)
    → filter test (filter wide items) ≡ filter test items → filter test (filter wide (p ∷ items)) ≡ filter test (p ∷ items)
narrower-step test wide p items true c is one within later =
    ap (λ t. filter test (cond t (p ∷ filter wide items) (filter wide items))) is ∙ ap (λ (l : List Pending). cond (test p) (p ∷ l) l) later
narrower-step test wide p items false true is one within later = absurd (true≢false (sym (within one) ∙ is))
narrower-step test wide p items false false is one within later =
    ap (λ t. filter test (cond t (p ∷ filter wide items) (filter wide items))) is ∙ later ∙ sym (ap (λ t. cond t (p ∷ filter test items) (filter test items)) one)

narrower : (test wide : Pending → Bool) (items : List Pending) → ((p : Pending) → test p ≡ true → wide p ≡ true) → filter test (filter wide items) ≡ filter test items
narrower test wide [] within = refl
narrower test wide (p ∷ items) within = narrower-step test wide p items (wide p) (test p) refl refl (within p) (narrower test wide items within)

pub one-class-decides : (reading reading' : Reading) (site : Site) (me : Me) (env : List Value) (items items' : List Pending) (class : ℕ → Bool)
    → list_all (λ (arm : Arm). class arm.op) site.arms ≡ true
    → filter (is_in_class (owner_in site.scope me) class) items ≡ filter (is_in_class (owner_in site.scope me) class) items'
    → (watched : Watched) → reads_only watched site ≡ true → SameWatched watched site me env reading reading'
    → chosen_in items (choice reading site me env items) ≡ chosen_in items' (choice reading' site me env items')
one-class-decides reading reading' site me env items items' class all e watched within_watched same_watched =
    let owner : Owner = owner_in site.scope me in
    let named : Pending → Bool = is_named owner site.arms in
    let within : (p : Pending) → named p ≡ true → is_in_class owner class p ≡ true = λ p h. class-of-named owner class site.arms p all h in
    same-chosen owner site.arms items items' (choice reading site me env items) (choice reading' site me env items')
    (same-choice site me env reading reading' items items' (guards-agree watched site me env reading reading' within_watched same_watched)
    (sym (narrower named (is_in_class owner class) items within) ∙ ap (λ (l : List Pending). filter named l) e ∙ narrower named (is_in_class owner class) items' within))
