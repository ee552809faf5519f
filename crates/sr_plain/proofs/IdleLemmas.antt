-- A statement without guards and `else` can be done exactly where an invocation of one of its operations is pending.
use Rattle.std.proofs.Common.{◌≡◌, ◌+◌, ℕ, zero, suc, ◌&&◌, ◌||◌, ◌==◌, not, Bool, true, false, cond, List, [], ◌∷◌, ◌++◌, None, Some, refl, ap, sym, ◌∙◌, true≢false}
use Rattle.std.specs.BTreeSet.{contains}
use Rattle.std.specs.Ordering.{nat_cmp}
use Rattle.std.specs.List.{cons_option, enumerate_from, list_all}
use Rattle.std.specs.Prelude.{filter, option_map, slice_get}
use Rattle.std.proofs.lemmas.Bool.{and_parts as both-true}
use Rattle.sr_ask.specs.declared.ask.Role.{Role}
use Rattle.sr_ask.specs.declared.request.Request.TheVariants as request
use Rattle.sr_core.specs.Formals.{first_of}
use Rattle.sr_core.specs.declared.component.Core.{Core}
use Rattle.sr_core.specs.declared.site.Arm.{Arm}
use Rattle.sr_core.specs.declared.site.Site.{Site}
use Rattle.sr_queue.specs.Classes.{class_of, same_class}
use Rattle.sr_queue.specs.Queues.{is_of}
use Rattle.sr_queue.specs.declared.class.Class.{Class}
use Rattle.sr_queue.specs.declared.pending.Pending.{Pending}
use Rattle.sr_select.proofs.LawProofs.{oldest-first, serves-pending}
use Rattle.sr_select.specs.Choices.{Pair, all_pairs, otherwise, owner_in, pairs, pairs_of}
use Rattle.sr_select.specs.Laws.{is_plain}
use Rattle.sr_select.specs.declared.choice.Choice.TheVariants.{Service}
use Rattle.sr_value.specs.declared.capability.Owner.{Owner}
use Rattle.sr_value.specs.declared.capability.Owner.TheVariants.{Inst, Proc}
use Rattle.sr_value.specs.declared.place.Place.{Place}
use Rattle.sr_value.specs.declared.value.Value.{Value}
use Rattle.sr_world.specs.Does.{IsDone, IsNot, comes_to, where_some}
use Rattle.sr_world.specs.Selecting.{by_choice, choice_of, me_of, reading_of, select_at, service}
use Rattle.sr_world.specs.Steps.{done_by}
use Rattle.sr_world.specs.Worlds.{World}
use Rattle.sr_plain.specs.Waiting.{is_open, is_open_at, is_simple, opens}
use Rattle.sr_plain.specs.declared.change.Change.{Change}
use Rattle.sr_plain.specs.declared.change.Change.TheVariants as change
use Rattle.sr_plain.specs.declared.crowd.Opened.{Opened}
use Rattle.sr_plain.proofs.ChangeLemmas.{Keeps, off-first}

-- ---- what stays pending

-- of an operation that isn't opened none is pending where none was
pub none-pending-still : (actor caller : ℕ) (change : Change) (old new : World) → Keeps actor caller change old new → (owner : Owner) (op : ℕ) → opens change owner op ≡ false
    → filter (is_of owner op) old.pending ≡ [] → filter (is_of owner op) new.pending ≡ []
none-pending-still actor caller change.Nothing old new keeps owner op off none = ap (filter (is_of owner op)) (sym keeps.pending) ∙ none
none-pending-still actor caller change.Watched old new keeps owner op off none = ap (filter (is_of owner op)) (sym keeps.pending) ∙ none
none-pending-still actor caller (change.Variable block var) old new keeps owner op off none = ap (filter (is_of owner op)) (sym keeps.pending) ∙ none
none-pending-still actor caller (change.Class whose n) old new keeps owner op off none = sym (keeps.pending owner (λ m. m == op) off) ∙ none
none-pending-still actor caller (change.Gone whose n) old new keeps owner op off none = keeps.none owner op none
none-pending-still actor caller change.Everything old new keeps owner op off none = absurd (true≢false off)

-- ---- open operations

pub open-at : (opened : List Opened) (class : Class) (process : ℕ) → is_open opened process ≡ false → is_open_at opened class process ≡ false
open-at [] class process off = refl
open-at (o ∷ opened) class process off = by (contains nat_cmp o.processes process) (same_class o.class class) off (open-at opened class process)
  where
    by : (b c : Bool) → (b || is_open opened process) ≡ false → (is_open opened process ≡ false → is_open_at opened class process ≡ false) → ((c && b) || is_open_at opened class process) ≡ false
    by true c h more = absurd (true≢false h)
    by false true h more = more h
    by false false h more = more h

pub same-operation : (whose owner : Owner) (n op : ℕ) → class_of whose n ≡ class_of owner op → (whose ≡ owner) × (n ≡ op)
same-operation (Inst a) (Inst b) n op is = (ap Inst (ap (λ (c : Class). c.owner) is), ap (λ (c : Class). c.op) is)
same-operation (Proc a) (Proc b) n op is = (ap Proc (ap (λ (c : Class). c.owner) is), ap (λ (c : Class). c.op) is)
same-operation (Inst a) (Proc b) n op is = absurd (true≢false (sym (ap (λ (c : Class). c.of_process) is)))
same-operation (Proc a) (Inst b) n op is = absurd (true≢false (ap (λ (c : Class). c.of_process) is))

-- ---- pairs

append-none : {X : Type 0} (xs ys : List X) → xs ++ ys ≡ [] → (xs ≡ []) × (ys ≡ [])
append-none [] ys none = (refl, none)
append-none (x ∷ xs) ys none = absurd (cc)

module _ (owner : Owner) where
  no-pairs-of : (place : ℕ) (p : Pending) (arms : List Arm) (n : ℕ) → ((k : ℕ) (arm : Arm) → slice_get arms k ≡ Some arm → is_of owner arm.op p ≡ false) → pairs_of owner (enumerate_from n arms) (place, p) ≡ []
  no-pairs-of place p [] n each = refl
  no-pairs-of place p (arm ∷ arms) n each =
      ap (λ b. cons_option (cond b (Some (record { place = place; invocation = p; number = n; arm = arm })) None) (pairs_of owner (enumerate_from (n + 1) arms) (place, p))) (each 0 arm refl)
      ∙ no-pairs-of place p arms (n + 1) (λ k a is. each (suc k) a is)

  off-of : (place : ℕ) (p : Pending) (arms : List Arm) (n : ℕ) → pairs_of owner (enumerate_from n arms) (place, p) ≡ [] → (k : ℕ) (arm : Arm) → slice_get arms k ≡ Some arm → is_of owner arm.op p ≡ false
  off-of place p [] n none zero arm is = absurd (cc)
  off-of place p [] n none (suc k) arm is = absurd (cc)
  off-of place p (a ∷ arms) n none k arm is = by (is_of owner a.op p) refl none k is (off-of place p arms (n + 1))
    where
      by : (b : Bool) → is_of owner a.op p ≡ b → cons_option (cond b (Some (record { place = place; invocation = p; number = n; arm = a })) None) (pairs_of owner (enumerate_from (n + 1) arms) (place, p)) ≡ []
          → (k : ℕ) → slice_get (a ∷ arms) k ≡ Some arm → (pairs_of owner (enumerate_from (n + 1) arms) (place, p) ≡ [] → (k : ℕ) (arm : Arm) → slice_get arms k ≡ Some arm → is_of owner arm.op p ≡ false) → is_of owner arm.op p ≡ false
      by true here h k found more = absurd (cc)
      by false here h zero found more = let same : a ≡ arm = cc in ap (λ (x : Arm). is_of owner x.op p) (sym same) ∙ here
      by false here h (suc k) found more = more h k arm found

  no-pairs : (arms : List Arm) (items : List Pending) (n : ℕ) → ((k : ℕ) (arm : Arm) → slice_get arms k ≡ Some arm → filter (is_of owner arm.op) items ≡ []) → pairs owner (enumerate_from 0 arms) (enumerate_from n items) ≡ []
  no-pairs arms [] n each = refl
  no-pairs arms (p ∷ ps) n each =
      ap (λ xs. xs ++ pairs owner (enumerate_from 0 arms) (enumerate_from (n + 1) ps)) (no-pairs-of n p arms 0 (λ k arm is. (off-first (is_of owner arm.op) p ps (each k arm is)).0))
      ∙ no-pairs arms ps (n + 1) (λ k arm is. (off-first (is_of owner arm.op) p ps (each k arm is)).1)

  none-pending : (arms : List Arm) (items : List Pending) (n : ℕ) → pairs owner (enumerate_from 0 arms) (enumerate_from n items) ≡ [] → (k : ℕ) (arm : Arm) → slice_get arms k ≡ Some arm → filter (is_of owner arm.op) items ≡ []
  none-pending arms [] n none k arm is = refl
  none-pending arms (p ∷ ps) n none k arm is =
      let parts = append-none (pairs_of owner (enumerate_from 0 arms) (n, p)) (pairs owner (enumerate_from 0 arms) (enumerate_from (n + 1) ps)) none in
      ap (λ b. cond b (p ∷ filter (is_of owner arm.op) ps) (filter (is_of owner arm.op) ps)) (off-of n p arms 0 parts.0 k arm is) ∙ none-pending arms ps (n + 1) parts.1 k arm is

-- ---- statements

not-true : (b : Bool) → not b ≡ true → b ≡ false
not-true true is = absurd (true≢false (sym is))
not-true false is = refl

module _ (core : Core) (w : World) (p : ℕ) (place : Place) (role : Role) (number : ℕ) (env : List Value) (site : Site) (found : slice_get core.sites number ≡ Some site) (simple : is_simple site ≡ true) where
  chosen-is : choice_of core w p env site ≡ otherwise false (option_map (λ (pair : Pair). Service pair.place pair.number) (first_of (all_pairs site (owner_in site.scope (me_of w p)) w.pending)))
  chosen-is =
      let parts = both-true (list_all is_plain site.arms) (not site.has_else) simple in
      oldest-first (reading_of core w p) site (me_of w p) env w.pending parts.0
      ∙ ap (λ b. otherwise b (option_map (λ (pair : Pair). Service pair.place pair.number) (first_of (all_pairs site (owner_in site.scope (me_of w p)) w.pending)))) (not-true site.has_else parts.1)

  comes-by : comes_to (done_by core w p 0 place role (request.Select number env)) ≡ comes_to (by_choice w p site (choice_of core w p env site))
  comes-by = ap (λ o. comes_to (where_some o (select_at core w p env))) found

  pub idle_cannot : ((k : ℕ) (arm : Arm) → slice_get site.arms k ≡ Some arm → filter (is_of (owner_in site.scope (me_of w p)) arm.op) w.pending ≡ []) → comes_to (done_by core w p 0 place role (request.Select number env)) ≡ IsNot
  idle_cannot none =
      comes-by ∙ ap (λ c. comes_to (by_choice w p site c)) (chosen-is ∙ ap (λ xs. otherwise false (option_map (λ (pair : Pair). Service pair.place pair.number) (first_of xs))) (no-pairs (owner_in site.scope (me_of w p)) site.arms w.pending 0 none))

  pub cannot_none : comes_to (done_by core w p 0 place role (request.Select number env)) ≡ IsNot → (k : ℕ) (arm : Arm) → slice_get site.arms k ≡ Some arm → filter (is_of (owner_in site.scope (me_of w p)) arm.op) w.pending ≡ []
  cannot_none cannot = none-pending (owner_in site.scope (me_of w p)) site.arms w.pending 0 (by (all_pairs site (owner_in site.scope (me_of w p)) w.pending) refl)
    where
      served : (pair : Pair) → choice_of core w p env site ≡ Service pair.place pair.number → comes_to (by_choice w p site (choice_of core w p env site)) ≡ IsDone
      served pair is =
          let serves = serves-pending (reading_of core w p) site (me_of w p) env w.pending pair.place pair.number is in
          ap (λ c. comes_to (by_choice w p site c)) is ∙ ap (λ o. comes_to (where_some o (service w p pair.place pair.number))) serves.is_pending

      by : (xs : List Pair) → all_pairs site (owner_in site.scope (me_of w p)) w.pending ≡ xs → xs ≡ []
      by [] is = refl
      by (pair ∷ rest) is =
          let chosen = chosen-is ∙ ap (λ ys. otherwise false (option_map (λ (x : Pair). Service x.place x.number) (first_of ys))) is in
          let done = served pair chosen in
          absurd (let one = sym done ∙ sym comes-by ∙ cannot in cc)
