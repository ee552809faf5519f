-- A statement of one arm without `and` and `by` services the first invocation of the arm's operation.
use Rattle.std.proofs.Common.{◌≡◌, ℕ, ◌+◌, ◌<◌, ◌≤◌, length, get_or, Bool, true, false, List, [], ◌∷◌, ◌++◌, refl, ap, sym, ◌∙◌, cond, true≢false, arith}
use Rattle.std.specs.Prelude.{Option, Some, None, is_none, is_some, option_map, ◌&&◌}
use Rattle.std.specs.List.{cons_option, enumerate_from, list_all, position_from}
use Rattle.sr_value.specs.declared.capability.Owner.{Owner}
use Rattle.sr_value.specs.declared.value.Value.{Value}
use Rattle.sr_core.specs.Formals.{first_of}
use Rattle.sr_core.specs.declared.expression.Expr.{Expr}
use Rattle.sr_core.specs.declared.owner.Me.{Me}
use Rattle.sr_core.specs.declared.site.Arm.{Arm}
use Rattle.sr_core.specs.declared.site.Site.{Site}
use Rattle.sr_queue.specs.Classes.{next_waiting}
use Rattle.sr_queue.specs.Queues.{is_of}
use Rattle.sr_queue.specs.declared.pending.Pending.{Pending}
use Rattle.sr_select.specs.declared.choice.Choice.{Choice}
use Rattle.sr_select.specs.declared.choice.Choice.TheVariants.{Service}
use Rattle.sr_select.specs.Choices.{Pair, choice, otherwise, owner_in, pairs}
use Rattle.sr_select.specs.Laws.{is_plain}
use Rattle.sr_select.specs.Readings.{Reading}
use Rattle.sr_select.proofs.LawProofs.{oldest-first}

abbrev by_pair : Option Pair → Option Choice
by_pair first = option_map (λ (pair : Pair). Service pair.place pair.number) first

abbrev by_place : Option ℕ → Option Choice
by_place place = option_map (λ (n : ℕ). Service n 0) place

module _ (owner : Owner) (arm : Arm) where
  abbrev Pairs : ℕ → List Pending → List Pair
  Pairs n items = pairs owner (enumerate_from 0 (arm ∷ [])) (enumerate_from n items)

  -- the first pair has the first invocation of the arm's operation
  first-pair : (n : ℕ) (items : List Pending) → by_pair (first_of (Pairs n items)) ≡ by_place (position_from (is_of owner arm.op) n items)
  first-pair n [] = refl
  first-pair n (p ∷ items) = by (is_of owner arm.op p) (first-pair (n + 1) items)
    where
      by : (b : Bool) → by_pair (first_of (Pairs (n + 1) items)) ≡ by_place (position_from (is_of owner arm.op) (n + 1) items)
          → by_pair (first_of (cons_option (cond b (Some (record { place = n; invocation = p; number = 0; arm = arm })) None) [] ++ Pairs (n + 1) items))
          ≡ by_place (cond b (Some n) (position_from (is_of owner arm.op) (n + 1) items))
      by true more = refl
      by false more = more

none-of : (o : Option Expr) → is_some o ≡ false → is_none o ≡ true
none-of None h = refl
none-of (Some expr) h = absurd (true≢false h)

plain-of : (guard order : Option Expr) → is_some guard ≡ false → is_some order ≡ false → (is_none guard && is_none order) ≡ true
plain-of guard order no_guard no_order = ap (λ (b : Bool). b && is_none order) (none-of guard no_guard) ∙ none-of order no_order

one-of : (arms : List Arm) (arm : Arm) → 1 ≤ length arms → length arms < 2 → arm ≡ get_or arms 0 arm → arms ≡ arm ∷ []
one-of [] arm some few is = absurd (omega (arith, some))
one-of (first ∷ []) arm some few is = ap (λ (a : Arm). a ∷ []) (sym is)
one-of (first ∷ other ∷ more) arm some few is = absurd (omega (arith, few))

-- the arm of a statement that has one, without `and` and `by`
pub record OnePlain (arms : List Arm) (arm : Arm) : Type 0 where
  pub some : 1 ≤ length arms
  pub few : length arms < 2
  pub is : arm ≡ get_or arms 0 arm
  pub no_guard : is_some arm.guard ≡ false
  pub no_order : is_some arm.by ≡ false

module _ (reading : Reading) (site : Site) (me : Me) (env : List Value) (items : List Pending) (arm : Arm) (arms : List Arm) (same : arms ≡ site.arms) (one : OnePlain arms arm) where
  abbrev Next : Option ℕ
  Next = next_waiting (owner_in site.scope me) arm.op 0 items

  alone : site.arms ≡ arm ∷ []
  alone = sym same ∙ one-of arms arm one.some one.few one.is

  all-plain : list_all is_plain site.arms ≡ true
  all-plain = ap (λ (list : List Arm). list_all is_plain list) alone ∙ ap (λ (b : Bool). b && true) (plain-of arm.guard arm.by one.no_guard one.no_order)

  -- the choice by the first invocation of the arm's operation
  by-next : choice reading site me env items ≡ otherwise site.has_else (by_place Next)
  by-next =
      oldest-first reading site me env items all-plain
      ∙ ap (λ (list : List Arm). otherwise site.has_else (by_pair (first_of (pairs (owner_in site.scope me) (enumerate_from 0 list) (enumerate_from 0 items))))) alone
      ∙ ap (otherwise site.has_else) (first-pair (owner_in site.scope me) arm 0 items)

  pub serves-next : (place : ℕ) → Next ≡ Some place → Service place 0 ≡ choice reading site me env items
  serves-next place at = sym (by-next ∙ ap (λ (next : Option ℕ). otherwise site.has_else (by_place next)) at)

  pub serves-none : Next ≡ None → otherwise site.has_else None ≡ choice reading site me env items
  serves-none none = sym (by-next ∙ ap (λ (next : Option ℕ). otherwise site.has_else (by_place next)) none)
