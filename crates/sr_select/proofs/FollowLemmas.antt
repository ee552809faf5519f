-- What a guard reads decides what it comes to: another world that holds what was read gives the same. What it reads is
-- there, and is watched.
use Rattle.std.proofs.Common.{◌≡◌, ℕ, Bool, true, List, [], ◌∷◌, ◌++◌, refl, ap, sym, ◌∙◌, subst, ℤ, pos}
use Rattle.std.specs.Prelude.{Option, Result, Ok, Err}
use Rattle.sr_value.specs.declared.fault.Fault.{Fault}
use Rattle.sr_value.specs.declared.shape.Sel.{Sel}
use Rattle.sr_value.specs.declared.value.Value.{Value}
use Rattle.sr_value.specs.Operators.{int_result}
use Rattle.sr_value.specs.Parts.{loaded_at, with_ok}
use Rattle.sr_ask.specs.declared.entry.Seen.{Seen}
use Rattle.sr_ask.specs.declared.entry.Seen.TheVariants.{Cell, Pending as pending_count}
use Rattle.sr_core.specs.Applied.{applied}
use Rattle.sr_core.specs.declared.expression.Expr.{Expr}
use Rattle.sr_core.specs.declared.expression.Function.{Function}
use Rattle.sr_core.specs.declared.expression.Leaf.{Leaf}
use Rattle.sr_core.specs.declared.expression.Leaf.TheVariants.{Constant, Operation, MyResource, MyMachine, Count as count_of_op, MakeMachine, Moment}
use Rattle.sr_core.specs.declared.owner.Home.{Home}
use Rattle.sr_core.specs.declared.owner.Me.{Me}
use Rattle.sr_core.specs.declared.owner.Root.{Root}
use Rattle.sr_core.specs.declared.owner.Root.TheVariants.{Own as own_root, Shared as shared_root}
use Rattle.sr_select.specs.Choices.{key_in}
use Rattle.sr_select.specs.Guards.{Guard, Guarding, cell_read, guard_block, guard_leaf, guard_load, guard_shared, truth_of_guard}
use Rattle.sr_select.specs.Looks.{Looked, Found, Faulted, seen_of, settle, then_look}
use Rattle.sr_select.specs.Readings.{Reading}
use Rattle.sr_select.specs.Shown.{EachSeen, Shows, ShowsAll}
use Rattle.sr_select.specs.Worlds.{Watched, leaf_within, maybe_names_only, names_only, root_within}
use Rattle.sr_select.proofs.GuardLemmas.{conditions-good, keys-good}

-- ---- what was read

pub each-append : (Is : Seen → Type 0) (front later : List Seen) → EachSeen Is front → EachSeen Is later → EachSeen Is (front ++ later)
each-append Is [] later first second = second
each-append Is (one ∷ others) later first second = (first.0, each-append Is others later first.1 second)

pub each-front : (Is : Seen → Type 0) (front later : List Seen) → EachSeen Is (front ++ later) → EachSeen Is front
each-front Is [] later all = tt
each-front Is (one ∷ others) later all = (all.0, each-front Is others later all.1)

pub each-later : (Is : Seen → Type 0) (front later : List Seen) → EachSeen Is (front ++ later) → EachSeen Is later
each-later Is [] later all = all
each-later Is (one ∷ others) later all = each-later Is others later all.1

module _ (watched : Watched) (reading reading' : Reading) (me : Me) (own : ℕ → Result Value Fault) (home : ℕ → Option ℕ) (machine : Option ℕ) where
  abbrev pub One : Guarding
  One = record { reading = reading; me = me; own = own; home = home; machine = machine }

  abbrev pub Other : Guarding
  Other = record { reading = reading'; me = me; own = own; home = home; machine = machine }

  -- ---- the same where it was read

  -- Where a part of a guard comes to a value, and the other world holds all that was read until then, it comes to this
  -- value there, and reads the same; and that world holds what was read before.
  abbrev pub Follows : (A : Type 0) → Guard A → Type 0
  Follows A guard = (seen : List Seen) (a : A) (later : List Seen) → guard One seen ≡ Found a later → ShowsAll reading' later
      → (guard Other seen ≡ Found a later) × ShowsAll reading' seen

  then-follows : (A B : Type 0) (guard : Guard A) (next : A → Guard B) → Follows A guard → ((a : A) → Follows B (next a)) → (seen : List Seen) (b : B) (later : List Seen)
      → then_look (guard One seen) (λ a. next a One) ≡ Found b later → ShowsAll reading' later
      → (then_look (guard Other seen) (λ a. next a Other) ≡ Found b later) × ShowsAll reading' seen
  then-follows A B guard next first second seen b later is all = by (guard One seen) refl is
    where
      by : (look : Looked A) → guard One seen ≡ look → then_look look (λ a. next a One) ≡ Found b later
          → (then_look (guard Other seen) (λ a. next a Other) ≡ Found b later) × ShowsAll reading' seen
      by (Found a mid) found is =
          let there = second a mid b later is all in
          let before = first seen a mid found there.1 in
          (ap (λ (look : Looked A). then_look look (λ x. next x Other)) before.0 ∙ there.0, before.1)
      by (Faulted fault mid) found is = absurd (cc is)

  settled-follows : (A : Type 0) (result : Result A Fault) → Follows A (λ at. settle result)
  settled-follows A (Ok value) seen a later is all = let same : later ≡ seen = cc is in (is, subst (λ s. ShowsAll reading' s) same all)
  settled-follows A (Err fault) seen a later is all = absurd (cc is)

  count-follows : (op count : ℕ) → reading.count op ≡ count → (result : Result Value Fault) → int_result (pos count) ≡ result → (seen : List Seen) (a : Value) (later : List Seen)
      → settle result (seen ++ pending_count op count ∷ []) ≡ Found a later → ShowsAll reading' later
      → (settle (int_result (pos (reading'.count op))) (seen ++ pending_count op (reading'.count op) ∷ []) ≡ Found a later) × ShowsAll reading' seen
  count-follows op count here (Ok value) number seen a later is all =
      let same : later ≡ seen ++ pending_count op count ∷ [] = cc is in
      let all : ShowsAll reading' (seen ++ pending_count op count ∷ []) = subst (λ s. ShowsAll reading' s) same all in
      let there : reading'.count op ≡ count = (each-later (Shows reading') seen (pending_count op count ∷ []) all).0 in (
        ap (λ n. settle (int_result (pos n)) (seen ++ pending_count op n ∷ [])) there ∙ ap (λ (r : Result Value Fault). settle r (seen ++ pending_count op count ∷ [])) number ∙ is,
        each-front (Shows reading') seen (pending_count op count ∷ []) all,
      )
  count-follows op count here (Err fault) number seen a later is all = absurd (cc is)

  leaf-follows : (leaf : Leaf) → leaf_within watched leaf ≡ true → Follows Value (guard_leaf leaf)
  leaf-follows (count_of_op op) within seen a later is all = count-follows op (reading.count op) refl (int_result (pos (reading.count op))) refl seen a later is all
  leaf-follows (Constant value) within seen a later is all = settled-follows Value (Ok value) seen a later is all
  leaf-follows (Operation whose op) within seen a later is all = settled-follows Value _ seen a later is all
  leaf-follows MyResource within seen a later is all = settled-follows Value (Ok _) seen a later is all
  leaf-follows MyMachine within seen a later is all = settled-follows Value _ seen a later is all
  leaf-follows MakeMachine within seen a later is all = absurd (cc is)
  leaf-follows Moment within seen a later is all = absurd (cc is)

  cell-follows : (block var : ℕ) (path : List Sel) (held : Result Value Fault) (seen : List Seen) (a : Value) (later : List Seen) → cell_read block var path held seen ≡ Found a later → ShowsAll reading' later
      → (cell_read block var path (reading'.load block var path) seen ≡ Found a later) × ShowsAll reading' seen
  cell-follows block var path (Ok value) seen a later is all =
      let same : later ≡ seen ++ Cell block var path value ∷ [] = cc is in
      let all : ShowsAll reading' (seen ++ Cell block var path value ∷ []) = subst (λ s. ShowsAll reading' s) same all in (
        ap (λ (held : Result Value Fault). cell_read block var path held seen) (each-later (Shows reading') seen (Cell block var path value ∷ []) all).0 ∙ is,
        each-front (Shows reading') seen (Cell block var path value ∷ []) all,
      )
  cell-follows block var path (Err fault) seen a later is all = absurd (cc is)

  shared-follows : (var : ℕ) (path : List Sel) (block : Result ℕ Fault) (seen : List Seen) (a : Value) (later : List Seen) → then_look (settle block seen) (guard_shared reading var path) ≡ Found a later → ShowsAll reading' later
      → (then_look (settle block seen) (guard_shared reading' var path) ≡ Found a later) × ShowsAll reading' seen
  shared-follows var path (Ok block) seen a later is all = cell-follows block var path (reading.load block var path) seen a later is all
  shared-follows var path (Err fault) seen a later is all = absurd (cc is)

  load-follows : (root : Root) (path : List Sel) → root_within watched root ≡ true → Follows Value (guard_load root path)
  load-follows (own_root var) path within seen a later is all = settled-follows Value (with_ok (own var) (λ value. loaded_at value path)) seen a later is all
  load-follows (shared_root whose var) path within seen a later is all = shared-follows var path (guard_block me home whose) seen a later is all

  module _ (literals : reading.names ≡ reading'.names) where
    applied-follows : (function : Function) (values : List Value) → Follows Value (λ at. settle (applied at.reading.names function values))
    applied-follows function values seen a later is all =
        let same = settled-follows Value (applied reading.names function values) seen a later is all in
        (ap (λ (names : List (List (List ℕ))). settle (applied names function values) seen) (sym literals) ∙ same.0, same.1)

    pub truth-follows : (condition : Option Expr) → maybe_names_only watched condition ≡ true → Follows Bool (truth_of_guard condition)
    truth-follows = conditions-good (leaf_within watched) (root_within watched) Follows then-follows settled-follows leaf-follows load-follows applied-follows

    pub key-follows : (condition : Option Expr) (by : Expr) → maybe_names_only watched condition ≡ true → names_only watched by ≡ true → Follows (Option ℤ) (key_in condition by)
    key-follows = keys-good (leaf_within watched) (root_within watched) Follows then-follows settled-follows leaf-follows load-follows applied-follows

  -- ---- what is read

  module _ (Is : Seen → Type 0)
      (cells : (whose : Home) (var block : ℕ) (path : List Sel) (value : Value) → watched.variable whose var ≡ true → guard_block me home whose ≡ Ok block → reading.load block var path ≡ Ok value → Is (Cell block var path value))
      (counts : (op : ℕ) → watched.operation op ≡ true → Is (pending_count op (reading.count op))) where
    -- what a part of a guard reads is such, if what was read before is
    abbrev pub Keeps : (A : Type 0) → Guard A → Type 0
    Keeps A guard = (seen : List Seen) → EachSeen Is seen → EachSeen Is (seen_of (guard One seen))

    then-keeps : (A B : Type 0) (guard : Guard A) (next : A → Guard B) → Keeps A guard → ((a : A) → Keeps B (next a)) → (seen : List Seen) → EachSeen Is seen
        → EachSeen Is (seen_of (then_look (guard One seen) (λ a. next a One)))
    then-keeps A B guard next first second seen all = by (guard One seen) (first seen all)
      where
        by : (look : Looked A) → EachSeen Is (seen_of look) → EachSeen Is (seen_of (then_look look (λ a. next a One)))
        by (Found a mid) all = second a mid all
        by (Faulted fault mid) all = all

    settled-keeps : (A : Type 0) (result : Result A Fault) → Keeps A (λ at. settle result)
    settled-keeps A (Ok value) seen all = all
    settled-keeps A (Err fault) seen all = all

    leaf-keeps : (leaf : Leaf) → leaf_within watched leaf ≡ true → Keeps Value (guard_leaf leaf)
    leaf-keeps (count_of_op op) within seen all =
        settled-keeps Value (int_result (pos (reading.count op))) (seen ++ pending_count op (reading.count op) ∷ [])
        (each-append Is seen (pending_count op (reading.count op) ∷ []) all (counts op within, tt))
    leaf-keeps (Constant value) within seen all = all
    leaf-keeps (Operation whose op) within seen all = settled-keeps Value _ seen all
    leaf-keeps MyResource within seen all = all
    leaf-keeps MyMachine within seen all = settled-keeps Value _ seen all
    leaf-keeps MakeMachine within seen all = all
    leaf-keeps Moment within seen all = all

    cell-keeps : (whose : Home) (var block : ℕ) (path : List Sel) (held : Result Value Fault) → watched.variable whose var ≡ true → guard_block me home whose ≡ Ok block → reading.load block var path ≡ held
        → (seen : List Seen) → EachSeen Is seen → EachSeen Is (seen_of (cell_read block var path held seen))
    cell-keeps whose var block path (Ok value) within stands is seen all =
        each-append Is seen (Cell block var path value ∷ []) all (cells whose var block path value within stands is, tt)
    cell-keeps whose var block path (Err fault) within stands is seen all = all

    shared-keeps : (whose : Home) (var : ℕ) (path : List Sel) (block : Result ℕ Fault) → watched.variable whose var ≡ true → guard_block me home whose ≡ block
        → (seen : List Seen) → EachSeen Is seen → EachSeen Is (seen_of (then_look (settle block seen) (guard_shared reading var path)))
    shared-keeps whose var path (Ok block) within stands seen all = cell-keeps whose var block path (reading.load block var path) within stands refl seen all
    shared-keeps whose var path (Err fault) within stands seen all = all

    load-keeps : (root : Root) (path : List Sel) → root_within watched root ≡ true → Keeps Value (guard_load root path)
    load-keeps (own_root var) path within seen all = settled-keeps Value (with_ok (own var) (λ value. loaded_at value path)) seen all
    load-keeps (shared_root whose var) path within seen all = shared-keeps whose var path (guard_block me home whose) within refl seen all

    applied-keeps : (function : Function) (values : List Value) → Keeps Value (λ at. settle (applied at.reading.names function values))
    applied-keeps function values seen all = settled-keeps Value (applied reading.names function values) seen all

    pub truth-keeps : (condition : Option Expr) → maybe_names_only watched condition ≡ true → Keeps Bool (truth_of_guard condition)
    truth-keeps = conditions-good (leaf_within watched) (root_within watched) Keeps then-keeps settled-keeps leaf-keeps load-keeps applied-keeps

    pub key-keeps : (condition : Option Expr) (by : Expr) → maybe_names_only watched condition ≡ true → names_only watched by ≡ true → Keeps (Option ℤ) (key_in condition by)
    key-keeps = keys-good (leaf_within watched) (root_within watched) Keeps then-keeps settled-keeps leaf-keeps load-keeps applied-keeps
