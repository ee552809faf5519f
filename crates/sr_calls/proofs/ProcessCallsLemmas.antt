-- What one record of calls that changes means for the lists and the room of all.
use Rattle.std.proofs.Common.{◌≡◌, ◌≢◌, ℕ, ◌<◌, ◌≤◌, Bool, true, false, cond, List, [], ◌∷◌, Option, None, Some, unwrap_or, refl, ap, sym, ◌∙◌, subst, arith}
use Rattle.std.specs.Prelude.{map as each, nat_eq}
use Rattle.std.specs.Cmp.{nat_cmp_total}
use Rattle.std.specs.FinMap as map
use Rattle.std.specs.Map.{lookup}
use Rattle.std.specs.BTreeMap.{is_at}
use Rattle.std.specs.Option.{option_map}
use Rattle.std.specs.Ordering.{nat_cmp, is_eq}
use Rattle.sr_buckets.proofs.NumberLemmas.{apart, by_number, itself, same_test, turned}
use Rattle.sr_calls.specs.Calls.{ByProcess, Called, Room, CanHold, CanAnswer, KeepsHolds, KeepsAnswers, KeepsOtherHolds, KeepsOtherAnswers, items_of, room_of, with_items}
use Rattle.sr_calls.specs.PerProcess.{ProcessCalled, called_on, lists_on}

-- ---- one list for each process

abbrev pub listed : {A : Type 0} → List A → Option (List A)
listed [] = None
listed (x ∷ xs) = Some (x ∷ xs)

unwrap_or-listed : {A : Type 0} (xs : List A) → unwrap_or (listed xs) [] ≡ xs
unwrap_or-listed [] = refl
unwrap_or-listed (x ∷ xs) = refl

module _ {A : Type 0} where
  pub get-with_items : (all : ByProcess (List A)) (p : ℕ) (xs : List A) (q : ℕ) → map.get (with_items all p xs) q ≡ cond (is_eq (nat_cmp q p)) (listed xs) (map.get all q)
  get-with_items all p [] q = map.get-remove nat_cmp_total all p q
  get-with_items all p (x ∷ xs) q = map.get-insert nat_cmp_total all p (x ∷ xs) q

  pub items-with_items : (all : ByProcess (List A)) (p : ℕ) (xs : List A) → items_of (with_items all p xs) p ≡ xs
  items-with_items all p xs =
      ap (λ o. unwrap_or o []) (get-with_items all p xs p ∙ ap (λ b. cond b (listed xs) (map.get all p)) (itself p)) ∙ unwrap_or-listed xs

  pub items-with_items_other : (all : ByProcess (List A)) (p q : ℕ) (xs : List A) → q ≢ p → items_of (with_items all p xs) q ≡ items_of all q
  items-with_items_other all p q xs ne =
      ap (λ o. unwrap_or o []) (get-with_items all p xs q ∙ ap (λ b. cond b (listed xs) (map.get all q)) (turned q p ∙ apart p q ne))

-- ---- records of calls

abbrev pub no_room : Room
no_room = record { holds = 0; answers = 0 }

abbrev pub no_process_calls : ProcessCalled
no_process_calls = record { held = []; replies = []; room = no_room }

abbrev pub process_calls_of : List (ℕ × ProcessCalled) → ℕ → ProcessCalled
process_calls_of by_process p = unwrap_or (lookup (is_at (nat_cmp p)) by_process) no_process_calls

-- records of calls are found alike by either
pub same_look : {X : Type 0} (by_process : List (ℕ × X)) (p : ℕ) → lookup (nat_eq p) by_process ≡ lookup (is_at (nat_cmp p)) by_process
same_look [] p = refl
same_look (e ∷ es) p = ap (λ b. cond b (Some e.1) (lookup (nat_eq p) es)) (same_test p e.0) ∙ ap (cond (is_eq (nat_cmp p e.0)) (Some e.1)) (same_look es p)

-- the record of calls of a process is this one, and all others are as before
pub record Changes (old new : List (ℕ × ProcessCalled)) (p : ℕ) (process_calls : ProcessCalled) : Type 0 where
  pub here : process_calls_of new p ≡ process_calls
  pub others : (q : ℕ) → is_eq (nat_cmp p q) ≡ false → process_calls_of new q ≡ process_calls_of old q

pub changes : (old new : List (ℕ × ProcessCalled)) (p : ℕ) (w : Option ProcessCalled)
    → ((q : ℕ) → lookup (nat_eq q) new ≡ cond (nat_eq p q) w (lookup (nat_eq q) old)) → Changes old new p (unwrap_or w no_process_calls)
changes old new p w updates = record {
  here = ap (λ o. unwrap_or o no_process_calls) (sym (same_look new p) ∙ updates p ∙ ap (λ b. cond b w (lookup (nat_eq p) old)) (same_test p p ∙ itself p));
  others = λ q there. ap (λ o. unwrap_or o no_process_calls) (sym (same_look new q) ∙ updates q ∙ ap (λ b. cond b w (lookup (nat_eq q) old)) (same_test p q ∙ there) ∙ same_look old q);
}

module _ {A : Type 0} (list : ProcessCalled → List A) (empty : list no_process_calls ≡ []) where
  step : (b : Bool) (d : ProcessCalled) (o : Option ProcessCalled) → cond b (listed (list d)) (listed (list (unwrap_or o no_process_calls))) ≡ listed (list (unwrap_or (cond b (Some d) o) no_process_calls))
  step true d o = refl
  step false d o = refl

  pub get-lists_on : (by_process : List (ℕ × ProcessCalled)) (q : ℕ) → map.get (lists_on list by_process) q ≡ listed (list (process_calls_of by_process q))
  get-lists_on [] q = map.get-empty nat_cmp q ∙ ap listed (sym empty)
  get-lists_on (e ∷ es) q =
      get-with_items (lists_on list es) e.0 (list e.1) q
      ∙ ap (cond (is_eq (nat_cmp q e.0)) (listed (list e.1))) (get-lists_on es q)
      ∙ step (is_eq (nat_cmp q e.0)) e.1 (lookup (is_at (nat_cmp q)) es)

  pub items-lists_on : (by_process : List (ℕ × ProcessCalled)) (p : ℕ) → items_of (lists_on list by_process) p ≡ list (process_calls_of by_process p)
  items-lists_on by_process p = ap (λ o. unwrap_or o []) (get-lists_on by_process p) ∙ unwrap_or-listed (list (process_calls_of by_process p))

  -- the list of this record of calls is changed
  pub lists-changed : (old new : List (ℕ × ProcessCalled)) (p : ℕ) (process_calls : ProcessCalled) → Changes old new p process_calls → lists_on list new ≡ with_items (lists_on list old) p (list process_calls)
  lists-changed old new p process_calls change =
      map.same_map nat_cmp_total map.nat_cmp-IsAntisymmetric (lists_on list new) (with_items (lists_on list old) p (list process_calls))
      (λ q. get-lists_on new q ∙ at q
      ∙ ap (λ b. cond b (listed (list process_calls)) (listed (list (process_calls_of old q)))) (turned p q)
      ∙ ap (cond (is_eq (nat_cmp q p)) (listed (list process_calls))) (sym (get-lists_on old q))
      ∙ sym (get-with_items (lists_on list old) p (list process_calls) q))
    where
      at : (q : ℕ) → listed (list (process_calls_of new q)) ≡ cond (is_eq (nat_cmp p q)) (listed (list process_calls)) (listed (list (process_calls_of old q)))
      at q = by_number p q (λ b. listed (list (process_calls_of new q)) ≡ cond b (listed (list process_calls)) (listed (list (process_calls_of old q))))
          (λ e. ap (λ n. listed (list (process_calls_of new n))) (sym e) ∙ ap (λ d. listed (list d)) change.here)
          (λ there. ap (λ d. listed (list d)) (change.others q there))

  -- or it stays
  pub lists-kept : (old new : List (ℕ × ProcessCalled)) (p : ℕ) (process_calls : ProcessCalled) → Changes old new p process_calls → list process_calls ≡ list (process_calls_of old p) → lists_on list new ≡ lists_on list old
  lists-kept old new p process_calls change kept =
      map.same_map nat_cmp_total map.nat_cmp-IsAntisymmetric (lists_on list new) (lists_on list old) (λ q. get-lists_on new q ∙ at q ∙ sym (get-lists_on old q))
    where
      at : (q : ℕ) → listed (list (process_calls_of new q)) ≡ listed (list (process_calls_of old q))
      at q = by_number p q (λ b. listed (list (process_calls_of new q)) ≡ listed (list (process_calls_of old q)))
          (λ e. ap (λ n. listed (list (process_calls_of new n))) (sym e) ∙ ap listed (ap list change.here ∙ kept) ∙ ap (λ n. listed (list (process_calls_of old n))) e)
          (λ there. ap (λ d. listed (list d)) (change.others q there))

-- ---- room

find-rooms : (by_process : List (ℕ × ProcessCalled)) (q : ℕ) → map.find nat_cmp q (each (λ e. (e.0, e.1.room)) by_process) ≡ option_map (λ d. d.room) (lookup (is_at (nat_cmp q)) by_process)
find-rooms [] q = refl
find-rooms (e ∷ es) q =
    ap (cond (is_eq (nat_cmp q e.0)) (Some e.1.room)) (find-rooms es q) ∙ out (is_eq (nat_cmp q e.0)) e.1 (lookup (is_at (nat_cmp q)) es)
  where
    out : (b : Bool) (d : ProcessCalled) (o : Option ProcessCalled) → cond b (Some d.room) (option_map (λ x. x.room) o) ≡ option_map (λ x. x.room) (cond b (Some d) o)
    out true d o = refl
    out false d o = refl

room-unwrapped : (o : Option ProcessCalled) → unwrap_or (option_map (λ d. d.room) o) no_room ≡ (unwrap_or o no_process_calls).room
room-unwrapped None = refl
room-unwrapped (Some d) = refl

-- the room of a process is that of its record of calls
pub room-called_on : (by_process : List (ℕ × ProcessCalled)) (q : ℕ) → room_of (called_on by_process) q ≡ (process_calls_of by_process q).room
room-called_on by_process q =
    ap (λ o. unwrap_or o no_room) (map.get-from_entries nat_cmp_total (each (λ e. (e.0, e.1.room)) by_process) q ∙ find-rooms by_process q)
    ∙ room-unwrapped (lookup (is_at (nat_cmp q)) by_process)

module _ (part : Room → ℕ) (old new : List (ℕ × ProcessCalled)) (p : ℕ) (process_calls : ProcessCalled) (change : Changes old new p process_calls) where
  pub rooms-others : (q : ℕ) → q ≢ p → 0 < part (room_of (called_on old) q) → 0 < part (room_of (called_on new) q)
  rooms-others q ne has =
      let same : room_of (called_on new) q ≡ room_of (called_on old) q = room-called_on new q ∙ ap (λ d. d.room) (change.others q (apart p q ne)) ∙ sym (room-called_on old q) in
      subst (λ r. 0 < part r) (sym same) has

  pub rooms-kept : part (process_calls_of old p).room ≤ part process_calls.room → (q : ℕ) → 0 < part (room_of (called_on old) q) → 0 < part (room_of (called_on new) q)
  rooms-kept more q has =
      by_number p q (λ b. 0 < part (room_of (called_on new) q))
      (λ e. subst (λ n. 0 < part (room_of (called_on new) n)) e (at (subst (λ n. 0 < part (room_of (called_on old) n)) (sym e) has)))
      (λ there. subst (λ r. 0 < part r) (sym (room-called_on new q ∙ ap (λ d. d.room) (change.others q there) ∙ sym (room-called_on old q))) has)
    where
      at : 0 < part (room_of (called_on old) p) → 0 < part (room_of (called_on new) p)
      at before =
          let now : part (room_of (called_on new) p) ≡ part process_calls.room = ap part (room-called_on new p ∙ ap (λ d. d.room) change.here) in
          let was : part (room_of (called_on old) p) ≡ part (process_calls_of old p).room = ap part (room-called_on old p) in
          omega (arith, now, was, more, before)

  pub room-here : 0 < part process_calls.room → 0 < part (room_of (called_on new) p)
  room-here has = subst (λ r. 0 < part r) (sym (room-called_on new p ∙ ap (λ d. d.room) change.here)) has

-- ---- all of it, seen as the calls

module _ (old new : List (ℕ × ProcessCalled)) (calls : Called) (is : called_on old ≡ calls) (p : ℕ) where
  pub held-here : items_of calls.held p ≡ (process_calls_of old p).held
  held-here = ap (λ c. items_of c.held p) (sym is) ∙ items-lists_on (λ d. d.held) refl old p

  pub replies-here : items_of calls.replies p ≡ (process_calls_of old p).replies
  replies-here = ap (λ c. items_of c.replies p) (sym is) ∙ items-lists_on (λ d. d.replies) refl old p

  pub room-there : room_of calls p ≡ (process_calls_of old p).room
  room-there = ap (λ c. room_of c p) (sym is) ∙ room-called_on old p

  module _ (process_calls : ProcessCalled) (change : Changes old new p process_calls) where
    pub held-changed : (called_on new).held ≡ with_items calls.held p process_calls.held
    held-changed = lists-changed (λ d. d.held) refl old new p process_calls change ∙ ap (λ c. with_items c.held p process_calls.held) is

    pub replies-changed : (called_on new).replies ≡ with_items calls.replies p process_calls.replies
    replies-changed = lists-changed (λ d. d.replies) refl old new p process_calls change ∙ ap (λ c. with_items c.replies p process_calls.replies) is

    pub held-kept : process_calls.held ≡ (process_calls_of old p).held → (called_on new).held ≡ calls.held
    held-kept kept = lists-kept (λ d. d.held) refl old new p process_calls change kept ∙ ap (λ c. c.held) is

    pub replies-kept : process_calls.replies ≡ (process_calls_of old p).replies → (called_on new).replies ≡ calls.replies
    replies-kept kept = lists-kept (λ d. d.replies) refl old new p process_calls change kept ∙ ap (λ c. c.replies) is

    pub holds-kept : (process_calls_of old p).room.holds ≤ process_calls.room.holds → KeepsHolds calls (called_on new)
    holds-kept more = subst (λ c. KeepsHolds c (called_on new)) is (rooms-kept (λ r. r.holds) old new p process_calls change more)

    pub answers-kept : (process_calls_of old p).room.answers ≤ process_calls.room.answers → KeepsAnswers calls (called_on new)
    answers-kept more = subst (λ c. KeepsAnswers c (called_on new)) is (rooms-kept (λ r. r.answers) old new p process_calls change more)

    pub holds-others : KeepsOtherHolds calls (called_on new) p
    holds-others = subst (λ c. KeepsOtherHolds c (called_on new) p) is (rooms-others (λ r. r.holds) old new p process_calls change)

    pub answers-others : KeepsOtherAnswers calls (called_on new) p
    answers-others = subst (λ c. KeepsOtherAnswers c (called_on new) p) is (rooms-others (λ r. r.answers) old new p process_calls change)

    pub can-hold : 0 < process_calls.room.holds → CanHold (called_on new) p
    can-hold has = room-here (λ r. r.holds) old new p process_calls change has

    pub can-answer : 0 < process_calls.room.answers → CanAnswer (called_on new) p
    can-answer has = room-here (λ r. r.answers) old new p process_calls change has
