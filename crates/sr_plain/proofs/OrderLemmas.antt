-- Where the numbers are given out in their order, who was made after one has a greater number.
use Rattle.std.proofs.Common.{◌≡◌, ◌⊎◌, inl, inr, ◌<◌, ◌≤◌, ◌+◌, ◌==◌, ◌||◌, ℕ, zero, suc, Bool, true, false, not, cond, List, [], ◌∷◌, ◌++◌, length, None, Some, refl, ap, sym, ◌∙◌, subst, arith, eq-eqb, eqb-true, true≢false, append-nil}
use Rattle.std.proofs.Math.Bool.{or-true}
use Rattle.std.proofs.lemmas.Bool.{cases_lt, ltb-false, or_parts}
use Rattle.std.proofs.lemmas.List.Elements.{All-contains}
use Rattle.std.specs.Prelude.{count_by, nat_lt, position, slice_get, unwrap_or}
use Rattle.std.specs.List.{Contains, list_any, position_or_len, slice_index_or}
use Rattle.sr_ask.specs.declared.start.Start.{Start}
use Rattle.sr_processes.specs.Living.{is_among}
use Rattle.sr_queue.specs.declared.pending.Pending.{Pending}
use Rattle.sr_world.specs.Names.{made_after, names_after}
use Rattle.sr_world.specs.Worlds.{World}
use Rattle.sr_core.specs.declared.component.Core.{Core}
use Rattle.sr_ask.specs.declared.item.Item.{Item}
use Rattle.sr_world.specs.Runs.{Event, Makes_item, Goes, State, items_in, led}
use Rattle.sr_world.specs.Sound.{IsSound, given_out, names_in}
use Rattle.sr_world.specs.Spots.{ServiceOf, Waiting}
use Rattle.sr_plain.proofs.LedLemmas.{any-contains, sound, used-grown}
use Rattle.sr_world.proofs.CountLemmas.{count-cons, count-push, one}
use Rattle.sr_plain.specs.Leaving.{Adds, Arrives, Leaves}
use Rattle.sr_plain.specs.Order.{AreInLine, Ascend, IsNext, IsNumbered, IsOrdered, IsSplit, Rise}

-- ---- numbers that were given out in their order

-- one that was given out stands in the list
pub contains-any : (names : List ℕ) (q : ℕ) → Contains names q → list_any (λ n. n == q) names ≡ true
contains-any names q found = by (list_any (λ n. n == q) names) refl
  where
    none-contains : (ns : List ℕ) → list_any (λ n. n == q) ns ≡ false → (k : ℕ) → k < length ns → slice_index_or ns k q ≡ q → ⊥
    none-contains [] none k inside at = absurd (omega arith)
    none-contains (n ∷ ns) none zero inside at = true≢false (sym (ap (λ b. b || list_any (λ m. m == q) ns) (eq-eqb n q at)) ∙ none)
    none-contains (n ∷ ns) none (suc k) inside at = none-contains ns (or_parts (n == q) (list_any (λ m. m == q) ns) none).1 k (omega arith) at

    by : (b : Bool) → list_any (λ n. n == q) names ≡ b → b ≡ true
    by true is = refl
    by false is = absurd (none-contains names is found.0 found.1 found.2)

-- so does one that was given out once or more
pub counts-any : (names : List ℕ) (q : ℕ) → 1 ≤ count_by (λ n. n == q) names → list_any (λ n. n == q) names ≡ true
counts-any [] q some = absurd (omega arith)
counts-any (n ∷ ns) q some = by (n == q) refl (counts-any ns q)
  where
    by : (b : Bool) → (n == q) ≡ b → (1 ≤ count_by (λ m. m == q) ns → list_any (λ m. m == q) ns ≡ true) → (b || list_any (λ m. m == q) ns) ≡ true
    by true is more = refl
    by false is more = let counts = ap one is in more (omega (arith, count-cons (λ m. m == q) n ns, counts, some))

rise-below : (low : ℕ) (names : List ℕ) (next : ℕ) → Rise low names next → low < next
rise-below low [] next is = omega (arith, is)
rise-below low (n ∷ ns) next is = let more = rise-below n ns next is.1 in let first = is.0 in omega arith

-- one that stands in the list is in between
rise-between : (low : ℕ) (names : List ℕ) (next q : ℕ) → Rise low names next → list_any (λ n. n == q) names ≡ true → (low < q) × (q < next)
rise-between low [] next q is found = absurd (true≢false (sym found))
rise-between low (n ∷ ns) next q is found = by (n == q) refl found (rise-between n ns next q is.1)
  where
    by : (b : Bool) → (n == q) ≡ b → (b || list_any (λ m. m == q) ns) ≡ true → (list_any (λ m. m == q) ns ≡ true → (n < q) × (q < next)) → (low < q) × (q < next)
    by true here h more =
        let same : n ≡ q = eqb-true n q here in
        let first = is.0 in
        let below = rise-below n ns next is.1 in
        (omega arith, omega arith)
    by false off h more =
        let rest = more h in
        let first = is.0 in
        let above = rest.0 in
        (omega arith, rest.1)

-- the one before the next stands in the list, unless the list is empty
rise-last : (low : ℕ) (names : List ℕ) (next : ℕ) → Rise low names next → (m : ℕ) × (next ≡ suc m) × ((m ≡ low) ⊎ (list_any (λ n. n == m) names ≡ true))
rise-last low [] next is = (low, is, inl refl)
rise-last low (n ∷ ns) next is = by (rise-last n ns next is.1)
  where
    here : (m : ℕ) → (m ≡ n) ⊎ (list_any (λ k. k == m) ns ≡ true) → ((n == m) || list_any (λ k. k == m) ns) ≡ true
    here m (inl same) = ap (λ b. b || list_any (λ k. k == m) ns) (eq-eqb n m (sym same))
    here m (inr found) = ap (λ b. (n == m) || b) found ∙ or-true (n == m)

    by : ((m : ℕ) × (next ≡ suc m) × ((m ≡ n) ⊎ (list_any (λ k. k == m) ns ≡ true))) → (m : ℕ) × (next ≡ suc m) × ((m ≡ low) ⊎ (list_any (λ k. k == m) (n ∷ ns) ≡ true))
    by last = (last.0, last.1, inr (here last.0 last.2))

-- the number that is given out next
pub next-is : (names : List ℕ) (next name : ℕ) → Rise 0 names next → IsNext names name → name ≡ next
next-is names next name rise is =
    let last = rise-last 0 names next rise in
    let after : next ≡ suc last.0 = last.1 in
    let low : last.0 ≤ is.greatest = least last.0 last.2 in
    let high : is.greatest ≤ last.0 = most last.0 after (cases_lt 0 is.greatest) in
    omega (arith, after, low, high, is.one_more)
  where
    least : (m : ℕ) → (m ≡ 0) ⊎ (list_any (λ n. n == m) names ≡ true) → m ≤ is.greatest
    least m (inl none) = omega (arith, none)
    least m (inr found) = All-contains (λ n. n ≤ is.greatest) names m is.is_greatest.bound (any-contains names m found)

    most : (m : ℕ) → next ≡ suc m → (0 < is.greatest) ⊎ (is.greatest ≤ 0) → is.greatest ≤ m
    most m after (inl some) =
        let under = rise-between 0 names next is.greatest rise (contains-any names is.greatest (is.is_greatest.found some)) in
        let below = under.1 in
        omega (arith, after)
    most m after (inr none) = omega (arith, none)

-- what was given out after one is what is greater
greater-among : (low : ℕ) (names : List ℕ) (next p q : ℕ) → Rise low names next → list_any (λ n. n == p) names ≡ true → list_any (λ n. n == q) names ≡ true → p < q
    → list_any (λ n. n == q) (names_after names p) ≡ true
greater-among low [] next p q is has-p has-q apart = absurd (true≢false (sym has-p))
greater-among low (n ∷ ns) next p q is has-p has-q apart = by (n == p) refl (n == q) refl has-p has-q (greater-among n ns next p q is.1)
  where
    by : (b : Bool) → (n == p) ≡ b → (d : Bool) → (n == q) ≡ d → (b || list_any (λ m. m == p) ns) ≡ true → (d || list_any (λ m. m == q) ns) ≡ true
        → (list_any (λ m. m == p) ns ≡ true → list_any (λ m. m == q) ns ≡ true → p < q → list_any (λ m. m == q) (names_after ns p) ≡ true)
        → list_any (λ m. m == q) (cond b ns (names_after ns p)) ≡ true
    by true here true there hp hq more =
        let same : n ≡ p = eqb-true n p here in
        let equal : n ≡ q = eqb-true n q there in
        absurd (omega arith)
    by true here false there hp hq more = hq
    by false here true there hp hq more =
        let equal : n ≡ q = eqb-true n q there in
        let bounds = rise-between n ns next p is.1 hp in
        let above = bounds.0 in
        absurd (omega arith)
    by false here false there hp hq more = more hp hq apart

less-among : (low : ℕ) (names : List ℕ) (next p q : ℕ) → Rise low names next → q ≤ p → list_any (λ n. n == q) (names_after names p) ≡ false
less-among low [] next p q is under = refl
less-among low (n ∷ ns) next p q is under = by (n == p) refl (less-among n ns next p q is.1 under)
  where
    none : n ≡ p → (b : Bool) → list_any (λ m. m == q) ns ≡ b → b ≡ false
    none same true found =
        let bounds = rise-between n ns next q is.1 found in
        let above = bounds.0 in
        absurd (omega (arith, same))
    none same false found = refl

    by : (b : Bool) → (n == p) ≡ b → list_any (λ m. m == q) (names_after ns p) ≡ false → list_any (λ m. m == q) (cond b ns (names_after ns p)) ≡ false
    by true here more = none (eqb-true n p here) (list_any (λ m. m == q) ns) refl
    by false off more = more

-- ---- the first that was made after one

module _ (p : Start → Bool) where
  first-at : (xs : List Start) (at : ℕ) → at ≤ length xs → ((k : ℕ) (s : Start) → slice_get xs k ≡ Some s → k < at → p s ≡ false) → ((k : ℕ) (s : Start) → slice_get xs k ≡ Some s → at ≤ k → p s ≡ true)
      → position_or_len p xs ≡ at
  first-at [] at fits before after = omega arith
  first-at (x ∷ xs) zero fits before after = ap (λ b. cond (not b) (1 + position_or_len p xs) 0) (after 0 x refl (omega arith))
  first-at (x ∷ xs) (suc at) fits before after =
      let more : position_or_len p xs ≡ at = first-at xs at (omega arith) (λ k s is under. before (suc k) s is (omega arith)) (λ k s is over. after (suc k) s is (omega arith)) in
      let head : p x ≡ false = before 0 x refl (omega arith) in
      let step : position_or_len p (x ∷ xs) ≡ 1 + position_or_len p xs = ap (λ b. cond (not b) (1 + position_or_len p xs) 0) head in
      omega arith

  place-or-all : (xs : List Start) (at : ℕ) → at ≤ length xs → position_or_len p xs ≡ at → unwrap_or (position p xs) (length xs) ≡ at
  place-or-all xs at fits is = by (nat_lt (position_or_len p xs) (length xs)) refl
    where
      by : (b : Bool) → nat_lt (position_or_len p xs) (length xs) ≡ b → unwrap_or (cond b (Some (position_or_len p xs)) None) (length xs) ≡ at
      by true within = is
      by false outside = let far : length xs ≤ position_or_len p xs = ltb-false _ _ outside in omega arith

pub never_outside : {X : Type 0} (xs : List X) (at : ℕ) → at < length xs → None ≡ slice_get xs at → ⊥
never_outside [] at inside none = absurd (omega arith)
never_outside (x ∷ xs) zero inside none = absurd (cc)
never_outside (x ∷ xs) (suc at) inside none = never_outside xs at (omega arith) none

-- where both places are one, it is that of the first that was made after the last actor
pub split-place : (world : World) (last next at : ℕ) → IsOrdered world next → 0 < last → list_any (λ u. u == last) world.used ≡ true
    → ((k : ℕ) (s : Start) → slice_get world.live k ≡ Some s → list_any (λ u. u == s.process) world.used ≡ true)
    → at ≤ length world.live → IsSplit last world.live at at → at ≡ made_after world last
split-place world zero next at ordered positive known lives fits split = absurd (omega arith)
split-place world (suc n) next at ordered positive known lives fits split =
    sym (place-or-all (is_among (names_after world.used (suc n))) world.live at fits (first-at (is_among (names_after world.used (suc n))) world.live at fits before after))
  where
    before : (k : ℕ) (s : Start) → slice_get world.live k ≡ Some s → k < at → is_among (names_after world.used (suc n)) s ≡ false
    before k s there under = less-among 0 world.used next (suc n) s.process ordered.rise (split.before k s there under)

    after : (k : ℕ) (s : Start) → slice_get world.live k ≡ Some s → at ≤ k → is_among (names_after world.used (suc n)) s ≡ true
    after k s there over = greater-among 0 world.used next (suc n) s.process ordered.rise known (lives k s there) (split.after k s there over)

-- ---- one step more

rise-more : (low : ℕ) (names : List ℕ) (next : ℕ) → Rise low names next → Rise low (names ++ next ∷ []) (suc next)
rise-more low [] next is = (omega (arith, is), refl)
rise-more low (n ∷ ns) next is = (is.0, rise-more n ns next is.1)

line-more : (low : ℕ) (ps : List Pending) (high : ℕ) (p : Pending) → AreInLine low ps high → p.id ≡ high → AreInLine low (ps ++ p ∷ []) (suc high)
line-more low [] high p is same = (omega (arith, same, is), omega (arith, same))
line-more low (x ∷ xs) high p is same = (is.0, line-more x.id xs high p is.1 same)

higher-line : (low : ℕ) (ps : List Pending) (high over : ℕ) → high ≤ over → AreInLine low ps high → AreInLine low ps over
higher-line low [] high over less is = omega arith
higher-line low (x ∷ xs) high over less is = (is.0, higher-line x.id xs high over less is.1)

ascend-more : (low : ℕ) (live : List Start) (high : ℕ) (start : Start) → Ascend low live high → start.process ≡ high → Ascend low (live ++ start ∷ []) (suc high)
ascend-more low [] high start is same = (omega (arith, same, is), omega (arith, same))
ascend-more low (x ∷ xs) high start is same = (is.0, ascend-more x.process xs high start is.1 same)

pub higher-ascend : (low : ℕ) (live : List Start) (high over : ℕ) → high ≤ over → Ascend low live high → Ascend low live over
higher-ascend low [] high over less is = omega arith
higher-ascend low (x ∷ xs) high over less is = (is.0, higher-ascend x.process xs high over less is.1)

-- after a step the order is as before, and what it made is the last
ordered-step : (old new : World) (next name : ℕ) → IsOrdered old next → (new.used ≡ old.used ++ name ∷ []) → name ≡ next → (stay : List Start) → Ascend 0 stay next → (new.live ≡ stay) ⊎ Adds name stay new.live
    → (wait : List Pending) → AreInLine 0 wait next → (new.pending ≡ wait) ⊎ Arrives name wait new.pending → IsOrdered new (suc next)
ordered-step old new next name ordered used is stay ascend live wait in_line pending = record {
  rise = subst (λ names. Rise 0 names (suc next)) (sym used) (subst (λ n. Rise 0 (old.used ++ n ∷ []) (suc next)) (sym is) (rise-more 0 old.used next ordered.rise));
  ascend = by live;
  in_line = by-line pending;
}
  where
    by : (new.live ≡ stay) ⊎ Adds name stay new.live → Ascend 0 new.live (suc next)
    by (inl same) = subst (λ xs. Ascend 0 xs (suc next)) (sym same) (higher-ascend 0 stay next (suc next) (omega arith) ascend)
    by (inr adds) = subst (λ xs. Ascend 0 xs (suc next)) (sym adds.added) (ascend-more 0 stay next adds.start ascend (adds.named ∙ is))

    by-line : (new.pending ≡ wait) ⊎ Arrives name wait new.pending → AreInLine 0 new.pending (suc next)
    by-line (inl same) = subst (λ ps. AreInLine 0 ps (suc next)) (sym same) (higher-line 0 wait next (suc next) (omega arith) in_line)
    by-line (inr arrives) = subst (λ ps. AreInLine 0 ps (suc next)) (sym arrives.added) (line-more 0 wait next arrives.invocation in_line (arrives.named ∙ is))

-- the last isn't there where none is
never-last : {A : Type 0} (test : A → Bool) (xs all : List A) (x : A) → count_by test all ≡ 0 → all ≡ xs ++ x ∷ [] → test x ≡ true → ⊥
never-last test xs all x none is passes = let counts = ap one passes in absurd (omega (arith, count-push test xs x, counts, sym (ap (count_by test) is) ∙ none))

-- a step without a number makes nothing
ordered-same : (old new : World) (next : ℕ) → IsOrdered old next → new.used ≡ old.used → count_by (λ (s : Start). s.process == 0) new.live ≡ 0 → count_by (λ (p : Pending). p.id == 0) new.pending ≡ 0
    → (stay : List Start) → Ascend 0 stay next → (new.live ≡ stay) ⊎ Adds 0 stay new.live → (wait : List Pending) → AreInLine 0 wait next → (new.pending ≡ wait) ⊎ Arrives 0 wait new.pending → IsOrdered new next
ordered-same old new next ordered used none none-waits stay ascend live wait in_line pending = record {
  rise = subst (λ names. Rise 0 names next) (sym used) ordered.rise;
  ascend = by live;
  in_line = by-line pending;
}
  where
    by : (new.live ≡ stay) ⊎ Adds 0 stay new.live → Ascend 0 new.live next
    by (inl same) = subst (λ xs. Ascend 0 xs next) (sym same) ascend
    by (inr adds) = absurd (never-last (λ (s : Start). s.process == 0) stay new.live adds.start none adds.added (eq-eqb adds.start.process 0 adds.named))

    by-line : (new.pending ≡ wait) ⊎ Arrives 0 wait new.pending → AreInLine 0 new.pending next
    by-line (inl same) = subst (λ ps. AreInLine 0 ps next) (sym same) in_line
    by-line (inr arrives) = absurd (never-last (λ (p : Pending). p.id == 0) wait new.pending arrives.invocation none-waits arrives.added (eq-eqb arrives.invocation.id 0 arrives.named))

-- ---- one item more

module _ (core : Core) (limit : ℕ) (events : List Event) (state later : State) (item : Item) (leads : led core limit events ≡ Goes state) (leads_later : led core limit (events ++ Makes_item item ∷ []) ≡ Goes later)
    (next : ℕ) (ordered : IsOrdered state.world next) where
  sound' : IsSound (items_in (events ++ Makes_item item ∷ [])) later
  sound' = sound core limit (events ++ Makes_item item ∷ []) later leads_later

  pub ordered-after : (name : ℕ) (text : List ℕ) → names_in (item ∷ []) ≡ given_out name ++ [] → IsNumbered state.world name → Leaves name text state.world later.world → (n : ℕ) × IsOrdered later.world n
  ordered-after zero text made named left = (
    next,
    ordered-same state.world later.world next ordered
        (used-grown core limit events state leads (Makes_item item) later leads_later ∙ ap (λ names. state.world.used ++ names) made ∙ append-nil state.world.used)
        (omega (arith, sound'.numbers.processes 0, sound'.numbers.zero_never))
        (omega (arith, sound'.duties.numbers (ServiceOf 0) Waiting, sound'.numbers.zero_never))
        left.stay (left.ascend 0 next ordered.ascend) left.live left.wait (left.in_line 0 next ordered.in_line) left.pending,
  )
  ordered-after (suc n) text made named left = (
    suc next,
    ordered-step state.world later.world next (suc n) ordered (used-grown core limit events state leads (Makes_item item) later leads_later ∙ ap (λ names. state.world.used ++ names) made)
        (next-is state.world.used next (suc n) ordered.rise named) left.stay (left.ascend 0 next ordered.ascend) left.live left.wait (left.in_line 0 next ordered.in_line) left.pending,
  )
