-- A whole run that is searched for races.
use Rattle.std.proofs.Common.{◌≡◌, ◌<◌, ◌≤◌, ◌+◌, ◌-◌, ◌⊎◌, inl, inr, ⊎_elim, ℕ, Bool, true, false, not, List, [], ◌∷◌, ◌++◌, get_or, length, map, take, refl, ap, sym, ◌∙◌, subst, arith, true≢false}
use Rattle.std.proofs.lemmas.Bool.{ltb-false, ltb-true}
use Rattle.std.proofs.lemmas.List.{take_more}
use Rattle.std.specs.Prelude.{◌||◌, Option, Some, None, is_some, nat_lt}
use Rattle.sr_ask.specs.Items.{actor_of}
use Rattle.sr_ask.specs.declared.answer.Answer.{Answer}
use Rattle.sr_ask.specs.declared.ask.Asks.{Asks}
use Rattle.sr_ask.specs.declared.item.Item.{Item}
use Rattle.sr_clock_rows.specs.Columns.{AreColumns, different}
use Rattle.sr_clock_rows.specs.Rows.{AreClocks}
use Rattle.sr_clock_rows.specs.declared.clocks.Clocks.{Clocks}
use Rattle.sr_clock_rows.specs.declared.columns.Columns.{Columns}
use Rattle.sr_core.specs.declared.component.Core.{Core}
use Rattle.sr_replay.specs.Replaying.{IsAt}
use Rattle.sr_replay.specs.declared.replayer.Replayer.{Replayer}
use Rattle.sr_world.specs.Runs.{Goes, begun, is_legal, run}
use Rattle.sr_races.specs.Items.{Run, actors, stands_after}
use Rattle.sr_races.specs.Kept.{HasRows}
use Rattle.sr_races.specs.Races.{HasColumns, IsRun, Races, is_too_long}
use Rattle.sr_races.specs.Searches.{HasFound, IsRead}
use Rattle.sr_races.specs.Walks.{AreEntries, IsWalked, WalksTo, WalksWithin}
use Rattle.sr_races.specs.declared.race.Raced.{Raced}
use Rattle.sr_races.specs.declared.race.Raced.TheVariants as raced
use Rattle.sr_races.specs.declared.walk.Entry.{Entry}
use Rattle.sr_races.specs.declared.walk.Walk.{Walk}
use Rattle.sr_races.proofs.FollowLemmas.{at-legal}

-- ---- how many items and processes

lt-is : (a b : ℕ) → a < b → nat_lt a b ≡ true
lt-is a b less = by (nat_lt a b) refl
  where
    by : (t : Bool) → nat_lt a b ≡ t → t ≡ true
    by true is = refl
    by false is = absurd (omega (arith, less, ltb-false a b is))

ge-is : (a b : ℕ) → b ≤ a → nat_lt a b ≡ false
ge-is a b most = by (nat_lt a b) refl
  where
    by : (t : Bool) → nat_lt a b ≡ t → t ≡ false
    by false is = refl
    by true is = absurd (omega (arith, most, ltb-true a b is))

or-right : (b c : Bool) → c ≡ true → (b || c) ≡ true
or-right true c is = refl
or-right false c is = is

pub many-items : (items : List Item) → 65536 < length items → is_too_long items ≡ true
many-items items more = ap (λ b. b || nat_lt 1024 (different (map actor_of items))) (lt-is 65536 (length items) more)

pub many-actors : (items : List Item) (columns : Columns) → AreColumns (map actor_of items) columns → 1024 < columns.width → is_too_long items ≡ true
many-actors items columns are more =
    or-right (nat_lt 65536 (length items)) (nat_lt 1024 (different (map actor_of items))) (lt-is 1024 (different (map actor_of items)) (let width = are.width in omega (arith, width, more)))

pub few : (items : List Item) (columns : Columns) → AreColumns (map actor_of items) columns → length items ≤ 65536 → columns.width ≤ 1024 → is_too_long items ≡ false
few items columns are most narrow =
    ap (λ b. b || nat_lt 1024 (different (map actor_of items))) (ge-is 65536 (length items) most)
    ∙ ge-is 1024 (different (map actor_of items)) (let width = are.width in omega (arith, width, narrow))

pub few-items : (items : List Item) → is_too_long items ≡ false → length items ≤ 65536
few-items items short = by (nat_lt 65536 (length items)) refl short
  where
    by : (b : Bool) → nat_lt 65536 (length items) ≡ b → (b || nat_lt 1024 (different (map actor_of items))) ≡ false → length items ≤ 65536
    by true is h = absurd (true≢false h)
    by false is h = ltb-false 65536 (length items) is

pub long-where : (items : List Item) (o : Option Columns) (none : Bool) → HasColumns items o → is_some o ≡ not none → none ≡ is_too_long items
long-where items None true has is = sym has
long-where items None false has is = absurd (true≢false (sym is))
long-where items (Some columns) true has is = absurd (true≢false is)
long-where items (Some columns) false has is = sym has.0

-- ---- owners

map-push : (items : List Item) (item : Item) → map actor_of (items ++ item ∷ []) ≡ map actor_of items ++ actor_of item ∷ []
map-push [] item = refl
map-push (one ∷ items) item = ap (λ owners. actor_of one ∷ owners) (map-push items item)

pub owners-more : (items : List Item) (k : ℕ) (d : Item) → k < length items → map actor_of (take (k + 1) items) ≡ map actor_of (take k items) ++ actor_of (get_or items k d) ∷ []
owners-more items k d within = ap (map actor_of) (take_more items k d within) ∙ map-push (take k items) (get_or items k d)

pub take-whole : (items : List Item) → take (length items) items ≡ items
take-whole [] = refl
take-whole (item ∷ items) = ap (λ xs. item ∷ xs) (take-whole items)

-- ---- the beginning

pub begins : {A : Type 0} (after : A → List Answer → Asks) (r : Run) (core : Core) (limit : ℕ) (input : List ℕ) (replayer : Replayer A) → r.core ≡ core → r.limit ≡ limit → r.input ≡ input
    → IsAt after core limit (Goes (begun input)) replayer → IsAt after r.core r.limit (stands_after r 0) replayer
begins after r core limit input replayer core-is limit-is input-is at =
    subst (λ (k : Core). IsAt after k r.limit (stands_after r 0) replayer) (sym core-is)
    (subst (λ n. IsAt after core n (stands_after r 0) replayer) (sym limit-is) (subst (λ xs. IsAt after core limit (Goes (begun xs)) replayer) (sym input-is) at))

pub no-rows : (r : Run) (clocks : Clocks) → AreClocks (actors r) 0 clocks → HasRows r 0 clocks
no-rows r clocks are = record {
  are = are;
  rows = record { above = λ i j p inside. absurd (omega (arith, inside)); reached = λ j p inside. absurd (omega (arith, inside)) };
}

pub no-entries : (r : Run) (clocks : Clocks) (entries : List Entry) → entries ≡ [] → AreEntries r clocks 0 entries
no-entries r clocks entries none = subst (λ xs. AreEntries r clocks 0 xs) (sym none) (record { number = refl; each = λ i entry got. absurd (cc) })

pub walks-within : {A : Type 0} (after : A → List Answer → Asks) (steps : ℕ) (r : Run) (place : ℕ) (walk : Walk A) (legal : Bool) → WalksTo after r (place + 1) legal walk → WalksWithin after steps r (place + 1) legal walk
walks-within after steps r place walk true walks = walks
walks-within after steps r place walk false walks = inr walks

-- ---- what the search comes to

module _ {A : Type 0} (after : A → List Answer → Asks) (steps : ℕ) (r : Run) (short : is_too_long r.items ≡ false) where
  -- an item isn't one, or is one more than a run may have
  pub illegal-at : (place : ℕ) (walk : Walk A) → place < length r.items → place ≤ steps → IsWalked after r place walk → (steps < place + 1) ⊎ (is_legal (stands_after r (place + 1)) ≡ false)
      → Races steps r (raced.Illegal (place + 1))
  illegal-at place walk within most walked here = (
    short,
    record {
      first = omega arith;
      within = omega arith;
      most = omega arith;
      before =
          let same : place + 1 - 1 ≡ place = omega arith in
          ap (λ n. is_legal (stands_after r n)) same ∙ at-legal after r.core r.limit (stands_after r place) walk.replayer walked.at;
      here = ⊎_elim (λ more. inl (omega (arith, more, most))) (λ none. inr none) here;
    },
  )

  -- all were made
  pub all-read : (walk : Walk A) (count : ℕ) → count ≡ length r.items → IsWalked after r count walk → IsRead r walk.clocks walk.entries
  all-read walk count all walked =
      let number : count ≡ length walk.entries = sym walked.entries.number in
      record {
        all = sym all ∙ number;
        rows = subst (λ n. HasRows r n walk.clocks) number walked.rows;
        each = subst (λ n. AreEntries r walk.clocks n walk.entries) number walked.entries;
      }

  is-run : (walk : Walk A) (count : ℕ) → count ≡ length r.items → count ≤ steps → IsWalked after r count walk → IsRun steps r
  is-run walk count all most walked = (
    omega (arith, all, most),
    ap (λ items. is_legal (run r.core r.limit r.input items)) (sym (ap (λ n. take n r.items) all ∙ take-whole r.items)) ∙ at-legal after r.core r.limit (stands_after r count) walk.replayer walked.at,
  )

  pub found-so : (walk : Walk A) (count : ℕ) → count ≡ length r.items → count ≤ steps → IsWalked after r count walk → (result : Raced) → HasFound r result → Races steps r result
  found-so walk count all most walked (raced.Found races) found = (short, is-run walk count all most walked, found.0, found.1)
  found-so walk count all most walked raced.TooMany found = (short, is-run walk count all most walked, found)
  found-so walk count all most walked raced.TooLong found = absurd found
  found-so walk count all most walked (raced.Illegal place) found = absurd found
