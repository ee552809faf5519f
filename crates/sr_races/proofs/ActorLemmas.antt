-- Which items access something, and what tells whether two of them are a race.
use Rattle.std.proofs.Common.{◌≡◌, ◌≢◌, ◌==◌, ◌<◌, ◌+◌, ℕ, zero, suc, true, false, List, [], Option, Some, None, is_some, take, refl, ap, sym, ◌∙◌, subst, arith, add-one, eq-eqb, true≢false}
use Rattle.std.specs.Prelude.{Contains, slice_get}
use Rattle.sr_ask.specs.Items.{actor_of}
use Rattle.sr_ask.specs.declared.ask.Ask.{Ask}
use Rattle.sr_ask.specs.declared.item.Item.{Item}
use Rattle.sr_ask.specs.declared.item.Item.TheVariants.{Step, Quiesce, Tick}
use Rattle.sr_ask.specs.declared.start.Start.{Start}
use Rattle.sr_clocks.proofs.ClockLemmas.{row_most, row_own}
use Rattle.sr_clocks.specs.Clocks.{made}
use Rattle.sr_clock_rows.specs.Columns.{column_in}
use Rattle.sr_clock_rows.specs.Rows.{count_at, count_in, count_of}
use Rattle.sr_clock_rows.specs.declared.clocks.Clocks.{Clocks}
use Rattle.sr_core.specs.declared.component.Core.{Core}
use Rattle.sr_replay.specs.Naming.{asked_from, asked_in}
use Rattle.sr_world.specs.Runs.{Goes, Illegal, Next, Over, State}
use Rattle.sr_world.specs.Sound.{IsSound, is_call}
use Rattle.sr_world.specs.Worlds.{started}
use Rattle.sr_world.proofs.KeepLemmas.{live-not-zero}
use Rattle.sr_world.proofs.RunLemmas.{kept-of}
use Rattle.sr_races.specs.Accesses.{SomeConflict, accesses_at, accesses_in}
use Rattle.sr_races.specs.Items.{Run, actor_at, actors, asked_at, asked_by, stands_after}
use Rattle.sr_races.specs.Kept.{HasRows, IsKept}
use Rattle.sr_races.specs.Races.{IsRace}
use Rattle.sr_races.specs.declared.access.Access.{Access}
use Rattle.sr_races.proofs.KeptLemmas.{kept_in_line}
use Rattle.sr_races.proofs.RaceLemmas.{race_by_rows, rows_of_race}
use Rattle.sr_races.proofs.StandLemmas.{got-map, sound-at}

-- ---- who asks

asking-lives : (core : Core) (limit : ℕ) (state : State) (o : Option Start) (ask : Ask) → asked_from core limit state o ≡ Some ask → is_some o ≡ true
asking-lives core limit state None ask is = absurd (cc)
asking-lives core limit state (Some start) ask is = refl

-- a process that asks has a number
pub asking-some : (items : List Item) (state : State) → IsSound items state → (core : Core) (limit p : ℕ) (ask : Ask) → asked_in core limit state p ≡ Some ask → 0 < p
asking-some items state sound core limit p ask is =
    by p (live-not-zero (is_call items) state.given state.world p (kept-of items state sound) (asking-lives core limit state (started state.world p) ask is))
  where
    by : (n : ℕ) → (n == 0) ≡ false → 0 < n
    by zero is = absurd (true≢false (sym (eq-eqb 0 0 refl) ∙ is))
    by (suc n) is = omega arith

module _ (r : Run) where
  -- an item that accesses something is of a process
  pub acting : (i : ℕ) (access : Access) → Contains (accesses_at r i) access → 0 < actor_at r i
  acting i access among = by (stands_after r i) refl (slice_get r.items i) refl (asked_at r i) refl among
    where
      nothing : {A : Type 0} (x : A) → Contains [] x → ⊥
      nothing x (k, less, is) = omega arith

      by : (now : Next) → stands_after r i ≡ now → (item : Option Item) → slice_get r.items i ≡ item → (ask : Option Ask) → asked_at r i ≡ ask
          → Contains (accesses_in r.core (stands_after r i) (actor_at r i) (asked_at r i)) access → 0 < actor_at r i
      by now at item is None asked found =
          absurd (none now (subst (λ n. Contains (accesses_in r.core n (actor_at r i) None) access) at (subst (λ o. Contains (accesses_in r.core (stands_after r i) (actor_at r i) o) access) asked found)))
        where
          none : (n : Next) → Contains (accesses_in r.core n (actor_at r i) None) access → ⊥
          none (Goes state) h = nothing access h
          none (Over ending state) h = nothing access h
          none Illegal h = nothing access h
      by (Goes state) at (Some (Step p name)) is (Some ask) asked found =
          let asks : asked_in r.core r.limit state p ≡ Some ask = sym (ap (λ n. asked_by r.core r.limit n (slice_get r.items i)) at ∙ ap (asked_by r.core r.limit (Goes state)) is) ∙ asked in
          subst (λ n. 0 < n) (sym (got-map actor_of r.items i (Step p name) is)) (asking-some (take i r.items) state (sound-at r i state at) r.core r.limit p ask asks)
      by (Goes state) at (Some (Quiesce name)) is (Some ask) asked found =
          absurd (let no : None ≡ Some ask = sym (ap (λ n. asked_by r.core r.limit n (slice_get r.items i)) at ∙ ap (asked_by r.core r.limit (Goes state)) is) ∙ asked in cc)
      by (Goes state) at (Some (Tick to)) is (Some ask) asked found =
          absurd (let no : None ≡ Some ask = sym (ap (λ n. asked_by r.core r.limit n (slice_get r.items i)) at ∙ ap (asked_by r.core r.limit (Goes state)) is) ∙ asked in cc)
      by (Goes state) at None is (Some ask) asked found =
          absurd (let no : None ≡ Some ask = sym (ap (λ n. asked_by r.core r.limit n (slice_get r.items i)) at ∙ ap (asked_by r.core r.limit (Goes state)) is) ∙ asked in cc)
      by (Over ending state) at item is (Some ask) asked found =
          absurd (let no : None ≡ Some ask = sym (ap (λ n. asked_by r.core r.limit n (slice_get r.items i)) at) ∙ asked in cc)
      by Illegal at item is (Some ask) asked found =
          absurd (let no : None ≡ Some ask = sym (ap (λ n. asked_by r.core r.limit n (slice_get r.items i)) at) ∙ asked in cc)

  -- ---- rows that tell a race

  module _ (count : ℕ) (clocks : Clocks) (has : HasRows r count clocks) where
    -- an item's own row has its place among the items of its process
    pub own-place : (i : ℕ) → 0 < actor_at r i → i < count → count_of clocks i (actor_at r i) ≡ made (actors r) (actor_at r i) (i + 1)
    own-place i some within =
        let least = row_own (IsKept r) (actors r) (kept_in_line r) count (count_of clocks) has.rows (actor_at r i) (suc i) i some (omega arith) (omega arith) refl in
        let most = row_most (IsKept r) (actors r) (kept_in_line r) count (count_of clocks) has.rows (actor_at r i) (suc i) i some (omega arith) (omega arith) in
        let same : made (actors r) (actor_at r i) (i + 1) ≡ made (actors r) (actor_at r i) (suc i) = ap (made (actors r) (actor_at r i)) (add-one i) in
        omega (arith, least, most, same)

    module _ (i j column : ℕ) (some : 0 < actor_at r i) (less : i < j) (within : j < count) (is : column_in clocks.columns (actor_at r i) ≡ Some column) where
      at-column : (k : ℕ) → count_of clocks k (actor_at r i) ≡ count_at clocks.rows k column
      at-column k = ap (count_in clocks.rows k) is

      -- two items are a race where the later one's row has less than the earlier one's own
      pub race-told : actor_at r i ≢ actor_at r j → SomeConflict (accesses_at r i) (accesses_at r j) → count_at clocks.rows j column < count_at clocks.rows i column → IsRace r i j
      race-told differ conflicts fewer =
          race_by_rows r count (count_of clocks) has.rows i j some less within differ conflicts (omega (arith, at-column i, at-column j, own-place i some (omega arith), fewer))

      pub race-tells : IsRace r i j → count_at clocks.rows j column < count_at clocks.rows i column
      race-tells race = omega (arith, at-column i, at-column j, own-place i some (omega arith), rows_of_race r count (count_of clocks) has.rows i j some within race)
