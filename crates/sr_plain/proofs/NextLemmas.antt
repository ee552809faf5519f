-- Whose turn it is, among those that are ready.
use Rattle.std.proofs.Common.{◌≡◌, ◌<◌, ◌≤◌, ◌==◌, ℕ, inl, inr, zero, suc, ◌||◌, Bool, true, false, not, cond, List, [], ◌∷◌, ◌++◌, take, drop, length, Option, None, Some, is_some, refl, ap, sym, ◌∙◌, subst, arith, eqb-true, true≢false}
use Rattle.std.proofs.lemmas.Bool.{ltb-false, ltb-true, or_parts as both-off}
use Rattle.std.specs.List.{list_any}
use Rattle.std.specs.Prelude.{filter, find, nat_lt, option_map, slice_get, unwrap_or}
use Rattle.sr_ask.specs.declared.ask.Ask.{Ask}
use Rattle.sr_ask.specs.declared.ask.Asks.TheVariants.{Asked}
use Rattle.sr_ask.specs.declared.start.Start.{Start}
use Rattle.sr_core.specs.declared.component.Core.{Core}
use Rattle.sr_core.specs.declared.owner.Me.{Me}
use Rattle.sr_processes.specs.Living.{is_process}
use Rattle.sr_queue.specs.Classes.{class_of}
use Rattle.sr_queue.specs.Queues.{is_of}
use Rattle.sr_select.specs.Choices.{owner_in}
use Rattle.sr_value.specs.declared.capability.Owner.{Owner}
use Rattle.sr_world.specs.Does.{IsNot, comes_to, is_possible}
use Rattle.sr_world.specs.Names.{made_after}
use Rattle.sr_world.specs.Runs.{Event, Goes, State, asks_next, is_blocked, led, no_step}
use Rattle.sr_world.specs.Selecting.{me_of}
use Rattle.sr_world.specs.Steps.{does, done_by}
use Rattle.sr_world.specs.Worlds.{World, started}
use Rattle.sr_plain.specs.Order.{Ascend, IsOrdered, IsSplit}
use Rattle.sr_plain.specs.Ready.{AreAside, IsIdle, me_at}
use Rattle.sr_plain.specs.Turns.{takes_turn, walk}
use Rattle.sr_plain.specs.Waiting.{IsNextAfter, is_closed, is_open, is_open_at, is_ready, may_go}
use Rattle.sr_plain.specs.declared.waiters.Waiters.{Waiters}
use Rattle.sr_plain.proofs.IdleLemmas.{idle_cannot, open-at}
use Rattle.sr_plain.proofs.LeaveLemmas.{within-ascend}
use Rattle.sr_plain.proofs.LedLemmas.{lives-used, place-started}
use Rattle.sr_plain.proofs.OrderLemmas.{counts-any, split-place}
use Rattle.sr_plain.proofs.WalkLemmas.{all_blocked, found_first, found_second}

-- ---- each of a list

abbrev Each : (Start → Type 0) → List Start → Type 0
Each P [] = Unit {0}
Each P (x ∷ xs) = P x × Each P xs

each-place : (P : Start → Type 0) (xs : List Start) → ((k : ℕ) (s : Start) → slice_get xs k ≡ Some s → P s) → Each P xs
each-place P [] h = tt
each-place P (x ∷ xs) h = (h 0 x refl, each-place P xs (λ k s is. h (suc k) s is))

each-map : (P Q : Start → Type 0) (xs : List Start) → ((s : Start) → P s → Q s) → Each P xs → Each Q xs
each-map P Q [] h each = tt
each-map P Q (x ∷ xs) h each = (h x each.0, each-map P Q xs h each.1)

each-both : (P Q : Start → Type 0) (xs : List Start) → Each P xs → Each Q xs → Each (λ s. P s × Q s) xs
each-both P Q [] p q = tt
each-both P Q (x ∷ xs) p q = ((p.0, q.0), each-both P Q xs p.1 q.1)

each-drop : (P : Start → Type 0) (k : ℕ) (xs : List Start) → Each P xs → Each P (drop k xs)
each-drop P zero [] each = tt
each-drop P (suc k) [] each = tt
each-drop P zero (x ∷ xs) each = each
each-drop P (suc k) (x ∷ xs) each = each-drop P k xs each.1

each-take : (P : Start → Type 0) (k : ℕ) (xs : List Start) → Each P xs → Each P (take k xs)
each-take P zero [] each = tt
each-take P (suc k) [] each = tt
each-take P zero (x ∷ xs) each = tt
each-take P (suc k) (x ∷ xs) each = (each.0, each-take P k xs each.1)

-- ---- in order

ascend-drop : (k low : ℕ) (xs : List Start) (high : ℕ) → Ascend low xs high → (l : ℕ) × Ascend l (drop k xs) high
ascend-drop zero low [] high is = (low, is)
ascend-drop (suc k) low [] high is = (low, is)
ascend-drop zero low (x ∷ xs) high is = (low, is)
ascend-drop (suc k) low (x ∷ xs) high is = ascend-drop k x.process xs high is.1

ascend-take : (k low : ℕ) (xs : List Start) (high : ℕ) → Ascend low xs high → Ascend low (take k xs) high
ascend-take zero low [] high is = is
ascend-take (suc k) low [] high is = is
ascend-take zero low (x ∷ xs) high is = within-ascend low (x ∷ xs) high is
ascend-take (suc k) low (x ∷ xs) high is = (is.0, ascend-take k x.process xs high is.1)

above : (last low : ℕ) (xs : List Start) (high : ℕ) → last ≤ low → Ascend low xs high → Each (λ s. last < s.process) xs
above last low [] high le is = tt
above last low (x ∷ xs) high le is = let first = is.0 in (omega arith, above last x.process xs high (omega arith) is.1)

found-above : (low : ℕ) (xs : List Start) (high p : ℕ) (s : Start) → Ascend low xs high → find (is_process p) xs ≡ Some s → low < p
found-above low [] high p s is here = absurd (cc)
found-above low (x ∷ xs) high p s is here = by (p == x.process) refl here (λ more. found-above x.process xs high p s is.1 more)
  where
    by : (b : Bool) → (p == x.process) ≡ b → cond b (Some x) (find (is_process p) xs) ≡ Some s → (find (is_process p) xs ≡ Some s → x.process < p) → low < p
    by true same h more = let first = is.0 in let named = eqb-true p x.process same in omega arith
    by false off h more = let first = is.0 in let later = more h in omega arith

-- ---- the first that takes its turn

module _ (takes : Start → Bool) where
  none-found : (xs : List Start) → Each (λ s. takes s ≡ false) xs → find takes xs ≡ None
  none-found [] each = refl
  none-found (x ∷ xs) each = ap (λ b. cond b (Some x) (find takes xs)) each.0 ∙ none-found xs each.1

  least-found : (p : ℕ) (start : Start) → takes start ≡ true → (low : ℕ) (xs : List Start) (high : ℕ) → Ascend low xs high → Each (λ s. s.process < p → takes s ≡ false) xs
      → find (is_process p) xs ≡ Some start → find takes xs ≡ Some start
  least-found p start t low [] high is each here = absurd (cc)
  least-found p start t low (x ∷ xs) high is each here = by (p == x.process) here (λ more. least-found p start t x.process xs high is.1 each.1 more) (λ more. found-above x.process xs high p start is.1 more)
    where
      by : (b : Bool) → cond b (Some x) (find (is_process p) xs) ≡ Some start → (find (is_process p) xs ≡ Some start → find takes xs ≡ Some start) → (find (is_process p) xs ≡ Some start → x.process < p)
          → cond (takes x) (Some x) (find takes xs) ≡ Some start
      by true h more over = let same : x ≡ start = cc in ap (λ b. cond b (Some x) (find takes xs)) (ap takes same ∙ t) ∙ ap Some same
      by false h more over = ap (λ b. cond b (Some x) (find takes xs)) (each.0 (over h)) ∙ more h

-- who is found stands in the part where its number is
found-later : (p last k : ℕ) (xs : List Start) (s : Start) → last < p → Each (λ x. x.process ≤ last) (take k xs) → find (is_process p) xs ≡ Some s → find (is_process p) (drop k xs) ≡ Some s
found-later p last zero [] s lt each here = here
found-later p last (suc k) [] s lt each here = here
found-later p last zero (x ∷ xs) s lt each here = here
found-later p last (suc k) (x ∷ xs) s lt each here = by (p == x.process) refl here (λ more. found-later p last k xs s lt each.1 more)
  where
    by : (b : Bool) → (p == x.process) ≡ b → cond b (Some x) (find (is_process p) xs) ≡ Some s → (find (is_process p) xs ≡ Some s → find (is_process p) (drop k xs) ≡ Some s) → find (is_process p) (drop k xs) ≡ Some s
    by true same h more = absurd (let named = eqb-true p x.process same in let bound = each.0 in omega arith)
    by false off h more = more h

none-later : (p last : ℕ) (xs : List Start) → p ≤ last → Each (λ x. last < x.process) xs → find (is_process p) xs ≡ None
none-later p last [] le each = refl
none-later p last (x ∷ xs) le each = by (p == x.process) refl (none-later p last xs le each.1)
  where
    by : (b : Bool) → (p == x.process) ≡ b → find (is_process p) xs ≡ None → cond b (Some x) (find (is_process p) xs) ≡ None
    by true same more = absurd (let named = eqb-true p x.process same in let bound = each.0 in omega arith)
    by false off more = more

found-sooner : (p last k : ℕ) (xs : List Start) (s : Start) → p ≤ last → Each (λ x. last < x.process) (drop k xs) → find (is_process p) xs ≡ Some s → find (is_process p) (take k xs) ≡ Some s
found-sooner p last zero [] s le each here = absurd (cc)
found-sooner p last (suc k) [] s le each here = absurd (cc)
found-sooner p last zero (x ∷ xs) s le each here = let none = none-later p last (x ∷ xs) le each in absurd (cc)
found-sooner p last (suc k) (x ∷ xs) s le each here = by (p == x.process) here (λ more. found-sooner p last k xs s le each more)
  where
    by : (b : Bool) → cond b (Some x) (find (is_process p) xs) ≡ Some s → (find (is_process p) xs ≡ Some s → find (is_process p) (take k xs) ≡ Some s) → cond b (Some x) (find (is_process p) (take k xs)) ≡ Some s
    by true h more = h
    by false h more = more h

-- ---- where the walk begins

record Cut (last : ℕ) (live : List Start) : Type 0 where
  at : ℕ
  fits : at ≤ length live
  split : IsSplit last live at at
  before : Each (λ s. s.process ≤ last) (take at live)
  after : Each (λ s. last < s.process) (drop at live)

each-at : (P : Start → Type 0) (xs : List Start) (k : ℕ) (s : Start) → Each P xs → slice_get xs k ≡ Some s → P s
each-at P [] zero s each is = absurd (cc)
each-at P [] (suc k) s each is = absurd (cc)
each-at P (x ∷ xs) zero s each is = let same : x ≡ s = cc in subst P same each.0
each-at P (x ∷ xs) (suc k) s each is = each-at P xs k s each.1 is

never-in : (xs : List Start) (place : ℕ) (start : Start) → xs ≡ [] → slice_get xs place ≡ Some start → ⊥
never-in [] zero start empty there = absurd (cc)
never-in [] (suc place) start empty there = absurd (cc)
never-in (x ∷ xs) place start empty there = absurd (cc)

cut-earlier : (last : ℕ) (x : Start) (xs : List Start) (more : Cut last xs) → x.process ≤ last → (place : ℕ) (start : Start) → slice_get (x ∷ xs) place ≡ Some start → place < suc more.at → start.process ≤ last
cut-earlier last x xs more within zero start there below = let same : x ≡ start = cc in subst (λ (s : Start). s.process ≤ last) same within
cut-earlier last x xs more within (suc place) start there below = more.split.before place start there (omega arith)

cut-later : (last : ℕ) (x : Start) (xs : List Start) (more : Cut last xs) → (place : ℕ) (start : Start) → slice_get (x ∷ xs) place ≡ Some start → suc more.at ≤ place → last < start.process
cut-later last x xs more zero start there from = absurd (omega arith)
cut-later last x xs more (suc place) start there from = more.split.after place start there (omega arith)

cut-of : (last low : ℕ) (live : List Start) (high : ℕ) → Ascend low live high → Cut last live
cut-of last low [] high is = record { at = 0; fits = omega arith; split = record { before = λ place start there under. absurd (omega arith); after = λ place start there over. absurd (never-in [] place start refl there) }; before = tt; after = tt }
cut-of last low (x ∷ xs) high is = by (nat_lt last x.process) refl (cut-of last x.process xs high is.1)
  where
    by : (b : Bool) → nat_lt last x.process ≡ b → Cut last xs → Cut last (x ∷ xs)
    by true over more =
        let greater : last < x.process = ltb-true last x.process over in
        let all : Each (λ s. last < s.process) (x ∷ xs) = (greater, above last x.process xs high (omega arith) is.1) in
        record {
          at = 0;
          fits = omega arith;
          split = record { before = λ place start there under. absurd (omega arith); after = λ place start there from. each-at (λ s. last < s.process) (x ∷ xs) place start all there };
          before = tt;
          after = all;
        }
    by false under more =
        let within : x.process ≤ last = ltb-false last x.process under in
        record { at = suc more.at; fits = (let f = more.fits in omega arith); split = record { before = cut-earlier last x xs more within; after = cut-later last x xs more }; before = (within, more.before); after = more.after }

cut-is : (world : World) (last next : ℕ) → IsOrdered world next → (0 < last → list_any (λ u. u == last) world.used ≡ true)
    → ((k : ℕ) (s : Start) → slice_get world.live k ≡ Some s → list_any (λ u. u == s.process) world.used ≡ true) → (cut : Cut last world.live) → cut.at ≡ made_after world last
cut-is world zero next ordered known lives cut = first cut.at cut.fits (λ s is. cut.split.before 0 s is)
  where
    first : (at : ℕ) → at ≤ length world.live → ((s : Start) → slice_get world.live 0 ≡ Some s → 0 < at → s.process ≤ 0) → at ≡ 0
    first zero fits before = refl
    first (suc at) fits before = by world.live refl ordered.ascend
      where
        by : (xs : List Start) → world.live ≡ xs → Ascend 0 xs next → suc at ≡ 0
        by [] same ascend = absurd (let l = ap (λ ys. length ys) same in omega arith)
        by (x ∷ xs) same ascend = absurd (let bound = before x (ap (λ ys. slice_get ys 0) same) (omega arith) in let first = ascend.0 in omega arith)
cut-is world (suc n) next ordered known lives cut = split-place world (suc n) next cut.at ordered (omega arith) (known (omega arith)) lives cut.fits cut.split

-- ---- those that are aside

or-first : (a b : Bool) → b ≡ false → (a || b) ≡ true → a ≡ true
or-first true b off h = refl
or-first false b off h = absurd (true≢false (sym h ∙ off))

module _ (core : Core) (limit : ℕ) (events : List Event) (state : State) (leads : led core limit events ≡ Goes state) (next : ℕ) (ordered : IsOrdered state.world next)
    (waiters : Waiters) (aside : AreAside core limit state waiters None) where
  me-of : (s : Start) → started state.world s.process ≡ Some s → me_of state.world s.process ≡ me_at s
  me-of s lives =
      let f : Option Start → Me = λ o. record { process = s.process; instance = unwrap_or (option_map (λ (x : Start). x.instance) o) 0 } in
      ap f lives

  -- who waits for invocations alone can't go on, where no operation of its statement is open
  idle-cannot : (s : Start) → started state.world s.process ≡ Some s → is_open waiters.opened s.process ≡ false → (idle : IsIdle core limit state waiters s) → comes_to (does core state.world s.process idle.asks 0) ≡ IsNot
  idle-cannot s lives shut idle =
      let selects = idle.waiting.selects in
      subst (λ r. comes_to (done_by core state.world s.process 0 idle.asks.place idle.asks.role r) ≡ IsNot) (sym selects.is)
      (idle_cannot core state.world s.process idle.asks.place idle.asks.role selects.number selects.env selects.site selects.found selects.simple
      (λ k arm is.
      let owner : Owner = owner_in selects.site.scope (me_at s) in
      subst (λ m. filter (is_of (owner_in selects.site.scope m) arm.op) state.world.pending ≡ []) (sym (me-of s lives))
      (aside.closed owner arm.op s.process (or-first (is_closed waiters (class_of owner arm.op) s.process) (is_open_at waiters.opened (class_of owner arm.op) s.process) (open-at waiters.opened (class_of owner arm.op) s.process shut) (idle.waiting.arms k arm is)) refl)))

  -- who isn't asked in turn couldn't take one
  pub unready-off : (s : Start) → started state.world s.process ≡ Some s → may_go waiters s.process ≡ false → takes_turn core limit state s ≡ false
  unready-off s lives unready = by (both-off (is_ready waiters s.process) (is_open waiters.opened s.process) unready)
    where
      blocked : (asks : Ask) → asks_next core limit state s ≡ Asked asks → comes_to (does core state.world s.process asks 0) ≡ IsNot → takes_turn core limit state s ≡ false
      blocked asks asked cannot = ap (λ x. not (is_blocked core state.world s.process x)) asked ∙ ap (λ o. not (not (is_possible o))) cannot

      by : (is_ready waiters s.process ≡ false) × (is_open waiters.opened s.process ≡ false) → takes_turn core limit state s ≡ false
      by parts = elim (aside.aside s.process s lives parts.0 refl) [
        | inl a ↦ blocked a.asks a.asked a.cannot
        | inr a ↦ blocked a.asks a.asked (idle-cannot s lives parts.1 a)
      ]

  all-off : Each (λ s. may_go waiters s.process ≡ false → takes_turn core limit state s ≡ false) state.world.live
  all-off = each-place (λ s. may_go waiters s.process ≡ false → takes_turn core limit state s ≡ false) state.world.live (λ k s is. unready-off s (place-started core limit events state leads k s is))

  lives-any : (k : ℕ) (s : Start) → slice_get state.world.live k ≡ Some s → list_any (λ u. u == s.process) state.world.used ≡ true
  lives-any k s is = counts-any state.world.used s.process (lives-used core limit events state leads s.process s (place-started core limit events state leads k s is))

  module _ (last : ℕ) (known : 0 < last → list_any (λ u. u == last) state.world.used ≡ true) where
    cut : Cut last state.world.live
    cut = cut-of last 0 state.world.live next ordered.ascend

    walk-is : walk state.world last ≡ drop cut.at state.world.live ++ take cut.at state.world.live
    walk-is = ap (λ k. drop k state.world.live ++ take k state.world.live) (sym (cut-is state.world last next ordered known lives-any cut))

    pub found-turn : (p : ℕ) (start : Start) → IsNextAfter waiters last p → started state.world p ≡ Some start → takes_turn core limit state start ≡ true → find (takes_turn core limit state) (walk state.world last) ≡ Some start
    found-turn p start is lives t = ap (find (takes_turn core limit state)) walk-is ∙ by (nat_lt last p) refl
      where
        by : (b : Bool) → nat_lt last p ≡ b → find (takes_turn core limit state) (drop cut.at state.world.live ++ take cut.at state.world.live) ≡ Some start
        by true over =
            let later : last < p = ltb-true last p over in
            let here = least-found (takes_turn core limit state) p start t (ascend-drop cut.at 0 state.world.live next ordered.ascend).0 (drop cut.at state.world.live) next (ascend-drop cut.at 0 state.world.live next ordered.ascend).1
            (each-map (λ s. (last < s.process) × (may_go waiters s.process ≡ false → takes_turn core limit state s ≡ false)) (λ s. s.process < p → takes_turn core limit state s ≡ false) (drop cut.at state.world.live)
            (λ s both less. both.1 (is.between s.process both.0 less))
            (each-both (λ s. last < s.process) (λ s. may_go waiters s.process ≡ false → takes_turn core limit state s ≡ false) (drop cut.at state.world.live) cut.after (each-drop (λ s. may_go waiters s.process ≡ false → takes_turn core limit state s ≡ false) cut.at state.world.live all-off)))
            (found-later p last cut.at state.world.live start later cut.before lives) in
            found_first (takes_turn core limit state) (drop cut.at state.world.live) (take cut.at state.world.live) (ap is_some here) ∙ here
        by false under =
            let sooner : p ≤ last = ltb-false last p under in
            found_second (takes_turn core limit state) (drop cut.at state.world.live) (take cut.at state.world.live)
            (none-found (takes_turn core limit state) (drop cut.at state.world.live)
            (each-map (λ s. (last < s.process) × (may_go waiters s.process ≡ false → takes_turn core limit state s ≡ false)) (λ s. takes_turn core limit state s ≡ false) (drop cut.at state.world.live)
            (λ s both. both.1 (is.later sooner s.process both.0))
            (each-both (λ s. last < s.process) (λ s. may_go waiters s.process ≡ false → takes_turn core limit state s ≡ false) (drop cut.at state.world.live) cut.after (each-drop (λ s. may_go waiters s.process ≡ false → takes_turn core limit state s ≡ false) cut.at state.world.live all-off))))
            ∙ least-found (takes_turn core limit state) p start t 0 (take cut.at state.world.live) next (ascend-take cut.at 0 state.world.live next ordered.ascend)
            (each-map (λ s. may_go waiters s.process ≡ false → takes_turn core limit state s ≡ false) (λ s. s.process < p → takes_turn core limit state s ≡ false) (take cut.at state.world.live)
            (λ s o less. o (is.sooner sooner s.process less)) (each-take (λ s. may_go waiters s.process ≡ false → takes_turn core limit state s ≡ false) cut.at state.world.live all-off))
            (found-sooner p last cut.at state.world.live start sooner cut.after lives)

    module _ (nobody : (p : ℕ) → may_go waiters p ≡ false) where
      none-in : (xs : List Start) → Each (λ s. may_go waiters s.process ≡ false → takes_turn core limit state s ≡ false) xs → find (takes_turn core limit state) xs ≡ None
      none-in xs each = none-found (takes_turn core limit state) xs (each-map (λ s. may_go waiters s.process ≡ false → takes_turn core limit state s ≡ false) (λ s. takes_turn core limit state s ≡ false) xs (λ s o. o (nobody s.process)) each)

      none-after : find (takes_turn core limit state) (drop cut.at state.world.live) ≡ None
      none-after = none-in (drop cut.at state.world.live) (each-drop (λ s. may_go waiters s.process ≡ false → takes_turn core limit state s ≡ false) cut.at state.world.live all-off)

      none-before : find (takes_turn core limit state) (take cut.at state.world.live) ≡ None
      none-before = none-in (take cut.at state.world.live) (each-take (λ s. may_go waiters s.process ≡ false → takes_turn core limit state s ≡ false) cut.at state.world.live all-off)

      pub no-turn-of : find (takes_turn core limit state) (walk state.world last) ≡ None
      no-turn-of = ap (find (takes_turn core limit state)) walk-is ∙ found_second (takes_turn core limit state) (drop cut.at state.world.live) (take cut.at state.world.live) none-after ∙ none-before

      pub nobody-steps : no_step core limit state ≡ true
      nobody-steps = all_blocked (λ s. is_blocked core state.world s.process (asks_next core limit state s)) state.world.live cut.at none-after none-before
