-- Every class history of a run is legal.
use Rattle.std.proofs.Common.{◌≡◌, ℕ, zero, suc, ◌+◌, ◌≤◌, ◌==◌, Bool, true, false, cond, List, [], ◌∷◌, ◌++◌, length, drop, map, Option, None, Some, is_some, refl, ap, sym, ◌∙◌, subst, arith, eq-eqb, true≢false, inl, inr}
use Rattle.std.proofs.lemmas.List.Sums.{length-filter}
use Rattle.std.specs.Prelude.{count_by, filter, slice_get}
use Rattle.sr_ask.specs.declared.answer.Answer.{Answer}
use Rattle.sr_ask.specs.declared.answer.Answer.TheVariants as answer
use Rattle.sr_ask.specs.declared.ask.Ask.{Ask}
use Rattle.sr_ask.specs.declared.ask.Asks.{Asks}
use Rattle.sr_ask.specs.declared.ask.Asks.TheVariants.{Asked, OverTicks}
use Rattle.sr_ask.specs.declared.item.Item.{Item}
use Rattle.sr_ask.specs.declared.item.Item.TheVariants.{Step, Quiesce, Tick}
use Rattle.sr_ask.specs.declared.request.Request.{Request}
use Rattle.sr_ask.specs.declared.request.Request.TheVariants as request
use Rattle.sr_ask.specs.declared.start.Start.{Start}
use Rattle.sr_core.specs.declared.component.Core.{Core}
use Rattle.sr_core.specs.declared.site.Arm.{Arm}
use Rattle.sr_core.specs.declared.site.Site.{Site}
use Rattle.sr_queue.specs.declared.pending.Pending.{Pending}
use Rattle.sr_select.specs.declared.choice.Choice.{Choice}
use Rattle.sr_select.specs.declared.choice.Choice.TheVariants as chosen
use Rattle.sr_value.specs.declared.value.Value.{Value}
use Rattle.sr_world.specs.Callers.{makes_duty}
use Rattle.sr_world.specs.Deciding.{is_select}
use Rattle.sr_world.specs.Does.{Does, Did, Makes, Cannot, Ends, Undecided, failed, where_some}
use Rattle.sr_world.specs.Histories.{AllLegal, Entry, IsLegalMark, Mark, Arrives, Serves, all_from, arrived, entries_in, marks_by, marks_in, marks_of, taken_up, waiting_as}
use Rattle.sr_world.specs.Runs.{Next, Goes, Over, Illegal, State, asks_for, asks_next, is_legal, is_new, next, run_from, step_of, stepped, where_true, with_answer}
use Rattle.sr_world.specs.Selecting.{by_choice, choice_of, select, select_at, service}
use Rattle.sr_world.specs.Sound.{IsSound, is_call, times_used}
use Rattle.sr_world.specs.Spots.{Waiting, ServiceOf, is_picked}
use Rattle.sr_world.specs.Steps.{does, done_by}
use Rattle.sr_world.specs.Worlds.{World, started}
use Rattle.sr_world.proofs.CountLemmas.{count-cons, one}
use Rattle.sr_world.proofs.RequestLemmas.{Arrived, Well, well}
use Rattle.sr_world.proofs.RunLemmas.{kept-of, new-number, sound-next}
use Rattle.sr_world.proofs.LawProofs.{legal-from}

-- ---- lists

no-length : {A : Type 0} (xs : List A) → length xs ≡ 0 → xs ≡ []
no-length [] is = refl
no-length (x ∷ xs) is = absurd (omega (arith, is))

module _ {A : Type 0} (t : A → Bool) where
  filter-none : (xs : List A) → count_by t xs ≡ 0 → filter t xs ≡ []
  filter-none xs none = no-length (filter t xs) (length-filter t xs ∙ none)

  -- the only one that passes
  filter-one : (xs : List A) (i : ℕ) (x : A) → count_by t xs ≤ 1 → slice_get xs i ≡ Some x → t x ≡ true → filter t xs ≡ x ∷ []
  filter-one [] i x few is passes = absurd (cc)
  filter-one (y ∷ ys) zero x few is passes =
      let same : y ≡ x = cc in
      let here : t y ≡ true = ap t same ∙ passes in
      let rest : count_by t ys ≡ 0 = let e = ap one here in omega (arith, few, count-cons t y ys, e) in
      ap (λ b. cond b (y ∷ filter t ys) (filter t ys)) here ∙ ap (λ zs. y ∷ zs) (filter-none ys rest) ∙ ap (λ z. z ∷ []) same
  filter-one (y ∷ ys) (suc i) x few is passes = by (t y) refl (filter-one ys i x)
    where
      counts : (zs : List A) (j : ℕ) → slice_get zs j ≡ Some x → 1 ≤ count_by t zs
      counts [] j at = absurd (cc)
      counts (z ∷ zs) zero at = let same : z ≡ x = cc in let e = ap one (ap t same ∙ passes) in omega (arith, count-cons t z zs, e)
      counts (z ∷ zs) (suc j) at = omega (arith, count-cons t z zs, counts zs j at)

      by : (b : Bool) → t y ≡ b → (count_by t ys ≤ 1 → slice_get ys i ≡ Some x → t x ≡ true → filter t ys ≡ x ∷ []) → cond b (y ∷ filter t ys) (filter t ys) ≡ x ∷ []
      by true here more = let e = ap one here in absurd (omega (arith, few, count-cons t y ys, e, counts ys i is))
      by false here more = more (omega (arith, few, count-cons t y ys)) is passes

pub count-map : {A B : Type 0} (p : B → Bool) (f : A → B) (xs : List A) → count_by p (map f xs) ≡ count_by (λ x. p (f x)) xs
count-map p f [] = refl
count-map p f (x ∷ xs) = count-cons p (f x) (map f xs) ∙ ap (λ n. one (p (f x)) + n) (count-map p f xs) ∙ sym (count-cons (λ y. p (f y)) x xs)

pub count-never : {A : Type 0} (xs : List A) → count_by (λ x. false) xs ≡ 0
count-never [] = refl
count-never (x ∷ xs) = let first = count-cons (λ y. false) x xs in let more = count-never xs in omega (arith, first, more)

drop-none : {A : Type 0} (xs : List A) → drop (length xs) xs ≡ []
drop-none [] = refl
drop-none (x ∷ xs) = drop-none xs

where-legal : (b : Bool) (now : Next) → is_legal (where_true b now) ≡ true → b ≡ true
where-legal true now legal = refl
where-legal false now legal = absurd (true≢false (sym legal))

drop-all : {A : Type 0} (xs ys : List A) → drop (length xs) (xs ++ ys) ≡ ys
drop-all [] ys = refl
drop-all (x ∷ xs) ys = drop-all xs ys

-- ---- legal marks

module _ (core : Core) (limit : ℕ) where
  abbrev pub AllMarks : State → List Mark → Type 0
  AllMarks state [] = Unit {0}
  AllMarks state (mark ∷ marks) = IsLegalMark core limit state mark × AllMarks state marks

  all-append : (xs ys : List Entry) → AllLegal core limit xs → AllLegal core limit ys → AllLegal core limit (xs ++ ys)
  all-append [] ys hx hy = hy
  all-append (x ∷ xs) ys hx hy = (hx.0, all-append xs ys hx.1 hy)

  pub all-filter : (t : Entry → Bool) (xs : List Entry) → AllLegal core limit xs → AllLegal core limit (filter t xs)
  all-filter t [] h = tt
  all-filter t (x ∷ xs) h = by (t x) (all-filter t xs h.1)
    where
      by : (b : Bool) → AllLegal core limit (filter t xs) → AllLegal core limit (cond b (x ∷ filter t xs) (filter t xs))
      by true more = (h.0, more)
      by false more = more

  -- ---- one item

  module _ (items : List Item) (state : State) (sound : IsSound items state) where
    few-wait : (id : ℕ) → count_by (λ p. p.id == id) state.world.pending ≤ 1
    few-wait id = omega (arith, sound.duties.numbers (ServiceOf id) Waiting, sound.numbers.once id)

    module _ (actor : ℕ) (start : Start) (found : started state.world actor ≡ Some start) (ask : Ask) (asks : asks_next core limit state start ≡ Asked ask) where
      -- what a choice took up is the choice
      module _ (number : ℕ) (env : List Value) (selects : ask.request ≡ request.Select number env) (after : World) (id arm back : ℕ) (args : List Value) where
        chosen-one : (site : Site) → slice_get core.sites number ≡ Some site → (choice : Choice) → choice_of core state.world actor env site ≡ choice
            → by_choice state.world actor site choice ≡ Did after (answer.Picked id arm args back) → AllMarks state (map (λ p. Serves actor p arm) (waiting_as id state.world))
        chosen-one site is-site (chosen.Service place arm') is d = by (slice_get state.world.pending place) refl d
          where
            by : (o : Option Pending) → slice_get state.world.pending place ≡ o → where_some o (service state.world actor place arm') ≡ Did after (answer.Picked id arm args back)
                → AllMarks state (map (λ p. Serves actor p arm) (waiting_as id state.world))
            by None at h = absurd (cc)
            by (Some p) at h =
                let same-id : p.id ≡ id = cc in
                let same-arm : arm' ≡ arm = cc in
                let only : waiting_as id state.world ≡ p ∷ [] = filter-one (λ q. q.id == id) state.world.pending place p (few-wait id) at (eq-eqb p.id id same-id) in
                subst (λ ps. AllMarks state (map (λ q. Serves actor q arm) ps)) (sym only) (
                  record {
                    start = start;
                    lives = found;
                    ask = ask;
                    asks = asks;
                    number = number;
                    env = env;
                    selects = selects;
                    site = site;
                    is_site = is-site;
                    place = place;
                    waits = at;
                    chosen = is ∙ ap (λ n. chosen.Service place n) same-arm;
                  },
                  tt,
                )
        chosen-one site is-site chosen.Else is d = absurd (cc)
        chosen-one site is-site chosen.Nothing is d = absurd (cc)
        chosen-one site is-site (chosen.Bad fault n) is d = by (slice_get site.arms n) d
          where
            by : (o : Option Arm) → where_some o (λ a. failed a.place fault) ≡ Did after (answer.Picked id arm args back) → AllMarks state (map (λ p. Serves actor p arm) (waiting_as id state.world))
            by None h = absurd (cc)
            by (Some a) h = absurd (cc)

        pub chosen-marks : select core state.world actor number env ≡ Did after (answer.Picked id arm args back) → AllMarks state (map (λ p. Serves actor p arm) (waiting_as id state.world))
        chosen-marks d = by (slice_get core.sites number) refl d
          where
            by : (o : Option Site) → slice_get core.sites number ≡ o → where_some o (select_at core state.world actor env) ≡ Did after (answer.Picked id arm args back)
                → AllMarks state (map (λ p. Serves actor p arm) (waiting_as id state.world))
            by None at h = absurd (cc)
            by (Some site) at h = chosen-one site at (choice_of core state.world actor env site) refl h

      -- ---- the marks of a step

      arrived-marks : (name : ℕ) (after : World) → Arrived name state.world after → is_new state.world name ≡ true → AllMarks state (arrived state.world after)
      arrived-marks name after (inl same) new =
          subst (λ ps. AllMarks state (map (λ p. Arrives p) ps)) (sym (ap (drop (length state.world.pending)) same ∙ drop-none state.world.pending)) tt
      arrived-marks name after (inr found) new =
          let nothing : count_by (λ q. q.id == found.0.id) state.world.pending ≡ 0 =
          let unused : times_used state.world found.0.id ≡ 0 = ap (times_used state.world) found.2 ∙ (new-number state.world name new).1 in
          omega (arith, sound.duties.numbers (ServiceOf found.0.id) Waiting, unused) in
          subst (λ ps. AllMarks state (map (λ p. Arrives p) ps)) (sym (ap (drop (length state.world.pending)) found.1 ∙ drop-all state.world.pending (found.0 ∷ [])))
          (filter-none (λ q. q.id == found.0.id) state.world.pending nothing, tt)

      -- only a choice takes up
      by-request : (name : ℕ) (after : World) (id arm back : ℕ) (args : List Value) (r : Request) → ask.request ≡ r → does core state.world actor ask name ≡ Did after (answer.Picked id arm args back)
          → (is_select r ≡ false → (n : ℕ) → is_picked n (answer.Picked id arm args back) ≡ false) → AllMarks state (map (λ p. Serves actor p arm) (waiting_as id state.world))
      by-request name after id arm back args (request.Select number env) is d unpicked =
          chosen-marks number env is after id arm back args (sym (ap (λ r. done_by core state.world actor name ask.place ask.role r) is) ∙ d)
      by-request name after id arm back args r is d unpicked = absurd (true≢false (sym (eq-eqb id id refl) ∙ unpicked refl id))

      taken-marks : (name : ℕ) (after : World) (a : Answer) → does core state.world actor ask name ≡ Did after a → (is_select ask.request ≡ false → (n : ℕ) → is_picked n a ≡ false)
          → AllMarks state (taken_up state.world actor a)
      taken-marks name after (answer.Picked id arm args back) d unpicked = by-request name after id arm back args ask.request refl d unpicked
      taken-marks name after answer.Done d unpicked = tt
      taken-marks name after (answer.Got v) d unpicked = tt
      taken-marks name after (answer.Made n) d unpicked = tt
      taken-marks name after answer.Ready d unpicked = tt
      taken-marks name after answer.Else d unpicked = tt
      taken-marks name after (answer.Took id results) d unpicked = tt
      taken-marks name after (answer.Number n) d unpicked = tt
      taken-marks name after answer.Bad d unpicked = tt
      taken-marks name after answer.End d unpicked = tt

      pub step-marks : (name : ℕ) (d : Does) → does core state.world actor ask name ≡ d → Well (is_call items) state.given actor name (is_select ask.request) (makes_duty ask.request) state.world d
          → is_legal (stepped state actor name d) ≡ true → AllMarks state (marks_of state.world actor d)
      step-marks name (Did after a) is h legal = taken-marks name after a is h.unpicked
      step-marks name (Makes after a) is h legal = arrived-marks name after h.pending (where-legal (is_new state.world name) (Goes (record { world = after; given = with_answer actor a state.given })) legal)
      step-marks name Cannot is h legal = tt
      step-marks name (Ends ending) is h legal = tt
      step-marks name Undecided is h legal = tt

    marks-by : (actor name : ℕ) (o : Option Start) → started state.world actor ≡ o → is_legal (step_of core limit state actor name o) ≡ true → AllMarks state (marks_by core limit state actor name o)
    marks-by actor name None found legal = tt
    marks-by actor name (Some start) found legal = by (asks_next core limit state start) refl legal
      where
        by : (asks : Asks) → asks_next core limit state start ≡ asks → is_legal (stepped state actor name (asks_for core state.world actor name asks)) ≡ true
            → AllMarks state (marks_of state.world actor (asks_for core state.world actor name asks))
        by (Asked ask) is h =
            step-marks actor start found ask is name (does core state.world actor ask name) refl
            (well (is_call items) state.given actor name (is_select ask.request) (makes_duty ask.request) state.world (kept-of items state sound) (ap is_some found) core ask.place ask.role ask.request refl refl) h
        by OverTicks is h = tt

    pub item-marks : (item : Item) → is_legal (next core limit state item) ≡ true → AllMarks state (marks_in core limit state item)
    item-marks (Step actor name) legal = marks-by actor name (started state.world actor) refl legal
    item-marks (Quiesce name) legal = tt
    item-marks (Tick to) legal = tt

  all-entries : (state : State) (marks : List Mark) → AllMarks state marks → AllLegal core limit (map (λ mark. record { state = state; mark = mark }) marks)
  all-entries state [] h = tt
  all-entries state (mark ∷ marks) h = (h.0, all-entries state marks h.1)

  pub all-legal : (items rest : List Item) (state : State) → IsSound items state → is_legal (run_from core limit (Goes state) rest) ≡ true → AllLegal core limit (all_from core limit (Goes state) rest)
  all-legal items [] state sound legal = tt
  all-legal items (item ∷ rest) state sound legal =
      all-append (entries_in core limit state item) (all_from core limit (next core limit state item) rest)
      (all-entries state (marks_in core limit state item) (item-marks items state sound item (legal-from core limit (next core limit state item) rest legal)))
      (by (next core limit state item) refl legal (λ us s sound h. all-legal us rest s sound h))
    where
      stuck : (now : Next) (more : List Item) → ((s : State) → now ≡ Goes s → ⊥) → AllLegal core limit (all_from core limit now more)
      stuck (Goes s) more h = absurd (h s refl)
      stuck (Over ending s) [] h = tt
      stuck (Over ending s) (i ∷ is) h = tt
      stuck Illegal [] h = tt
      stuck Illegal (i ∷ is) h = tt

      by : (now : Next) → next core limit state item ≡ now → is_legal (run_from core limit now rest) ≡ true
          → ((us : List Item) (s : State) → IsSound us s → is_legal (run_from core limit (Goes s) rest) ≡ true → AllLegal core limit (all_from core limit (Goes s) rest)) → AllLegal core limit (all_from core limit now rest)
      by (Goes s) is h more = more (items ++ item ∷ []) s (sound-next items state sound core limit item s is) h
      by (Over ending s) is h more = stuck (Over ending s) rest (λ s' e. cc)
      by Illegal is h more = stuck Illegal rest (λ s' e. cc)
