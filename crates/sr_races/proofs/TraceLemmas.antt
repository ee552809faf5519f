-- The row of one item more in a trace.
use Rattle.std.proofs.Common.{◌≡◌, ◌<◌, ◌≤◌, ◌+◌, ◌-◌, ◌⊎◌, ◌↔◌, inl, inr, ⊎_elim, ℕ, zero, suc, Bool, true, false, List, [], ◌∷◌, ◌++◌, length, refl, ap, sym, ◌∙◌, subst, arith, true≢false}
use Rattle.std.specs.Prelude.{IfOk, Option, Some, None, Result, Ok, Err, slice_get, unwrap_or}
use Rattle.std.specs.Option.{option_map}
use Rattle.sr_ask.specs.Items.{actor_of}
use Rattle.sr_ask.specs.declared.ask.Ask.{Ask}
use Rattle.sr_ask.specs.declared.item.Item.{Item}
use Rattle.sr_ask.specs.declared.item.Item.TheVariants.{Step, Quiesce, Tick}
use Rattle.sr_ask.specs.declared.answer.Answer.{Answer}
use Rattle.sr_ask.specs.declared.ask.Asks.{Asks}
use Rattle.sr_core.specs.declared.component.Core.{Core}
use Rattle.sr_replay.specs.Replaying.{IsAt, StandsAt}
use Rattle.sr_replay.specs.declared.replayer.Replayer.{Replayer}
use Rattle.sr_replay.specs.Replays.{IsFirstIllegal}
use Rattle.sr_races.proofs.FollowLemmas.{at-legal}
use Rattle.sr_races.specs.declared.tracing.Traces.TheVariants as traces
use Rattle.sr_races.specs.declared.trail.Trail.{Trail}
use Rattle.sr_trace.specs.declared.traced.Act.{Act}
use Rattle.sr_trace.specs.declared.traced.Runs.TheVariants as runs
use Rattle.sr_world.specs.Runs.{Next, Goes, Over, Illegal, State, is_legal}
use Rattle.sr_ask.specs.declared.request.Request.{Request}
use Rattle.sr_ask.specs.declared.request.Request.TheVariants as request
use Rattle.sr_clock_rows.specs.Lasts.{last_in}
use Rattle.sr_races.specs.Items.{Run, actor_at, asked_at, asks, stands_after}
use Rattle.sr_races.specs.Links.{IsAnswer, IsLink, IsMaking, IsReadiness, IsService, global_asked, global_at, global_by, is_take}
use Rattle.sr_races.specs.Origins.{AreOrigins, after_in, first_some, made_if, only_if}
use Rattle.sr_races.specs.Traces.{AreTraced, IsAfter, IsTrace, IsTraced, act_alone, act_at, act_by, named_at, operation_in, runs_at, runs_by, runs_from, subject_by}
use Rattle.sr_races.specs.Trails.{IsTrailed, TrailsOn, TrailsTo, alone_row, step_row}
use Rattle.sr_races.specs.Walks.{IsAlone, IsAloneMade, IsStepMade}
use Rattle.sr_races.specs.declared.before.Before.{Before}
use Rattle.sr_races.specs.declared.link.LinkKind.TheVariants as kind
use Rattle.sr_races.specs.declared.origins.Origins.{Origins}
use Rattle.sr_races.proofs.KindLemmas.{answer-in, answer-of, making-in, making-of, readiness-in, readiness-of, service-in, service-of}
use Rattle.sr_races.proofs.StandLemmas.{got-map}
use Rattle.sr_trace.specs.Asking.{subject_of}
use Rattle.sr_trace.specs.declared.traced.Runs.{Runs}
use Rattle.sr_trace.specs.declared.traced.Traced.{Traced}
use Rattle.sr_world.specs.Deciding.{is_select}
use Rattle.sr_world.specs.Worlds.{World, started}

-- ---- the first of those that there are

only-true : (b : Bool) (o : Option ℕ) (k : ℕ) → only_if b o ≡ Some k → b ≡ true
only-true true o k is = refl
only-true false o k is = absurd (cc)

first-is : (a b : Option ℕ) (k : ℕ) → first_some a b ≡ Some k → (a ≡ Some k) ⊎ (b ≡ Some k)
first-is None b k is = inr is
first-is (Some x) b k is = inl is

is-first : (a b : Option ℕ) (k : ℕ) → a ≡ Some k → first_some a b ≡ Some k
is-first a b k is = ap (λ o. first_some o b) is

is-second : (a b : Option ℕ) (k : ℕ) → a ≡ None → b ≡ Some k → first_some a b ≡ Some k
is-second a b k none is = ap (λ o. first_some o b) none ∙ is

off : (b : Bool) (o : Option ℕ) → b ≡ false → only_if b o ≡ None
off b o is = ap (λ t. only_if t o) is

-- ---- what asks for one thing asks for no other

take-no-select : (q : Request) → is_take q ≡ true → is_select q ≡ false
take-no-select (request.Take ids) is = refl
take-no-select (request.Select site env) is = absurd (true≢false (sym is))
take-no-select (request.Declare block var shape) is = refl
take-no-select (request.Load block var path) is = refl
take-no-select (request.Store block var path value) is = refl
take-no-select (request.Invoke target args wants) is = refl
take-no-select (request.Reply held back results) is = refl
take-no-select (request.Forward held back target args) is = refl
take-no-select (request.Count op) is = refl
take-no-select (request.Write bytes) is = refl
take-no-select (request.Read kind) is = refl
take-no-select (request.EnsureGlobal global vm) is = refl
take-no-select (request.Create resource args vm) is = refl
take-no-select request.MakeVm is = refl
take-no-select (request.Destroy target) is = refl
take-no-select (request.Finish answered back results) is = refl
take-no-select (request.Stop status) is = refl
take-no-select (request.Fail fault) is = refl
take-no-select request.Age is = refl
take-no-select (request.Wake until) is = refl

-- a request for a global neither chooses an invocation nor takes a reply
global-alone : (w : World) (q : Request) (x : ℕ) → global_asked w q ≡ Some x → (is_select q ≡ false) × (is_take q ≡ false)
global-alone w (request.EnsureGlobal global vm) x is = (refl, refl)
global-alone w (request.Take ids) x is = absurd (cc)
global-alone w (request.Select site env) x is = absurd (cc)
global-alone w (request.Declare block var shape) x is = (refl, refl)
global-alone w (request.Load block var path) x is = (refl, refl)
global-alone w (request.Store block var path value) x is = (refl, refl)
global-alone w (request.Invoke target args wants) x is = (refl, refl)
global-alone w (request.Reply held back results) x is = (refl, refl)
global-alone w (request.Forward held back target args) x is = (refl, refl)
global-alone w (request.Count op) x is = (refl, refl)
global-alone w (request.Write bytes) x is = (refl, refl)
global-alone w (request.Read kind) x is = (refl, refl)
global-alone w (request.Create resource args vm) x is = (refl, refl)
global-alone w request.MakeVm x is = (refl, refl)
global-alone w (request.Destroy target) x is = (refl, refl)
global-alone w (request.Finish answered back results) x is = (refl, refl)
global-alone w (request.Stop status) x is = (refl, refl)
global-alone w (request.Fail fault) x is = (refl, refl)
global-alone w request.Age x is = (refl, refl)
global-alone w (request.Wake until) x is = (refl, refl)

-- ---- the links of a step

module _ (r : Run) (j p name : ℕ) (ask : Ask) (before : Before) (answered : ℕ) (later : World) (made : IsStepMade r j p name ask before answered later) (origins : Origins) (tables : AreOrigins r j origins) where
  pub begun-is : (k : ℕ) → made_if (last_in origins.lasts p) (last_in origins.makers p) ≡ Some k → IsLink r kind.Makes k j
  begun-is k is =
      let found = making-of r j origins tables made.state made.at made.within p name made.item ask made.asked made.some made.legal k is in
      record { later = found.0; second = made.within; is = found.1 }

  pub is-begun : (k : ℕ) → IsLink r kind.Makes k j → made_if (last_in origins.lasts p) (last_in origins.makers p) ≡ Some k
  is-begun k link = making-in r j origins tables made.state made.at made.within p name made.item ask made.asked made.some made.legal k link.later link.is

  service-is : (k : ℕ) → only_if (is_select ask.request) (last_in origins.makers answered) ≡ Some k → IsLink r kind.Services k j
  service-is k is =
      let found = service-of r j origins tables made.state made.at made.within p name made.item ask made.asked made.some made.legal k
      (subst (λ n. only_if (is_select ask.request) (last_in origins.makers n) ≡ Some k) made.answer is) in
      record { later = found.0; second = made.within; is = found.1 }

  is-service : (k : ℕ) → IsLink r kind.Services k j → only_if (is_select ask.request) (last_in origins.makers answered) ≡ Some k
  is-service k link = subst (λ n. only_if (is_select ask.request) (last_in origins.makers n) ≡ Some k) (sym made.answer)
      (service-in r j origins tables made.state made.at made.within p name made.item ask made.asked made.some made.legal k link.later link.is)

  answer-is : (k : ℕ) → only_if (is_take ask.request) (last_in origins.answerers answered) ≡ Some k → IsLink r kind.Answers k j
  answer-is k is =
      let found = answer-of r j origins tables made.state made.at made.within p name made.item ask made.asked made.some made.legal k
      (subst (λ n. only_if (is_take ask.request) (last_in origins.answerers n) ≡ Some k) made.answer is) in
      record { later = found.0; second = made.within; is = found.1 }

  is-answer : (k : ℕ) → IsLink r kind.Answers k j → only_if (is_take ask.request) (last_in origins.answerers answered) ≡ Some k
  is-answer k link = subst (λ n. only_if (is_take ask.request) (last_in origins.answerers n) ≡ Some k) (sym made.answer)
      (answer-in r j origins tables made.state made.at made.within p name made.item ask made.asked made.some made.legal k link.later link.is)

  readiness-is : (k : ℕ) → last_in origins.readiers before.global ≡ Some k → IsLink r kind.Readies k j
  readiness-is k is =
      let found = readiness-of r j origins tables made.state made.at made.within p name made.item ask made.asked made.some made.legal k
      (subst (λ n. last_in origins.readiers n ≡ Some k) made.global is) in
      record { later = found.0; second = made.within; is = found.1 }

  is-readiness : (k : ℕ) → IsLink r kind.Readies k j → last_in origins.readiers before.global ≡ Some k
  is-readiness k link = subst (λ n. last_in origins.readiers n ≡ Some k) (sym made.global)
      (readiness-in r j origins tables made.state made.at made.within p name made.item ask made.asked made.some made.legal k link.later link.is)

  global-here : global_at r j ≡ global_asked made.state.world ask.request
  global-here = ap (λ now. global_by now (asked_at r j)) made.at ∙ ap (global_by (Goes made.state)) made.asked

  pub after-is : (k : ℕ) → after_in origins ask.request answered before.global ≡ Some k → IsAfter r k j
  after-is k is = ⊎_elim (λ service. inl (service-is k service))
      (λ others. inr (⊎_elim (λ answer. inl (answer-is k answer)) (λ ready. inr (readiness-is k ready))
      (first-is (only_if (is_take ask.request) (last_in origins.answerers answered)) (last_in origins.readiers before.global) k others)))
      (first-is (only_if (is_select ask.request) (last_in origins.makers answered))
      (first_some (only_if (is_take ask.request) (last_in origins.answerers answered)) (last_in origins.readiers before.global)) k is)

  pub is-after : (k : ℕ) → IsAfter r k j → after_in origins ask.request answered before.global ≡ Some k
  is-after k (inl link) = is-first (only_if (is_select ask.request) (last_in origins.makers answered)) _ k (is-service k link)
  is-after k (inr (inl link)) =
      let takes = is-answer k link in
      let no-select = take-no-select ask.request (only-true (is_take ask.request) (last_in origins.answerers answered) k takes) in
      is-second (only_if (is_select ask.request) (last_in origins.makers answered)) _ k (off (is_select ask.request) (last_in origins.makers answered) no-select)
      (is-first (only_if (is_take ask.request) (last_in origins.answerers answered)) _ k takes)
  is-after k (inr (inr link)) =
      let ready : IsReadiness r k j = link.is in
      let alone = global-alone made.state.world ask.request ready.instance (sym global-here ∙ ready.asked) in
      is-second (only_if (is_select ask.request) (last_in origins.makers answered)) _ k (off (is_select ask.request) (last_in origins.makers answered) alone.0)
      (is-second (only_if (is_take ask.request) (last_in origins.answerers answered)) _ k (off (is_take ask.request) (last_in origins.answerers answered) alone.1) (is-readiness k link))

-- ---- one row more

got-pushed : {X : Type 0} (xs : List X) (x y : X) (i : ℕ) → slice_get (xs ++ x ∷ []) i ≡ Some y → (slice_get xs i ≡ Some y) ⊎ ((i ≡ length xs) × (x ≡ y))
got-pushed [] x y zero is = inr (refl, cc)
got-pushed [] x y (suc i) is = absurd (cc)
got-pushed (z ∷ zs) x y zero is = inl is
got-pushed (z ∷ zs) x y (suc i) is = ⊎_elim (λ old. inl old) (λ last. inr (ap suc last.0, last.1)) (got-pushed zs x y i is)

length-more : {X : Type 0} (xs : List X) (x : X) → length (xs ++ x ∷ []) ≡ length xs + 1
length-more [] x = refl
length-more (y ∷ ys) x = let more = length-more ys x in omega (arith, more)

got-kept : {X : Type 0} (xs : List X) (x : X) (i : ℕ) → i < length xs → slice_get (xs ++ x ∷ []) i ≡ slice_get xs i
got-kept [] x i within = absurd (omega (arith, within))
got-kept (y ∷ ys) x zero within = refl
got-kept (y ∷ ys) x (suc i) within = got-kept ys x i (omega (arith, within))

-- a row that names an earlier one names it among more rows
named-kept : (rows : List Traced) (row : Traced) (from : Option ℕ) → ((k : ℕ) → from ≡ Some k → k < length rows) → named_at (rows ++ row ∷ []) from ≡ named_at rows from
named-kept rows row None earlier = refl
named-kept rows row (Some k) earlier = ap operation_in (got-kept rows row k (earlier k refl))

subject-kept : (rows : List Traced) (row : Traced) (asked : Option Ask) (from : Option ℕ) → ((k : ℕ) → from ≡ Some k → k < length rows)
    → subject_by rows asked from ≡ subject_by (rows ++ row ∷ []) asked from
subject-kept rows row None from earlier = refl
subject-kept rows row (Some ask) from earlier = ap (λ o. subject_of ask.request o) (sym (named-kept rows row from earlier))

after-earlier : (r : Run) (k i : ℕ) → IsAfter r k i → k < i
after-earlier r k i (inl link) = link.later
after-earlier r k i (inr (inl link)) = link.later
after-earlier r k i (inr (inr link)) = link.later

traced-kept : (r : Run) (rows : List Traced) (row : Traced) (i : ℕ) (one : Traced) → i ≤ length rows → IsTraced r rows i one → IsTraced r (rows ++ row ∷ []) i one
traced-kept r rows row i one within is = record {
  item = is.item;
  process = is.process;
  runs = is.runs;
  act = is.act;
  subject = is.subject ∙ subject-kept rows row (asked_at r i) one.after
      (λ k from. let less = after-earlier r k i ((is.after k).0 from) in omega (arith, less, within));
  begun = is.begun;
  after = is.after;
  place = is.place;
}

got-within : {X : Type 0} (xs : List X) (x : X) (i : ℕ) → slice_get xs i ≡ Some x → i < length xs
got-within [] x zero is = absurd (cc)
got-within [] x (suc i) is = absurd (cc)
got-within (y ∷ ys) x zero is = omega arith
got-within (y ∷ ys) x (suc i) is = let more = got-within ys x i is in omega (arith, more)

pub rows-more : (r : Run) (count : ℕ) (rows : List Traced) (row : Traced) → AreTraced r count rows → IsTraced r rows count row → AreTraced r (count + 1) (rows ++ row ∷ [])
rows-more r count rows row are is = record {
  number = length-more rows row ∙ ap (λ n. n + 1) are.number;
  each = λ i one got. ⊎_elim
      (λ old. let within = got-within rows one i old in traced-kept r rows row i one (omega (arith, within)) (are.each i one old))
      (λ last. subst (λ x. IsTraced r (rows ++ row ∷ []) i x) last.1
      (subst (λ n. IsTraced r (rows ++ row ∷ []) n row) (sym (last.0 ∙ are.number)) (traced-kept r rows row count row (let number = are.number in omega (arith, number)) is)))
      (got-pushed rows row one i got);
}

-- ---- the row of a step, and that of an item of no process

pub step-traced : (r : Run) (j p name : ℕ) (ask : Ask) (before : Before) (answered : ℕ) (later : World) (made : IsStepMade r j p name ask before answered later) (origins : Origins) → AreOrigins r j origins
    → (rows : List Traced) (what : Runs) → what ≡ runs_at r j → IsTraced r rows j (step_row origins rows j p what ask answered before.global)
step-traced r j p name ask before answered later made origins tables rows what runs-is = record {
  item = refl;
  process = sym (got-map actor_of r.items j (Step p name) made.item);
  runs = runs-is;
  act = sym (ap (act_by (slice_get r.items j)) made.asked);
  subject = sym (ap (λ o. subject_by rows o (after_in origins ask.request answered before.global)) made.asked);
  begun = λ k. (begun-is r j p name ask before answered later made origins tables k, is-begun r j p name ask before answered later made origins tables k);
  after = λ k. (after-is r j p name ask before answered later made origins tables k, is-after r j p name ask before answered later made origins tables k);
  place = sym (ap (option_map (λ (one : Ask). one.place)) made.asked);
}

none-global : (now : Next) (asked : Option Ask) → asked ≡ None → global_by now asked ≡ None
none-global (Goes state) None is = refl
none-global (Goes state) (Some ask) is = absurd (cc)
none-global (Over ending state) asked is = refl
none-global Illegal asked is = refl

-- what asks nothing comes after nothing
no-after : (r : Run) (i k : ℕ) → asked_at r i ≡ None → IsAfter r k i → ⊥
no-after r i k none (inl link) = let service : IsService r k i = link.is in true≢false (sym service.services ∙ ap (asks is_select) none)
no-after r i k none (inr (inl link)) = let answer : IsAnswer r k i = link.is in true≢false (sym answer.takes ∙ ap (asks is_take) none)
no-after r i k none (inr (inr link)) =
    let ready : IsReadiness r k i = link.is in
    let nothing : None ≡ Some ready.instance = sym (none-global (stands_after r i) (asked_at r i) none) ∙ ready.asked in
    absurd (cc)

no-making : (r : Run) (i k : ℕ) → actor_at r i ≡ 0 → IsLink r kind.Makes k i → ⊥
no-making r i k nobody link = let making : IsMaking r k i = link.is in let some = making.some in absurd (omega (arith, some, nobody))

pub alone-traced : (r : Run) (i number : ℕ) (ends : Bool) (made : IsAloneMade r i number ends) (rows : List Traced) (act : Act) → runs.Machine ≡ runs_at r i → act ≡ act_at r i
    → IsTraced r rows i (alone_row i act)
alone-traced r i number ends made rows act runs-is act-is = record {
  item = refl;
  process = sym made.nobody;
  runs = runs-is;
  act = act-is;
  subject = sym (ap (λ o. subject_by rows o None) made.asked);
  begun = λ k. (λ none. absurd (cc), λ link. absurd (no-making r i k made.nobody link));
  after = λ k. (λ none. absurd (cc), λ link. absurd (no-after r i k made.asked link));
  place = sym (ap (option_map (λ (one : Ask). one.place)) made.asked);
}

-- ---- what runs

pub runs-here : {A : Type 0} (after : A → List Answer → Asks) (r : Run) (j p name : ℕ) (state : State) (replayer : Replayer A) → slice_get r.items j ≡ Some (Step p name) → stands_after r j ≡ Goes state
    → IsAt after r.core r.limit (Goes state) replayer → runs_from (started replayer.world p) ≡ runs_at r j
runs-here after r j p name state replayer is here at =
    ap (λ (w : World). runs_from (started w p)) at.1.world ∙ sym (ap (λ now. runs_by now (slice_get r.items j)) here ∙ ap (runs_by (Goes state)) is)

pub runs-alone : (r : Run) (j : ℕ) (item : Item) (number : ℕ) (ends : Bool) → IsAlone item number ends → slice_get r.items j ≡ Some item → runs.Machine ≡ runs_at r j
runs-alone r j (Step p name) number ends alone is = absurd alone
runs-alone r j (Quiesce name) number ends alone is = sym (ap (runs_by (stands_after r j)) is ∙ by (stands_after r j))
  where
    by : (now : Next) → runs_by now (Some (Quiesce name)) ≡ runs.Machine
    by (Goes state) = refl
    by (Over ending state) = refl
    by Illegal = refl
runs-alone r j (Tick to) number ends alone is = sym (ap (runs_by (stands_after r j)) is ∙ by (stands_after r j))
  where
    by : (now : Next) → runs_by now (Some (Tick to)) ≡ runs.Machine
    by (Goes state) = refl
    by (Over ending state) = refl
    by Illegal = refl

pub act-here : (r : Run) (j : ℕ) (item : Item) → slice_get r.items j ≡ Some item → asked_at r j ≡ None → act_alone (Some item) ≡ act_at r j
act-here r j item is none = sym (ap (act_by (slice_get r.items j)) none ∙ ap act_alone is)

-- ---- the beginning, and one item more

pub no-traced : (r : Run) (rows : List Traced) → rows ≡ [] → AreTraced r 0 rows
no-traced r rows none = subst (λ xs. AreTraced r 0 xs) (sym none) (record { number = refl; each = λ i row got. absurd (cc) })

-- looking at what a process asks changes nothing else
pub trailed-asked : {A : Type 0} (after : A → List Answer → Asks) (r : Run) (place : ℕ) (k : Core) → r.core ≡ k → (trail : Trail A) (new : Replayer A) → new.ending ≡ trail.replayer.ending
    → ((limit : ℕ) (state : State) → StandsAt after k limit state trail.replayer → StandsAt after k limit state new) → IsTrailed after r place trail → IsTrailed after r place (record trail { replayer = new })
trailed-asked after r place k core trail new ending stands trailed = record {
  within = trailed.within;
  at = subst (λ (c : Core). IsAt after c r.limit (stands_after r place) new) (sym core)
      (by (stands_after r place) (subst (λ (c : Core). IsAt after c r.limit (stands_after r place) trail.replayer) core trailed.at));
  origins = trailed.origins;
  rows = trailed.rows;
}
  where
    by : (now : Next) → IsAt after k r.limit now trail.replayer → IsAt after k r.limit now new
    by (Goes state) at = (ending ∙ at.0, stands r.limit state at.1)
    by (Over e state) at = (ending ∙ at.0, stands r.limit state at.1)
    by Illegal at = absurd at

-- ---- a whole run

pub any-ok : {B E : Type 0} {P : B → Type 0} (r : Result B E) → ((b : B) → P b) → IfOk r P
any-ok (Ok b) holds = holds b
any-ok (Err e) holds = tt

pub trails-to : {A : Type 0} (after : A → List Answer → Asks) (steps : ℕ) (r : Run) (place : ℕ) (trail : Trail A) (legal : Bool) → TrailsOn after r (place + 1) legal trail → TrailsTo after steps r (place + 1) legal trail
trails-to after steps r place trail true trails = trails
trails-to after steps r place trail false trails = inr trails

-- an item isn't one, or is one more than a run may have
pub first-illegal : {A : Type 0} (after : A → List Answer → Asks) (steps : ℕ) (r : Run) (upto place : ℕ) (old new : Trail A) → place < upto → place ≤ steps → IsTrailed after r place old
    → TrailsTo after steps r (place + 1) false new → IsFirstIllegal r.core steps r.limit r.input r.items upto (place + 1)
first-illegal after steps r upto place old new within most trailed here = record {
  first = omega arith;
  within = omega arith;
  most = omega arith;
  before =
      let same : place + 1 - 1 ≡ place = omega arith in
      ap (λ n. is_legal (stands_after r n)) same ∙ at-legal after r.core r.limit (stands_after r place) old.replayer trailed.at;
  here = ⊎_elim (λ more. inl (omega (arith, more, most))) (λ none. inr none) here;
}

pub found-trace : {A : Type 0} (after : A → List Answer → Asks) (steps upto : ℕ) (r : Run) (trail : Trail A) (rows : List Traced) → rows ≡ trail.rows → upto ≤ steps → IsTrailed after r upto trail
    → IsTrace steps upto r (traces.Found rows)
found-trace after steps upto r trail rows same most trailed =
    (most, at-legal after r.core r.limit (stands_after r upto) trail.replayer trailed.at, subst (λ xs. AreTraced r upto xs) (sym same) trailed.rows)
