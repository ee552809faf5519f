-- A process that waits for what a step keeps still cannot go on after it.
use Rattle.std.proofs.Common.{◌≡◌, ◌≢◌, inl, inr, ℕ, suc, ◌==◌, ◌&&◌, ◌||◌, not, Bool, true, false, List, [], ◌∷◌, length, Option, None, Some, Ok, is_some, refl, ap, sym, ◌∙◌, subst, eq-eqb, eqb-true, true≢false}
use Rattle.std.proofs.lemmas.List.Sums.{length-filter}
use Rattle.std.specs.Cmp.{nat_eq_equiv}
use Rattle.std.specs.Prelude.{filter, find, nat_lt, option_map, slice_get, unwrap_or}
use Rattle.std.specs.List.{list_all}
use Rattle.std.proofs.lemmas.Bool.{or_parts as both-off}
use Rattle.sr_ask.specs.declared.ask.Ask.{Ask}
use Rattle.sr_ask.specs.declared.ask.Role.{Role}
use Rattle.sr_ask.specs.declared.request.Request.{Request}
use Rattle.sr_ask.specs.declared.request.Request.TheVariants as request
use Rattle.sr_ask.specs.declared.start.Start.{Start}
use Rattle.sr_calls.specs.Calls.{answers_one}
use Rattle.sr_core.specs.declared.component.Core.{Core}
use Rattle.sr_core.specs.declared.component.Operation.{Operation}
use Rattle.sr_core.specs.declared.owner.Home.{Home}
use Rattle.sr_core.specs.declared.owner.Me.{Me}
use Rattle.sr_core.specs.declared.site.Arm.{Arm}
use Rattle.sr_core.specs.declared.site.Site.{Site}
use Rattle.sr_core.specs.declared.statement.Scope.{Scope}
use Rattle.sr_core.specs.declared.statement.Scope.TheVariants.{Own, Shared}
use Rattle.sr_queue.specs.Queues.{is_of, waiting}
use Rattle.sr_queue.specs.declared.pending.Pending.{Pending}
use Rattle.sr_select.specs.Choices.{choice, owner_in}
use Rattle.sr_select.specs.Guards.{guard_block, home_seen}
use Rattle.sr_select.specs.Laws.{is_in_class}
use Rattle.sr_select.specs.Worlds.{Watched as Watching}
use Rattle.sr_select.specs.declared.choice.Choice.{Choice}
use Rattle.sr_select.specs.declared.choice.Choice.TheVariants as chosen
use Rattle.sr_store.specs.Variables.{loaded_in}
use Rattle.sr_value.specs.Operators.{owner_eq}
use Rattle.sr_value.specs.declared.capability.Owner.{Owner}
use Rattle.sr_value.specs.declared.capability.Owner.TheVariants.{Inst}
use Rattle.sr_value.specs.declared.place.Place.{Place}
use Rattle.sr_value.specs.declared.shape.Sel.{Sel}
use Rattle.sr_value.specs.declared.value.Value.{Value}
use Rattle.sr_world.proofs.ReadyLemmas.{can_is}
use Rattle.sr_world.proofs.WakingLemmas.{still_not, is_not}
use Rattle.sr_world.specs.Deciding.{can_choose, can_create, can_do, can_ensure, can_select, can_select_in}
use Rattle.sr_world.specs.Does.{IsNot, comes_to, is_possible}
use Rattle.sr_world.specs.Invoking.{owner_for}
use Rattle.sr_world.specs.Selecting.{choice_of, me_of, reading_of, waiting_for}
use Rattle.sr_world.specs.Steps.{done_by}
use Rattle.sr_world.specs.Waking.{SameFor, SameForSite}
use Rattle.sr_world.specs.Worlds.{World, started}
use Rattle.sr_plain.specs.Ready.{me_at}
use Rattle.sr_plain.specs.Waiting.{WaitsAtSite, WaitsFor, WaitsForAll, at_block, at_operation, key_of, variable_of, wakes, watching}
use Rattle.sr_plain.specs.declared.change.Change.{Change}
use Rattle.sr_plain.specs.declared.change.Change.TheVariants.{Nothing, Watched, Variable, Class, Gone, Everything}
use Rattle.sr_plain.specs.declared.waiters.Place.{Place as Spot}
use Rattle.sr_plain.specs.declared.waiters.Place.TheVariants as places
use Rattle.sr_plain.proofs.ChangeLemmas.{Apart, Heard, Keeps, Still, same-owner}

-- ---- what is possible

-- what can be done as before still cannot
pub as-before : (core : Core) (old new : World) (p : ℕ) (place : Place) (role : Role) (r : Request) → can_do core old p r ≡ can_do core new p r
    → comes_to (done_by core old p 0 place role r) ≡ IsNot → comes_to (done_by core new p 0 place role r) ≡ IsNot
as-before core old new p place role r same is =
    is_not (comes_to (done_by core new p 0 place role r))
    (can_is core place 0 new p role r ∙ sym same ∙ sym (can_is core place 0 old p role r) ∙ ap is_possible is)

-- ---- statements

pub all-from : {X : Type 0} (test : X → Bool) (xs : List X) → ((k : ℕ) (x : X) → slice_get xs k ≡ Some x → test x ≡ true) → list_all test xs ≡ true
all-from test [] each = refl
all-from test (x ∷ xs) each = ap (λ b. b && list_all test xs) (each 0 x refl) ∙ all-from test xs (λ k y is. each (suc k) y is)

-- all operations but one, where that one is of this owner
without : Owner → Owner → ℕ → ℕ → Bool
without owner whose op n = not (n == op && owner_eq whose owner)

apart-class : (owner whose : Owner) (op : ℕ) → (without owner whose op op && owner_eq whose owner) ≡ false
unfolding without
apart-class owner whose op = by (owner_eq whose owner)
  where
    other : (a : Bool) → (a && false) ≡ false
    other true = refl
    other false = refl

    by : (b : Bool) → (not (op == op && b) && b) ≡ false
    by true = ap (λ a. not (a && true) && true) (eq-eqb op op refl)
    by false = other (not (op == op && false))

-- where a process waits for an operation, and not for another, the two are apart
module _ (at : Spot → Bool) (whose : Owner) (op : ℕ) (off : at (key_of whose op) ≡ false) where
  apart-keys : (owner : Owner) (other : ℕ) → at (key_of owner other) ≡ true → (other == op && owner_eq whose owner) ≡ false
  apart-keys owner other here = by (other == op) refl (owner_eq whose owner) refl
    where
      by : (a : Bool) → (other == op) ≡ a → (b : Bool) → owner_eq whose owner ≡ b → (a && b) ≡ false
      by false is b is' = refl
      by true is false is' = refl
      by true is true is' =
          let op-is : other ≡ op = eqb-true other op is in
          let owner-is : whose ≡ owner = same-owner whose owner is' in
          absurd (true≢false (sym here ∙ ap (λ n. at (key_of owner n)) op-is ∙ ap (λ o. at (key_of o op)) (sym owner-is) ∙ off))

  -- a class without an operation that nobody is woken at has the operations of the statement
  has-operations : (core : Core) (me : Me) (env : List Value) (site : Site) → WaitsForAll core me at env site
      → list_all (λ (arm : Arm). without (owner_in site.scope me) whose op arm.op) site.arms ≡ true
  unfolding without
  has-operations core me env site waits =
      all-from (λ (arm : Arm). without (owner_in site.scope me) whose op arm.op) site.arms (λ k arm is. ap not (apart-keys (owner_in site.scope me) arm.op (waits.arms k arm is)))

-- how many wait follows from which do
counted-class : (owner : Owner) (op : ℕ) (old new : List Pending) → filter (is_in_class owner (λ n. n == op)) old ≡ filter (is_in_class owner (λ n. n == op)) new → waiting owner op old ≡ waiting owner op new
counted-class owner op old new same = sym (length-filter (is_of owner op) old) ∙ ap length same ∙ length-filter (is_of owner op) new

-- ---- one process

module _ (core : Core) (old new : World) (q : Start) (was : started old q.process ≡ Some q) (is : started new q.process ≡ Some q) where
  as-me : Option Start → Me
  as-me o = record { process = q.process; instance = unwrap_or (option_map (λ (s : Start). s.instance) o) 0 }

  me-old : me_of old q.process ≡ me_at q
  unfolding as-me
  me-old = ap as-me was

  me-new : me_of new q.process ≡ me_at q
  unfolding as-me
  me-new = ap as-me is

  me-same : me_of old q.process ≡ me_of new q.process
  me-same = me-old ∙ sym me-new

  -- whose operations of a scope are
  owner-at : (w : World) → me_of w q.process ≡ me_at q → (s : Scope) → owner_for w q.process s ≡ owner_in s (me_at q)
  owner-at w same Shared = ap (λ (m : Me). Inst m.instance) same
  owner-at w same Own = refl

  count-by : (op : ℕ) (s : Scope) → waiting (owner_in s (me_at q)) op old.pending ≡ waiting (owner_in s (me_at q)) op new.pending → waiting (owner_for old q.process s) op old.pending ≡ waiting (owner_for new q.process s) op new.pending
  count-by op s same = ap (λ o. waiting o op old.pending) (owner-at old me-old s) ∙ same ∙ ap (λ o. waiting o op new.pending) (sym (owner-at new me-new s))

  counted : old.pending ≡ new.pending → (op : ℕ) (o : Option Operation) → waiting_for old q.process op o ≡ waiting_for new q.process op o
  counted pending op None = refl
  counted pending op (Some operation) = count-by op operation.scope (ap (waiting (owner_in operation.scope (me_at q)) op) pending)

  -- a world that is the same in what choices read
  module _ (pending : old.pending ≡ new.pending) (variables : old.variables ≡ new.variables) where
    reading : reading_of core old q.process ≡ reading_of core new q.process
    reading = λ i. record { load = loaded_in (variables i); count = λ op. counted pending op (slice_get core.operations op) i; names = core.names }

    same-choice : (site : Site) (env : List Value) → choice_of core old q.process env site ≡ choice_of core new q.process env site
    same-choice site env = λ i. choice (reading i) site (me-same i) env (pending i)

    same-can : (site : Site) (c : Choice) → can_choose old site c ≡ can_choose new site c
    same-can site (chosen.Service place arm) = ap (λ ps. is_some (slice_get ps place)) pending
    same-can site chosen.Else = refl
    same-can site chosen.Nothing = refl
    same-can site (chosen.Bad fault arm) = refl

    same-select : (number : ℕ) (env : List Value) → can_select core old q.process number env ≡ can_select core new q.process number env
    same-select number env = by (slice_get core.sites number)
      where
        by : (o : Option Site) → can_select_in core old q.process env o ≡ can_select_in core new q.process env o
        by None = refl
        by (Some site) = same-can site (choice_of core old q.process env site) ∙ ap (can_choose new site) (same-choice site env)

  module _ (a c : ℕ) (not_a : q.process ≢ a) (not_c : q.process ≢ c) where
    -- where nothing changes but replies
    still-can : Still a c old new → (r : Request) → can_do core old q.process r ≡ can_do core new q.process r
    still-can still (request.Declare block var shape) = refl
    still-can still (request.Load block var path) = refl
    still-can still (request.Store block var path value) = refl
    still-can still (request.Invoke target args wants) = refl
    still-can still (request.Select site env) = same-select still.pending still.variables site env
    still-can still (request.Take ids) = ap (λ rs. is_some (find (answers_one ids) rs)) (still.heard.replies q.process not_a not_c)
    still-can still (request.Reply held back results) = refl
    still-can still (request.Forward held back target args) = refl
    still-can still (request.Count op) = refl
    still-can still (request.Write bytes) = refl
    still-can still (request.Read kind) = refl
    still-can still (request.EnsureGlobal global vm) = ap (λ instances. can_ensure core (record old { places = record old.places { instances = instances } }) global vm) still.instances
    still-can still (request.Create resource args vm) = ap (λ instances. can_create core (record old { places = record old.places { instances = instances } }) resource vm) still.instances
    still-can still request.MakeVm = refl
    still-can still (request.Destroy target) = refl
    still-can still (request.Finish answered back results) = refl
    still-can still (request.Stop status) = refl
    still-can still (request.Fail fault) = refl
    still-can still request.Age = refl
    still-can still (request.Wake until) = ap (λ moment. not (nat_lt moment until)) still.heard.moment

    module _ (at : Spot → Bool) (none : at places.Watched ≡ false) (heard : Heard a c old new) (sites : (env : List Value) (site : Site) → WaitsForAll core (me_at q) at env site → SameForSite core q.process env site old new) where
      always : (env : List Value) (site : Site) → WaitsAtSite core (me_at q) at env site → SameForSite core q.process env site old new
      always env site (inl here) = absurd (true≢false (sym here ∙ none))
      always env site (inr waits) = sites env site waits

      never : {P : Type 0} → at places.Watched ≡ true → P
      never here = absurd (true≢false (sym here ∙ none))

      same-for : (r : Request) → WaitsFor core (me_at q) at r → SameFor core q.process r old new
      same-for (request.Declare block var shape) waits = tt
      same-for (request.Load block var path) waits = tt
      same-for (request.Store block var path value) waits = tt
      same-for (request.Invoke target args wants) waits = tt
      same-for (request.Select number env) waits = λ site found. always env site (waits site found)
      same-for (request.Take ids) waits = heard.replies q.process not_a not_c
      same-for (request.Reply held back results) waits = tt
      same-for (request.Forward held back target args) waits = tt
      same-for (request.Count op) waits = tt
      same-for (request.Write bytes) waits = tt
      same-for (request.Read kind) waits = tt
      same-for (request.EnsureGlobal global vm) waits = never waits
      same-for (request.Create resource args vm) waits = never waits
      same-for request.MakeVm waits = tt
      same-for (request.Destroy target) waits = tt
      same-for (request.Finish answered back results) waits = tt
      same-for (request.Stop status) waits = tt
      same-for (request.Fail fault) waits = tt
      same-for request.Age waits = tt
      same-for (request.Wake until) waits = heard.moment

    module _ (at : Spot → Bool) (env : List Value) (site : Site) (waits : WaitsForAll core (me_at q) at env site) where
      watched : Watching
      watched = watching core (me_at q) at site.names env

      owner : Owner
      owner = owner_in site.scope (me_at q)

      owner-is : owner_in site.scope (me_of old q.process) ≡ owner
      unfolding owner
      owner-is = ap (owner_in site.scope) me-old

      site-by : (class : ℕ → Bool) → list_all (λ (arm : Arm). class arm.op) site.arms ≡ true → filter (is_in_class owner class) old.pending ≡ filter (is_in_class owner class) new.pending
          → ((home : Home) (var block : ℕ) (path : List Sel) → at_block at var (guard_block (me_at q) (home_seen site.names env) home) ≡ true → guard_block (me_at q) (home_seen site.names env) home ≡ Ok block
          → loaded_in old.variables block var path ≡ loaded_in new.variables block var path)
          → ((op : ℕ) (o : Option Operation) → at_operation at (me_at q) op o ≡ true → waiting_for old q.process op o ≡ waiting_for new q.process op o)
          → SameForSite core q.process env site old new
      unfolding watched
      site-by class has same cells counts = record {
        process = me-same;
        class = class;
        has_operations = has;
        invocations = subst (λ o. filter (is_in_class o class) old.pending ≡ filter (is_in_class o class) new.pending) (sym owner-is) same;
        watched = watched;
        has_names = waits.names;
        guards = record {
          cells = λ home var block path here seen. cells home var block path here (ap (λ m. guard_block m (home_seen site.names env) home) (sym me-old) ∙ seen);
          counts = λ op here. counts op (slice_get core.operations op) here;
          literals = refl;
        };
      }

      -- where no invocation comes or goes
      site-kept : old.pending ≡ new.pending
          → ((home : Home) (var block : ℕ) (path : List Sel) → at_block at var (guard_block (me_at q) (home_seen site.names env) home) ≡ true → guard_block (me_at q) (home_seen site.names env) home ≡ Ok block
          → loaded_in old.variables block var path ≡ loaded_in new.variables block var path)
          → SameForSite core q.process env site old new
      site-kept same cells =
          site-by (λ n. true) (all-from (λ arm. true) site.arms (λ k arm found. refl)) (ap (filter (is_in_class owner (λ n. true))) same) cells (λ op o here. counted same op o)

      -- nor a variable changes
      site-still : old.pending ≡ new.pending → old.variables ≡ new.variables → SameForSite core q.process env site old new
      site-still same variables = site-kept same (λ home var block path here seen. ap (λ vs. loaded_in vs block var path) variables)

      -- where one variable changes that the process doesn't wait for
      site-stored : (block var : ℕ) → at (variable_of block var) ≡ false → old.pending ≡ new.pending
          → ((other_block other : ℕ) → (other_block ≡ block → other ≢ var) → (path : List Sel) → loaded_in old.variables other_block other path ≡ loaded_in new.variables other_block other path)
          → SameForSite core q.process env site old new
      site-stored block var off same others =
          site-kept same (λ home other other_block path here seen. others other_block other (apart other_block other (subst (λ r. at_block at other r ≡ true) seen here)) path)
        where
          apart : (other_block other : ℕ) → at (variable_of other_block other) ≡ true → other_block ≡ block → other ≢ var
          apart other_block other here same_block same_var = true≢false (sym here ∙ ap (λ n. at (variable_of n other)) same_block ∙ ap (λ n. at (variable_of block n)) same_var ∙ off)

      -- where those of one operation come or go
      site-apart : (whose : Owner) (op : ℕ) → at (key_of whose op) ≡ false
          → ((other : Owner) (class : ℕ → Bool) → (class op && owner_eq whose other) ≡ false → filter (is_in_class other class) old.pending ≡ filter (is_in_class other class) new.pending)
          → old.variables ≡ new.variables → SameForSite core q.process env site old new
      unfolding owner
      site-apart whose op off same variables =
          site-by (without owner whose op) (has-operations at whose op off core (me_at q) env site waits) (same owner (without owner whose op) (apart-class owner whose op))
          (λ home var block path here seen. ap (λ vs. loaded_in vs block var path) variables) counts
        where
          counts : (other : ℕ) (o : Option Operation) → at_operation at (me_at q) other o ≡ true → waiting_for old q.process other o ≡ waiting_for new q.process other o
          counts other None here = refl
          counts other (Some operation) here =
              let counted_of : Owner = owner_in operation.scope (me_at q) in
              count-by other operation.scope
              (counted-class counted_of other old.pending new.pending (same counted_of (λ n. n == other) (ap (λ b. b && owner_eq whose counted_of) (nat_eq_equiv.symm op other) ∙ apart-keys at whose op off counted_of other here)))

    -- who waits for no invocation of an operation still cannot
    waits-apart : (owner : Owner) (op : ℕ) (at : Spot → Bool) → (at places.Watched || at (key_of owner op)) ≡ false → Apart a c owner op old new → (ask : Ask) → WaitsFor core (me_at q) at ask.request
        → comes_to (done_by core old q.process 0 ask.place ask.role ask.request) ≡ IsNot → comes_to (done_by core new q.process 0 ask.place ask.role ask.request) ≡ IsNot
    waits-apart owner op at off keeps ask waits cannot =
        let apart = both-off (at places.Watched) (at (key_of owner op)) off in
        still_not core old new q.process ask 0 0 (same-for at apart.0 keeps.heard (λ env site all. site-apart at env site all owner op apart.1 keeps.pending keeps.variables) ask.request waits) cannot

    -- who isn't woken still cannot
    pub still_waits : (change : Change) (at : Spot → Bool) → wakes change at ≡ false → Keeps a c change old new → (ask : Ask) → WaitsFor core (me_at q) at ask.request
        → comes_to (done_by core old q.process 0 ask.place ask.role ask.request) ≡ IsNot → comes_to (done_by core new q.process 0 ask.place ask.role ask.request) ≡ IsNot
    still_waits Nothing at off keeps ask waits cannot = as-before core old new q.process ask.place ask.role ask.request (still-can keeps ask.request) cannot
    still_waits Watched at off keeps ask waits cannot =
        still_not core old new q.process ask 0 0 (same-for at off keeps.heard (λ env site all. site-still at env site all keeps.pending keeps.variables) ask.request waits) cannot
    still_waits (Variable block var) at off keeps ask waits cannot =
        let apart = both-off (at places.Watched) (at (variable_of block var)) off in
        still_not core old new q.process ask 0 0 (same-for at apart.0 keeps.heard (λ env site all. site-stored at env site all block var apart.1 keeps.pending keeps.cells) ask.request waits) cannot
    still_waits (Class owner op) at off keeps ask waits cannot = waits-apart owner op at off keeps ask waits cannot
    still_waits (Gone owner op) at off keeps ask waits cannot = waits-apart owner op at off keeps.apart ask waits cannot
    still_waits Everything at off keeps ask waits cannot = absurd (true≢false off)
