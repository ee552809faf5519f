-- `in`, and the services of its arms: their code asks what they ask.
use Rattle.std.proofs.Common.{◌≡◌, ℕ, zero, suc, ◌+◌, ◌≤◌, ◌<◌, ◌⊎◌, inl, inr, min, Bool, List, [], ◌∷◌, ◌++◌, length, map, Option, Some, None, refl, sym, ◌∙◌, ap, subst, get_or, option_map, slice_get, arith, length-append}
use Rattle.std.proofs.lemmas.List.{length-map}
use Rattle.std.proofs.lemmas.Option.{slice_get-get_or, slice_get_past}
use Rattle.sr_value.specs.declared.place.Place.{Place}
use Rattle.sr_value.specs.declared.value.Value.{Value}
use Rattle.sr_ask.specs.Asking.{selected}
use Rattle.sr_ask.specs.Behaviors.{Stage, Outcome, Came, Stops, Doing, and_then, give, ◌>>=◌}
use Rattle.sr_ask.specs.Replies.{set_service}
use Rattle.sr_ask.specs.declared.ask.Asks.{Asks}
use Rattle.sr_ask.specs.declared.environment.Service.{Service}
use Rattle.sr_ask.specs.declared.forms.Pick.{Pick}
use Rattle.sr_ask.specs.declared.forms.Selection.{Selection}
use Rattle.sr_ask.specs.declared.forms.Selection.TheVariants.{Service as a_service, Otherwise}
use Rattle.sr_ask.specs.declared.request.Request.TheVariants.{Select as select_request}
use Rattle.sr_core.specs.Formals.{result_vars}
use Rattle.sr_core.specs.declared.component.Core.{Core}
use Rattle.sr_core.specs.declared.site.Arm.{Arm}
use Rattle.sr_core.specs.declared.site.Named.{Named}
use Rattle.sr_core.specs.declared.site.Named.TheVariants.{Own as named_own, Home as named_home, Machine as named_machine}
use Rattle.sr_core.specs.declared.site.Site.{Site}
use Rattle.sr_core.specs.declared.statement.Scope.TheVariants.{Own as own_scope}
use Rattle.sr_core.specs.declared.statement.Statement.{Statement}
use Rattle.sr_code.specs.Acts.{point, goes, after_choice, after_pick, named_held}
use Rattle.sr_code.specs.Operands.{join_value, put_list, put_pick, put_service}
use Rattle.sr_code.specs.Runs.{Machine, go, here_at, then_asks}
use Rattle.sr_code.specs.Stretches.{Emits, Extends, Follows, Has}
use Rattle.sr_code.specs.declared.code.Coded.{Coded}
use Rattle.sr_code.specs.declared.instruction.Instruction.TheVariants.{AddNamed, EndService, Jump, OpenService, Reply, Select}
use Rattle.sr_code.specs.declared.operands.Operands.{Operands}
use Rattle.sr_code.proofs.Stretches.{extends_one, extends_self, extends_then, follows_as, follows_give, follows_then, lower_part, runs_act, runs_past, runs_to, upper_part}
use Rattle.sr_meaning.specs.declared.ending.Ending.{Ending}
use Rattle.sr_meaning.specs.declared.ending.Ending.TheVariants.{Through, Left, Turned}
use Rattle.sr_meaning.specs.Expressions.{Meaning, in_order}
use Rattle.sr_meaning.specs.Here.{Here, request}
use Rattle.sr_meaning.specs.Statements.{block_meaning, in_meaning, make_formals, make_returned, meaning_of, named_value, reply_meaning, selection_meaning, served, service_for, service_meaning}
use Rattle.sr_gen_expr.specs.Emitting.{Gives, Takes, put_nothing, put_only, tree_here}
use Rattle.sr_gen_expr.proofs.Stretching.{emits_as, follows_at, follows_last, gives_first}
use Rattle.sr_gen.specs.Doing.{Acts, Closes, Onward, Serves, ServesEach, pad_ways, site_in, way}
use Rattle.sr_gen.specs.declared.ways.Ways.{Ways}
use Rattle.sr_gen.proofs.Endings.{jumps, onward_grown}
use Rattle.sr_meaning.specs.Pieces.{each_block}

-- ---- the end of a service

pub closes_to : {to : ℕ} (core : Core) {line : Place} {c0 c1 c2 c3 : List Coded} → Emits line (Jump to) c0 c1 → Emits line EndService c1 c2 → Emits line Reply c2 c3 → Closes to core line c0 c3
closes_to core {line = line} {c0 = c0} {c2 = c2} jump end reply = record {
  grows = extends_then to_end (extends_one reply);
  runs = λ low m h outer on.
      let below = lower_part (extends_one reply) h in
      follows_then (runs_past m reply (upper_part to_end h) (put_service outer on) (reply_meaning (tree_here m line)) (λ _. put_service outer on) refl) (λ _.
      follows_last (λ _ stage. jumps m jump (lower_part (extends_one end) below) low on stage)
      (runs_past m end (upper_part (extends_one jump) below) (put_service outer on) (set_service outer) (λ _. on) refl));
} where
  to_end : Extends c0 c2
  to_end = extends_then (extends_one jump) (extends_one end)

-- ---- a service

-- three pieces and an ending
closed_three : {A B : Type 0} {start : Stage → Asks} (first : Doing A) (second : A → Doing B) (ending : Ending) {last : Ending → Stage → Asks}
    → Follows start (first >>= second) (λ _. last ending) → Follows start (first >>= λ a. second a >>= λ _. give ending) last
closed_three first second ending {last = last} f = record { same = λ stage. f.same stage ∙ both (first stage) second ending last } where
  one : {B : Type 0} (o : Outcome B) (ending : Ending) (last : Ending → Stage → Asks) → then_asks o (λ _. last ending) ≡ then_asks (and_then o (λ _. give ending)) last
  one (Came b stage) ending last = refl
  one (Stops asks) ending last = refl

  both : {A B : Type 0} (o : Outcome A) (second : A → Doing B) (ending : Ending) (last : Ending → Stage → Asks)
      → then_asks (and_then o second) (λ _. last ending) ≡ then_asks (and_then o (λ a. second a >>= λ _. give ending)) last
  both (Came a stage) second ending last = one (second a stage) ending last
  both (Stops asks) second ending last = refl

pub serves_arm : {ways : Ways} {to : ℕ} {core : Core} {line : Place} (arm : Arm) (block : List (Meaning Ending)) {c0 c1 c2 c3 c4 c5 c6 c7 : List Coded}
    → Closes ways.left core line c0 c1 → Closes ways.turned core line c1 c2 → Closes to core line c2 c3
    → Acts (pad_ways (length c1) (length c2) (length c3)) core line (block_meaning block) c3 c4
    → Gives put_nothing core line (make_returned arm.returned) c4 c5
    → Takes put_list (put_only put_nothing) core line (λ args. make_formals own_scope arm.formals args) c5 c6
    → Emits line (OpenService (result_vars arm.formals arm.returned)) c6 c7 → Serves ways to core line arm block c0 c7
serves_arm {ways = ways} {to = to} {core = core} {line = line} arm block {c0 = c0} {c1 = c1} {c2 = c2} {c3 = c3} {c4 = c4} {c5 = c5} {c6 = c6} {c7 = c7} left turned close acts name formals opens = record {
  grows = extends_then to_formals (extends_one opens);
  runs = λ onward low m same h pick on. record {
    same = λ stage.
        (runs_act m opens (upper_part to_formals h) (put_pick pick on)).same stage
        ∙ (inside onward low m same (lower_part (extends_one opens) h) pick.args stage.service on).same (record stage { service = service_for pick arm });
  };
} where
  pads : Extends c0 c3
  pads = extends_then (extends_then left.grows turned.grows) close.grows

  to_block : Extends c0 c4
  to_block = extends_then pads acts.grows

  to_name : Extends c0 c5
  to_name = extends_then to_block name.grows

  to_formals : Extends c0 c6
  to_formals = extends_then to_name formals.grows

  inner_onward : Onward (pad_ways (length c1) (length c2) (length c3)) (length c3)
  inner_onward = record {
    left = let a = turned.grows.above in let b = close.grows.above in omega arith;
    turned = let b = close.grows.above in omega arith;
    returned = omega arith;
  }

  -- after the block: the pad of its ending
  closed : Onward ways (length c0) → to ≤ length c0 → (m : Machine) → Has c3 (length c0) (length c3) m.code → (outer : Service) (on : Operands) (ending : Ending)
      → Follows (go m (point (way (pad_ways (length c1) (length c2) (length c3)) (length c3) ending) (put_service outer on)))
      (reply_meaning (tree_here m line) >>= λ _. set_service outer) (λ _. go m (point (way ways to (served ending)) on))
  closed onward low m h outer on Through = close.runs (let a = (extends_then left.grows turned.grows).above in omega arith) m (upper_part (extends_then left.grows turned.grows) h) outer on
  closed onward low m h outer on Left = left.runs onward.left m (lower_part turned.grows (lower_part close.grows h)) outer on
  closed onward low m h outer on Turned = turned.runs (let a = left.grows.above in let l = onward.turned in omega arith) m (upper_part left.grows (lower_part close.grows h)) outer on
  closed onward low m h outer on Ending.Returned = close.runs (let a = (extends_then left.grows turned.grows).above in omega arith) m (upper_part (extends_then left.grows turned.grows) h) outer on

  inside : Onward ways (length c0) → to ≤ length c0 → (m : Machine) → m.core ≡ core → Has c6 (length c0) (length c6) m.code → (args : List Value) (outer : Service) (on : Operands)
      → Follows (go m (point (length c6) (put_service outer (put_list args on))))
      (make_formals own_scope arm.formals args (tree_here m line) >>= λ _.
      make_returned arm.returned (tree_here m line) >>= λ _.
      block_meaning block (tree_here m line) >>= λ ending.
      reply_meaning (tree_here m line) >>= λ _.
      set_service outer >>= λ _.
      give (served ending))
      (λ ending. go m (point (way ways to ending) on))
  inside onward low m same h args outer on =
      let at_name = lower_part formals.grows h in
      let at_block = lower_part name.grows at_name in
      follows_then (formals.runs m same (upper_part to_name h) args (put_service outer on)) (λ _.
      follows_then (name.runs m same (upper_part to_block at_name) (put_service outer on)) (λ _.
      follows_then (acts.runs inner_onward m same (upper_part pads at_block) (put_service outer on)) (λ ending.
      closed_three (reply_meaning (tree_here m line)) (λ _. set_service outer) (served ending)
      (closed onward low m (lower_part acts.grows at_block) outer on ending))))

-- ---- all arms

pub less_or_not : (k n : ℕ) → (k < n) ⊎ (n ≤ k)
less_or_not k zero = inr (omega arith)
less_or_not zero (suc n) = inl (omega arith)
less_or_not (suc k) (suc n) = after (less_or_not k n) where
  after : (k < n) ⊎ (n ≤ k) → (suc k < suc n) ⊎ (suc n ≤ suc k)
  after (inl h) = inl (omega arith)
  after (inr h) = inr (omega arith)

pub serves_none : (ways : Ways) (to : ℕ) (core : Core) (line : Place) (arms : List Arm) (blocks : List (List (Meaning Ending))) (c0 : List Coded) → ServesEach ways to core line arms blocks [] c0 c0
serves_none ways to core line arms blocks c0 = record {
  grows = extends_self c0;
  runs = λ onward low m same h pick on within. absurd (omega (arith, within));
}

pub appended : {A : Type 0} (xs : List A) (x : A) (k : ℕ) → k < length (xs ++ x ∷ [])
    → ((k < length xs) × (slice_get (xs ++ x ∷ []) k ≡ slice_get xs k)) ⊎ ((k ≡ length xs) × (slice_get (xs ++ x ∷ []) k ≡ Some x))
appended [] x zero within = inr (refl, refl)
appended [] x (suc k) within = absurd (omega (arith, within))
appended (y ∷ ys) x zero within = inl (omega arith, refl)
appended (y ∷ ys) x (suc k) within = after (appended ys x k (omega (arith, within))) where
  after : ((k < length ys) × (slice_get (ys ++ x ∷ []) k ≡ slice_get ys k)) ⊎ ((k ≡ length ys) × (slice_get (ys ++ x ∷ []) k ≡ Some x))
      → ((suc k < length (y ∷ ys)) × (slice_get (ys ++ x ∷ []) k ≡ slice_get ys k)) ⊎ ((suc k ≡ length (y ∷ ys)) × (slice_get (ys ++ x ∷ []) k ≡ Some x))
  after (inl h) = let l = h.0 in inl (omega arith, h.1)
  after (inr h) = inr (ap suc h.0, h.1)

pub serves_more : {ways : Ways} {to : ℕ} {core : Core} {line : Place} (arms : List Arm) (blocks : List (List (Meaning Ending))) (addresses : List ℕ) (arm : Arm) (block : List (Meaning Ending)) {c0 c1 c2 : List Coded}
    → slice_get arms (length addresses) ≡ Some arm → slice_get blocks (length addresses) ≡ Some block
    → ServesEach ways to core line arms blocks addresses c0 c1 → Serves ways to core line arm block c1 c2 → ServesEach ways to core line arms blocks (addresses ++ length c2 ∷ []) c0 c2
serves_more {ways = ways} {to = to} {core = core} {line = line} arms blocks addresses arm block {c0 = c0} {c1 = c1} {c2 = c2} arm_is block_is each serves = record {
  grows = extends_then each.grows serves.grows;
  runs = λ onward low m same h pick on within. served_one onward low m same h pick on (appended addresses (length c2) pick.arm within);
} where
  served_one : Onward ways (length c0) → to ≤ length c0 → (m : Machine) → m.core ≡ core → Has c2 (length c0) (length c2) m.code → (pick : Pick) (on : Operands)
      → ((pick.arm < length addresses) × (slice_get (addresses ++ length c2 ∷ []) pick.arm ≡ slice_get addresses pick.arm)) ⊎ ((pick.arm ≡ length addresses) × (slice_get (addresses ++ length c2 ∷ []) pick.arm ≡ Some (length c2)))
      → Follows (go m (after_pick (slice_get (addresses ++ length c2 ∷ []) pick.arm) pick to on)) (service_meaning pick (slice_get arms pick.arm) (slice_get blocks pick.arm) (tree_here m line))
      (λ ending. go m (point (way ways to ending) on))
  served_one onward low m same h pick on (inl known) =
      follows_at (λ stage. ap (λ found. go m (after_pick found pick to on) stage) known.1) (each.runs onward low m same (lower_part serves.grows h) pick on known.0)
  served_one onward low m same h pick on (inr last) =
      follows_at (λ stage. ap (λ found. go m (after_pick found pick to on) stage) last.1)
      (follows_as (ap (λ k. service_meaning pick (slice_get arms k) (slice_get blocks k) (tree_here m line)) last.0
      ∙ ap (λ found. service_meaning pick found (slice_get blocks (length addresses)) (tree_here m line)) arm_is ∙ ap (λ found. service_meaning pick (Some arm) found (tree_here m line)) block_is)
      (serves.runs (onward_grown onward each.grows) (let a = each.grows.above in omega arith) m same (upper_part each.grows h) pick on))

-- ---- what the guards name

same_named : (named : Named) (m : Machine) (line : Place) → named_value named (tree_here m line) ≡ named_held named (here_at m line)
same_named (named_own var) m line = refl
same_named (named_home at) m line = refl
same_named named_machine m line = refl

pub joins_named : {core : Core} {line : Place} (named : Named) {c0 c1 : List Coded} → Emits line (AddNamed named) c0 c1 → Gives join_value core line (named_value named) c0 c1
joins_named {line = line} named {c0 = c0} e = gives_first e (named_value named) (λ m on. ap (λ d. d >>= λ v. goes (length c0) (join_value v on)) (sym (same_named named m line)))

-- ---- in

-- the same of a site that was found
abbrev in_at : Site → ℕ → List (List (Meaning Ending)) → List (Meaning Ending) → Meaning Ending
in_at found site blocks otherwise here =
    in_order (map named_value found.names) here >>= λ env.
    request (selected (length blocks) found.has_else) (select_request site env) here >>= λ selection.
    selection_meaning found blocks otherwise selection here

pub acts_in : {ways : Ways} {core : Core} {line : Place} (site : ℕ) (blocks : List (List (Meaning Ending))) (otherwise : List (Meaning Ending)) (addresses : List ℕ) {c0 c1 c2 c3 c4 : List Coded}
    → Acts ways core line (block_meaning otherwise) c0 c1 → ServesEach ways (length c0) core line (site_in core site).arms blocks addresses c1 c2
    → length addresses ≡ min (length (site_in core site).arms) (length blocks) → Emits line (Select site (length blocks) (site_in core site).has_else addresses (length c1) (length c0)) c2 c3
    → Gives put_list core line (in_order (map named_value (site_in core site).names)) c3 c4 → Acts ways core line (in_meaning site blocks otherwise) c0 c4
acts_in {ways = ways} {core = core} {line = line} site blocks otherwise addresses {c0 = c0} {c1 = c1} {c2 = c2} {c3 = c3} block each all select names = record {
  grows = extends_then to_select names.grows;
  runs = λ onward m same h on.
      let below = lower_part names.grows h in
      let serving = lower_part (extends_one select) below in
      follows_as (ap (λ c. in_at (site_in c site) site blocks otherwise (tree_here m line)) same)
      (follows_then (names.runs m same (upper_part to_select h) on) (λ env.
      follows_then (runs_to m select (upper_part to_arms below) (put_list env on)
      (request (selected (length blocks) (site_in core site).has_else) (select_request site env) (tree_here m line)) (λ selection. after_choice selection addresses (length c1) (length c0) on) refl) (λ selection.
      chosen onward m same serving on selection)));
} where
  to_arms : Extends c0 c2
  to_arms = extends_then block.grows each.grows

  to_select : Extends c0 c3
  to_select = extends_then to_arms (extends_one select)

  none_after : {A : Type 0} (xs : List A) (k : ℕ) → length xs ≤ k → slice_get xs k ≡ None
  none_after xs k h = slice_get_past xs k h

  not_known : (m : Machine) (on : Operands) (pick : Pick) → length addresses ≤ pick.arm → (length (site_in core site).arms ≤ length addresses) ⊎ (length blocks ≤ length addresses)
      → Follows (go m (after_pick (slice_get addresses pick.arm) pick (length c0) on)) (service_meaning pick (slice_get (site_in core site).arms pick.arm) (slice_get blocks pick.arm) (tree_here m line))
      (λ ending. go m (point (way ways (length c0) ending) on))
  not_known m on pick past (inl few) =
      follows_at (λ stage. ap (λ found. go m (after_pick found pick (length c0) on) stage) (none_after addresses pick.arm past))
      (follows_as (ap (λ found. service_meaning pick found (slice_get blocks pick.arm) (tree_here m line)) (none_after (site_in core site).arms pick.arm (omega arith)))
      (follows_give (λ ending. go m (point (way ways (length c0) ending) on)) Through))
  not_known m on pick past (inr few) =
      follows_at (λ stage. ap (λ found. go m (after_pick found pick (length c0) on) stage) (none_after addresses pick.arm past))
      (follows_as (ap (λ found. service_meaning pick (slice_get (site_in core site).arms pick.arm) found (tree_here m line)) (none_after blocks pick.arm (omega arith)) ∙ no_block (slice_get (site_in core site).arms pick.arm) pick (tree_here m line))
      (follows_give (λ ending. go m (point (way ways (length c0) ending) on)) Through)) where
        no_block : (arm : Option Arm) (pick : Pick) (here : Here) → service_meaning pick arm None here ≡ give Through
        no_block None pick here = refl
        no_block (Some arm) pick here = refl

  few : (length (site_in core site).arms < length blocks) ⊎ (length blocks ≤ length (site_in core site).arms) → (length (site_in core site).arms ≤ length addresses) ⊎ (length blocks ≤ length addresses)
  few (inl h) = inl (omega (arith, all))
  few (inr h) = inr (omega (arith, all))

  either : (m : Machine) → Onward ways (length c0) → m.core ≡ core → Has c2 (length c0) (length c2) m.code → (on : Operands) (pick : Pick) → (pick.arm < length addresses) ⊎ (length addresses ≤ pick.arm)
      → Follows (go m (after_pick (slice_get addresses pick.arm) pick (length c0) on)) (service_meaning pick (slice_get (site_in core site).arms pick.arm) (slice_get blocks pick.arm) (tree_here m line))
      (λ ending. go m (point (way ways (length c0) ending) on))
  either m onward same h on pick (inl within) = each.runs (onward_grown onward block.grows) block.grows.above m same (upper_part block.grows h) pick on within
  either m onward same h on pick (inr past) = not_known m on pick past (few (less_or_not (length (site_in core site).arms) (length blocks)))

  chosen : Onward ways (length c0) → (m : Machine) → m.core ≡ core → Has c2 (length c0) (length c2) m.code → (on : Operands) (selection : Selection)
      → Follows (go m (after_choice selection addresses (length c1) (length c0) on)) (selection_meaning (site_in core site) blocks otherwise selection (tree_here m line)) (λ ending. go m (point (way ways (length c0) ending) on))
  chosen onward m same h on (a_service pick) = either m onward same h on pick (less_or_not pick.arm (length addresses))
  chosen onward m same h on Otherwise = block.runs onward m same (lower_part each.grows h) on

-- ---- items by their places

pub item_at : {A : Type 0} (xs : List A) (k : ℕ) (x : A) → k < length xs → x ≡ get_or xs k x → slice_get xs k ≡ Some x
item_at xs k x within is = slice_get-get_or xs k x within ∙ ap (λ y. Some y) (sym is)

pub mapped_at : {A B : Type 0} (f : A → B) (xs : List A) (k : ℕ) (x : A) → slice_get xs k ≡ Some x → slice_get (map f xs) k ≡ Some (f x)
mapped_at f [] k x is = absurd (cc is)
mapped_at f (y ∷ ys) zero x is = ap (option_map f) is
mapped_at f (y ∷ ys) (suc k) x is = mapped_at f ys k x is

-- one arm more, with its block
pub serves_next : {ways : Ways} {to : ℕ} {core : Core} {line : Place} (arms : List Arm) (blocks : List (List Statement)) (addresses : List ℕ) (at address : ℕ) (arm : Arm) (block found : List Statement) {c0 c1 c2 : List Coded}
    → at ≡ length addresses → at < min (length arms) (length blocks) → arm ≡ get_or arms at arm → found ≡ get_or blocks at found → block ≡ found → address ≡ length c2
    → ServesEach ways to core line arms (each_block blocks) addresses c0 c1 → Serves ways to core line arm (map meaning_of block) c1 c2
    → ServesEach ways to core line arms (each_block blocks) (addresses ++ address ∷ []) c0 c2
serves_next {ways = ways} {to = to} {core = core} {line = line} arms blocks addresses at address arm block found {c0 = c0} {c2 = c2} at_is within arm_is found_is block_is address_is each serves =
    let P : ℕ → Type 0 = λ n. ServesEach ways to core line arms (each_block blocks) (addresses ++ n ∷ []) c0 c2 in
    let n : at < length arms = omega arith in
    let k : at < length blocks = omega arith in
    subst P (sym address_is)
    (serves_more arms (each_block blocks) addresses arm (map meaning_of block)
    (ap (slice_get arms) (sym at_is) ∙ item_at arms at arm n arm_is)
    (ap (slice_get (each_block blocks)) (sym at_is) ∙ mapped_at (map meaning_of) blocks at found (item_at blocks at found k found_is) ∙ ap (λ b. Some (map meaning_of b)) (sym block_is))
    each serves)

-- ---- as they are emitted

pub services_begin : (ways : Ways) (to : ℕ) (core : Core) (line : Place) (arms : List Arm) (blocks : List (List Statement)) (addresses : List ℕ) (c0 : List Coded) → addresses ≡ []
    → (0 ≡ length addresses) × (0 ≤ min (length arms) (length blocks)) × ServesEach ways to core line arms (each_block blocks) addresses c0 c0
services_begin ways to core line arms blocks addresses c0 is =
    let P : List ℕ → Type 0 = λ found. (0 ≡ length found) × (0 ≤ min (length arms) (length blocks)) × ServesEach ways to core line arms (each_block blocks) found c0 c0 in
    subst P (sym is) (refl, omega arith, serves_none ways to core line arms (each_block blocks) c0)

pub one_more_in : (xs : List ℕ) (x n : ℕ) → n ≡ length xs → n + 1 ≡ length (xs ++ x ∷ [])
one_more_in xs x n is = omega (arith, is, length-append xs (x ∷ []))

pub services_step : {ways : Ways} {to : ℕ} {core : Core} {line : Place} (arms : List Arm) (blocks : List (List Statement)) (addresses added : List ℕ) (at address : ℕ) (arm : Arm) (block found : List Statement) {c0 c1 c2 : List Coded}
    → (at ≡ length addresses) × (at ≤ min (length arms) (length blocks)) × ServesEach ways to core line arms (each_block blocks) addresses c0 c1 → at < min (length arms) (length blocks)
    → arm ≡ get_or arms at arm → found ≡ get_or blocks at found → block ≡ found → address ≡ length c2 → added ≡ addresses ++ address ∷ []
    → Serves ways to core line arm (map meaning_of block) c1 c2
    → (at + 1 ≡ length added) × (at + 1 ≤ min (length arms) (length blocks)) × ServesEach ways to core line arms (each_block blocks) added c0 c2
services_step {ways = ways} {to = to} {core = core} {line = line} arms blocks addresses added at address arm block found {c0 = c0} {c2 = c2} so_far within arm_is found_is block_is address_is added_is serves =
    let P : List ℕ → Type 0 = λ xs. (at + 1 ≡ length xs) × (at + 1 ≤ min (length arms) (length blocks)) × ServesEach ways to core line arms (each_block blocks) xs c0 c2 in
    subst P (sym added_is)
    (one_more_in addresses address at so_far.0, omega (arith, within), serves_next arms blocks addresses at address arm block found so_far.0 within arm_is found_is block_is address_is so_far.2 serves)

pub acts_in_row : {ways : Ways} {core : Core} {line : Place} (site : ℕ) (blocks : List (List Statement)) (otherwise : List (Meaning Ending)) (addresses : List ℕ) (arms : List Arm) (has : Bool) (names : List Named)
    (end first count : ℕ) {c0 c1 c2 c3 c4 : List Coded} → end ≡ length c0 → first ≡ length c1 → count ≡ length blocks → arms ≡ (site_in core site).arms → has ≡ (site_in core site).has_else → names ≡ (site_in core site).names
    → Acts ways core line (block_meaning otherwise) c0 c1 → ServesEach ways end core line arms (each_block blocks) addresses c1 c2 → length addresses ≡ min (length arms) (length blocks)
    → Emits line (Select site count has addresses first end) c2 c3 → Gives put_list core line (in_order (map named_value names)) c3 c4 → Acts ways core line (in_meaning site (each_block blocks) otherwise) c0 c4
acts_in_row {ways = ways} {core = core} {line = line} site blocks otherwise addresses arms has names end first count {c0 = c0} {c1 = c1} {c2 = c2} {c3 = c3} {c4 = c4} end_is first_is count_is arms_are has_is names_are block each all select given =
    let P : ℕ → Type 0 = λ n. ServesEach ways n core line arms (each_block blocks) addresses c1 c2 in
    let Q : List Arm → Type 0 = λ xs. ServesEach ways (length c0) core line xs (each_block blocks) addresses c1 c2 in
    let R : List Named → Type 0 = λ xs. Gives put_list core line (in_order (map named_value xs)) c3 c4 in
    let size : length (each_block blocks) ≡ length blocks = simp length-map in
    acts_in site (each_block blocks) otherwise addresses block (subst Q arms_are (subst P end_is each))
    (all ∙ ap (λ xs. min (length xs) (length blocks)) arms_are ∙ ap (λ n. min (length (site_in core site).arms) n) (sym size))
    (emits_as
    (ap (λ n. Select site n has addresses first end) (count_is ∙ sym size) ∙ ap (λ b. Select site (length (each_block blocks)) b addresses first end) has_is
    ∙ ap (λ n. Select site (length (each_block blocks)) (site_in core site).has_else addresses n end) first_is
    ∙ ap (λ n. Select site (length (each_block blocks)) (site_in core site).has_else addresses (length c1) n) end_is)
    select)
    (subst R names_are given)

-- what is read at a place is read there again, whatever stands for it past the end
pub read_again : {A : Type 0} (xs : List A) (k : ℕ) (otherwise : A) → k < length xs → get_or xs k otherwise ≡ get_or xs k (get_or xs k otherwise)
read_again [] k otherwise within = absurd (omega (arith, within))
read_again (x ∷ xs) zero otherwise within = refl
read_again (x ∷ xs) (suc k) otherwise within = read_again xs k otherwise (omega (arith, within))
