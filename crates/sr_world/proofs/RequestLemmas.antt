-- What every state keeps, through each request.
use Rattle.std.proofs.Common.{◌≡◌, ℕ, ◌<◌, ◌≤◌, ◌==◌, ◌&&◌, not, Bool, true, false, cond, pos, List, [], ◌∷◌, ◌++◌, Option, None, Some, refl, ap, sym, ◌∙◌, arith, eq-eqb, true≢false, append-nil, inl, inr, ◌⊎◌}
use Rattle.std.specs.Prelude.{Result, Ok, Err, count_by, nat_lt, remove, slice_get}
use Rattle.sr_ask.specs.declared.answer.Answer.{Answer}
use Rattle.sr_ask.specs.declared.answer.Answer.TheVariants as answer
use Rattle.sr_ask.specs.declared.ask.Role.{Role}
use Rattle.sr_ask.specs.declared.ask.Role.TheVariants.{Boot, Initial, Proc as proc_role, Final}
use Rattle.sr_ask.specs.declared.request.ReadKind.{ReadKind}
use Rattle.sr_ask.specs.declared.request.ReadKind.TheVariants as kind
use Rattle.sr_ask.specs.declared.request.Request.{Request}
use Rattle.sr_ask.specs.declared.request.Request.TheVariants as request
use Rattle.sr_calls.specs.Calls.{answers_one, earliest_reply, items_of, without_first}
use Rattle.sr_calls.specs.declared.held.Reply.{Reply}
use Rattle.sr_core.specs.declared.component.Core.{Core}
use Rattle.sr_core.specs.declared.site.Site.{Site}
use Rattle.sr_instances.specs.Instances.{Instance, global_in, state_of}
use Rattle.sr_queue.specs.declared.pending.Pending.{Pending}
use Rattle.sr_select.specs.declared.choice.Choice.{Choice}
use Rattle.sr_select.specs.declared.choice.Choice.TheVariants as chosen
use Rattle.sr_store.specs.Variables.{Variables, declared_in, loaded_in, stored_in}
use Rattle.sr_value.specs.declared.capability.Cap.{Cap}
use Rattle.sr_value.specs.declared.capability.Cap.TheVariants as cap
use Rattle.sr_value.specs.declared.capability.Owner.{Owner}
use Rattle.sr_value.specs.declared.fault.Fault.{Fault}
use Rattle.sr_value.specs.declared.place.Place.{Place}
use Rattle.sr_value.specs.declared.value.Value.{Value}
use Rattle.sr_world.specs.Answering.{answer as answered, answer_held, duty_held, held_of}
use Rattle.sr_world.specs.Callers.{makes_duty}
use Rattle.sr_world.specs.Deciding.{is_select}
use Rattle.sr_world.specs.Does.{Does, Did, Makes, Cannot, Ends, Undecided, done_or, where_some}
use Rattle.sr_world.specs.Endings.{answer_unless, close, close_or, destroy, end_after, finish, main_instance, may_close, status_in, stop_with}
use Rattle.sr_world.specs.Inputs.{char_read, fitting_read, is_decided, item_read, token_in, token_read, token_value}
use Rattle.sr_world.specs.Invoking.{arrive, instance_of_process, invoke, is_gone, owner_instance}
use Rattle.sr_world.specs.Making.{component_at, has_final_code, is_open, is_ready, make_ready, needs_ready, run_final, run_initial, run_proc, start_in}
use Rattle.sr_world.specs.Selecting.{by_choice, choice_of, held_from, service}
use Rattle.sr_world.specs.Steps.{create_on, done_by, duty_for, ensure_found, on_machine, ready_after, reply}
use Rattle.sr_world.specs.Updates.{add_instance, add_machine, drop_pending, drop_reply, end_all, end_instance, end_process, fix, hold, release, set_state, use_name}
use Rattle.sr_world.specs.Worlds.{World, is_live}
use Rattle.sr_world.specs.declared.duty.Duty.{Duty}
use Rattle.sr_world.specs.declared.ends.End.TheVariants as end
use Rattle.sr_instances.specs.declared.state.State.TheVariants.{Closing}
use Rattle.sr_world.specs.Runs.{with_answer}
use Rattle.sr_world.specs.Sound.{times_used}
use Rattle.sr_world.specs.Spots.{Calls, RepliedTo, Waiting, is_astray, Tests, Thing, DutyOf, OpenInvocation, ServiceOf, astray, is_picked, is_took, number_of, stands, tests_of}
use Rattle.sr_world.proofs.CallLemmas.{count-taken}
use Rattle.sr_world.proofs.CountLemmas.{count-remove, count-without_first, one}
use Rattle.sr_world.proofs.StandLemmas.{Fewer, IsClear, at, clear-taken, drop_pending-fewer, drop_pending-takes, drop_reply-fewer, hold-gains, use_name-fewer}
use Rattle.sr_world.proofs.KeepLemmas.{Keeps, add_machine-kept, add_pending-kept, answered-kept, drop_pending-kept, drop_reply-kept, fresh-fewer, hold-kept, in_hand-fewer, is-known, live-used, none-marked, quiet-kept, release-kept, same-fewer, use_name-kept}
use Rattle.sr_world.proofs.MoveLemmas.{Hand, IsNamed, K, Loses, Same, answered-same, end_after-loses, end_all-loses, end_instance-loses, end_process-loses, ended-hand, fix-kept, given-kept, hold-new, loses-then, make_ready-loses, new-fresh, new-hand, plain-kept, released-hand, run_final-kept, run_initial-kept, run_proc-kept, used-once}

-- ---- what a step leaves

-- what is done leaves the numbers, and adds to the output; only a choice takes up an invocation
pub record DoneWell (calls : Calls) (given : ℕ → List Answer) (selects : Bool) (w : World) (actor : ℕ) (w' : World) (a : Answer) : Type 0 where
  pub unpicked : selects ≡ false → (id : ℕ) → is_picked id a ≡ false
  pub kept : Keeps calls (at w' (with_answer actor a given))
  pub used : w'.used ≡ w.used
  pub ended : w'.ended ≡ w.ended
  pub output : (more : List ℕ) × (w'.output ≡ w.output ++ more)

-- an invocation of this number may have arrived
abbrev pub Arrived : ℕ → World → World → Type 0
Arrived name w w' = (w'.pending ≡ w.pending) ⊎ ((p : Pending) × (w'.pending ≡ w.pending ++ p ∷ []) × (p.id ≡ name))

-- what makes something gives its number out, and leaves the output; `asks` says whether it makes a duty to its process
pub record MadeWell (calls : Calls) (given : ℕ → List Answer) (asks : Bool) (w : World) (actor name : ℕ) (w' : World) (a : Answer) : Type 0 where
  pub kept : IsNamed calls given w actor name asks → Keeps calls (at w' (with_answer actor a given))
  pub used : w'.used ≡ w.used ++ name ∷ []
  pub output : w'.output ≡ w.output
  pub ended : w'.ended ≡ w.ended
  pub pending : Arrived name w w'

module _ (calls : Calls) (given : ℕ → List Answer) (actor name : ℕ) (selects asks : Bool) where
  abbrev pub Well : World → Does → Type 0
  Well w (Did w' a) = DoneWell calls given selects w actor w' a
  Well w (Makes w' a) = MadeWell calls given asks w actor name w' a
  Well w Cannot = Unit {0}
  Well w (Ends ending) = Unit {0}
  Well w Undecided = Unit {0}

  -- an answer that takes nothing up
  abbrev IsPlain : Answer → Type 0
  IsPlain a = ((id : ℕ) → is_took id a ≡ false) × ((id : ℕ) → is_picked id a ≡ false) × ((astray calls).answer actor a ≡ false)

  module _ {A : Type 0} (w : World) where
    well-where : (o : Option A) (next : A → Does) → ((a : A) → Well w (next a)) → Well w (where_some o next)
    well-where None next h = tt
    well-where (Some a) next h = h a

    well-done : (place : Place) (r : Result A Fault) (next : A → Does) → ((a : A) → Well w (next a)) → Well w (done_or place r next)
    well-done place (Ok a) next h = h a
    well-done place (Err fault) next h = tt

  well-if : (w : World) (b : Bool) (x y : Does) → Well w x → Well w y → Well w (cond b x y)
  well-if w true x y hx hy = hx
  well-if w false x y hx hy = hy

  -- ---- reading

  plain-fits : (rest : List ℕ) (o : Option Value) → IsPlain (fitting_read rest o).answer
  plain-fits rest None = (λ id. refl, λ id. refl, refl)
  plain-fits rest (Some v) = (λ id. refl, λ id. refl, refl)

  plain-token : (k : ReadKind) (rest token : List ℕ) → IsPlain (token_read k rest token).answer
  plain-token k rest [] = (λ id. refl, λ id. refl, refl)
  plain-token k rest (byte ∷ bytes) = plain-fits rest (token_value k (byte ∷ bytes))

  plain-char : (rest : List ℕ) → IsPlain (char_read rest).answer
  plain-char [] = (λ id. refl, λ id. refl, refl)
  plain-char (byte ∷ bytes) = (λ id. refl, λ id. refl, refl)

  plain-read : (k : ReadKind) (rest : List ℕ) → IsPlain (item_read k rest).answer
  plain-read kind.Char rest = plain-char rest
  plain-read kind.Int rest = plain-token kind.Int rest (token_in rest)
  plain-read kind.Bool rest = plain-token kind.Bool rest (token_in rest)
  plain-read kind.Str rest = plain-token kind.Str rest (token_in rest)

  module _ (w : World) (k : K calls given w) (live : is_live w actor ≡ true) where
    acts : 1 ≤ times_used w actor
    acts = live-used calls given w actor k live

    same-text : w.output ≡ w.output ++ []
    same-text = sym (append-nil w.output)

    -- a world that was kept and a plain answer
    did : (w' : World) (a : Answer) → K calls given w' → w'.used ≡ w.used → w'.ended ≡ w.ended → (more : List ℕ) → w'.output ≡ w.output ++ more → IsPlain a → Well w (Did w' a)
    did w' a kept used ended more output plain = record {
      unpicked = λ none. plain.1;
      kept = plain-kept calls given w' actor a kept (let e = ap (count_by (λ u. u == actor)) used in omega (arith, acts, e)) plain.0 plain.1 plain.2;
      used = used;
      ended = ended;
      output = (more, output);
    }

    quietly : (variables : Variables) (rest output : List ℕ) (fixed : Option ℕ) (moment : ℕ) (more : List ℕ) (a : Answer) → output ≡ w.output ++ more → IsPlain a
        → Well w (Did (record w { variables = variables; rest = rest; output = output; fixed = fixed; moment = moment }) a)
    quietly variables rest output fixed moment more a grown plain =
        did (record w { variables = variables; rest = rest; output = output; fixed = fixed; moment = moment }) a (quiet-kept calls given w variables rest output w.ended fixed moment k) refl refl more grown plain

    only-variables : (variables : Variables) (a : Answer) → IsPlain a → Well w (Did (record w { variables = variables }) a)
    only-variables variables a plain = quietly variables w.rest w.output w.fixed w.moment [] a same-text plain

    nothing-new : (a : Answer) → IsPlain a → Well w (Did w a)
    nothing-new a plain = did w a k refl refl [] same-text plain

    made : (w' : World) (a : Answer) → (IsNamed calls given w actor name asks → K calls given w') → w'.used ≡ w.used ++ name ∷ [] → w'.output ≡ w.output → w'.ended ≡ w.ended → Arrived name w w' → IsPlain a → Well w (Makes w' a)
    made w' a kept used output ended pending plain = record {
      kept = λ named.
          plain-kept calls given w' actor a (kept named)
          (let e = ap (count_by (λ u. u == actor)) used in omega (arith, acts, e, (use_name-fewer given name w).used actor)) plain.0 plain.1 plain.2;
      used = used;
      output = output;
      ended = ended;
      pending = pending;
    }

    -- ---- invocations

    -- an invocation from a world that still has what it takes, whose duty is in hand once the number is given out
    module _ (from : World) (kept : K calls given from) (same : Same w from) where
      from-new : IsNamed calls given w actor name asks → times_used from name ≡ 0
      from-new named = ap (count_by (λ u. u == name)) same.used ∙ named.new

      from-used : from.used ++ name ∷ [] ≡ w.used ++ name ∷ []
      from-used = ap (λ us. us ++ name ∷ []) same.used

      module _ (duty : Duty) (hand : IsNamed calls given w actor name asks → Hand calls given (use_name name from) duty) where
        well-arrive : (core : Core) (owner : Owner) (op : ℕ) (args : List Value) (proc : Option ℕ) → Well w (Makes (arrive core name owner op args duty proc from) (answer.Made name))
        well-arrive core owner op args (Some proc) =
            made (run_proc core name (owner_instance from owner) proc args duty from) (answer.Made name)
            (λ named. run_proc-kept calls given core name (owner_instance from owner) proc args duty from kept (from-new named) named.nonzero (hand named)) from-used same.output same.ended (inl same.pending)
            (λ id. refl, λ id. refl, refl)
        well-arrive core owner op args None =
            let waits : Pending = record { id = name; op = op; owner = owner; args = args; back = duty.back; back_id = duty.back_id } in
            made (arrive core name owner op args duty None from) (answer.Made name)
            (λ named.
            add_pending-kept calls given (use_name name from) name op owner args duty (use_name-kept calls given name from kept (from-new named) named.nonzero) (hand named)
            (fresh-fewer name (at from given) (at (use_name name from) given) (use_name-fewer given name from) (new-fresh calls given from name kept (from-new named)))
            (omega (arith, used-once calls given from name))) from-used same.output same.ended (inr (waits, ap (λ ps. ps ++ waits ∷ []) same.pending, refl))
            (λ id. refl, λ id. refl, refl)

        well-at-once : (results : Option (List Value)) → Well w (Makes (answered duty results (use_name name from)) (answer.Made name))
        well-at-once results =
            let same' = answered-same duty results (use_name name from) in
            made (answered duty results (use_name name from)) (answer.Made name)
            (λ named. answered-kept calls given (use_name name from) duty results (use_name-kept calls given name from kept (from-new named) named.nonzero) (hand named))
            (same'.used ∙ from-used) (same'.output ∙ same.output) (same'.ended ∙ same.ended) (inl (same'.pending ∙ same.pending)) (λ id. refl, λ id. refl, refl)

        well-invoke : (core : Core) (place : Place) (target : Cap) (args : List Value) → Well w (invoke core place name target args duty from)
        well-invoke core place cap.Null args = tt
        well-invoke core place cap.Noop args = well-at-once None
        well-invoke core place (cap.Op owner op) args =
            well-where w (slice_get core.operations op) _
            (λ operation. well-if w (is_gone from owner) _ _ tt (well-arrive core owner op args operation.proc))
        well-invoke core place (cap.Res instance) args = tt
        well-invoke core place (cap.Vm machine) args = tt

    -- ---- replies

    well-take : (ids : List ℕ) (o : Option Reply) → earliest_reply w.replies actor ids ≡ o → Well w (where_some o (λ reply. Did (drop_reply actor ids w) (answer.Took reply.id reply.results)))
    well-take ids None found = tt
    well-take ids (Some reply) found = record {
      unpicked = λ none id. refl;
      kept = given-kept calls given after actor (answer.Took reply.id reply.results) (drop_reply-kept calls given actor ids w k) acts clear right;
      used = refl;
      ended = refl;
      output = ([], same-text);
    }
      where
        after : World
        after = drop_reply actor ids w

        reply-of : (tests : Tests) → tests.reply actor reply ≡ true → stands tests (at after given) (RepliedTo actor) < stands tests (at w given) (RepliedTo actor)
        reply-of tests marked = omega (arith, count-taken (tests.reply actor) (answers_one ids) w.replies actor reply found, ap one marked)

        right : not (calls actor reply.id) ≡ false
        right =
            none-marked (count_by ((astray calls).reply actor) (without_first (answers_one ids) (items_of w.replies actor))) (stands (astray calls) (at w given) (RepliedTo actor)) (not (calls actor reply.id))
            (count-without_first ((astray calls).reply actor) (answers_one ids) (items_of w.replies actor) reply found) (k.duties.callers (RepliedTo actor))

        clear : (thing : Thing) → (tests_of thing).answer actor (answer.Took reply.id reply.results) ≡ true → IsClear thing (at after given) × (1 ≤ times_used after (number_of thing))
        clear (DutyOf id) is =
            let less = reply-of (tests_of (DutyOf id)) is in (
              clear-taken calls (at w given) (at after given) (DutyOf id) (RepliedTo actor) k.duties (drop_reply-fewer given actor ids w) (k.numbers.once id) less,
              omega (arith, less, k.duties.numbers (DutyOf id) (RepliedTo actor)),
            )
        clear (OpenInvocation id) is = absurd (true≢false (sym is))
        clear (ServiceOf id) is = absurd (true≢false (sym is))

    well-reply : (role : Role) (held : ℕ) (results : List Value) → Well w (Did (reply role actor held results w) answer.Done)
    well-reply role held results = by role (held == actor)
      where
        answering : World
        answering = answer_held actor held results w

        kept : K calls given answering
        kept = answered-kept calls given (release actor held w) (duty_held w actor held) (Some results) (release-kept calls given actor held w k) (released-hand calls given w actor held k)

        same : Same w answering
        same = let s = answered-same (duty_held w actor held) (Some results) (release actor held w) in record { used = s.used; output = s.output; pending = s.pending; ended = s.ended }

        plainly : Well w (Did answering answer.Done)
        plainly = did answering answer.Done kept same.used same.ended [] (same.output ∙ same-text) (λ id. refl, λ id. refl, refl)

        by : (role : Role) (own : Bool) → Well w (Did (ready_after role own actor answering) answer.Done)
        by Initial true =
            let loses = make_ready-loses calls given (instance_of_process answering actor) answering in
            did (make_ready (instance_of_process answering actor) answering) answer.Done (loses.kept kept) (loses.same.used ∙ same.used) (loses.same.ended ∙ same.ended) [] (loses.same.output ∙ same.output ∙ same-text) (λ id. refl, λ id. refl, refl)
        by Initial false = plainly
        by Boot own = plainly
        by proc_role own = plainly
        by Final own = plainly

    -- ---- instances

    well-found : (core : Core) (global machine : ℕ) (o : Option ℕ) → Well w (ensure_found core name global w machine o)
    well-found core global machine None =
        made (run_initial core name global machine [] 0 w) (answer.Made name) (λ named. run_initial-kept calls given core name global machine [] 0 w k named.new named.nonzero) refl refl refl (inl refl)
        (λ id. refl, λ id. refl, refl)
    well-found core global machine (Some instance) = well-if w (is_ready (state_of w.places instance)) _ _ (nothing-new answer.Ready (λ id. refl, λ id. refl, refl)) tt

    well-machine : (place : Place) (target : Cap) (next : ℕ → Does) → ((machine : ℕ) → Well w (next machine)) → Well w (on_machine place target next)
    well-machine place cap.Null next h = tt
    well-machine place cap.Noop next h = tt
    well-machine place (cap.Op owner op) next h = tt
    well-machine place (cap.Res instance) next h = tt
    well-machine place (cap.Vm machine) next h = h machine

    well-create : true ≡ asks → (core : Core) (resource machine : ℕ) (args : List Value) → Well w (create_on core actor name resource args w machine)
    well-create is core resource machine args =
        let used : World = use_name name w in
        let placed : World = add_instance name resource machine used in
        well-if w (needs_ready core w resource machine) _ _
        (made (hold name (held_of name (duty_for true actor name)) (run_initial core name resource machine args actor w)) (answer.Made name)
        (λ named.
        hold-new calls given name (duty_for true actor name) (start_in core placed name name Initial resource args actor) w placed refl k named.new (new-hand calls given w actor name true asks is k named)
        (same-fewer given used placed refl refl refl refl) (run_initial-kept calls given core name resource machine args actor w k named.new named.nonzero)) refl refl refl (inl refl)
        (λ id. refl, λ id. refl, refl)) tt

    well-open : true ≡ asks → (core : Core) (instance : ℕ) → Well w (cond (has_final_code core (component_at w instance)) (Makes (close core name instance (duty_for true actor name) w) (answer.Made name))
        (Makes (answered (duty_for true actor name) (Some []) (end_instance instance (use_name name w))) (answer.Made name)))
    well-open is core instance =
        let used : World = use_name name w in
        let duty : Duty = duty_for true actor name in
        let closing : World = set_state instance Closing used in
        let ends = end_instance-loses calls given instance used in
        let same' = answered-same duty (Some []) (end_instance instance used) in
        well-if w (has_final_code core (component_at w instance)) _ _
        (made (close core name instance duty w) (answer.Made name)
        (λ named.
        hold-new calls given name duty (start_in core used name instance Final (component_at w instance) [] actor) w closing refl k named.new (new-hand calls given w actor name true asks is k named)
        (same-fewer given used closing refl refl refl refl) (run_final-kept calls given core name instance actor w k named.new named.nonzero)) refl refl refl (inl refl)
        (λ id. refl, λ id. refl, refl))
        (made (answered duty (Some []) (end_instance instance used)) (answer.Made name)
        (λ named.
        answered-kept calls given (end_instance instance used) duty (Some []) (ends.kept (use_name-kept calls given name w k named.new named.nonzero))
        (in_hand-fewer calls (at used given) (at (end_instance instance used) given) duty ends.fewer (new-hand calls given w actor name true asks is k named)))
        (same'.used ∙ ends.same.used) (same'.output ∙ ends.same.output) (same'.ended ∙ ends.same.ended) (inl (same'.pending ∙ ends.same.pending)) (λ id. refl, λ id. refl, refl))

    same-world : Same w w
    same-world = record { used = refl; output = refl; pending = refl; ended = refl }

    well-destroy : true ≡ asks → (core : Core) (place : Place) (target : Cap) → Well w (destroy core place name target (duty_for true actor name) w)
    well-destroy is core place cap.Null = tt
    well-destroy is core place cap.Noop = well-at-once w k same-world (duty_for true actor name) (new-hand calls given w actor name true asks is k) (Some [])
    well-destroy is core place (cap.Op owner op) = tt
    well-destroy is core place (cap.Res instance) = well-if w (is_open (state_of w.places instance)) _ _ (well-open is core instance) tt
    well-destroy is core place (cap.Vm machine) = tt

    -- ---- ends

    well-finish : (role : Role) (is_answered : Bool) (back : ℕ) (results : List Value) → Well w (Did (finish role actor is_answered back results w) answer.Done)
    well-finish role is_answered back results = by is_answered
      where
        after : World
        after = end_after role back actor w

        loses : Loses calls given w after
        loses = loses-then calls given w (end_process actor w) after (end_process-loses calls given actor w) (end_after-loses calls given role back actor w)

        hand : Hand calls given after (duty_held w actor actor)
        hand = in_hand-fewer calls (at (end_process actor w) given) (at after given) (duty_held w actor actor) (end_after-loses calls given role back actor w).fewer (ended-hand calls given w actor actor k)

        by : (b : Bool) → Well w (Did (answer_unless b (duty_held w actor actor) results after) answer.Done)
        by true = did after answer.Done (loses.kept k) loses.same.used loses.same.ended [] (loses.same.output ∙ same-text) (λ id. refl, λ id. refl, refl)
        by false =
            let same' = answered-same (duty_held w actor actor) (Some results) after in
            did (answered (duty_held w actor actor) (Some results) after) answer.Done (answered-kept calls given after (duty_held w actor actor) (Some results) (loses.kept k) hand)
            (same'.used ∙ loses.same.used) (same'.ended ∙ loses.same.ended) [] (same'.output ∙ loses.same.output ∙ same-text) (λ id. refl, λ id. refl, refl)

    well-stop : (core : Core) (place : Place) (status : Option ℕ) → Well w (stop_with core place name status w)
    well-stop core place None = tt
    well-stop core place (Some n) = by (main_instance core w)
      where
        by : (main : Option Instance) → Well w (close_or core name (Some n) (end.Stopped n) w main)
        by None = tt
        by (Some main) =
            well-if w (may_close core main) _ _
            (made (run_final core name main.name 0 (fix (Some n) (end_all w))) answer.Done
            (λ named. run_final-kept calls given core name main.name 0 (fix (Some n) (end_all w)) (fix-kept calls given (Some n) (end_all w) ((end_all-loses calls given w).kept k)) named.new named.nonzero) refl refl refl (inl refl)
            (λ id. refl, λ id. refl, refl)) tt

    -- ---- choices

    well-service : selects ≡ true → (place arm : ℕ) (o : Option Pending) → slice_get w.pending place ≡ o → Well w (where_some o (service w actor place arm))
    well-service is place arm None found = tt
    well-service chooses place arm (Some p) found = record {
      unpicked = λ none. absurd (true≢false (sym chooses ∙ none));
      kept = given-kept calls given serviced actor (answer.Picked p.id arm p.args p.back) held acts picked refl;
      used = refl;
      ended = refl;
      output = ([], same-text);
    }
      where
        dropped : World
        dropped = drop_pending place w

        serviced : World
        serviced = hold actor (held_from p) dropped

        duty : Duty
        duty = record { back = p.back; back_id = p.back_id }

        fewer : Fewer (at w given) (at dropped given)
        fewer = drop_pending-fewer given place p w found

        clear : (thing : Thing) → (tests_of thing).pending p ≡ true → IsClear thing (at dropped given)
        clear thing is = clear-taken calls (at w given) (at dropped given) thing Waiting k.duties fewer (k.numbers.once (number_of thing)) (drop_pending-takes given place p w found (tests_of thing) is)

        used : (thing : Thing) → (tests_of thing).pending p ≡ true → 1 ≤ times_used w (number_of thing)
        used thing is = let less = drop_pending-takes given place p w found (tests_of thing) is in omega (arith, less, k.duties.numbers thing Waiting)

        marked : (p.back == 0) ≡ false → (tests_of (DutyOf p.back_id)).pending p ≡ true
        marked some = ap (λ b. not b && (p.back_id == p.back_id)) some ∙ eq-eqb p.back_id p.back_id refl

        hand : Hand calls given dropped duty
        hand = record {
          clear = λ some. clear (DutyOf p.back_id) (marked some);
          used = λ some. used (DutyOf p.back_id) (marked some);
          known = is-known calls p.back p.back_id
              (none-marked (count_by (astray calls).pending (remove w.pending place)) (stands (astray calls) (at w given) Waiting) (is_astray calls p.back p.back_id)
              (count-remove (astray calls).pending w.pending place p found) (k.duties.callers Waiting));
        }

        itself : (p.id == p.id) ≡ true
        itself = eq-eqb p.id p.id refl

        held : K calls given serviced
        held = hold-kept calls given dropped actor p.id duty (drop_pending-kept calls given place p w found k) live hand (clear (OpenInvocation p.id) itself) (used (OpenInvocation p.id) itself)

        picked : (thing : Thing) → (tests_of thing).answer actor (answer.Picked p.id arm p.args p.back) ≡ true → IsClear thing (at serviced given) × (1 ≤ times_used serviced (number_of thing))
        picked (DutyOf id) is = absurd (true≢false (sym is))
        picked (OpenInvocation id) is = absurd (true≢false (sym is))
        picked (ServiceOf id) is =
            ((λ spot. let none = clear (ServiceOf id) is spot in omega (arith, (hold-gains given actor (held_from p) dropped).spots (tests_of (ServiceOf id)) spot, none)), used (ServiceOf id) is)

    well-chosen : selects ≡ true → (site : Site) (choice : Choice) → Well w (by_choice w actor site choice)
    well-chosen is site (chosen.Service place arm) = well-service is place arm (slice_get w.pending place) refl
    well-chosen is site chosen.Else = nothing-new answer.Else (λ id. refl, λ id. refl, refl)
    well-chosen is site chosen.Nothing = tt
    well-chosen is site (chosen.Bad fault arm) = well-where w (slice_get site.arms arm) _ (λ a. tt)

    -- ---- the table

    pub well : (core : Core) (place : Place) (role : Role) (r : Request) → is_select r ≡ selects → makes_duty r ≡ asks → Well w (done_by core w actor name place role r)
    well core place role (request.Declare block var shape) is duty =
        well-done w place (declared_in w.variables block var shape) _ (λ variables. only-variables variables answer.Done (λ id. refl, λ id. refl, refl))
    well core place role (request.Load block var path) is duty =
        well-done w place (loaded_in w.variables block var path) _ (λ value. nothing-new (answer.Got value) (λ id. refl, λ id. refl, refl))
    well core place role (request.Store block var path value) is duty =
        well-done w place (stored_in w.variables block var path value) _ (λ variables. only-variables variables answer.Done (λ id. refl, λ id. refl, refl))
    well core place role (request.Invoke target args wants) is duty =
        well-invoke w k same-world (duty_for wants actor name) (new-hand calls given w actor name wants asks duty k) core place target args
    well core place role (request.Select site env) is duty = well-where w (slice_get core.sites site) _ (λ s. well-chosen (sym is) s (choice_of core w actor env s))
    well core place role (request.Take ids) is duty = well-take ids (earliest_reply w.replies actor ids) refl
    well core place role (request.Reply held back results) is duty = well-reply role held results
    well core place role (request.Forward held back target args) is duty =
        let released : World = release actor held w in
        well-invoke released (release-kept calls given actor held w k) (record { used = refl; output = refl; pending = refl; ended = refl }) (duty_held w actor held)
        (λ named. in_hand-fewer calls (at released given) (at (use_name name released) given) (duty_held w actor held) (use_name-fewer given name released) (released-hand calls given w actor held k)) core place target args
    well core place role (request.Count op) is duty = well-where w (slice_get core.operations op) _ (λ operation. nothing-new _ (λ id. refl, λ id. refl, refl))
    well core place role (request.Write bytes) is duty = quietly w.variables w.rest (w.output ++ bytes) w.fixed w.moment bytes answer.Done refl (λ id. refl, λ id. refl, refl)
    well core place role (request.Read kind) is duty =
        well-if w (is_decided kind w.rest w.ended) _ _
        (quietly w.variables (item_read kind w.rest).rest w.output w.fixed w.moment [] (item_read kind w.rest).answer same-text (plain-read kind w.rest)) tt
    well core place role (request.EnsureGlobal global vm) is duty =
        well-where w (slice_get core.components global) _ (λ component. well-machine place vm _ (λ machine. well-found core global machine (global_in w.places global machine)))
    well core place role (request.Create resource args vm) is duty =
        well-where w (slice_get core.components resource) _ (λ component. well-machine place vm _ (λ machine. well-create duty core resource machine args))
    well core place role request.MakeVm is duty =
        made (add_machine name (use_name name w)) (answer.Made name)
        (λ named.
        add_machine-kept calls given name (use_name name w) (use_name-kept calls given name w k named.new named.nonzero)
        (omega (arith, named.new, k.numbers.machines name, used-once calls given w name))) refl refl refl (inl refl)
        (λ id. refl, λ id. refl, refl)
    well core place role (request.Destroy target) is duty = well-destroy duty core place target
    well core place role (request.Finish answered back results) is duty = well-finish role answered back results
    well core place role (request.Stop status) is duty = well-stop core place (status_in status)
    well core place role (request.Fail fault) is duty = tt
    well core place role request.Age is duty = nothing-new (answer.Number (pos w.moment)) (λ id. refl, λ id. refl, refl)
    well core place role (request.Wake until) is duty = well-if w (nat_lt w.moment until) _ _ tt (nothing-new answer.Done (λ id. refl, λ id. refl, refl))
