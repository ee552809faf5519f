-- The invocation in service, and the replies that a `co` waits for.
use Rattle.std.specs.Prelude.{ℕ, Bool, true, false, List, [], ◌∷◌, ◌++◌, map, Option, Some, None, ◌==◌, if◌then◌else◌}
use Rattle.std.specs.List.{find}
use Rattle.sr_value.specs.declared.capability.Cap.{Cap}
use Rattle.sr_value.specs.declared.value.Value.{Value}
use Rattle.sr_value.specs.declared.value.Value.TheVariants.{Capa}
use Rattle.sr_ask.specs.Asking.{done, made}
use Rattle.sr_ask.specs.Behaviors.{Stage, Doing, Came, give, ◌>>=◌, ◌>>◌}
use Rattle.sr_ask.specs.Here.{Here, request}
use Rattle.sr_ask.specs.Places.{own_at, own_or_nothing}
use Rattle.sr_ask.specs.declared.answer.Answer.{Answer}
use Rattle.sr_ask.specs.declared.answer.Answer.TheVariants.{Took}
use Rattle.sr_ask.specs.declared.environment.Gives.{Gives}
use Rattle.sr_ask.specs.declared.environment.Gives.TheVariants.{Values, Instance}
use Rattle.sr_ask.specs.declared.environment.Out.{Out}
use Rattle.sr_ask.specs.declared.environment.Own.{Own}
use Rattle.sr_ask.specs.declared.environment.Service.{Service}
use Rattle.sr_ask.specs.declared.request.Request.TheVariants.{Invoke, Take, Reply, Forward as forward_request}

-- ---- services

abbrev pub set_service : Service → Doing (Unit {0})
set_service service stage = Came tt (record stage { service = service })

abbrev pub gives_now : Gives → List (Option Own) → Here → List Value
gives_now (Values vars) own here = map (λ var. own_or_nothing (own_at own var)) vars
gives_now Instance own here = Capa (Cap.Res here.start.instance) ∷ []

-- the present results of the invocation in service
abbrev pub results_now : Here → Stage → List Value
results_now here stage = gives_now stage.service.gives stage.own here

abbrev pub mark_answered : Doing (Unit {0})
mark_answered stage = Came tt (record stage { service = record stage.service { answered = true } })

-- a reply gives the present results, where none was given before
abbrev pub reply_unless : Bool → Here → Doing (Unit {0})
reply_unless true here stage = Came tt stage
reply_unless false here stage =
    (request done (Reply stage.service.held stage.service.back (results_now here stage)) here >> mark_answered) stage

abbrev pub reply_meaning : Here → Doing (Unit {0})
reply_meaning here stage = reply_unless stage.service.answered here stage

-- the duty to answer goes to another operation; where it is answered already, that is only sent to
abbrev pub forward_unless : Bool → Cap → List Value → Here → Doing (Unit {0})
forward_unless true target args here stage = (request made (Invoke target args false) here >>= λ _. give tt) stage
forward_unless false target args here stage =
    (request made (forward_request stage.service.held stage.service.back target args) here >> mark_answered) stage

abbrev pub forward_meaning : Cap → List Value → Here → Doing (Unit {0})
forward_meaning target args here stage = forward_unless stage.service.answered target args here stage

-- ---- co

abbrev pub push_out : Out → Doing (Unit {0})
push_out out stage = Came tt (record stage { out = stage.out ++ out ∷ [] })

abbrev pub set_out : List Out → Doing (Unit {0})
set_out out stage = Came tt (record stage { out = out })

-- those that are out, without the first of this number
abbrev pub without_out : List Out → ℕ → List Out
without_out [] id = []
without_out (out ∷ outs) id = if out.id == id then outs else out ∷ without_out outs id

-- A reply to one of the invocations that are out.
pub record Completion : Type 0 where
  pub out : Out
  pub results : Option (List Value)

abbrev pub completion_of : Option Out → Option (List Value) → Option Completion
completion_of None results = None
completion_of (Some out) results = Some (record { out = out; results = results })

abbrev pub took_one : List Out → Answer → Option Completion
took_one outs (Took id results) = completion_of (find (λ out. out.id == id) outs) results
took_one outs _ = None

abbrev pub take_one : Here → Doing Completion
take_one here stage = request (took_one stage.out) (Take (map (λ out. out.id) stage.out)) here stage
