-- What a step does that makes a request, and what the request names.
use Rattle.std.specs.Prelude.{ℕ, Bool, true, false, Option, Some, None}
use Rattle.sr_ask.specs.declared.request.Request.{Request}
use Rattle.sr_ask.specs.declared.request.Request.TheVariants as request
use Rattle.sr_value.specs.declared.capability.Cap.{Cap}
use Rattle.sr_value.specs.declared.capability.Cap.TheVariants as caps
use Rattle.sr_trace.specs.declared.traced.Act.{Act}
use Rattle.sr_trace.specs.declared.traced.Act.TheVariants as act
use Rattle.sr_trace.specs.declared.traced.Subject.{Subject}
use Rattle.sr_trace.specs.declared.traced.Subject.TheVariants as subject

-- an invocation whose caller waits for the reply is a call, and any other a send
abbrev pub invoking : Bool → Act
invoking true = act.Call
invoking false = act.Send

abbrev pub act_of : Request → Act
act_of (request.Declare block var shape) = act.Declare
act_of (request.Load block var path) = act.Load
act_of (request.Store block var path value) = act.Store
act_of (request.Invoke target args wants) = invoking wants
act_of (request.Select site env) = act.Service
act_of (request.Take ids) = act.Take
act_of (request.Reply held back results) = act.Reply
act_of (request.Forward held back target args) = act.Forward
act_of (request.Count op) = act.Count
act_of (request.Write bytes) = act.Write
act_of (request.Read kind) = act.Read
act_of (request.EnsureGlobal global vm) = act.Import
act_of (request.Create resource args vm) = act.Create
act_of request.MakeVm = act.MakeMachine
act_of (request.Destroy target) = act.Destroy
act_of (request.Finish answered back results) = act.Finish
act_of (request.Stop status) = act.Stop
act_of (request.Fail fault) = act.Fail
act_of request.Age = act.Age
act_of (request.Wake until) = act.Nap

-- what is invoked, unless it is `null` or `noop`
abbrev pub invoked : Cap → Subject
invoked (caps.Op owner op) = subject.Operation op
invoked _ = subject.Nothing

abbrev pub serviced : Option ℕ → Subject
serviced None = subject.Nothing
serviced (Some op) = subject.Operation op

-- what a request names: an operation, or a component
abbrev pub subject_of : Request → Option ℕ → Subject
subject_of (request.Invoke target args wants) served = invoked target
subject_of (request.Forward held back target args) served = invoked target
subject_of (request.Select site env) served = serviced served
subject_of (request.Count op) served = subject.Operation op
subject_of (request.EnsureGlobal global vm) served = subject.Component global
subject_of (request.Create resource args vm) served = subject.Component resource
subject_of _ served = subject.Nothing
