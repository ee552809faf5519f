-- What a step changes that processes may wait for, besides replies.
use Rattle.std.specs.Prelude.{ℕ, suc, ◌==◌, Bool, true, false, Option, Some, None, slice_get}
use Rattle.sr_ask.specs.declared.answer.Answer.{Answer}
use Rattle.sr_ask.specs.declared.answer.Answer.TheVariants.{Picked}
use Rattle.sr_ask.specs.declared.ask.Ask.{Ask}
use Rattle.sr_ask.specs.declared.ask.Role.{Role}
use Rattle.sr_ask.specs.declared.ask.Role.TheVariants.{Initial, Final}
use Rattle.sr_ask.specs.declared.request.Request.{Request}
use Rattle.sr_ask.specs.declared.request.Request.TheVariants as request
use Rattle.sr_core.specs.declared.component.Core.{Core}
use Rattle.sr_core.specs.declared.component.Operation.{Operation}
use Rattle.sr_core.specs.declared.owner.Me.{Me}
use Rattle.sr_core.specs.declared.site.Arm.{Arm}
use Rattle.sr_core.specs.declared.site.Site.{Site}
use Rattle.sr_core.specs.declared.statement.Scope.{Scope}
use Rattle.sr_select.specs.Choices.{owner_in}
use Rattle.sr_value.specs.declared.capability.Cap.{Cap}
use Rattle.sr_value.specs.declared.capability.Cap.TheVariants as cap
use Rattle.sr_value.specs.declared.capability.Owner.{Owner}
use Rattle.sr_plain.specs.declared.change.Change.{Change}
use Rattle.sr_plain.specs.declared.change.Change.TheVariants.{Nothing, Watched, Variable, Class, Gone, Everything}

abbrev pub owner_at : Scope → Me → Owner
owner_at scope me = owner_in scope me

-- an invocation of an operation with a proc starts a process; any other arrives
abbrev pub arrival : Owner → ℕ → Option ℕ → Change
arrival owner op (Some proc) = Nothing
arrival owner op None = Class owner op

abbrev pub call_of : Owner → ℕ → Option Operation → Change
call_of owner op None = Nothing
call_of owner op (Some operation) = arrival owner op operation.proc

abbrev pub change_of_call : Core → Cap → Change
change_of_call core (cap.Op owner op) = call_of owner op (slice_get core.operations op)
change_of_call core _ = Nothing

-- an invocation of the operation of an arm goes
abbrev pub goes_at : Owner → Option Arm → Change
goes_at owner None = Nothing
goes_at owner (Some arm) = Gone owner arm.op

abbrev pub class_of : Me → ℕ → Option Site → Change
class_of me arm None = Nothing
class_of me arm (Some site) = goes_at (owner_at site.scope me) (slice_get site.arms arm)

abbrev pub chosen_at : Me → Option Site → Answer → Change
chosen_at me site (Picked id arm args back) = class_of me arm site
chosen_at me site _ = Nothing

abbrev pub change_of_choice : Core → Me → ℕ → Answer → Change
change_of_choice core me site answer = chosen_at me (slice_get core.sites site) answer

-- initial code that replies to its `create` makes its instance ready
abbrev pub change_of_reply : Role → Bool → Change
change_of_reply Initial true = Watched
change_of_reply role own = Nothing

-- so does the end of initial code; final code that a `destroy` began ends its instance
abbrev pub change_of_end : Role → ℕ → Change
change_of_end Initial back = Watched
change_of_end Final (suc caller) = Everything
change_of_end role back = Nothing

abbrev pub change_by : Core → Me → Role → Request → Answer → Change
change_by core me role (request.Declare block var shape) answer = Variable block var
change_by core me role (request.Store block var path value) answer = Variable block var
change_by core me role (request.EnsureGlobal global vm) answer = Watched
change_by core me role (request.Create resource args vm) answer = Watched
change_by core me role (request.Invoke target args wants) answer = change_of_call core target
change_by core me role (request.Forward held back target args) answer = change_of_call core target
change_by core me role (request.Select site env) answer = change_of_choice core me site answer
change_by core me role (request.Reply held back results) answer = change_of_reply role (held == me.process)
change_by core me role (request.Finish answered back results) answer = change_of_end role back
change_by core me role (request.Destroy target) answer = Everything
change_by core me role (request.Stop status) answer = Everything
change_by core me role _ answer = Nothing

-- what the step of a request changes that was answered so
abbrev pub change_of : Core → Me → Ask → Answer → Change
change_of core me ask answer = change_by core me ask.role ask.request answer

-- anything may have changed, and any process ended
abbrev pub is_everything : Change → Bool
is_everything Everything = true
is_everything _ = false

-- who ends itself by a request: the one that asks, where it finishes
abbrev pub gone_by : Request → ℕ → Option ℕ
gone_by (request.Finish answered back results) process = Some process
gone_by _ process = None
