-- Who waits for the answer that a request gives or hands on.
use Rattle.std.specs.Prelude.{ℕ, ◌==◌, Bool, true, false, Option, Some, None, if◌then◌else◌}
use Rattle.sr_ask.specs.declared.request.Request.{Request}
use Rattle.sr_ask.specs.declared.request.Request.TheVariants as request
use Rattle.sr_world.specs.Answering.{duty_held, no_duty}
use Rattle.sr_world.specs.Steps.{duty_for}
use Rattle.sr_world.specs.Worlds.{World}
use Rattle.sr_world.specs.declared.duty.Duty.{Duty}

-- nobody waits where it is process 0
abbrev pub caller_in : World → ℕ → Request → ℕ
caller_in world actor (request.Reply held back results) = (duty_held world actor held).back
caller_in world actor (request.Forward held back target args) = (duty_held world actor held).back
caller_in world actor (request.Finish answered back results) = (duty_held world actor actor).back
caller_in world actor _ = 0

-- ---- the duty

-- what has been answered is answered no more
abbrev pub duty_unless : Bool → World → ℕ → Duty
duty_unless true world actor = no_duty actor
duty_unless false world actor = duty_held world actor actor

-- A reply and an end answer the duty that the process holds, and `forward` hands it on. A call, `create` and `destroy`
-- make one under the number of their step, which some answer at once.
abbrev pub duty_by : World → ℕ → ℕ → Request → Duty
duty_by world actor name (request.Reply held back results) = duty_held world actor held
duty_by world actor name (request.Forward held back target args) = duty_held world actor held
duty_by world actor name (request.Finish answered back results) = duty_unless answered world actor
duty_by world actor name (request.Invoke target args wants) = duty_for wants actor name
duty_by world actor name (request.Create resource args vm) = duty_for true actor name
duty_by world actor name (request.Destroy target) = duty_for true actor name
duty_by world actor name _ = no_duty name

-- the requests that make a duty to answer their process
abbrev pub makes_duty : Request → Bool
makes_duty (request.Invoke target args wants) = wants
makes_duty (request.Create resource args vm) = true
makes_duty (request.Destroy target) = true
makes_duty _ = false

-- who waits, and under which number
abbrev pub waits_as : Duty → Option (ℕ × ℕ)
waits_as duty = if duty.back == 0 then None else Some (duty.back, duty.back_id)
