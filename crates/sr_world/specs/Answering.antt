-- Who answers whom. A call makes the duty to answer its caller; so do `create` and `destroy`. The duty stands with the
-- invocation, moves with `forward`, and ends with a reply.
use Rattle.std.specs.Prelude.{ℕ, List, Option, Some, unwrap_or, if◌then◌else◌}
use Rattle.std.specs.Option.{option_map}
use Rattle.sr_calls.specs.Calls.{held_as}
use Rattle.sr_calls.specs.declared.held.Held.{Held}
use Rattle.sr_value.specs.declared.value.Value.{Value}
use Rattle.sr_world.specs.Updates.{add_reply, release}
use Rattle.sr_world.specs.Worlds.{World, is_live}
use Rattle.sr_world.specs.declared.duty.Duty.{Duty}

-- nobody waits for this invocation: process 0 never lives
abbrev pub no_duty : ℕ → Duty
no_duty id = record { back = 0; back_id = id }

abbrev pub held_of : ℕ → Duty → Held
held_of id duty = record { id = id; back = duty.back; back_id = duty.back_id }

abbrev pub duty_of : Held → Duty
duty_of held = record { back = held.back; back_id = held.back_id }

-- what a process holds under a number, as a duty; an invocation that it doesn't hold has none
abbrev pub duty_held : World → ℕ → ℕ → Duty
duty_held world process id = unwrap_or (option_map duty_of (held_as world.held process id)) (no_duty id)

-- a caller that lives gets a reply with its number and the results; one that has ended gets nothing
abbrev pub answer : Duty → Option (List Value) → World → World
answer duty results world =
    if is_live world duty.back then add_reply duty.back (record { id = duty.back_id; results = results }) world else world

-- a process answers an invocation that it holds, and holds it no longer
abbrev pub answer_held : ℕ → ℕ → List Value → World → World
answer_held process id results world = answer (duty_held world process id) (Some results) (release process id world)
