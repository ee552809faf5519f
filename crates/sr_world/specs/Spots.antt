-- Where duties and invocations stand.
--
-- A call of a process c that gets the number n makes the duty (c, n): to answer c. It stands with the invocation while
-- that waits or is held, then in a reply, and at last with c, which has taken the reply. So do `create` and `destroy`.
use Rattle.std.specs.Prelude.{ℕ, ◌≡◌, ◌<◌, ◌≤◌, ◌==◌, ◌&&◌, Bool, false, not, count_by}
use Rattle.sr_ask.specs.declared.answer.Answer.{Answer}
use Rattle.sr_ask.specs.declared.answer.Answer.TheVariants.{Picked, Took}
use Rattle.sr_calls.specs.Calls.{items_of}
use Rattle.sr_calls.specs.declared.held.Held.{Held}
use Rattle.sr_calls.specs.declared.held.Reply.{Reply}
use Rattle.sr_queue.specs.declared.pending.Pending.{Pending}
use Rattle.sr_world.specs.Runs.{State}

-- where something can stand
pub data Spot : Type 0 where
  -- in the list of pending invocations
  Waiting : Spot
  -- among what a process holds
  HeldBy : ℕ → Spot
  -- in a reply to a process
  RepliedTo : ℕ → Spot
  -- among the answers that a process got
  TakenBy : ℕ → Spot

-- what is looked for at each spot
pub record Tests : Type 0 where
  pub pending : Pending → Bool
  pub held : Held → Bool
  pub reply : ℕ → Reply → Bool
  pub answer : ℕ → Answer → Bool

-- how often it stands at a spot
abbrev pub stands : Tests → State → Spot → ℕ
stands tests state Waiting = count_by tests.pending state.world.pending
stands tests state (HeldBy process) = count_by tests.held (items_of state.world.held process)
stands tests state (RepliedTo process) = count_by (tests.reply process) (items_of state.world.replies process)
stands tests state (TakenBy process) = count_by (tests.answer process) (state.given process)

-- it stands in at most one place
pub record IsOnce (tests : Tests) (state : State) : Type 0 where
  pub single : (spot : Spot) → stands tests state spot ≤ 1
  pub alone : (spot other : Spot) → 0 < stands tests state spot → 0 < stands tests state other → spot ≡ other

-- ---- what has a number

pub data Thing : Type 0 where
  -- the duty that a call makes which has this number
  DutyOf : ℕ → Thing
  -- an invocation of this number that nobody has answered
  OpenInvocation : ℕ → Thing
  -- an invocation of this number that waits for its service, or the service that was chosen for it
  ServiceOf : ℕ → Thing

abbrev pub number_of : Thing → ℕ
number_of (DutyOf id) = id
number_of (OpenInvocation id) = id
number_of (ServiceOf id) = id

-- nobody waits for the answer where the caller is 0
abbrev pub is_duty : ℕ → ℕ → ℕ → Bool
is_duty id back back_id = not (back == 0) && (back_id == id)

abbrev pub is_took : ℕ → Answer → Bool
is_took id (Took taken results) = taken == id
is_took id _ = false

abbrev pub is_picked : ℕ → Answer → Bool
is_picked id (Picked picked arm args back) = picked == id
is_picked id _ = false

abbrev pub tests_of : Thing → Tests
tests_of (DutyOf id) = record {
  pending = λ p. is_duty id p.back p.back_id;
  held = λ h. is_duty id h.back h.back_id;
  reply = λ process r. r.id == id;
  answer = λ process a. is_took id a;
}
tests_of (OpenInvocation id) = record {
  pending = λ p. p.id == id;
  held = λ h. h.id == id;
  reply = λ process r. false;
  answer = λ process a. false;
}
tests_of (ServiceOf id) = record {
  pending = λ p. p.id == id;
  held = λ h. false;
  reply = λ process r. false;
  answer = λ process a. is_picked id a;
}

-- ---- to whom a duty is

-- whether a process called and got this number
abbrev pub Calls : Type 0
Calls = ℕ → ℕ → Bool

abbrev pub is_astray : Calls → ℕ → ℕ → Bool
is_astray calls back back_id = not (back == 0) && not (calls back back_id)

abbrev pub is_astray_answer : Calls → ℕ → Answer → Bool
is_astray_answer calls process (Took taken results) = not (calls process taken)
is_astray_answer calls process _ = false

-- a duty to a process that made no such call
abbrev pub astray : Calls → Tests
astray calls = record {
  pending = λ p. is_astray calls p.back p.back_id;
  held = λ h. is_astray calls h.back h.back_id;
  reply = λ process r. not (calls process r.id);
  answer = λ process a. is_astray_answer calls process a;
}
