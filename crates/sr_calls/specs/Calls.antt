-- Who holds which invocation, and which replies wait for whom.
use Rattle.std.specs.Prelude.{ℕ, ◌<◌, ◌≢◌, Bool, ◌==◌, if◌then◌else◌, Option, unwrap_or, List, [], ◌∷◌, ◌++◌, find, refl}
use Rattle.std.specs.Coded.{Coded, code_by, coded×, coded_ℕ}
use Rattle.std.specs.List.{list_any}
use Rattle.std.specs.Ordering.{nat_cmp}
use Rattle.std.specs.FinMap as map
use Rattle.sr_calls.specs.declared.held.Held.{Held}
use Rattle.sr_calls.specs.declared.held.Reply.{Reply}

-- a map from processes, in the order of their numbers
abbrev pub ByProcess : Type 0 → Type 0
ByProcess A = map.FinMap nat_cmp A

-- how many more holds by a process, and replies to it, take no memory
pub record Room : Type 0 where
  pub holds : ℕ
  pub answers : ℕ

abbrev pub room_code : Coded Room
room_code = code_by (ℕ × ℕ) (coded× coded_ℕ coded_ℕ) (λ r. (r.holds, r.answers)) (λ p. record { holds = p.0; answers = p.1 }) (λ _. refl)

-- each process holds invocations in the order in which it took them over, and the replies to it stand in the order in which they were made;
-- a process that holds nothing, or to which there is no reply, has no entry
pub record Called : Type 0 where
  pub held : ByProcess (List Held)
  pub replies : ByProcess (List Reply)
  pub room : ByProcess Room

-- ---- one list for each process

abbrev pub items_of : {A : Type 0} → ByProcess (List A) → ℕ → List A
items_of all process = unwrap_or (map.get all process) []

abbrev pub with_items : {A : Type 0} → ByProcess (List A) → ℕ → List A → ByProcess (List A)
with_items all process [] = map.remove all process
with_items all process (x ∷ xs) = map.insert all process (x ∷ xs)

abbrev pub with_item : {A : Type 0} → ByProcess (List A) → ℕ → A → ByProcess (List A)
with_item all process x = with_items all process (items_of all process ++ x ∷ [])

-- the list without the first item that passes the test
abbrev pub without_first : {A : Type 0} → (A → Bool) → List A → List A
without_first test [] = []
without_first test (x ∷ xs) = if test x then xs else x ∷ without_first test xs

-- ---- what a process holds

abbrev pub is_held_as : ℕ → Held → Bool
is_held_as id held = held.id == id

-- a process releases only what it holds itself
abbrev pub held_as : ByProcess (List Held) → ℕ → ℕ → Option Held
held_as all actor id = find (is_held_as id) (items_of all actor)

abbrev pub without_held : ByProcess (List Held) → ℕ → ℕ → ByProcess (List Held)
without_held all actor id = with_items all actor (without_first (is_held_as id) (items_of all actor))

-- ---- the replies to a process

abbrev pub answers_one : List ℕ → Reply → Bool
answers_one ids reply = list_any (λ id. id == reply.id) ids

-- `Take` gives the earliest reply to the caller whose number is in the list
abbrev pub earliest_reply : ByProcess (List Reply) → ℕ → List ℕ → Option Reply
earliest_reply all caller ids = find (answers_one ids) (items_of all caller)

abbrev pub without_reply : ByProcess (List Reply) → ℕ → List ℕ → ByProcess (List Reply)
without_reply all caller ids = with_items all caller (without_first (answers_one ids) (items_of all caller))

-- ---- room

abbrev pub room_of : Called → ℕ → Room
room_of calls process = unwrap_or (map.get calls.room process) (record { holds = 0; answers = 0 })

-- one more hold by the process takes no memory
abbrev pub CanHold : Called → ℕ → Type 0
CanHold calls process = 0 < (room_of calls process).holds

-- one more reply to the process takes no memory
abbrev pub CanAnswer : Called → ℕ → Type 0
CanAnswer calls process = 0 < (room_of calls process).answers

-- whoever had room to hold one more still has
abbrev pub KeepsHolds : Called → Called → Type 0
KeepsHolds old new = (p : ℕ) → CanHold old p → CanHold new p

abbrev pub KeepsAnswers : Called → Called → Type 0
KeepsAnswers old new = (p : ℕ) → CanAnswer old p → CanAnswer new p

-- the same, of all processes but one
abbrev pub KeepsOtherHolds : Called → Called → ℕ → Type 0
KeepsOtherHolds old new process = (p : ℕ) → p ≢ process → CanHold old p → CanHold new p

abbrev pub KeepsOtherAnswers : Called → Called → ℕ → Type 0
KeepsOtherAnswers old new process = (p : ℕ) → p ≢ process → CanAnswer old p → CanAnswer new p
