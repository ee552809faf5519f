-- A job may cross into another thread, and its answer back, where its processes and its seat may.
use Prim.Native.Nat.{ℕ}
use mir.Syntax.{Ty}
use denote.Exit.{no}
use denote.Param.{arg, param}
use denote.Param.Send.{IsSend, IsSync, arg_send, arg_sync, param_send, param_sync, sendable}
use denote.Param.SendFields.{as_row_send, declared_send, variants_send}
use denote.RattleType.{RattleType}
use denote.Struct.Field.{row_field}
use Rattle.std.specs.contracts.result.Result as result
use Rattle.sr_ask.specs.contracts.entry.Entry as entry
use Rattle.sr_value.proofs.row.Row.TheSendSync as row
use Rattle.sr_value.proofs.shared.Shared.TheSendSync as shared
use Rattle.sr_value.specs.contracts.memory.NoMemory as no_memory
use Rattle.sr_value.specs.contracts.shared.Shared as shared_contract
use Rattle.sr_hands.proofs.Crossing.{bool-send, u32-send, u64-send, entry-send, entry-sync}
use Rattle.sr_worker.specs.contracts.hand.Hand as hand
use Rattle.sr_worker.specs.contracts.job.Job as job
use Rattle.sr_actor.specs.contracts.member.Member as member
use Rattle.sr_worker.specs.contracts.notes.Notes as notes
use Rattle.sr_worker.specs.contracts.player.Player as player
use Rattle.sr_worker.specs.contracts.notes.Worker as worker

-- the same of a type as it stands for a type parameter of a function that is called
pub passed-send : (place : ℕ) (layout : Ty) (R : RattleType) → IsSend R → IsSend (param place (arg layout no R))
passed-send place layout R crosses = param_send place (arg layout no R) (arg_send layout no R crosses)

pub passed-sync : (place : ℕ) (layout : Ty) (R : RattleType) → IsSync R → IsSync (param place (arg layout no R))
passed-sync place layout R crosses = param_sync place (arg layout no R) (arg_sync layout no R crosses)

worker-send : IsSend worker.the_row
worker-send = declared_send worker.the_type (u32-send, (u32-send, (u32-send, (u32-send, tt))))

notes-send : IsSend notes.the_row
notes-send = declared_send notes.the_type (worker-send, (row.the_send (shared_contract.the_row entry.the_row) (shared.the_send entry.the_row entry-send entry-sync), (u64-send, tt)))

no_memory-send : IsSend no_memory.the_row
no_memory-send = search sendable

module _ (A S : RattleType) (actor-send : IsSend A) (seat-send : IsSend S) where
  member-send : IsSend (member.the_row A)
  member-send = declared_send (member.the_type A) (u32-send, (as_row_send (row_field A) actor-send, tt))

  player-send : IsSend (player.the_row A)
  player-send = declared_send (player.the_type A) (u32-send, (member-send, (bool-send, tt)))

  hand-send : IsSend (hand.the_row A)
  hand-send = declared_send (hand.the_type A) (notes-send, (row.the_send (player.the_row A) player-send, tt))

  job-send : IsSend (job.the_row A S)
  job-send = declared_send (job.the_type A S) (hand-send, (as_row_send (row_field S) seat-send, tt))

  answer-send : IsSend (result.the_row (job.the_row A S) no_memory.the_row)
  answer-send = variants_send (result.enum (job.the_row A S) no_memory.the_row)
      ((as_row_send (row_field (job.the_row A S)) job-send, tt), ((as_row_send (row_field no_memory.the_row) no_memory-send, tt), tt))

  pub job-passed : (place : ℕ) (layout : Ty) → IsSend (param place (arg layout no (job.the_row A S)))
  job-passed place layout = passed-send place layout (job.the_row A S) job-send

  pub answer-passed : (place : ℕ) (layout : Ty) → IsSend (param place (arg layout no (result.the_row (job.the_row A S) no_memory.the_row)))
  answer-passed place layout = passed-send place layout (result.the_row (job.the_row A S) no_memory.the_row) answer-send
