-- The scripts and the seats of the tests may cross into other threads.
use Rattle.sr_ask.specs.contracts.entry.Entry as entry
use Rattle.sr_core.specs.contracts.component.Core as core
use Rattle.sr_hands.proofs.CoreCrossing.{core-sync}
use Rattle.sr_hands.proofs.Crossing.{asks-send, entry-send, entry-sync, u32-send}
use Rattle.sr_hands.proofs.Jobs.{passed-send, passed-sync}
use Rattle.sr_value.proofs.row.Row.TheSendSync as row
use Rattle.sr_value.proofs.shared.Shared.TheSendSync as shared
use Rattle.sr_value.specs.contracts.shared.Shared as shared_contract
use Rattle.sr_worker_tests.proofs.tests.by_four_threads.Goals as goal
use Rattle.sr_worker_tests.specs.contracts.fake_desk.FakeSeat as seat
use Rattle.sr_worker_tests.specs.contracts.script.Script as script
use Rattle.std.proofs.alloc.Global.TheSendSync as heap
use denote.Param.Send.{IsSend}
use denote.Param.SendFields.{declared_send}

script-send : IsSend script.the_row
script-send = declared_send script.the_type (u32-send, (u32-send, (heap.the_send, (asks-send, tt))))

seat-send : IsSend seat.the_row
seat-send = declared_send seat.the_type (u32-send, (u32-send, (u32-send, (row.the_send (shared_contract.the_row entry.the_row) (shared.the_send entry.the_row entry-send entry-sync), tt))))

pub work_all-requires-send-A : goal.work_all-requires-send-A
work_all-requires-send-A g c κs within = passed-send 1 _ script.the_row script-send

pub work_all-requires-send-D-Seat : goal.work_all-requires-send-D-Seat
work_all-requires-send-D-Seat g c κs within = passed-send 5 _ seat.the_row seat-send

pub work_all-requires-sync-A-Program : goal.work_all-requires-sync-A-Program
work_all-requires-sync-A-Program g c κs within = passed-sync 4 _ core.the_row core-sync
