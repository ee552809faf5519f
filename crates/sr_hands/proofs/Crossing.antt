-- Which of the types of requests, answers and entries may cross into other threads. Each has a lemma of its own, since a search
-- for all at once is too long.
use denote.Hole.{as_row}
use denote.Param.Send.{IsSend, IsSync, sendable}
use denote.Param.SendFields.{as_row_send, as_row_sync, declared_send, declared_sync, variants_send, variants_sync}
use denote.RattleType.{RattleType}
use denote.Struct.Field.{bool-field, i32-field, u32-field, u64-field}
use Rattle.std.specs.contracts.option.Option as option
use Rattle.sr_ask.specs.contracts.answer.Answer as answer
use Rattle.sr_ask.specs.contracts.ask.Ask as ask
use Rattle.sr_ask.specs.contracts.ask.Asks as asks
use Rattle.sr_ask.specs.contracts.ask.Role as role
use Rattle.sr_ask.specs.contracts.entry.Entry as entry
use Rattle.sr_ask.specs.contracts.entry.Seen as seen
use Rattle.sr_ask.specs.contracts.request.ReadKind as read_kind
use Rattle.sr_ask.specs.contracts.request.Request as request
use Rattle.sr_value.proofs.capability.Cap.TheSendSync as cap
use Rattle.sr_value.proofs.row.Row.TheSendSync as row
use Rattle.sr_value.proofs.shape.Dims.TheSendSync as dims
use Rattle.sr_value.proofs.shape.Shape.TheLaws.TheKnot.{both_send-Shape, both_sync-Shape}
use Rattle.sr_value.proofs.shared.Shared.TheSendSync as shared
use Rattle.sr_ask.proofs.numbers.SharedNumbers.TheSendSync as shared_numbers
use Rattle.sr_value.proofs.text.Text.TheSendSync as text
use Rattle.sr_value.proofs.value.Value.TheLaws.TheKnot.{send-Value, sync-Value}
use Rattle.sr_value.specs.contracts.fault.Fault as fault
use Rattle.sr_value.specs.contracts.place.Place as place
use Rattle.sr_value.specs.contracts.row.Row as row_contract
use Rattle.sr_value.specs.contracts.shape.Sel as sel
use Rattle.sr_value.specs.contracts.shape.Shape as shape
use Rattle.sr_value.specs.contracts.shared.Shared as shared_contract
use Rattle.sr_value.specs.contracts.value.Value as value

-- ---- numbers

pub bool-send : IsSend (as_row bool-field)
bool-send = as_row_send bool-field (search sendable)

pub bool-sync : IsSync (as_row bool-field)
bool-sync = as_row_sync bool-field (search sendable)

pub i32-send : IsSend (as_row i32-field)
i32-send = as_row_send i32-field (search sendable)

pub i32-sync : IsSync (as_row i32-field)
i32-sync = as_row_sync i32-field (search sendable)

pub u32-send : IsSend (as_row u32-field)
u32-send = as_row_send u32-field (search sendable)

pub u32-sync : IsSync (as_row u32-field)
u32-sync = as_row_sync u32-field (search sendable)

pub u64-send : IsSend (as_row u64-field)
u64-send = as_row_send u64-field (search sendable)

pub u64-sync : IsSync (as_row u64-field)
u64-sync = as_row_sync u64-field (search sendable)

-- ---- values

pub value-send : IsSend value.the_row
value-send = as_row_send value.the_field (send-Value (search sendable) (search sendable) (search sendable) (search sendable) text.the_send row.the_send dims.the_field_send cap.the_field_send)

pub value-sync : IsSync value.the_row
value-sync = as_row_sync value.the_field (sync-Value (search sendable) (search sendable) (search sendable) (search sendable) text.the_sync row.the_sync dims.the_field_sync cap.the_field_sync)

shared_row-send : (R : RattleType) → IsSend R → IsSync R → IsSend (shared_contract.the_row (row_contract.the_row R))
shared_row-send R send sync = shared.the_send (row_contract.the_row R) (row.the_send R send) (row.the_sync R sync)

shared_row-sync : (R : RattleType) → IsSend R → IsSync R → IsSync (shared_contract.the_row (row_contract.the_row R))
shared_row-sync R send sync = shared.the_sync (row_contract.the_row R) (row.the_send R send) (row.the_sync R sync)

pub shape-send : IsSend shape.the_row
shape-send = as_row_send shape.the_field (both_send-Shape u32-send u32-sync shared_row-send shared_row-sync dims.the_field_send dims.the_field_sync shared.the_send shared.the_sync)

pub shape-sync : IsSync shape.the_row
shape-sync = as_row_sync shape.the_field (both_sync-Shape u32-send u32-sync shared_row-send shared_row-sync dims.the_field_send dims.the_field_sync shared.the_send shared.the_sync)

pub sel-send : IsSend sel.the_row
sel-send = variants_send sel.enum ((i32-send, tt), ((i32-send, (i32-send, tt)), ((u32-send, tt), tt)))

pub sel-sync : IsSync sel.the_row
sel-sync = variants_sync sel.enum ((i32-sync, tt), ((i32-sync, (i32-sync, tt)), ((u32-sync, tt), tt)))

pub place-send : IsSend place.the_row
place-send = declared_send place.the_type (u32-send, (u32-send, tt))

pub place-sync : IsSync place.the_row
place-sync = declared_sync place.the_type (u32-sync, (u32-sync, tt))

pub fault-send : IsSend fault.the_row
fault-send = variants_send fault.enum (tt, (tt, (tt, (tt, (tt, (tt, (tt, (tt, (tt, (tt, (tt, tt)))))))))))

pub fault-sync : IsSync fault.the_row
fault-sync = variants_sync fault.enum (tt, (tt, (tt, (tt, (tt, (tt, (tt, (tt, (tt, (tt, (tt, tt)))))))))))

-- ---- requests

pub role-send : IsSend role.the_row
role-send = variants_send role.enum (tt, (tt, (tt, (tt, tt))))

pub role-sync : IsSync role.the_row
role-sync = variants_sync role.enum (tt, (tt, (tt, (tt, tt))))

pub read_kind-send : IsSend read_kind.the_row
read_kind-send = variants_send read_kind.enum (tt, (tt, (tt, (tt, tt))))

pub read_kind-sync : IsSync read_kind.the_row
read_kind-sync = variants_sync read_kind.enum (tt, (tt, (tt, (tt, tt))))

pub request-send : IsSend request.the_row
request-send = variants_send request.enum ((u32-send, (u32-send, (shape-send, tt))), ((u32-send, (u32-send, (row.the_send _ sel-send, tt))), ((u32-send, (u32-send, (row.the_send _ sel-send, (value-send, tt)))), ((cap.the_send, (row.the_send _ value-send, (bool-send, tt))), ((u32-send, (row.the_send _ value-send, tt)), ((shared_numbers.the_send, tt), ((u32-send, (u32-send, (row.the_send _ value-send, tt))), ((u32-send, (u32-send, (cap.the_send, (row.the_send _ value-send, tt)))), ((u32-send, tt), ((text.the_send, tt), ((read_kind-send, tt), ((u32-send, (cap.the_send, tt)), ((u32-send, (row.the_send _ value-send, (cap.the_send, tt))), (tt, ((cap.the_send, tt), ((bool-send, (u32-send, (row.the_send _ value-send, tt))), ((i32-send, tt), ((fault-send, tt), (tt, ((u32-send, tt), tt))))))))))))))))))))

pub request-sync : IsSync request.the_row
request-sync = variants_sync request.enum ((u32-sync, (u32-sync, (shape-sync, tt))), ((u32-sync, (u32-sync, (row.the_sync _ sel-sync, tt))), ((u32-sync, (u32-sync, (row.the_sync _ sel-sync, (value-sync, tt)))), ((cap.the_sync, (row.the_sync _ value-sync, (bool-sync, tt))), ((u32-sync, (row.the_sync _ value-sync, tt)), ((shared_numbers.the_sync, tt), ((u32-sync, (u32-sync, (row.the_sync _ value-sync, tt))), ((u32-sync, (u32-sync, (cap.the_sync, (row.the_sync _ value-sync, tt)))), ((u32-sync, tt), ((text.the_sync, tt), ((read_kind-sync, tt), ((u32-sync, (cap.the_sync, tt)), ((u32-sync, (row.the_sync _ value-sync, (cap.the_sync, tt))), (tt, ((cap.the_sync, tt), ((bool-sync, (u32-sync, (row.the_sync _ value-sync, tt))), ((i32-sync, tt), ((fault-sync, tt), (tt, ((u32-sync, tt), tt))))))))))))))))))))

pub ask-send : IsSend ask.the_row
ask-send = declared_send ask.the_type (place-send, (role-send, (request-send, tt)))

pub ask-sync : IsSync ask.the_row
ask-sync = declared_sync ask.the_type (place-sync, (role-sync, (request-sync, tt)))

pub asks-send : IsSend asks.the_row
asks-send = variants_send asks.enum ((ask-send, tt), (tt, tt))

pub asks-sync : IsSync asks.the_row
asks-sync = variants_sync asks.enum ((ask-sync, tt), (tt, tt))

-- ---- entries

pub results-send : IsSend (option.the_row (row_contract.the_row value.the_row))
results-send = search (sendable, row.the_send, value-send) depth 20

pub results-sync : IsSync (option.the_row (row_contract.the_row value.the_row))
results-sync = search (sendable, row.the_sync, value-sync) depth 20

pub answer-send : IsSend answer.the_row
answer-send = variants_send answer.enum (tt, ((value-send, tt), ((u32-send, tt), (tt, ((u32-send, (u32-send, (row.the_send _ value-send, (u32-send, tt)))), (tt, ((u32-send, (results-send, tt)), ((i32-send, tt), (tt, (tt, tt))))))))))

pub answer-sync : IsSync answer.the_row
answer-sync = variants_sync answer.enum (tt, ((value-sync, tt), ((u32-sync, tt), (tt, ((u32-sync, (u32-sync, (row.the_sync _ value-sync, (u32-sync, tt)))), (tt, ((u32-sync, (results-sync, tt)), ((i32-sync, tt), (tt, (tt, tt))))))))))

pub seen-send : IsSend seen.the_row
seen-send = variants_send seen.enum ((u32-send, (u32-send, (row.the_send _ sel-send, (value-send, tt)))), ((u32-send, (u32-send, tt)), tt))

pub seen-sync : IsSync seen.the_row
seen-sync = variants_sync seen.enum ((u32-sync, (u32-sync, (row.the_sync _ sel-sync, (value-sync, tt)))), ((u32-sync, (u32-sync, tt)), tt))

pub entry-send : IsSend entry.the_row
entry-send = declared_send entry.the_type (u32-send, (u64-send, (u32-send, (u32-send, (u32-send, (ask-send, (answer-send, (u32-send, (row.the_send _ seen-send, tt)))))))))

pub entry-sync : IsSync entry.the_row
entry-sync = declared_sync entry.the_type (u32-sync, (u64-sync, (u32-sync, (u32-sync, (u32-sync, (ask-sync, (answer-sync, (u32-sync, (row.the_sync _ seen-sync, tt)))))))))
