use Rattle.std.proofs.Common.{refl}
use Rattle.sr_shard.proofs.PresentLemmas.{base_of}
use Rattle.sr_shard.proofs.ReadyLemmas.{made_as, ready_as}
use Rattle.sr_shard.specs.declared.change.Change.TheVariants as change
use Rattle.sr_shard.proofs.present.Present.make.Goals as goal

pub declare-requires : goal.declare-requires
declare-requires c =
    let base = base_of c.args.self.now.portion.number c.args.standing.now in ready_as base c.args.self.now c.args.change (change.Declare c.in-Declare.block c.in-Declare.var c.in-Declare.shape c.in-Declare.value) c.in-Declare.is (c.requires base refl)

pub arrive-requires-clause-few : goal.arrive-requires-clause-few
arrive-requires-clause-few c =
    (let base = base_of c.args.self.now.portion.number c.args.standing.now in ready_as base c.args.self.now c.args.change (change.Arrive c.in-Arrive.invocation) c.in-Arrive.is (c.requires base refl)).0

pub arrive-requires-clause-room : goal.arrive-requires-clause-room
arrive-requires-clause-room c =
    (let base = base_of c.args.self.now.portion.number c.args.standing.now in ready_as base c.args.self.now c.args.change (change.Arrive c.in-Arrive.invocation) c.in-Arrive.is (c.requires base refl)).1

pub hold-requires : goal.hold-requires
hold-requires c =
    let base = base_of c.args.self.now.portion.number c.args.standing.now in ready_as base c.args.self.now c.args.change (change.Hold c.in-Hold.process c.in-Hold.held) c.in-Hold.is (c.requires base refl)

pub begin-requires-clause-room : goal.begin-requires-clause-room
begin-requires-clause-room c =
    (let base = base_of c.args.self.now.portion.number c.args.standing.now in ready_as base c.args.self.now c.args.change (change.Begin c.in-Begin.start) c.in-Begin.is (c.requires base refl)).0

pub begin-requires-clause-new : goal.begin-requires-clause-new
begin-requires-clause-new c =
    (let base = base_of c.args.self.now.portion.number c.args.standing.now in ready_as base c.args.self.now c.args.change (change.Begin c.in-Begin.start) c.in-Begin.is (c.requires base refl)).1

pub end-requires : goal.end-requires
end-requires c =
    let base = base_of c.args.self.now.portion.number c.args.standing.now in ready_as base c.args.self.now c.args.change (change.End c.in-End.process) c.in-End.is (c.requires base refl)

pub answer-requires : goal.answer-requires
answer-requires c =
    λ base is. ready_as base c.args.self.now c.args.change (change.Answer c.in-Answer.process c.in-Answer.id c.in-Answer.results) c.in-Answer.is (c.requires base is)

pub returns-in-Declare : goal.returns-in-Declare
returns-in-Declare c =
    made_as c.args.standing.now c.args.change (change.Declare c.in-Declare.block c.in-Declare.var c.in-Declare.shape c.in-Declare.value) c.args.self.now c.declare.new.self c.in-Declare.is (c.declare.ensures c.args.standing.now)

pub returns-in-Store : goal.returns-in-Store
returns-in-Store c =
    made_as c.args.standing.now c.args.change (change.Store c.in-Store.block c.in-Store.var c.in-Store.path c.in-Store.value) c.args.self.now c.store.new.self c.in-Store.is (c.store.ensures c.args.standing.now)

pub returns-in-Arrive : goal.returns-in-Arrive
returns-in-Arrive c =
    made_as c.args.standing.now c.args.change (change.Arrive c.in-Arrive.invocation) c.args.self.now c.arrive.new.self c.in-Arrive.is (c.arrive.ensures c.args.standing.now)

pub returns-in-Depart : goal.returns-in-Depart
returns-in-Depart c =
    made_as c.args.standing.now c.args.change (change.Depart c.in-Depart.owner c.in-Depart.op c.in-Depart.id) c.args.self.now c.depart.new.self c.in-Depart.is (c.depart.ensures c.args.standing.now)

pub returns-in-Hold : goal.returns-in-Hold
returns-in-Hold c =
    made_as c.args.standing.now c.args.change (change.Hold c.in-Hold.process c.in-Hold.held) c.args.self.now c.hold.new.self c.in-Hold.is (c.hold.ensures c.args.standing.now)

pub returns-in-Free : goal.returns-in-Free
returns-in-Free c =
    made_as c.args.standing.now c.args.change (change.Free c.in-Free.process c.in-Free.id) c.args.self.now c.free.new.self c.in-Free.is (c.free.ensures c.args.standing.now)

pub returns-in-Take : goal.returns-in-Take
returns-in-Take c =
    made_as c.args.standing.now c.args.change (change.Take c.in-Take.process c.in-Take.ids) c.args.self.now c.take.new.self c.in-Take.is (c.take.ensures c.args.standing.now)

pub returns-in-Begin : goal.returns-in-Begin
returns-in-Begin c =
    made_as c.args.standing.now c.args.change (change.Begin c.in-Begin.start) c.args.self.now c.begin.new.self c.in-Begin.is (c.begin.ensures c.args.standing.now)

pub returns-in-End : goal.returns-in-End
returns-in-End c =
    made_as c.args.standing.now c.args.change (change.End c.in-End.process) c.args.self.now c.end.new.self c.in-End.is (c.end.ensures c.args.standing.now)
