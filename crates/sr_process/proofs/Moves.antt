-- Each move of a process keeps what it asks, and leaves less to run.
use Rattle.std.proofs.Common.{◌≡◌, ◌<◌, ◌+◌, ◌-◌, ℕ, zero, suc, true, Ok, List, [], ◌∷◌, ◌++◌, length, Option, Some, None, inl, inr, refl, sym, ap, subst, ◌∙◌, slice_get, IsSome, append_assoc, append-nil, arith}
use Rattle.std.proofs.Math.Nat.{mul-le-mul_right}
use Rattle.std.proofs.lemmas.Option.{slice_get_within}
use Rattle.sr_value.specs.declared.fault.Fault.{Fault}
use Rattle.sr_value.specs.declared.place.Place.{Place}
use Rattle.sr_value.specs.declared.value.Value.{Value}
use Rattle.sr_ask.specs.Behaviors.{Stage, Outcome, Came, room}
use Rattle.sr_ask.specs.Here.{ask_of, request}
use Rattle.sr_ask.specs.Replies.{gives_now, results_now}
use Rattle.sr_ask.specs.declared.answer.Answer.{Answer}
use Rattle.sr_ask.specs.declared.ask.Asks.{Asks}
use Rattle.sr_ask.specs.declared.ask.Asks.TheVariants.{OverTicks as over_ticks}
use Rattle.sr_ask.specs.declared.request.Request.{Request}
use Rattle.sr_ask.specs.declared.request.Request.TheVariants.{Fail, Finish}
use Rattle.sr_ask.specs.declared.start.Start.{Start}
use Rattle.sr_code.specs.Acts.{Point, point}
use Rattle.sr_code.specs.Laws.{Falls}
use Rattle.sr_code.specs.Runs.{Machine, carried, code_ask, entry_of, finish, go, here_at, step_at, then_asks, work}
use Rattle.sr_code.specs.declared.code.Coded.{Coded}
use Rattle.sr_code.specs.declared.code.Program.{Program}
use Rattle.sr_code.specs.declared.operands.Operands.{Operands}
use Rattle.sr_code.proofs.Lowering.{instructions_lower}
use Rattle.sr_code.proofs.OneByOne.{less_room, one_by_one}
use Rattle.sr_execute.specs.Executes.{Began, Moved, begun, shown}
use Rattle.sr_execute.specs.Quick.{DoesOrLeaves}
use Rattle.sr_execute.specs.Meant.{from_begun, heard_by, resumes, stage_of, waiting}
use Rattle.sr_process.specs.Processes.{Carries, HearsBy, Ready, ReadyIn, Runs, SameAsks, StandsFor, asked_by, asked_in, asking, asks_after, asks_at, asks_from, asks_in, coded_at, frame_at, heard_at, here_in, left, left_in, machine_of, stepped, with_fed}
use Rattle.sr_execute.specs.declared.frame.Frame.{Frame}
use Rattle.sr_process.specs.declared.process.Phase.{Phase}
use Rattle.sr_process.specs.declared.process.Phase.TheVariants.{New, Running, Waiting, Stopped, OutOfMemory}
use Rattle.sr_process.specs.declared.process.Process.{Process}
use Rattle.sr_execute.specs.declared.quick.Carried.{Carried}
use Rattle.sr_execute.specs.declared.quick.Carried.TheVariants.{Goes as quick_goes, Faults as quick_faults, Left as quick_left}
use Rattle.sr_execute.specs.declared.step.Step.{Step}
use Rattle.sr_execute.specs.declared.step.Step.TheVariants.{Goes, Asks as a_request, Faults, OverTicks}
use Rattle.sr_execute.proofs.Meant.{carried_out, never}

-- ---- one instruction

-- what is asked after an instruction
abbrev after_step : Step → Machine → Coded → ℕ → Frame → List Answer → Asks
after_step (Goes to) m coded next frame answers = go m (point to frame.operands) (stage_of frame answers)
after_step (a_request request) m coded next frame answers =
    then_asks (waiting (resumes coded.instruction next frame) (ask_of request (here_at m coded.place)) m.limit answers) (go m)
after_step (Faults fault) m coded next frame answers = ask_of (Fail fault) (here_at m coded.place)
after_step OverTicks m coded next frame answers = over_ticks

shown_asks : (step : Step) (m : Machine) (coded : Coded) (next : ℕ) (frame : Frame) (answers : List Answer)
    → then_asks (from_begun (shown step frame) (resumes coded.instruction next) (here_at m coded.place) answers) (go m) ≡ after_step step m coded next frame answers
shown_asks (Goes to) m coded next frame answers = refl
shown_asks (a_request request) m coded next frame answers = refl
shown_asks (Faults fault) m coded next frame answers = refl
shown_asks OverTicks m coded next frame answers = refl

step_same : (m : Machine) (coded : Coded) (next : ℕ) (frame after : Frame) (step : Step) → slice_get m.code next ≡ Some coded
    → begun m.core.names coded.instruction (here_at m coded.place) next frame.operands frame ≡ shown step after → (answers : List Answer)
    → go m (point (suc next) frame.operands) (stage_of frame answers) ≡ after_step step m coded next after answers
step_same m coded next frame after step at is answers =
    let one = one_by_one m (point (suc next) frame.operands) (stage_of frame answers) in
    let found = ap (λ (c : Option Coded). then_asks (carried c m next frame.operands (stage_of frame answers)) (go m)) at in
    let done = ap (λ (o : Outcome Point). then_asks o (go m)) (carried_out m.core coded.instruction (here_at m coded.place) next frame answers) in
    let meant = ap (λ (b : Began). then_asks (from_begun b (resumes coded.instruction next) (here_at m coded.place) answers) (go m)) is in
    one ∙ (found ∙ (done ∙ (meant ∙ shown_asks step m coded next after answers)))

-- a process that runs
runs_asks : (program : Program) (p : Process) (address : ℕ) (more : List Answer) → p.phase ≡ Running → p.address ≡ address
    → asks_after program p more ≡ go (machine_of program p.start p.limit) (point address p.frame.operands) (stage_of p.frame more)
runs_asks program p address more is at =
    ap (λ (phase : Phase). asks_in phase program p.start p.limit p.address p.frame p.asks p.fed more) is
    ∙ ap (λ (a : ℕ). go (machine_of program p.start p.limit) (point a p.frame.operands) (stage_of p.frame more)) at

-- a process that waits at an instruction
waits_asks : (program : Program) (p : Process) (coded : Coded) (next : ℕ) (fed : Option Answer) (more : List Answer) → p.phase ≡ Waiting → p.address ≡ suc next → p.fed ≡ fed
    → slice_get program.code.items next ≡ Some coded
    → asks_after program p more ≡ then_asks (waiting (resumes coded.instruction next p.frame) p.asks p.limit (with_fed fed more)) (go (machine_of program p.start p.limit))
waits_asks program p coded next fed more is address f at =
    let m : Machine = machine_of program p.start p.limit in
    ap (λ (phase : Phase). asks_in phase program p.start p.limit p.address p.frame p.asks p.fed more) is
    ∙ (ap (λ (a : ℕ). asks_from m a p.frame p.asks (with_fed p.fed more)) address
    ∙ (ap (λ (o : Option Answer). asks_from m (suc next) p.frame p.asks (with_fed o more)) f
    ∙ ap (λ (c : Option Coded). asks_at m c next p.frame p.asks (with_fed fed more)) at))

stepped_asks : (step : Step) (program : Program) (p : Process) (coded : Coded) (next : ℕ) (after : Frame) (more : List Answer) → p.phase ≡ Running → p.fed ≡ None → p.address ≡ suc next
    → slice_get program.code.items next ≡ Some coded
    → asks_after program (stepped step coded.place (record p { frame = after })) more ≡ after_step step (machine_of program p.start p.limit) coded next after more
stepped_asks (Goes to) program p coded next after more is f address at =
    runs_asks program (stepped (Goes to) coded.place (record p { frame = after })) to more is refl
stepped_asks (a_request request) program p coded next after more is f address at =
    waits_asks program (stepped (a_request request) coded.place (record p { frame = after })) coded next None more refl address f at
stepped_asks (Faults fault) program p coded next after more is f address at = refl
stepped_asks OverTicks program p coded next after more is f address at = refl

-- ---- what is left to run

falls_work : (m : Machine) (next to : ℕ) (on : Operands) (before after : Stage) → next < length m.code → Falls m.limit next (Came (point to on) after) (room m.limit before)
    → work m to after < work m (suc next) before
falls_work m next to on before after within (inl h) =
    let less = less_room (room m.limit before) (room m.limit after) (length m.code) to h in omega arith
falls_work m next to on before after within (inr h) =
    let kept = h.0 in let lower = h.1 in
    let more = mul-le-mul_right {m = room m.limit after} {n = room m.limit before} (suc (length m.code)) kept in omega arith

goes_less : (m : Machine) (coded : Coded) (next to : ℕ) (frame after : Frame) → slice_get m.code next ≡ Some coded
    → begun m.core.names coded.instruction (here_at m coded.place) next frame.operands frame ≡ shown (Goes to) after
    → work m to (stage_of after []) < work m (suc next) (stage_of frame [])
goes_less m coded next to frame after at is =
    let done = carried_out m.core coded.instruction (here_at m coded.place) next frame [] in
    let meant = ap (λ (b : Began). from_begun b (resumes coded.instruction next) (here_at m coded.place) []) is in
    let P : Outcome Point → Type 0 = λ o. Falls m.limit next o (room m.limit (stage_of frame [])) in
    let falls = subst P (done ∙ meant) (instructions_lower m.core coded.instruction (here_at m coded.place) next frame.operands (stage_of frame [])) in
    falls_work m next to after.operands (stage_of frame []) (stage_of after []) (slice_get_within m.code next coded at) falls

left_runs : (program : Program) (p : Process) (address : ℕ) → p.phase ≡ Running → p.address ≡ address
    → left program p ≡ suc (work (machine_of program p.start p.limit) address (stage_of p.frame []))
left_runs program p address is at =
    ap (λ (phase : Phase). left_in phase (machine_of program p.start p.limit) p.address p.frame) is
    ∙ ap (λ (a : ℕ). suc (work (machine_of program p.start p.limit) a (stage_of p.frame []))) at

stepped_left : (step : Step) (program : Program) (p : Process) (coded : Coded) (next : ℕ) (after : Frame) → p.phase ≡ Running → p.address ≡ suc next
    → slice_get program.code.items next ≡ Some coded
    → begun program.core.names coded.instruction (here_in p coded.place) next p.frame.operands p.frame ≡ shown step after
    → left program (stepped step coded.place (record p { frame = after })) < left program p
stepped_left (Goes to) program p coded next after is address at does =
    let old = left_runs program p (suc next) is address in
    let new = left_runs program (stepped (Goes to) coded.place (record p { frame = after })) to is refl in
    let less = goes_less (machine_of program p.start p.limit) coded next to p.frame after at does in
    omega arith
stepped_left (a_request request) program p coded next after is address at does = let old = left_runs program p (suc next) is address in omega arith
stepped_left (Faults fault) program p coded next after is address at does = let old = left_runs program p (suc next) is address in omega arith
stepped_left OverTicks program p coded next after is address at does = let old = left_runs program p (suc next) is address in omega arith

stepped_ready : (step : Step) (p : Process) (place : Place) (after : Frame) → Runs p → Ready (stepped step place (record p { frame = after }))
stepped_ready (Goes to) p place after runs = record { phase = (let P : Phase → Type 0 = λ phase. ReadyIn phase in subst P (sym runs.phase) (tt {0})); unfed = runs.unfed }
stepped_ready (a_request request) p place after runs = record { phase = tt {0}; unfed = runs.unfed }
stepped_ready (Faults fault) p place after runs = record { phase = tt {0}; unfed = runs.unfed }
stepped_ready OverTicks p place after runs = record { phase = tt {0}; unfed = runs.unfed }

-- ---- addresses

-- an address with an instruction
pub record Stands (items : List Coded) (coded : Coded) (address next : ℕ) : Type 0 where
  pub address_is : address ≡ suc next
  pub at : slice_get items next ≡ Some coded

pub stands : (items : List Coded) (coded : Coded) (address : ℕ) → coded_at items address ≡ Some coded → Stands items coded address (address - 1)
stands items coded zero e = absurd (cc)
stands items coded (suc next) e = record { address_is = omega arith; at = ap (λ (n : ℕ). slice_get items n) (back next) ∙ e } where
  back : (next : ℕ) → suc next - 1 ≡ next
  back next = omega arith

pub carry_same : (program : Program) (p new : Process) (coded : Coded) (after : Frame) (step : Step) → Runs p → coded_at program.code.items p.address ≡ Some coded
    → begun program.core.names coded.instruction (here_in p coded.place) (p.address - 1) p.frame.operands p.frame ≡ shown step after
    → new ≡ stepped step coded.place (record p { frame = after }) → SameAsks program p new
carry_same program p new coded after step runs found does is =
    let s : Stands program.code.items coded p.address (p.address - 1) = stands program.code.items coded p.address found in
    record {
      same = λ more.
          ap (λ (q : Process). asks_after program q more) is
          ∙ (stepped_asks step program p coded (p.address - 1) after more runs.phase runs.unfed s.address_is s.at
          ∙ sym (runs_asks program p (suc (p.address - 1)) more runs.phase s.address_is
          ∙ step_same (machine_of program p.start p.limit) coded (p.address - 1) p.frame after step s.at does more));
    }

pub carry_falls : (program : Program) (p new : Process) (coded : Coded) (after : Frame) (step : Step) → Runs p → coded_at program.code.items p.address ≡ Some coded
    → begun program.core.names coded.instruction (here_in p coded.place) (p.address - 1) p.frame.operands p.frame ≡ shown step after
    → new ≡ stepped step coded.place (record p { frame = after }) → left program new < left program p
carry_falls program p new coded after step runs found does is =
    let s : Stands program.code.items coded p.address (p.address - 1) = stands program.code.items coded p.address found in
    let P : Process → Type 0 = λ q. left program q < left program p in
    subst P (sym is) (stepped_left step program p coded (p.address - 1) after runs.phase s.address_is s.at does)

pub carry_ready : (p new : Process) (place : Place) (after : Frame) (step : Step) → Runs p → new ≡ stepped step place (record p { frame = after }) → Ready new
carry_ready p new place after step runs is =
    let P : Process → Type 0 = λ q. Ready q in subst P (sym is) (stepped_ready step p place after runs)

-- an instruction that was carried out
pub carried_by : (program : Program) (p new : Process) (coded : Coded) (after : Frame) (step : Step) → Runs p → coded_at program.code.items p.address ≡ Some coded
    → begun program.core.names coded.instruction (here_in p coded.place) (p.address - 1) p.frame.operands p.frame ≡ shown step after
    → new ≡ stepped step coded.place (record p { frame = after }) → Carries program (Ok true) p new
carried_by program p new coded after step runs found does is =
    (carry_same program p new coded after step runs found does is, (carry_ready p new coded.place after step runs is, carry_falls program p new coded after step runs found does is))

-- an instruction that was carried out quickly, where it goes on
pub goes_quickly : (program : Program) (p new : Process) (coded : Coded) (after : Frame) (carried : Carried) (to : ℕ) → Runs p → coded_at program.code.items p.address ≡ Some coded
    → DoesOrLeaves (Ok carried) p.frame after (begun program.core.names coded.instruction (here_in p coded.place) (p.address - 1) p.frame.operands p.frame)
    → carried ≡ quick_goes to → new ≡ record p { frame = after; address = to } → Carries program (Ok true) p new
goes_quickly program p new coded after carried to runs found does is moved =
    let D : Carried → Type 0 = λ c. DoesOrLeaves (Ok c) p.frame after (begun program.core.names coded.instruction (here_in p coded.place) (p.address - 1) p.frame.operands p.frame) in
    carried_by program p new coded after (Goes to) runs found (subst D is does) moved

-- where it found a fault
pub fails_quickly : (program : Program) (p new : Process) (coded : Coded) (after : Frame) (carried : Carried) (fault : Fault) → Runs p → coded_at program.code.items p.address ≡ Some coded
    → DoesOrLeaves (Ok carried) p.frame after (begun program.core.names coded.instruction (here_in p coded.place) (p.address - 1) p.frame.operands p.frame)
    → carried ≡ quick_faults fault → new ≡ stepped (Faults fault) coded.place (record p { frame = after }) → Carries program (Ok true) p new
fails_quickly program p new coded after carried fault runs found does is moved =
    let D : Carried → Type 0 = λ c. DoesOrLeaves (Ok c) p.frame after (begun program.core.names coded.instruction (here_in p coded.place) (p.address - 1) p.frame.operands p.frame) in
    carried_by program p new coded after (Faults fault) runs found (subst D is does) moved

-- where it was left alone
pub left_quickly : (p : Process) (after : Frame) (carried : Carried) (meant : Began) → DoesOrLeaves (Ok carried) p.frame after meant → carried ≡ quick_left → record p { frame = after } ≡ p
left_quickly p after carried meant does is =
    let D : Carried → Type 0 = λ c. DoesOrLeaves (Ok c) p.frame after meant in
    ap (λ (f : Frame). record p { frame = f }) (subst D is does)

-- ---- the end

end_step : (m : Machine) (address : ℕ) (on : Operands) (stage : Stage) → coded_at m.code address ≡ None → step_at m address on stage ≡ finish (here_at m m.line) stage
end_step m zero on stage e = refl
end_step m (suc next) on stage e = ap (λ (c : Option Coded). carried c m next on stage) e

end_asks : (m : Machine) (address : ℕ) (on : Operands) (stage : Stage) → coded_at m.code address ≡ None
    → go m (point address on) stage ≡ ask_of (Finish stage.service.answered stage.service.back (results_now (here_at m m.line) stage)) (here_at m m.line)
end_asks m address on stage e =
    let asks : Asks = ask_of (Finish stage.service.answered stage.service.back (results_now (here_at m m.line) stage)) (here_at m m.line) in
    one_by_one m (point address on) stage
    ∙ (ap (λ (o : Outcome Point). then_asks o (go m)) (end_step m address on stage e)
    ∙ ap (λ (o : Outcome Point). then_asks o (go m)) (never {A = Point} asks m.limit stage.answers stage))

pub finish_same : (program : Program) (p new : Process) (place : Place) (results : List Value) → Runs p → coded_at program.code.items p.address ≡ None
    → place ≡ (entry_of program.code p.start.role p.start.code).place
    → results ≡ gives_now p.frame.service.gives p.frame.own (here_in p place)
    → new ≡ asking (Finish p.frame.service.answered p.frame.service.back results) place (record p { phase = Stopped }) → SameAsks program p new
finish_same program p new place results runs e at given is =
    let m : Machine = machine_of program p.start p.limit in
    let asked : Place → Asks = λ line. ask_of (Finish p.frame.service.answered p.frame.service.back (gives_now p.frame.service.gives p.frame.own (here_in p line))) (here_in p line) in
    record {
      same = λ more.
          ap (λ (q : Process). asks_after program q more) is
          ∙ (ap (λ (values : List Value). ask_of (Finish p.frame.service.answered p.frame.service.back values) (here_in p place)) given
          ∙ (ap asked at
          ∙ sym (runs_asks program p p.address more runs.phase refl ∙ end_asks m p.address p.frame.operands (stage_of p.frame more) e)));
    }

pub finish_falls : (program : Program) (p new : Process) (request : Request) (place : Place) → Runs p → new ≡ asking request place (record p { phase = Stopped }) → left program new < left program p
finish_falls program p new request place runs is =
    let P : Process → Type 0 = λ q. left program q < left program p in
    let old = left_runs program p p.address runs.phase refl in
    subst P (sym is) (omega arith)

pub finish_ready : (p new : Process) (request : Request) (place : Place) → Runs p → new ≡ asking request place (record p { phase = Stopped }) → Ready new
finish_ready p new request place runs is =
    let P : Process → Type 0 = λ q. Ready q in
    subst P (sym is) (record { phase = tt {0}; unfed = runs.unfed })

-- ---- answers

hears_asks : (found : Option Moved) (program : Program) (old new : Process) (coded : Coded) (next : ℕ) (more : List Answer) → old.phase ≡ Waiting → old.fed ≡ None → old.address ≡ suc next
    → slice_get program.code.items next ≡ Some coded → HearsBy found old new
    → asks_after program new more ≡ then_asks (heard_by found old.limit more (waiting (resumes coded.instruction next old.frame) old.asks old.limit more)) (go (machine_of program old.start old.limit))
hears_asks None program old new coded next more is f address at heard =
    ap (λ (q : Process). asks_after program q more) heard ∙ waits_asks program old coded next None more is address f at
hears_asks (Some to) program old new coded next more is f address at heard = ap (λ (q : Process). asks_after program q more) heard

-- a process that was fed an answer, and heard it
pub hear_same : (program : Program) (old mid new : Process) (coded : Coded) (answer : Answer) → old.phase ≡ Waiting → old.fed ≡ Some answer → mid ≡ record old { fed = None }
    → coded_at program.code.items old.address ≡ Some coded → HearsBy (heard_at coded answer mid.address mid.frame) mid new → SameAsks program old new
hear_same program old mid new coded answer is f taken found heard =
    let s : Stands program.code.items coded old.address (old.address - 1) = stands program.code.items coded old.address found in
    let Q : Process → Type 0 = λ p. HearsBy (heard_at coded answer p.address p.frame) p new in
    let there : HearsBy (heard_at coded answer old.address old.frame) (record old { fed = None }) new = subst Q taken heard in
    let P : ℕ → Type 0 = λ address. HearsBy (heard_at coded answer address old.frame) (record old { fed = None }) new in
    let by : HearsBy (resumes coded.instruction (old.address - 1) old.frame answer) (record old { fed = None }) new = subst P s.address_is there in
    record {
      same = λ more.
          hears_asks (resumes coded.instruction (old.address - 1) old.frame answer) program (record old { fed = None }) new coded (old.address - 1) more is refl s.address_is s.at by
          ∙ sym (waits_asks program old coded (old.address - 1) (Some answer) more is s.address_is f s.at);
    }

hears_ready : (found : Option Moved) (mid new : Process) → mid.phase ≡ Waiting → mid.fed ≡ None → HearsBy found mid new → Ready new
hears_ready None mid new is f heard =
    let P : Process → Type 0 = λ p. Ready p in
    let Q : Phase → Type 0 = λ phase. ReadyIn phase in
    subst P (sym heard) (record { phase = subst Q (sym is) (tt {0}); unfed = f })
hears_ready (Some to) mid new is f heard =
    let P : Process → Type 0 = λ p. Ready p in
    subst P (sym heard) (record { phase = tt {0}; unfed = f })

pub hear_ready : (mid new : Process) (coded : Coded) (answer : Answer) → mid.phase ≡ Waiting → mid.fed ≡ None → HearsBy (heard_at coded answer mid.address mid.frame) mid new → Ready new
hear_ready mid new coded answer is f heard = hears_ready (heard_at coded answer mid.address mid.frame) mid new is f heard

-- one that waits where no instruction is asks the same for good
pub deaf_same : (program : Program) (old : Process) → old.phase ≡ Waiting → coded_at program.code.items old.address ≡ None → SameAsks program old (record old { fed = None })
deaf_same program old is found =
    record {
      same = λ more.
          deaf (machine_of program old.start old.limit) old.address (record old { fed = None }) more is found
          ∙ sym (deaf (machine_of program old.start old.limit) old.address old more is found);
    } where
      none_asks : (m : Machine) (address : ℕ) (frame : Frame) (asks : Asks) (answers : List Answer) → coded_at m.code address ≡ None → asks_from m address frame asks answers ≡ asks
      none_asks m zero frame asks answers e = refl
      none_asks m (suc next) frame asks answers e = ap (λ (c : Option Coded). asks_at m c next frame asks answers) e

      deaf : (m : Machine) (address : ℕ) (p : Process) (more : List Answer) → p.phase ≡ Waiting → coded_at program.code.items p.address ≡ None → asks_after program p more ≡ p.asks
      deaf m address p more is found =
          ap (λ (phase : Phase). asks_in phase program p.start p.limit p.address p.frame p.asks p.fed more) is
          ∙ none_asks (machine_of program p.start p.limit) p.address p.frame p.asks (with_fed p.fed more) found

-- ---- whole runs

pub same_then : (program : Program) (a b c : Process) → SameAsks program a b → SameAsks program b c → SameAsks program a c
same_then program a b c first next = record { same = λ more. next.same more ∙ first.same more }

-- a process that doesn't run any more is known to ask something
pub known : (p : Process) → Ready p → (p.phase ≡ Running → ⊥) → IsSome (asked_by p)
known p ready halted =
    let Q : Option Answer → Type 0 = λ fed. IsSome (asked_in p.phase p.asks fed) in
    subst Q (sym ready.unfed) (known_in p.phase p.asks ready.phase halted) where
      known_in : (phase : Phase) (asks : Asks) → ReadyIn phase → (phase ≡ Running → ⊥) → IsSome (asked_in phase asks None)
      known_in New asks r h = absurd r
      known_in Running asks r h = absurd (h refl)
      known_in Waiting asks r h = refl
      known_in Stopped asks r h = refl
      known_in OutOfMemory asks r h = absurd r

none_more : (m : Machine) (address : ℕ) (frame : Frame) (asks : Asks) → asks_from m address frame asks [] ≡ asks
none_more m zero frame asks = refl
none_more m (suc next) frame asks = at (slice_get m.code next) where
  at : (c : Option Coded) → asks_at m c next frame asks [] ≡ asks
  at None = refl
  at (Some coded) = refl

known_by : (phase : Phase) (fed : Option Answer) (program : Program) (start : Start) (limit address : ℕ) (frame : Frame) (held asks : Asks) → asked_in phase held fed ≡ Some asks
    → asks_in phase program start limit address frame held fed [] ≡ asks
known_by New fed program start limit address frame held asks e = absurd (cc)
known_by Running fed program start limit address frame held asks e = absurd (cc)
known_by OutOfMemory fed program start limit address frame held asks e = absurd (cc)
known_by Waiting (Some answer) program start limit address frame held asks e = absurd (cc)
known_by Waiting None program start limit address frame held asks e =
    let is : held ≡ asks = cc in none_more (machine_of program start limit) address frame held ∙ is
known_by Stopped (Some answer) program start limit address frame held asks e = absurd (cc)
known_by Stopped None program start limit address frame held asks e = cc

-- what it is known to ask is what it asks next
pub known_after : (program : Program) (p : Process) (asks : Asks) → asked_by p ≡ Some asks → asks ≡ asks_after program p []
known_after program p asks is = sym (known_by p.phase p.fed program p.start p.limit p.address p.frame p.asks asks is)

-- an answer that is fed is the first of those that come
fed_by : (phase : Phase) (fed : Option Answer) (program : Program) (start : Start) (limit address : ℕ) (frame : Frame) (asks : Asks) (answer : Answer) (more : List Answer)
    → IsSome (asked_in phase asks fed) → asks_in phase program start limit address frame asks (Some answer) more ≡ asks_in phase program start limit address frame asks fed (answer ∷ more)
fed_by New fed program start limit address frame asks answer more some = absurd (cc)
fed_by Running fed program start limit address frame asks answer more some = absurd (cc)
fed_by OutOfMemory fed program start limit address frame asks answer more some = absurd (cc)
fed_by Waiting (Some other) program start limit address frame asks answer more some = absurd (cc)
fed_by Waiting None program start limit address frame asks answer more some = refl
fed_by Stopped (Some other) program start limit address frame asks answer more some = absurd (cc)
fed_by Stopped None program start limit address frame asks answer more some = refl

pub fed_hears : (p : Process) (answer : Answer) → IsSome (asked_by p) → (program : Program) (more : List Answer)
    → asks_after program (record p { fed = Some answer }) more ≡ asks_after program p (answer ∷ more)
fed_hears p answer some program more = fed_by p.phase p.fed program p.start p.limit p.address p.frame p.asks answer more some

-- ---- what a process stands for

-- at first it asks what the code asks
pub new_stands : (program : Program) (p : Process) (start : Start) (limit : ℕ) → p.phase ≡ New → p.start ≡ start → p.limit ≡ limit → StandsFor program p start limit []
new_stands program p start limit is start_is limit_is =
    record {
      same = λ more.
          ap (λ (phase : Phase). asks_in phase program p.start p.limit p.address p.frame p.asks p.fed more) is
          ∙ (ap (λ (s : Start). code_ask program.core program.code s p.limit more) start_is
          ∙ ap (λ (l : ℕ). code_ask program.core program.code start l more) limit_is);
    }

pub fed_stands : (p : Process) (answer : Answer) → IsSome (asked_by p) → (program : Program) (start : Start) (limit : ℕ) (answers : List Answer) → StandsFor program p start limit answers
    → StandsFor program (record p { fed = Some answer }) start limit (answers ++ answer ∷ [])
fed_stands p answer some program start limit answers stands =
    record {
      same = λ more.
          fed_hears p answer some program more ∙ stands.same (answer ∷ more)
          ∙ ap (λ (all : List Answer). code_ask program.core program.code start limit all) (sym (append_assoc answers (answer ∷ []) more));
    }

pub stands_still : (program : Program) (old new : Process) (start : Start) (limit : ℕ) (answers : List Answer) → SameAsks program old new → StandsFor program old start limit answers
    → StandsFor program new start limit answers
stands_still program old new start limit answers kept stands = record { same = λ more. kept.same more ∙ stands.same more }

-- what it is known to ask is what the code asks
pub known_asks : (program : Program) (p : Process) (asks : Asks) (start : Start) (limit : ℕ) (answers : List Answer) → asked_by p ≡ Some asks → StandsFor program p start limit answers
    → asks ≡ code_ask program.core program.code start limit answers
known_asks program p asks start limit answers is stands =
    sym (known_by p.phase p.fed program p.start p.limit p.address p.frame p.asks asks is)
    ∙ (stands.same [] ∙ ap (λ (all : List Answer). code_ask program.core program.code start limit all) (append-nil answers))

-- a process begins at the entry of its role
pub begin_same : (program : Program) (old new : Process) → old.phase ≡ New → new.phase ≡ Running → new.start ≡ old.start → new.limit ≡ old.limit
    → new.address ≡ (entry_of program.code old.start.role old.start.code).address → new.frame ≡ frame_at (entry_of program.code old.start.role old.start.code) old.start old.limit
    → SameAsks program old new
begin_same program old new is runs start limit address frame =
    record {
      same = λ more.
          runs_asks program new (entry_of program.code old.start.role old.start.code).address more runs address
          ∙ (ap (λ (f : Frame). go (machine_of program new.start new.limit) (point (entry_of program.code old.start.role old.start.code).address f.operands) (stage_of f more)) frame
          ∙ (ap (λ (s : Start). go (machine_of program s new.limit) (point (entry_of program.code old.start.role old.start.code).address (begun_at old).operands) (stage_of (begun_at old) more)) start
          ∙ (ap (λ (l : ℕ). go (machine_of program old.start l) (point (entry_of program.code old.start.role old.start.code).address (begun_at old).operands) (stage_of (begun_at old) more)) limit
          ∙ sym (ap (λ (phase : Phase). asks_in phase program old.start old.limit old.address old.frame old.asks old.fed more) is))));
    } where
      begun_at : Process → Frame
      begun_at p = frame_at (entry_of program.code p.start.role p.start.code) p.start p.limit
