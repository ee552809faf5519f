-- A reply to an invocation of a `co`, by its place among those that are out.
use Rattle.std.proofs.Common.{◌≡◌, ℕ, suc, ◌+◌, Bool, eqb, List, ◌∷◌, Option, Some, None, refl, sym, ap, ◌∙◌, arith}
use Rattle.std.specs.Prelude.{option_map}
use Rattle.std.specs.List.{find, remove, slice_get, position, position_or_len}
use Rattle.std.proofs.lemmas.List.Folds.{find_at}
use Rattle.std.proofs.lemmas.Option.{slice_get_past}
use Rattle.sr_value.specs.declared.value.Value.{Value}
use Rattle.sr_ask.specs.Replies.{Completion, completion_of}
use Rattle.sr_ask.specs.declared.answer.Answer.TheVariants.{Took}
use Rattle.sr_ask.specs.declared.environment.Out.{Out}
use Rattle.sr_code.specs.Operands.{put_completed}
use Rattle.sr_code.specs.declared.operands.Completed.{Completed}
use Rattle.sr_code.specs.declared.instruction.Instruction.TheVariants.{TakeReply}
use Rattle.sr_execute.specs.Executes.{Moved, completing, led, moved}
use Rattle.sr_execute.specs.Meant.{resumes}
use Rattle.sr_execute.specs.Replies.{completed_at}
use Rattle.sr_frame.specs.Outs.{IsFirstOut}
use Rattle.sr_execute.specs.declared.frame.Frame.{Frame}
use Rattle.sr_frame.proofs.Drops.{dropped, position_found, position_none}

-- whose reply it is
led_by : (found : Option Out) (results : Option (List Value)) (f : Completion → Moved) → led (completion_of found results) f ≡ led found (λ out. f (record { out = out; results = results }))
led_by None results f = refl
led_by (Some out) results f = refl

pub took_at : (arms : List ℕ) (next : ℕ) (frame : Frame) (id at : ℕ) (results : Option (List Value)) → Some at ≡ position (λ (out : Out). eqb out.id id) frame.out
    → resumes (TakeReply arms) next frame (Took id results) ≡ completed_at at results arms next frame
took_at arms next frame id at results is =
    let p : Out → Bool = λ out. eqb out.id id in
    let go : Option Out → Option Moved = λ found. led found (λ out. completing (slice_get arms out.arm) (record { out = out; results = results }) next frame.operands frame) in
    led_by (find p frame.out) results (λ completion. completing (slice_get arms completion.out.arm) completion next frame.operands frame)
    ∙ ap go (find_at p frame.out ∙ ap (slice_get frame.out) (sym (position_found p frame.out at is).0))

pub took_none : (arms : List ℕ) (next : ℕ) (frame : Frame) (id : ℕ) (results : Option (List Value)) → None ≡ position (λ (out : Out). eqb out.id id) frame.out
    → resumes (TakeReply arms) next frame (Took id results) ≡ None
took_none arms next frame id results is =
    let p : Out → Bool = λ out. eqb out.id id in
    let go : Option Out → Option Moved = λ found. led found (λ out. completing (slice_get arms out.arm) (record { out = out; results = results }) next frame.operands frame) in
    led_by (find p frame.out) results (λ completion. completing (slice_get arms completion.out.arm) completion next frame.operands frame)
    ∙ ap go (find_at p frame.out ∙ slice_get_past frame.out (position_or_len p frame.out) (position_none p frame.out is))

one_more : (n : ℕ) → suc n ≡ n + 1
one_more n = omega arith

-- an arm that isn't there uses the reply up
no_arm : (found : Option Out) (results : Option (List Value)) (arms : List ℕ) (next arm : ℕ) (frame : Frame)
    → Some arm ≡ option_map (λ (out : Out). out.arm) found → None ≡ slice_get arms arm
    → led found (λ out. completing (slice_get arms out.arm) (record { out = out; results = results }) next frame.operands frame) ≡ Some (record { address = suc next; frame = frame })
no_arm None results arms next arm frame is none = absurd (cc)
no_arm (Some out) results arms next arm frame is none =
    let same : arm ≡ out.arm = cc in
    ap (λ (to : Option ℕ). Some (completing to (record { out = out; results = results }) next frame.operands frame)) (ap (slice_get arms) (sym same) ∙ sym none)

pub completed_none : (at : ℕ) (results : Option (List Value)) (arms : List ℕ) (next arm : ℕ) (frame : Frame)
    → Some arm ≡ option_map (λ (out : Out). out.arm) (slice_get frame.out at) → None ≡ slice_get arms arm
    → completed_at at results arms next frame ≡ Some (record { address = next + 1; frame = frame })
completed_none at results arms next arm frame is none =
    no_arm (slice_get frame.out at) results arms next arm frame is none ∙ ap (λ (n : ℕ). Some (record { address = n; frame = frame })) (one_more next)

-- the invocation is out no more, and its arm has the reply
pub completed_some : (at : ℕ) (results : Option (List Value)) (arms : List ℕ) (next arm to : ℕ) (frame : Frame) (out : Out) (rest : List Out) (new : List Completed)
    → IsFirstOut frame.out at → Some arm ≡ option_map (λ (out : Out). out.arm) (slice_get frame.out at) → Some to ≡ slice_get arms arm
    → slice_get frame.out at ≡ Some out → rest ≡ remove frame.out at → new ≡ record { out = out; results = results } ∷ frame.operands.completed
    → completed_at at results arms next frame ≡ Some (record { address = to; frame = record frame { operands = record frame.operands { completed = new }; out = rest } })
completed_some at results arms next arm to frame out rest new first is look item others put =
    let go : Option Out → Option Moved = λ found. led found (λ o. completing (slice_get arms o.arm) (record { out = o; results = results }) next frame.operands frame) in
    let found : Some arm ≡ Some out.arm = is ∙ ap (option_map (λ (o : Out). o.arm)) item in
    let same : arm ≡ out.arm = cc in
    ap go item
    ∙ ap (λ (t : Option ℕ). Some (completing t (record { out = out; results = results }) next frame.operands frame)) (ap (slice_get arms) (sym same) ∙ sym look)
    ∙ ap (λ (left : List Out). Some (moved to (put_completed (record { out = out; results = results }) frame.operands) (record frame { out = left }))) (dropped frame.out rest at out first item others)
    ∙ ap (λ (done : List Completed). Some (moved to (record frame.operands { completed = done }) (record frame { out = rest }))) (sym put)
