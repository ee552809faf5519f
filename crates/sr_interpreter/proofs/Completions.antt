-- The next reply of a `co`, by the place of its invocation among those that are out.
use Rattle.std.proofs.Common.{◌≡◌, ℕ, ◌<◌, List, length, map, Option, option_map, Some, Result, Err, refl, sym, ap, ◌∙◌, inl, inr, subst, arith}
use Rattle.std.specs.List.{slice_get}
use Rattle.std.proofs.lemmas.Option.{slice_get-map, slice_get_cases}
use Rattle.sr_ask.specs.Behaviors.{Stage, Outcome, Came, Stops, and_then}
use Rattle.sr_ask.specs.declared.ask.Asks.{Asks}
use Rattle.sr_ask.specs.declared.environment.Out.{Out}
use Rattle.sr_ask.specs.declared.request.Request.TheVariants.{Take}
use Rattle.sr_core.specs.declared.statement.CoArm.{CoArm}
use Rattle.sr_interpreter_parts.specs.declared.co.PlacedReply.{PlacedReply}
use Rattle.sr_meaning.specs.declared.ending.Ending.{Ending}
use Rattle.sr_meaning.specs.Here.{Here, ask_of}
use Rattle.sr_meaning.specs.Pieces.{co_part_of}
use Rattle.sr_interpreter_parts.specs.StatementParts.{take_place}
use Rattle.sr_frame.specs.Outs.{IsFirstOut}
use Rattle.sr_interpreter.specs.Blocks.{completing, next_completion}
use Rattle.sr_meaning.specs.Statements.{CoPart, take_one}
use Rattle.sr_interpreter_expr.specs.Interpreters.{Agrees}
use Rattle.sr_interpreter_expr.specs.declared.stop.Stop.{Stop}
use Rattle.sr_interpreter_expr.specs.declared.stop.Stop.TheVariants.{Asks as stopped, NoMemory as out_of_memory}
use Rattle.sr_interpreter_parts.proofs.Replies.{Placed, placed}
use Rattle.sr_ask.specs.Replies.{Completion}

placed_now : (here : Here) (stage : Stage) → Placed stage.out (take_place here stage) (take_one here stage)
placed_now here stage = placed stage.out (ask_of (Take (map (λ out. out.id) stage.out)) here) here.limit stage.answers stage refl

taken_at : (here : Here) (stage after : Stage) (reply : PlacedReply) (out : Out) → take_place here stage ≡ Came reply after → slice_get after.out reply.at ≡ Some out
    → take_one here stage ≡ Came (record { out = out; results = reply.results }) after
taken_at here stage after reply out e at =
    let P : Outcome PlacedReply → Type 0 = λ o. Placed stage.out o (take_one here stage) in
    let there = subst P e (placed_now here stage) in
    there.2 out (ap (λ outs. slice_get outs reply.at) (sym there.0) ∙ at)

-- what a reply leads to
pub next_came : (arms : List CoArm) (here : Here) (stage after : Stage) (reply : PlacedReply) (out : Out)
    → take_place here stage ≡ Came reply after → slice_get after.out reply.at ≡ Some out
    → next_completion (map co_part_of arms) here stage ≡ completing out reply.results (option_map co_part_of (slice_get arms out.arm)) here after
next_came arms here stage after reply out e at =
    let next : Completion → Stage → Outcome (Option Ending) = λ completion. completing completion.out completion.results (slice_get (map co_part_of arms) completion.out.arm) here in
    ap (λ o. and_then o next) (taken_at here stage after reply out e at)
    ∙ ap (λ part. completing out reply.results part here after) (slice_get-map co_part_of arms out.arm)

-- where no reply comes, the process asks for one
pub next_stops : (parts : List CoPart) (here : Here) (stage : Stage) (asks : Asks) → take_place here stage ≡ Stops asks → next_completion parts here stage ≡ Stops asks
next_stops parts here stage asks e =
    let P : Outcome PlacedReply → Type 0 = λ o. Placed stage.out o (take_one here stage) in
    let there = subst P e (placed_now here stage) in
    rw there

-- an invocation at a place that is there
out_at : (outs : List Out) (at : ℕ) → at < length outs → (out : Out) × (slice_get outs at ≡ Some out)
out_at outs at within =
    elim (slice_get_cases outs at).1 [
      | inl w ↦ (w.0, w.2)
      | inr w ↦ absurd (omega arith)
    ]

-- what the reference interpreter gives for a reply that it took
pub reply_given : (arms : List CoArm) (here : Here) (stage after : Stage) (reply : PlacedReply) (result : Result (Option Ending) Stop) (last : Stage)
    → take_place here stage ≡ Came reply after → IsFirstOut after.out reply.at
    → ((out : Out) → slice_get after.out reply.at ≡ Some out → Agrees (completing out reply.results (option_map co_part_of (slice_get arms out.arm)) here after) result last)
    → Agrees (next_completion (map co_part_of arms) here stage) result last
reply_given arms here stage after reply result last e first each =
    let found = out_at after.out reply.at first.within in
    let P : Outcome (Option Ending) → Type 0 = λ o. Agrees o result last in
    subst P (sym (next_came arms here stage after reply found.0 e found.1)) (each found.0 found.1)

-- what it gives where it took none
pub no_reply_given : (parts : List CoPart) (here : Here) (stage last : Stage) (stop : Stop)
    → Agrees (take_place here stage) (Err stop) last → Agrees (next_completion parts here stage) (Err stop) last
no_reply_given parts here stage last (stopped asks) e = next_stops parts here stage asks e
no_reply_given parts here stage last out_of_memory e = tt
