-- A reply to an invocation of a `co`, by its place among those that are out.
use Rattle.std.proofs.Common.{◌≡◌, ℕ, ◌+◌, cond, not, eqb, ltb, List, [], ◌∷◌, length, map, Option, option_map, Some, None, Result, Ok, Err, IfOk, refl, sym, ap, ◌∙◌, subst}
use Rattle.std.specs.List.{slice_get, position, position_or_len}
use Rattle.std.proofs.lemmas.List.{length-map}
use Rattle.std.proofs.lemmas.List.Folds.{find_at}
use Rattle.std.proofs.lemmas.Option.{slice_get_past}
use Rattle.sr_value.specs.declared.value.Value.{Value}
use Rattle.sr_ask.specs.Behaviors.{Stage, Outcome, Came, Stops, asking, hear, heard}
use Rattle.sr_ask.specs.declared.answer.Answer.{Answer}
use Rattle.sr_ask.specs.declared.answer.Answer.TheVariants.{Done, Got, Made, Ready, Picked, Else, Took, Number, Bad, End}
use Rattle.sr_ask.specs.declared.ask.Asks.{Asks}
use Rattle.sr_ask.specs.declared.environment.Out.{Out}
use Rattle.sr_interpreter_parts.specs.declared.co.PlacedReply.{PlacedReply}
use Rattle.sr_interpreter_expr.specs.declared.stop.Stop.{Stop}
use Rattle.sr_interpreter_parts.specs.StatementParts.{took_place}
use Rattle.sr_frame.specs.Outs.{IsFirstOut}
use Rattle.sr_interpreter_expr.specs.Interpreters.{Agrees}
use Rattle.sr_ask.specs.Replies.{Completion, completion_of, took_one}
use Rattle.sr_frame.proofs.Drops.{first_out, position_found, position_none}

-- what an answer gives by its place, and what it gives
abbrev Matches : List Out → Option PlacedReply → Option Completion → Type 0
Matches outs None found = found ≡ None
Matches outs (Some reply) found =
    IsFirstOut outs reply.at × ((out : Out) → slice_get outs reply.at ≡ Some out → found ≡ Some (record { out = out; results = reply.results }))

-- the same of what comes of it
abbrev pub Placed : List Out → Outcome PlacedReply → Outcome Completion → Type 0
Placed outs (Came reply after) found =
    (after.out ≡ outs) × IsFirstOut outs reply.at × ((out : Out) → slice_get outs reply.at ≡ Some out → found ≡ Came (record { out = out; results = reply.results }) after)
Placed outs (Stops asks) found = found ≡ Stops asks

same_place : (id : ℕ) (outs : List Out) → position_or_len (λ i. eqb i id) (map (λ out. out.id) outs) ≡ position_or_len (λ out. eqb out.id id) outs
same_place id [] = refl
same_place id (out ∷ outs) = ap (λ n. cond (not (eqb out.id id)) (1 + n) 0) (same_place id outs)

where_placed : (id : ℕ) (outs : List Out) → position (λ i. eqb i id) (map (λ out. out.id) outs) ≡ position (λ out. eqb out.id id) outs
where_placed id outs =
    let same = same_place id outs in
    let long : length (map (λ (out : Out). out.id) outs) ≡ length outs = simp length-map in
    let at : ℕ → ℕ → Option ℕ = λ n m. cond (ltb n m) (Some n) None in
    ap (λ n. at n (length (map (λ (out : Out). out.id) outs))) same ∙ ap (λ m. at (position_or_len (λ (out : Out). eqb out.id id) outs) m) long

match_cases : (id : ℕ) (results : Option (List Value)) (outs : List Out) (place : Option ℕ) → place ≡ position (λ (out : Out). eqb out.id id) outs
    → Matches outs (option_map (λ at. record { at = at; results = results }) place) (completion_of (slice_get outs (position_or_len (λ (out : Out). eqb out.id id) outs)) results)
match_cases id results outs (Some at) e =
    let found = position_found (λ (out : Out). eqb out.id id) outs at e in
    (first_out id outs at e, λ out is. ap (λ o. completion_of o results) (ap (slice_get outs) (sym found.0) ∙ is))
match_cases id results outs None e =
    ap (λ o. completion_of o results) (slice_get_past outs _ (position_none (λ (out : Out). eqb out.id id) outs e))

match_took : (id : ℕ) (results : Option (List Value)) (outs : List Out) → Matches outs (took_place (map (λ out. out.id) outs) (Took id results)) (took_one outs (Took id results))
match_took id results outs =
    let Q : Option Out → Type 0 = λ found. Matches outs (option_map (λ at. record { at = at; results = results }) (position (λ i. eqb i id) (map (λ out. out.id) outs))) (completion_of found results) in
    subst Q (sym (find_at (λ out. eqb out.id id) outs)) (match_cases id results outs (position (λ i. eqb i id) (map (λ out. out.id) outs)) (where_placed id outs))

matches : (outs : List Out) (answer : Answer) → Matches outs (took_place (map (λ out. out.id) outs) answer) (took_one outs answer)
matches outs (Took id results) = match_took id results outs
matches outs Done = refl
matches outs (Got value) = refl
matches outs (Made name) = refl
matches outs Ready = refl
matches outs (Picked id arm args back) = refl
matches outs Else = refl
matches outs (Number n) = refl
matches outs Bad = refl
matches outs End = refl

placed_step : (outs : List Out) (place : Option PlacedReply) (found : Option Completion) (stage : Stage) (later : Outcome PlacedReply) (later' : Outcome Completion)
    → stage.out ≡ outs → Matches outs place found → Placed outs later later' → Placed outs (hear place stage later) (hear found stage later')
placed_step outs None found stage later later' e m rest = let P : Option Completion → Type 0 = λ f. Placed outs later (hear f stage later') in subst P (sym m) rest
placed_step outs (Some reply) found stage later later' e m rest = (e, m.0, λ out is. ap (λ f. hear f stage later') (m.1 out is))

pub placed : (outs : List Out) (asks : Asks) (limit : ℕ) (answers : List Answer) (stage : Stage) → stage.out ≡ outs
    → Placed outs (heard (took_place (map (λ out. out.id) outs)) asks limit answers stage) (heard (took_one outs) asks limit answers stage)
placed outs asks limit [] stage e = refl
placed outs asks limit (answer ∷ answers) stage e =
    placed_step outs (took_place (map (λ out. out.id) outs) answer) (took_one outs answer) (record stage { ticks = limit; answers = answers }) _ _ e (matches outs answer)
    (placed outs asks limit answers (record stage { answers = answers }) e)

placed_first : (outs : List Out) (meant : Outcome PlacedReply) (found : Outcome Completion) (result : Result PlacedReply Stop) (after : Stage)
    → Placed outs meant found → Agrees meant result after → IfOk result (λ reply. IsFirstOut after.out reply.at)
placed_first outs meant found (Ok reply) after is e =
    let P : Outcome PlacedReply → Type 0 = λ o. Placed outs o found in
    let Q : List Out → Type 0 = λ all. IsFirstOut all reply.at in
    let there = subst P e is in
    subst Q (sym there.0) there.1
placed_first outs meant found (Err stop) after is e = tt

-- a reply that was taken is to the first invocation of its number that is out
pub reply_first : (asks : Asks) (limit : ℕ) (stage : Stage) (result : Result PlacedReply Stop) (after : Stage)
    → Agrees (asking (took_place (map (λ out. out.id) stage.out)) asks limit stage) result after → IfOk result (λ reply. IsFirstOut after.out reply.at)
reply_first asks limit stage result after = placed_first stage.out _ _ result after (placed stage.out asks limit stage.answers stage refl)

-- the same by the numbers of the invocations
pub reply_first_ids : (ids : List ℕ) (asks : Asks) (limit : ℕ) (stage : Stage) (result : Result PlacedReply Stop) (after : Stage)
    → ids ≡ map (λ (out : Out). out.id) stage.out → Agrees (asking (took_place ids) asks limit stage) result after → IfOk result (λ reply. IsFirstOut after.out reply.at)
reply_first_ids ids asks limit stage result after same is =
    let P : List ℕ → Type 0 = λ i. Agrees (asking (took_place i) asks limit stage) result after in
    reply_first asks limit stage result after (subst P same is)
