-- Parts of statements, as the reference interpreter carries them out.
use Rattle.std.specs.Prelude.{ℕ, ◌==◌, List, map, Option, None, option_map}
use Rattle.std.specs.List.{position}
use Rattle.sr_ask.specs.Asking.{selected}
use Rattle.sr_ask.specs.Behaviors.{◌>>=◌}
use Rattle.sr_ask.specs.declared.answer.Answer.{Answer}
use Rattle.sr_ask.specs.declared.answer.Answer.TheVariants.{Took}
use Rattle.sr_ask.specs.declared.forms.Selection.{Selection}
use Rattle.sr_ask.specs.declared.request.Request.TheVariants.{Select, Take}
use Rattle.sr_interpreter_parts.specs.declared.co.PlacedReply.{PlacedReply}
use Rattle.sr_meaning.specs.Expressions.{Meaning, in_order}
use Rattle.sr_meaning.specs.Here.{request}
use Rattle.sr_meaning.specs.Statements.{named_value, site_at}

-- the request for the arm of an `in` that is to run, out of so many
abbrev pub choosing : ℕ → ℕ → Meaning Selection
choosing site arms here =
    in_order (map named_value (site_at site here).names) here >>= λ env.
    request (selected arms (site_at site here).has_else) (Select site env) here

-- `Took`, of one of these invocations, by its place among them
abbrev pub took_place : List ℕ → Answer → Option PlacedReply
took_place ids (Took id results) = option_map (λ at. record { at = at; results = results }) (position (λ i. i == id) ids)
took_place ids _ = None

-- the earliest reply to one of the invocations that are out
abbrev pub take_place : Meaning PlacedReply
take_place here stage = request (took_place (map (λ out. out.id) stage.out)) (Take (map (λ out. out.id) stage.out)) here stage
