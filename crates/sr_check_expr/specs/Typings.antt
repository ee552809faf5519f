-- What is found in an expression, and what it is.
use Rattle.std.specs.Prelude.{Bool, true, false, List, [], ◌∷◌, ◌++◌, if◌then◌else◌, map}
use Rattle.sr_value.specs.declared.place.Span.{Span}
use Rattle.sr_names.specs.declared.finding.Finding.{Finding}
use Rattle.sr_names.specs.declared.finding.Rule.{Rule}
use Rattle.sr_names.specs.declared.finding.Rule.TheVariants.{BadType}
use Rattle.sr_names.specs.Readings.{broken}
use Rattle.sr_types.specs.declared.typed.Outcome.{Outcome}
use Rattle.sr_types.specs.declared.typed.Outcome.TheVariants.{Broken, Met}
use Rattle.sr_types.specs.declared.typed.Typed.{Typed}
use Rattle.sr_types.specs.Outcomes.{refused_typed}
use Rattle.sr_check_expr.specs.declared.typed_expr.TypedExpr.{TypedExpr}
use Rattle.sr_check_expr.specs.declared.typed_expr.Named.{Named}
use Rattle.sr_check_expr.specs.declared.typed_expr.Named.TheVariants.{Nothing, Number, Operation, «Type» as TypeName, OpType, Component, Predefined}

pub record Typing : Type 0 where
  pub found : List Finding
  pub typed_expr : TypedExpr

-- a rule that isn't met is a finding
abbrev pub broken_unless : Bool → Rule → Span → List Finding
broken_unless met rule span = if met then [] else broken rule span ∷ []

-- an expression that is nothing but a value
abbrev pub value_at : Span → Typed → TypedExpr
value_at span typed = record { span = span; typed = typed; named = Nothing }

-- an expression that has no value, but names something
abbrev pub name_at : Span → Named → TypedExpr
name_at span named = record { span = span; typed = refused_typed; named = named }

abbrev pub is_value_name : Named → Bool
is_value_name Nothing = true
is_value_name (Number number) = true
is_value_name (Operation spot) = true
is_value_name (TypeName ty) = false
is_value_name OpType = false
is_value_name (Component decl) = false
is_value_name (Predefined name) = false

-- where a value is wanted, the name of a type, of the type of an operation, of a component or of a predefined
-- function is the wrong sort of name
abbrev pub value_found : TypedExpr → List Finding
value_found typed_expr = broken_unless (is_value_name typed_expr.named) BadType typed_expr.span

-- what is found in an expression that stands where a value is wanted
abbrev pub valued : Typing → List Finding
valued typing = typing.found ++ value_found typing.typed_expr

-- what the whole is, by the outcome of its rule
abbrev pub settled_typed : Outcome → Typed
settled_typed Broken = refused_typed
settled_typed (Met whole) = whole

abbrev pub is_met : Outcome → Bool
is_met Broken = false
is_met (Met whole) = true

-- a construct with what is found in its parts: its rule is met, or it is refused at its first token
abbrev pub settled : Span → List Finding → Outcome → Typing
settled span found outcome = record {
  found = found ++ broken_unless (is_met outcome) BadType span;
  typed_expr = value_at span (settled_typed outcome);
}

abbrev pub plain : TypedExpr → Typing
plain typed_expr = record { found = []; typed_expr = typed_expr }

-- a name that means nothing that an expression can be
abbrev pub refused_at : Span → Typing
refused_at span = record { found = broken BadType span ∷ []; typed_expr = value_at span refused_typed }

abbrev pub typed_exprs_of : List Typing → List TypedExpr
typed_exprs_of typings = map (λ typing. typing.typed_expr) typings

-- a construct with what is found in its parts besides
abbrev pub with_found : List Finding → Typing → Typing
with_found found typing = record { found = found ++ typing.found; typed_expr = typing.typed_expr }
