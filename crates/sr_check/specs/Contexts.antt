-- Where a statement stands, and what is found in it.
use Rattle.std.specs.Prelude.{Bool, true, List, [], ◌∷◌, ◌++◌}
use Rattle.sr_names.specs.declared.finding.Finding.{Finding}
use Rattle.sr_names.specs.declared.spot.Spot.{Spot}
use Rattle.sr_check_expr.specs.declared.facts.Facts.{Facts}
use Rattle.sr_check.specs.declared.enclosing.Enclosing.{Enclosing}
use Rattle.sr_check.specs.declared.serving.Serving.{Serving}
use Rattle.sr_check.specs.declared.serving.Serving.TheVariants.{Serves}
use Rattle.sr_check.specs.Procs.{Procs}

pub record Context : Type 0 where
  pub facts : Facts
  -- the procs of the component
  pub procs : Procs
  -- whose service is innermost
  pub serving : Serving
  -- whether there is a loop or a `co` to leave
  pub in_loop : Bool

-- what is around a statement, with what is declared before it
abbrev pub context_of : Enclosing → Facts → Context
context_of enclosing facts = record { facts = facts; procs = enclosing.procs.now; serving = enclosing.serving; in_loop = enclosing.in_loop }

-- what is found in a construct, and what is declared after it
pub record Step : Type 0 where
  pub found : List Finding
  pub facts : Facts

abbrev pub Steps : Type 0
Steps = Context → Step

abbrev pub with_facts : Context → Facts → Context
with_facts context facts = record context { facts = facts }

abbrev pub looping : Context → Context
looping context = record context { in_loop = true }

abbrev pub serving_for : Context → Spot → Context
serving_for context operation = record context { serving = Serves operation }

-- each construct sees what those before it declare
abbrev pub in_order : List Steps → Steps
in_order [] context = record { found = []; facts = context.facts }
in_order (steps ∷ more) context = record {
  found = (steps context).found ++ (in_order more (with_facts context (steps context).facts)).found;
  facts = (in_order more (with_facts context (steps context).facts)).facts;
}

abbrev pub with_more : List Finding → Step → Step
with_more found step = record { found = found ++ step.found; facts = step.facts }

abbrev pub only_found : Context → List Finding → Step
only_found context found = record { found = found; facts = context.facts }
