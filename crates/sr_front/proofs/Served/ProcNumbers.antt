-- What holds of each proc where it stands holds of it in the component of the operation that it serves.
use Rattle.std.proofs.Common.{◌≡◌, ℕ, List, Some, slice_get, sym, ap, ◌∙◌, subst, arith}
use Rattle.std.specs.Prelude.{IsTrue}
use Rattle.std.specs.List.{enumerate_from, list_all}
use Rattle.std.proofs.lemmas.Bool.{and_from}
use Rattle.sr_check.specs.Owners.{component_at}
use Rattle.sr_check.specs.Servicing.{AllServiceOwn}
use Rattle.sr_check_expr.specs.declared.facts.Facts.{Facts}
use Rattle.sr_core.specs.declared.component.Component.{Component as CoreComponent}
use Rattle.sr_core.specs.declared.component.Core.{Core}
use Rattle.sr_core.specs.declared.component.Operation.{Operation}
use Rattle.sr_core.specs.declared.component.Proc.{Proc}
use Rattle.sr_core.specs.Numbers.{all_numbers_ok, numbers_ok, proc_numbers_ok}
use Rattle.sr_desugar.specs.Core.{LoweredComponent, whole_of}
use Rattle.sr_desugar.specs.Numbered.{codes_numbered, procs_numbered}
use Rattle.sr_core.specs.Waiting.{CodeTest, all_code, component_codes, proc_code}
use Rattle.sr_names.specs.declared.spot.Spot.{Spot}
use Rattle.sr_names.specs.Noted.{Meanings}
use Rattle.sr_names.specs.Searches.{At}
use Rattle.sr_outline.specs.Numbers.{component_served}
use Rattle.sr_tree.specs.declared.component.Component.{Component}
use Rattle.sr_tree.specs.declared.component.File.{File}
use Rattle.sr_front.proofs.Known.Declared.{Apart, one_component}
use Rattle.sr_front.proofs.Lists.Members.{Among, at_get, at_made, at_map, numbered_at, part_of, passed, passes_at, zip_at}
use Rattle.sr_front.proofs.Served.Operations.{components, core, imports, table, tables, wholes}
use Rattle.sr_front.proofs.Served.Procs.{ServesAt, component_serves}
use Rattle.sr_front.proofs.Served.Services.{put, serves_own}

in_component : (core : Core) (test : CodeTest) (proc : Proc) (operation : Operation) (component : CoreComponent) → slice_get core.operations proc.op ≡ Some operation
    → slice_get core.components operation.component ≡ Some component → IsTrue (test operation.component component proc.body) → IsTrue (proc_code core test proc)
in_component core test proc operation component named there ok = rw (named, there) ok

module _ (uses : Meanings) (files : List File) (known facts : Facts) (same : facts.uses ≡ uses) (services : AllServiceOwn uses files known) (apart : Apart files) where
  abbrev all : List Component
  all = components files facts

  -- the component of the operation that a proc serves is the one in which it stands
  served_here : (test : CodeTest) (number : ℕ) (tree : Component) (whole : LoweredComponent) (proc : Proc) (spot : Spot) → At all number tree → At (wholes files facts) number whole
      → Among (component_served facts tree) spot → ServesAt (table files facts) proc spot → IsTrue (test number whole.component proc.body)
      → IsTrue (proc_code (core files facts) test proc)
  served_here test number tree whole proc spot there at among serving ok =
      let declared = serves_own uses files known facts same services number tree spot there among in
      let operation = put files facts apart spot (component_at tree) declared.0 declared.1 in
      let place : operation.operation.component ≡ number =
      operation.owner ∙ one_component files operation.whose.number number operation.whose.tree tree apart operation.whose.there there operation.whose.at in
      in_component (core files facts) test proc operation.operation whole.component
      (ap (slice_get (core files facts).operations) serving.is ∙ operation.numbered)
      (ap (slice_get (core files facts).components) place
      ∙ at_get (core files facts).components number whole.component (at_map (λ (one : LoweredComponent). one.component) (wholes files facts) number whole at))
      (subst (λ at. IsTrue (test at whole.component proc.body)) (sym place) ok)

  -- a test that the procs of each component pass where they stand
  abbrev pub ProcsPass : CodeTest → Type 0
  ProcsPass test = (number : ℕ) (whole : LoweredComponent) → At (wholes files facts) number whole → IsTrue (list_all (λ (proc : Proc). test number whole.component proc.body) whole.procs)

  proc_ok : (test : CodeTest) → ProcsPass test → (place : ℕ) (proc : Proc) → At (core files facts).procs place proc → IsTrue (proc_code (core files facts) test proc)
  proc_ok test pass place proc h =
      let part = part_of (λ (whole : LoweredComponent). whole.procs) (wholes files facts) place proc h in
      let whole : LoweredComponent = part.1 in
      let made = at_made (whole_of facts (tables files facts) (imports files facts)) (enumerate_from 0 all) part.0 whole part.2 in
      let there = numbered_at 0 all part.0 made.0 made.1 in
      let number : made.0.0 ≡ part.0 = omega (arith, there.0) in
      let serving = zip_at (ServesAt (table files facts)) (whole_of facts (tables files facts) (imports files facts) made.0).procs (component_served facts made.0.1) part.3.0 proc
      (component_serves facts (tables files facts) (imports files facts) made.0.0 made.0.1)
      (subst (λ (one : LoweredComponent). At one.procs part.3.0 proc) (sym made.2) part.3.1) in
      served_here test part.0 made.0.1 whole proc serving.0 there.1 part.2 (part.3.0, serving.1) serving.2
      (passes_at (λ (one : Proc). test part.0 whole.component one.body) whole.procs part.3.0 proc (pass part.0 whole part.2) part.3.1)

  -- a test that all code passes where it stands
  pub all_code_ok : (test : CodeTest) → IsTrue (component_codes test 0 (core files facts).components) → ProcsPass test → IsTrue (all_code (core files facts) test)
  all_code_ok test codes procs = and_from _ _ codes (passed (proc_code (core files facts) test) (core files facts).procs (proc_ok test procs))

  -- clause `numbers` of `IsWellFormed`
  pub numbers_are_ok : IsTrue (codes_numbered (core files facts)) → IsTrue (list_all (procs_numbered (core files facts)) (wholes files facts)) → IsTrue (all_numbers_ok (core files facts))
  numbers_are_ok codes procs =
      and_from _ _ codes
      (passed (proc_numbers_ok (core files facts)) (core files facts).procs
      (proc_ok (λ number. numbers_ok (core files facts)) (λ number whole at. passes_at (procs_numbered (core files facts)) (wholes files facts) number whole procs at)))
