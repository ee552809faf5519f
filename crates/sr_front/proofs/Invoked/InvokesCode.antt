-- Where no rule is broken, what is invoked in the code of components passes.
use Rattle.std.proofs.Common.{◌≡◌, ℕ, ◌+◌, List, [], ◌∷◌, Some, map, flat_map, IsTrue, length, refl, sym, ap, ◌∙◌}
use Rattle.std.proofs.lemmas.Bool.{and_from}
use Rattle.std.proofs.lemmas.List.{length-map}
use Rattle.std.specs.List.{list_all}
use Rattle.sr_check.proofs.Each.{Each}
use Rattle.sr_check.specs.Components.{components_read}
use Rattle.sr_check.specs.ErrorFree.{ErrorFree}
use Rattle.sr_check_expr.specs.declared.facts.Facts.{Facts}
use Rattle.sr_core.specs.declared.component.Operation.{Operation}
use Rattle.sr_core.specs.declared.expression.Expr.TheVariants as core
use Rattle.sr_core.specs.declared.statement.Scope.{Scope}
use Rattle.sr_desugar.specs.Bodies.{in_body, process_send, quantifier_argument}
use Rattle.sr_desugar.specs.Core.{scene_of}
use Rattle.sr_lower_expr.specs.declared.scene.Scene.{Scene}
use Rattle.sr_lower_expr.specs.Places.{own_place, own_root}
use Rattle.sr_names.specs.declared.spot.Spot.{Spot}
use Rattle.sr_names.specs.Spots.{spot_of}
use Rattle.sr_order.specs.Names.{block_names, const_names, quantifier_names, semaphore_names, statement_names, var_names}
use Rattle.sr_outline.specs.Heads.{DeclaredOperation, Heads, int_parameter, process_opened, sems_opened, sent_head}
use Rattle.sr_outline.specs.Numbers.{inner_names, names_in, quantifier_names as quantifier_spots}
use Rattle.sr_tables.specs.declared.tables.Tables.{Tables}
use Rattle.sr_tables.specs.Shapes.{Shapes}
use Rattle.sr_tables.specs.Tables.{found_at}
use Rattle.sr_tables.specs.Parts.{spot_named}
use Rattle.sr_tree.specs.declared.component.Component.{Component}
use Rattle.sr_tree.specs.declared.component.Item.{Item}
use Rattle.sr_tree.specs.declared.component.Item.TheVariants as item
use Rattle.sr_tree.specs.declared.component.Process.{Process}
use Rattle.sr_tree.specs.declared.component.ProcItem.{ProcItem}
use Rattle.sr_tree.specs.declared.component.SpecItem.{SpecItem}
use Rattle.sr_tree.specs.declared.component.SpecItem.TheVariants as spec
use Rattle.sr_tree.specs.declared.declaration.Semaphore.{Semaphore}
use Rattle.sr_tree.specs.declared.statement.Quantifier.{Quantifier}
use Rattle.sr_tree.specs.Parts.{body_of, spec_of}
use Rattle.sr_front.specs.Invocations.{InvocationTest, action_invokes, argument_invokes}
use Rattle.sr_front.proofs.Known.FreeBlocks.{FreeComponents}
use Rattle.sr_front.proofs.Invoked.InvokesDecls.{SentTo, const_invokes, own_invokes, semaphores_invoke, var_invokes}
use Rattle.sr_front.proofs.Invoked.InvokesMade.{invocation_rules, invocation_tests}
use Rattle.sr_front.proofs.Invoked.InvokesMet.{Allowed}
use Rattle.sr_front.proofs.Invoked.InvokesRules.{load_rule, place_at_invokes, val_rule}
use Rattle.sr_front.proofs.Invoked.InvokesStatements.{parts_pass}
use Rattle.sr_front.proofs.Invoked.InvokesTargets.{Reads}
use Rattle.sr_front.proofs.Known.KeptBy.{KeptBetween, Names}
use Rattle.sr_front.proofs.Known.KeptNames.{Anywhere, all_fit}
use Rattle.sr_front.proofs.Made.MadeCode.{BodyHad, CodeHad, CodeParts, FreeHad, ItemHad, SpecHad}
use Rattle.sr_front.proofs.Made.MadeComponents.{AllGiven, ComponentParts, WholesFit, components_fit}
use Rattle.sr_front.proofs.Made.MadeHere.{AndTyped, HeldIn}
use Rattle.sr_front.proofs.Lists.Placed.{Ending, Placed}
use Rattle.sr_front.proofs.Names.PlainNames.{component_code_plain}
use Rattle.sr_front.proofs.Mentioned.ReadsCode.{component_inside}

-- ---- nothing has to hold of names

abbrev Any : Scene → Spot → Type 0
Any scene = Anywhere

each_any : {A : Type 0} (Q : A → Type 0) (xs : List A) → ((x : A) → Q x) → Each Q xs
each_any Q [] all = tt
each_any Q (x ∷ xs) all = (all x, each_any Q xs all)

module _ (scene : Scene) where
  any_body : (own : List Spot) (block : List ProcItem) → BodyHad Any Any scene own block
  any_body own block = record { names = all_fit spot_of (block_names block); owned = all_fit (λ spot. spot) (flat_map (inner_names scene.facts) block) }

  any_spec : (one : SpecItem) → SpecHad Any Any scene one
  any_spec (spec.Const constant) = all_fit spot_of (const_names constant)
  any_spec (spec.Var variables) = all_fit spot_of (var_names variables)
  any_spec (spec.Sem declared) = all_fit spot_of (flat_map semaphore_names declared.semaphores)
  any_spec (spec.Import imports) = tt
  any_spec (spec.«Type» named) = tt
  any_spec (spec.OpType named) = tt
  any_spec (spec.Op operations) = tt

  any_item : (one : Item) → ItemHad Any Any scene one
  any_item (item.Spec declared) = any_spec declared
  any_item (item.Proc proc) = any_body _ proc.block
  any_item (item.Procedure procedure) = any_body _ procedure.block
  any_item (item.Process process) = record {
    names = all_fit spot_of (flat_map quantifier_names process.quantifiers);
    own = all_fit (λ spot. spot) (quantifier_spots process.quantifiers);
    body = any_body _ process.block;
  }
  any_item (item.Final final) = any_body _ final.block
  any_item (item.Statement statement) = record { names = all_fit spot_of (statement_names statement); own = all_fit (λ spot. spot) (names_in scene.facts statement) }

  any_code : (component : Component) → CodeHad Any Any scene component
  any_code component = record { in_spec = each_any (SpecHad Any Any scene) (spec_of component) any_spec; in_body = each_any (ItemHad Any Any scene) (body_of component) any_item }

abbrev Nothing : ℕ → Component → Type 0
Nothing number component = Unit {0}

nothing_given : (number : ℕ) (components : List Component) → AllGiven Nothing number components
nothing_given number [] = tt
nothing_given number (component ∷ more) = (tt, nothing_given (number + 1) more)

-- ---- the parts of code

-- what the table has of an operation that is declared
pub record InTable (scene : Scene) (one : DeclaredOperation) : Type 0 where
  pub operation : Operation
  pub at : found_at scene.tables.operations (spot_named one.name) ≡ Some operation
  pub parameters : operation.parameters ≡ one.head.parameters
  pub can_send : operation.can_send ≡ one.head.can_send

-- what is known of a component by what is kept in its code
pub record Knows (test : InvocationTest) (scene : Scene) (Q : Facts → Type 0) (Opened : DeclaredOperation → Type 0) : Type 0 where
  pub allowed : Allowed test scene
  pub reads : (facts : Facts) → Q facts → Ending scene.facts facts → Reads test scene facts
  pub entry : (one : DeclaredOperation) → Opened one → InTable scene one

-- in a body it is the same
knows_in : (test : InvocationTest) (scene : Scene) (Q : Facts → Type 0) (Opened : DeclaredOperation → Type 0) (own : List Spot) → Knows test scene Q Opened → Knows test (in_body scene own) Q Opened
knows_in test scene Q Opened own known = record {
  allowed = record {
    ends = λ spot operation at.
        let end = known.allowed.ends spot operation at in
        record { numbered = end.numbered; ty = end.ty; component = end.component; is_local = end.is_local; known = end.known; head = end.head };
    calls = known.allowed.calls;
    sends = known.allowed.sends;
    forwards = known.allowed.forwards;
  };
  reads = λ facts h ending. let reads = known.reads facts h ending in record { stay = reads.stay; grows = reads.grows; makes = reads.makes; heads = reads.heads };
  entry = λ one h. let entry = known.entry one h in record { operation = entry.operation; at = entry.at; parameters = entry.parameters; can_send = entry.can_send };
}

module _ (test : InvocationTest) (Q : Facts → Type 0) (Free : Spot → Type 0) (Opened : DeclaredOperation → Type 0) (scene : Scene) (known : Knows test scene Q Opened) where
  sems_sent : (scope : Scope) (semaphores : List Semaphore) → Each Opened (sems_opened scope semaphores) → Each (λ semaphore. SentTo scene (spot_named semaphore.name) 0) semaphores
  sems_sent scope [] opened = tt
  sems_sent scope (semaphore ∷ semaphores) opened =
      let entry = known.entry (record { name = semaphore.name; scope = scope; head = sent_head [] }) opened.0 in
      (record { operation = entry.operation; at = entry.at; may = entry.can_send; count = ap length entry.parameters }, sems_sent scope semaphores opened.1)

  arguments_good : (quantifiers : List Quantifier) → IsTrue (list_all (argument_invokes test) (map (quantifier_argument scene) quantifiers))
  arguments_good [] = refl
  arguments_good (quantifier ∷ more) =
      let place = own_place scene (spot_named quantifier.name) in
      and_from _ _ (val_rule test (core.Load place) (load_rule test place (place_at_invokes test (own_root scene (spot_named quantifier.name))))) (arguments_good more)

  process_sent : (process : Process) → Opened (process_opened process) → SentTo scene (spot_named process.name) (length (map (quantifier_argument scene) process.quantifiers))
  process_sent process opened =
      let entry = known.entry (process_opened process) opened in
      record {
        operation = entry.operation;
        at = entry.at;
        may = entry.can_send;
        count = ap length entry.parameters ∙ length-map process.quantifiers int_parameter ∙ sym (length-map process.quantifiers (quantifier_argument scene));
      }

  send_good : (process : Process) → Opened (process_opened process) → IsTrue (action_invokes test (process_send scene process))
  send_good process opened =
      and_from _ _ (own_invokes test scene known.allowed (spot_named process.name) (length (map (quantifier_argument scene) process.quantifiers)) (process_sent process opened)) (arguments_good process.quantifiers)

  abbrev Holds : Facts → Type 0
  Holds = AndTyped ⊥ Q

  reads_at : (facts : Facts) → HeldIn scene Holds facts → Reads test scene facts
  reads_at facts held = known.reads facts held.0.0 held.1

  code_parts : CodeParts (invocation_tests test) Holds Free Opened Any Any scene
  code_parts = record {
    statements = parts_pass test scene known.allowed Q (FreeHad Any Any Free scene) known.reads;
    const = λ facts held in_spec scope constant had whole. const_invokes test scene known.allowed facts (reads_at facts held) in_spec scope constant whole;
    vars = λ facts held scope variables had whole. var_invokes test scene known.allowed facts (reads_at facts held) scope variables whole;
    semaphores = λ facts held scope span semaphores had opened whole. semaphores_invoke test scene known.allowed facts (reads_at facts held) span semaphores (sems_sent scope semaphores opened) whole;
    send = λ process own opened. send_good process opened;
  }

-- ---- all components

module _ (test : InvocationTest) (final : Facts) (tables : Tables) (imports : List (List ℕ)) (shapes : Shapes) (heads : Heads) (outline : Facts) (R : Facts → Type 0) (Free : Spot → Type 0)
    (among : Component → Type 0) (between : (component : Component) → among component → KeptBetween outline shapes heads R Free component)
    (knows : (number : ℕ) (component : Component) (there : among component) → Knows test (scene_of final tables imports number component) (between component there).Q (between component there).Opened) where
  known_code : (number : ℕ) (component : Component) (there : among component) → Nothing number component
      → ComponentParts (invocation_tests test) (AndTyped ⊥ (between component there).Q) Free (between component there).Opened Any Any (scene_of final tables imports number component) component
  known_code number component there given =
      let scene = scene_of final tables imports number component in
      let one = between component there in
      let known = knows number component there in
      record {
        had = any_code scene component;
        parts = code_parts test one.Q Free one.Opened scene known;
        within = λ own. code_parts test one.Q Free one.Opened (in_body scene own) (knows_in test scene one.Q one.Opened own known);
      }

  pub components_invoke : (number : ℕ) (components : List Component) → Each among components → Names Free (flat_map component_code_plain components) → (facts : Facts) → FreeComponents components facts
      → Placed Anywhere final (flat_map component_inside components) facts (components_read components facts).facts → R facts → ErrorFree (components_read components facts).found
      → WholesFit (λ number. invocation_tests test) final tables imports number components
  components_invoke number components there free facts types here h =
      components_fit (λ number. invocation_tests test) (λ number. invocation_rules test) ⊥ (λ number. Any) (λ number. Any) final tables imports shapes heads outline R Free among between Nothing known_code
      number components there free (nothing_given number components) facts types here h (λ asked. absurd asked)
