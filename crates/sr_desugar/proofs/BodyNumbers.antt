-- Each number in what procs, initial code and final code are in the core names something.
use Rattle.std.proofs.Common.{Bool, List, [], ◌∷◌, ◌++◌, IsTrue, flat_map, length, map, refl, arith, length-append}
use Rattle.std.proofs.lemmas.Bool.{and_from}
use Rattle.std.specs.List.{list_all}
use Rattle.std.specs.Prelude.{option_to_list}
use Rattle.sr_core.specs.declared.component.Body.{Body}
use Rattle.sr_core.specs.declared.expression.Expr.TheVariants.{Load}
use Rattle.sr_core.specs.declared.statement.Statement.{Statement}
use Rattle.sr_core.specs.declared.statement.Statement.TheVariants.{Fa}
use Rattle.sr_core.specs.Numbers.{Where, argument_ok, block_ok}
use Rattle.sr_names.specs.declared.spot.Spot.{Spot}
use Rattle.sr_tree.specs.declared.component.Item.{Item}
use Rattle.sr_tree.specs.declared.component.Item.TheVariants as item
use Rattle.sr_tree.specs.declared.component.Process.{Process}
use Rattle.sr_tree.specs.declared.component.ProcItem.{ProcItem}
use Rattle.sr_tree.specs.declared.component.ProcItem.TheVariants as inner
use Rattle.sr_tree.specs.declared.component.SpecItem.{SpecItem}
use Rattle.sr_tree.specs.declared.component.SpecItem.TheVariants as spec
use Rattle.sr_tree.specs.declared.statement.Quantifier.{Quantifier}
use Rattle.sr_tree.specs.declared.types.Signature.{out-Signature}
use Rattle.sr_outline.specs.Numbers.{formal_names, inner_names, item_names, own_spots, quantifier_names, returned_names, signature_returned}
use Rattle.sr_tables.specs.Lists.{lists}
use Rattle.sr_tables.specs.Parts.{line_of, spot_named}
use Rattle.sr_lower_expr.specs.declared.scene.Scene.{Scene}
use Rattle.sr_desugar.specs.Bodies.{all_code, all_finals, all_procs, body_made, first_final, in_body, inner_made, item_output, item_outputs, process_send, process_sends, quantifier_argument, spec_item_core}
use Rattle.sr_desugar.specs.Core.{spec_code}
use Rattle.sr_lower_expr.specs.Places.{own_place}
use Rattle.sr_desugar.specs.Statements.{act, all_made, quantifiers_core}
use Rattle.sr_desugar.proofs.DeclNumbers.{own_const_ok, own_vars_ok, shared_const_ok, shared_vars_ok}
use Rattle.sr_lower_expr.proofs.Each.{both_pass, first_passes, lists_pass, made_passes}
use Rattle.sr_lower_expr.proofs.ExprRules.{load_rule, val_rule}
use Rattle.sr_desugar.proofs.PartNumbers.{act_ok, quantifiers_ok, semaphores_ok}
use Rattle.sr_lower_expr.proofs.PlaceNumbers.{Fits, operation_expr_ok, own_place_ok}
use Rattle.sr_desugar.proofs.Room.{Room, room_first, room_second}
use Rattle.sr_desugar.proofs.StatementNumbers.{statement_numbers}
use Rattle.sr_desugar.proofs.StatementRules.{block_rule, fa_rule, one_ok}
use Rattle.sr_lower_expr.proofs.Within.{once_some}

-- code of its own that stands there
abbrev pub body_ok : Where → Body → Bool
body_ok at body = block_ok body.block (record { owns = body.owns; imports = at.imports; core = at.core })

abbrev sends_by : Scene → Process → List Quantifier → Statement
sends_by scene process [] = act process.span (process_send scene process)
sends_by scene process (quantifier ∷ more) =
    Fa (line_of process.span) (quantifiers_core scene (quantifier ∷ more)) (act process.span (process_send scene process) ∷ [])

module _ (scene : Scene) (at : Where) (fits : Fits scene at) where
  -- ---- blocks

  inner_good : (one : ProcItem) → Room scene (inner_names scene.facts one) → IsTrue (list_all (λ statement. one_ok statement at) (inner_made scene one).made)
  inner_good (inner.Const constant) room = own_const_ok scene at fits constant room
  inner_good (inner.Var variables) room = own_vars_ok scene at fits variables room
  inner_good (inner.Op operations) room = refl
  inner_good (inner.Sem semaphores) room = semaphores_ok scene at fits semaphores.span semaphores.semaphores
  inner_good (inner.Statement statement) room = and_from _ _ (statement_numbers scene at fits statement room) refl

  inners_good : (block : List ProcItem) → Room scene (flat_map (inner_names scene.facts) block)
      → IsTrue (list_all (λ statement. one_ok statement at) (lists (all_made (map (inner_made scene) block))))
  inners_good [] room = refl
  inners_good (one ∷ block) room =
      both_pass (λ statement. one_ok statement at) (inner_made scene one).made (lists (all_made (map (inner_made scene) block)))
      (inner_good one (room_first scene (inner_names scene.facts one) (flat_map (inner_names scene.facts) block) room))
      (inners_good block (room_second scene (inner_names scene.facts one) (flat_map (inner_names scene.facts) block) room))

  pub block_numbers : (block : List ProcItem) → Room scene (flat_map (inner_names scene.facts) block) → IsTrue (block_ok (body_made scene block).made.block at)
  block_numbers block room = block_rule at (lists (all_made (map (inner_made scene) block))) (inners_good block room)

  -- ---- what stands in initial code

  argument_good : (quantifier : Quantifier) → IsTrue (argument_ok (quantifier_argument scene quantifier) at)
  argument_good quantifier =
      val_rule at (Load (own_place scene (spot_named quantifier.name)))
      (load_rule at (own_place scene (spot_named quantifier.name)) (own_place_ok scene at fits (spot_named quantifier.name)))

  send_good : (process : Process) → IsTrue (one_ok (act process.span (process_send scene process)) at)
  send_good process =
      act_ok scene at fits process.span (process_send scene process)
      (and_from _ _ (operation_expr_ok scene at fits (spot_named process.name))
      (made_passes (λ arg. argument_ok arg at) (quantifier_argument scene) argument_good process.quantifiers))

  sends_good : (process : Process) → Room scene (quantifier_names process.quantifiers) → IsTrue (one_ok (process_sends scene process) at)
  sends_good process room = by process.quantifiers room
    where
      by : (quantifiers : List Quantifier) → Room scene (quantifier_names quantifiers) → IsTrue (one_ok (sends_by scene process quantifiers) at)
      by [] room = send_good process
      by (quantifier ∷ more) room =
          fa_rule at (line_of process.span) (quantifiers_core scene (quantifier ∷ more)) (act process.span (process_send scene process) ∷ [])
          (quantifiers_ok scene at fits (quantifier ∷ more) room)
          (block_rule at (act process.span (process_send scene process) ∷ []) (and_from _ _ (send_good process) refl))

  spec_good : (one : SpecItem) → IsTrue (list_all (λ statement. one_ok statement at) (spec_item_core scene one))
  spec_good (spec.Const constant) = shared_const_ok scene at fits constant
  spec_good (spec.Var variables) = shared_vars_ok scene at fits variables
  spec_good (spec.Sem semaphores) = semaphores_ok scene at fits semaphores.span semaphores.semaphores
  spec_good _ = refl

  code_good : (one : Item) → Room scene (item_names scene.facts one) → IsTrue (list_all (λ statement. one_ok statement at) (item_output scene one).code)
  code_good (item.Spec declared) room = spec_good declared
  code_good (item.Proc proc) room = refl
  code_good (item.Procedure procedure) room = refl
  code_good (item.Process process) room = and_from _ _ (sends_good process room) refl
  code_good (item.Final final) room = refl
  code_good (item.Statement statement) room = and_from _ _ (statement_numbers scene at fits statement room) refl

  codes_good : (items : List Item) → Room scene (flat_map (item_names scene.facts) items)
      → IsTrue (list_all (λ statement. one_ok statement at) (all_code (item_outputs scene items)))
  codes_good [] room = refl
  codes_good (one ∷ items) room =
      both_pass (λ statement. one_ok statement at) (item_output scene one).code (all_code (item_outputs scene items))
      (code_good one (room_first scene (item_names scene.facts one) (flat_map (item_names scene.facts) items) room))
      (codes_good items (room_second scene (item_names scene.facts one) (flat_map (item_names scene.facts) items) room))

  pub initial_numbers : (specs : List SpecItem) (items : List Item) → Room scene (flat_map (item_names scene.facts) items)
      → IsTrue (block_ok (spec_code scene specs ++ all_code (item_outputs scene items)) at)
  initial_numbers specs items room =
      block_rule at (spec_code scene specs ++ all_code (item_outputs scene items))
      (both_pass (λ statement. one_ok statement at) (spec_code scene specs) (all_code (item_outputs scene items))
      (lists_pass (λ statement. one_ok statement at) (spec_item_core scene) spec_good specs) (codes_good items room))

-- ---- procs and final code

module _ (scene : Scene) (at : Where) (fits : Fits scene at) where
  -- code with these own variables stands where the code of the component stands
  own_fits : (own : List Spot) → Fits (in_body scene own) (record { owns = length own; imports = at.imports; core = at.core })
  own_fits own = record { owns = omega arith; imports = fits.imports; operations = fits.operations; components = fits.components }

  own_good : (formals returned : List Spot) (block : List ProcItem)
      → IsTrue (body_ok at (body_made (in_body scene (own_spots scene.facts formals returned block)) block).made)
  own_good formals returned block =
      block_numbers (in_body scene (own_spots scene.facts formals returned block))
      (record { owns = length (own_spots scene.facts formals returned block); imports = at.imports; core = at.core })
      (own_fits (own_spots scene.facts formals returned block)) block
      (λ some.
      let inner = length-append returned (flat_map (inner_names scene.facts) block) in
      let outer = length-append formals (returned ++ flat_map (inner_names scene.facts) block) in
      once_some (formals ++ (returned ++ flat_map (inner_names scene.facts) block)) (omega (arith, inner, outer, some)))

  procs_good : (one : Item) → IsTrue (list_all (λ proc. body_ok at proc.body) (item_output scene one).procs)
  procs_good (item.Spec declared) = refl
  procs_good (item.Proc proc) = and_from _ _ (own_good (map spot_named proc.formals) (returned_names proc.returned) proc.block) refl
  procs_good (item.Procedure procedure) =
      and_from _ _
      (own_good (formal_names (out-Signature procedure.signature).formals) (signature_returned procedure.signature) procedure.block) refl
  procs_good (item.Process process) = and_from _ _ (own_good (quantifier_names process.quantifiers) [] process.block) refl
  procs_good (item.Final final) = refl
  procs_good (item.Statement statement) = refl

  finals_good : (one : Item) → IsTrue (list_all (body_ok at) (item_output scene one).finals)
  finals_good (item.Final final) = and_from _ _ (own_good [] [] final.block) refl
  finals_good _ = refl

  pub procs_numbers : (items : List Item) → IsTrue (list_all (λ proc. body_ok at proc.body) (all_procs (item_outputs scene items)))
  procs_numbers [] = refl
  procs_numbers (one ∷ items) =
      both_pass (λ proc. body_ok at proc.body) (item_output scene one).procs (all_procs (item_outputs scene items)) (procs_good one) (procs_numbers items)

  all_finals_good : (items : List Item) → IsTrue (list_all (body_ok at) (all_finals (item_outputs scene items)))
  all_finals_good [] = refl
  all_finals_good (one ∷ items) =
      both_pass (body_ok at) (item_output scene one).finals (all_finals (item_outputs scene items)) (finals_good one) (all_finals_good items)

  first_good : (finals : List Body) → IsTrue (list_all (body_ok at) finals) → IsTrue (list_all (body_ok at) (option_to_list (first_final finals)))
  first_good [] all = refl
  first_good (final ∷ finals) all = and_from _ _ (first_passes (body_ok at) final finals all) refl

  pub final_numbers : (items : List Item) → IsTrue (list_all (body_ok at) (option_to_list (first_final (all_finals (item_outputs scene items)))))
  final_numbers items = first_good (all_finals (item_outputs scene items)) (all_finals_good items)
