-- A fact of each name that is used, by what it means: items of components.
use Rattle.std.proofs.Common.{◌≡◌, true, List, map}
use Rattle.sr_check.proofs.Each.{Each, each-left, each-right}
use Rattle.sr_check_expr.specs.declared.facts.Facts.{Facts}
use Rattle.sr_check_expr.specs.Meanings.{is_constant}
use Rattle.sr_names.specs.declared.finding.Finding.{Finding}
use Rattle.sr_names.specs.declared.meaning.Decl.{Decl}
use Rattle.sr_names.specs.declared.meaning.Sort.{Sort}
use Rattle.sr_names.specs.declared.meaning.Sort.TheVariants.{Constant, Operation}
use Rattle.sr_names.specs.declared.place.Place.{Place}
use Rattle.sr_names.specs.declared.spot.Spot.{Spot}
use Rattle.sr_names.specs.Readings.{declaration}
use Rattle.sr_names.specs.Scopes.{no_blocks, opened}
use Rattle.sr_names.specs.Spots.{spot_of}
use Rattle.sr_outline.specs.Numbers.{formal_names, quantifier_names, returned_names, signature_returned}
use Rattle.sr_scope.specs.Items.{item_found, spec_found}
use Rattle.sr_tables.specs.Parts.{spot_named}
use Rattle.sr_tree.specs.declared.component.Item.{Item}
use Rattle.sr_tree.specs.declared.component.Item.TheVariants as item
use Rattle.sr_tree.specs.declared.component.SpecItem.{SpecItem}
use Rattle.sr_tree.specs.declared.component.SpecItem.TheVariants as spec
use Rattle.sr_tree.specs.declared.component.Process.{Process}
use Rattle.sr_tree.specs.declared.types.Formal.{Formal}
use Rattle.sr_tree.specs.declared.types.Signature.{out-Signature}
use Rattle.sr_scope.specs.Declarations.{quantifiers_found}
use Rattle.sr_scope.specs.Types.{formal_read, formals_found}
use Rattle.sr_value.specs.declared.place.Span.{Span}
use Rattle.sr_front.proofs.Own.DeclaredIn.{item_operations, item_variables}
use Rattle.sr_front.proofs.Names.UsesInExprs as exprs
use Rattle.sr_front.proofs.Names.UsesInStatements as statements
use Rattle.sr_front.proofs.Names.UsesInStatements.{is_inner}

-- `P at decl`: a name at this spot may mean this declaration; `Owned spot`: a variable of this spot is one of those of the code around it; `Operated spot`: so is an operation
module _ (P : Spot → Decl → Type 0) (facts : Facts) (Owned Operated : Spot → Type 0)
    (owned : (at : Spot) (sort : Sort) (span : Span) → is_inner sort ≡ true → Owned (spot_of span) → P at (declaration sort span))
    (static : (at : Spot) (span : Span) → is_constant facts (spot_of span) ≡ true → P at (declaration Constant span))
    (operation : (at : Spot) (span : Span) → Operated (spot_of span) → P at (declaration Operation span))
    (place : Place) (outer : exprs.PlaceFits P place) where
  abbrev All : List Finding → Type 0
  All = exprs.AllFit P

  nothing : exprs.BlocksFit P no_blocks
  nothing = record { innermost = exprs.none_fit P; outer = tt }

  pub spec_fits : (one : SpecItem) → All (spec_found one place no_blocks)
  spec_fits (spec.Import imports) = tt
  spec_fits (spec.Const constant) = statements.const_fits P facts Owned Operated owned static operation place outer constant no_blocks nothing
  spec_fits (spec.Type named) = exprs.type_fits P place outer named.ty no_blocks nothing
  spec_fits (spec.OpType named) = exprs.signature_fits P place outer named.signature no_blocks nothing
  spec_fits (spec.Op operations) = statements.op_items_fit P facts Owned Operated owned static operation place outer operations.items no_blocks nothing
  spec_fits (spec.Var variables) = statements.var_fits P facts Owned Operated owned static operation place outer variables no_blocks nothing
  spec_fits (spec.Sem declared) = statements.semaphores_fit P facts Owned Operated owned static operation place outer declared.semaphores no_blocks nothing

  pub item_fits : (one : Item) → Each Owned (item_variables facts one) → Each Operated (item_operations one) → All (item_found one place no_blocks)
  item_fits (item.Spec declared) own operated = spec_fits declared
  item_fits (item.Proc proc) own operated =
      let after = each-right Owned (map spot_named proc.formals) _ own in
      statements.proc_fits P facts Owned Operated owned static operation place outer proc
      (each-left Owned (map spot_named proc.formals) _ own) (each-left Owned (returned_names proc.returned) _ after) (each-right Owned (returned_names proc.returned) _ after) operated no_blocks nothing
  item_fits (item.Procedure procedure) own operated =
      let formals = formal_names (out-Signature procedure.signature).formals in
      let after = each-right Owned formals _ own in
      statements.procedure_fits P facts Owned Operated owned static operation place outer procedure
      (each-left Owned formals _ own) (each-left Owned (signature_returned procedure.signature) _ after) (each-right Owned (signature_returned procedure.signature) _ after) operated no_blocks nothing
  item_fits (item.Process process) own operated =
      statements.process_fits P facts Owned Operated owned static operation place outer process
      (each-left Owned (quantifier_names process.quantifiers) _ own) (each-right Owned (quantifier_names process.quantifiers) _ own) operated no_blocks nothing
  item_fits (item.Final final) own operated = statements.final_fits P facts Owned Operated owned static operation place outer final own operated no_blocks nothing
  item_fits (item.Statement statement) own operated = statements.statement_fits P facts Owned Operated owned static operation place outer statement own no_blocks nothing

  -- what a process has in initial code: its quantifiers
  pub sends_fit : (process : Process) → Each Owned (quantifier_names process.quantifiers) → All (quantifiers_found process.quantifiers place (opened no_blocks))
  sends_fit process own = statements.quantifiers_fit P facts Owned Operated owned static operation place outer process.quantifiers own (opened no_blocks) (exprs.blocks_opened P no_blocks nothing)

  pub formals_fit : (formals : List Formal) → All (formals_found (map formal_read formals) place no_blocks)
  formals_fit formals = exprs.formals_fit P place outer formals no_blocks nothing
