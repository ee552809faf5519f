-- What is known where the parts of statements are read has a type, where no rule is broken in them.
use Rattle.std.proofs.Common.{Option, Some, None, flat_map, is_some, sym, subst}
use Rattle.sr_value.specs.declared.place.Span.{Span}
use Rattle.sr_tree.specs.declared.component.Procedure.{Procedure}
use Rattle.sr_tree.specs.declared.component.Process.{Process}
use Rattle.sr_tree.specs.declared.declaration.ConstDecl.{ConstDecl}
use Rattle.sr_tree.specs.declared.declaration.VarDecl.{VarDecl}
use Rattle.sr_tree.specs.declared.statement.Arm.{Arm}
use Rattle.sr_tree.specs.declared.statement.Branch.{Branch}
use Rattle.sr_tree.specs.declared.statement.CoArm.{CoArm}
use Rattle.sr_tree.specs.declared.types.TypeTree.{TypeTree}
use Rattle.sr_check_expr.specs.declared.facts.Facts.{Facts}
use Rattle.sr_check_expr.specs.Arguments.{all_found, all_valued}
use Rattle.sr_check_expr.specs.Typings.{typed_exprs_of, broken_unless}
use Rattle.sr_check_decl.specs.Entering.{type_entered, written_entered, signature_entered}
use Rattle.sr_check_decl.specs.TypeTrees.{fixed_bounds, free_bounds, type_kinding, signature_read}
use Rattle.sr_check_decl.specs.Variables.{typings_of}
use Rattle.sr_check.specs.ErrorFree.{ErrorFree}
use Rattle.sr_check.specs.Statements.{arm_read, branch_read, co_arm_read, const_read, guarding, var_read}
use Rattle.sr_check.proofs.Entered.{keeps_written}
use Rattle.sr_check.proofs.ErrorFree.{error_free_first, error_free_second}
use Rattle.sr_lower_expr.specs.declared.scene.Scene.{Scene}
use Rattle.sr_front.proofs.Typed.Typed.{AllTyped}
use Rattle.sr_front.proofs.Typed.TypedCode.{AllSigned, Good, Keeps, by_parts, kept, signed_entered, Never, SignedBy, quantifiers_good, service_good, signed_closed}
use Rattle.sr_front.proofs.Typed.TypedDecls.{entering_typed, declared_typed, formal_quantifiers_typed}
use Rattle.sr_front.proofs.Typed.TypedPlaces.{AtPlace}
use Rattle.sr_names.specs.declared.finding.Rule.TheVariants.{BadType}
use Rattle.sr_order.specs.Names.{quantifier_names, signature_names}
use Rattle.sr_tree.specs.declared.component.Proc.{Proc}
use Rattle.sr_check.specs.declared.operation.Operation.{Operation}
use Rattle.sr_check.specs.Components.{proc_rules, quantifiers_formal, signed_declared}
use Rattle.sr_check.specs.Quantifying.{quantifiers_known}
use Rattle.sr_check.specs.Services.{head_rule, service_bound, type_of}
use Rattle.sr_front.proofs.Known.KeptNames.{Anywhere, anywhere, keeps_formal_quantifiers, keeps_signed}
use Rattle.sr_front.proofs.Typed.TypedTypes.{Later, SignedTyped, signature_typed, types_typed}
use Rattle.sr_tree.proofs.StatementFolds.{each_arm, each_branch, each_co_arm}

-- ---- parts of statements

pub arm_good : (tree : Arm) → (span : Span) → Keeps ((arm_read tree).steps span)
arm_good = each_arm kept by_parts

pub branch_good : (tree : Branch) → Keeps (branch_read tree)
branch_good = each_branch kept by_parts

pub co_arm_good : (tree : CoArm) → (span : Span) → Keeps (co_arm_read tree span)
co_arm_good = each_co_arm kept by_parts

-- ---- declarations, where their types are entered

const_by : (constant : ConstDecl) (written : Option TypeTree) (facts : Facts) → AllTyped facts → ErrorFree (const_read (record constant { ty = written }) facts).found → AllTyped (written_entered written facts)
const_by constant None facts all whole = all
const_by constant (Some tree) facts all whole = (entering_typed tree facts fixed_bounds all (error_free_first (type_kinding tree (type_entered tree facts) fixed_bounds).found _ whole)).0

pub const_entered : (constant : ConstDecl) (facts : Facts) → Good facts → ErrorFree (const_read constant facts).found → Good (written_entered constant.ty facts)
const_entered constant facts good whole = record {
  typed = const_by constant constant.ty facts good.typed whole;
  signed = keeps_written AllSigned signed_entered constant.ty facts good.signed;
}

var_by : (variables : VarDecl) (written : Option TypeTree) (facts : Facts) → AllTyped facts → ErrorFree (var_read (record variables { ty = written }) facts).found → AllTyped (written_entered written facts)
var_by variables None facts all whole = all
var_by variables (Some tree) facts all whole =
    let after = type_entered tree facts in
    let values = typings_of after variables.values in
    let rules = error_free_second (all_valued (typed_exprs_of values)) _ (error_free_second (all_found values) _ whole) in
    (entering_typed tree facts free_bounds all (error_free_first (type_kinding tree after free_bounds).found _ rules)).0

pub var_entered : (variables : VarDecl) (facts : Facts) → Good facts → ErrorFree (var_read variables facts).found → Good (written_entered variables.ty facts)
var_entered variables facts good whole = record {
  typed = var_by variables variables.ty facts good.typed whole;
  signed = keeps_written AllSigned signed_entered variables.ty facts good.signed;
}

-- ---- guards

pub guarding_place : (scene : Scene) (known : Facts) → AtPlace scene known → AtPlace scene (guarding known)
guarding_place scene known at = record {
  typed = record { infos = at.typed.infos; signatures = at.typed.signatures };
  grows = record {
    uses = at.grows.uses;
    specs = at.grows.specs;
    component = at.grows.component;
    infos = at.grows.infos;
    records = at.grows.records;
    shapes = at.grows.shapes;
    signatures = at.grows.signatures;
  };
  operations = at.operations;
}

-- ---- the code of items

-- where the block of a proc begins
pub proc_start : (proc : Proc) (served : Option Operation) (facts : Facts) → SignedBy facts served → Good facts → ErrorFree (proc_rules facts proc served) → Good (service_bound proc.formals proc.returned (type_of served) facts)
proc_start proc None facts signature good whole = absurd whole
proc_start proc (Some operation) facts signature good whole =
    service_good facts proc.span proc.formals proc.returned operation signature (error_free_first (broken_unless (head_rule facts.signatures proc.formals (is_some proc.returned) operation.ty) BadType proc.span) _ whole) good

-- of a procedure, whose signature has its numbers
pub procedure_start : (procedure : Procedure) (facts : Facts) → Later (signature_entered procedure.signature facts) facts → Good facts → ErrorFree (signature_read procedure.signature facts).found
    → Good (signed_declared (signature_read procedure.signature facts).signed facts)
procedure_start procedure facts later good whole =
    let read = signature_typed procedure.signature facts facts (types_typed facts good.typed.infos) later in
    record {
      typed = declared_typed (signature_read procedure.signature facts).signed facts (subst SignedTyped (sym read.same) (read.typed whole)) good.typed;
      signed = keeps_signed AllSigned Anywhere Never signed_closed procedure.signature facts (anywhere (signature_names procedure.signature)) good.signed;
    }

-- and of a process
pub process_start : (process : Process) (facts : Facts) → Good facts → Good (quantifiers_formal process.quantifiers (quantifiers_known facts process.quantifiers))
process_start process facts good =
    let known = quantifiers_known facts process.quantifiers in
    let quantified = quantifiers_good process.quantifiers facts good in
    record {
      typed = formal_quantifiers_typed process.quantifiers known quantified.typed;
      signed = keeps_formal_quantifiers AllSigned Anywhere Never signed_closed process.quantifiers known (anywhere (flat_map quantifier_names process.quantifiers)) quantified.signed;
    }
