-- What is kept where statements are read.
use Rattle.std.proofs.Common.{List, Option, flat_map}
use Rattle.sr_value.specs.declared.place.Span.{Span}
use Rattle.sr_names.specs.declared.spot.Spot.{Spot}
use Rattle.sr_names.specs.Spots.{spot_of}
use Rattle.sr_order.specs.Names.{arm_names, block_item_names, branch_names, co_arm_names, name_names, names_spans, quantifier_names, signature_names, statement_names, where_some}
use Rattle.sr_outline.specs.Heads.{DeclaredOperation, Heads, component_opened, inner_opened}
use Rattle.sr_tables.specs.Shapes.{Shapes}
use Rattle.sr_tree.specs.declared.component.Component.{Component}
use Rattle.sr_tree.specs.declared.component.ProcItem.{ProcItem}
use Rattle.sr_tree.specs.declared.name.Name.{Name}
use Rattle.sr_tree.specs.declared.statement.Arm.{Arm}
use Rattle.sr_tree.specs.declared.statement.BlockItem.{BlockItem}
use Rattle.sr_tree.specs.declared.statement.Branch.{Branch}
use Rattle.sr_tree.specs.declared.statement.CoArm.{CoArm}
use Rattle.sr_tree.specs.declared.statement.Quantifier.{Quantifier}
use Rattle.sr_tree.specs.declared.statement.Statement.{Statement}
use Rattle.sr_tree.specs.declared.types.Signature.{Signature as SignatureTree}
use Rattle.sr_types.specs.declared.signature.Signature.{Signature}
use Rattle.sr_types.specs.declared.ty.Ty.{Ty}
use Rattle.sr_check_expr.specs.declared.facts.Facts.{Facts}
use Rattle.sr_check_decl.specs.Declaring.{standing}
use Rattle.sr_check_decl.specs.Entering.{entered}
use Rattle.sr_check_decl.specs.Parts.{component_decl}
use Rattle.sr_check_decl.specs.TypeTrees.{signature_read}
use Rattle.sr_check.specs.Components.{proc_item_read, quantifiers_formal, signed_declared}
use Rattle.sr_check.specs.Contexts.{Context, Steps}
use Rattle.sr_check.specs.ErrorFree.{ErrorFree}
use Rattle.sr_check.specs.Quantifying.{quantifiers_known}
use Rattle.sr_check.specs.Services.{service_bound}
use Rattle.sr_check.specs.Statements.{arm_read, block_item_read, branch_read, co_arm_read, statement_read}
use Rattle.sr_check.proofs.Each.{Each}
use Rattle.sr_front.proofs.Known.FreeBlocks.{FreeItem}
use Rattle.sr_front.proofs.Names.PlainNames.{inner_plain}

-- names stand where values may be declared
abbrev pub Names : (Spot → Type 0) → List Span → Type 0
Names Free = Each (λ span. Free (spot_of span))

abbrev pub Keeps : (Facts → Type 0) → Steps → Type 0
Keeps Q steps = (context : Context) → Q context.facts → Q (steps context).facts

pub record KeptBy (Q : Facts → Type 0) (Free : Spot → Type 0) : Type 0 where
  pub entered : (facts : Facts) (signature : Signature) → Q facts → Q (entered signature facts)
  pub service : (formals : List Name) (returned : Option Name) (type : Ty) (facts : Facts) → Names Free (names_spans formals) → Names Free (where_some name_names returned) → Q facts
      → Q (service_bound formals returned type facts)
  pub quantifiers : (quantifiers : List Quantifier) (facts : Facts) → Names Free (flat_map quantifier_names quantifiers) → Q facts → Q (quantifiers_known facts quantifiers)
  pub statement : (tree : Statement) → Names Free (statement_names tree) → Keeps Q (statement_read tree)
  pub block_item : (tree : BlockItem) → Names Free (block_item_names tree) → Keeps Q (block_item_read tree)
  pub branch : (tree : Branch) → Names Free (branch_names tree) → Keeps Q (branch_read tree)
  pub arm : (tree : Arm) → Names Free (arm_names tree) → (span : Span) → Keeps Q ((arm_read tree).steps span)
  pub co_arm : (tree : CoArm) → Names Free (co_arm_names tree) → (span : Span) → Keeps Q (co_arm_read tree span)

-- What is kept where procs are read: of the operations of a block it is known what is declared of them.
pub record KeptIn (opened : ProcItem → List DeclaredOperation) (Q : Facts → Type 0) (Free : Spot → Type 0) (Opened : DeclaredOperation → Type 0) : Type 0 where
  pub by : KeptBy Q Free
  pub inner : (one : ProcItem) → Names Free (inner_plain one) → Each Opened (opened one) → (context : Context) → FreeItem one context.facts → Q context.facts → ErrorFree (proc_item_read one context).found → Q (proc_item_read one context).facts
  pub signed : (signature : SignatureTree) (facts : Facts) → Names Free (signature_names signature) → Q facts → Q (signed_declared (signature_read signature facts).signed facts)
  pub formal_quantifiers : (quantifiers : List Quantifier) (facts : Facts) → Names Free (flat_map quantifier_names quantifiers) → Q facts → Q (quantifiers_formal quantifiers facts)

-- What is known between components, and what is kept in the code of each.
pub record KeptBetween (facts : Facts) (shapes : Shapes) (heads : Heads) (R : Facts → Type 0) (Free : Spot → Type 0) (component : Component) : Type 1 where
  pub Q : Facts → Type 0
  pub Opened : DeclaredOperation → Type 0
  pub kept : KeptIn (inner_opened facts shapes heads) Q Free Opened
  pub opened : Each Opened (component_opened facts shapes heads component)
  pub enters : (now : Facts) → R now → Q (standing now (component_decl component))
  pub leaves : (now : Facts) → Q now → R now
