-- Declarations that are the same but for their spans.
use Rattle.std.specs.Prelude.{List, Option}
use Rattle.sr_value.specs.declared.place.Span.{Span}
use Rattle.sr_tree.specs.declared.name.Name.{Name}
use Rattle.sr_tree.specs.declared.name.QualifiedName.{QualifiedName}
use Rattle.sr_tree.specs.declared.expr.Expr.{Expr}
use Rattle.sr_tree.specs.declared.types.Decl.{Decl}
use Rattle.sr_tree.specs.declared.types.TypeTree.{TypeTree}
use Rattle.sr_tree.specs.declared.types.Signature.{Signature}
use Rattle.sr_tree.specs.declared.declaration.Import.{Import}
use Rattle.sr_tree.specs.declared.declaration.ConstDecl.{ConstDecl}
use Rattle.sr_tree.specs.declared.declaration.TypeDecl.{TypeDecl}
use Rattle.sr_tree.specs.declared.declaration.OpTypeDecl.{OpTypeDecl}
use Rattle.sr_tree.specs.declared.declaration.OpDecl.{OpDecl}
use Rattle.sr_tree.specs.declared.declaration.OpItem.{OpItem}
use Rattle.sr_tree.specs.declared.declaration.OpItem.TheVariants as op_item
use Rattle.sr_tree.specs.declared.declaration.VarDecl.{VarDecl}
use Rattle.sr_tree.specs.declared.declaration.SemDecl.{SemDecl}
use Rattle.sr_tree.specs.declared.declaration.Semaphore.{Semaphore}
use Rattle.sr_grammar_laws.specs.SameExpressions.{SameExpr, SameExprs, SameList, SameName, SameOptionalExpr, SameQualifiedName}
use Rattle.sr_grammar_laws.specs.SameTypes.{SameDecl, SameOptionalTypeTree, SameSignature, SameTypeTree}

pub data SameImport : Import → Import → Type 0 where
  import : {span span' : Span} {names names' : List Name} → SameList SameName names names' → SameImport (record { span = span; names = names }) (record { span = span'; names = names' })

pub data SameConstDecl : ConstDecl → ConstDecl → Type 0 where
  const_decl : {span span' : Span} {name name' : Name} {ty ty' : Option TypeTree} {value value' : Expr} → SameName name name' → SameOptionalTypeTree ty ty' → SameExpr value value' → SameConstDecl (record { span = span; name = name; ty = ty; value = value }) (record { span = span'; name = name'; ty = ty'; value = value' })

pub data SameTypeDecl : TypeDecl → TypeDecl → Type 0 where
  type_decl : {span span' : Span} {name name' : Name} {ty ty' : TypeTree} → SameName name name' → SameTypeTree ty ty' → SameTypeDecl (record { span = span; name = name; ty = ty }) (record { span = span'; name = name'; ty = ty' })

pub data SameOpTypeDecl : OpTypeDecl → OpTypeDecl → Type 0 where
  op_type_decl : {span span' : Span} {name name' : Name} {signature signature' : Signature} → SameName name name' → SameSignature signature signature' → SameOpTypeDecl (record { span = span; name = name; signature = signature }) (record { span = span'; name = name'; signature = signature' })

pub data SameOpItem : OpItem → OpItem → Type 0 where
  signed : {span span' : Span} {name name' : Name} {signature signature' : Signature} → SameName name name' → SameSignature signature signature' → SameOpItem (op_item.Signed span name signature) (op_item.Signed span' name' signature')
  typed : {span span' : Span} {name name' : Name} {optype optype' : QualifiedName} → SameName name name' → SameQualifiedName optype optype' → SameOpItem (op_item.Typed span name optype) (op_item.Typed span' name' optype')

pub data SameOpDecl : OpDecl → OpDecl → Type 0 where
  op_decl : {span span' : Span} {items items' : List OpItem} → SameList SameOpItem items items' → SameOpDecl (record { span = span; items = items }) (record { span = span'; items = items' })

pub data SameVarDecl : VarDecl → VarDecl → Type 0 where
  var_decl : {span span' : Span} {decls decls' : List Decl} {ty ty' : Option TypeTree} {values values' : List Expr} → SameList SameDecl decls decls' → SameOptionalTypeTree ty ty' → SameExprs values values' → SameVarDecl (record { span = span; decls = decls; ty = ty; values = values }) (record { span = span'; decls = decls'; ty = ty'; values = values' })

pub data SameSemaphore : Semaphore → Semaphore → Type 0 where
  semaphore : {span span' : Span} {name name' : Name} {value value' : Option Expr} → SameName name name' → SameOptionalExpr value value' → SameSemaphore (record { span = span; name = name; value = value }) (record { span = span'; name = name'; value = value' })

pub data SameSemDecl : SemDecl → SemDecl → Type 0 where
  sem_decl : {span span' : Span} {semaphores semaphores' : List Semaphore} → SameList SameSemaphore semaphores semaphores' → SameSemDecl (record { span = span; semaphores = semaphores }) (record { span = span'; semaphores = semaphores' })
