-- Components and files that are the same but for their spans.
use Rattle.std.specs.Prelude.{List, Option}
use Rattle.sr_value.specs.declared.place.Span.{Span}
use Rattle.sr_tree.specs.declared.name.Name.{Name}
use Rattle.sr_tree.specs.declared.types.Formal.{Formal}
use Rattle.sr_tree.specs.declared.types.Signature.{Signature}
use Rattle.sr_tree.specs.declared.declaration.Import.{Import}
use Rattle.sr_tree.specs.declared.declaration.ConstDecl.{ConstDecl}
use Rattle.sr_tree.specs.declared.declaration.TypeDecl.{TypeDecl}
use Rattle.sr_tree.specs.declared.declaration.OpTypeDecl.{OpTypeDecl}
use Rattle.sr_tree.specs.declared.declaration.OpDecl.{OpDecl}
use Rattle.sr_tree.specs.declared.declaration.VarDecl.{VarDecl}
use Rattle.sr_tree.specs.declared.declaration.SemDecl.{SemDecl}
use Rattle.sr_tree.specs.declared.statement.Quantifier.{Quantifier}
use Rattle.sr_tree.specs.declared.statement.Statement.{Statement}
use Rattle.sr_tree.specs.declared.component.File.{File}
use Rattle.sr_tree.specs.declared.component.Component.{Component}
use Rattle.sr_tree.specs.declared.component.Component.TheVariants as component
use Rattle.sr_tree.specs.declared.component.SpecItem.{SpecItem}
use Rattle.sr_tree.specs.declared.component.SpecItem.TheVariants as spec_item
use Rattle.sr_tree.specs.declared.component.Item.{Item}
use Rattle.sr_tree.specs.declared.component.Item.TheVariants as body_item
use Rattle.sr_tree.specs.declared.component.Proc.{Proc}
use Rattle.sr_tree.specs.declared.component.Procedure.{Procedure}
use Rattle.sr_tree.specs.declared.component.Process.{Process}
use Rattle.sr_tree.specs.declared.component.FinalCode.{FinalCode}
use Rattle.sr_tree.specs.declared.component.ProcItem.{ProcItem}
use Rattle.sr_tree.specs.declared.component.ProcItem.TheVariants as proc_item
use Rattle.sr_grammar_laws.specs.SameExpressions.{SameList, SameName, SameOption}
use Rattle.sr_grammar_laws.specs.SameTypes.{SameFormals, SameSignature}
use Rattle.sr_grammar_laws.specs.SameDeclarations.{SameConstDecl, SameImport, SameOpDecl, SameOpTypeDecl, SameSemDecl, SameTypeDecl, SameVarDecl}
use Rattle.sr_grammar_laws.specs.SameStatements.{SameQuantifier, SameStatement}

pub data SameSpecItem : SpecItem → SpecItem → Type 0 where
  import : {it it' : Import} → SameImport it it' → SameSpecItem (spec_item.Import it) (spec_item.Import it')
  const : {it it' : ConstDecl} → SameConstDecl it it' → SameSpecItem (spec_item.Const it) (spec_item.Const it')
  type_ : {it it' : TypeDecl} → SameTypeDecl it it' → SameSpecItem (spec_item.Type it) (spec_item.Type it')
  op_type : {it it' : OpTypeDecl} → SameOpTypeDecl it it' → SameSpecItem (spec_item.OpType it) (spec_item.OpType it')
  op : {it it' : OpDecl} → SameOpDecl it it' → SameSpecItem (spec_item.Op it) (spec_item.Op it')
  var : {it it' : VarDecl} → SameVarDecl it it' → SameSpecItem (spec_item.Var it) (spec_item.Var it')
  sem : {it it' : SemDecl} → SameSemDecl it it' → SameSpecItem (spec_item.Sem it) (spec_item.Sem it')

pub data SameProcItem : ProcItem → ProcItem → Type 0 where
  const : {it it' : ConstDecl} → SameConstDecl it it' → SameProcItem (proc_item.Const it) (proc_item.Const it')
  var : {it it' : VarDecl} → SameVarDecl it it' → SameProcItem (proc_item.Var it) (proc_item.Var it')
  op : {it it' : OpDecl} → SameOpDecl it it' → SameProcItem (proc_item.Op it) (proc_item.Op it')
  sem : {it it' : SemDecl} → SameSemDecl it it' → SameProcItem (proc_item.Sem it) (proc_item.Sem it')
  statement : {it it' : Statement} → SameStatement it it' → SameProcItem (proc_item.Statement it) (proc_item.Statement it')

pub data SameProc : Proc → Proc → Type 0 where
  proc : {span span' : Span} {name name' : Name} {formals formals' : List Name} {returned returned' : Option Name} {block block' : List ProcItem} → SameName name name' → SameList SameName formals formals' → SameOption SameName returned returned' → SameList SameProcItem block block' → SameProc (record { span = span; name = name; formals = formals; returned = returned; block = block }) (record { span = span'; name = name'; formals = formals'; returned = returned'; block = block' })

pub data SameProcedure : Procedure → Procedure → Type 0 where
  procedure : {span span' : Span} {name name' : Name} {signature signature' : Signature} {block block' : List ProcItem} → SameName name name' → SameSignature signature signature' → SameList SameProcItem block block' → SameProcedure (record { span = span; name = name; signature = signature; block = block }) (record { span = span'; name = name'; signature = signature'; block = block' })

pub data SameProcess : Process → Process → Type 0 where
  process : {span span' : Span} {name name' : Name} {quantifiers quantifiers' : List Quantifier} {block block' : List ProcItem} → SameName name name' → SameList SameQuantifier quantifiers quantifiers' → SameList SameProcItem block block' → SameProcess (record { span = span; name = name; quantifiers = quantifiers; block = block }) (record { span = span'; name = name'; quantifiers = quantifiers'; block = block' })

pub data SameFinalCode : FinalCode → FinalCode → Type 0 where
  final_code : {span span' : Span} {block block' : List ProcItem} → SameList SameProcItem block block' → SameFinalCode (record { span = span; block = block }) (record { span = span'; block = block' })

pub data SameItem : Item → Item → Type 0 where
  spec : {it it' : SpecItem} → SameSpecItem it it' → SameItem (body_item.Spec it) (body_item.Spec it')
  proc : {it it' : Proc} → SameProc it it' → SameItem (body_item.Proc it) (body_item.Proc it')
  procedure : {it it' : Procedure} → SameProcedure it it' → SameItem (body_item.Procedure it) (body_item.Procedure it')
  process : {it it' : Process} → SameProcess it it' → SameItem (body_item.Process it) (body_item.Process it')
  final : {it it' : FinalCode} → SameFinalCode it it' → SameItem (body_item.Final it) (body_item.Final it')
  statement : {it it' : Statement} → SameStatement it it' → SameItem (body_item.Statement it) (body_item.Statement it')

pub data SameComponent : Component → Component → Type 0 where
  resource : {span span' : Span} {name name' : Name} {formals formals' : List Formal} {items items' : List Item} → SameName name name' → SameFormals formals formals' → SameList SameItem items items' → SameComponent (component.Resource span name formals items) (component.Resource span' name' formals' items')
  split_resource : {span span' : Span} {name name' : Name} {spec spec' : List SpecItem} {formals formals' : List Formal} {items items' : List Item} → SameName name name' → SameList SameSpecItem spec spec' → SameFormals formals formals' → SameList SameItem items items' → SameComponent (component.SplitResource span name spec formals items) (component.SplitResource span' name' spec' formals' items')
  global : {span span' : Span} {name name' : Name} {spec spec' : List SpecItem} {body body' : Option (List Item)} → SameName name name' → SameList SameSpecItem spec spec' → SameOption (SameList SameItem) body body' → SameComponent (component.Global span name spec body) (component.Global span' name' spec' body')

pub data SameFile : File → File → Type 0 where
  file : {components components' : List Component} → SameList SameComponent components components' → SameFile (record { components = components }) (record { components = components' })
