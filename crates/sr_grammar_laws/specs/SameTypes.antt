-- Types and signatures that are the same but for their spans.
use Rattle.std.specs.Prelude.{List, [], ◌∷◌, Option, Some, None}
use Rattle.sr_value.specs.declared.place.Span.{Span}
use Rattle.sr_tree.specs.declared.name.Name.{Name}
use Rattle.sr_tree.specs.declared.name.QualifiedName.{QualifiedName}
use Rattle.sr_tree.specs.declared.expr.Expr.{Expr}
use Rattle.sr_tree.specs.declared.types.RangeTree.{RangeTree}
use Rattle.sr_tree.specs.declared.types.RangeTree.TheVariants as range
use Rattle.sr_tree.specs.declared.types.DimsTree.{DimsTree}
use Rattle.sr_tree.specs.declared.types.Decl.{Decl}
use Rattle.sr_tree.specs.declared.types.PassMode.{PassMode}
use Rattle.sr_tree.specs.declared.types.InvocationKind.{InvocationKind}
use Rattle.sr_tree.specs.declared.types.TypeTree.{TypeTree}
use Rattle.sr_tree.specs.declared.types.TypeTree.TheVariants as ty
use Rattle.sr_tree.specs.declared.types.Formal.{Formal, roll-Formal}
use Rattle.sr_tree.specs.declared.types.Returned.{Returned, roll-Returned}
use Rattle.sr_tree.specs.declared.types.Signature.{Signature, roll-Signature}
use Rattle.sr_grammar_laws.specs.SameExpressions.{SameExpr, SameList, SameName, SameOption, SameOptionalExpr, SameQualifiedName}

pub data SameRangeTree : RangeTree → RangeTree → Type 0 where
  length : {span span' : Span} {length length' : Expr} → SameExpr length length' → SameRangeTree (range.Length span length) (range.Length span' length')
  bounds : {span span' : Span} {low low' : Expr} {high high' : Expr} → SameExpr low low' → SameExpr high high' → SameRangeTree (range.Bounds span low high) (range.Bounds span' low' high')
  from : {span span' : Span} {low low' : Expr} → SameExpr low low' → SameRangeTree (range.From span low) (range.From span' low')
  any : {span span' : Span} → SameRangeTree (range.Any span) (range.Any span')

pub data SameDimsTree : DimsTree → DimsTree → Type 0 where
  dims_tree : {span span' : Span} {first first' : RangeTree} {second second' : Option RangeTree} → SameRangeTree first first' → SameOption SameRangeTree second second' → SameDimsTree (record { span = span; first = first; second = second }) (record { span = span'; first = first'; second = second' })

pub data SameDecl : Decl → Decl → Type 0 where
  decl : {span span' : Span} {name name' : Name} {dims dims' : Option DimsTree} → SameName name name' → SameOption SameDimsTree dims dims' → SameDecl (record { span = span; name = name; dims = dims }) (record { span = span'; name = name'; dims = dims' })

mutual
  pub data SameTypeTree : TypeTree → TypeTree → Type 0 where
    int : {span span' : Span} → SameTypeTree (ty.Int span) (ty.Int span')
    bool : {span span' : Span} → SameTypeTree (ty.Bool span) (ty.Bool span')
    char : {span span' : Span} → SameTypeTree (ty.Char span) (ty.Char span')
    str : {span span' : Span} {length length' : Option Expr} → SameOptionalExpr length length' → SameTypeTree (ty.Str span length) (ty.Str span' length')
    enum : {span span' : Span} {literals literals' : List Name} → SameList SameName literals literals' → SameTypeTree (ty.Enum span literals) (ty.Enum span' literals')
    rec : {span span' : Span} {fields fields' : List Formal} → SameFormals fields fields' → SameTypeTree (ty.Rec span fields) (ty.Rec span' fields')
    cap_of : {span span' : Span} {name name' : QualifiedName} → SameQualifiedName name name' → SameTypeTree (ty.CapOf span name) (ty.CapOf span' name')
    cap_machine : {span span' : Span} → SameTypeTree (ty.CapMachine span) (ty.CapMachine span')
    cap_operation : {span span' : Span} {signature signature' : Signature} → SameSignature signature signature' → SameTypeTree (ty.CapOperation span signature) (ty.CapOperation span' signature')
    array : {span span' : Span} {dims dims' : DimsTree} {item item' : TypeTree} → SameDimsTree dims dims' → SameTypeTree item item' → SameTypeTree (ty.Array span dims item) (ty.Array span' dims' item')
    named : {span span' : Span} {name name' : QualifiedName} → SameQualifiedName name name' → SameTypeTree (ty.Named span name) (ty.Named span' name')

  pub data SameFormal : Formal → Formal → Type 0 where
    formal : {span span' : Span} {mode : Option PassMode} {decls decls' : List Decl} {ty ty' : TypeTree} → SameList SameDecl decls decls' → SameTypeTree ty ty' → SameFormal (roll-Formal (record { span = span; mode = mode; decls = decls; ty = ty })) (roll-Formal (record { span = span'; mode = mode; decls = decls'; ty = ty' }))

  pub data SameReturned : Returned → Returned → Type 0 where
    returned : {span span' : Span} {decl decl' : Decl} {ty ty' : TypeTree} → SameDecl decl decl' → SameTypeTree ty ty' → SameReturned (roll-Returned (record { span = span; decl = decl; ty = ty })) (roll-Returned (record { span = span'; decl = decl'; ty = ty' }))

  pub data SameSignature : Signature → Signature → Type 0 where
    signature : (span span' : Span) (formals formals' : List Formal) (returned returned' : Option Returned) (kinds : List InvocationKind) → SameFormals formals formals' → SameOptionalReturned returned returned' → SameSignature (roll-Signature (record { span = span; formals = formals; returned = returned; kinds = kinds })) (roll-Signature (record { span = span'; formals = formals'; returned = returned'; kinds = kinds }))

  pub data SameFormals : List Formal → List Formal → Type 0 where
    no_formals : SameFormals [] []
    more_formals : {x y : Formal} {xs ys : List Formal} → SameFormal x y → SameFormals xs ys → SameFormals (x ∷ xs) (y ∷ ys)

  pub data SameOptionalReturned : Option Returned → Option Returned → Type 0 where
    no_returned : SameOptionalReturned None None
    some_returned : {x y : Returned} → SameReturned x y → SameOptionalReturned (Some x) (Some y)

-- of a type that may be left out
pub data SameOptionalTypeTree : Option TypeTree → Option TypeTree → Type 0 where
  no_type_tree : SameOptionalTypeTree None None
  some_type_tree : {x y : TypeTree} → SameTypeTree x y → SameOptionalTypeTree (Some x) (Some y)
