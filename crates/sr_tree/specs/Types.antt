-- Which lists of tokens spell which types, signatures and declared names.
use Rattle.std.specs.Prelude.{◌≡◌, List, [], ◌∷◌, ◌++◌, Option, Some, None}
use Rattle.sr_value.specs.declared.place.Span.{Span}
use Rattle.sr_tree.specs.declared.expr.Expr.{Expr}
use Rattle.sr_tree.specs.declared.name.Name.{Name}
use Rattle.sr_tree.specs.declared.name.QualifiedName.{QualifiedName}
use Rattle.sr_tree.specs.declared.token.Sign.TheVariants as sign
use Rattle.sr_tree.specs.declared.token.Token.{Token}
use Rattle.sr_tree.specs.declared.token.Word.{Word}
use Rattle.sr_tree.specs.declared.token.Word.TheVariants as word
use Rattle.sr_tree.specs.declared.types.Decl.{Decl}
use Rattle.sr_tree.specs.declared.types.DimsTree.{DimsTree}
use Rattle.sr_tree.specs.declared.types.Formal.{Formal, out-Formal, roll-Formal}
use Rattle.sr_tree.specs.declared.types.InvocationKind.{InvocationKind}
use Rattle.sr_tree.specs.declared.types.InvocationKind.TheVariants as invoked
use Rattle.sr_tree.specs.declared.types.PassMode.{PassMode}
use Rattle.sr_tree.specs.declared.types.PassMode.TheVariants as passed
use Rattle.sr_tree.specs.declared.types.RangeTree.{RangeTree}
use Rattle.sr_tree.specs.declared.types.RangeTree.TheVariants as range
use Rattle.sr_tree.specs.declared.types.Returned.{Returned, out-Returned, roll-Returned}
use Rattle.sr_tree.specs.declared.types.Signature.{Signature, out-Signature, roll-Signature}
use Rattle.sr_tree.specs.declared.types.TypePlace.{TypePlace}
use Rattle.sr_tree.specs.declared.types.TypePlace.TheVariants.{Declaration, Elsewhere}
use Rattle.sr_tree.specs.declared.types.TypeTree.{TypeTree}
use Rattle.sr_tree.specs.declared.types.TypeTree.TheVariants as ty
use Rattle.sr_tree.specs.Tables.{IsSign, IsWord, IsName, IsSeparator, name_of}
use Rattle.sr_tree.specs.Expressions.{SpellsExpr, SpellsQualifiedName, expr_span}

-- the words `val`, `var` and `res`
abbrev pub pass_mode_of : Word → Option PassMode
pass_mode_of word.Val = Some passed.Val
pass_mode_of word.Var = Some passed.Var
pass_mode_of word.Res = Some passed.Res
pass_mode_of _ = None

-- the words `call` and `send`
abbrev pub kind_of : Word → Option InvocationKind
kind_of word.Call = Some invoked.Call
kind_of word.Send = Some invoked.Send
kind_of _ = None

-- a type that ends in a signature with no braces yet: those after it would be that signature's
pub data EndsOpen : TypeTree → Type 0 where
  operation : {span : Span} (signature : Signature) → (out-Signature signature).kinds ≡ [] → EndsOpen (ty.CapOperation span signature)
  array : {span : Span} {dims : DimsTree} (item : TypeTree) → EndsOpen item → EndsOpen (ty.Array span dims item)

-- braces belong to the innermost signature that they can belong to
pub data BracesBelong : Option Returned → List InvocationKind → Type 0 where
  no_braces : {r : Option Returned} → BracesBelong r []
  after_formals : {ks : List InvocationKind} → BracesBelong None ks
  after_type : {ks : List InvocationKind} (r : Returned) → ¬ EndsOpen (out-Returned r).ty → BracesBelong (Some r) ks

-- {"," name}
pub data SpellsMoreNames : List Name → List Token → Type 0 where
  no_more_names : SpellsMoreNames [] []
  one_more_name : {ns : List Name} {u : List Token} (comma n : Token) → IsSign sign.Comma comma → IsName n
      → SpellsMoreNames ns u → SpellsMoreNames (name_of n ∷ ns) (comma ∷ n ∷ u)

-- name {"," name}
pub data SpellsNames : List Name → List Token → Type 0 where
  names : {ns : List Name} {u : List Token} (n : Token) → IsName n → SpellsMoreNames ns u → SpellsNames (name_of n ∷ ns) (n ∷ u)

-- range = expr [":" (expr | "*")] | "*"
pub data SpellsRange : RangeTree → List Token → Type 0 where
  length : {e : Expr} {u : List Token} → SpellsExpr 5 e u → SpellsRange (range.Length (expr_span e) e) u
  bounds : {low high : Expr} {u v : List Token} (colon : Token) → SpellsExpr 5 low u → IsSign sign.Colon colon → SpellsExpr 5 high v
      → SpellsRange (range.Bounds (expr_span low) low high) (u ++ colon ∷ v)
  from : {low : Expr} {u : List Token} (colon star : Token) → SpellsExpr 5 low u → IsSign sign.Colon colon → IsSign sign.Star star
      → SpellsRange (range.From (expr_span low) low) (u ++ colon ∷ star ∷ [])
  any : (star : Token) → IsSign sign.Star star → SpellsRange (range.Any star.span) (star ∷ [])

-- ["," range]
pub data SpellsSecondRange : Option RangeTree → List Token → Type 0 where
  no_second_range : SpellsSecondRange None []
  second_range : {r : RangeTree} {u : List Token} (comma : Token) → IsSign sign.Comma comma → SpellsRange r u
      → SpellsSecondRange (Some r) (comma ∷ u)

-- dims = "[" range ["," range] "]"
pub data SpellsDims : DimsTree → List Token → Type 0 where
  dims : {r : RangeTree} {second : Option RangeTree} {u v : List Token} (opening closing : Token) → IsSign sign.OpenBracket opening
      → SpellsRange r u → SpellsSecondRange second v → IsSign sign.CloseBracket closing
      → SpellsDims (record { span = opening.span; first = r; second = second }) (opening ∷ (u ++ (v ++ closing ∷ [])))

-- decl = name [dims]
pub data SpellsDecl : Decl → List Token → Type 0 where
  bare : (n : Token) → IsName n → SpellsDecl (record { span = n.span; name = name_of n; dims = None }) (n ∷ [])
  sized : {d : DimsTree} {u : List Token} (n : Token) → IsName n → SpellsDims d u
      → SpellsDecl (record { span = n.span; name = name_of n; dims = Some d }) (n ∷ u)

-- {"," decl}
pub data SpellsMoreDecls : List Decl → List Token → Type 0 where
  no_more_decls : SpellsMoreDecls [] []
  one_more_decl : {d : Decl} {ds : List Decl} {u v : List Token} (comma : Token) → IsSign sign.Comma comma → SpellsDecl d u
      → SpellsMoreDecls ds v → SpellsMoreDecls (d ∷ ds) (comma ∷ (u ++ v))

-- decl {"," decl}
pub data SpellsDecls : List Decl → List Token → Type 0 where
  decls : {d : Decl} {ds : List Decl} {u v : List Token} → SpellsDecl d u → SpellsMoreDecls ds v → SpellsDecls (d ∷ ds) (u ++ v)

-- {"," kind}
pub data SpellsMoreKinds : List InvocationKind → List Token → Type 0 where
  no_more_kinds : SpellsMoreKinds [] []
  one_more_kind : (comma t : Token) (w : Word) (k : InvocationKind) → IsSign sign.Comma comma → IsWord w t → kind_of w ≡ Some k
      → SpellsMoreKinds (k ∷ []) (comma ∷ t ∷ [])

-- ["{" kind ["," kind] "}"]
pub data SpellsKinds : List InvocationKind → List Token → Type 0 where
  no_kinds : SpellsKinds [] []
  kinds : {ks : List InvocationKind} {u : List Token} (opening t closing : Token) (w : Word) (k : InvocationKind) → IsSign sign.OpenBrace opening
      → IsWord w t → kind_of w ≡ Some k → SpellsMoreKinds ks u → IsSign sign.CloseBrace closing
      → SpellsKinds (k ∷ ks) (opening ∷ t ∷ (u ++ closing ∷ []))

-- ["val" | "var" | "res"]
pub data SpellsMode : Option PassMode → List Token → Type 0 where
  no_mode : SpellsMode None []
  mode : (t : Token) (w : Word) (m : PassMode) → IsWord w t → pass_mode_of w ≡ Some m → SpellsMode (Some m) (t ∷ [])

-- the span of a formal's first token
abbrev pub formal_span : List Token → Span
formal_span [] = record { file = 0; from = 0; to = 0; line = 0 }
formal_span (t ∷ ts) = t.span

-- enumerations and records are declared within the declaration of a type alone
abbrev pub MayDeclare : TypePlace → Type 0
MayDeclare Declaration = Unit {0}
MayDeclare Elsewhere = ⊥

mutual
  -- a type that is no `enum` and no `rec`:
  -- "int" | "bool" | "char" | "string" "[" (expr | "*") "]" | "cap" (qname | "vm" | signature) | dims type | qname
  pub data SpellsPlainTypeIn (place : TypePlace) : TypeTree → List Token → Type 0 where
    int : (t : Token) → IsWord word.Int t → SpellsPlainTypeIn place (ty.Int t.span) (t ∷ [])
    bool : (t : Token) → IsWord word.Bool t → SpellsPlainTypeIn place (ty.Bool t.span) (t ∷ [])
    char : (t : Token) → IsWord word.Char t → SpellsPlainTypeIn place (ty.Char t.span) (t ∷ [])
    string : {e : Expr} {u : List Token} (t opening closing : Token) → IsWord word.String t → IsSign sign.OpenBracket opening
        → SpellsExpr 5 e u → IsSign sign.CloseBracket closing
        → SpellsPlainTypeIn place (ty.Str t.span (Some e)) (t ∷ opening ∷ (u ++ closing ∷ []))
    string_of_any_length : (t opening star closing : Token) → IsWord word.String t → IsSign sign.OpenBracket opening
        → IsSign sign.Star star → IsSign sign.CloseBracket closing
        → SpellsPlainTypeIn place (ty.Str t.span None) (t ∷ opening ∷ star ∷ closing ∷ [])
    cap_of : {q : QualifiedName} {u : List Token} (t : Token) → IsWord word.Cap t → SpellsQualifiedName q u
        → SpellsPlainTypeIn place (ty.CapOf t.span q) (t ∷ u)
    cap_machine : (t vm : Token) → IsWord word.Cap t → IsWord word.Vm vm → SpellsPlainTypeIn place (ty.CapMachine t.span) (t ∷ vm ∷ [])
    cap_operation : {s : Signature} {u : List Token} (t : Token) → IsWord word.Cap t → SpellsSignatureIn place s u
        → SpellsPlainTypeIn place (ty.CapOperation t.span s) (t ∷ u)
    array : {d : DimsTree} {item : TypeTree} {u v : List Token} → SpellsDims d u → SpellsTypeIn place item v
        → SpellsPlainTypeIn place (ty.Array d.span d item) (u ++ v)
    named : {q : QualifiedName} {u : List Token} → SpellsQualifiedName q u → SpellsPlainTypeIn place (ty.Named q.span q) u

  -- a type, also where an enumeration or a record may be declared:
  -- "enum" "(" name {"," name} ")" | "rec" "(" field {";" field} ")"
  pub data SpellsTypeIn (place : TypePlace) : TypeTree → List Token → Type 0 where
    plain : {t : TypeTree} {u : List Token} → SpellsPlainTypeIn place t u → SpellsTypeIn place t u
    enum : {ns : List Name} {u : List Token} (t opening closing : Token) → MayDeclare place → IsWord word.Enum t
        → IsSign sign.OpenParen opening → SpellsNames ns u → IsSign sign.CloseParen closing
        → SpellsTypeIn place (ty.Enum t.span ns) (t ∷ opening ∷ (u ++ closing ∷ []))
    record_of : {f : Formal} {fs : List Formal} {u v : List Token} (t opening closing : Token) → MayDeclare place → IsWord word.Rec t
        → IsSign sign.OpenParen opening → SpellsFieldIn place f u → SpellsMoreFieldsIn place fs v → IsSign sign.CloseParen closing
        → SpellsTypeIn place (ty.Rec t.span (f ∷ fs)) (t ∷ opening ∷ (u ++ (v ++ closing ∷ [])))

  -- a field of a record: a formal with no word before it
  pub data SpellsFieldIn (place : TypePlace) : Formal → List Token → Type 0 where
    field : {f : Formal} {u : List Token} → SpellsFormalIn place f u → (out-Formal f).mode ≡ None → SpellsFieldIn place f u

  -- {";" field}
  pub data SpellsMoreFieldsIn (place : TypePlace) : List Formal → List Token → Type 0 where
    no_more_fields : SpellsMoreFieldsIn place [] []
    one_more_field : {f : Formal} {fs : List Formal} {u v : List Token} (separator : Token) → IsSeparator separator → SpellsFieldIn place f u
        → SpellsMoreFieldsIn place fs v → SpellsMoreFieldsIn place (f ∷ fs) (separator ∷ (u ++ v))

  -- formal = ["val" | "var" | "res"] decl {"," decl} ":" type
  pub data SpellsFormalIn (place : TypePlace) : Formal → List Token → Type 0 where
    formal : {m : Option PassMode} {ds : List Decl} {t : TypeTree} {u v w : List Token} (colon : Token) → SpellsMode m u → SpellsDecls ds v
        → IsSign sign.Colon colon → SpellsTypeIn place t w
        → SpellsFormalIn place (roll-Formal (record { span = formal_span (u ++ v); mode = m; decls = ds; ty = t })) (u ++ (v ++ colon ∷ w))

  -- {";" formal}
  pub data SpellsMoreFormalsIn (place : TypePlace) : List Formal → List Token → Type 0 where
    no_more_formals : SpellsMoreFormalsIn place [] []
    one_more_formal : {f : Formal} {fs : List Formal} {u v : List Token} (separator : Token) → IsSeparator separator → SpellsFormalIn place f u
        → SpellsMoreFormalsIn place fs v → SpellsMoreFormalsIn place (f ∷ fs) (separator ∷ (u ++ v))

  -- formals = "(" [formal {";" formal}] ")"
  pub data SpellsFormalsIn (place : TypePlace) : List Formal → List Token → Type 0 where
    no_formals : (opening closing : Token) → IsSign sign.OpenParen opening → IsSign sign.CloseParen closing
        → SpellsFormalsIn place [] (opening ∷ closing ∷ [])
    formals : {f : Formal} {fs : List Formal} {u v : List Token} (opening closing : Token) → IsSign sign.OpenParen opening → SpellsFormalIn place f u
        → SpellsMoreFormalsIn place fs v → IsSign sign.CloseParen closing
        → SpellsFormalsIn place (f ∷ fs) (opening ∷ (u ++ (v ++ closing ∷ [])))

  -- ["returns" decl ":" type]
  pub data SpellsReturnedIn (place : TypePlace) : Option Returned → List Token → Type 0 where
    returns_nothing : SpellsReturnedIn place None []
    returned : {d : Decl} {t : TypeTree} {u v : List Token} (w colon : Token) → IsWord word.Returns w → SpellsDecl d u
        → IsSign sign.Colon colon → SpellsTypeIn place t v
        → SpellsReturnedIn place (Some (roll-Returned (record { span = w.span; decl = d; ty = t }))) (w ∷ (u ++ colon ∷ v))

  -- signature = formals ["returns" decl ":" type] ["{" kind ["," kind] "}"]; the braces are those of the innermost
  -- signature that they can belong to
  pub data SpellsSignatureIn (place : TypePlace) : Signature → List Token → Type 0 where
    signature : {fs : List Formal} {r : Option Returned} {ks : List InvocationKind} {u v w : List Token} → SpellsFormalsIn place fs u
        → SpellsReturnedIn place r v → SpellsKinds ks w → BracesBelong r ks
        → SpellsSignatureIn place (roll-Signature (record { span = formal_span u; formals = fs; returned = r; kinds = ks })) (u ++ (v ++ w))

-- the type that a declaration of a type gives a name: enumerations and records stand anywhere in it
abbrev pub SpellsType : TypeTree → List Token → Type 0
SpellsType = SpellsTypeIn Declaration

-- elsewhere they don't stand
abbrev pub SpellsPlainType : TypeTree → List Token → Type 0
SpellsPlainType = SpellsPlainTypeIn Elsewhere

abbrev pub SpellsFormal : Formal → List Token → Type 0
SpellsFormal = SpellsFormalIn Elsewhere

abbrev pub SpellsMoreFormals : List Formal → List Token → Type 0
SpellsMoreFormals = SpellsMoreFormalsIn Elsewhere

abbrev pub SpellsFormals : List Formal → List Token → Type 0
SpellsFormals = SpellsFormalsIn Elsewhere

abbrev pub SpellsSignature : Signature → List Token → Type 0
SpellsSignature = SpellsSignatureIn Elsewhere
