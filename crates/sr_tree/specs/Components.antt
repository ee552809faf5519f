-- Which lists of tokens spell which components and files.
use Rattle.std.specs.Prelude.{◌≡◌, ◌≤◌, ℕ, Bool, true, false, List, [], ◌∷◌, ◌++◌, Option, Some, None, sum_by}
use Rattle.sr_tree.specs.declared.component.Component.{Component}
use Rattle.sr_tree.specs.declared.component.Component.TheVariants.{Resource, SplitResource, Global}
use Rattle.sr_tree.specs.declared.component.File.{File}
use Rattle.sr_tree.specs.declared.component.FinalCode.{FinalCode}
use Rattle.sr_tree.specs.declared.component.Item.{Item}
use Rattle.sr_tree.specs.declared.component.Item.TheVariants as item
use Rattle.sr_tree.specs.declared.component.Proc.{Proc}
use Rattle.sr_tree.specs.declared.component.ProcItem.{ProcItem}
use Rattle.sr_tree.specs.declared.component.ProcItem.TheVariants as proc_item
use Rattle.sr_tree.specs.declared.component.Procedure.{Procedure}
use Rattle.sr_tree.specs.declared.component.Process.{Process}
use Rattle.sr_tree.specs.declared.component.SpecItem.{SpecItem}
use Rattle.sr_tree.specs.declared.component.SpecItem.TheVariants as spec_item
use Rattle.sr_tree.specs.declared.declaration.ConstDecl.{ConstDecl}
use Rattle.sr_tree.specs.declared.declaration.Import.{Import}
use Rattle.sr_tree.specs.declared.declaration.OpDecl.{OpDecl}
use Rattle.sr_tree.specs.declared.declaration.OpTypeDecl.{OpTypeDecl}
use Rattle.sr_tree.specs.declared.declaration.SemDecl.{SemDecl}
use Rattle.sr_tree.specs.declared.declaration.TypeDecl.{TypeDecl}
use Rattle.sr_tree.specs.declared.declaration.VarDecl.{VarDecl}
use Rattle.sr_tree.specs.declared.name.Name.{Name}
use Rattle.sr_tree.specs.declared.statement.Quantifier.{Quantifier}
use Rattle.sr_tree.specs.declared.statement.Statement.{Statement}
use Rattle.sr_tree.specs.declared.token.Sign.TheVariants as sign
use Rattle.sr_tree.specs.declared.token.Token.{Token}
use Rattle.sr_tree.specs.declared.token.Word.TheVariants as word
use Rattle.sr_tree.specs.declared.types.Formal.{Formal, out-Formal}
use Rattle.sr_tree.specs.declared.types.PassMode.{PassMode}
use Rattle.sr_tree.specs.declared.types.PassMode.TheVariants.{Val}
use Rattle.sr_tree.specs.declared.types.Signature.{Signature}
use Rattle.sr_tree.specs.Tables.{IsSign, IsWord, IsName, IsSeparator, name_of}
use Rattle.sr_tree.specs.Types.{SpellsFormals, SpellsSignature}
use Rattle.sr_tree.specs.Declarations.{SpellsImport, SpellsConst, SpellsTypeDecl, SpellsOpType, SpellsOp, SpellsVar, SpellsSem}
use Rattle.sr_tree.specs.Statements.{SpellsOptionalNames, SpellsOptionalQuantifiers, SpellsReturnedName, SpellsStatement}

-- list(X): items with one or more separators between two and any number before and after; `may_begin` says whether
-- an item may stand here
pub data SpellsList {A : Type 0} (Spells : A → List Token → Type 0) : Bool → List A → List Token → Type 0 where
  stop_here : {may_begin : Bool} → SpellsList Spells may_begin [] []
  separator : {may_begin : Bool} {is : List A} {u : List Token} (t : Token) → IsSeparator t → SpellsList Spells true is u
      → SpellsList Spells may_begin is (t ∷ u)
  one : {i : A} {is : List A} {u v : List Token} → Spells i u → SpellsList Spells false is v → SpellsList Spells true (i ∷ is) (u ++ v)

-- the name after `body` or `end`, where one is written, is the name of the construct that ends
pub data SpellsEndName (name : Name) : List Token → Type 0 where
  unnamed : SpellsEndName name []
  ends : (n : Token) → IsName n → n.text ≡ name.text → SpellsEndName name (n ∷ [])

-- "end" [name]
pub data SpellsEnd (name : Name) : List Token → Type 0 where
  end_ : {u : List Token} (t : Token) → IsWord word.End t → SpellsEndName name u → SpellsEnd name (t ∷ u)

-- spec = import | const | type_decl | optype | op | var | sem
pub data SpellsSpecItem : SpecItem → List Token → Type 0 where
  imports : {d : Import} {u : List Token} → SpellsImport d u → SpellsSpecItem (spec_item.Import d) u
  constant : {d : ConstDecl} {u : List Token} → SpellsConst d u → SpellsSpecItem (spec_item.Const d) u
  type_decl : {d : TypeDecl} {u : List Token} → SpellsTypeDecl d u → SpellsSpecItem (spec_item.Type d) u
  optype : {d : OpTypeDecl} {u : List Token} → SpellsOpType d u → SpellsSpecItem (spec_item.OpType d) u
  op : {d : OpDecl} {u : List Token} → SpellsOp d u → SpellsSpecItem (spec_item.Op d) u
  variables : {d : VarDecl} {u : List Token} → SpellsVar d u → SpellsSpecItem (spec_item.Var d) u
  semaphores : {d : SemDecl} {u : List Token} → SpellsSem d u → SpellsSpecItem (spec_item.Sem d) u

-- pblock = list(const | var | op | sem | statement)
pub data SpellsProcItem : ProcItem → List Token → Type 0 where
  constant : {d : ConstDecl} {u : List Token} → SpellsConst d u → SpellsProcItem (proc_item.Const d) u
  variables : {d : VarDecl} {u : List Token} → SpellsVar d u → SpellsProcItem (proc_item.Var d) u
  op : {d : OpDecl} {u : List Token} → SpellsOp d u → SpellsProcItem (proc_item.Op d) u
  semaphores : {d : SemDecl} {u : List Token} → SpellsSem d u → SpellsProcItem (proc_item.Sem d) u
  a_statement : {s : Statement} {u : List Token} → SpellsStatement s u → SpellsProcItem (proc_item.Statement s) u

-- proc = "proc" name names ["returns" name] pblock "end" [name]
pub data SpellsProc : Proc → List Token → Type 0 where
  proc : {ns : List Name} {r : Option Name} {is : List ProcItem} {u v x y : List Token} (t n opening closing : Token) → IsWord word.Proc t → IsName n
      → IsSign sign.OpenParen opening → SpellsOptionalNames ns u → IsSign sign.CloseParen closing → SpellsReturnedName r v
      → SpellsList SpellsProcItem true is x → SpellsEnd (name_of n) y
      → SpellsProc (record { span = t.span; name = name_of n; formals = ns; returned = r; block = is })
      (t ∷ n ∷ opening ∷ (u ++ closing ∷ (v ++ (x ++ y))))

-- procedure = "procedure" name signature pblock "end" [name]
pub data SpellsProcedure : Procedure → List Token → Type 0 where
  procedure : {s : Signature} {is : List ProcItem} {u v x : List Token} (t n : Token) → IsWord word.Procedure t → IsName n → SpellsSignature s u
      → SpellsList SpellsProcItem true is v → SpellsEnd (name_of n) x
      → SpellsProcedure (record { span = t.span; name = name_of n; signature = s; block = is }) (t ∷ n ∷ (u ++ (v ++ x)))

-- process = "process" name ["(" quants ")"] pblock "end" [name]
pub data SpellsProcess : Process → List Token → Type 0 where
  process : {qs : List Quantifier} {is : List ProcItem} {u v x : List Token} (t n : Token) → IsWord word.Process t → IsName n
      → SpellsOptionalQuantifiers qs u → SpellsList SpellsProcItem true is v → SpellsEnd (name_of n) x
      → SpellsProcess (record { span = t.span; name = name_of n; quantifiers = qs; block = is }) (t ∷ n ∷ (u ++ (v ++ x)))

-- final = "final" pblock "end"
pub data SpellsFinal : FinalCode → List Token → Type 0 where
  final : {is : List ProcItem} {u : List Token} (t closing : Token) → IsWord word.Final t → SpellsList SpellsProcItem true is u
      → IsWord word.End closing → SpellsFinal (record { span = t.span; block = is }) (t ∷ (u ++ closing ∷ []))

-- item = spec | proc | procedure | process | final | statement
pub data SpellsItem : Item → List Token → Type 0 where
  spec : {i : SpecItem} {u : List Token} → SpellsSpecItem i u → SpellsItem (item.Spec i) u
  proc : {p : Proc} {u : List Token} → SpellsProc p u → SpellsItem (item.Proc p) u
  procedure : {p : Procedure} {u : List Token} → SpellsProcedure p u → SpellsItem (item.Procedure p) u
  process : {p : Process} {u : List Token} → SpellsProcess p u → SpellsItem (item.Process p) u
  final : {f : FinalCode} {u : List Token} → SpellsFinal f u → SpellsItem (item.Final f) u
  a_statement : {s : Statement} {u : List Token} → SpellsStatement s u → SpellsItem (item.Statement s) u

-- how many of the items are final code
abbrev pub final_count : List Item → ℕ
final_count is = sum_by (λ i. elim i [ item.Final f ↦ 1 | _ ↦ 0 ]) is

-- variables and semaphores stand in no spec of a resource
abbrev pub IsOfResource : SpecItem → Type 0
IsOfResource (spec_item.Var d) = ⊥
IsOfResource (spec_item.Sem d) = ⊥
IsOfResource _ = Unit {0}

pub data AllOfResource : List SpecItem → Type 0 where
  none_left : AllOfResource []
  one_more : {i : SpecItem} {is : List SpecItem} → IsOfResource i → AllOfResource is → AllOfResource (i ∷ is)

-- the formals of a component are passed by value: no `var` and no `res` stands before one
abbrev pub IsByValue : Option PassMode → Type 0
IsByValue None = Unit {0}
IsByValue (Some mode) = mode ≡ Val

pub data AllByValue : List Formal → Type 0 where
  none_left : AllByValue []
  one_more : {f : Formal} {fs : List Formal} → IsByValue (out-Formal f).mode → AllByValue fs → AllByValue (f ∷ fs)

-- [formals]
pub data SpellsOptionalFormals : List Formal → List Token → Type 0 where
  no_formals : SpellsOptionalFormals [] []
  some_formals : {fs : List Formal} {u : List Token} → SpellsFormals fs u → SpellsOptionalFormals fs u

-- ["body" name list(item)] of a global
pub data SpellsGlobalBody (name : Name) : Option (List Item) → List Token → Type 0 where
  no_body : SpellsGlobalBody name None []
  body : {is : List Item} {u : List Token} (t n : Token) → IsWord word.Body t → IsName n → n.text ≡ name.text → SpellsList SpellsItem true is u
      → final_count is ≡ 0 → SpellsGlobalBody name (Some is) (t ∷ n ∷ u)

-- component = "resource" name formals list(item) "end" [name]
--           | "resource" name list(spec) "body" name [formals] list(item) "end" [name]
--           | "global" name list(spec) ["body" name list(item)] "end" [name]
pub data SpellsComponent : Component → List Token → Type 0 where
  resource : {fs : List Formal} {is : List Item} {u v x : List Token} (t n : Token) → IsWord word.Resource t → IsName n → SpellsFormals fs u
      → AllByValue fs → SpellsList SpellsItem true is v → final_count is ≤ 1 → SpellsEnd (name_of n) x
      → SpellsComponent (Resource t.span (name_of n) fs is) (t ∷ n ∷ (u ++ (v ++ x)))
  split_resource : {ss : List SpecItem} {fs : List Formal} {is : List Item} {u v x y : List Token} (t n b m : Token) → IsWord word.Resource t
      → IsName n → SpellsList SpellsSpecItem true ss u → AllOfResource ss → IsWord word.Body b → IsName m → m.text ≡ n.text
      → SpellsOptionalFormals fs v → AllByValue fs → SpellsList SpellsItem true is x → final_count is ≤ 1 → SpellsEnd (name_of n) y
      → SpellsComponent (SplitResource t.span (name_of n) ss fs is) (t ∷ n ∷ (u ++ b ∷ m ∷ (v ++ (x ++ y))))
  global : {ss : List SpecItem} {is : Option (List Item)} {u v x : List Token} (t n : Token) → IsWord word.Global t → IsName n
      → SpellsList SpellsSpecItem true ss u → SpellsGlobalBody (name_of n) is v → SpellsEnd (name_of n) x
      → SpellsComponent (Global t.span (name_of n) ss is) (t ∷ n ∷ (u ++ (v ++ x)))

-- file = list(component)
pub data Spells : List Token → File → Type 0 where
  file : {cs : List Component} {u : List Token} → SpellsList SpellsComponent true cs u → Spells u (record { components = cs })
