-- Statements and blocks that are the same but for their spans.
use Rattle.std.specs.Prelude.{Bool, List, [], ◌∷◌, Option, Some, None}
use Rattle.sr_value.specs.declared.place.Span.{Span}
use Rattle.sr_tree.specs.declared.name.Name.{Name}
use Rattle.sr_tree.specs.declared.expr.Expr.{Expr}
use Rattle.sr_tree.specs.declared.expr.Invocation.{Invocation}
use Rattle.sr_tree.specs.declared.expr.Create.{Create}
use Rattle.sr_tree.specs.declared.declaration.ConstDecl.{ConstDecl}
use Rattle.sr_tree.specs.declared.declaration.VarDecl.{VarDecl}
use Rattle.sr_tree.specs.declared.statement.Direction.{Direction}
use Rattle.sr_tree.specs.declared.statement.Quantifier.{Quantifier}
use Rattle.sr_tree.specs.declared.statement.ConditionWord.{ConditionWord}
use Rattle.sr_tree.specs.declared.statement.ArmCondition.{ArmCondition}
use Rattle.sr_tree.specs.declared.statement.Statement.{Statement}
use Rattle.sr_tree.specs.declared.statement.Statement.TheVariants as statements
use Rattle.sr_tree.specs.declared.statement.BlockItem.{BlockItem}
use Rattle.sr_tree.specs.declared.statement.BlockItem.TheVariants as items
use Rattle.sr_tree.specs.declared.statement.Branch.{Branch, roll-Branch}
use Rattle.sr_tree.specs.declared.statement.Arm.{Arm, roll-Arm}
use Rattle.sr_tree.specs.declared.statement.CoArm.{CoArm, roll-CoArm}
use Rattle.sr_grammar_laws.specs.SameExpressions.{SameCreate, SameExpr, SameExprs, SameInvocation, SameList, SameName, SameOption, SameOptionalExpr}
use Rattle.sr_grammar_laws.specs.SameDeclarations.{SameConstDecl, SameVarDecl}

pub data SameQuantifier : Quantifier → Quantifier → Type 0 where
  quantifier : {span span' : Span} {name name' : Name} {first first' : Expr} {direction : Direction} {last last' : Expr} {step step' : Option Expr} {such_that such_that' : Option Expr} → SameName name name' → SameExpr first first' → SameExpr last last' → SameOptionalExpr step step' → SameOptionalExpr such_that such_that' → SameQuantifier (record { span = span; name = name; first = first; direction = direction; last = last; step = step; such_that = such_that }) (record { span = span'; name = name'; first = first'; direction = direction; last = last'; step = step'; such_that = such_that' })

pub data SameArmCondition : ArmCondition → ArmCondition → Type 0 where
  arm_condition : {span span' : Span} {word : ConditionWord} {condition condition' : Expr} → SameExpr condition condition' → SameArmCondition (record { span = span; word = word; condition = condition }) (record { span = span'; word = word; condition = condition' })

mutual
  pub data SameStatement : Statement → Statement → Type 0 where
    skip : {span span' : Span} → SameStatement (statements.Skip span) (statements.Skip span')
    exit : {span span' : Span} → SameStatement (statements.Exit span) (statements.Exit span')
    next : {span span' : Span} → SameStatement (statements.Next span) (statements.Next span')
    return : {span span' : Span} → SameStatement (statements.Return span) (statements.Return span')
    reply : {span span' : Span} → SameStatement (statements.Reply span) (statements.Reply span')
    stop : {span span' : Span} {status status' : Option Expr} → SameOptionalExpr status status' → SameStatement (statements.Stop span status) (statements.Stop span' status')
    call : {span span' : Span} {with_call : Bool} {invocation invocation' : Invocation} → SameInvocation invocation invocation' → SameStatement (statements.Call span with_call invocation) (statements.Call span' with_call invocation')
    send : {span span' : Span} {invocation invocation' : Invocation} → SameInvocation invocation invocation' → SameStatement (statements.Send span invocation) (statements.Send span' invocation')
    forward : {span span' : Span} {invocation invocation' : Invocation} → SameInvocation invocation invocation' → SameStatement (statements.Forward span invocation) (statements.Forward span' invocation')
    receive : {span span' : Span} {operation operation' : Name} {places places' : List Expr} → SameName operation operation' → SameExprs places places' → SameStatement (statements.Receive span operation places) (statements.Receive span' operation' places')
    assign : {span span' : Span} {place place' : Expr} {value value' : Expr} → SameExpr place place' → SameExpr value value' → SameStatement (statements.Assign span place value) (statements.Assign span' place' value')
    exchange : {span span' : Span} {left left' : Expr} {right right' : Expr} → SameExpr left left' → SameExpr right right' → SameStatement (statements.Exchange span left right) (statements.Exchange span' left' right')
    increment : {span span' : Span} {place place' : Expr} → SameExpr place place' → SameStatement (statements.Increment span place) (statements.Increment span' place')
    decrement : {span span' : Span} {place place' : Expr} → SameExpr place place' → SameStatement (statements.Decrement span place) (statements.Decrement span' place')
    if_ : {span span' : Span} {branches branches' : List Branch} {otherwise otherwise' : Option (List BlockItem)} → SameBranches branches branches' → SameOptionalBlock otherwise otherwise' → SameStatement (statements.If span branches otherwise) (statements.If span' branches' otherwise')
    do_ : {span span' : Span} {branches branches' : List Branch} {otherwise otherwise' : Option (List BlockItem)} → SameBranches branches branches' → SameOptionalBlock otherwise otherwise' → SameStatement (statements.Do span branches otherwise) (statements.Do span' branches' otherwise')
    for_all : {span span' : Span} {quantifiers quantifiers' : List Quantifier} {block block' : List BlockItem} → SameList SameQuantifier quantifiers quantifiers' → SameBlockItems block block' → SameStatement (statements.ForAll span quantifiers block) (statements.ForAll span' quantifiers' block')
    in_ : {span span' : Span} {arms arms' : List Arm} {otherwise otherwise' : Option (List BlockItem)} → SameArms arms arms' → SameOptionalBlock otherwise otherwise' → SameStatement (statements.In span arms otherwise) (statements.In span' arms' otherwise')
    co : {span span' : Span} {arms arms' : List CoArm} → SameCoArms arms arms' → SameStatement (statements.Co span arms) (statements.Co span' arms')
    destroy : {span span' : Span} {target target' : Expr} → SameExpr target target' → SameStatement (statements.Destroy span target) (statements.Destroy span' target')
    create : {span span' : Span} {create create' : Create} → SameCreate create create' → SameStatement (statements.Create span create) (statements.Create span' create')

  pub data SameBlockItem : BlockItem → BlockItem → Type 0 where
    const : {it it' : ConstDecl} → SameConstDecl it it' → SameBlockItem (items.Const it) (items.Const it')
    var : {it it' : VarDecl} → SameVarDecl it it' → SameBlockItem (items.Var it) (items.Var it')
    statement : {it it' : Statement} → SameStatement it it' → SameBlockItem (items.Statement it) (items.Statement it')

  pub data SameBranch : Branch → Branch → Type 0 where
    branch : {span span' : Span} {guard guard' : Expr} {block block' : List BlockItem} → SameExpr guard guard' → SameBlockItems block block' → SameBranch (roll-Branch (record { span = span; guard = guard; block = block })) (roll-Branch (record { span = span'; guard = guard'; block = block' }))

  pub data SameArm : Arm → Arm → Type 0 where
    arm : {span span' : Span} {operation operation' : Name} {formals formals' : List Name} {returned returned' : Option Name} {condition condition' : Option ArmCondition} {order order' : Option Expr} {block block' : List BlockItem} → SameName operation operation' → SameList SameName formals formals' → SameOption SameName returned returned' → SameOption SameArmCondition condition condition' → SameOptionalExpr order order' → SameBlockItems block block' → SameArm (roll-Arm (record { span = span; operation = operation; formals = formals; returned = returned; condition = condition; order = order; block = block })) (roll-Arm (record { span = span'; operation = operation'; formals = formals'; returned = returned'; condition = condition'; order = order'; block = block' }))

  pub data SameCoArm : CoArm → CoArm → Type 0 where
    co_arm : {span span' : Span} {quantifiers quantifiers' : List Quantifier} {target target' : Option Expr} {with_call : Bool} {invocation invocation' : Invocation} {block block' : Option (List BlockItem)} → SameList SameQuantifier quantifiers quantifiers' → SameOptionalExpr target target' → SameInvocation invocation invocation' → SameOptionalBlock block block' → SameCoArm (roll-CoArm (record { span = span; quantifiers = quantifiers; target = target; with_call = with_call; invocation = invocation; block = block })) (roll-CoArm (record { span = span'; quantifiers = quantifiers'; target = target'; with_call = with_call; invocation = invocation'; block = block' }))

  pub data SameBranches : List Branch → List Branch → Type 0 where
    no_branches : SameBranches [] []
    more_branches : {x y : Branch} {xs ys : List Branch} → SameBranch x y → SameBranches xs ys → SameBranches (x ∷ xs) (y ∷ ys)

  pub data SameArms : List Arm → List Arm → Type 0 where
    no_arms : SameArms [] []
    more_arms : {x y : Arm} {xs ys : List Arm} → SameArm x y → SameArms xs ys → SameArms (x ∷ xs) (y ∷ ys)

  pub data SameCoArms : List CoArm → List CoArm → Type 0 where
    no_co_arms : SameCoArms [] []
    more_co_arms : {x y : CoArm} {xs ys : List CoArm} → SameCoArm x y → SameCoArms xs ys → SameCoArms (x ∷ xs) (y ∷ ys)

  pub data SameBlockItems : List BlockItem → List BlockItem → Type 0 where
    no_block_items : SameBlockItems [] []
    more_block_items : {x y : BlockItem} {xs ys : List BlockItem} → SameBlockItem x y → SameBlockItems xs ys → SameBlockItems (x ∷ xs) (y ∷ ys)

  pub data SameOptionalBlock : Option (List BlockItem) → Option (List BlockItem) → Type 0 where
    no_block : SameOptionalBlock None None
    some_block : {is js : List BlockItem} → SameBlockItems is js → SameOptionalBlock (Some is) (Some js)
