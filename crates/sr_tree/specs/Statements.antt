-- Which lists of tokens spell which statements and blocks: one case for each alternative of the grammar.
use Rattle.std.specs.Prelude.{◌≡◌, Bool, true, false, List, [], ◌∷◌, ◌++◌, Option, Some, None}
use Rattle.sr_value.specs.declared.place.Span.{Span}
use Rattle.sr_tree.specs.declared.declaration.ConstDecl.{ConstDecl}
use Rattle.sr_tree.specs.declared.declaration.VarDecl.{VarDecl}
use Rattle.sr_tree.specs.declared.expr.Create.{Create}
use Rattle.sr_tree.specs.declared.expr.Expr.{Expr}
use Rattle.sr_tree.specs.declared.expr.Expr.TheVariants as expr
use Rattle.sr_tree.specs.declared.expr.Invocation.{Invocation}
use Rattle.sr_tree.specs.declared.name.Name.{Name}
use Rattle.sr_tree.specs.declared.statement.Arm.{Arm, roll-Arm}
use Rattle.sr_tree.specs.declared.statement.ArmCondition.{ArmCondition}
use Rattle.sr_tree.specs.declared.statement.BlockItem.{BlockItem}
use Rattle.sr_tree.specs.declared.statement.BlockItem.TheVariants as item
use Rattle.sr_tree.specs.declared.statement.Branch.{Branch, roll-Branch}
use Rattle.sr_tree.specs.declared.statement.CoArm.{CoArm, roll-CoArm}
use Rattle.sr_tree.specs.declared.statement.ConditionWord.{ConditionWord}
use Rattle.sr_tree.specs.declared.statement.ConditionWord.TheVariants as condition
use Rattle.sr_tree.specs.declared.statement.Direction.{Direction}
use Rattle.sr_tree.specs.declared.statement.Direction.TheVariants as direction
use Rattle.sr_tree.specs.declared.statement.Quantifier.{Quantifier}
use Rattle.sr_tree.specs.declared.statement.Statement.{Statement}
use Rattle.sr_tree.specs.declared.statement.Statement.TheVariants as statement
use Rattle.sr_tree.specs.declared.token.Sign.TheVariants as sign
use Rattle.sr_tree.specs.declared.token.Token.{Token}
use Rattle.sr_tree.specs.declared.token.Word.{Word}
use Rattle.sr_tree.specs.declared.token.Word.TheVariants as word
use Rattle.sr_tree.specs.Tables.{IsSign, IsWord, IsName, IsSeparator, name_of}
use Rattle.sr_tree.specs.Expressions.{SpellsExpr, SpellsPrimary, SpellsCreate, expr_span, create_span}
use Rattle.sr_tree.specs.Types.{SpellsNames}
use Rattle.sr_tree.specs.Declarations.{SpellsConst, SpellsVar}

-- ---- parts of statements

-- a primary that begins with a name
pub data SpellsNamed : Expr → List Token → Type 0 where
  named : {e : Expr} {u : List Token} (n : Token) → IsName n → SpellsPrimary e (n ∷ u) → SpellsNamed e (n ∷ u)

-- invocation = a primary that ends in "(" [args] ")"
pub data SpellsInvocation : Invocation → List Token → Type 0 where
  invocation : {i : Invocation} {u : List Token} → SpellsPrimary (expr.Call i) u → SpellsInvocation i u

-- ["(" expr ")"]
pub data SpellsStatus : Option Expr → List Token → Type 0 where
  no_status : SpellsStatus None []
  status : {e : Expr} {u : List Token} (opening closing : Token) → IsSign sign.OpenParen opening → SpellsExpr 5 e u
      → IsSign sign.CloseParen closing → SpellsStatus (Some e) (opening ∷ (u ++ closing ∷ []))

-- {"," primary}
pub data SpellsMorePlaces : List Expr → List Token → Type 0 where
  no_more_places : SpellsMorePlaces [] []
  one_more_place : {e : Expr} {es : List Expr} {u v : List Token} (comma : Token) → IsSign sign.Comma comma → SpellsPrimary e u
      → SpellsMorePlaces es v → SpellsMorePlaces (e ∷ es) (comma ∷ (u ++ v))

-- [primary {"," primary}]
pub data SpellsPlaces : List Expr → List Token → Type 0 where
  no_places : SpellsPlaces [] []
  places : {e : Expr} {es : List Expr} {u v : List Token} → SpellsPrimary e u → SpellsMorePlaces es v → SpellsPlaces (e ∷ es) (u ++ v)

-- "to" | "downto"
abbrev pub direction_of : Word → Option Direction
direction_of word.To = Some direction.To
direction_of word.Downto = Some direction.Downto
direction_of _ = None

-- "and" | "st"
abbrev pub condition_word_of : Word → Option ConditionWord
condition_word_of word.And = Some condition.And
condition_word_of word.St = Some condition.St
condition_word_of _ = None

-- ["by" expr]
pub data SpellsBy : Option Expr → List Token → Type 0 where
  no_by : SpellsBy None []
  by : {e : Expr} {u : List Token} (t : Token) → IsWord word.By t → SpellsExpr 5 e u → SpellsBy (Some e) (t ∷ u)

-- ["st" expr]
pub data SpellsSuchThat : Option Expr → List Token → Type 0 where
  no_such_that : SpellsSuchThat None []
  such_that : {e : Expr} {u : List Token} (t : Token) → IsWord word.St t → SpellsExpr 5 e u → SpellsSuchThat (Some e) (t ∷ u)

-- quant = name ":=" expr ("to" | "downto") expr ["by" expr] ["st" expr]
pub data SpellsQuantifier : Quantifier → List Token → Type 0 where
  quantifier : {first last : Expr} {step such_that : Option Expr} {u v x y : List Token} (n becomes t : Token) (w : Word) (d : Direction)
      → IsName n → IsSign sign.Assign becomes → SpellsExpr 5 first u → IsWord w t → direction_of w ≡ Some d → SpellsExpr 5 last v
      → SpellsBy step x → SpellsSuchThat such_that y
      → SpellsQuantifier
      (record { span = n.span; name = name_of n; first = first; direction = d; last = last; step = step; such_that = such_that })
      (n ∷ becomes ∷ (u ++ t ∷ (v ++ (x ++ y))))

-- {"," quant}
pub data SpellsMoreQuantifiers : List Quantifier → List Token → Type 0 where
  no_more_quantifiers : SpellsMoreQuantifiers [] []
  one_more_quantifier : {q : Quantifier} {qs : List Quantifier} {u v : List Token} (comma : Token) → IsSign sign.Comma comma
      → SpellsQuantifier q u → SpellsMoreQuantifiers qs v → SpellsMoreQuantifiers (q ∷ qs) (comma ∷ (u ++ v))

-- quants = quant {"," quant}
pub data SpellsQuantifiers : List Quantifier → List Token → Type 0 where
  quantifiers : {q : Quantifier} {qs : List Quantifier} {u v : List Token} → SpellsQuantifier q u → SpellsMoreQuantifiers qs v
      → SpellsQuantifiers (q ∷ qs) (u ++ v)

-- [name {"," name}]
pub data SpellsOptionalNames : List Name → List Token → Type 0 where
  no_names : SpellsOptionalNames [] []
  some_names : {ns : List Name} {u : List Token} → SpellsNames ns u → SpellsOptionalNames ns u

-- ["returns" name]
pub data SpellsReturnedName : Option Name → List Token → Type 0 where
  no_returned_name : SpellsReturnedName None []
  returned_name : (t n : Token) → IsWord word.Returns t → IsName n → SpellsReturnedName (Some (name_of n)) (t ∷ n ∷ [])

-- [("and" | "st") expr]
pub data SpellsCondition : Option ArmCondition → List Token → Type 0 where
  no_condition : SpellsCondition None []
  on_condition : {e : Expr} {u : List Token} (t : Token) (w : Word) (c : ConditionWord) → IsWord w t → condition_word_of w ≡ Some c → SpellsExpr 5 e u
      → SpellsCondition (Some (record { span = t.span; word = c; condition = e })) (t ∷ u)

-- ["call"]
pub data SpellsCallWord : Bool → List Token → Type 0 where
  no_call_word : SpellsCallWord false []
  call_word : (t : Token) → IsWord word.Call t → SpellsCallWord true (t ∷ [])

-- ["(" quants ")"]
pub data SpellsOptionalQuantifiers : List Quantifier → List Token → Type 0 where
  no_quantifiers : SpellsOptionalQuantifiers [] []
  some_quantifiers : {qs : List Quantifier} {u : List Token} (opening closing : Token) → IsSign sign.OpenParen opening → SpellsQuantifiers qs u
      → IsSign sign.CloseParen closing → SpellsOptionalQuantifiers qs (opening ∷ (u ++ closing ∷ []))

-- the first primary of an arm of `co`: any after quantifiers (true), and else one that begins with a name
pub data SpellsCoStart : Bool → Expr → List Token → Type 0 where
  begins_arm : {e : Expr} {u : List Token} → SpellsNamed e u → SpellsCoStart false e u
  after_quantifiers : {e : Expr} {u : List Token} → SpellsPrimary e u → SpellsCoStart true e u

-- [primary ":="] ["call"] invocation, of which the first primary is that of the arm
pub data SpellsCoCall (quantified : Bool) : Option Expr → Bool → Invocation → List Token → Type 0 where
  plain : {i : Invocation} {u : List Token} → SpellsCoStart quantified (expr.Call i) u → SpellsCoCall quantified None false i u
  called : {i : Invocation} {u : List Token} (t : Token) → IsWord word.Call t → SpellsInvocation i u → SpellsCoCall quantified None true i (t ∷ u)
  stored : {e : Expr} {with_call : Bool} {i : Invocation} {u v w : List Token} (becomes : Token) → SpellsCoStart quantified e u
      → IsSign sign.Assign becomes → SpellsCallWord with_call v → SpellsInvocation i w
      → SpellsCoCall quantified (Some e) with_call i (u ++ becomes ∷ (v ++ w))

-- the span of the first of some tokens
abbrev pub first_span : List Token → Span
first_span [] = record { file = 0; from = 0; to = 0; line = 0 }
first_span (t ∷ ts) = t.span

-- ---- statements, one case for each alternative

mutual
  pub data SpellsStatement : Statement → List Token → Type 0 where
    skip : (t : Token) → IsWord word.Skip t → SpellsStatement (statement.Skip t.span) (t ∷ [])
    exit : (t : Token) → IsWord word.Exit t → SpellsStatement (statement.Exit t.span) (t ∷ [])
    next : (t : Token) → IsWord word.Next t → SpellsStatement (statement.Next t.span) (t ∷ [])
    returns : (t : Token) → IsWord word.Return t → SpellsStatement (statement.Return t.span) (t ∷ [])
    reply : (t : Token) → IsWord word.Reply t → SpellsStatement (statement.Reply t.span) (t ∷ [])
    stop : {e : Option Expr} {u : List Token} (t : Token) → IsWord word.Stop t → SpellsStatus e u → SpellsStatement (statement.Stop t.span e) (t ∷ u)
    call : {i : Invocation} {u : List Token} (t : Token) → IsWord word.Call t → SpellsInvocation i u
        → SpellsStatement (statement.Call t.span true i) (t ∷ u)
    invoke : {i : Invocation} {u : List Token} → SpellsNamed (expr.Call i) u
        → SpellsStatement (statement.Call (expr_span (expr.Call i)) false i) u
    send : {i : Invocation} {u : List Token} (t : Token) → IsWord word.Send t → SpellsInvocation i u
        → SpellsStatement (statement.Send t.span i) (t ∷ u)
    forward : {i : Invocation} {u : List Token} (t : Token) → IsWord word.Forward t → SpellsInvocation i u
        → SpellsStatement (statement.Forward t.span i) (t ∷ u)
    receive : {es : List Expr} {u : List Token} (t n opening closing : Token) → IsWord word.Receive t → IsName n → IsSign sign.OpenParen opening
        → SpellsPlaces es u → IsSign sign.CloseParen closing
        → SpellsStatement (statement.Receive t.span (name_of n) es) (t ∷ n ∷ opening ∷ (u ++ closing ∷ []))
    assign : {a e : Expr} {u v : List Token} (becomes : Token) → SpellsNamed a u → IsSign sign.Assign becomes → SpellsExpr 5 e v
        → SpellsStatement (statement.Assign (expr_span a) a e) (u ++ becomes ∷ v)
    exchange : {a b : Expr} {u v : List Token} (t : Token) → SpellsNamed a u → IsSign sign.Exchange t → SpellsPrimary b v
        → SpellsStatement (statement.Exchange (expr_span a) a b) (u ++ t ∷ v)
    increment : {a : Expr} {u : List Token} (t : Token) → SpellsNamed a u → IsSign sign.Increment t
        → SpellsStatement (statement.Increment (expr_span a) a) (u ++ t ∷ [])
    decrement : {a : Expr} {u : List Token} (t : Token) → SpellsNamed a u → IsSign sign.Decrement t
        → SpellsStatement (statement.Decrement (expr_span a) a) (u ++ t ∷ [])
    if : {bs : List Branch} {o : Option (List BlockItem)} {u v : List Token} (t closing : Token) → IsWord word.If t → SpellsBranches bs u
        → SpellsOtherwise o v → IsWord word.Fi closing
        → SpellsStatement (statement.If t.span bs o) (t ∷ (u ++ (v ++ closing ∷ [])))
    do_ : {bs : List Branch} {o : Option (List BlockItem)} {u v : List Token} (t closing : Token) → IsWord word.Do t → SpellsBranches bs u
        → SpellsOtherwise o v → IsWord word.Od closing
        → SpellsStatement (statement.Do t.span bs o) (t ∷ (u ++ (v ++ closing ∷ [])))
    for_all : {qs : List Quantifier} {is : List BlockItem} {u v : List Token} (t arrow closing : Token) → IsWord word.Fa t
        → SpellsQuantifiers qs u → IsSign sign.Arrow arrow → SpellsBlock is v → IsWord word.Af closing
        → SpellsStatement (statement.ForAll t.span qs is) (t ∷ (u ++ arrow ∷ (v ++ closing ∷ [])))
    in_ : {a : Arm} {more : List Arm} {o : Option (List BlockItem)} {u v x : List Token} (t closing : Token) → IsWord word.In t → SpellsArm a u
        → SpellsMoreArms more v → SpellsOtherwise o x → IsWord word.Ni closing
        → SpellsStatement (statement.In t.span (a ∷ more) o) (t ∷ (u ++ (v ++ (x ++ closing ∷ []))))
    co : {a : CoArm} {more : List CoArm} {u v : List Token} (t closing : Token) → IsWord word.Co t → SpellsCoArm a u → SpellsMoreCoArms more v
        → IsWord word.Oc closing
        → SpellsStatement (statement.Co t.span (a ∷ more)) (t ∷ (u ++ (v ++ closing ∷ [])))
    destroy : {e : Expr} {u : List Token} (t : Token) → IsWord word.Destroy t → SpellsPrimary e u
        → SpellsStatement (statement.Destroy t.span e) (t ∷ u)
    create : {c : Create} {u : List Token} → SpellsCreate c u → SpellsStatement (statement.Create (create_span c) c) u

  -- expr "->" block
  pub data SpellsBranch : Branch → List Token → Type 0 where
    branch : {e : Expr} {is : List BlockItem} {u v : List Token} (arrow : Token) → SpellsExpr 5 e u → IsSign sign.Arrow arrow → SpellsBlock is v
        → SpellsBranch (roll-Branch (record { span = expr_span e; guard = e; block = is })) (u ++ arrow ∷ v)

  -- {"[]" expr "->" block}
  pub data SpellsMoreBranches : List Branch → List Token → Type 0 where
    no_more_branches : SpellsMoreBranches [] []
    one_more_branch : {b : Branch} {bs : List Branch} {u v : List Token} (t : Token) → IsSign sign.Alternative t → SpellsBranch b u
        → SpellsMoreBranches bs v → SpellsMoreBranches (b ∷ bs) (t ∷ (u ++ v))

  -- guards without their `else`
  pub data SpellsBranches : List Branch → List Token → Type 0 where
    branches : {b : Branch} {bs : List Branch} {u v : List Token} → SpellsBranch b u → SpellsMoreBranches bs v → SpellsBranches (b ∷ bs) (u ++ v)

  -- ["[]" "else" "->" block]
  pub data SpellsOtherwise : Option (List BlockItem) → List Token → Type 0 where
    no_otherwise : SpellsOtherwise None []
    otherwise : {is : List BlockItem} {u : List Token} (t otherwise arrow : Token) → IsSign sign.Alternative t → IsWord word.Else otherwise
        → IsSign sign.Arrow arrow → SpellsBlock is u → SpellsOtherwise (Some is) (t ∷ otherwise ∷ arrow ∷ u)

  -- arm = name names ["returns" name] [("and" | "st") expr] ["by" expr] "->" block
  pub data SpellsArm : Arm → List Token → Type 0 where
    arm : {ns : List Name} {r : Option Name} {c : Option ArmCondition} {o : Option Expr} {is : List BlockItem} {u v x y z : List Token}
        (n opening closing arrow : Token) → IsName n → IsSign sign.OpenParen opening → SpellsOptionalNames ns u → IsSign sign.CloseParen closing
        → SpellsReturnedName r v → SpellsCondition c x → SpellsBy o y → IsSign sign.Arrow arrow → SpellsBlock is z
        → SpellsArm
        (roll-Arm (record { span = n.span; operation = name_of n; formals = ns; returned = r; condition = c; order = o; block = is }))
        (n ∷ opening ∷ (u ++ closing ∷ (v ++ (x ++ (y ++ arrow ∷ z)))))

  -- {"[]" arm}
  pub data SpellsMoreArms : List Arm → List Token → Type 0 where
    no_more_arms : SpellsMoreArms [] []
    one_more_arm : {a : Arm} {more : List Arm} {u v : List Token} (t : Token) → IsSign sign.Alternative t → SpellsArm a u → SpellsMoreArms more v
        → SpellsMoreArms (a ∷ more) (t ∷ (u ++ v))

  -- ["->" block]
  pub data SpellsCoBlock : Option (List BlockItem) → List Token → Type 0 where
    no_co_block : SpellsCoBlock None []
    co_block : {is : List BlockItem} {u : List Token} (arrow : Token) → IsSign sign.Arrow arrow → SpellsBlock is u
        → SpellsCoBlock (Some is) (arrow ∷ u)

  -- coarm = ["(" quants ")"] [primary ":="] ["call"] invocation ["->" block]
  pub data SpellsCoArm : CoArm → List Token → Type 0 where
    co_arm : {place : Option Expr} {with_call : Bool} {i : Invocation} {block : Option (List BlockItem)} {u v : List Token}
        → SpellsCoCall false place with_call i u → SpellsCoBlock block v
        → SpellsCoArm
        (roll-CoArm (record { span = first_span u; quantifiers = []; target = place; with_call = with_call; invocation = i; block = block }))
        (u ++ v)
    quantified : {qs : List Quantifier} {place : Option Expr} {with_call : Bool} {i : Invocation} {block : Option (List BlockItem)}
        {u v x : List Token} (opening closing : Token) → IsSign sign.OpenParen opening → SpellsQuantifiers qs u
        → IsSign sign.CloseParen closing → SpellsCoCall true place with_call i v → SpellsCoBlock block x
        → SpellsCoArm
        (roll-CoArm (record { span = opening.span; quantifiers = qs; target = place; with_call = with_call; invocation = i; block = block }))
        (opening ∷ (u ++ closing ∷ (v ++ x)))

  -- {"//" coarm}
  pub data SpellsMoreCoArms : List CoArm → List Token → Type 0 where
    no_more_co_arms : SpellsMoreCoArms [] []
    one_more_co_arm : {a : CoArm} {more : List CoArm} {u v : List Token} (t : Token) → IsSign sign.Parallel t → SpellsCoArm a u
        → SpellsMoreCoArms more v → SpellsMoreCoArms (a ∷ more) (t ∷ (u ++ v))

  -- const | var | statement
  pub data SpellsBlockItem : BlockItem → List Token → Type 0 where
    a_constant : {c : ConstDecl} {u : List Token} → SpellsConst c u → SpellsBlockItem (item.Const c) u
    some_variables : {d : VarDecl} {u : List Token} → SpellsVar d u → SpellsBlockItem (item.Var d) u
    a_statement : {s : Statement} {u : List Token} → SpellsStatement s u → SpellsBlockItem (item.Statement s) u

  -- what is left of a list of items with separators, where an item may begin here or not
  pub data SpellsItems : Bool → List BlockItem → List Token → Type 0 where
    stop_here : {may_begin : Bool} → SpellsItems may_begin [] []
    separator : {may_begin : Bool} {is : List BlockItem} {u : List Token} (t : Token) → IsSeparator t → SpellsItems true is u
        → SpellsItems may_begin is (t ∷ u)
    one : {i : BlockItem} {is : List BlockItem} {u v : List Token} → SpellsBlockItem i u → SpellsItems false is v
        → SpellsItems true (i ∷ is) (u ++ v)

  -- block = list(const | var | statement)
  pub data SpellsBlock : List BlockItem → List Token → Type 0 where
    block : {is : List BlockItem} {u : List Token} → SpellsItems true is u → SpellsBlock is u
