-- Readers of statements and blocks. What reads a block from after a token is a field of a record, so that they are
-- defined by recursion on a number that bounds the tokens.
use Rattle.std.specs.Prelude.{ℕ, zero, suc, Bool, true, false, List, [], ◌∷◌, ◌++◌, Option, Some, None, is_some, option_map, if◌then◌else◌}
use Rattle.sr_reader.specs.Reader.{Reader, returned, unfit, ◌>>=◌, one, branch, while}
use Rattle.sr_value.specs.declared.place.Span.{Span}
use Rattle.sr_tree.specs.declared.expr.Create.TheOpen.{Expr-F}
use Rattle.sr_tree.specs.declared.expr.Expr.{Expr, out-Expr}
use Rattle.sr_tree.specs.declared.expr.Invocation.{Invocation}
use Rattle.sr_tree.specs.declared.name.Name.{Name}
use Rattle.sr_tree.specs.declared.statement.Arm.{Arm, roll-Arm}
use Rattle.sr_tree.specs.declared.statement.ArmCondition.{ArmCondition}
use Rattle.sr_tree.specs.declared.statement.BlockItem.{BlockItem}
use Rattle.sr_tree.specs.declared.statement.BlockItem.TheVariants as item
use Rattle.sr_tree.specs.declared.statement.Branch.{Branch, roll-Branch}
use Rattle.sr_tree.specs.declared.statement.CoArm.{CoArm, roll-CoArm}
use Rattle.sr_tree.specs.declared.statement.ConditionWord.{ConditionWord}
use Rattle.sr_tree.specs.declared.statement.Direction.{Direction}
use Rattle.sr_tree.specs.declared.statement.Quantifier.{Quantifier}
use Rattle.sr_tree.specs.declared.statement.Statement.{Statement}
use Rattle.sr_tree.specs.declared.statement.Statement.TheVariants as statement
use Rattle.sr_tree.specs.declared.token.Sign.TheVariants as sign
use Rattle.sr_tree.specs.declared.token.Token.{Token}
use Rattle.sr_tree.specs.declared.token.TokenKind.{TokenKind}
use Rattle.sr_tree.specs.declared.token.TokenKind.TheVariants as kind
use Rattle.sr_tree.specs.declared.token.Word.{Word}
use Rattle.sr_tree.specs.declared.token.Word.TheVariants as word
use Rattle.sr_tree.specs.Expressions.{expr_span, create_span}
use Rattle.sr_tree.specs.Statements.{direction_of, condition_word_of}
use Rattle.sr_tree.specs.Tests.{is_sign, is_word, is_name}
use Rattle.sr_expr_reader.specs.Readers.{Readers, is_comma, create_at, primary_at, operand_at}
use Rattle.sr_tree.specs.Tokens.{sign_at, word_at, name_at}
use Rattle.sr_expr_reader.specs.TypeReaders.{TypeReaders, type_readers, names_at}
use Rattle.sr_program_reader.specs.DeclarationReaders.{list_at, const_at, var_at}

pub record StatementReaders : Type 0 where
  pub types : TypeReaders
  pub block : Reader Token (List BlockItem)

-- ---- single tokens

abbrev pub token_direction : TokenKind → Option Direction
token_direction (kind.Word w) = direction_of w
token_direction _ = None

unfoldable pub direction_at : Reader Token Direction
direction_at = one (λ t. token_direction t.kind)

abbrev pub token_condition : TokenKind → Option ConditionWord
token_condition (kind.Word w) = condition_word_of w
token_condition _ = None

unfoldable pub condition_word_at : Reader Token (Span × ConditionWord)
condition_word_at = one (λ t. option_map (λ c. (t.span, c)) (token_condition t.kind))

-- which tokens begin a statement
abbrev pub word_begins : Word → Bool
word_begins word.Skip = true
word_begins word.Exit = true
word_begins word.Next = true
word_begins word.Return = true
word_begins word.Reply = true
word_begins word.Stop = true
word_begins word.Call = true
word_begins word.Send = true
word_begins word.Forward = true
word_begins word.Receive = true
word_begins word.Destroy = true
word_begins word.Create = true
word_begins word.If = true
word_begins word.Do = true
word_begins word.Fa = true
word_begins word.In = true
word_begins word.Co = true
word_begins _ = false

abbrev pub begins_statement : TokenKind → Bool
begins_statement kind.Name = true
begins_statement (kind.Word w) = word_begins w
begins_statement _ = false

-- which tokens begin an item of a block
abbrev pub begins_block_item : TokenKind → Bool
begins_block_item k = if is_word word.Const k then true else if is_word word.Var k then true else begins_statement k

-- ---- parts of statements

-- a primary that begins with a name
unfoldable pub named_at : Readers → Reader Token Expr
named_at r = branch (λ t. is_name t.kind) (primary_at r) unfit

-- the invocation that an expression is
abbrev pub invocation_of : Expr → Option Invocation
invocation_of e = elim (out-Expr e) [ Expr-F.Call invocation ↦ Some invocation | _ ↦ None ]

-- a primary that was read, where it is an invocation
unfoldable pub invoked_at : Option Invocation → Reader Token Invocation
invoked_at (Some i) = returned i
invoked_at None = unfit

-- a primary that ends in "(" [args] ")"
unfoldable pub invocation_at : Readers → Reader Token Invocation
invocation_at r = do
  e ← primary_at r
  invoked_at (invocation_of e)

-- ["(" expr ")"]
unfoldable pub status_at : Readers → Reader Token (Option Expr)
status_at r = branch (λ t. is_sign sign.OpenParen t.kind)
    (do
      opening ← sign_at sign.OpenParen
      e ← operand_at r 5
      closing ← sign_at sign.CloseParen
      returned (Some e))
    (returned None)

-- {"," primary}
unfoldable pub next_place_at : Readers → List Expr → Reader Token (List Expr)
next_place_at r es = do
  comma ← sign_at sign.Comma
  e ← primary_at r
  returned (es ++ e ∷ [])

unfoldable pub more_places_at : Readers → List Expr → Reader Token (List Expr)
more_places_at r es = while is_comma (next_place_at r) r.steps es

-- "(" [primary {"," primary}] ")"
unfoldable pub places_at : Readers → Reader Token (List Expr)
places_at r = do
  opening ← sign_at sign.OpenParen
  branch (λ t. is_sign sign.CloseParen t.kind)
      (do
        closing ← sign_at sign.CloseParen
        returned [])
      (do
        e ← primary_at r
        es ← more_places_at r (e ∷ [])
        closing ← sign_at sign.CloseParen
        returned es)

-- ["by" expr]
unfoldable pub by_at : Readers → Reader Token (Option Expr)
by_at r = branch (λ t. is_word word.By t.kind)
    (do
      by ← word_at word.By
      e ← operand_at r 5
      returned (Some e))
    (returned None)

-- ["st" expr]
unfoldable pub such_that_at : Readers → Reader Token (Option Expr)
such_that_at r = branch (λ t. is_word word.St t.kind)
    (do
      st ← word_at word.St
      e ← operand_at r 5
      returned (Some e))
    (returned None)

-- name ":=" expr ("to" | "downto") expr ["by" expr] ["st" expr]
unfoldable pub quantifier_at : Readers → Reader Token Quantifier
quantifier_at r = do
  n ← name_at
  becomes ← sign_at sign.Assign
  first ← operand_at r 5
  direction ← direction_at
  last ← operand_at r 5
  step ← by_at r
  such_that ← such_that_at r
  returned (record { span = n.span; name = n; first = first; direction = direction; last = last; step = step; such_that = such_that })

-- {"," quant}
unfoldable pub next_quantifier_at : Readers → List Quantifier → Reader Token (List Quantifier)
next_quantifier_at r qs = do
  comma ← sign_at sign.Comma
  q ← quantifier_at r
  returned (qs ++ q ∷ [])

unfoldable pub more_quantifiers_at : Readers → List Quantifier → Reader Token (List Quantifier)
more_quantifiers_at r qs = while is_comma (next_quantifier_at r) r.steps qs

-- quant {"," quant}
unfoldable pub quantifiers_at : Readers → Reader Token (List Quantifier)
quantifiers_at r = do
  q ← quantifier_at r
  more_quantifiers_at r (q ∷ [])

-- "(" quants ")", with the span of the opening parenthesis
unfoldable pub enclosed_quantifiers_at : Readers → Reader Token (Span × List Quantifier)
enclosed_quantifiers_at r = do
  span ← sign_at sign.OpenParen
  qs ← quantifiers_at r
  closing ← sign_at sign.CloseParen
  returned (span, qs)

-- ["(" quants ")"]
unfoldable pub optional_quantifiers_at : Readers → Reader Token (List Quantifier)
optional_quantifiers_at r = branch (λ t. is_sign sign.OpenParen t.kind)
    (do
      qs ← enclosed_quantifiers_at r
      returned qs.1)
    (returned [])

-- [name {"," name}]
unfoldable pub optional_names_at : Readers → Reader Token (List Name)
optional_names_at r = branch (λ t. is_name t.kind) (names_at r) (returned [])

-- "(" [name {"," name}] ")"
unfoldable pub enclosed_names_at : Readers → Reader Token (List Name)
enclosed_names_at r = do
  opening ← sign_at sign.OpenParen
  ns ← optional_names_at r
  closing ← sign_at sign.CloseParen
  returned ns

-- ["returns" name]
unfoldable pub returned_name_at : Reader Token (Option Name)
returned_name_at = branch (λ t. is_word word.Returns t.kind)
    (do
      returns ← word_at word.Returns
      n ← name_at
      returned (Some n))
    (returned None)

-- [("and" | "st") expr]
unfoldable pub condition_at : Readers → Reader Token (Option ArmCondition)
condition_at r = branch (λ t. is_some (token_condition t.kind))
    (do
      c ← condition_word_at
      e ← operand_at r 5
      returned (Some (record { span = c.0; word = c.1; condition = e })))
    (returned None)

-- ---- blocks that stand after a token

-- "->" block
unfoldable pub arrow_block_at : StatementReaders → Reader Token (List BlockItem)
arrow_block_at r = do
  arrow ← sign_at sign.Arrow
  r.block

-- "else" "->" block
unfoldable pub otherwise_at : StatementReaders → Reader Token (List BlockItem)
otherwise_at r = do
  otherwise ← word_at word.Else
  arrow_block_at r

-- what has stood between `[]` so far, and what stands after `else`, after which nothing more may stand
abbrev pub is_alternative : {A : Type 0} → List A × Option (List BlockItem) → Token → Bool
is_alternative state t = if is_some state.1 then false else is_sign sign.Alternative t.kind

-- "[]" X | "[]" "else" "->" block
unfoldable pub next_alternative_at : {A : Type 0} → StatementReaders → Reader Token A → List A × Option (List BlockItem) → Reader Token (List A × Option (List BlockItem))
next_alternative_at r alternative state = do
  box ← sign_at sign.Alternative
  branch (λ t. is_word word.Else t.kind)
      (do
        block ← otherwise_at r
        returned (state.0, Some block))
      (do
        a ← alternative
        returned (state.0 ++ a ∷ [], None))

-- X {"[]" X} ["[]" "else" "->" block]
unfoldable pub alternatives_at : {A : Type 0} → StatementReaders → Reader Token A → Reader Token (List A × Option (List BlockItem))
alternatives_at r alternative = do
  a ← alternative
  while is_alternative (next_alternative_at r alternative) r.types.expressions.steps (a ∷ [], None)

-- expr "->" block
unfoldable pub branch_at : StatementReaders → Reader Token Branch
branch_at r = do
  e ← operand_at r.types.expressions 5
  block ← arrow_block_at r
  returned (roll-Branch (record { span = expr_span e; guard = e; block = block }))

unfoldable pub branches_at : StatementReaders → Reader Token (List Branch × Option (List BlockItem))
branches_at r = alternatives_at r (branch_at r)

-- name names ["returns" name] [("and" | "st") expr] ["by" expr] "->" block
unfoldable pub arm_at : StatementReaders → Reader Token Arm
arm_at r = do
  n ← name_at
  formals ← enclosed_names_at r.types.expressions
  named ← returned_name_at
  condition ← condition_at r.types.expressions
  order ← by_at r.types.expressions
  block ← arrow_block_at r
  returned (roll-Arm (record { span = n.span; operation = n; formals = formals; returned = named; condition = condition; order = order; block = block }))

unfoldable pub arms_at : StatementReaders → Reader Token (List Arm × Option (List BlockItem))
arms_at r = alternatives_at r (arm_at r)

-- ---- arms of `co`

-- ["->" block]
unfoldable pub co_block_at : StatementReaders → Reader Token (Option (List BlockItem))
co_block_at r = branch (λ t. is_sign sign.Arrow t.kind)
    (do
      block ← arrow_block_at r
      returned (Some block))
    (returned None)

-- what stands after the invocation of an arm
unfoldable pub after_invocation_at : StatementReaders → Span → List Quantifier → Option Expr → Bool → Invocation → Reader Token CoArm
after_invocation_at r span qs target with_call i = do
  block ← co_block_at r
  returned (roll-CoArm (record { span = span; quantifiers = qs; target = target; with_call = with_call; invocation = i; block = block }))

-- the span of an arm, whose first part begins here, or stands before
abbrev pub first_of : Option Span → Span → Span
first_of None here = here
first_of (Some before) here = before

-- the first primary of an arm: any after what stands before, and else one that begins with a name
unfoldable pub co_start_at : Option Span → Readers → Reader Token Expr
co_start_at None = named_at
co_start_at (Some before) = primary_at

-- an arm from the word `call` on
unfoldable pub co_called_at : StatementReaders → Option Span → List Quantifier → Option Expr → Reader Token CoArm
co_called_at r start qs target = do
  called ← word_at word.Call
  i ← invocation_at r.types.expressions
  after_invocation_at r (first_of start called) qs target true i

-- an arm after its target and `:=`
unfoldable pub after_target_at : StatementReaders → Span → List Quantifier → Expr → Reader Token CoArm
after_target_at r span qs target = branch (λ t. is_word word.Call t.kind) (co_called_at r (Some span) qs (Some target))
    (do
      i ← invocation_at r.types.expressions
      after_invocation_at r span qs (Some target) false i)

-- an arm from its first primary on, which is its target or its invocation
unfoldable pub co_primary_at : StatementReaders → Option Span → List Quantifier → Reader Token CoArm
co_primary_at r start qs = do
  e ← co_start_at start r.types.expressions
  branch (λ t. is_sign sign.Assign t.kind)
      (do
        becomes ← sign_at sign.Assign
        after_target_at r (first_of start (expr_span e)) qs e)
      (do
        i ← invoked_at (invocation_of e)
        after_invocation_at r (first_of start (expr_span e)) qs None false i)

-- an arm after its quantifiers
unfoldable pub after_quantifiers_at : StatementReaders → Option Span → List Quantifier → Reader Token CoArm
after_quantifiers_at r start qs = branch (λ t. is_word word.Call t.kind) (co_called_at r start qs None) (co_primary_at r start qs)

-- ["(" quants ")"] [primary ":="] ["call"] invocation ["->" block]
unfoldable pub co_arm_at : StatementReaders → Reader Token CoArm
co_arm_at r = branch (λ t. is_sign sign.OpenParen t.kind)
    (do
      qs ← enclosed_quantifiers_at r.types.expressions
      after_quantifiers_at r (Some qs.0) qs.1)
    (after_quantifiers_at r None [])

-- {"//" coarm}
unfoldable pub next_co_arm_at : StatementReaders → List CoArm → Reader Token (List CoArm)
next_co_arm_at r arms = do
  parallel ← sign_at sign.Parallel
  a ← co_arm_at r
  returned (arms ++ a ∷ [])

abbrev pub is_parallel : {A : Type 0} → A → Token → Bool
is_parallel a t = is_sign sign.Parallel t.kind

unfoldable pub more_co_arms_at : StatementReaders → List CoArm → Reader Token (List CoArm)
more_co_arms_at r arms = while is_parallel (next_co_arm_at r) r.types.expressions.steps arms

-- ---- statements, one reader for each alternative

-- a statement that is a word
unfoldable pub single_at : Word → (Span → Statement) → Reader Token Statement
single_at w statement_of = do
  span ← word_at w
  returned (statement_of span)

unfoldable pub stop_at : Readers → Reader Token Statement
stop_at r = do
  span ← word_at word.Stop
  status ← status_at r
  returned (statement.Stop span status)

unfoldable pub call_statement_at : Readers → Reader Token Statement
call_statement_at r = do
  span ← word_at word.Call
  i ← invocation_at r
  returned (statement.Call span true i)

unfoldable pub send_at : Readers → Reader Token Statement
send_at r = do
  span ← word_at word.Send
  i ← invocation_at r
  returned (statement.Send span i)

unfoldable pub forward_at : Readers → Reader Token Statement
forward_at r = do
  span ← word_at word.Forward
  i ← invocation_at r
  returned (statement.Forward span i)

unfoldable pub receive_at : Readers → Reader Token Statement
receive_at r = do
  span ← word_at word.Receive
  n ← name_at
  es ← places_at r
  returned (statement.Receive span n es)

unfoldable pub destroy_at : Readers → Reader Token Statement
destroy_at r = do
  span ← word_at word.Destroy
  e ← primary_at r
  returned (statement.Destroy span e)

unfoldable pub create_statement_at : Readers → Reader Token Statement
create_statement_at r = do
  c ← create_at r
  returned (statement.Create (create_span c) c)

unfoldable pub if_at : StatementReaders → Reader Token Statement
if_at r = do
  span ← word_at word.If
  branches ← branches_at r
  closing ← word_at word.Fi
  returned (statement.If span branches.0 branches.1)

unfoldable pub do_at : StatementReaders → Reader Token Statement
do_at r = do
  span ← word_at word.Do
  branches ← branches_at r
  closing ← word_at word.Od
  returned (statement.Do span branches.0 branches.1)

unfoldable pub for_all_at : StatementReaders → Reader Token Statement
for_all_at r = do
  span ← word_at word.Fa
  qs ← quantifiers_at r.types.expressions
  block ← arrow_block_at r
  closing ← word_at word.Af
  returned (statement.ForAll span qs block)

unfoldable pub in_at : StatementReaders → Reader Token Statement
in_at r = do
  span ← word_at word.In
  arms ← arms_at r
  closing ← word_at word.Ni
  returned (statement.In span arms.0 arms.1)

unfoldable pub co_at : StatementReaders → Reader Token Statement
co_at r = do
  span ← word_at word.Co
  a ← co_arm_at r
  arms ← more_co_arms_at r (a ∷ [])
  closing ← word_at word.Oc
  returned (statement.Co span arms)

-- what may stand after the primary that a statement begins with
unfoldable pub assign_at : Readers → Expr → Reader Token Statement
assign_at r a = do
  becomes ← sign_at sign.Assign
  e ← operand_at r 5
  returned (statement.Assign (expr_span a) a e)

unfoldable pub exchange_at : Readers → Expr → Reader Token Statement
exchange_at r a = do
  exchange ← sign_at sign.Exchange
  b ← primary_at r
  returned (statement.Exchange (expr_span a) a b)

unfoldable pub increment_at : Expr → Reader Token Statement
increment_at a = do
  increment ← sign_at sign.Increment
  returned (statement.Increment (expr_span a) a)

unfoldable pub decrement_at : Expr → Reader Token Statement
decrement_at a = do
  decrement ← sign_at sign.Decrement
  returned (statement.Decrement (expr_span a) a)

unfoldable pub plain_call_at : Expr → Reader Token Statement
plain_call_at a = do
  i ← invoked_at (invocation_of a)
  returned (statement.Call (expr_span a) false i)

unfoldable pub after_primary_at : Readers → Expr → Reader Token Statement
after_primary_at r a = branch (λ t. is_sign sign.Assign t.kind) (assign_at r a)
    (branch (λ t. is_sign sign.Exchange t.kind) (exchange_at r a)
    (branch (λ t. is_sign sign.Increment t.kind) (increment_at a)
    (branch (λ t. is_sign sign.Decrement t.kind) (decrement_at a) (plain_call_at a))))

unfoldable pub named_statement_at : Readers → Reader Token Statement
named_statement_at r = do
  a ← primary_at r
  after_primary_at r a

-- statements that end in a word of their own
unfoldable pub closed_statement_at : StatementReaders → Reader Token Statement
closed_statement_at r = branch (λ t. is_word word.If t.kind) (if_at r)
    (branch (λ t. is_word word.Do t.kind) (do_at r)
    (branch (λ t. is_word word.Fa t.kind) (for_all_at r)
    (branch (λ t. is_word word.In t.kind) (in_at r) (co_at r))))

-- statements that begin with the name of what they do to an operation or a resource, and those after
unfoldable pub operating_statement_at : StatementReaders → Reader Token Statement
operating_statement_at r = branch (λ t. is_word word.Call t.kind) (call_statement_at r.types.expressions)
    (branch (λ t. is_word word.Send t.kind) (send_at r.types.expressions)
    (branch (λ t. is_word word.Forward t.kind) (forward_at r.types.expressions)
    (branch (λ t. is_word word.Receive t.kind) (receive_at r.types.expressions)
    (branch (λ t. is_word word.Destroy t.kind) (destroy_at r.types.expressions)
    (branch (λ t. is_word word.Create t.kind) (create_statement_at r.types.expressions) (closed_statement_at r))))))

-- statements that are a word, `stop`, and those after
unfoldable pub worded_statement_at : StatementReaders → Reader Token Statement
worded_statement_at r = branch (λ t. is_word word.Skip t.kind) (single_at word.Skip statement.Skip)
    (branch (λ t. is_word word.Exit t.kind) (single_at word.Exit statement.Exit)
    (branch (λ t. is_word word.Next t.kind) (single_at word.Next statement.Next)
    (branch (λ t. is_word word.Return t.kind) (single_at word.Return statement.Return)
    (branch (λ t. is_word word.Reply t.kind) (single_at word.Reply statement.Reply)
    (branch (λ t. is_word word.Stop t.kind) (stop_at r.types.expressions) (operating_statement_at r))))))

unfoldable pub statement_at : StatementReaders → Reader Token Statement
statement_at r = branch (λ t. is_name t.kind) (named_statement_at r.types.expressions) (worded_statement_at r)

-- ---- blocks

-- const | var | statement
unfoldable pub block_item_at : StatementReaders → Reader Token BlockItem
block_item_at r = branch (λ t. is_word word.Const t.kind)
    (do
      d ← const_at r.types
      returned (item.Const d))
    (branch (λ t. is_word word.Var t.kind)
    (do
      d ← var_at r.types
      returned (item.Var d))
    (do
      s ← statement_at r
      returned (item.Statement s)))

-- list(const | var | statement)
unfoldable pub block_at : StatementReaders → Reader Token (List BlockItem)
block_at r = list_at (λ t. begins_block_item t.kind) (block_item_at r) r.types.expressions.steps

unfoldable pub blocks : ℕ → Reader Token (List BlockItem)
blocks zero = unfit
blocks (suc k) = block_at (record { types = type_readers k; block = blocks k })

abbrev pub statement_readers : ℕ → StatementReaders
statement_readers k = record { types = type_readers k; block = blocks k }
