-- Readers of the part of an arm before its block. They read no block, so their functions are in no cycle of calls.
use Rattle.std.specs.Prelude.{true, false, List, [], Option, Some, None}
use Rattle.sr_reader.specs.Reader.{Reader, returned, ◌>>=◌, branch}
use Rattle.sr_value.specs.declared.place.Span.{Span}
use Rattle.sr_tree.specs.declared.expr.Expr.{Expr}
use Rattle.sr_tree.specs.declared.name.Name.{Name}
use Rattle.sr_tree.specs.declared.statement.Arm.{Arm, roll-Arm}
use Rattle.sr_tree.specs.declared.statement.BlockItem.{BlockItem}
use Rattle.sr_tree.specs.declared.statement.CoArm.{CoArm, roll-CoArm}
use Rattle.sr_tree.specs.declared.statement.Quantifier.{Quantifier}
use Rattle.sr_tree.specs.declared.token.Sign.TheVariants as sign
use Rattle.sr_tree.specs.declared.token.Token.{Token}
use Rattle.sr_tree.specs.declared.token.Word.TheVariants as word
use Rattle.sr_tree.specs.Expressions.{expr_span}
use Rattle.sr_tree.specs.Tests.{is_sign, is_word}
use Rattle.sr_expr_reader.specs.Readers.{Readers}
use Rattle.sr_tree.specs.Tokens.{sign_at, word_at, name_at}
use Rattle.sr_program_reader.specs.StatementReaders.{StatementReaders, arrow_block_at, by_at, co_block_at, co_start_at, condition_at, enclosed_names_at, enclosed_quantifiers_at, first_of, invocation_at, invocation_of, invoked_at, returned_name_at}
use Rattle.sr_parser.specs.declared.heads.ArmHead.{ArmHead}
use Rattle.sr_parser.specs.declared.heads.CoHead.{CoHead}

-- name names ["returns" name] [("and" | "st") expr] ["by" expr]
unfoldable pub arm_head_at : Readers → Reader Token ArmHead
arm_head_at r = do
  n ← name_at
  formals ← enclosed_names_at r
  named ← returned_name_at
  condition ← condition_at r
  order ← by_at r
  returned (record { operation = n; formals = formals; returned = named; condition = condition; order = order })

-- ["returns" name] [("and" | "st") expr] ["by" expr] after the formals of an arm
unfoldable pub arm_head_after_at : Readers → Name → List Name → Reader Token ArmHead
arm_head_after_at r n formals = do
  named ← returned_name_at
  condition ← condition_at r
  order ← by_at r
  returned (record { operation = n; formals = formals; returned = named; condition = condition; order = order })

-- the arm of a head and a block
abbrev pub arm_of : ArmHead → List BlockItem → Arm
arm_of h block = roll-Arm (record {
  span = h.operation.span;
  operation = h.operation;
  formals = h.formals;
  returned = h.returned;
  condition = h.condition;
  order = h.order;
  block = block;
})

-- an arm of `co` from the word `call` on, up to its block
unfoldable pub called_head_at : Readers → Option Span → List Quantifier → Option Expr → Reader Token CoHead
called_head_at r start qs target = do
  called ← word_at word.Call
  i ← invocation_at r
  returned (record { span = first_of start called; quantifiers = qs; target = target; with_call = true; invocation = i })

-- after its target and `:=`
unfoldable pub target_head_at : Readers → Span → List Quantifier → Expr → Reader Token CoHead
target_head_at r span qs target = branch (λ t. is_word word.Call t.kind) (called_head_at r (Some span) qs (Some target))
    (do
      i ← invocation_at r
      returned (record { span = span; quantifiers = qs; target = Some target; with_call = false; invocation = i }))

-- from its first primary on, which is its target or its invocation
unfoldable pub primary_head_at : Readers → Option Span → List Quantifier → Reader Token CoHead
primary_head_at r start qs = do
  e ← co_start_at start r
  branch (λ t. is_sign sign.Assign t.kind)
      (do
        becomes ← sign_at sign.Assign
        target_head_at r (first_of start (expr_span e)) qs e)
      (do
        i ← invoked_at (invocation_of e)
        returned (record { span = first_of start (expr_span e); quantifiers = qs; target = None; with_call = false; invocation = i }))

-- after its quantifiers
unfoldable pub quantified_head_at : Readers → Option Span → List Quantifier → Reader Token CoHead
quantified_head_at r start qs = branch (λ t. is_word word.Call t.kind) (called_head_at r start qs None) (primary_head_at r start qs)

-- ["(" quants ")"] [primary ":="] ["call"] invocation
unfoldable pub co_head_at : Readers → Reader Token CoHead
co_head_at r = branch (λ t. is_sign sign.OpenParen t.kind)
    (do
      qs ← enclosed_quantifiers_at r
      quantified_head_at r (Some qs.0) qs.1)
    (quantified_head_at r None [])

-- the arm of a head and its block, where it has one
abbrev pub co_arm_of : CoHead → Option (List BlockItem) → CoArm
co_arm_of h block = roll-CoArm (record {
  span = h.span;
  quantifiers = h.quantifiers;
  target = h.target;
  with_call = h.with_call;
  invocation = h.invocation;
  block = block;
})

-- an arm of `in`
unfoldable pub split_arm_at : StatementReaders → Reader Token Arm
split_arm_at r = do
  head ← arm_head_at r.types.expressions
  block ← arrow_block_at r
  returned (arm_of head block)

-- an arm of `co`
unfoldable pub split_co_arm_at : StatementReaders → Reader Token CoArm
split_co_arm_at r = do
  head ← co_head_at r.types.expressions
  block ← co_block_at r
  returned (co_arm_of head block)
