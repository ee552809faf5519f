-- An arm is read as its head and its block.
use Rattle.std.proofs.Common.{◌≡◌, refl, ℕ, Bool, true, false, List, [], Option, Some, None, Result, Ok, Err}
use Rattle.std.specs.Prelude.{if◌then◌else◌}
use Rattle.sr_reader.specs.Reader.{Reader, returned, continued, ◌>>=◌, next_is}
use Rattle.sr_value.specs.declared.place.Span.{Span}
use Rattle.sr_tree.specs.declared.expr.Expr.{Expr}
use Rattle.sr_tree.specs.declared.statement.Arm.{Arm}
use Rattle.sr_tree.specs.declared.statement.CoArm.{CoArm}
use Rattle.sr_tree.specs.declared.statement.Quantifier.{Quantifier}
use Rattle.sr_tree.specs.declared.token.Sign.TheVariants as sign
use Rattle.sr_tree.specs.declared.token.Token.{Token}
use Rattle.sr_tree.specs.declared.token.Word.TheVariants as word
use Rattle.sr_tree.specs.Expressions.{expr_span}
use Rattle.sr_tree.specs.Tests.{is_sign, is_word}
use Rattle.sr_tree.specs.Tokens.{sign_at, word_at, name_at}
use Rattle.sr_program_reader.specs.StatementReaders.{StatementReaders, arm_at, arrow_block_at, after_invocation_at, after_quantifiers_at, after_target_at, by_at, co_arm_at, co_block_at, co_called_at, co_primary_at, co_start_at, condition_at, enclosed_names_at, enclosed_quantifiers_at, first_of, invocation_at, invocation_of, invoked_at, returned_name_at}
use Rattle.sr_parser.specs.declared.heads.ArmHead.{ArmHead}
use Rattle.sr_parser.specs.declared.heads.CoHead.{CoHead}
use Rattle.sr_parser.specs.ArmReaders.{arm_head_at, arm_of, called_head_at, co_arm_of, co_head_at, primary_head_at, quantified_head_at, split_arm_at, split_co_arm_at, target_head_at}

module _ {A B C : Type 0} (h : B → Reader Token C) where
  -- what is read in two steps and then a third, step by step
  then-then : (x : Result (A × List Token) ℕ) (g : A → Reader Token B) (f : A → Reader Token C)
      → ((a : A) (s : List Token) → continued (g a s) h ≡ f a s) → continued (continued x g) h ≡ continued x f
  then-then (Ok x) g f e = e x.0 x.1
  then-then (Err left) g f e = refl

-- one of two, and then another step
branch-then : {B C : Type 0} (h : B → Reader Token C) (test : Bool) (a b : Result (B × List Token) ℕ) (c d : Result (C × List Token) ℕ)
    → continued a h ≡ c → continued b h ≡ d → continued (if test then a else b) h ≡ (if test then c else d)
branch-then h true a b c d e f = e
branch-then h false a b c d e f = f

module _ (r : StatementReaders) where
  with_block : CoHead → Reader Token CoArm
  with_block h = do
    block ← co_block_at r
    returned (co_arm_of h block)

  called-splits : (start : Option Span) (qs : List Quantifier) (target : Option Expr) (s : List Token)
      → continued (called_head_at r.types.expressions start qs target s) with_block ≡ co_called_at r start qs target s
  unfolding called_head_at co_called_at after_invocation_at co_block_at with_block
  called-splits start qs target s = then-then with_block (word_at word.Call s) _ _ (λ called q. then-then with_block (invocation_at r.types.expressions q) _ _ (λ i z. refl))

  target-splits : (span : Span) (qs : List Quantifier) (target : Expr) (s : List Token)
      → continued (target_head_at r.types.expressions span qs target s) with_block ≡ after_target_at r span qs target s
  unfolding target_head_at after_target_at after_invocation_at co_block_at with_block
  target-splits span qs target s =
      branch-then with_block (next_is (λ t. is_word word.Call t.kind) s) _ _ _ _ (called-splits (Some span) qs (Some target) s)
      (then-then with_block (invocation_at r.types.expressions s) _ _ (λ i z. refl))

  primary-splits : (start : Option Span) (qs : List Quantifier) (s : List Token)
      → continued (primary_head_at r.types.expressions start qs s) with_block ≡ co_primary_at r start qs s
  unfolding primary_head_at co_primary_at after_invocation_at after_target_at co_block_at with_block
  primary-splits start qs s =
      then-then with_block (co_start_at start r.types.expressions s) _ _
      (λ e q. branch-then with_block (next_is (λ t. is_sign sign.Assign t.kind) q) _ _ _ _
      (then-then with_block (sign_at sign.Assign q) _ _ (λ becomes z. target-splits (first_of start (expr_span e)) qs e z))
      (then-then with_block (invoked_at (invocation_of e) q) _ _ (λ i z. refl)))

  quantified-splits : (start : Option Span) (qs : List Quantifier) (s : List Token)
      → continued (quantified_head_at r.types.expressions start qs s) with_block ≡ after_quantifiers_at r start qs s
  unfolding quantified_head_at after_quantifiers_at
  quantified-splits start qs s =
      branch-then with_block (next_is (λ t. is_word word.Call t.kind) s) _ _ _ _ (called-splits start qs None s) (primary-splits start qs s)

  pub co-splits : (s : List Token) → split_co_arm_at r s ≡ co_arm_at r s
  unfolding split_co_arm_at co_head_at co_arm_at with_block after_quantifiers_at
  co-splits s =
      branch-then with_block (next_is (λ t. is_sign sign.OpenParen t.kind) s) _ _ _ _
      (then-then with_block (enclosed_quantifiers_at r.types.expressions s) _ _ (λ qs z. quantified-splits (Some qs.0) qs.1 z))
      (quantified-splits None [] s)

  of_arm : ArmHead → Reader Token Arm
  of_arm h = do
    block ← arrow_block_at r
    returned (arm_of h block)

  pub arm-splits : (s : List Token) → split_arm_at r s ≡ arm_at r s
  unfolding split_arm_at arm_head_at arm_at of_arm arrow_block_at
  arm-splits s =
      then-then of_arm (name_at s) _ _
      (λ n a. then-then of_arm (enclosed_names_at r.types.expressions a) _ _
      (λ formals b. then-then of_arm (returned_name_at b) _ _
      (λ named c. then-then of_arm (condition_at r.types.expressions c) _ _
      (λ condition d. then-then of_arm (by_at r.types.expressions d) _ _ (λ order z. refl)))))
