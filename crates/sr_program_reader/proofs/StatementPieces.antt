-- What each reader of a piece of a statement gives where its parts are read.
use Rattle.std.proofs.Common.{◌≡◌, refl, sym, ◌∙◌, ap, subst, ℕ, zero, suc, ◌<◌, Bool, true, false, List, [], ◌∷◌, ◌++◌, length, Option, Some, None, Result, Ok, append_assoc, arith}
use Rattle.std.specs.Prelude.{is_some}
use Rattle.sr_reader.specs.Reader.{Reader, returned, ◌>>=◌, next_is}
use Rattle.sr_reader.proofs.Soundness.{append-nil}
use Rattle.sr_value.specs.declared.place.Span.{Span}
use Rattle.sr_tree.specs.declared.expr.Expr.{Expr}
use Rattle.sr_tree.specs.declared.expr.Expr.TheVariants as expr
use Rattle.sr_tree.specs.declared.expr.Invocation.{Invocation}
use Rattle.sr_tree.specs.declared.name.Name.{Name}
use Rattle.sr_tree.specs.declared.statement.ArmCondition.{ArmCondition}
use Rattle.sr_tree.specs.declared.statement.BlockItem.{BlockItem}
use Rattle.sr_tree.specs.declared.statement.Quantifier.{Quantifier}
use Rattle.sr_tree.specs.declared.statement.Statement.{Statement}
use Rattle.sr_tree.specs.declared.statement.Statement.TheVariants as statement
use Rattle.sr_tree.specs.declared.token.Sign.TheVariants as sign
use Rattle.sr_tree.specs.declared.token.Token.{Token}
use Rattle.sr_tree.specs.declared.token.TokenKind.{TokenKind}
use Rattle.sr_tree.specs.declared.token.TokenKind.TheVariants as kind
use Rattle.sr_tree.specs.declared.token.Word.{Word}
use Rattle.sr_tree.specs.declared.token.Word.TheVariants as word
use Rattle.sr_tree.specs.Expressions.{SpellsExpr, SpellsPrimary, expr_span}
use Rattle.sr_tree.specs.Statements as s
use Rattle.sr_tree.specs.Statements.{SpellsNamed, SpellsInvocation, SpellsBy, SpellsReturnedName, SpellsCondition, SpellsCallWord, SpellsCoStart, SpellsCoCall, SpellsOptionalNames, SpellsCoBlock, first_span}
use Rattle.sr_tree.specs.Tables.{IsSign, IsWord, IsName, name_of}
use Rattle.sr_tree.specs.Tests.{is_sign, is_word, is_name}
use Rattle.sr_expr_reader.specs.Readers.{Readers, primary_at, operand_at}
use Rattle.sr_tree.specs.Tokens.{sign_at, word_at, name_at}
use Rattle.sr_expr_reader.specs.TypeReaders.{TypeReaders, type_readers}
use Rattle.sr_expr_reader.proofs.ExpressionEdges.{begins_expr, primary-begins, begins-no-word, continues_expr, token-stops}
use Rattle.sr_expr_reader.proofs.ExpressionsComplete.{complete-operand}
use Rattle.sr_expr_reader.proofs.Families.{YieldsIn, BelowIn, LoopsIn, below, token_then, below_token, below_then, below_seq, yields_then, below_returned, yields_returned, yields_met, yields_unmet, below_met, below_unmet, loop_stops, loop_goes, loop_within, yields_part}
use Rattle.sr_expr_reader.proofs.TokensSound.{kind_of_word}
use Rattle.sr_expr_reader.proofs.TokensComplete.{Stops, is_that_sign, is_that_word, sign-reads, word-reads, name-reads, continues, stops-continued}
use Rattle.sr_expr_reader.proofs.Yields.{Yields, steps-readers}
use Rattle.sr_program_reader.specs.StatementReaders.{StatementReaders, statement_readers, blocks, begins_block_item, token_condition, invocation_of, invoked_at, invocation_at, by_at, enclosed_names_at, returned_name_at, condition_at, arrow_block_at, otherwise_at, is_alternative, next_alternative_at, alternatives_at, branch_at, arm_at, co_block_at, after_invocation_at, first_of, co_start_at, co_called_at, after_target_at, co_primary_at, after_quantifiers_at, single_at, assign_at, exchange_at, increment_at, decrement_at, plain_call_at, after_primary_at, named_statement_at, closed_statement_at, operating_statement_at, worded_statement_at, statement_at, block_at}
use Rattle.sr_program_reader.proofs.Lists.{ClosesList}
use Rattle.sr_program_reader.proofs.Separated.{Separated, none_after, one_after}
use Rattle.sr_program_reader.proofs.StatementEnds.{Ends, closes, closing-ends, closing-separator, closing-item, arrow-stops}
use Rattle.sr_program_reader.proofs.StatementPartsComplete.{primary-yields, start-yields, invoked-yields, invocation-yields, by-first, by-stops, by-yields, condition-first, condition-yields, complete-enclosed-names, complete-returned-name}
use Rattle.sr_program_reader.proofs.StatementsSound.{branch_of, arm_of, co_arm_of, three, stored-tokens}
use Rattle.sr_program_reader.proofs.StatementStarts.{start-span, start-alone}

-- what the readers of expressions give
pub of-expressions : {A : Type 0} (f : Readers → Reader Token A) (w : List Token) (z : Result (A × List Token) ℕ) → Yields f w z
    → YieldsIn statement_readers (λ r. f r.types.expressions) w z
of-expressions f w z y = yields_part (λ r. r.types.expressions) (λ k. refl) f w z y

pub of-types : {A : Type 0} (f : TypeReaders → Reader Token A) (w : List Token) (z : Result (A × List Token) ℕ) → YieldsIn type_readers f w z
    → YieldsIn statement_readers (λ r. f r.types) w z
of-types f w z y = yields_part (λ r. r.types) (λ k. refl) f w z y

-- ---- blocks after an arrow

-- what ends a block
abbrev pub BlockEnds : List Token → Type 0
BlockEnds = ClosesList (λ t. begins_block_item t.kind) Ends

pub closing-block : (t : Token) (q : List Token) → closes t.kind ≡ true → BlockEnds (t ∷ q)
closing-block t q h = record { ends = closing-ends t q h; separator = closing-separator t.kind h; item = closing-item t.kind h }

below-block : (w : List Token) (z : Result (List BlockItem × List Token) ℕ) → YieldsIn statement_readers block_at w z → BelowIn statement_readers (λ r. r.block) w z
unfolding blocks
below-block w z y = record { gives = at }
  where
    at : (k : ℕ) → length w < k → (statement_readers k).block w ≡ z
    at zero h = absurd (omega (arith, h))
    at (suc k) h = y.gives k (omega (arith, h))

pub arrow-yields : (t : Token) (is : List BlockItem) (v q : List Token) → IsSign sign.Arrow t → YieldsIn statement_readers block_at (v ++ q) (Ok (is, q))
    → YieldsIn statement_readers arrow_block_at (t ∷ (v ++ q)) (Ok (is, q))
unfolding arrow_block_at
arrow-yields t is v q h y =
    token_then (sign_at sign.Arrow) (λ r a. r.block) t (v ++ q) t.span _ (sign-reads sign.Arrow t (v ++ q) h) (below-block (v ++ q) _ y)

-- ---- alternatives

-- an alternative that is read, and is none after `else`
pub record CompleteAlternative {A : Type 0} (alternative : StatementReaders → Reader Token A) (a : A) (u : List Token) : Type 0 where
  pub yields : (q : List Token) → BlockEnds q → YieldsIn statement_readers alternative (u ++ q) (Ok (a, q))
  pub other : (q : List Token) → next_is (λ t. is_word word.Else t.kind) (u ++ q) ≡ false

-- what stands after `else`, where it does
pub data CompleteOtherwise : Option (List BlockItem) → List Token → Type 0 where
  nothing_otherwise : CompleteOtherwise None []
  block_otherwise : {is : List BlockItem} {u : List Token} (t otherwise arrow : Token) → IsSign sign.Alternative t → IsWord word.Else otherwise
      → IsSign sign.Arrow arrow → ((q : List Token) → BlockEnds q → YieldsIn statement_readers block_at (u ++ q) (Ok (is, q)))
      → CompleteOtherwise (Some is) (t ∷ otherwise ∷ arrow ∷ u)

otherwise-ends : {o : Option (List BlockItem)} {x : List Token} → CompleteOtherwise o x → (q : List Token) → BlockEnds q → BlockEnds (x ++ q)
otherwise-ends nothing_otherwise q e = e
otherwise-ends (block_otherwise {u = u} t w a h i j y) q e = closing-block t (w ∷ a ∷ (u ++ q)) (ap closes h)

module _ {A : Type 0} (alternative : StatementReaders → Reader Token A) where
  alternatives-end : {bs : List A} {v : List Token} → Separated sign.Alternative (CompleteAlternative alternative) bs v → (q : List Token) → BlockEnds q → BlockEnds (v ++ q)
  alternatives-end none_after q e = e
  alternatives-end (one_after {u = u} {v = v} t h d m) q e = closing-block t ((u ++ v) ++ q) (ap closes h)

  abbrev step : StatementReaders → List A × Option (List BlockItem) → Reader Token (List A × Option (List BlockItem))
  step r = next_alternative_at r (alternative r)

  no-alternative : (xs : List A) (q : List Token) → next_is (λ t. is_sign sign.Alternative t.kind) q ≡ false → next_is (is_alternative (xs, None)) q ≡ false
  no-alternative xs [] h = refl
  no-alternative xs (t ∷ q) h = h

  nothing-more : (xs : List A) (is : List BlockItem) (q : List Token) → next_is (is_alternative (xs, Some is)) q ≡ false
  nothing-more xs is [] = refl
  nothing-more xs is (t ∷ q) = refl

  -- after the last alternative
  otherwise-follows : {o : Option (List BlockItem)} {x : List Token} → CompleteOtherwise o x → (xs : List A) (q : List Token) → BlockEnds q
      → next_is (λ t. is_sign sign.Alternative t.kind) q ≡ false → LoopsIn statement_readers is_alternative step (xs, None) (x ++ q) (Ok ((xs, o), q))
  unfolding next_alternative_at otherwise_at
  otherwise-follows nothing_otherwise xs q e n = loop_stops is_alternative step (xs, None) q (no-alternative xs q n)
  otherwise-follows (block_otherwise {is = is} {u = u} t w a h i j y) xs q e n =
      loop_goes is_alternative step (xs, None) (xs, Some is) t (w ∷ a ∷ (u ++ q)) (w ∷ a ∷ u) q _ refl (is_that_sign sign.Alternative t h)
      (token_then (sign_at sign.Alternative) _ t (w ∷ a ∷ (u ++ q)) t.span _ (sign-reads sign.Alternative t (w ∷ a ∷ (u ++ q)) h)
      (below_met _ _ _ (w ∷ a ∷ (u ++ q)) _ (is_that_word word.Else w i)
      (below_then otherwise_at _ (w ∷ a ∷ u) q is _
      (below otherwise_at (w ∷ a ∷ (u ++ q)) _
      (token_then (word_at word.Else) (λ r x. arrow_block_at r) w (a ∷ (u ++ q)) w.span _ (word-reads word.Else w (a ∷ (u ++ q)) i)
      (below arrow_block_at (a ∷ (u ++ q)) _ (arrow-yields a is u q j (y q e)))))
      (below_returned (xs, Some is) q))))
      (loop_stops is_alternative step (xs, Some is) q (nothing-more xs is q))

  alternatives-follow : {bs : List A} {v : List Token} → Separated sign.Alternative (CompleteAlternative alternative) bs v
      → {o : Option (List BlockItem)} {x : List Token} → CompleteOtherwise o x → (xs : List A) (q : List Token) → BlockEnds q
      → next_is (λ t. is_sign sign.Alternative t.kind) q ≡ false
      → LoopsIn statement_readers is_alternative step (xs, None) (v ++ (x ++ q)) (Ok ((xs ++ bs, o), q))
  unfolding next_alternative_at
  alternatives-follow none_after {o = o} {x = x} other xs q e n =
      subst (λ ys. LoopsIn statement_readers is_alternative step (xs, None) (x ++ q) (Ok ((ys, o), q))) (sym (append-nil xs)) (otherwise-follows other xs q e n)
  alternatives-follow (one_after {a = b} {more = bs} {u = u} {v = v} t h d m) {o = o} {x = x} other xs q e n =
      let w = v ++ (x ++ q) in
      subst (λ y. LoopsIn statement_readers is_alternative step (xs, None) (t ∷ y) (Ok ((xs ++ b ∷ bs, o), q))) (sym (append_assoc u v (x ++ q)))
      (loop_goes is_alternative step (xs, None) (xs ++ b ∷ [], None) t (u ++ (v ++ (x ++ q))) u (v ++ (x ++ q)) _ refl (is_that_sign sign.Alternative t h)
      (token_then (sign_at sign.Alternative) _ t (u ++ (v ++ (x ++ q))) t.span _ (sign-reads sign.Alternative t (u ++ (v ++ (x ++ q))) h)
      (below_unmet _ _ _ (u ++ (v ++ (x ++ q))) _ (d.other (v ++ (x ++ q)))
      (below_then alternative _ u (v ++ (x ++ q)) b _
      (below alternative (u ++ (v ++ (x ++ q))) _ (d.yields (v ++ (x ++ q)) (alternatives-end m (x ++ q) (otherwise-ends other q e))))
      (below_returned (xs ++ b ∷ [], None) (v ++ (x ++ q))))))
      (subst (λ ys. LoopsIn statement_readers is_alternative step (xs ++ b ∷ [], None) (v ++ (x ++ q)) (Ok ((ys, o), q))) (append_assoc xs (b ∷ []) bs)
      (alternatives-follow m other (xs ++ b ∷ []) q e n)))

  pub alternatives-yields : {b : A} {bs : List A} {o : Option (List BlockItem)} {u v x : List Token} → CompleteAlternative alternative b u
      → Separated sign.Alternative (CompleteAlternative alternative) bs v → CompleteOtherwise o x → (q : List Token) → BlockEnds q
      → next_is (λ t. is_sign sign.Alternative t.kind) q ≡ false
      → YieldsIn statement_readers (λ r. alternatives_at r (alternative r)) ((u ++ (v ++ x)) ++ q) (Ok ((b ∷ bs, o), q))
  unfolding alternatives_at
  alternatives-yields {b = b} {bs = bs} {o = o} {u = u} {v = v} {x = x} d m other q e n =
      subst (λ w. YieldsIn statement_readers (λ r. alternatives_at r (alternative r)) w (Ok ((b ∷ bs, o), q))) (sym (three u v x q))
      (yields_then alternative _ u (v ++ (x ++ q)) b _ (d.yields (v ++ (x ++ q)) (alternatives-end m (x ++ q) (otherwise-ends other q e)))
      (loop_within is_alternative step (λ r. r.types.expressions.steps) steps-readers (b ∷ [], None) (v ++ (x ++ q)) _ (alternatives-follow m other (b ∷ []) q e n)))

-- ---- branches and arms

pub branch-yields : {e : Expr} {is : List BlockItem} (t : Token) (u v q : List Token) → SpellsExpr 5 e u → IsSign sign.Arrow t
    → YieldsIn statement_readers block_at (v ++ q) (Ok (is, q)) → YieldsIn statement_readers branch_at ((u ++ t ∷ v) ++ q) (Ok (branch_of e is, q))
unfolding branch_at
branch-yields {e = e} {is = is} t u v q d h y =
    subst (λ w. YieldsIn statement_readers branch_at w (Ok (branch_of e is, q))) (sym (append_assoc u (t ∷ v) q))
    (yields_then (λ r. operand_at r.types.expressions 5) _ u (t ∷ (v ++ q)) e _
    (of-expressions (λ r. operand_at r 5) (u ++ t ∷ (v ++ q)) _ (complete-operand d (t ∷ (v ++ q)) (arrow-stops t (v ++ q) h)))
    (yields_then arrow_block_at _ (t ∷ v) q is _ (arrow-yields t is v q h y) (yields_returned (branch_of e is) q)))

-- the tokens of an arm, grouped to the right
arm-tokens : (u : List Token) (k : Token) (v x y : List Token) (a : Token) (z q : List Token)
    → (u ++ k ∷ (v ++ (x ++ (y ++ a ∷ z)))) ++ q ≡ u ++ k ∷ (v ++ (x ++ (y ++ a ∷ (z ++ q))))
arm-tokens u k v x y a z q =
    append_assoc u (k ∷ (v ++ (x ++ (y ++ a ∷ z)))) q
    ∙ ap (λ w. u ++ k ∷ w) (append_assoc v (x ++ (y ++ a ∷ z)) q ∙ ap (λ w. v ++ w) (append_assoc x (y ++ a ∷ z) q ∙ ap (λ w. x ++ w) (append_assoc y (a ∷ z) q)))

pub arm-yields : {ns : List Name} {m : Option Name} {c : Option ArmCondition} {order : Option Expr} {is : List BlockItem} (n o k a : Token) (u v x y z q : List Token)
    → IsName n → IsSign sign.OpenParen o → SpellsOptionalNames ns u → IsSign sign.CloseParen k → SpellsReturnedName m v → SpellsCondition c x → SpellsBy order y
    → IsSign sign.Arrow a → YieldsIn statement_readers block_at (z ++ q) (Ok (is, q))
    → YieldsIn statement_readers arm_at ((n ∷ o ∷ (u ++ k ∷ (v ++ (x ++ (y ++ a ∷ z))))) ++ q) (Ok (arm_of (name_of n) ns m c order is, q))
unfolding arm_at
arm-yields {ns = ns} {m = m} {c = c} {order = order} {is = is} n o k a u v x y z q h i d j e f g p b =
    let w = a ∷ (z ++ q) in
    let stops : Stops (y ++ a ∷ (z ++ q)) = by-stops g (a ∷ (z ++ q)) (arrow-stops a (z ++ q) p) in
    subst (λ w. YieldsIn statement_readers arm_at (n ∷ o ∷ w) (Ok (arm_of (name_of n) ns m c order is, q))) (sym (arm-tokens u k v x y a z q))
    (token_then name_at _ n (o ∷ (u ++ k ∷ (v ++ (x ++ (y ++ a ∷ (z ++ q)))))) (name_of n) _ (name-reads n (o ∷ (u ++ k ∷ (v ++ (x ++ (y ++ a ∷ (z ++ q)))))) h)
    (below_seq (λ r. enclosed_names_at r.types.expressions) _ (o ∷ (u ++ k ∷ (v ++ (x ++ (y ++ a ∷ (z ++ q)))))) (o ∷ (u ++ k ∷ [])) (v ++ (x ++ (y ++ a ∷ (z ++ q)))) ns _
    (ap (λ w. o ∷ w) (sym (append_assoc u (k ∷ []) (v ++ (x ++ (y ++ a ∷ (z ++ q)))))))
    (below _ (o ∷ (u ++ k ∷ (v ++ (x ++ (y ++ a ∷ (z ++ q)))))) _ (of-expressions enclosed_names_at (o ∷ (u ++ k ∷ (v ++ (x ++ (y ++ a ∷ (z ++ q)))))) _
    (complete-enclosed-names d o k (v ++ (x ++ (y ++ a ∷ (z ++ q)))) i j)))
    (below_then (λ r. returned_name_at) _ v (x ++ (y ++ a ∷ (z ++ q))) m _
    (below _ (v ++ (x ++ (y ++ a ∷ (z ++ q)))) _ (complete-returned-name e (x ++ (y ++ a ∷ (z ++ q)))
    (condition-first f (is_word word.Returns) false refl refl (y ++ a ∷ (z ++ q)) (by-first g (is_word word.Returns) false refl (a ∷ (z ++ q)) (ap (is_word word.Returns) p)))))
    (below_then (λ r. condition_at r.types.expressions) _ x (y ++ a ∷ (z ++ q)) c _
    (below _ (x ++ (y ++ a ∷ (z ++ q))) _ (of-expressions condition_at (x ++ (y ++ a ∷ (z ++ q))) _ (condition-yields f (y ++ a ∷ (z ++ q)) stops
    (by-first g (λ k. is_some (token_condition k)) false refl (a ∷ (z ++ q)) (ap (λ k. is_some (token_condition k)) p)))))
    (below_then (λ r. by_at r.types.expressions) _ y (a ∷ (z ++ q)) order _
    (below _ (y ++ a ∷ (z ++ q)) _ (of-expressions by_at (y ++ a ∷ (z ++ q)) _ (by-yields g (a ∷ (z ++ q)) (arrow-stops a (z ++ q) p) (ap (is_word word.By) p))))
    (below_then arrow_block_at _ (a ∷ z) q is _ (below arrow_block_at (a ∷ (z ++ q)) _ (arrow-yields a is z q p b)) (below_returned _ q)))))))

-- ---- arms of `co`

pub no-co-block : (q : List Token) → next_is (λ t. is_sign sign.Arrow t.kind) q ≡ false → YieldsIn statement_readers co_block_at q (Ok (None, q))
unfolding co_block_at
no-co-block q n = yields_unmet _ _ _ q _ n (yields_returned None q)

pub co-block-yields : {is : List BlockItem} (t : Token) (u q : List Token) → IsSign sign.Arrow t → YieldsIn statement_readers block_at (u ++ q) (Ok (is, q))
    → YieldsIn statement_readers co_block_at (t ∷ (u ++ q)) (Ok (Some is, q))
unfolding co_block_at
co-block-yields {is = is} t u q h y =
    yields_met _ _ _ (t ∷ (u ++ q)) _ (is_that_sign sign.Arrow t h)
    (yields_then arrow_block_at _ (t ∷ u) q is _ (arrow-yields t is u q h y) (yields_returned (Some is) q))

-- what may stand after an invocation of `co`
pub record AfterInvocation (q : List Token) : Type 0 where
  stops : Stops q
  assign : next_is (λ t. is_sign sign.Assign t.kind) q ≡ false

pub co-block-after : {m : Option (List BlockItem)} {z : List Token} → SpellsCoBlock m z → (q : List Token) → Ends q → AfterInvocation (z ++ q)
co-block-after s.no_co_block q e = record { stops = e.stops; assign = e.assign }
co-block-after (s.co_block {u = u} t h d) q e = record { stops = arrow-stops t (u ++ q) h; assign = ap (is_sign sign.Assign) h }

start-begins : {quantified : Bool} {e : Expr} {u : List Token} → SpellsCoStart quantified e u → (q : List Token) → next_is (λ t. begins_expr t.kind) (u ++ q) ≡ true
start-begins (s.begins_arm (s.named n h d)) q = primary-begins d q
start-begins (s.after_quantifiers d) q = primary-begins d q

named-is-no : {e : Expr} {u : List Token} → SpellsNamed e u → (f : TokenKind → Bool) (q : List Token) → next_is (λ t. f t.kind) (u ++ q) ≡ f kind.Name
named-is-no (s.named n h d) f q = ap f h

module _ {block : Option (List BlockItem)} (z q : List Token) (b : YieldsIn statement_readers co_block_at (z ++ q) (Ok (block, q))) (after : AfterInvocation (z ++ q)) where
  rest-yields : (span : Span) (qs : List Quantifier) (place : Option Expr) (with_call : Bool) (i : Invocation)
      → YieldsIn statement_readers (λ r. after_invocation_at r span qs place with_call i) (z ++ q) (Ok (co_arm_of span qs place with_call i block, q))
  unfolding after_invocation_at
  rest-yields span qs place with_call i = yields_then co_block_at _ z q block _ b (yields_returned (co_arm_of span qs place with_call i block) q)

  called-yields : {i : Invocation} (start : Option Span) (qs : List Quantifier) (place : Option Expr) (t : Token) (y : List Token) → IsWord word.Call t → SpellsInvocation i y
      → YieldsIn statement_readers (λ r. co_called_at r start qs place) (t ∷ (y ++ (z ++ q))) (Ok (co_arm_of (first_of start t.span) qs place true i block, q))
  unfolding co_called_at
  called-yields {i = i} start qs place t y h d =
      token_then (word_at word.Call) _ t (y ++ (z ++ q)) t.span _ (word-reads word.Call t (y ++ (z ++ q)) h)
      (below_then (λ r. invocation_at r.types.expressions) _ y (z ++ q) i _
      (below _ (y ++ (z ++ q)) _ (of-expressions invocation_at (y ++ (z ++ q)) _ (invocation-yields d (z ++ q) (stops-continued (z ++ q) after.stops))))
      (below _ (z ++ q) _ (rest-yields (first_of start t.span) qs place true i)))

  target-yields : {with_call : Bool} {i : Invocation} (span : Span) (qs : List Quantifier) (place : Expr) (x y : List Token) → SpellsCallWord with_call x → SpellsInvocation i y
      → YieldsIn statement_readers (λ r. after_target_at r span qs place) (x ++ (y ++ (z ++ q))) (Ok (co_arm_of span qs (Some place) with_call i block, q))
  unfolding after_target_at
  target-yields span qs place x y (s.call_word t h) d =
      yields_met _ _ _ (t ∷ (y ++ (z ++ q))) _ (is_that_word word.Call t h) (called-yields (Some span) qs (Some place) t y h d)
  target-yields {i = i} span qs place x y s.no_call_word (s.invocation d) =
      yields_unmet _ _ _ (y ++ (z ++ q)) _ (begins-no-word word.Call (y ++ (z ++ q)) refl (primary-begins d (z ++ q)))
      (yields_then (λ r. invocation_at r.types.expressions) _ y (z ++ q) i _
      (of-expressions invocation_at (y ++ (z ++ q)) _ (invocation-yields (s.invocation d) (z ++ q) (stops-continued (z ++ q) after.stops)))
      (rest-yields span qs (Some place) false i))

  plain-yields : {i : Invocation} (start : Option Span) (qs : List Quantifier) (u : List Token) → SpellsCoStart (is_some start) (expr.Call i) u
      → YieldsIn statement_readers (λ r. co_primary_at r start qs) (u ++ (z ++ q)) (Ok (co_arm_of (first_of start (expr_span (expr.Call i))) qs None false i block, q))
  unfolding co_primary_at
  plain-yields {i = i} start qs u d =
      yields_then (λ r. co_start_at start r.types.expressions) _ u (z ++ q) (expr.Call i) _
      (of-expressions (co_start_at start) (u ++ (z ++ q)) _ (start-yields start d (z ++ q) (stops-continued (z ++ q) after.stops)))
      (yields_unmet _ _ _ (z ++ q) _ after.assign
      (yields_then (λ r. invoked_at (invocation_of (expr.Call i))) _ [] (z ++ q) i _ (invoked-yields i (z ++ q))
      (rest-yields (first_of start (expr_span (expr.Call i))) qs None false i)))

  stored-yields : {e : Expr} {with_call : Bool} {i : Invocation} (start : Option Span) (qs : List Quantifier) (a : Token) (u x y : List Token)
      → SpellsCoStart (is_some start) e u → IsSign sign.Assign a → SpellsCallWord with_call x → SpellsInvocation i y
      → YieldsIn statement_readers (λ r. co_primary_at r start qs) (u ++ a ∷ (x ++ (y ++ (z ++ q))))
      (Ok (co_arm_of (first_of start (expr_span e)) qs (Some e) with_call i block, q))
  unfolding co_primary_at
  stored-yields {e = e} start qs a u x y d h called j =
      yields_then (λ r. co_start_at start r.types.expressions) _ u (a ∷ (x ++ (y ++ (z ++ q)))) e _
      (of-expressions (co_start_at start) (u ++ a ∷ (x ++ (y ++ (z ++ q)))) _ (start-yields start d (a ∷ (x ++ (y ++ (z ++ q))))
      (stops-continued (a ∷ (x ++ (y ++ (z ++ q)))) (token-stops a (x ++ (y ++ (z ++ q))) (ap continues_expr h)))))
      (yields_met _ _ _ (a ∷ (x ++ (y ++ (z ++ q)))) _ (is_that_sign sign.Assign a h)
      (token_then (sign_at sign.Assign) _ a (x ++ (y ++ (z ++ q))) a.span _ (sign-reads sign.Assign a (x ++ (y ++ (z ++ q))) h)
      (below _ (x ++ (y ++ (z ++ q))) _ (target-yields (first_of start (expr_span e)) qs e x y called j))))

  pub after-quantifiers-yields : {place : Option Expr} {with_call : Bool} {i : Invocation} {u : List Token} (start : Option Span) (qs : List Quantifier)
      → SpellsCoCall (is_some start) place with_call i u
      → YieldsIn statement_readers (λ r. after_quantifiers_at r start qs) (u ++ (z ++ q))
      (Ok (co_arm_of (first_of start (first_span u)) qs place with_call i block, q))
  unfolding after_quantifiers_at
  after-quantifiers-yields start qs (s.called {u = y} t h d) =
      yields_met _ _ _ (t ∷ (y ++ (z ++ q))) _ (is_that_word word.Call t h) (called-yields start qs None t y h d)
  after-quantifiers-yields start qs (s.plain {i = i} {u = u} d) =
      subst (λ span. YieldsIn statement_readers (λ r. after_quantifiers_at r start qs) (u ++ (z ++ q)) (Ok (co_arm_of (first_of start span) qs None false i block, q))) (start-alone d)
      (yields_unmet _ _ _ (u ++ (z ++ q)) _ (begins-no-word word.Call (u ++ (z ++ q)) refl (start-begins d (z ++ q))) (plain-yields start qs u d))
  after-quantifiers-yields start qs (s.stored {e = e} {with_call = c} {i = i} {u = u} {v = x} {w = y} a d h called j) =
      subst (λ w. YieldsIn statement_readers (λ r. after_quantifiers_at r start qs) w
      (Ok (co_arm_of (first_of start (first_span (u ++ a ∷ (x ++ y)))) qs (Some e) c i block, q))) (sym (stored-tokens u a x y (z ++ q)))
      (subst (λ span. YieldsIn statement_readers (λ r. after_quantifiers_at r start qs) (u ++ a ∷ (x ++ (y ++ (z ++ q))))
      (Ok (co_arm_of (first_of start span) qs (Some e) c i block, q))) (start-span d (a ∷ (x ++ y)))
      (yields_unmet _ _ _ (u ++ a ∷ (x ++ (y ++ (z ++ q)))) _
      (begins-no-word word.Call (u ++ a ∷ (x ++ (y ++ (z ++ q)))) refl (start-begins d (a ∷ (x ++ (y ++ (z ++ q))))))
      (stored-yields start qs a u x y d h called j)))

-- an arm begins with a parenthesis only where its quantifiers do
pub no-paren : {place : Option Expr} {with_call : Bool} {i : Invocation} {u : List Token} → SpellsCoCall false place with_call i u
    → (w : List Token) → next_is (λ t. is_sign sign.OpenParen t.kind) (u ++ w) ≡ false
no-paren (s.plain (s.begins_arm d)) w = named-is-no d (is_sign sign.OpenParen) w
no-paren (s.called t h d) w = ap (is_sign sign.OpenParen) h
no-paren (s.stored {u = u} {v = x} {w = y} a (s.begins_arm d) h c i) w =
    ap (next_is (λ t. is_sign sign.OpenParen t.kind)) (append_assoc u (a ∷ (x ++ y)) w) ∙ named-is-no d (is_sign sign.OpenParen) (a ∷ ((x ++ y) ++ w))

-- ---- statements

-- the words of the statements that are read first, and of those read next
abbrev pub is_first : Word → Bool
is_first word.Skip = true
is_first word.Exit = true
is_first word.Next = true
is_first word.Return = true
is_first word.Reply = true
is_first word.Stop = true
is_first _ = false

abbrev pub is_second : Word → Bool
is_second word.Call = true
is_second word.Send = true
is_second word.Forward = true
is_second word.Receive = true
is_second word.Destroy = true
is_second word.Create = true
is_second _ = false

differ : true ≡ false → ⊥
differ e = cc

-- a word outside a set is none of it
not-of : (set : Word → Bool) (t : Token) (w v : Word) → IsWord w t → set w ≡ false → set v ≡ true → is_word v t.kind ≡ false
not-of set t w v h n i = go (is_word v t.kind) refl
  where
    same : kind.Word w ≡ kind.Word v → w ≡ v
    same e = cc

    go : (b : Bool) → is_word v t.kind ≡ b → b ≡ false
    go true e = absurd (differ (sym i ∙ ap set (sym (same (sym h ∙ kind_of_word v t.kind e))) ∙ n))
    go false e = refl

module _ (t : Token) (q : List Token) (z : Result (Statement × List Token) ℕ) (w : Word) (h : IsWord w t) where
  pub worded-yields : YieldsIn statement_readers worded_statement_at (t ∷ q) z → YieldsIn statement_readers statement_at (t ∷ q) z
  unfolding statement_at
  worded-yields y = yields_unmet (λ t. is_name t.kind) _ worded_statement_at (t ∷ q) z (ap is_name h) y

  pub operating-yields : is_first w ≡ false → YieldsIn statement_readers operating_statement_at (t ∷ q) z → YieldsIn statement_readers statement_at (t ∷ q) z
  unfolding worded_statement_at
  operating-yields n y = worded-yields
      (yields_unmet _ (λ r. _) _ (t ∷ q) z (not-of is_first t w word.Skip h n refl)
      (yields_unmet _ (λ r. _) _ (t ∷ q) z (not-of is_first t w word.Exit h n refl)
      (yields_unmet _ (λ r. _) _ (t ∷ q) z (not-of is_first t w word.Next h n refl)
      (yields_unmet _ (λ r. _) _ (t ∷ q) z (not-of is_first t w word.Return h n refl)
      (yields_unmet _ (λ r. _) _ (t ∷ q) z (not-of is_first t w word.Reply h n refl)
      (yields_unmet _ _ operating_statement_at (t ∷ q) z (not-of is_first t w word.Stop h n refl) y))))))

  pub closed-yields : is_first w ≡ false → is_second w ≡ false → YieldsIn statement_readers closed_statement_at (t ∷ q) z → YieldsIn statement_readers statement_at (t ∷ q) z
  unfolding operating_statement_at
  closed-yields n m y = operating-yields n
      (yields_unmet _ _ _ (t ∷ q) z (not-of is_second t w word.Call h m refl)
      (yields_unmet _ _ _ (t ∷ q) z (not-of is_second t w word.Send h m refl)
      (yields_unmet _ _ _ (t ∷ q) z (not-of is_second t w word.Forward h m refl)
      (yields_unmet _ _ _ (t ∷ q) z (not-of is_second t w word.Receive h m refl)
      (yields_unmet _ _ _ (t ∷ q) z (not-of is_second t w word.Destroy h m refl)
      (yields_unmet _ _ closed_statement_at (t ∷ q) z (not-of is_second t w word.Create h m refl) y))))))

pub single-yields : (w : Word) (f : Span → Statement) (t : Token) (q : List Token) → IsWord w t → YieldsIn statement_readers (λ r. single_at w f) (t ∷ q) (Ok (f t.span, q))
unfolding single_at
single-yields w f t q h = token_then (word_at w) (λ r x. returned (f x)) t q t.span _ (word-reads w t q h) (below_returned (f t.span) q)

-- a statement with a word, something and nothing more
pub word-then : {A : Type 0} (w : Word) (f : StatementReaders → Reader Token A) (make : Span → A → Statement) (a : A) (t : Token) (u q : List Token) → IsWord w t
    → YieldsIn statement_readers f (u ++ q) (Ok (a, q))
    → YieldsIn statement_readers (λ r. word_at w >>= (λ span. f r >>= (λ x. returned (make span x)))) (t ∷ (u ++ q)) (Ok (make t.span a, q))
word-then w f make a t u q h y =
    token_then (word_at w) _ t (u ++ q) t.span _ (word-reads w t (u ++ q) h)
    (below_then f _ u q a _ (below f (u ++ q) _ y) (below_returned (make t.span a) q))

-- a statement with a word, something and a closing word
pub word-between : {A : Type 0} (w v : Word) (f : StatementReaders → Reader Token A) (make : Span → A → Statement) (a : A) (t c : Token) (u q : List Token) → IsWord w t
    → IsWord v c → YieldsIn statement_readers f (u ++ c ∷ q) (Ok (a, c ∷ q))
    → YieldsIn statement_readers (λ r. word_at w >>= (λ span. f r >>= (λ x. word_at v >>= (λ closing. returned (make span x))))) (t ∷ (u ++ c ∷ q)) (Ok (make t.span a, q))
word-between w v f make a t c u q h i y =
    token_then (word_at w) _ t (u ++ c ∷ q) t.span _ (word-reads w t (u ++ c ∷ q) h)
    (below_then f _ u (c ∷ q) a _ (below f (u ++ c ∷ q) _ y)
    (below_token (word_at v) _ c q c.span _ (word-reads v c q i) (below_returned (make t.span a) q)))

-- a statement that begins with a name
pub primary-then : {a : Expr} {u : List Token} → SpellsNamed a u → (q : List Token) (z : Result (Statement × List Token) ℕ) → next_is continues q ≡ false
    → YieldsIn statement_readers (λ r. after_primary_at r.types.expressions a) q z → YieldsIn statement_readers statement_at (u ++ q) z
unfolding statement_at named_statement_at
primary-then {a = a} (s.named {u = u} n h d) q z c y =
    yields_met (λ t. is_name t.kind) (λ r. named_statement_at r.types.expressions) worded_statement_at (n ∷ (u ++ q)) z (ap is_name h)
    (yields_then (λ r. primary_at r.types.expressions) _ (n ∷ u) q a z (of-expressions primary_at (n ∷ (u ++ q)) _ (primary-yields d q c)) y)

pub assign-after : {e : Expr} (a : Expr) (t : Token) (v q : List Token) → IsSign sign.Assign t → SpellsExpr 5 e v → Stops q
    → YieldsIn statement_readers (λ r. after_primary_at r.types.expressions a) (t ∷ (v ++ q)) (Ok (statement.Assign (expr_span a) a e, q))
unfolding after_primary_at assign_at
assign-after {e = e} a t v q h d st =
    yields_met _ _ _ (t ∷ (v ++ q)) _ (is_that_sign sign.Assign t h)
    (token_then (sign_at sign.Assign) _ t (v ++ q) t.span _ (sign-reads sign.Assign t (v ++ q) h)
    (below_then (λ r. operand_at r.types.expressions 5) _ v q e _ (below _ (v ++ q) _ (of-expressions (λ r. operand_at r 5) (v ++ q) _ (complete-operand d q st)))
    (below_returned (statement.Assign (expr_span a) a e) q)))

pub exchange-after : {e : Expr} (a : Expr) (t : Token) (v q : List Token) → IsSign sign.Exchange t → SpellsPrimary e v → next_is continues q ≡ false
    → YieldsIn statement_readers (λ r. after_primary_at r.types.expressions a) (t ∷ (v ++ q)) (Ok (statement.Exchange (expr_span a) a e, q))
unfolding after_primary_at exchange_at
exchange-after {e = e} a t v q h d c =
    yields_unmet _ _ _ (t ∷ (v ++ q)) _ (ap (is_sign sign.Assign) h)
    (yields_met _ _ _ (t ∷ (v ++ q)) _ (is_that_sign sign.Exchange t h)
    (token_then (sign_at sign.Exchange) _ t (v ++ q) t.span _ (sign-reads sign.Exchange t (v ++ q) h)
    (below_then (λ r. primary_at r.types.expressions) _ v q e _ (below _ (v ++ q) _ (of-expressions primary_at (v ++ q) _ (primary-yields d q c)))
    (below_returned (statement.Exchange (expr_span a) a e) q))))

pub increment-after : (a : Expr) (t : Token) (q : List Token) → IsSign sign.Increment t
    → YieldsIn statement_readers (λ r. after_primary_at r.types.expressions a) (t ∷ q) (Ok (statement.Increment (expr_span a) a, q))
unfolding after_primary_at increment_at
increment-after a t q h =
    yields_unmet _ _ _ (t ∷ q) _ (ap (is_sign sign.Assign) h)
    (yields_unmet _ _ _ (t ∷ q) _ (ap (is_sign sign.Exchange) h)
    (yields_met _ (λ r. _) (λ r. _) (t ∷ q) _ (is_that_sign sign.Increment t h)
    (token_then (sign_at sign.Increment) _ t q t.span _ (sign-reads sign.Increment t q h) (below_returned (statement.Increment (expr_span a) a) q))))

pub decrement-after : (a : Expr) (t : Token) (q : List Token) → IsSign sign.Decrement t
    → YieldsIn statement_readers (λ r. after_primary_at r.types.expressions a) (t ∷ q) (Ok (statement.Decrement (expr_span a) a, q))
unfolding after_primary_at decrement_at
decrement-after a t q h =
    yields_unmet _ _ _ (t ∷ q) _ (ap (is_sign sign.Assign) h)
    (yields_unmet _ _ _ (t ∷ q) _ (ap (is_sign sign.Exchange) h)
    (yields_unmet _ (λ r. _) (λ r. _) (t ∷ q) _ (ap (is_sign sign.Increment) h)
    (yields_met _ (λ r. _) (λ r. _) (t ∷ q) _ (is_that_sign sign.Decrement t h)
    (token_then (sign_at sign.Decrement) _ t q t.span _ (sign-reads sign.Decrement t q h) (below_returned (statement.Decrement (expr_span a) a) q)))))

pub call-after : (i : Invocation) (q : List Token) → Ends q
    → YieldsIn statement_readers (λ r. after_primary_at r.types.expressions (expr.Call i)) q (Ok (statement.Call (expr_span (expr.Call i)) false i, q))
unfolding after_primary_at plain_call_at
call-after i q e =
    yields_unmet _ _ _ q _ e.assign
    (yields_unmet _ _ _ q _ e.exchange
    (yields_unmet _ (λ r. _) (λ r. _) q _ e.increment
    (yields_unmet _ (λ r. _) (λ r. _) q _ e.decrement
    (yields_then (λ r. invoked_at (invocation_of (expr.Call i))) (λ r x. returned (statement.Call (expr_span (expr.Call i)) false x)) [] q i _ (invoked-yields i q)
    (yields_returned (statement.Call (expr_span (expr.Call i)) false i) q)))))
