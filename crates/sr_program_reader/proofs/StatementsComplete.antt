-- What is spelled as a statement or a block is read, where the token after it continues nothing.
use Rattle.std.proofs.Common.{◌≡◌, refl, sym, ◌∙◌, ap, subst, Bool, true, false, List, [], ◌∷◌, ◌++◌, Option, Some, None, Ok, append_assoc}
use Rattle.sr_reader.specs.Reader.{◌>>=◌, next_is}
use Rattle.sr_tree.specs.declared.declaration.ConstDecl.{ConstDecl}
use Rattle.sr_tree.specs.declared.declaration.VarDecl.{VarDecl}
use Rattle.sr_tree.specs.declared.expr.Create.{Create}
use Rattle.sr_tree.specs.declared.expr.Expr.{Expr}
use Rattle.sr_tree.specs.declared.expr.Expr.TheVariants as expr
use Rattle.sr_tree.specs.declared.expr.Invocation.{Invocation}
use Rattle.sr_tree.specs.declared.statement.Arm.{Arm}
use Rattle.sr_tree.specs.declared.statement.BlockItem.{BlockItem}
use Rattle.sr_tree.specs.declared.statement.BlockItem.TheVariants as item
use Rattle.sr_tree.specs.declared.statement.Branch.{Branch}
use Rattle.sr_tree.specs.declared.statement.CoArm.{CoArm}
use Rattle.sr_tree.specs.declared.statement.Quantifier.{Quantifier}
use Rattle.sr_tree.specs.declared.statement.Statement.{Statement}
use Rattle.sr_tree.specs.declared.statement.Statement.TheVariants as statement
use Rattle.sr_tree.specs.declared.token.Sign.TheVariants as sign
use Rattle.sr_tree.specs.declared.token.Token.{Token}
use Rattle.sr_tree.specs.declared.token.TokenKind.TheVariants as kind
use Rattle.sr_tree.specs.declared.token.Word.{Word}
use Rattle.sr_tree.specs.declared.token.Word.TheVariants as word
use Rattle.sr_tree.specs.Components as c
use Rattle.sr_tree.specs.Components.{SpellsList}
use Rattle.sr_tree.specs.Declarations.{SpellsConst, SpellsVar}
use Rattle.sr_tree.specs.Expressions as g
use Rattle.sr_tree.specs.Expressions.{SpellsPrimary, SpellsCreate, expr_span, create_span}
use Rattle.sr_tree.specs.Statements as s
use Rattle.sr_tree.specs.Statements.{SpellsInvocation, SpellsStatus, SpellsPlaces, SpellsQuantifiers, SpellsNamed, SpellsCoCall, SpellsStatement, SpellsBranch, SpellsMoreBranches, SpellsOtherwise, SpellsArm, SpellsMoreArms, SpellsCoBlock, SpellsCoArm, SpellsMoreCoArms, SpellsBlockItem, SpellsItems, SpellsBlock, first_span}
use Rattle.sr_tree.specs.Tables.{IsSign, IsWord, IsName, name_of}
use Rattle.sr_tree.specs.Tests.{is_sign, is_word}
use Rattle.sr_expr_reader.specs.Readers.{create_at, primary_at}
use Rattle.sr_tree.specs.Tokens.{word_at, name_at}
use Rattle.sr_expr_reader.proofs.ExpressionEdges.{continues_expr, token-stops, expr-begins, begins-no-word}
use Rattle.sr_expr_reader.proofs.ExpressionsComplete.{complete-create}
use Rattle.sr_expr_reader.proofs.Families.{YieldsIn, below, token_then, below_token, below_then, below_seq, yields_then, below_returned, yields_returned, yields_met, yields_unmet, loop_within}
use Rattle.sr_expr_reader.proofs.Quiet.{QuietExpr, QuietCreate, stops-quiet}
use Rattle.sr_expr_reader.proofs.TokensSound.{kind_of_word}
use Rattle.sr_expr_reader.proofs.TokensComplete.{Stops, is_that_sign, is_that_word, word-reads, name-reads, stops-continued}
use Rattle.sr_expr_reader.proofs.Yields.{steps-readers}
use Rattle.sr_program_reader.specs.DeclarationReaders.{const_at, var_at}
use Rattle.sr_program_reader.specs.StatementReaders.{statement_readers, begins_statement, begins_block_item, invocation_at, status_at, places_at, quantifiers_at, enclosed_quantifiers_at, after_quantifiers_at, arrow_block_at, branch_at, branches_at, arm_at, arms_at, co_block_at, co_arm_at, next_co_arm_at, more_co_arms_at, stop_at, call_statement_at, send_at, forward_at, receive_at, destroy_at, create_statement_at, if_at, do_at, for_all_at, in_at, co_at, closed_statement_at, operating_statement_at, worded_statement_at, statement_at, block_item_at, block_at}
use Rattle.sr_program_reader.proofs.DeclarationStarts.{begins-test, const-begins, var-begins}
use Rattle.sr_program_reader.proofs.DeclarationsComplete.{Rests, complete-const, complete-var}
use Rattle.sr_program_reader.proofs.Lists.{IsItem, list-complete}
use Rattle.sr_program_reader.proofs.Separated.{Separated, none_after, one_after, Complete, is_next_sign, one_more, separated-end, separated-complete}
use Rattle.sr_program_reader.proofs.StatementEnds.{Ends, closes, separator-ends, item-separator, arrow-stops}
use Rattle.sr_program_reader.proofs.StatementPartsComplete.{primary-yields, invocation-yields, status-yields, places-yields, complete-quantifiers, enclosed-quantifiers-yields}
use Rattle.sr_program_reader.proofs.StatementPieces.{of-expressions, of-types, BlockEnds, closing-block, arrow-yields, CompleteAlternative, CompleteOtherwise, nothing_otherwise, block_otherwise, alternatives-yields, branch-yields, arm-yields, no-co-block, co-block-yields, co-block-after, AfterInvocation, after-quantifiers-yields, no-paren, worded-yields, operating-yields, closed-yields, single-yields, word-then, word-between, primary-then, assign-after, exchange-after, increment-after, decrement-after, call-after}
use Rattle.sr_program_reader.proofs.StatementsSound.{co_arm_of, three}
use Rattle.sr_program_reader.proofs.StatementStarts.{statement-begins, item-begins}

-- what ends a statement ends a declaration
pub ends-rest : (q : List Token) → Ends q → Rests q
ends-rest q e = record {
  stops = e.stops;
  types = record { point = e.stops.point; brace = e.brace; returns = e.returns };
  comma = e.comma;
  colon = e.colon;
  assign = e.assign;
}

-- a statement begins with no other word
no-other : (w : Word) → begins_statement (kind.Word w) ≡ false → (q : List Token) → next_is (λ t. begins_statement t.kind) q ≡ true → next_is (λ t. is_word w t.kind) q ≡ false
no-other w n [] h = refl
no-other w n (t ∷ q) h = go (is_word w t.kind) refl
  where
    differ : true ≡ false → ⊥
    differ e = cc

    go : (b : Bool) → is_word w t.kind ≡ b → b ≡ false
    go true e = absurd (differ (sym h ∙ ap begins_statement (kind_of_word w t.kind e) ∙ n))
    go false e = refl

-- ---- statements that are spelled out of parts that are no statements

stop-yields : {m : Option Expr} {u : List Token} (t : Token) → IsWord word.Stop t → SpellsStatus m u → (q : List Token) → Ends q
    → YieldsIn statement_readers statement_at (t ∷ (u ++ q)) (Ok (statement.Stop t.span m, q))
unfolding worded_statement_at stop_at
stop-yields {m = m} {u = u} t h d q e = worded-yields t (u ++ q) _ word.Stop h
    (yields_unmet _ (λ r. _) _ (t ∷ (u ++ q)) _ (ap (is_word word.Skip) h)
    (yields_unmet _ (λ r. _) _ (t ∷ (u ++ q)) _ (ap (is_word word.Exit) h)
    (yields_unmet _ (λ r. _) _ (t ∷ (u ++ q)) _ (ap (is_word word.Next) h)
    (yields_unmet _ (λ r. _) _ (t ∷ (u ++ q)) _ (ap (is_word word.Return) h)
    (yields_unmet _ (λ r. _) _ (t ∷ (u ++ q)) _ (ap (is_word word.Reply) h)
    (yields_met _ _ operating_statement_at (t ∷ (u ++ q)) _ (is_that_word word.Stop t h)
    (word-then word.Stop (λ r. status_at r.types.expressions) statement.Stop m t u q h
    (of-expressions status_at (u ++ q) _ (status-yields d q e.stops.paren)))))))))

skip-yields : (t : Token) → IsWord word.Skip t → (q : List Token) → YieldsIn statement_readers statement_at (t ∷ q) (Ok (statement.Skip t.span, q))
unfolding worded_statement_at
skip-yields t h q = worded-yields t q _ word.Skip h (yields_met _ (λ r. _) _ (t ∷ q) _ (is_that_word word.Skip t h) (single-yields word.Skip statement.Skip t q h))

exit-yields : (t : Token) → IsWord word.Exit t → (q : List Token) → YieldsIn statement_readers statement_at (t ∷ q) (Ok (statement.Exit t.span, q))
unfolding worded_statement_at
exit-yields t h q = worded-yields t q _ word.Exit h
    (yields_unmet _ (λ r. _) _ (t ∷ q) _ (ap (is_word word.Skip) h)
    (yields_met _ (λ r. _) _ (t ∷ q) _ (is_that_word word.Exit t h) (single-yields word.Exit statement.Exit t q h)))

next-yields : (t : Token) → IsWord word.Next t → (q : List Token) → YieldsIn statement_readers statement_at (t ∷ q) (Ok (statement.Next t.span, q))
unfolding worded_statement_at
next-yields t h q = worded-yields t q _ word.Next h
    (yields_unmet _ (λ r. _) _ (t ∷ q) _ (ap (is_word word.Skip) h)
    (yields_unmet _ (λ r. _) _ (t ∷ q) _ (ap (is_word word.Exit) h)
    (yields_met _ (λ r. _) _ (t ∷ q) _ (is_that_word word.Next t h) (single-yields word.Next statement.Next t q h))))

return-yields : (t : Token) → IsWord word.Return t → (q : List Token) → YieldsIn statement_readers statement_at (t ∷ q) (Ok (statement.Return t.span, q))
unfolding worded_statement_at
return-yields t h q = worded-yields t q _ word.Return h
    (yields_unmet _ (λ r. _) _ (t ∷ q) _ (ap (is_word word.Skip) h)
    (yields_unmet _ (λ r. _) _ (t ∷ q) _ (ap (is_word word.Exit) h)
    (yields_unmet _ (λ r. _) _ (t ∷ q) _ (ap (is_word word.Next) h)
    (yields_met _ (λ r. _) _ (t ∷ q) _ (is_that_word word.Return t h) (single-yields word.Return statement.Return t q h)))))

reply-yields : (t : Token) → IsWord word.Reply t → (q : List Token) → YieldsIn statement_readers statement_at (t ∷ q) (Ok (statement.Reply t.span, q))
unfolding worded_statement_at
reply-yields t h q = worded-yields t q _ word.Reply h
    (yields_unmet _ (λ r. _) _ (t ∷ q) _ (ap (is_word word.Skip) h)
    (yields_unmet _ (λ r. _) _ (t ∷ q) _ (ap (is_word word.Exit) h)
    (yields_unmet _ (λ r. _) _ (t ∷ q) _ (ap (is_word word.Next) h)
    (yields_unmet _ (λ r. _) _ (t ∷ q) _ (ap (is_word word.Return) h)
    (yields_met _ (λ r. _) _ (t ∷ q) _ (is_that_word word.Reply t h) (single-yields word.Reply statement.Reply t q h))))))

called-yields : {i : Invocation} {u : List Token} (t : Token) → IsWord word.Call t → SpellsInvocation i u → (q : List Token) → Ends q
    → YieldsIn statement_readers statement_at (t ∷ (u ++ q)) (Ok (statement.Call t.span true i, q))
unfolding operating_statement_at call_statement_at
called-yields {i = i} {u = u} t h d q e = operating-yields t (u ++ q) _ word.Call h refl
    (yields_met _ _ _ (t ∷ (u ++ q)) _ (is_that_word word.Call t h)
    (word-then word.Call (λ r. invocation_at r.types.expressions) (λ span x. statement.Call span true x) i t u q h
    (of-expressions invocation_at (u ++ q) _ (invocation-yields d q (stops-continued q e.stops)))))

send-yields : {i : Invocation} {u : List Token} (t : Token) → IsWord word.Send t → SpellsInvocation i u → (q : List Token) → Ends q
    → YieldsIn statement_readers statement_at (t ∷ (u ++ q)) (Ok (statement.Send t.span i, q))
unfolding operating_statement_at send_at
send-yields {i = i} {u = u} t h d q e = operating-yields t (u ++ q) _ word.Send h refl
    (yields_unmet _ _ _ (t ∷ (u ++ q)) _ (ap (is_word word.Call) h)
    (yields_met _ _ _ (t ∷ (u ++ q)) _ (is_that_word word.Send t h)
    (word-then word.Send (λ r. invocation_at r.types.expressions) statement.Send i t u q h
    (of-expressions invocation_at (u ++ q) _ (invocation-yields d q (stops-continued q e.stops))))))

forward-yields : {i : Invocation} {u : List Token} (t : Token) → IsWord word.Forward t → SpellsInvocation i u → (q : List Token) → Ends q
    → YieldsIn statement_readers statement_at (t ∷ (u ++ q)) (Ok (statement.Forward t.span i, q))
unfolding operating_statement_at forward_at
forward-yields {i = i} {u = u} t h d q e = operating-yields t (u ++ q) _ word.Forward h refl
    (yields_unmet _ _ _ (t ∷ (u ++ q)) _ (ap (is_word word.Call) h)
    (yields_unmet _ _ _ (t ∷ (u ++ q)) _ (ap (is_word word.Send) h)
    (yields_met _ _ _ (t ∷ (u ++ q)) _ (is_that_word word.Forward t h)
    (word-then word.Forward (λ r. invocation_at r.types.expressions) statement.Forward i t u q h
    (of-expressions invocation_at (u ++ q) _ (invocation-yields d q (stops-continued q e.stops)))))))

receive-yields : {es : List Expr} {u : List Token} (t n o k : Token) → IsWord word.Receive t → IsName n → IsSign sign.OpenParen o → SpellsPlaces es u → IsSign sign.CloseParen k
    → (q : List Token) → YieldsIn statement_readers statement_at (t ∷ n ∷ o ∷ ((u ++ k ∷ []) ++ q)) (Ok (statement.Receive t.span (name_of n) es, q))
unfolding operating_statement_at receive_at
receive-yields {es = es} {u = u} t n o k h i j d l q =
    subst (λ w. YieldsIn statement_readers statement_at (t ∷ n ∷ o ∷ w) (Ok (statement.Receive t.span (name_of n) es, q))) (sym (append_assoc u (k ∷ []) q))
    (operating-yields t (n ∷ o ∷ (u ++ k ∷ q)) _ word.Receive h refl
    (yields_unmet _ _ _ (t ∷ n ∷ o ∷ (u ++ k ∷ q)) _ (ap (is_word word.Call) h)
    (yields_unmet _ _ _ (t ∷ n ∷ o ∷ (u ++ k ∷ q)) _ (ap (is_word word.Send) h)
    (yields_unmet _ _ _ (t ∷ n ∷ o ∷ (u ++ k ∷ q)) _ (ap (is_word word.Forward) h)
    (yields_met _ _ _ (t ∷ n ∷ o ∷ (u ++ k ∷ q)) _ (is_that_word word.Receive t h)
    (token_then (word_at word.Receive) _ t (n ∷ o ∷ (u ++ k ∷ q)) t.span _ (word-reads word.Receive t (n ∷ o ∷ (u ++ k ∷ q)) h)
    (below_token name_at _ n (o ∷ (u ++ k ∷ q)) (name_of n) _ (name-reads n (o ∷ (u ++ k ∷ q)) i)
    (below_seq (λ r. places_at r.types.expressions) _ (o ∷ (u ++ k ∷ q)) (o ∷ (u ++ k ∷ [])) q es _ (ap (λ w. o ∷ w) (sym (append_assoc u (k ∷ []) q)))
    (below _ (o ∷ (u ++ k ∷ q)) _ (of-expressions places_at (o ∷ (u ++ k ∷ q)) _ (places-yields d o k q j l)))
    (below_returned (statement.Receive t.span (name_of n) es) q)))))))))

destroy-yields : {e : Expr} {u : List Token} (t : Token) → IsWord word.Destroy t → SpellsPrimary e u → (q : List Token) → Ends q
    → YieldsIn statement_readers statement_at (t ∷ (u ++ q)) (Ok (statement.Destroy t.span e, q))
unfolding operating_statement_at destroy_at
destroy-yields {e = e} {u = u} t h d q end = operating-yields t (u ++ q) _ word.Destroy h refl
    (yields_unmet _ _ _ (t ∷ (u ++ q)) _ (ap (is_word word.Call) h)
    (yields_unmet _ _ _ (t ∷ (u ++ q)) _ (ap (is_word word.Send) h)
    (yields_unmet _ _ _ (t ∷ (u ++ q)) _ (ap (is_word word.Forward) h)
    (yields_unmet _ _ _ (t ∷ (u ++ q)) _ (ap (is_word word.Receive) h)
    (yields_met _ _ _ (t ∷ (u ++ q)) _ (is_that_word word.Destroy t h)
    (word-then word.Destroy (λ r. primary_at r.types.expressions) statement.Destroy e t u q h
    (of-expressions primary_at (u ++ q) _ (primary-yields d q (stops-continued q end.stops)))))))))

created-yields : {d : Create} (t : Token) (u q : List Token) → IsWord word.Create t → YieldsIn statement_readers (λ r. create_at r.types.expressions) (t ∷ (u ++ q)) (Ok (d, q))
    → YieldsIn statement_readers statement_at (t ∷ (u ++ q)) (Ok (statement.Create (create_span d) d, q))
unfolding operating_statement_at create_statement_at
created-yields {d = d} t u q h y = operating-yields t (u ++ q) _ word.Create h refl
    (yields_unmet _ _ _ (t ∷ (u ++ q)) _ (ap (is_word word.Call) h)
    (yields_unmet _ _ _ (t ∷ (u ++ q)) _ (ap (is_word word.Send) h)
    (yields_unmet _ _ _ (t ∷ (u ++ q)) _ (ap (is_word word.Forward) h)
    (yields_unmet _ _ _ (t ∷ (u ++ q)) _ (ap (is_word word.Receive) h)
    (yields_unmet _ _ _ (t ∷ (u ++ q)) _ (ap (is_word word.Destroy) h)
    (yields_met _ _ closed_statement_at (t ∷ (u ++ q)) _ (is_that_word word.Create t h)
    (yields_then (λ r. create_at r.types.expressions) _ (t ∷ u) q d _ y (yields_returned (statement.Create (create_span d) d) q))))))))

create-quiet : {d : Create} {u : List Token} (x : SpellsCreate d u) (q : List Token) → Stops q → QuietCreate x q
unfolding QuietExpr
create-quiet x q st = stops-quiet (g.factor {level = 0} (g.creates x)) q st

create-yields : {d : Create} {u : List Token} → SpellsCreate d u → (q : List Token) → Ends q
    → YieldsIn statement_readers statement_at (u ++ q) (Ok (statement.Create (create_span d) d, q))
create-yields {d = d} {u = u} x q e = go x (of-expressions create_at (u ++ q) (Ok (d, q)) (complete-create x q (create-quiet x q e.stops)))
  where
    go : {d : Create} {u : List Token} → SpellsCreate d u → YieldsIn statement_readers (λ r. create_at r.types.expressions) (u ++ q) (Ok (d, q))
        → YieldsIn statement_readers statement_at (u ++ q) (Ok (statement.Create (create_span d) d, q))
    go (g.resource {u = u} {v = v} {w = w} t o k h n i a j m) y = created-yields t (u ++ o ∷ (v ++ k ∷ w)) q h y
    go (g.machine t v o k h i j l) y = created-yields t (v ∷ o ∷ k ∷ []) q h y

invoke-yields : {i : Invocation} {u : List Token} → SpellsNamed (expr.Call i) u → (q : List Token) → Ends q
    → YieldsIn statement_readers statement_at (u ++ q) (Ok (statement.Call (expr_span (expr.Call i)) false i, q))
invoke-yields {i = i} d q e = primary-then d q _ (stops-continued q e.stops) (call-after i q e)

-- the same tokens, grouped otherwise
alternatives-then : (u v x : List Token) (k : Token) (q : List Token) → ((u ++ v) ++ (x ++ k ∷ [])) ++ q ≡ (u ++ (v ++ x)) ++ k ∷ q
alternatives-then u v x k q =
    append_assoc (u ++ v) (x ++ k ∷ []) q
    ∙ ap (λ w. (u ++ v) ++ w) (append_assoc x (k ∷ []) q)
    ∙ append_assoc u v (x ++ k ∷ q)
    ∙ sym (three u v x (k ∷ q))

arms-then : (u v x : List Token) (k : Token) (q : List Token) → (u ++ (v ++ (x ++ k ∷ []))) ++ q ≡ (u ++ (v ++ x)) ++ k ∷ q
arms-then u v x k q = ap (λ w. w ++ q) (sym (three u v x (k ∷ []))) ∙ append_assoc (u ++ (v ++ x)) (k ∷ []) q

if-yields : {b : Branch} {bs : List Branch} {o : Option (List BlockItem)} {u v x : List Token} (t k : Token) → IsWord word.If t → IsWord word.Fi k
    → CompleteAlternative branch_at b u → Separated sign.Alternative (CompleteAlternative branch_at) bs v → CompleteOtherwise o x → (q : List Token)
    → YieldsIn statement_readers statement_at (t ∷ (((u ++ v) ++ (x ++ k ∷ [])) ++ q)) (Ok (statement.If t.span (b ∷ bs) o, q))
unfolding closed_statement_at if_at branches_at
if-yields {b = b} {bs = bs} {o = o} {u = u} {v = v} {x = x} t k h i d m other q =
    subst (λ w. YieldsIn statement_readers statement_at (t ∷ w) (Ok (statement.If t.span (b ∷ bs) o, q))) (sym (alternatives-then u v x k q))
    (closed-yields t ((u ++ (v ++ x)) ++ k ∷ q) _ word.If h refl refl
    (yields_met _ _ _ (t ∷ ((u ++ (v ++ x)) ++ k ∷ q)) _ (is_that_word word.If t h)
    (word-between word.If word.Fi _ (λ span y. statement.If span y.0 y.1) (b ∷ bs, o) t k (u ++ (v ++ x)) q h i
    (alternatives-yields branch_at d m other (k ∷ q) (closing-block k q (ap closes i)) (ap (is_sign sign.Alternative) i)))))

do-yields : {b : Branch} {bs : List Branch} {o : Option (List BlockItem)} {u v x : List Token} (t k : Token) → IsWord word.Do t → IsWord word.Od k
    → CompleteAlternative branch_at b u → Separated sign.Alternative (CompleteAlternative branch_at) bs v → CompleteOtherwise o x → (q : List Token)
    → YieldsIn statement_readers statement_at (t ∷ (((u ++ v) ++ (x ++ k ∷ [])) ++ q)) (Ok (statement.Do t.span (b ∷ bs) o, q))
unfolding closed_statement_at do_at branches_at
do-yields {b = b} {bs = bs} {o = o} {u = u} {v = v} {x = x} t k h i d m other q =
    subst (λ w. YieldsIn statement_readers statement_at (t ∷ w) (Ok (statement.Do t.span (b ∷ bs) o, q))) (sym (alternatives-then u v x k q))
    (closed-yields t ((u ++ (v ++ x)) ++ k ∷ q) _ word.Do h refl refl
    (yields_unmet _ _ _ (t ∷ ((u ++ (v ++ x)) ++ k ∷ q)) _ (ap (is_word word.If) h)
    (yields_met _ _ _ (t ∷ ((u ++ (v ++ x)) ++ k ∷ q)) _ (is_that_word word.Do t h)
    (word-between word.Do word.Od _ (λ span y. statement.Do span y.0 y.1) (b ∷ bs, o) t k (u ++ (v ++ x)) q h i
    (alternatives-yields branch_at d m other (k ∷ q) (closing-block k q (ap closes i)) (ap (is_sign sign.Alternative) i))))))

in-yields : {b : Arm} {bs : List Arm} {o : Option (List BlockItem)} {u v x : List Token} (t k : Token) → IsWord word.In t → IsWord word.Ni k
    → CompleteAlternative arm_at b u → Separated sign.Alternative (CompleteAlternative arm_at) bs v → CompleteOtherwise o x → (q : List Token)
    → YieldsIn statement_readers statement_at (t ∷ ((u ++ (v ++ (x ++ k ∷ []))) ++ q)) (Ok (statement.In t.span (b ∷ bs) o, q))
unfolding closed_statement_at in_at arms_at
in-yields {b = b} {bs = bs} {o = o} {u = u} {v = v} {x = x} t k h i d m other q =
    subst (λ w. YieldsIn statement_readers statement_at (t ∷ w) (Ok (statement.In t.span (b ∷ bs) o, q))) (sym (arms-then u v x k q))
    (closed-yields t ((u ++ (v ++ x)) ++ k ∷ q) _ word.In h refl refl
    (yields_unmet _ _ _ (t ∷ ((u ++ (v ++ x)) ++ k ∷ q)) _ (ap (is_word word.If) h)
    (yields_unmet _ _ _ (t ∷ ((u ++ (v ++ x)) ++ k ∷ q)) _ (ap (is_word word.Do) h)
    (yields_unmet _ _ _ (t ∷ ((u ++ (v ++ x)) ++ k ∷ q)) _ (ap (is_word word.Fa) h)
    (yields_met _ _ _ (t ∷ ((u ++ (v ++ x)) ++ k ∷ q)) _ (is_that_word word.In t h)
    (word-between word.In word.Ni _ (λ span y. statement.In span y.0 y.1) (b ∷ bs, o) t k (u ++ (v ++ x)) q h i
    (alternatives-yields arm_at d m other (k ∷ q) (closing-block k q (ap closes i)) (ap (is_sign sign.Alternative) i))))))))

for_all-yields : {qs : List Quantifier} {is : List BlockItem} {u v : List Token} (t a k : Token) → IsWord word.Fa t → SpellsQuantifiers qs u → IsSign sign.Arrow a
    → IsWord word.Af k → Complete statement_readers block_at BlockEnds is v → (q : List Token)
    → YieldsIn statement_readers statement_at (t ∷ ((u ++ a ∷ (v ++ k ∷ [])) ++ q)) (Ok (statement.ForAll t.span qs is, q))
unfolding closed_statement_at for_all_at
for_all-yields {qs = qs} {is = is} {u = u} {v = v} t a k h d i j y q =
    subst (λ w. YieldsIn statement_readers statement_at (t ∷ w) (Ok (statement.ForAll t.span qs is, q)))
    (ap (λ w. u ++ a ∷ w) (sym (append_assoc v (k ∷ []) q)) ∙ sym (append_assoc u (a ∷ (v ++ k ∷ [])) q))
    (closed-yields t (u ++ a ∷ (v ++ k ∷ q)) _ word.Fa h refl refl
    (yields_unmet _ _ _ (t ∷ (u ++ a ∷ (v ++ k ∷ q))) _ (ap (is_word word.If) h)
    (yields_unmet _ _ _ (t ∷ (u ++ a ∷ (v ++ k ∷ q))) _ (ap (is_word word.Do) h)
    (yields_met _ _ _ (t ∷ (u ++ a ∷ (v ++ k ∷ q))) _ (is_that_word word.Fa t h)
    (token_then (word_at word.Fa) _ t (u ++ a ∷ (v ++ k ∷ q)) t.span _ (word-reads word.Fa t (u ++ a ∷ (v ++ k ∷ q)) h)
    (below_then (λ r. quantifiers_at r.types.expressions) _ u (a ∷ (v ++ k ∷ q)) qs _
    (below _ (u ++ a ∷ (v ++ k ∷ q)) _ (of-expressions quantifiers_at (u ++ a ∷ (v ++ k ∷ q)) _
    (complete-quantifiers d (a ∷ (v ++ k ∷ q)) (arrow-stops a (v ++ k ∷ q) i) (ap (is_sign sign.Comma) i) (ap (is_word word.By) i) (ap (is_word word.St) i))))
    (below_then arrow_block_at _ (a ∷ v) (k ∷ q) is _
    (below arrow_block_at (a ∷ (v ++ k ∷ q)) _ (arrow-yields a is v (k ∷ q) i (y.yields (k ∷ q) (closing-block k q (ap closes j)))))
    (below_token (word_at word.Af) _ k q k.span _ (word-reads word.Af k q j) (below_returned (statement.ForAll t.span qs is) q)))))))))

parallel-ends : (t : Token) (q : List Token) → IsSign sign.Parallel t → BlockEnds (t ∷ q)
parallel-ends t q h = closing-block t q (ap closes h)

co-yields : {b : CoArm} {bs : List CoArm} {u v : List Token} (t k : Token) → IsWord word.Co t → IsWord word.Oc k
    → Complete statement_readers co_arm_at BlockEnds b u → Separated sign.Parallel (Complete statement_readers co_arm_at BlockEnds) bs v
    → (q : List Token) → YieldsIn statement_readers statement_at (t ∷ ((u ++ (v ++ k ∷ [])) ++ q)) (Ok (statement.Co t.span (b ∷ bs), q))
unfolding closed_statement_at co_at more_co_arms_at next_co_arm_at
co-yields {b = b} {bs = bs} {u = u} {v = v} t k h i y m q =
    let e : BlockEnds (k ∷ q) = closing-block k q (ap closes i) in
    subst (λ w. YieldsIn statement_readers statement_at (t ∷ w) (Ok (statement.Co t.span (b ∷ bs), q)))
    (ap (λ w. u ++ w) (sym (append_assoc v (k ∷ []) q)) ∙ sym (append_assoc u (v ++ k ∷ []) q))
    (closed-yields t (u ++ (v ++ k ∷ q)) _ word.Co h refl refl
    (yields_unmet _ _ _ (t ∷ (u ++ (v ++ k ∷ q))) _ (ap (is_word word.If) h)
    (yields_unmet _ _ _ (t ∷ (u ++ (v ++ k ∷ q))) _ (ap (is_word word.Do) h)
    (yields_unmet _ _ _ (t ∷ (u ++ (v ++ k ∷ q))) _ (ap (is_word word.Fa) h)
    (yields_unmet _ _ _ (t ∷ (u ++ (v ++ k ∷ q))) _ (ap (is_word word.In) h)
    (token_then (word_at word.Co) _ t (u ++ (v ++ k ∷ q)) t.span _ (word-reads word.Co t (u ++ (v ++ k ∷ q)) h)
    (below_then co_arm_at _ u (v ++ k ∷ q) b _
    (below co_arm_at (u ++ (v ++ k ∷ q)) _ (y.yields (v ++ k ∷ q) (separated-end statement_readers sign.Parallel co_arm_at BlockEnds parallel-ends m (k ∷ q) e)))
    (below_then _ _ v (k ∷ q) (b ∷ bs) _
    (below _ (v ++ k ∷ q) _ (loop_within (is_next_sign sign.Parallel) (λ r. one_more sign.Parallel (co_arm_at r)) (λ r. r.types.expressions.steps) steps-readers (b ∷ []) (v ++ k ∷ q) _
    (separated-complete statement_readers sign.Parallel co_arm_at BlockEnds parallel-ends m (b ∷ []) (k ∷ q) e (ap (is_sign sign.Parallel) i))))
    (below_token (word_at word.Oc) _ k q k.span _ (word-reads word.Oc k q i) (below_returned (statement.Co t.span (b ∷ bs)) q))))))))))

-- an arm of `co` without quantifiers
co-arm-yields : {place : Option Expr} {with_call : Bool} {i : Invocation} {block : Option (List BlockItem)} {u : List Token} (v q : List Token)
    → SpellsCoCall false place with_call i u → YieldsIn statement_readers co_block_at (v ++ q) (Ok (block, q)) → AfterInvocation (v ++ q)
    → YieldsIn statement_readers co_arm_at ((u ++ v) ++ q) (Ok (co_arm_of (first_span u) [] place with_call i block, q))
unfolding co_arm_at
co-arm-yields {place = place} {with_call = called} {i = i} {block = block} {u = u} v q d b after =
    subst (λ w. YieldsIn statement_readers co_arm_at w (Ok (co_arm_of (first_span u) [] place called i block, q))) (sym (append_assoc u v q))
    (yields_unmet _ _ _ (u ++ (v ++ q)) _ (no-paren d (v ++ q)) (after-quantifiers-yields v q b after None [] d))

-- an arm of `co` after its quantifiers
quantified-yields : {qs : List Quantifier} {place : Option Expr} {with_call : Bool} {i : Invocation} {block : Option (List BlockItem)} {u v : List Token} (o k : Token)
    (x q : List Token) → IsSign sign.OpenParen o → SpellsQuantifiers qs u → IsSign sign.CloseParen k → SpellsCoCall true place with_call i v
    → YieldsIn statement_readers co_block_at (x ++ q) (Ok (block, q)) → AfterInvocation (x ++ q)
    → YieldsIn statement_readers co_arm_at ((o ∷ (u ++ k ∷ (v ++ x))) ++ q) (Ok (co_arm_of o.span qs place with_call i block, q))
unfolding co_arm_at
quantified-yields {qs = qs} {place = place} {with_call = called} {i = i} {block = block} {u = u} {v = v} o k x q h e j d b after =
    subst (λ w. YieldsIn statement_readers co_arm_at (o ∷ w) (Ok (co_arm_of o.span qs place called i block, q)))
    (ap (λ w. u ++ k ∷ w) (sym (append_assoc v x q)) ∙ sym (append_assoc u (k ∷ (v ++ x)) q))
    (yields_met _ _ _ (o ∷ (u ++ k ∷ (v ++ (x ++ q)))) _ (is_that_sign sign.OpenParen o h)
    (subst (λ w. YieldsIn statement_readers (λ r. enclosed_quantifiers_at r.types.expressions >>= (λ a. after_quantifiers_at r (Some a.0) a.1)) (o ∷ w)
    (Ok (co_arm_of o.span qs place called i block, q))) (append_assoc u (k ∷ []) (v ++ (x ++ q)))
    (yields_then (λ r. enclosed_quantifiers_at r.types.expressions) _ (o ∷ (u ++ k ∷ [])) (v ++ (x ++ q)) (o.span, qs) _
    (subst (λ w. YieldsIn statement_readers (λ r. enclosed_quantifiers_at r.types.expressions) (o ∷ w) (Ok ((o.span, qs), v ++ (x ++ q))))
    (sym (append_assoc u (k ∷ []) (v ++ (x ++ q))))
    (of-expressions enclosed_quantifiers_at (o ∷ (u ++ k ∷ (v ++ (x ++ q)))) _ (enclosed-quantifiers-yields e o k (v ++ (x ++ q)) h j)))
    (after-quantifiers-yields x q b after (Some o.span) qs d))))

-- ---- items

const-yields : {d : ConstDecl} {u : List Token} → SpellsConst d u → (q : List Token) → Ends q → YieldsIn statement_readers block_item_at (u ++ q) (Ok (item.Const d, q))
unfolding block_item_at
const-yields {d = d} {u = u} x q e =
    yields_met _ _ _ (u ++ q) _ (begins-test (const-begins x) (is_word word.Const) true refl q)
    (yields_then (λ r. const_at r.types) _ u q d _ (of-types const_at (u ++ q) _ (complete-const x q (ends-rest q e))) (yields_returned (item.Const d) q))

var-yields : {d : VarDecl} {u : List Token} → SpellsVar d u → (q : List Token) → Ends q → YieldsIn statement_readers block_item_at (u ++ q) (Ok (item.Var d, q))
unfolding block_item_at
var-yields {d = d} {u = u} x q e =
    yields_unmet _ _ _ (u ++ q) _ (begins-test (var-begins x) (is_word word.Const) false refl q)
    (yields_met _ _ _ (u ++ q) _ (begins-test (var-begins x) (is_word word.Var) true refl q)
    (yields_then (λ r. var_at r.types) _ u q d _ (of-types var_at (u ++ q) _ (complete-var x q (ends-rest q e))) (yields_returned (item.Var d) q)))

statement-item-yields : {a : Statement} {u : List Token} → SpellsStatement a u → (q : List Token) → YieldsIn statement_readers statement_at (u ++ q) (Ok (a, q))
    → YieldsIn statement_readers block_item_at (u ++ q) (Ok (item.Statement a, q))
unfolding block_item_at
statement-item-yields {a = a} {u = u} x q y =
    let b = statement-begins x q in
    yields_unmet _ _ _ (u ++ q) _ (no-other word.Const refl (u ++ q) b)
    (yields_unmet _ _ _ (u ++ q) _ (no-other word.Var refl (u ++ q) b)
    (yields_then statement_at _ u q a _ y (yields_returned (item.Statement a) q)))

branch-other : {b : Branch} {u : List Token} → SpellsBranch b u → (q : List Token) → next_is (λ t. is_word word.Else t.kind) (u ++ q) ≡ false
branch-other (s.branch {u = u} {v = v} t d h b) q =
    ap (next_is (λ t. is_word word.Else t.kind)) (append_assoc u (t ∷ v) q) ∙ begins-no-word word.Else (u ++ t ∷ (v ++ q)) refl (expr-begins d (t ∷ (v ++ q)))

arm-other : {a : Arm} {u : List Token} → SpellsArm a u → (q : List Token) → next_is (λ t. is_word word.Else t.kind) (u ++ q) ≡ false
arm-other (s.arm n o k a h i d j e f g p b) q = ap (is_word word.Else) h

block-yields : {is : List BlockItem} {v : List Token} → SpellsList (IsItem statement_readers (λ t. begins_block_item t.kind) block_item_at Ends) true is v → (q : List Token)
    → BlockEnds q → YieldsIn statement_readers block_at (v ++ q) (Ok (is, q))
unfolding block_at
block-yields m q e =
    list-complete statement_readers (λ t. begins_block_item t.kind) block_item_at Ends separator-ends item-separator (λ r. r.types.expressions.steps) steps-readers m q e

mutual
  pub complete-statement : {a : Statement} {u : List Token} → SpellsStatement a u → (q : List Token) → Ends q → YieldsIn statement_readers statement_at (u ++ q) (Ok (a, q))
  complete-statement (s.skip t h) q e = skip-yields t h q
  complete-statement (s.exit t h) q e = exit-yields t h q
  complete-statement (s.next t h) q e = next-yields t h q
  complete-statement (s.returns t h) q e = return-yields t h q
  complete-statement (s.reply t h) q e = reply-yields t h q
  complete-statement (s.stop t h d) q e = stop-yields t h d q e
  complete-statement (s.call t h d) q e = called-yields t h d q e
  complete-statement (s.invoke d) q e = invoke-yields d q e
  complete-statement (s.send t h d) q e = send-yields t h d q e
  complete-statement (s.forward t h d) q e = forward-yields t h d q e
  complete-statement (s.receive t n o k h i j d l) q e = receive-yields t n o k h i j d l q
  complete-statement (s.assign {a = a} {e = x} {u = u} {v = v} t d h y) q e =
      subst (λ w. YieldsIn statement_readers statement_at w (Ok (statement.Assign (expr_span a) a x, q))) (sym (append_assoc u (t ∷ v) q))
      (primary-then d (t ∷ (v ++ q)) _ (stops-continued (t ∷ (v ++ q)) (token-stops t (v ++ q) (ap continues_expr h))) (assign-after a t v q h y e.stops))
  complete-statement (s.exchange {a = a} {b = b} {u = u} {v = v} t d h y) q e =
      subst (λ w. YieldsIn statement_readers statement_at w (Ok (statement.Exchange (expr_span a) a b, q))) (sym (append_assoc u (t ∷ v) q))
      (primary-then d (t ∷ (v ++ q)) _ (stops-continued (t ∷ (v ++ q)) (token-stops t (v ++ q) (ap continues_expr h))) (exchange-after a t v q h y (stops-continued q e.stops)))
  complete-statement (s.increment {a = a} {u = u} t d h) q e =
      subst (λ w. YieldsIn statement_readers statement_at w (Ok (statement.Increment (expr_span a) a, q))) (sym (append_assoc u (t ∷ []) q))
      (primary-then d (t ∷ q) _ (stops-continued (t ∷ q) (token-stops t q (ap continues_expr h))) (increment-after a t q h))
  complete-statement (s.decrement {a = a} {u = u} t d h) q e =
      subst (λ w. YieldsIn statement_readers statement_at w (Ok (statement.Decrement (expr_span a) a, q))) (sym (append_assoc u (t ∷ []) q))
      (primary-then d (t ∷ q) _ (stops-continued (t ∷ q) (token-stops t q (ap continues_expr h))) (decrement-after a t q h))
  complete-statement (s.if t k h (s.branches d m) o i) q e = if-yields t k h i (complete-alternative d) (more-branches m) (complete-otherwise o) q
  complete-statement (s.do_ t k h (s.branches d m) o i) q e = do-yields t k h i (complete-alternative d) (more-branches m) (complete-otherwise o) q
  complete-statement (s.for_all t a k h d i b j) q e = for_all-yields t a k h d i j (record { yields = complete-block b }) q
  complete-statement (s.in_ t k h d m o i) q e = in-yields t k h i (complete-arm d) (more-arms m) (complete-otherwise o) q
  complete-statement (s.co t k h d m i) q e = co-yields t k h i (record { yields = complete-co-arm d }) (more-co-arms m) q
  complete-statement (s.destroy t h d) q e = destroy-yields t h d q e
  complete-statement (s.create d) q e = create-yields d q e

  complete-alternative : {b : Branch} {u : List Token} → SpellsBranch b u → CompleteAlternative branch_at b u
  complete-alternative (s.branch {u = u} {v = v} t d h b) =
      record { yields = λ q e. branch-yields t u v q d h (complete-block b q e); other = branch-other (s.branch t d h b) }

  more-branches : {bs : List Branch} {v : List Token} → SpellsMoreBranches bs v → Separated sign.Alternative (CompleteAlternative branch_at) bs v
  more-branches s.no_more_branches = none_after
  more-branches (s.one_more_branch t h d m) = one_after t h (complete-alternative d) (more-branches m)

  complete-otherwise : {o : Option (List BlockItem)} {x : List Token} → SpellsOtherwise o x → CompleteOtherwise o x
  complete-otherwise s.no_otherwise = nothing_otherwise
  complete-otherwise (s.otherwise t w a h i j b) = block_otherwise t w a h i j (complete-block b)

  complete-arm : {a : Arm} {u : List Token} → SpellsArm a u → CompleteAlternative arm_at a u
  complete-arm (s.arm {u = u} {v = v} {x = x} {y = y} {z = z} n o k a h i d j e f g p b) =
      record { yields = λ q end. arm-yields n o k a u v x y z q h i d j e f g p (complete-block b q end); other = arm-other (s.arm n o k a h i d j e f g p b) }

  more-arms : {arms : List Arm} {v : List Token} → SpellsMoreArms arms v → Separated sign.Alternative (CompleteAlternative arm_at) arms v
  more-arms s.no_more_arms = none_after
  more-arms (s.one_more_arm t h d m) = one_after t h (complete-arm d) (more-arms m)

  complete-co-block : {m : Option (List BlockItem)} {z : List Token} → SpellsCoBlock m z → (q : List Token) → BlockEnds q → YieldsIn statement_readers co_block_at (z ++ q) (Ok (m, q))
  complete-co-block s.no_co_block q e = no-co-block q e.ends.arrow
  complete-co-block (s.co_block {u = u} t h b) q e = co-block-yields t u q h (complete-block b q e)

  complete-co-arm : {a : CoArm} {u : List Token} → SpellsCoArm a u → (q : List Token) → BlockEnds q → YieldsIn statement_readers co_arm_at (u ++ q) (Ok (a, q))
  complete-co-arm (s.co_arm {v = v} d b) q e = co-arm-yields v q d (complete-co-block b q e) (co-block-after b q e.ends)
  complete-co-arm (s.quantified {x = x} o k h qs i d b) q e = quantified-yields o k x q h qs i d (complete-co-block b q e) (co-block-after b q e.ends)

  more-co-arms : {arms : List CoArm} {v : List Token} → SpellsMoreCoArms arms v → Separated sign.Parallel (Complete statement_readers co_arm_at BlockEnds) arms v
  more-co-arms s.no_more_co_arms = none_after
  more-co-arms (s.one_more_co_arm t h d m) = one_after t h (record { yields = complete-co-arm d }) (more-co-arms m)

  pub complete-block-item : {i : BlockItem} {u : List Token} → SpellsBlockItem i u → (q : List Token) → Ends q → YieldsIn statement_readers block_item_at (u ++ q) (Ok (i, q))
  complete-block-item (s.a_constant d) q e = const-yields d q e
  complete-block-item (s.some_variables d) q e = var-yields d q e
  complete-block-item (s.a_statement d) q e = statement-item-yields d q (complete-statement d q e)

  complete-items : {b : Bool} {is : List BlockItem} {v : List Token} → SpellsItems b is v
      → SpellsList (IsItem statement_readers (λ t. begins_block_item t.kind) block_item_at Ends) b is v
  complete-items s.stop_here = c.stop_here
  complete-items (s.separator t h m) = c.separator t h (complete-items m)
  complete-items (s.one d m) = c.one (record { starts = item-begins d; yields = complete-block-item d }) (complete-items m)

  pub complete-block : {is : List BlockItem} {v : List Token} → SpellsBlock is v → (q : List Token) → BlockEnds q → YieldsIn statement_readers block_at (v ++ q) (Ok (is, q))
  complete-block (s.block m) q e = block-yields (complete-items m) q e
