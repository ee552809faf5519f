-- What is spelled as a declaration is read, where the token after it continues nothing.
use Rattle.std.proofs.Common.{◌≡◌, refl, sym, ◌∙◌, ap, subst, false, List, [], ◌∷◌, ◌++◌, Option, Some, None, Ok, append_assoc, lit≤}
use Rattle.sr_reader.specs.Reader.{next_is}
use Rattle.sr_reader.proofs.Soundness.{append-nil}
use Rattle.sr_tree.specs.declared.declaration.ConstDecl.{ConstDecl}
use Rattle.sr_tree.specs.declared.declaration.Import.{Import}
use Rattle.sr_tree.specs.declared.declaration.OpDecl.{OpDecl}
use Rattle.sr_tree.specs.declared.declaration.OpItem.{OpItem}
use Rattle.sr_tree.specs.declared.declaration.OpTypeDecl.{OpTypeDecl}
use Rattle.sr_tree.specs.declared.declaration.SemDecl.{SemDecl}
use Rattle.sr_tree.specs.declared.declaration.Semaphore.{Semaphore}
use Rattle.sr_tree.specs.declared.declaration.TypeDecl.{TypeDecl}
use Rattle.sr_tree.specs.declared.declaration.VarDecl.{VarDecl}
use Rattle.sr_tree.specs.declared.expr.Expr.{Expr}
use Rattle.sr_tree.specs.declared.token.Sign.TheVariants as sign
use Rattle.sr_tree.specs.declared.token.Token.{Token}
use Rattle.sr_tree.specs.declared.token.Word.TheVariants as word
use Rattle.sr_tree.specs.declared.types.Signature.{Signature}
use Rattle.sr_tree.specs.declared.types.TypeTree.{TypeTree}
use Rattle.sr_tree.specs.Declarations as g
use Rattle.sr_tree.specs.Declarations.{SpellsOptionalType, SpellsImport, SpellsConst, SpellsTypeDecl, SpellsOpType, SpellsOpItem, SpellsMoreOpItems, SpellsOp, SpellsValues, SpellsVar, SpellsInitial, SpellsMoreSemaphores, SpellsSem}
use Rattle.sr_tree.specs.Expressions as expressions
use Rattle.sr_tree.specs.Expressions.{SpellsExpr, SpellsMoreExprs}
use Rattle.sr_tree.specs.Tables.{IsSign, IsName, name_of}
use Rattle.sr_tree.specs.Tests.{is_sign, is_word}
use Rattle.sr_tree.specs.Types.{SpellsSignature}
use Rattle.sr_expr_reader.specs.Readers.{readers, is_comma, is_operator, operation_at, operand_at, qualified_at, next_argument_at, more_arguments_at}
use Rattle.sr_tree.specs.Tokens.{sign_at, word_at, name_at}
use Rattle.sr_expr_reader.specs.TypeReaders.{type_readers, names_at, decls_at, plain_type_at, type_at, signature_at}
use Rattle.sr_expr_reader.proofs.ExpressionPieces.{complete-qualified, next-argument}
use Rattle.sr_expr_reader.proofs.ExpressionsComplete.{complete-expr}
use Rattle.sr_expr_reader.proofs.Families.{YieldsIn, BelowIn, below, token_then, below_token, below_then, below_returned, below_met, below_unmet, loop_stops, loop_goes, loop_within, below_part}
use Rattle.sr_expr_reader.proofs.Quiet.{stops-quiet}
use Rattle.sr_expr_reader.proofs.TokensComplete.{is_that_sign, sign-reads, word-reads, name-reads, Stops, comma-stops, stops-operator}
use Rattle.sr_expr_reader.proofs.TypesQuiet.{TypeStops, stops-quiet-plain-type, stops-quiet-type, stops-quiet-signature}
use Rattle.sr_expr_reader.proofs.DeclsComplete.{complete-names, complete-decls}
use Rattle.sr_expr_reader.proofs.TypesComplete.{signature-first, complete-plain-type, complete-type, complete-signature}
use Rattle.sr_expr_reader.proofs.Yields.{Yields, Below, Loops, below-operand, steps-readers, loop_yields}
use Rattle.sr_program_reader.specs.DeclarationReaders.{optional_type_at, import_at, const_at, type_decl_at, optype_at, op_item_at, next_op_item_at, more_op_items_at, op_at, values_at, var_at, initial_at, semaphore_at, next_semaphore_at, more_semaphores_at, sem_at}
use Rattle.sr_program_reader.proofs.Separated.{Separated, none_after, one_after, one_more, Complete, separated-end, separated-complete}

-- ---- what may stand after declarations

-- what continues no declaration
pub record Rests (q : List Token) : Type 0 where
  pub stops : Stops q
  pub types : TypeStops q
  pub comma : next_is (λ t. is_sign sign.Comma t.kind) q ≡ false
  pub colon : next_is (λ t. is_sign sign.Colon t.kind) q ≡ false
  pub assign : next_is (λ t. is_sign sign.Assign t.kind) q ≡ false

-- ---- parts of declarations

expr-yields : {e : Expr} {u : List Token} → SpellsExpr 5 e u → (q : List Token) → Stops q → Yields (λ r. operand_at r 5) (u ++ q) (Ok (e, q))
expr-yields {e = e} d q st = complete-expr d 5 (lit≤ tt) q (Ok (e, q)) (stops-quiet d q st) (loop_stops (is_operator 5) operation_at e q (stops-operator 5 e q st))

expr-below : {e : Expr} {u : List Token} → SpellsExpr 5 e u → (q : List Token) → Stops q → Below (λ r. operand_at r 5) (u ++ q) (Ok (e, q))
expr-below d q st = below _ _ _ (expr-yields d q st)

-- an expression within types
typed-expr : {e : Expr} {u : List Token} → SpellsExpr 5 e u → (q : List Token) → Stops q
    → BelowIn type_readers (λ r. operand_at r.expressions 5) (u ++ q) (Ok (e, q))
typed-expr {e = e} {u = u} d q st = below_part (λ r. r.expressions) (λ k. refl) (λ r. operand_at r 5) (u ++ q) (Ok (e, q)) (expr-below d q st)

-- [":" type]
complete-optional-type : {m : Option TypeTree} {u : List Token} → SpellsOptionalType m u → (q : List Token) → TypeStops q
    → next_is (λ t. is_sign sign.Colon t.kind) q ≡ false → BelowIn type_readers optional_type_at (u ++ q) (Ok (m, q))
unfolding optional_type_at
complete-optional-type g.no_type q st e = below_unmet _ _ _ q _ e (below_returned None q)
complete-optional-type (g.typed {t = t} {u = u} colon h d) q st e =
    below_met _ _ _ (colon ∷ (u ++ q)) _ (is_that_sign sign.Colon colon h)
    (below_token (sign_at sign.Colon) _ colon (u ++ q) colon.span _ (sign-reads sign.Colon colon (u ++ q) h)
    (below_then plain_type_at _ u q t _ (below plain_type_at (u ++ q) _ (complete-plain-type d q (stops-quiet-plain-type d q st))) (below_returned (Some t) q)))

-- [":=" expr]
complete-initial : {m : Option Expr} {u : List Token} → SpellsInitial m u → (q : List Token) → Stops q
    → next_is (λ t. is_sign sign.Assign t.kind) q ≡ false → Below initial_at (u ++ q) (Ok (m, q))
unfolding initial_at
complete-initial g.no_initial q st e = below_unmet _ _ _ q _ e (below_returned None q)
complete-initial (g.initial {e = x} {u = u} becomes h d) q st e =
    below_met _ _ _ (becomes ∷ (u ++ q)) _ (is_that_sign sign.Assign becomes h)
    (below_token (sign_at sign.Assign) _ becomes (u ++ q) becomes.span _ (sign-reads sign.Assign becomes (u ++ q) h)
    (below_then (λ r. operand_at r 5) _ u q x _ (expr-below d q st) (below_returned (Some x) q)))

-- {"," expr}
exprs-end : {es : List Expr} {v : List Token} → SpellsMoreExprs es v → (q : List Token) → Stops q → Stops (v ++ q)
exprs-end expressions.no_more_exprs q st = st
exprs-end (expressions.one_more_expr {u = u} {v = v} comma h d m) q st = comma-stops comma ((u ++ v) ++ q) h

loop-exprs : {gs : List Expr} {v : List Token} → SpellsMoreExprs gs v → (es : List Expr) (q : List Token) → Stops q
    → next_is (λ t. is_sign sign.Comma t.kind) q ≡ false → Loops is_comma next_argument_at es (v ++ q) (Ok (es ++ gs, q))
loop-exprs expressions.no_more_exprs es q st n =
    subst (λ x. Loops is_comma next_argument_at es q (Ok (x, q))) (sym (append-nil es)) (loop_stops is_comma next_argument_at es q n)
loop-exprs (expressions.one_more_expr {e = e} {es = gs} {u = u} {v = v} comma h d m) es q st n =
    subst (λ w. Loops is_comma next_argument_at es (comma ∷ w) (Ok (es ++ e ∷ gs, q))) (sym (append_assoc u v q))
    (loop_goes is_comma next_argument_at es (es ++ e ∷ []) comma (u ++ (v ++ q)) u (v ++ q) _ refl (is_that_sign sign.Comma comma h)
    (next-argument es comma u (v ++ q) h (below-operand 5 (u ++ (v ++ q)) (Ok (e, v ++ q)) (expr-yields d (v ++ q) (exprs-end m q st))))
    (subst (λ x. Loops is_comma next_argument_at (es ++ e ∷ []) (v ++ q) (Ok (x, q))) (append_assoc es (e ∷ []) gs) (loop-exprs m (es ++ e ∷ []) q st n)))

more-exprs-below : {gs : List Expr} {v : List Token} → SpellsMoreExprs gs v → (es : List Expr) (q : List Token) → Stops q
    → next_is (λ t. is_sign sign.Comma t.kind) q ≡ false → Below (λ r. more_arguments_at r es) (v ++ q) (Ok (es ++ gs, q))
unfolding more_arguments_at
more-exprs-below {gs = gs} {v = v} m es q st n =
    below _ (v ++ q) _ (loop_yields is_comma next_argument_at es (v ++ q) (Ok (es ++ gs, q)) (loop-exprs m es q st n))

-- [":=" expr {"," expr}]
complete-values : {es : List Expr} {u : List Token} → SpellsValues es u → (q : List Token) → Stops q
    → next_is (λ t. is_sign sign.Comma t.kind) q ≡ false → next_is (λ t. is_sign sign.Assign t.kind) q ≡ false
    → Below values_at (u ++ q) (Ok (es, q))
unfolding values_at
complete-values g.no_values q st e f = below_unmet _ _ _ q _ f (below_returned [] q)
complete-values (g.values {e = x} {es = es} {u = u} {v = v} becomes h d m) q st e f =
    subst (λ w. Below values_at (becomes ∷ w) (Ok (x ∷ es, q))) (sym (append_assoc u v q))
    (below_met _ _ _ (becomes ∷ (u ++ (v ++ q))) _ (is_that_sign sign.Assign becomes h)
    (below_token (sign_at sign.Assign) _ becomes (u ++ (v ++ q)) becomes.span _ (sign-reads sign.Assign becomes (u ++ (v ++ q)) h)
    (below_then (λ r. operand_at r 5) _ u (v ++ q) x _ (expr-below d (v ++ q) (exprs-end m q st)) (more-exprs-below m (x ∷ []) q st e))))

-- ---- declarations

pub complete-import : {d : Import} {u : List Token} → SpellsImport d u → (q : List Token) → Rests q → Yields import_at (u ++ q) (Ok (d, q))
unfolding import_at
complete-import (g.imports {ns = ns} {u = u} t h n) q re =
    token_then (word_at word.Import) _ t (u ++ q) t.span _ (word-reads word.Import t (u ++ q) h)
    (below_then names_at _ u q ns _ (below names_at (u ++ q) _ (complete-names n q re.comma)) (below_returned _ q))

assign-rests : (t : Token) (q : List Token) → IsSign sign.Assign t → TypeStops (t ∷ q) × (next_is (λ x. is_sign sign.Colon x.kind) (t ∷ q) ≡ false)
assign-rests t q h = (record { point = ap (is_sign sign.Point) h; brace = ap (is_sign sign.OpenBrace) h; returns = ap (is_word word.Returns) h }, ap (is_sign sign.Colon) h)

pub complete-const : {d : ConstDecl} {u : List Token} → SpellsConst d u → (q : List Token) → Rests q → YieldsIn type_readers const_at (u ++ q) (Ok (d, q))
unfolding const_at
complete-const (g.constant {ty = ty} {e = e} {u = u} {v = v} t n b h i o j x) q re =
    let s = assign-rests b (v ++ q) j in
    subst (λ w. YieldsIn type_readers const_at (t ∷ n ∷ w) (Ok (record { span = t.span; name = name_of n; ty = ty; value = e }, q))) (sym (append_assoc u (b ∷ v) q))
    (token_then (word_at word.Const) _ t (n ∷ (u ++ b ∷ (v ++ q))) t.span _ (word-reads word.Const t (n ∷ (u ++ b ∷ (v ++ q))) h)
    (below_token name_at _ n (u ++ b ∷ (v ++ q)) (name_of n) _ (name-reads n (u ++ b ∷ (v ++ q)) i)
    (below_then optional_type_at _ u (b ∷ (v ++ q)) ty _ (complete-optional-type o (b ∷ (v ++ q)) s.0 s.1)
    (below_token (sign_at sign.Assign) _ b (v ++ q) b.span _ (sign-reads sign.Assign b (v ++ q) j)
    (below_then (λ r. operand_at r.expressions 5) _ v q e _ (typed-expr x q re.stops) (below_returned _ q))))))

pub complete-type-decl : {d : TypeDecl} {u : List Token} → SpellsTypeDecl d u → (q : List Token) → Rests q → YieldsIn type_readers type_decl_at (u ++ q) (Ok (d, q))
unfolding type_decl_at
complete-type-decl (g.type_decl {ty = ty} {u = u} t n b h i j x) q re =
    token_then (word_at word.Type) _ t (n ∷ b ∷ (u ++ q)) t.span _ (word-reads word.Type t (n ∷ b ∷ (u ++ q)) h)
    (below_token name_at _ n (b ∷ (u ++ q)) (name_of n) _ (name-reads n (b ∷ (u ++ q)) i)
    (below_token (sign_at sign.Equal) _ b (u ++ q) b.span _ (sign-reads sign.Equal b (u ++ q) j)
    (below_then type_at _ u q ty _ (below type_at (u ++ q) _ (complete-type x q (stops-quiet-type x q re.types))) (below_returned _ q))))

signature-below : {s : Signature} {u : List Token} → SpellsSignature s u → (q : List Token) → TypeStops q → BelowIn type_readers signature_at (u ++ q) (Ok (s, q))
signature-below {u = u} d q st = below signature_at (u ++ q) _ (complete-signature d q (stops-quiet-signature d q st))

pub complete-optype : {d : OpTypeDecl} {u : List Token} → SpellsOpType d u → (q : List Token) → Rests q → YieldsIn type_readers optype_at (u ++ q) (Ok (d, q))
unfolding optype_at
complete-optype (g.optype {s = s} {u = u} t n b h i j x) q re =
    token_then (word_at word.OpType) _ t (n ∷ b ∷ (u ++ q)) t.span _ (word-reads word.OpType t (n ∷ b ∷ (u ++ q)) h)
    (below_token name_at _ n (b ∷ (u ++ q)) (name_of n) _ (name-reads n (b ∷ (u ++ q)) i)
    (below_token (sign_at sign.Equal) _ b (u ++ q) b.span _ (sign-reads sign.Equal b (u ++ q) j)
    (below_then signature_at _ u q s _ (signature-below x q re.types) (below_returned _ q))))

op-item-yields : {i : OpItem} {u : List Token} → SpellsOpItem i u → (q : List Token) → TypeStops q → YieldsIn type_readers op_item_at (u ++ q) (Ok (i, q))
unfolding op_item_at
op-item-yields (g.signed {s = s} {u = u} n h d) q st =
    token_then name_at _ n (u ++ q) (name_of n) _ (name-reads n (u ++ q) h)
    (below_unmet _ _ _ (u ++ q) _ (signature-first d (is_sign sign.Colon) q)
    (below_then signature_at _ u q s _ (signature-below d q st) (below_returned _ q)))
op-item-yields (g.of_optype {q = x} {u = u} n colon h i d) q st =
    token_then name_at _ n (colon ∷ (u ++ q)) (name_of n) _ (name-reads n (colon ∷ (u ++ q)) h)
    (below_met _ _ _ (colon ∷ (u ++ q)) _ (is_that_sign sign.Colon colon i)
    (below_token (sign_at sign.Colon) _ colon (u ++ q) colon.span _ (sign-reads sign.Colon colon (u ++ q) i)
    (below_then (λ r. qualified_at) _ u q x _ (below_part (λ r. r.expressions) (λ k. refl) (λ r. qualified_at) (u ++ q) _ (complete-qualified d q st.point)) (below_returned _ q))))

comma-types : (t : Token) (q : List Token) → IsSign sign.Comma t → TypeStops (t ∷ q)
comma-types t q h = record { point = ap (is_sign sign.Point) h; brace = ap (is_sign sign.OpenBrace) h; returns = ap (is_word word.Returns) h }

-- {"," op_item}
op-items : {is : List OpItem} {u : List Token} → SpellsMoreOpItems is u → Separated sign.Comma (Complete type_readers op_item_at TypeStops) is u
op-items g.no_more_op_items = none_after
op-items (g.one_more_op_item comma h d m) = one_after comma h (record { yields = λ q st. op-item-yields d q st }) (op-items m)

more-op-items-below : {js : List OpItem} {v : List Token} → SpellsMoreOpItems js v → (is : List OpItem) (q : List Token) → Rests q
    → BelowIn type_readers (λ r. more_op_items_at r is) (v ++ q) (Ok (is ++ js, q))
unfolding more_op_items_at next_op_item_at
more-op-items-below {js = js} {v = v} m is q re =
    below _ (v ++ q) _ (loop_within is_comma (λ r. one_more sign.Comma (op_item_at r)) (λ r. r.expressions.steps) steps-readers is (v ++ q) (Ok (is ++ js, q))
    (separated-complete type_readers sign.Comma op_item_at TypeStops comma-types (op-items m) is q re.types re.comma))

pub complete-op : {d : OpDecl} {u : List Token} → SpellsOp d u → (q : List Token) → Rests q → YieldsIn type_readers op_at (u ++ q) (Ok (d, q))
unfolding op_at
complete-op (g.op {i = i} {is = is} {u = u} {v = v} t h x m) q re =
    subst (λ w. YieldsIn type_readers op_at (t ∷ w) (Ok (record { span = t.span; items = i ∷ is }, q))) (sym (append_assoc u v q))
    (token_then (word_at word.Op) _ t (u ++ (v ++ q)) t.span _ (word-reads word.Op t (u ++ (v ++ q)) h)
    (below_then op_item_at _ u (v ++ q) i _ (below op_item_at (u ++ (v ++ q)) _ (op-item-yields x (v ++ q)
    (separated-end type_readers sign.Comma op_item_at TypeStops comma-types (op-items m) q re.types)))
    (below_then (λ r. more_op_items_at r (i ∷ [])) _ v q (i ∷ is) _ (more-op-items-below m (i ∷ []) q re) (below_returned _ q))))

-- what may stand after the declared names of a `var`
values-rest : {es : List Expr} {w : List Token} → SpellsValues es w → (q : List Token) → Rests q → TypeStops (w ++ q) × (next_is (λ t. is_sign sign.Colon t.kind) (w ++ q) ≡ false)
values-rest g.no_values q re = (re.types, re.colon)
values-rest (g.values {u = u} {v = v} b h d m) q re = assign-rests b ((u ++ v) ++ q) h

values-after : {es : List Expr} {w : List Token} → SpellsValues es w → (q : List Token) → Rests q
    → (next_is (λ t. is_sign sign.OpenBracket t.kind) (w ++ q) ≡ false) × (next_is (λ t. is_sign sign.Comma t.kind) (w ++ q) ≡ false)
values-after g.no_values q re = (re.stops.bracket, re.comma)
values-after (g.values {u = u} {v = v} b h d m) q re = (ap (is_sign sign.OpenBracket) h, ap (is_sign sign.Comma) h)

type-after : {m : Option TypeTree} {v : List Token} {es : List Expr} {w : List Token} → SpellsOptionalType m v → SpellsValues es w → (q : List Token) → Rests q
    → (next_is (λ t. is_sign sign.OpenBracket t.kind) (v ++ (w ++ q)) ≡ false) × (next_is (λ t. is_sign sign.Comma t.kind) (v ++ (w ++ q)) ≡ false)
type-after g.no_type y q re = values-after y q re
type-after (g.typed c h d) y q re = (ap (is_sign sign.OpenBracket) h, ap (is_sign sign.Comma) h)

pub complete-var : {d : VarDecl} {u : List Token} → SpellsVar d u → (q : List Token) → Rests q → YieldsIn type_readers var_at (u ++ q) (Ok (d, q))
unfolding var_at
complete-var (g.variables {ds = ds} {ty = ty} {es = es} {u = u} {v = v} {w = w} t h x o y) q re =
    let r = values-rest y q re in
    let b = type-after o y q re in
    subst (λ z. YieldsIn type_readers var_at (t ∷ z) (Ok (record { span = t.span; decls = ds; ty = ty; values = es }, q)))
    (ap (λ z. u ++ z) (sym (append_assoc v w q)) ∙ sym (append_assoc u (v ++ w) q))
    (token_then (word_at word.Var) _ t (u ++ (v ++ (w ++ q))) t.span _ (word-reads word.Var t (u ++ (v ++ (w ++ q))) h)
    (below_then (λ r. decls_at r.expressions) _ u (v ++ (w ++ q)) ds _
    (below_part (λ r. r.expressions) (λ k. refl) decls_at (u ++ (v ++ (w ++ q))) _ (below decls_at _ _ (complete-decls x (v ++ (w ++ q)) b.0 b.1)))
    (below_then optional_type_at _ v (w ++ q) ty _ (complete-optional-type o (w ++ q) r.0 r.1)
    (below_then (λ r. values_at r.expressions) _ w q es _
    (below_part (λ r. r.expressions) (λ k. refl) values_at (w ++ q) _ (complete-values y q re.stops re.comma re.assign)) (below_returned _ q)))))

-- what may stand after a semaphore
pub record SemaphoreRests (q : List Token) : Type 0 where
  pub stops : Stops q
  pub assign : next_is (λ t. is_sign sign.Assign t.kind) q ≡ false

comma-semaphores : (t : Token) (q : List Token) → IsSign sign.Comma t → SemaphoreRests (t ∷ q)
comma-semaphores t q h = record { stops = comma-stops t q h; assign = ap (is_sign sign.Assign) h }

semaphore-yields : {e : Option Expr} {u : List Token} (n : Token) → IsName n → SpellsInitial e u → (q : List Token) → SemaphoreRests q
    → Yields semaphore_at (n ∷ (u ++ q)) (Ok (record { span = n.span; name = name_of n; value = e }, q))
unfolding semaphore_at
semaphore-yields {e = e} {u = u} n h d q re =
    token_then name_at _ n (u ++ q) (name_of n) _ (name-reads n (u ++ q) h)
    (below_then initial_at _ u q e _ (complete-initial d q re.stops re.assign) (below_returned _ q))

-- {"," name [":=" expr]}
more-semaphores : {ss : List Semaphore} {u : List Token} → SpellsMoreSemaphores ss u → Separated sign.Comma (Complete readers semaphore_at SemaphoreRests) ss u
more-semaphores g.no_more_semaphores = none_after
more-semaphores (g.one_more_semaphore {u = u} comma n h i d m) =
    one_after {u = n ∷ u} comma h (record { yields = λ q re. semaphore-yields n i d q re }) (more-semaphores m)

more-semaphores-below : {ts : List Semaphore} {v : List Token} → SpellsMoreSemaphores ts v → (ss : List Semaphore) (q : List Token) → Rests q
    → Below (λ r. more_semaphores_at r ss) (v ++ q) (Ok (ss ++ ts, q))
unfolding more_semaphores_at next_semaphore_at
more-semaphores-below {ts = ts} {v = v} m ss q re =
    below _ (v ++ q) _ (loop_yields is_comma (λ r. one_more sign.Comma (semaphore_at r)) ss (v ++ q) (Ok (ss ++ ts, q))
    (separated-complete readers sign.Comma semaphore_at SemaphoreRests comma-semaphores (more-semaphores m) ss q
    (record { stops = re.stops; assign = re.assign }) re.comma))

pub complete-sem : {d : SemDecl} {u : List Token} → SpellsSem d u → (q : List Token) → Rests q → Yields sem_at (u ++ q) (Ok (d, q))
unfolding sem_at
complete-sem (g.semaphores {e = e} {ss = ss} {u = u} {v = v} t n h i x m) q re =
    let s : Semaphore = record { span = n.span; name = name_of n; value = e } in
    subst (λ w. Yields sem_at (t ∷ n ∷ w) (Ok (record { span = t.span; semaphores = s ∷ ss }, q))) (sym (append_assoc u v q))
    (token_then (word_at word.Sem) _ t (n ∷ (u ++ (v ++ q))) t.span _ (word-reads word.Sem t (n ∷ (u ++ (v ++ q))) h)
    (below_then semaphore_at _ (n ∷ u) (v ++ q) s _ (below semaphore_at (n ∷ (u ++ (v ++ q))) _ (semaphore-yields n i x (v ++ q)
    (separated-end readers sign.Comma semaphore_at SemaphoreRests comma-semaphores (more-semaphores m) q (record { stops = re.stops; assign = re.assign }))))
    (below_then (λ r. more_semaphores_at r (s ∷ [])) _ v q (s ∷ ss) _ (more-semaphores-below m (s ∷ []) q re) (below_returned _ q))))
