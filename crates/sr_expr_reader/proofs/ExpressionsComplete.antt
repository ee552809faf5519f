-- What is spelled as an expression is read, where the token after it continues nothing.
use Rattle.std.proofs.Common.{◌≡◌, refl, sym, ◌∙◌, ap, subst, ℕ, ◌≤◌, false, List, [], ◌∷◌, ◌++◌, Option, Some, None, Result, Ok, append_assoc, arith}
use Rattle.sr_reader.specs.Reader.{next_is}
use Rattle.sr_reader.proofs.Soundness.{append-nil}
use Rattle.sr_tree.specs.declared.expr.Create.{Create}
use Rattle.sr_tree.specs.declared.expr.Create.TheVariants as create
use Rattle.sr_tree.specs.declared.expr.Expr.{Expr}
use Rattle.sr_tree.specs.declared.expr.Expr.TheVariants as expr
use Rattle.sr_tree.specs.declared.expr.Part.{Part}
use Rattle.sr_tree.specs.declared.token.Sign.TheVariants as sign
use Rattle.sr_tree.specs.declared.token.Token.{Token}
use Rattle.sr_tree.specs.Expressions as g
use Rattle.sr_tree.specs.Expressions.{SpellsExpr, SpellsFactor, SpellsCreate, SpellsOn, SpellsPrimary, SpellsSecond, SpellsPart, SpellsMoreParts, SpellsArguments, SpellsMoreExprs, expr_span, part, invocation}
use Rattle.sr_tree.specs.Tables.{IsSign, name_of, right_level}
use Rattle.sr_tree.specs.Tests.{is_sign}
use Rattle.sr_expr_reader.specs.Readers.{is_comma, next_argument_at, arguments_at, on_at, create_at, repeated_part_at, part_at, next_part_at, start_at, second_at, is_suffix, suffix_at, primary_at, factor_at, is_operator, operation_at, operand_at}
use Rattle.sr_expr_reader.proofs.Quiet.{QuietExpr, QuietFactor, QuietCreate, QuietOn, stops-quiet, operator-quiet, follows}
use Rattle.sr_expr_reader.proofs.TokensComplete.{is_that_sign, Stops, comma-stops, paren-stops, bracket-stops, stops-operator, continued-suffix, continued-paren, left-right}
use Rattle.sr_expr_reader.proofs.Families.{loop_stops, loop_goes}
use Rattle.sr_expr_reader.proofs.Yields.{Yields, Below, Loops, below-operand, below-factor, below-primary}
use Rattle.sr_expr_reader.proofs.ExpressionPieces.{with_primary, single-is-no-array, no-second-below, second-below, both_ways, primary-starts, create-starts, expr-opens, more-stops, parts-stop, second-stops, inner, begins, start-literal, start-name, start-basic, start-conversion, start-bracket, bracketed-group, next-argument, next-part, once-below, repeated-yields, part-at-bracket, bracketed-repeated, bracketed-several, no-arguments, some-arguments, suffix-met, index-met, call-met, field-yields, index-yields, call-yields, operation-yields, factor-operand, factor-create, factor-primary, factor-unary, factor-pending, on-yields, not-on-yields, machine-yields, resource-yields}

mutual
  unfolding QuietExpr

  pub complete-expr : {m : ℕ} {e : Expr} {u : List Token} (d : SpellsExpr m e u) (limit : ℕ) → m ≤ limit → (q : List Token) (z : Result (Expr × List Token) ℕ)
      → QuietExpr d q → Loops (is_operator limit) operation_at e q z → Yields (λ r. operand_at r limit) (u ++ q) z
  complete-expr (g.factor {u = u} d) limit i q z quiet l = factor-operand limit u q z (complete-factor d q quiet) l
  complete-expr (g.binary {a = a} {b = b} {u = u} {v = v} t o h i da db) limit j q z quiet l =
      let k = left-right o in
      subst (λ w. Yields (λ r. operand_at r limit) w z) (sym (append_assoc u (t ∷ v) q))
      (complete-expr da limit (omega (arith, i, j, k)) (t ∷ (v ++ q)) z (operator-quiet t o h (v ++ q) da (omega arith))
      (loop_goes (is_operator limit) operation_at a (expr.Binary (expr_span a) a o b) t (v ++ q) v q z refl (follows limit a u t o h (omega (arith, i, j)) da)
      (operation-yields a t o v q h (below-operand (right_level o) (v ++ q) (Ok (b, q))
      (complete-expr db (right_level o) (omega arith) q (Ok (b, q)) quiet.0 (loop_stops (is_operator (right_level o)) operation_at b q quiet.1))))
      l))

  pub complete-factor : {e : Expr} {u : List Token} (d : SpellsFactor e u) (q : List Token) → QuietFactor d q → Yields factor_at (u ++ q) (Ok (e, q))
  complete-factor (g.creates {u = u} d) q quiet = let c = create-starts d q in factor-create u q c.0 (complete-create d q quiet)
  complete-factor (g.primary {e = e} {u = u} d) q quiet =
      factor-primary u q (primary-starts d q) (complete-primary d q (Ok (e, q)) (λ c. continued-paren q quiet) (loop_stops is_suffix suffix_at e q (continued-suffix e q quiet)))
  complete-factor (g.unary {e = e} {u = u} t o h d) q quiet = factor-unary t o u q h (below-factor (u ++ q) (Ok (e, q)) (complete-factor d q quiet))
  complete-factor (g.pending t n h i) q quiet = factor-pending t n q h i

  pub complete-create : {c : Create} {u : List Token} (d : SpellsCreate c u) (q : List Token) → QuietCreate d q → Yields create_at (u ++ q) (Ok (c, q))
  complete-create (g.resource {q = x0} {es = es} {m = m} {u = u} {v = v} {w = w} t o k h n i d j on) q quiet =
      subst (λ x. Yields create_at (t ∷ x) (Ok (create.Resource t.span x0 es m, q)))
      (ap (λ x. u ++ o ∷ x) (sym (append_assoc v (k ∷ w) q)) ∙ sym (append_assoc u (o ∷ (v ++ k ∷ w)) q))
      (resource-yields t o k u v w q h n i (complete-arguments d o k (w ++ q) i j) (complete-on on q quiet))
  complete-create (g.machine t v o k h i j l) q quiet = machine-yields t v o k q h i j l

  pub complete-on : {m : Option Expr} {u : List Token} (d : SpellsOn m u) (q : List Token) → QuietOn d q → Yields on_at (u ++ q) (Ok (m, q))
  complete-on g.not_on q quiet = not-on-yields q quiet
  complete-on (g.on_machine {e = e} {u = u} t h d) q quiet =
      on-yields t u q h (below-primary (u ++ q) (Ok (e, q)) (complete-primary d q (Ok (e, q)) (λ c. continued-paren q quiet)
      (loop_stops is_suffix suffix_at e q (continued-suffix e q quiet))))

  pub complete-primary : {p : Expr} {u : List Token} (d : SpellsPrimary p u) (q : List Token) (z : Result (Expr × List Token) ℕ) → with_primary p q
      → Loops is_suffix suffix_at p q z → Yields primary_at (u ++ q) z
  complete-primary (g.literal t a h) q z c l = begins (t ∷ []) q (expr.Literal t.span a) z (start-literal t a q h) l
  complete-primary (g.name t h) q z c l = begins (t ∷ []) q (expr.Name (name_of t)) z (start-name t q h) l
  complete-primary (g.basic_type t b h) q z c l = begins (t ∷ []) q (expr.BasicType t.span b) z (start-basic t b q h c) l
  complete-primary (g.conversion {e = e} {u = u} t o k v h i d j) q z c l =
      begins (t ∷ o ∷ (u ++ k ∷ [])) q (expr.Conversion t.span v e) z
      (subst (λ w. Yields start_at (t ∷ o ∷ w) (Ok (expr.Conversion t.span v e, q))) (sym (append_assoc u (k ∷ []) q))
      (start-conversion t o k v u q h i j (inner d (k ∷ q) (paren-stops k q j) (complete-expr d 5 (omega arith))))) l
  complete-primary (g.group {e = e} {u = u} o k h d i) q z c l =
      begins (o ∷ (u ++ k ∷ [])) q (expr.Group o.span e) z
      (subst (λ w. Yields start_at (o ∷ w) (Ok (expr.Group o.span e, q))) (sym (append_assoc u (k ∷ []) q))
      (start-bracket o (u ++ k ∷ q) _ h (bracketed-group o k u q h i (expr-opens d (k ∷ q)) (inner d (k ∷ q) (paren-stops k q i) (complete-expr d 5 (omega arith)))))) l
  complete-primary (g.parts {ps = ps} {v = v} o k h (g.repeated {c = n} {e = e} {u = nu} {v = ev} b kb j dn x de) m a i) q z c l =
      begins (o ∷ ((b ∷ (nu ++ kb ∷ ev)) ++ (v ++ k ∷ []))) q (expr.Parts o.span (part b.span (Some n) e ∷ ps)) z
      (subst (λ w. Yields start_at (o ∷ w) (Ok (expr.Parts o.span (part b.span (Some n) e ∷ ps), q)))
      (ap (λ x. b ∷ ((nu ++ kb ∷ ev) ++ x)) (sym (append_assoc v (k ∷ []) q)) ∙ sym (append_assoc (b ∷ (nu ++ kb ∷ ev)) (v ++ k ∷ []) q))
      (start-bracket o (b ∷ ((nu ++ kb ∷ ev) ++ (v ++ k ∷ q))) _ h
      (bracketed-repeated o b k (nu ++ kb ∷ ev) v q h j i
      (subst (λ w. Yields repeated_part_at (b ∷ w) (Ok (part b.span (Some n) e, v ++ k ∷ q))) (sym (append_assoc nu (kb ∷ ev) (v ++ k ∷ q)))
      (repeated-yields b kb nu ev (v ++ k ∷ q) j x
      (inner dn (kb ∷ (ev ++ (v ++ k ∷ q))) (bracket-stops kb (ev ++ (v ++ k ∷ q)) x) (complete-expr dn 5 (omega arith)))
      (inner de (v ++ k ∷ q) (parts-stop m k q i) (complete-expr de 5 (omega arith)))))
      (complete-more-parts m (part b.span (Some n) e ∷ []) k q i)))) l
  complete-primary (g.parts o k h (g.once {e = e} d) g.no_more_parts a i) q z c l = absurd (single-is-no-array (expr_span e) e a)
  complete-primary (g.parts o k h (g.once {e = e} {u = u} d) (g.one_more_part {p = p} {ps = ps} {u = pu} {v = pv} comma j dp m) a i) q z c l =
      begins (o ∷ (u ++ ((comma ∷ (pu ++ pv)) ++ k ∷ []))) q (expr.Parts o.span (part (expr_span e) None e ∷ p ∷ ps)) z
      (subst (λ w. Yields start_at (o ∷ w) (Ok (expr.Parts o.span (part (expr_span e) None e ∷ p ∷ ps), q)))
      (ap (λ x. u ++ comma ∷ x) (sym (append_assoc pu pv (k ∷ q)) ∙ sym (append_assoc (pu ++ pv) (k ∷ []) q)) ∙ sym (append_assoc u ((comma ∷ (pu ++ pv)) ++ k ∷ []) q))
      (start-bracket o (u ++ comma ∷ (pu ++ (pv ++ k ∷ q))) _ h
      (bracketed-several o comma k u pu pv q h j i (expr-opens d (comma ∷ (pu ++ (pv ++ k ∷ q))))
      (inner d (comma ∷ (pu ++ (pv ++ k ∷ q))) (comma-stops comma (pu ++ (pv ++ k ∷ q)) j) (complete-expr d 5 (omega arith)))
      (complete-part dp (pv ++ k ∷ q) (parts-stop m k q i))
      (complete-more-parts m (part (expr_span e) None e ∷ p ∷ []) k q i)))) l
  complete-primary (g.field {p = p} {u = u} t n d h i) q z c l =
      subst (λ w. Yields primary_at w z) (sym (append_assoc u (t ∷ n ∷ []) q))
      (complete-primary d (t ∷ n ∷ q) z (λ e. ap (is_sign sign.OpenParen) h)
      (loop_goes is_suffix suffix_at p (expr.Field (expr_span p) p (name_of n)) t (n ∷ q) (n ∷ []) q z refl (suffix-met p t h) (field-yields p t n q h i) l))
  complete-primary (g.index {p = p} {e = e} {second = s} {u = u} {v = v} {w = w} o k d h f sd i) q z c l =
      subst (λ x. Yields primary_at x z) (sym (append_assoc u (o ∷ (v ++ (w ++ k ∷ []))) q))
      (complete-primary d (o ∷ ((v ++ (w ++ k ∷ [])) ++ q)) z (λ x. ap (is_sign sign.OpenParen) h)
      (loop_goes is_suffix suffix_at p (expr.Index (expr_span p) p e s) o ((v ++ (w ++ k ∷ [])) ++ q) (v ++ (w ++ k ∷ [])) q z refl (index-met p o h)
      (subst (λ x. Yields (λ r. suffix_at r p) (o ∷ x) (Ok (expr.Index (expr_span p) p e s, q)))
      (ap (λ x. v ++ x) (sym (append_assoc w (k ∷ []) q)) ∙ sym (append_assoc v (w ++ k ∷ []) q))
      (index-yields p e s o k v w q h i (inner f (w ++ k ∷ q) (second-stops sd k q i) (complete-expr f 5 (omega arith))) (complete-second sd (k ∷ q) (bracket-stops k q i) (ap (is_sign sign.Comma) i))))
      l))
  complete-primary (g.call {p = p} {es = es} {u = u} {v = v} o k d n h a i) q z c l =
      subst (λ x. Yields primary_at x z) (sym (append_assoc u (o ∷ (v ++ k ∷ [])) q))
      (complete-primary d (o ∷ ((v ++ k ∷ []) ++ q)) z (λ x. absurd (both_ways p x n))
      (loop_goes is_suffix suffix_at p (expr.Call (invocation p es)) o ((v ++ k ∷ []) ++ q) (v ++ k ∷ []) q z refl (call-met p o n h)
      (call-yields p es o (v ++ k ∷ []) q n h
      (subst (λ x. Yields arguments_at (o ∷ x) (Ok (es, q))) (sym (append_assoc v (k ∷ []) q)) (complete-arguments a o k q h i)))
      l))

  complete-second : {m : Option Expr} {v : List Token} (d : SpellsSecond m v) (q : List Token) → Stops q → next_is (λ t. is_sign sign.Comma t.kind) q ≡ false
      → Below second_at (v ++ q) (Ok (m, q))
  complete-second g.no_second q st e = no-second-below q e
  complete-second (g.second {e = a} {u = u} comma h d) q st e = second-below a comma u q h (inner d q st (complete-expr d 5 (omega arith)))

  complete-part : {p : Part} {u : List Token} (d : SpellsPart p u) (q : List Token) → Stops q → Below part_at (u ++ q) (Ok (p, q))
  complete-part (g.once {u = u} d) q st = once-below u q (expr-opens d q) (inner d q st (complete-expr d 5 (omega arith)))
  complete-part (g.repeated {c = c} {e = e} {u = u} {v = v} o k h d i f) q st =
      subst (λ w. Below part_at (o ∷ w) (Ok (part o.span (Some c) e, q))) (sym (append_assoc u (k ∷ v) q))
      (part-at-bracket o (u ++ k ∷ (v ++ q)) _ h
      (repeated-yields o k u v q h i (inner d (k ∷ (v ++ q)) (bracket-stops k (v ++ q) i) (complete-expr d 5 (omega arith))) (inner f q st (complete-expr f 5 (omega arith)))))

  complete-more-parts : {qs : List Part} {v : List Token} (d : SpellsMoreParts qs v) (ps : List Part) (k : Token) (q : List Token) → IsSign sign.CloseParen k
      → Loops is_comma next_part_at ps (v ++ k ∷ q) (Ok (ps ++ qs, k ∷ q))
  complete-more-parts g.no_more_parts ps k q h =
      subst (λ x. Loops is_comma next_part_at ps (k ∷ q) (Ok (x, k ∷ q))) (sym (append-nil ps)) (loop_stops is_comma next_part_at ps (k ∷ q) (ap (is_sign sign.Comma) h))
  complete-more-parts (g.one_more_part {p = p} {ps = qs} {u = u} {v = v} comma h d m) ps k q i =
      subst (λ w. Loops is_comma next_part_at ps (comma ∷ w) (Ok (ps ++ p ∷ qs, k ∷ q))) (sym (append_assoc u v (k ∷ q)))
      (loop_goes is_comma next_part_at ps (ps ++ p ∷ []) comma (u ++ (v ++ k ∷ q)) u (v ++ k ∷ q) _ refl (is_that_sign sign.Comma comma h)
      (next-part ps comma u (v ++ k ∷ q) h (complete-part d (v ++ k ∷ q) (parts-stop m k q i)))
      (subst (λ x. Loops is_comma next_part_at (ps ++ p ∷ []) (v ++ k ∷ q) (Ok (x, k ∷ q))) (append_assoc ps (p ∷ []) qs) (complete-more-parts m (ps ++ p ∷ []) k q i)))

  complete-arguments : {es : List Expr} {v : List Token} (d : SpellsArguments es v) (o k : Token) (q : List Token) → IsSign sign.OpenParen o → IsSign sign.CloseParen k
      → Yields arguments_at (o ∷ (v ++ k ∷ q)) (Ok (es, q))
  complete-arguments g.no_arguments o k q h i = no-arguments o k q h i
  complete-arguments (g.arguments {e = e} {es = es} {u = u} {v = v} d m) o k q h i =
      subst (λ w. Yields arguments_at (o ∷ w) (Ok (e ∷ es, q))) (sym (append_assoc u v (k ∷ q)))
      (some-arguments o k u v q h i (expr-opens d (v ++ k ∷ q)) (inner d (v ++ k ∷ q) (more-stops m k q i) (complete-expr d 5 (omega arith))) (complete-more-exprs m (e ∷ []) k q i))

  complete-more-exprs : {gs : List Expr} {v : List Token} (d : SpellsMoreExprs gs v) (es : List Expr) (k : Token) (q : List Token) → IsSign sign.CloseParen k
      → Loops is_comma next_argument_at es (v ++ k ∷ q) (Ok (es ++ gs, k ∷ q))
  complete-more-exprs g.no_more_exprs es k q h =
      subst (λ x. Loops is_comma next_argument_at es (k ∷ q) (Ok (x, k ∷ q))) (sym (append-nil es)) (loop_stops is_comma next_argument_at es (k ∷ q) (ap (is_sign sign.Comma) h))
  complete-more-exprs (g.one_more_expr {e = e} {es = gs} {u = u} {v = v} comma h d m) es k q i =
      subst (λ w. Loops is_comma next_argument_at es (comma ∷ w) (Ok (es ++ e ∷ gs, k ∷ q))) (sym (append_assoc u v (k ∷ q)))
      (loop_goes is_comma next_argument_at es (es ++ e ∷ []) comma (u ++ (v ++ k ∷ q)) u (v ++ k ∷ q) _ refl (is_that_sign sign.Comma comma h)
      (next-argument es comma u (v ++ k ∷ q) h (inner d (v ++ k ∷ q) (more-stops m k q i) (complete-expr d 5 (omega arith))))
      (subst (λ x. Loops is_comma next_argument_at (es ++ e ∷ []) (v ++ k ∷ q) (Ok (x, k ∷ q))) (append_assoc es (e ∷ []) gs) (complete-more-exprs m (es ++ e ∷ []) k q i)))

-- an expression in front of a token that can't continue it
pub complete-operand : {e : Expr} {u : List Token} (d : SpellsExpr 5 e u) (q : List Token) → Stops q → Yields (λ r. operand_at r 5) (u ++ q) (Ok (e, q))
complete-operand {e = e} d q st = complete-expr d 5 (omega arith) q (Ok (e, q)) (stops-quiet d q st) (loop_stops (is_operator 5) operation_at e q (stops-operator 5 e q st))

pub operand-below : {e : Expr} {u : List Token} (d : SpellsExpr 5 e u) (q : List Token) → Stops q → Below (λ r. r.operand 5) (u ++ q) (Ok (e, q))
operand-below {e = e} {u = u} d q st = below-operand 5 (u ++ q) (Ok (e, q)) (complete-operand d q st)
