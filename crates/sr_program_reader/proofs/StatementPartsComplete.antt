-- What is spelled as a part of a statement is read, where the token after it continues nothing.
use Rattle.std.proofs.Common.{◌≡◌, refl, sym, ◌∙◌, ap, subst, ℕ, Bool, false, List, [], ◌∷◌, ◌++◌, length, Option, Some, None, Ok, ◌⊎◌, inl, inr, append_assoc}
use Rattle.std.specs.Prelude.{is_some, option_map}
use Rattle.sr_reader.specs.Reader.{returned, ◌>>=◌, given, next_is}
use Rattle.sr_value.specs.declared.place.Span.{Span}
use Rattle.sr_tree.specs.declared.expr.Expr.{Expr}
use Rattle.sr_tree.specs.declared.expr.Expr.TheVariants as expr
use Rattle.sr_tree.specs.declared.expr.Invocation.{Invocation}
use Rattle.sr_tree.specs.declared.name.Name.{Name}
use Rattle.sr_tree.specs.declared.statement.ArmCondition.{ArmCondition}
use Rattle.sr_tree.specs.declared.statement.ConditionWord.{ConditionWord}
use Rattle.sr_tree.specs.declared.statement.Direction.{Direction}
use Rattle.sr_tree.specs.declared.statement.Quantifier.{Quantifier}
use Rattle.sr_tree.specs.declared.token.Sign.TheVariants as sign
use Rattle.sr_tree.specs.declared.token.Token.{Token}
use Rattle.sr_tree.specs.declared.token.TokenKind.{TokenKind}
use Rattle.sr_tree.specs.declared.token.TokenKind.TheVariants as kind
use Rattle.sr_tree.specs.declared.token.Word.{Word}
use Rattle.sr_tree.specs.declared.token.Word.TheVariants as word
use Rattle.sr_tree.specs.Expressions.{SpellsPrimary}
use Rattle.sr_tree.specs.Statements as s
use Rattle.sr_tree.specs.Statements.{SpellsNamed, SpellsInvocation, SpellsStatus, SpellsMorePlaces, SpellsPlaces, SpellsBy, SpellsSuchThat, SpellsQuantifier, SpellsMoreQuantifiers, SpellsQuantifiers, SpellsOptionalNames, SpellsReturnedName, SpellsCondition, SpellsOptionalQuantifiers, SpellsCoStart, direction_of, condition_word_of}
use Rattle.sr_tree.specs.Tables.{IsSign, IsWord, name_of}
use Rattle.sr_tree.specs.Tests.{is_sign, is_word, is_name}
use Rattle.sr_expr_reader.specs.Readers.{readers, is_suffix, suffix_at, primary_at, operand_at}
use Rattle.sr_tree.specs.Tokens.{sign_at, word_at, name_at}
use Rattle.sr_expr_reader.specs.TypeReaders.{names_at}
use Rattle.sr_expr_reader.proofs.DeclsComplete.{complete-names, names-first}
use Rattle.sr_expr_reader.proofs.ExpressionEdges.{primary-begins, begins-no-sign, continues_expr, token-stops}
use Rattle.sr_expr_reader.proofs.ExpressionsComplete.{complete-operand, complete-primary}
use Rattle.sr_expr_reader.proofs.Families.{YieldsIn, below, token_then, below_token, below_then, yields_then, below_returned, yields_returned, yields_met, yields_unmet, below_met, below_unmet, loop_stops}
use Rattle.sr_expr_reader.proofs.TokensSound.{none_some}
use Rattle.sr_expr_reader.proofs.TokensComplete.{Stops, is_that_sign, is_that_word, sign-reads, word-reads, name-reads, comma-stops, paren-stops, continues, stops-continued, continued-suffix, continued-paren}
use Rattle.sr_expr_reader.proofs.Yields.{Yields, loop_yields}
use Rattle.sr_program_reader.specs.StatementReaders.{token_direction, direction_at, token_condition, condition_word_at, named_at, invocation_of, invoked_at, invocation_at, status_at, next_place_at, more_places_at, places_at, by_at, such_that_at, quantifier_at, next_quantifier_at, more_quantifiers_at, quantifiers_at, enclosed_quantifiers_at, optional_quantifiers_at, optional_names_at, enclosed_names_at, returned_name_at, condition_at, co_start_at}
use Rattle.sr_program_reader.proofs.Separated.{Separated, none_after, one_after, Complete, is_next_sign, one_more, separated-end, separated-complete}
use Rattle.sr_program_reader.proofs.StatementEnds.{direction-stops}
use Rattle.sr_program_reader.proofs.StatementPartsSound.{quantifier_of}
use Rattle.sr_program_reader.proofs.StatementStarts.{call-is-invocation}

-- ---- primaries and invocations

pub primary-yields : {e : Expr} {u : List Token} → SpellsPrimary e u → (q : List Token) → next_is continues q ≡ false → Yields primary_at (u ++ q) (Ok (e, q))
primary-yields {e = e} d q c = complete-primary d q (Ok (e, q)) (λ x. continued-paren q c) (loop_stops is_suffix suffix_at e q (continued-suffix e q c))

named-yields : {e : Expr} {u : List Token} → SpellsNamed e u → (q : List Token) → next_is continues q ≡ false → Yields named_at (u ++ q) (Ok (e, q))
unfolding named_at
named-yields (s.named {u = u} n h d) q c = yields_met (λ t. is_name t.kind) primary_at _ (n ∷ (u ++ q)) _ (ap is_name h) (primary-yields d q c)

pub start-yields : {e : Expr} {u : List Token} (start : Option Span) → SpellsCoStart (is_some start) e u → (q : List Token) → next_is continues q ≡ false
    → Yields (co_start_at start) (u ++ q) (Ok (e, q))
unfolding co_start_at
start-yields None (s.begins_arm d) q c = named-yields d q c
start-yields (Some before) (s.after_quantifiers d) q c = primary-yields d q c

pub invoked-yields : {R : Type 0} {family : ℕ → R} (i : Invocation) (q : List Token) → YieldsIn family (λ r. invoked_at (invocation_of (expr.Call i))) q (Ok (i, q))
unfolding invoked_at
invoked-yields i q = record { gives = λ k h. ap (λ m. invoked_at m q) (call-is-invocation i) }

pub invocation-yields : {i : Invocation} {u : List Token} → SpellsInvocation i u → (q : List Token) → next_is continues q ≡ false → Yields invocation_at (u ++ q) (Ok (i, q))
unfolding invocation_at
invocation-yields {i = i} {u = u} (s.invocation d) q c =
    yields_then primary_at (λ r e. invoked_at (invocation_of e)) u q (expr.Call i) _ (primary-yields d q c) (invoked-yields i q)

pub status-yields : {m : Option Expr} {u : List Token} → SpellsStatus m u → (q : List Token) → next_is (λ t. is_sign sign.OpenParen t.kind) q ≡ false
    → Yields status_at (u ++ q) (Ok (m, q))
unfolding status_at
status-yields s.no_status q h = yields_unmet _ _ _ q _ h (yields_returned None q)
status-yields (s.status {e = e} {u = u} o k h d i) q n =
    subst (λ w. Yields status_at (o ∷ w) (Ok (Some e, q))) (sym (append_assoc u (k ∷ []) q))
    (yields_met _ _ _ (o ∷ (u ++ k ∷ q)) _ (is_that_sign sign.OpenParen o h)
    (token_then (sign_at sign.OpenParen) _ o (u ++ k ∷ q) o.span _ (sign-reads sign.OpenParen o (u ++ k ∷ q) h)
    (below_then (λ r. operand_at r 5) _ u (k ∷ q) e _ (below _ (u ++ k ∷ q) _ (complete-operand d (k ∷ q) (paren-stops k q i)))
    (below_token (sign_at sign.CloseParen) _ k q k.span _ (sign-reads sign.CloseParen k q i) (below_returned (Some e) q)))))

-- ---- places

-- what may stand after a primary
abbrev Continued : List Token → Type 0
Continued q = next_is continues q ≡ false

comma-continues : (t : Token) (q : List Token) → IsSign sign.Comma t → Continued (t ∷ q)
comma-continues t q h = stops-continued (t ∷ q) (comma-stops t q h)

more-places : {es : List Expr} {v : List Token} → SpellsMorePlaces es v → Separated sign.Comma (Complete readers primary_at Continued) es v
more-places s.no_more_places = none_after
more-places (s.one_more_place t h d m) = one_after t h (record { yields = primary-yields d }) (more-places m)

pub places-yields : {es : List Expr} {u : List Token} → SpellsPlaces es u → (o k : Token) (q : List Token) → IsSign sign.OpenParen o → IsSign sign.CloseParen k
    → Yields places_at (o ∷ (u ++ k ∷ q)) (Ok (es, q))
unfolding places_at more_places_at next_place_at
places-yields s.no_places o k q h i =
    token_then (sign_at sign.OpenParen) _ o (k ∷ q) o.span _ (sign-reads sign.OpenParen o (k ∷ q) h)
    (below_met _ _ _ (k ∷ q) _ (is_that_sign sign.CloseParen k i)
    (below_token (sign_at sign.CloseParen) _ k q k.span _ (sign-reads sign.CloseParen k q i) (below_returned [] q)))
places-yields (s.places {e = e} {es = es} {u = u} {v = v} d m) o k q h i =
    let c = stops-continued (k ∷ q) (paren-stops k q i) in
    subst (λ w. Yields places_at (o ∷ w) (Ok (e ∷ es, q))) (sym (append_assoc u v (k ∷ q)))
    (token_then (sign_at sign.OpenParen) _ o (u ++ (v ++ k ∷ q)) o.span _ (sign-reads sign.OpenParen o (u ++ (v ++ k ∷ q)) h)
    (below_unmet _ _ _ (u ++ (v ++ k ∷ q)) _ (begins-no-sign sign.CloseParen (u ++ (v ++ k ∷ q)) refl (primary-begins d (v ++ k ∷ q)))
    (below_then primary_at _ u (v ++ k ∷ q) e _
    (below primary_at (u ++ (v ++ k ∷ q)) _ (primary-yields d (v ++ k ∷ q) (separated-end readers sign.Comma primary_at Continued comma-continues (more-places m) (k ∷ q) c)))
    (below_then _ _ v (k ∷ q) (e ∷ es) _
    (below _ (v ++ k ∷ q) _ (loop_yields (is_next_sign sign.Comma) (λ r. one_more sign.Comma (primary_at r)) (e ∷ []) (v ++ k ∷ q) _
    (separated-complete readers sign.Comma primary_at Continued comma-continues (more-places m) (e ∷ []) (k ∷ q) c (ap (is_sign sign.Comma) i))))
    (below_token (sign_at sign.CloseParen) _ k q k.span _ (sign-reads sign.CloseParen k q i) (below_returned (e ∷ es) q))))))

-- ---- quantifiers

-- what stands next, where an optional part begins with a word
pub by-first : {m : Option Expr} {u : List Token} → SpellsBy m u → (f : TokenKind → Bool) (b : Bool) → f (kind.Word word.By) ≡ b → (q : List Token)
    → next_is (λ t. f t.kind) q ≡ b → next_is (λ t. f t.kind) (u ++ q) ≡ b
by-first s.no_by f b e q h = h
by-first (s.by t i d) f b e q h = ap f i ∙ e

pub such-that-first : {m : Option Expr} {u : List Token} → SpellsSuchThat m u → (f : TokenKind → Bool) (b : Bool) → f (kind.Word word.St) ≡ b → (q : List Token)
    → next_is (λ t. f t.kind) q ≡ b → next_is (λ t. f t.kind) (u ++ q) ≡ b
such-that-first s.no_such_that f b e q h = h
such-that-first (s.such_that t i d) f b e q h = ap f i ∙ e

pub by-stops : {m : Option Expr} {u : List Token} → SpellsBy m u → (q : List Token) → Stops q → Stops (u ++ q)
by-stops s.no_by q st = st
by-stops (s.by {u = u} t h d) q st = token-stops t (u ++ q) (ap continues_expr h)

pub such-that-stops : {m : Option Expr} {u : List Token} → SpellsSuchThat m u → (q : List Token) → Stops q → Stops (u ++ q)
such-that-stops s.no_such_that q st = st
such-that-stops (s.such_that {u = u} t h d) q st = token-stops t (u ++ q) (ap continues_expr h)

pub by-yields : {m : Option Expr} {u : List Token} → SpellsBy m u → (q : List Token) → Stops q → next_is (λ t. is_word word.By t.kind) q ≡ false
    → Yields by_at (u ++ q) (Ok (m, q))
unfolding by_at
by-yields s.no_by q st h = yields_unmet _ _ _ q _ h (yields_returned None q)
by-yields (s.by {e = e} {u = u} t h d) q st n =
    yields_met _ _ _ (t ∷ (u ++ q)) _ (is_that_word word.By t h)
    (token_then (word_at word.By) _ t (u ++ q) t.span _ (word-reads word.By t (u ++ q) h)
    (below_then (λ r. operand_at r 5) _ u q e _ (below _ (u ++ q) _ (complete-operand d q st)) (below_returned (Some e) q)))

pub such-that-yields : {m : Option Expr} {u : List Token} → SpellsSuchThat m u → (q : List Token) → Stops q → next_is (λ t. is_word word.St t.kind) q ≡ false
    → Yields such_that_at (u ++ q) (Ok (m, q))
unfolding such_that_at
such-that-yields s.no_such_that q st h = yields_unmet _ _ _ q _ h (yields_returned None q)
such-that-yields (s.such_that {e = e} {u = u} t h d) q st n =
    yields_met _ _ _ (t ∷ (u ++ q)) _ (is_that_word word.St t h)
    (token_then (word_at word.St) _ t (u ++ q) t.span _ (word-reads word.St t (u ++ q) h)
    (below_then (λ r. operand_at r 5) _ u q e _ (below _ (u ++ q) _ (complete-operand d q st)) (below_returned (Some e) q)))

direction-reads : (t : Token) (w : Word) (d : Direction) (q : List Token) → IsWord w t → direction_of w ≡ Some d → direction_at (t ∷ q) ≡ Ok (d, q)
unfolding direction_at
direction-reads t w d q h e = ap (λ m. given m q (length (t ∷ q))) (ap token_direction h ∙ e)

-- what may stand after a quantifier
pub record QuantifierEnds (q : List Token) : Type 0 where
  pub stops : Stops q
  pub by : next_is (λ t. is_word word.By t.kind) q ≡ false
  pub such_that : next_is (λ t. is_word word.St t.kind) q ≡ false

comma-ends : (t : Token) (q : List Token) → IsSign sign.Comma t → QuantifierEnds (t ∷ q)
comma-ends t q h = record { stops = comma-stops t q h; by = ap (is_word word.By) h; such_that = ap (is_word word.St) h }

paren-ends : (t : Token) (q : List Token) → IsSign sign.CloseParen t → QuantifierEnds (t ∷ q)
paren-ends t q h = record { stops = paren-stops t q h; by = ap (is_word word.By) h; such_that = ap (is_word word.St) h }

-- the tokens of a quantifier, grouped to the right
grouped : (u : List Token) (t : Token) (v x y z : List Token) → (u ++ t ∷ (v ++ (x ++ y))) ++ z ≡ u ++ t ∷ (v ++ (x ++ (y ++ z)))
grouped u t v x y z = append_assoc u (t ∷ (v ++ (x ++ y))) z ∙ ap (λ w. u ++ t ∷ w) (append_assoc v (x ++ y) z ∙ ap (λ w. v ++ w) (append_assoc x y z))

quantifier-yields : {a : Quantifier} {u : List Token} → SpellsQuantifier a u → (q : List Token) → QuantifierEnds q → Yields quantifier_at (u ++ q) (Ok (a, q))
unfolding quantifier_at
quantifier-yields (s.quantifier {first = first} {last = last} {step = step} {such_that = such_that} {u = u} {v = v} {x = x} {y = y} n b t w d h i e j k f steps such) q ends =
    let stops : Stops (y ++ q) = such-that-stops such q ends.stops in
    subst (λ w. Yields quantifier_at (n ∷ b ∷ w) (Ok (quantifier_of (name_of n) first d last step such_that, q))) (sym (grouped u t v x y q))
    (token_then name_at _ n (b ∷ (u ++ t ∷ (v ++ (x ++ (y ++ q))))) (name_of n) _ (name-reads n (b ∷ (u ++ t ∷ (v ++ (x ++ (y ++ q))))) h)
    (below_token (sign_at sign.Assign) _ b (u ++ t ∷ (v ++ (x ++ (y ++ q)))) b.span _ (sign-reads sign.Assign b (u ++ t ∷ (v ++ (x ++ (y ++ q)))) i)
    (below_then (λ r. operand_at r 5) _ u (t ∷ (v ++ (x ++ (y ++ q)))) first _
    (below _ (u ++ t ∷ (v ++ (x ++ (y ++ q)))) _ (complete-operand e (t ∷ (v ++ (x ++ (y ++ q)))) (direction-stops t (v ++ (x ++ (y ++ q))) w d j k)))
    (below_token direction_at _ t (v ++ (x ++ (y ++ q))) d _ (direction-reads t w d (v ++ (x ++ (y ++ q))) j k)
    (below_then (λ r. operand_at r 5) _ v (x ++ (y ++ q)) last _ (below _ (v ++ (x ++ (y ++ q))) _ (complete-operand f (x ++ (y ++ q)) (by-stops steps (y ++ q) stops)))
    (below_then by_at _ x (y ++ q) step _ (below by_at (x ++ (y ++ q)) _ (by-yields steps (y ++ q) stops (such-that-first such (is_word word.By) false refl q ends.by)))
    (below_then such_that_at _ y q such_that _ (below such_that_at (y ++ q) _ (such-that-yields such q ends.stops ends.such_that)) (below_returned _ q))))))))

more-quantifiers : {qs : List Quantifier} {v : List Token} → SpellsMoreQuantifiers qs v → Separated sign.Comma (Complete readers quantifier_at QuantifierEnds) qs v
more-quantifiers s.no_more_quantifiers = none_after
more-quantifiers (s.one_more_quantifier t h d m) = one_after t h (record { yields = quantifier-yields d }) (more-quantifiers m)

pub quantifiers-yields : {qs : List Quantifier} {u : List Token} → SpellsQuantifiers qs u → (q : List Token) → QuantifierEnds q
    → next_is (λ t. is_sign sign.Comma t.kind) q ≡ false → Yields quantifiers_at (u ++ q) (Ok (qs, q))
unfolding quantifiers_at more_quantifiers_at next_quantifier_at
quantifiers-yields (s.quantifiers {q = a} {qs = qs} {u = u} {v = v} d m) q ends n =
    subst (λ w. Yields quantifiers_at w (Ok (a ∷ qs, q))) (sym (append_assoc u v q))
    (yields_then quantifier_at _ u (v ++ q) a _
    (quantifier-yields d (v ++ q) (separated-end readers sign.Comma quantifier_at QuantifierEnds comma-ends (more-quantifiers m) q ends))
    (loop_yields (is_next_sign sign.Comma) (λ r. one_more sign.Comma (quantifier_at r)) (a ∷ []) (v ++ q) _
    (separated-complete readers sign.Comma quantifier_at QuantifierEnds comma-ends (more-quantifiers m) (a ∷ []) q ends n)))

pub complete-quantifiers : {qs : List Quantifier} {u : List Token} → SpellsQuantifiers qs u → (q : List Token) → Stops q → next_is (λ t. is_sign sign.Comma t.kind) q ≡ false
    → next_is (λ t. is_word word.By t.kind) q ≡ false → next_is (λ t. is_word word.St t.kind) q ≡ false → Yields quantifiers_at (u ++ q) (Ok (qs, q))
complete-quantifiers d q st comma by such = quantifiers-yields d q (record { stops = st; by = by; such_that = such }) comma

pub enclosed-quantifiers-yields : {qs : List Quantifier} {u : List Token} → SpellsQuantifiers qs u → (o k : Token) (q : List Token) → IsSign sign.OpenParen o
    → IsSign sign.CloseParen k → Yields enclosed_quantifiers_at (o ∷ (u ++ k ∷ q)) (Ok ((o.span, qs), q))
unfolding enclosed_quantifiers_at
enclosed-quantifiers-yields {qs = qs} {u = u} d o k q h i =
    token_then (sign_at sign.OpenParen) _ o (u ++ k ∷ q) o.span _ (sign-reads sign.OpenParen o (u ++ k ∷ q) h)
    (below_then quantifiers_at _ u (k ∷ q) qs _ (below quantifiers_at (u ++ k ∷ q) _ (quantifiers-yields d (k ∷ q) (paren-ends k q i) (ap (is_sign sign.Comma) i)))
    (below_token (sign_at sign.CloseParen) _ k q k.span _ (sign-reads sign.CloseParen k q i) (below_returned (o.span, qs) q)))

pub complete-optional-quantifiers : {qs : List Quantifier} {u : List Token} → SpellsOptionalQuantifiers qs u → (q : List Token)
    → next_is (λ t. is_sign sign.OpenParen t.kind) q ≡ false → Yields optional_quantifiers_at (u ++ q) (Ok (qs, q))
unfolding optional_quantifiers_at
complete-optional-quantifiers s.no_quantifiers q n = yields_unmet _ _ _ q _ n (yields_returned [] q)
complete-optional-quantifiers (s.some_quantifiers {qs = qs} {u = u} o k h d i) q n =
    subst (λ w. Yields optional_quantifiers_at (o ∷ w) (Ok (qs, q))) (sym (append_assoc u (k ∷ []) q))
    (yields_met _ _ _ (o ∷ (u ++ k ∷ q)) _ (is_that_sign sign.OpenParen o h)
    (subst (λ w. Yields (λ r. enclosed_quantifiers_at r >>= (λ x. returned x.1)) (o ∷ w) (Ok (qs, q))) (append_assoc u (k ∷ []) q)
    (yields_then enclosed_quantifiers_at _ (o ∷ (u ++ k ∷ [])) q (o.span, qs) _
    (subst (λ w. Yields enclosed_quantifiers_at (o ∷ w) (Ok ((o.span, qs), q))) (sym (append_assoc u (k ∷ []) q)) (enclosed-quantifiers-yields d o k q h i))
    (yields_returned qs q))))

-- ---- heads of arms

optional-names-yields : {ns : List Name} {u : List Token} → SpellsOptionalNames ns u → (k : Token) (q : List Token) → IsSign sign.CloseParen k
    → Yields optional_names_at (u ++ k ∷ q) (Ok (ns, k ∷ q))
unfolding optional_names_at
optional-names-yields s.no_names k q h = yields_unmet _ names_at _ (k ∷ q) _ (ap is_name h) (yields_returned [] (k ∷ q))
optional-names-yields (s.some_names {u = u} d) k q h =
    yields_met _ names_at _ (u ++ k ∷ q) _ (names-first d is_name (k ∷ q)) (complete-names d (k ∷ q) (ap (is_sign sign.Comma) h))

pub complete-enclosed-names : {ns : List Name} {u : List Token} → SpellsOptionalNames ns u → (o k : Token) (q : List Token) → IsSign sign.OpenParen o
    → IsSign sign.CloseParen k → Yields enclosed_names_at (o ∷ (u ++ k ∷ q)) (Ok (ns, q))
unfolding enclosed_names_at
complete-enclosed-names {ns = ns} {u = u} d o k q h i =
    token_then (sign_at sign.OpenParen) _ o (u ++ k ∷ q) o.span _ (sign-reads sign.OpenParen o (u ++ k ∷ q) h)
    (below_then optional_names_at _ u (k ∷ q) ns _ (below optional_names_at (u ++ k ∷ q) _ (optional-names-yields d k q i))
    (below_token (sign_at sign.CloseParen) _ k q k.span _ (sign-reads sign.CloseParen k q i) (below_returned ns q)))

pub complete-returned-name : {R : Type 0} {family : ℕ → R} {m : Option Name} {u : List Token} → SpellsReturnedName m u → (q : List Token)
    → next_is (λ t. is_word word.Returns t.kind) q ≡ false → YieldsIn family (λ r. returned_name_at) (u ++ q) (Ok (m, q))
unfolding returned_name_at
complete-returned-name s.no_returned_name q n = yields_unmet _ (λ r. _) _ q _ n (yields_returned None q)
complete-returned-name (s.returned_name t n h i) q e =
    yields_met _ _ (λ r. _) (t ∷ n ∷ q) _ (is_that_word word.Returns t h)
    (token_then (word_at word.Returns) _ t (n ∷ q) t.span _ (word-reads word.Returns t (n ∷ q) h)
    (below_token name_at _ n q (name_of n) _ (name-reads n q i) (below_returned (Some (name_of n)) q)))

condition-words : (w : Word) (c : ConditionWord) → condition_word_of w ≡ Some c → (w ≡ word.And) ⊎ (w ≡ word.St)
condition-words word.And c e = inl refl
condition-words word.St c e = inr refl
condition-words _ c e = absurd (none_some c e)

pub condition-first : {m : Option ArmCondition} {u : List Token} → SpellsCondition m u → (f : TokenKind → Bool) (b : Bool) → f (kind.Word word.And) ≡ b
    → f (kind.Word word.St) ≡ b → (q : List Token) → next_is (λ t. f t.kind) q ≡ b → next_is (λ t. f t.kind) (u ++ q) ≡ b
condition-first s.no_condition f b d e q h = h
condition-first (s.on_condition t w c i j x) f b d e q h = go (condition-words w c j)
  where
    go : (w ≡ word.And) ⊎ (w ≡ word.St) → f t.kind ≡ b
    go (inl y) = ap f i ∙ ap (λ w. f (kind.Word w)) y ∙ d
    go (inr y) = ap f i ∙ ap (λ w. f (kind.Word w)) y ∙ e

condition-reads : (t : Token) (w : Word) (c : ConditionWord) (q : List Token) → IsWord w t → condition_word_of w ≡ Some c → condition_word_at (t ∷ q) ≡ Ok ((t.span, c), q)
unfolding condition_word_at
condition-reads t w c q h e = ap (λ m. given (option_map (λ x. (t.span, x)) m) q (length (t ∷ q))) (ap token_condition h ∙ e)

pub condition-yields : {m : Option ArmCondition} {u : List Token} → SpellsCondition m u → (q : List Token) → Stops q
    → next_is (λ t. is_some (token_condition t.kind)) q ≡ false → Yields condition_at (u ++ q) (Ok (m, q))
unfolding condition_at
condition-yields s.no_condition q st n = yields_unmet _ _ _ q _ n (yields_returned None q)
condition-yields (s.on_condition {e = e} {u = u} t w c h i d) q st n =
    yields_met _ _ _ (t ∷ (u ++ q)) _ (ap is_some (ap token_condition h ∙ i))
    (token_then condition_word_at _ t (u ++ q) (t.span, c) _ (condition-reads t w c (u ++ q) h i)
    (below_then (λ r. operand_at r 5) _ u q e _ (below _ (u ++ q) _ (complete-operand d q st)) (below_returned _ q)))
