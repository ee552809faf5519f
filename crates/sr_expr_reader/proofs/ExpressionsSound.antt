-- What the readers of expressions read is spelled so by the grammar, and depends on one token after it alone.
use Rattle.std.proofs.Common.{◌≡◌, refl, sym, ◌∙◌, ap, subst, ℕ, zero, suc, ◌≤◌, Bool, true, false, List, [], ◌∷◌, ◌++◌, Option, Some, None, append_assoc, arith}
use Rattle.std.specs.Prelude.{if◌then◌else◌, nat_lt, nat_le, ◌&&◌}
use Rattle.std.proofs.lemmas.Bool.{ltb-true, leb-true}
use Rattle.sr_reader.specs.Reader.{next_is}
use Rattle.sr_reader.proofs.Soundness.{Sound, anywhere, Then, joined, Returns, returns, IsOneWhere, is_one_where, one-where, returned-sound, unfit-sound, weaker, weaker-where, then-sound, then-where, branch-sound, branch-where, append-nil}
use Rattle.sr_reader.proofs.Loops.{while-sound}
use Rattle.sr_value.specs.declared.place.Span.{Span}
use Rattle.sr_tree.specs.declared.expr.BasicType.{BasicType}
use Rattle.sr_tree.specs.declared.expr.BasicType.TheVariants as basic
use Rattle.sr_tree.specs.declared.expr.BinaryOperator.{BinaryOperator}
use Rattle.sr_tree.specs.declared.expr.Conversion.{Conversion}
use Rattle.sr_tree.specs.declared.expr.Conversion.TheVariants as conversion
use Rattle.sr_tree.specs.declared.expr.Create.{Create}
use Rattle.sr_tree.specs.declared.expr.Create.TheVariants as create
use Rattle.sr_tree.specs.declared.expr.Expr.{Expr, out-Expr}
use Rattle.sr_tree.specs.declared.expr.Expr.TheVariants as expr
use Rattle.sr_tree.specs.declared.expr.Part.{Part}
use Rattle.sr_tree.specs.declared.name.Name.{Name}
use Rattle.sr_tree.specs.declared.name.QualifiedName.{QualifiedName}
use Rattle.sr_tree.specs.declared.token.Sign.TheVariants as sign
use Rattle.sr_tree.specs.declared.token.Token.{Token}
use Rattle.sr_tree.specs.declared.token.TokenKind.{TokenKind}
use Rattle.sr_tree.specs.declared.token.TokenKind.TheVariants as kind
use Rattle.sr_tree.specs.declared.token.Word.{Word}
use Rattle.sr_tree.specs.declared.token.Word.TheVariants as word
use Rattle.sr_tree.specs.Expressions as g
use Rattle.sr_tree.specs.Expressions.{SpellsExpr, SpellsFactor, SpellsCreate, SpellsOn, SpellsPrimary, SpellsSecond, SpellsPart, SpellsMoreParts, SpellsArguments, SpellsMoreExprs, SpellsQualifiedName, expr_span, part, invocation, is_conversion_word, is_array}
use Rattle.sr_tree.specs.Tables.{IsSign, IsWord, IsName, name_of, literal_of, basic_of, word_basic, conversion_of, word_conversion, unary_of, binary_of, right_level, left_level}
use Rattle.sr_tree.specs.Tests.{is_sign}
use Rattle.sr_expr_reader.specs.Readers.{Readers, readers, binary_at, qualified_at, enclosed_at, is_comma, next_argument_at, more_arguments_at, arguments_at, on_at, create_at, repeated_part_at, part_at, next_part_at, more_parts_at, array_at, bracketed_at, unconverted_at, converted_at, start_at, field_at, second_at, index_at, call_at, is_callable, is_suffix, suffix_at, suffixes_at, primary_at, signed_at, pending_at, factor_at, level_of, may_follow, is_operator, operation_at, operators_at, operand_at}
use Rattle.sr_expr_reader.proofs.TokensSound.{ASign, a_sign, AWord, a_word, AName, a_name, Spanned, spanned, sign-sound, word-sound, name-sound, unary-sound, literal-sound, conversion-sound, none_some, some_some, ended, into}

-- the basic type that a word for a conversion is without a bracket
abbrev pub alone : Conversion → Option BasicType
alone conversion.Int = Some basic.Int
alone conversion.Char = Some basic.Char
alone conversion.Str = None

-- the fields of a record of readers read what they should
pub record SoundReaders (r : Readers) : Type 0 where
  pub operand : (limit : ℕ) → Sound (SpellsExpr limit) (r.operand limit)
  pub factor : Sound SpellsFactor r.factor
  pub primary : Sound SpellsPrimary r.primary

starts : (u v : List Token) (t : Token) → (u ++ v) ++ t ∷ [] ≡ u ++ (v ++ t ∷ [])
starts u v t = append_assoc u v (t ∷ [])

-- names

data AfterName (n : Name) : QualifiedName → List Token → Type 0 where
  nothing_after : AfterName n (record { span = n.span; first = n; second = None }) []
  name_after : (p m : Token) → IsSign sign.Point p → IsName m → AfterName n (record { span = n.span; first = n; second = Some (name_of m) }) (p ∷ m ∷ [])

two_names : (n : Name) (q : QualifiedName) (u : List Token)
    → Then (ASign sign.Point) (λ p. Then AName (λ m. Returns (record { span = n.span; first = n; second = Some m }))) q u → AfterName n q u
two_names n q u (joined (a_sign p h) (joined (a_name m i) returns)) = name_after p m h i

one_name : (n : Name) (q : QualifiedName) (u : List Token) → Returns (record { span = n.span; first = n; second = None }) q u → AfterName n q u
one_name n q u returns = nothing_after

names : (q : QualifiedName) (u : List Token) → Then AName AfterName q u → SpellsQualifiedName q u
names q u (joined (a_name n h) nothing_after) = g.plain n h
names q u (joined (a_name n h) (name_after p m i j)) = g.qualified n p m h i j

pub qualified-sound : Sound SpellsQualifiedName qualified_at
unfolding qualified_at
qualified-sound = weaker names
    (then-sound name-sound (λ n. branch-sound
    (weaker (two_names n) (then-sound (sign-sound sign.Point) (λ p. then-sound name-sound (λ m. returned-sound (record { span = n.span; first = n; second = Some m })))))
    (weaker (one_name n) (returned-sound (record { span = n.span; first = n; second = None })))))

-- what lists grow by

data NextArgument (es : List Expr) : List Expr → List Token → Type 0 where
  next_argument : {e : Expr} {u : List Token} (comma : Token) → IsSign sign.Comma comma → SpellsExpr 5 e u → NextArgument es (es ++ e ∷ []) (comma ∷ u)

data MoreArguments (es : List Expr) : List Expr → List Token → Type 0 where
  more_arguments : {gs : List Expr} {u : List Token} → SpellsMoreExprs gs u → MoreArguments es (es ++ gs) u

data NextPart (ps : List Part) : List Part → List Token → Type 0 where
  next_part : {p : Part} {u : List Token} (comma : Token) → IsSign sign.Comma comma → SpellsPart p u → NextPart ps (ps ++ p ∷ []) (comma ∷ u)

data MoreParts (ps : List Part) : List Part → List Token → Type 0 where
  more_parts : {qs : List Part} {u : List Token} → SpellsMoreParts qs u → MoreParts ps (ps ++ qs) u

no_arguments_more : (es : List Expr) → MoreArguments es es []
no_arguments_more es = subst (λ x. MoreArguments es x []) (append-nil es) (more_arguments g.no_more_exprs)

arguments_go_on : (a b c : List Expr) (u v : List Token) → NextArgument a b u → MoreArguments b c v → MoreArguments a c (u ++ v)
arguments_go_on a b c u v (next_argument {e = e} {u = w} comma h d) (more_arguments {gs = gs} {u = x} m) =
    subst (λ y. MoreArguments a y (comma ∷ (w ++ x))) (sym (append_assoc a (e ∷ []) gs)) (more_arguments (g.one_more_expr comma h d m))

no_parts_more : (ps : List Part) → MoreParts ps ps []
no_parts_more ps = subst (λ x. MoreParts ps x []) (append-nil ps) (more_parts g.no_more_parts)

parts_go_on : (a b c : List Part) (u v : List Token) → NextPart a b u → MoreParts b c v → MoreParts a c (u ++ v)
parts_go_on a b c u v (next_part {p = p} {u = w} comma h d) (more_parts {qs = qs} {u = x} m) =
    subst (λ y. MoreParts a y (comma ∷ (w ++ x))) (sym (append_assoc a (p ∷ []) qs)) (more_parts (g.one_more_part comma h d m))

-- what stands in brackets

data Enclosed : Span × Expr → List Token → Type 0 where
  enclosed : {e : Expr} {u : List Token} (opening closing : Token) → IsSign sign.OpenParen opening → SpellsExpr 5 e u → IsSign sign.CloseParen closing
      → Enclosed (opening.span, e) (opening ∷ (u ++ closing ∷ []))

data InBrackets : List Expr → List Token → Type 0 where
  in_brackets : {es : List Expr} {u : List Token} (opening closing : Token) → IsSign sign.OpenParen opening → SpellsArguments es u → IsSign sign.CloseParen closing
      → InBrackets es (opening ∷ (u ++ closing ∷ []))

data AfterOpening : List Expr → List Token → Type 0 where
  after_opening : {es : List Expr} {u : List Token} (closing : Token) → SpellsArguments es u → IsSign sign.CloseParen closing
      → AfterOpening es (u ++ closing ∷ [])

enclose : (a : Span × Expr) (u : List Token)
    → Then (ASign sign.OpenParen) (λ o. Then (SpellsExpr 5) (λ e. Then (ASign sign.CloseParen) (λ c. Returns (o, e)))) a u → Enclosed a u
enclose a u (joined (a_sign t h) (joined d (joined (a_sign s i) returns))) = enclosed t s h d i

closed_at_once : (es : List Expr) (u : List Token) → Then (ASign sign.CloseParen) (λ c. Returns []) es u → AfterOpening es u
closed_at_once es u (joined (a_sign t h) returns) = after_opening t g.no_arguments h

closed_later : (es : List Expr) (u : List Token)
    → Then (SpellsExpr 5) (λ e. Then (MoreArguments (e ∷ [])) (λ fs. Then (ASign sign.CloseParen) (λ c. Returns fs))) es u → AfterOpening es u
closed_later es w (joined {a = e} {u = u} d (joined {u = v} (more_arguments {gs = gs} m) (joined (a_sign t h) returns))) =
    subst (λ x. AfterOpening (e ∷ gs) x) (starts u v t) (after_opening t (g.arguments d m) h)

opened : (es : List Expr) (u : List Token) → Then (ASign sign.OpenParen) (λ o. AfterOpening) es u → InBrackets es u
opened es u (joined (a_sign t h) (after_opening s d i)) = in_brackets t s h d i

-- parts of expressions

data AfterStart (p e : Expr) (v : List Token) : Type 0 where
  after_start : ((u : List Token) → SpellsPrimary p u → SpellsPrimary e (u ++ v)) → AfterStart p e v

no_suffix : (p : Expr) → AfterStart p p []
no_suffix p = after_start (λ u d. ended (SpellsPrimary p) u d)

suffixes_go_on : (a b c : Expr) (u v : List Token) → AfterStart a b u → AfterStart b c v → AfterStart a c (u ++ v)
suffixes_go_on a b c u v (after_start f) (after_start h) =
    after_start (λ w d. subst (SpellsPrimary c) (append_assoc w u v) (h (w ++ u) (f w d)))

fields : (p e : Expr) (u : List Token)
    → Then (ASign sign.Point) (λ o. Then AName (λ n. Returns (expr.Field (expr_span p) p n))) e u → AfterStart p e u
fields p e u (joined (a_sign t h) (joined (a_name n i) returns)) = after_start (λ w d. g.field t n d h i)

seconds : (e : Option Expr) (u : List Token) → Then (ASign sign.Comma) (λ o. Then (SpellsExpr 5) (λ f. Returns (Some f))) e u → SpellsSecond e u
seconds e w (joined (a_sign t h) (joined {a = f} {u = u} d returns)) = ended (λ x. SpellsSecond (Some f) (t ∷ x)) u (g.second t h d)

no_seconds : (e : Option Expr) (u : List Token) → Returns None e u → SpellsSecond e u
no_seconds e u returns = g.no_second

indices : (p e : Expr) (u : List Token)
    → Then (ASign sign.OpenBracket) (λ o. Then (SpellsExpr 5) (λ f. Then SpellsSecond (λ s. Then (ASign sign.CloseBracket)
    (λ c. Returns (expr.Index (expr_span p) p f s))))) e u → AfterStart p e u
indices p e x (joined (a_sign t h) (joined {a = a} {u = u} f (joined {a = b} {u = v} s (joined (a_sign c i) end)))) =
    into (λ y z. AfterStart p y (t ∷ (u ++ (v ++ c ∷ z)))) (expr.Index (expr_span p) p a b) e _ end (after_start (λ w d. g.index t c d h f s i))

data AfterCreate (t : Span) : Create → List Token → Type 0 where
  machine_after : (vm opening closing : Token) → IsWord word.Vm vm → IsSign sign.OpenParen opening → IsSign sign.CloseParen closing
      → AfterCreate t (create.Machine t) (vm ∷ opening ∷ closing ∷ [])
  resource_after : {q : QualifiedName} {es : List Expr} {m : Option Expr} {u v w : List Token} (opening closing : Token)
      → SpellsQualifiedName q u → IsSign sign.OpenParen opening → SpellsArguments es v → IsSign sign.CloseParen closing → SpellsOn m w
      → AfterCreate t (create.Resource t q es m) (u ++ opening ∷ (v ++ closing ∷ w))

data Repeated : Part → List Token → Type 0 where
  is_repeated : {c e : Expr} {u v : List Token} (opening closing : Token) → IsSign sign.OpenBracket opening → SpellsExpr 5 c u
      → IsSign sign.CloseBracket closing → SpellsExpr 5 e v → Repeated (part opening.span (Some c) e) (opening ∷ (u ++ closing ∷ v))

data ArrayRest (s : Span) (ps : List Part) : Expr → List Token → Type 0 where
  array_rest : {qs : List Part} {u : List Token} (closing : Token) → SpellsMoreParts qs u → IsSign sign.CloseParen closing
      → ArrayRest s ps (expr.Parts s (ps ++ qs)) (u ++ closing ∷ [])

data AfterFirst (s : Span) (e : Expr) : Expr → List Token → Type 0 where
  first_closed : (closing : Token) → IsSign sign.CloseParen closing → AfterFirst s e (expr.Group s e) (closing ∷ [])
  first_more : {q : Part} {qs : List Part} {u v : List Token} (comma closing : Token) → IsSign sign.Comma comma → SpellsPart q u → SpellsMoreParts qs v
      → IsSign sign.CloseParen closing
      → AfterFirst s e (expr.Parts s (part (expr_span e) None e ∷ q ∷ qs)) (comma ∷ (u ++ (v ++ closing ∷ [])))

data AfterBracket (s : Span) : Expr → List Token → Type 0 where
  group_after : {e : Expr} {u : List Token} (closing : Token) → SpellsExpr 5 e u → IsSign sign.CloseParen closing
      → AfterBracket s (expr.Group s e) (u ++ closing ∷ [])
  array_after : {p : Part} {ps : List Part} {u v : List Token} (closing : Token) → SpellsPart p u → SpellsMoreParts ps v → is_array p ps ≡ true
      → IsSign sign.CloseParen closing → AfterBracket s (expr.Parts s (p ∷ ps)) (u ++ (v ++ closing ∷ []))

data AfterConversion (s : Span) (c : Conversion) : Expr → List Token → Type 0 where
  converted_after : {e : Expr} {u : List Token} (opening closing : Token) → IsSign sign.OpenParen opening → SpellsExpr 5 e u → IsSign sign.CloseParen closing
      → AfterConversion s c (expr.Conversion s c e) (opening ∷ (u ++ closing ∷ []))
  alone_after : (b : BasicType) → alone c ≡ Some b → AfterConversion s c (expr.BasicType s b) []

data AfterLeft (limit : ℕ) (left e : Expr) (v : List Token) : Type 0 where
  after_left : ((u : List Token) → SpellsExpr limit left u → SpellsExpr limit e (u ++ v)) → AfterLeft limit left e v

no_operator : (limit : ℕ) (e : Expr) → AfterLeft limit e e []
no_operator limit e = after_left (λ u d. ended (SpellsExpr limit e) u d)

operators_go_on : (limit : ℕ) (a b c : Expr) (u v : List Token) → AfterLeft limit a b u → AfterLeft limit b c v → AfterLeft limit a c (u ++ v)
operators_go_on limit a b c u v (after_left f) (after_left h) =
    after_left (λ w d. subst (SpellsExpr limit c) (append_assoc w u v) (h (w ++ u) (f w d)))

repeated_array : (s : Span) (c e : Expr) (qs : List Part) → is_array (part s (Some c) e) qs ≡ true
unfolding denote.Hole.Carrier.out denote.Hole.Carrier.roll
repeated_array s c e [] = refl
repeated_array s c e (q ∷ qs) = refl

basic_alone : (k : TokenKind) (c : Conversion) (b : BasicType) → conversion_of k ≡ Some c → alone c ≡ Some b → basic_of k ≡ Some b
basic_alone (kind.Word w) c b e f = of_word w c b e f
  where
    of_word : (w : Word) (c : Conversion) (b : BasicType) → word_conversion w ≡ Some c → alone c ≡ Some b → word_basic w ≡ Some b
    of_word word.Int c b e f = ap alone (some_some conversion.Int c e) ∙ f
    of_word word.Char c b e f = ap alone (some_some conversion.Char c e) ∙ f
    of_word word.String c b e f = absurd (none_some b (ap alone (some_some conversion.Str c e) ∙ f))
    of_word _ c b e f = absurd (none_some c e)
basic_alone _ c b e f = absurd (none_some c e)

callable_fact : (p : Expr) (s : List Token) → next_is (is_callable p) s ≡ true → is_conversion_word p ≡ false
callable_fact p [] h = cc
callable_fact p (t ∷ s) h = go (is_conversion_word p) h
  where
    go : (b : Bool) → (if b then false else is_sign sign.OpenParen t.kind) ≡ true → b ≡ false
    go true e = sym e
    go false e = refl

pub both : (a b : Bool) → (a && b) ≡ true → (a ≡ true) × (b ≡ true)
both true b e = (refl, e)
both false b e = cc

pub level-binary : (s : Span) (a b : Expr) (o : BinaryOperator) → level_of (expr.Binary s a o b) ≡ suc (right_level o)
unfolding out-Expr denote.Hole.Carrier.out
level-binary s a b o = refl

pub at_level : (n m : ℕ) (e : Expr) (u : List Token) → SpellsExpr n e u → level_of e ≤ m → SpellsExpr m e u
at_level n m e u (g.factor f) h = g.factor f
at_level n m e u (g.binary {a = a} {b = b} t o i j d f) h =
    g.binary t o i (omega (arith, h, level-binary (expr_span a) a b o)) d f

module _ (r : Readers) (l : SoundReaders r) where
  enclosed-sound : Sound Enclosed (enclosed_at r)
  unfolding enclosed_at
  enclosed-sound = weaker enclose
      (then-sound (sign-sound sign.OpenParen) (λ o. then-sound (l.operand 5) (λ e. then-sound (sign-sound sign.CloseParen) (λ c. returned-sound (o, e)))))

  next_argument_found : (es fs : List Expr) (u : List Token)
      → Then (ASign sign.Comma) (λ c. Then (SpellsExpr 5) (λ e. Returns (es ++ e ∷ []))) fs u → NextArgument es fs u
  next_argument_found es fs w (joined (a_sign t h) (joined {a = e} {u = u} d returns)) =
      ended (λ x. NextArgument es (es ++ e ∷ []) (t ∷ x)) u (next_argument t h d)

  more_arguments-sound : (es : List Expr) → Sound (MoreArguments es) (more_arguments_at r es)
  unfolding more_arguments_at next_argument_at
  more_arguments-sound es = while-sound is_comma (next_argument_at r) NextArgument MoreArguments no_arguments_more arguments_go_on
      (λ fs. anywhere (is_comma fs) (weaker (next_argument_found fs)
      (then-sound (sign-sound sign.Comma) (λ c. then-sound (l.operand 5) (λ e. returned-sound (fs ++ e ∷ [])))))) r.steps es

  arguments-sound : Sound InBrackets (arguments_at r)
  unfolding arguments_at
  arguments-sound = weaker opened (then-sound (sign-sound sign.OpenParen) (λ o. branch-sound
      (weaker closed_at_once (then-sound (sign-sound sign.CloseParen) (λ c. returned-sound [])))
      (weaker closed_later (then-sound (l.operand 5) (λ e. then-sound (more_arguments-sound (e ∷ [])) (λ es. then-sound (sign-sound sign.CloseParen) (λ c. returned-sound es)))))))

  on_found : (m : Option Expr) (u : List Token) → Then (AWord word.On) (λ o. Then SpellsPrimary (λ e. Returns (Some e))) m u → SpellsOn m u
  on_found m w (joined (a_word t h) (joined {a = e} {u = u} d returns)) = ended (λ x. SpellsOn (Some e) (t ∷ x)) u (g.on_machine t h d)

  not_on_found : (m : Option Expr) (u : List Token) → Returns None m u → SpellsOn m u
  not_on_found m u returns = g.not_on

  on-sound : Sound SpellsOn (on_at r)
  unfolding on_at
  on-sound = branch-sound
      (weaker on_found (then-sound (word-sound word.On) (λ o. then-sound l.primary (λ e. returned-sound (Some e)))))
      (weaker not_on_found (returned-sound None))

  -- the making of instances and machines

  machine_found : (t : Span) (c : Create) (u : List Token)
      → Then (AWord word.Vm) (λ v. Then (ASign sign.OpenParen) (λ o. Then (ASign sign.CloseParen) (λ c. Returns (create.Machine t)))) c u
      → AfterCreate t c u
  machine_found t c u (joined (a_word v h) (joined (a_sign o i) (joined (a_sign k j) end))) =
      into (λ y z. AfterCreate t y (v ∷ o ∷ k ∷ z)) (create.Machine t) c _ end (machine_after v o k h i j)

  resource_found : (t : Span) (c : Create) (u : List Token)
      → Then SpellsQualifiedName (λ q. Then InBrackets (λ es. Then SpellsOn (λ m. Returns (create.Resource t q es m)))) c u → AfterCreate t c u
  resource_found t c w (joined {a = q} {u = u} n (joined (in_brackets {es = es} {u = v} opening closing h d i) (joined {a = m} {u = x} o end))) =
      into (λ y z. AfterCreate t y (u ++ (opening ∷ (v ++ closing ∷ []) ++ (x ++ z)))) (create.Resource t q es m) c _ end
      (subst (AfterCreate t (create.Resource t q es m))
      (ap (λ y. u ++ opening ∷ y) (sym (append_assoc v (closing ∷ []) (x ++ []))))
      (ended (λ y. AfterCreate t (create.Resource t q es m) (u ++ opening ∷ (v ++ closing ∷ y))) x (resource_after opening closing n h d i o)))

  create_found : (c : Create) (u : List Token) → Then (AWord word.Create) AfterCreate c u → SpellsCreate c u
  create_found c u (joined (a_word t h) (machine_after v o k i j l)) = g.machine t v o k h i j l
  create_found c u (joined (a_word t h) (resource_after o k n i d j m)) = g.resource t o k h n i d j m

  pub create-sound : Sound SpellsCreate (create_at r)
  unfolding create_at
  create-sound = weaker create_found (then-sound (word-sound word.Create) (λ t. branch-sound
      (weaker (machine_found t) (then-sound (word-sound word.Vm) (λ v. then-sound (sign-sound sign.OpenParen) (λ o. then-sound (sign-sound sign.CloseParen)
      (λ c. returned-sound (create.Machine t))))))
      (weaker (resource_found t) (then-sound qualified-sound (λ q. then-sound arguments-sound (λ es. then-sound on-sound
      (λ m. returned-sound (create.Resource t q es m))))))))

  -- arrays

  repeated_found : (p : Part) (u : List Token)
      → Then (ASign sign.OpenBracket) (λ s. Then (SpellsExpr 5) (λ c. Then (ASign sign.CloseBracket) (λ k. Then (SpellsExpr 5)
      (λ e. Returns (part s (Some c) e))))) p u → Repeated p u
  repeated_found p w (joined (a_sign t h) (joined {a = c} {u = u} d (joined (a_sign k i) (joined {a = e} {u = v} f end)))) =
      into (λ y z. Repeated y (t ∷ (u ++ k ∷ (v ++ z)))) (part t.span (Some c) e) p _ end
      (ended (λ y. Repeated (part t.span (Some c) e) (t ∷ (u ++ k ∷ y))) v (is_repeated t k h d i f))

  repeated_part-sound : Sound Repeated (repeated_part_at r)
  unfolding repeated_part_at
  repeated_part-sound = weaker repeated_found (then-sound (sign-sound sign.OpenBracket) (λ s. then-sound (l.operand 5) (λ c. then-sound (sign-sound sign.CloseBracket)
      (λ k. then-sound (l.operand 5) (λ e. returned-sound (part s (Some c) e))))))

  repeated_is_part : (p : Part) (u : List Token) → Repeated p u → SpellsPart p u
  repeated_is_part p u (is_repeated t k h d i f) = g.repeated t k h d i f

  once_found : (p : Part) (u : List Token) → Then (SpellsExpr 5) (λ e. Returns (part (expr_span e) None e)) p u → SpellsPart p u
  once_found p w (joined {a = e} {u = u} d end) =
      into (λ y z. SpellsPart y (u ++ z)) (part (expr_span e) None e) p _ end (ended (SpellsPart (part (expr_span e) None e)) u (g.once d))

  part-sound : Sound SpellsPart (part_at r)
  unfolding part_at
  part-sound = branch-sound (weaker repeated_is_part repeated_part-sound) (weaker once_found (then-sound (l.operand 5) (λ e. returned-sound (part (expr_span e) None e))))

  next_part_found : (ps qs : List Part) (u : List Token)
      → Then (ASign sign.Comma) (λ c. Then SpellsPart (λ p. Returns (ps ++ p ∷ []))) qs u → NextPart ps qs u
  next_part_found ps qs w (joined (a_sign t h) (joined {a = p} {u = u} d end)) =
      into (λ y z. NextPart ps y (t ∷ (u ++ z))) (ps ++ p ∷ []) qs _ end (ended (λ x. NextPart ps (ps ++ p ∷ []) (t ∷ x)) u (next_part t h d))

  next_part-sound : (ps : List Part) → Sound (NextPart ps) (next_part_at r ps)
  unfolding next_part_at
  next_part-sound ps = weaker (next_part_found ps) (then-sound (sign-sound sign.Comma) (λ c. then-sound part-sound (λ p. returned-sound (ps ++ p ∷ []))))

  more_parts-sound : (ps : List Part) → Sound (MoreParts ps) (more_parts_at r ps)
  unfolding more_parts_at
  more_parts-sound ps = while-sound is_comma (next_part_at r) NextPart MoreParts no_parts_more parts_go_on
      (λ qs. anywhere (is_comma qs) (next_part-sound qs)) r.steps ps

  array_found : (s : Span) (ps : List Part) (e : Expr) (u : List Token)
      → Then (MoreParts ps) (λ qs. Then (ASign sign.CloseParen) (λ c. Returns (expr.Parts s qs))) e u → ArrayRest s ps e u
  array_found s ps e w (joined (more_parts {qs = qs} {u = u} m) (joined (a_sign c h) end)) =
      into (λ y z. ArrayRest s ps y (u ++ c ∷ z)) (expr.Parts s (ps ++ qs)) e _ end (array_rest c m h)

  array-sound : (s : Span) (ps : List Part) → Sound (ArrayRest s ps) (array_at r s ps)
  unfolding array_at
  array-sound s ps = weaker (array_found s ps) (then-sound (more_parts-sound ps) (λ qs. then-sound (sign-sound sign.CloseParen) (λ c. returned-sound (expr.Parts s qs))))

  -- expressions in brackets

  more_parts_after : (s : Span) (e : Expr) (q : Part) (u : List Token) (comma : Token) → IsSign sign.Comma comma → SpellsPart q u
      → (f : Expr) (v : List Token) → ArrayRest s (part (expr_span e) None e ∷ q ∷ []) f v → AfterFirst s e f (comma ∷ (u ++ v))
  more_parts_after s e q u comma h d f v (array_rest c m i) = first_more comma c h d m i

  first_found : (s : Span) (e f : Expr) (u : List Token)
      → Then (NextPart (part (expr_span e) None e ∷ [])) (λ ps. ArrayRest s ps) f u → AfterFirst s e f u
  first_found s e f w (joined {v = v} (next_part {p = p} {u = u} comma h d) rest) = more_parts_after s e p u comma h d f v rest

  group_found : (s : Span) (e f : Expr) (u : List Token) → Then (ASign sign.CloseParen) (λ c. Returns (expr.Group s e)) f u → AfterFirst s e f u
  group_found s e f u (joined (a_sign c h) returns) = first_closed c h

  repeated_after : (s t : Span) (c f : Expr) (u : List Token) → SpellsPart (part t (Some c) f) u
      → (e : Expr) (v : List Token) → ArrayRest s (part t (Some c) f ∷ []) e v → AfterBracket s e (u ++ v)
  repeated_after s t c f u d e v (array_rest {qs = qs} n m o) = array_after n d m (repeated_array t c f qs) o

  repeated_in_bracket : (s : Span) (e : Expr) (u : List Token) → Then Repeated (λ p. ArrayRest s (p ∷ [])) e u → AfterBracket s e u
  repeated_in_bracket s e w (joined {v = x} (is_repeated {c = c} {e = f} {u = u} {v = v} t k h d i j) rest) =
      repeated_after s t.span c f (t ∷ (u ++ k ∷ v)) (g.repeated t k h d i j) e x rest

  first_after : (s : Span) (f : Expr) (u : List Token) → SpellsExpr 5 f u → (e : Expr) (v : List Token) → AfterFirst s f e v → AfterBracket s e (u ++ v)
  first_after s f u d e v (first_closed c h) = group_after c d h
  first_after s f u d e w (first_more {q = q} {qs = qs} {u = v} {v = x} comma c h p m i) =
      subst (λ y. AfterBracket s (expr.Parts s (part (expr_span f) None f ∷ q ∷ qs)) (u ++ comma ∷ y)) (starts v x c)
      (array_after c (g.once d) (g.one_more_part comma h p m) refl i)

  in_bracket : (s : Span) (e : Expr) (u : List Token) → Then (SpellsExpr 5) (λ f. AfterFirst s f) e u → AfterBracket s e u
  in_bracket s e w (joined {a = f} {u = u} {v = v} d rest) = first_after s f u d e v rest

  bracket_found : (e : Expr) (u : List Token) → Then (ASign sign.OpenParen) AfterBracket e u → SpellsPrimary e u
  bracket_found e u (joined (a_sign t h) (group_after c d i)) = g.group t c h d i
  bracket_found e u (joined (a_sign t h) (array_after c d m a i)) = g.parts t c h d m a i

  bracketed-sound : Sound SpellsPrimary (bracketed_at r)
  unfolding bracketed_at
  bracketed-sound = weaker bracket_found (then-sound (sign-sound sign.OpenParen) (λ s. branch-sound
      (weaker (repeated_in_bracket s) (then-sound repeated_part-sound (λ p. array-sound s (p ∷ []))))
      (weaker (in_bracket s) (then-sound (l.operand 5) (λ e. branch-sound
      (weaker (first_found s e) (then-sound (next_part-sound (part (expr_span e) None e ∷ [])) (λ ps. array-sound s ps)))
      (weaker (group_found s e) (then-sound (sign-sound sign.CloseParen) (λ c. returned-sound (expr.Group s e)))))))))

  -- conversions

  alone_found : (s : Span) (c : Conversion) (b : BasicType) → alone c ≡ Some b → (e : Expr) (u : List Token) → Returns (expr.BasicType s b) e u → AfterConversion s c e u
  alone_found s c b h e u returns = alone_after b h

  unconverted-sound : (s : Span) (c : Conversion) → Sound (AfterConversion s c) (unconverted_at s c)
  unfolding unconverted_at
  unconverted-sound s conversion.Int = weaker (alone_found s conversion.Int basic.Int refl) (returned-sound (expr.BasicType s basic.Int))
  unconverted-sound s conversion.Char = weaker (alone_found s conversion.Char basic.Char refl) (returned-sound (expr.BasicType s basic.Char))
  unconverted-sound s conversion.Str = unfit-sound (AfterConversion s conversion.Str)

  conversion_made : (s : Span) (c : Conversion) (e : Expr) (u : List Token)
      → Then Enclosed (λ x. Returns (expr.Conversion s c x.1)) e u → AfterConversion s c e u
  conversion_made s c e w (joined (enclosed {e = f} {u = u} o k h d i) end) =
      into (λ y z. AfterConversion s c y ((o ∷ (u ++ k ∷ [])) ++ z)) (expr.Conversion s c f) e _ end
      (ended (AfterConversion s c (expr.Conversion s c f)) (o ∷ (u ++ k ∷ [])) (converted_after o k h d i))

  converted_found : (e : Expr) (u : List Token) → Then (Spanned (λ t. conversion_of t.kind)) (λ x. AfterConversion x.0 x.1) e u → SpellsPrimary e u
  converted_found e u (joined (spanned t c h) (converted_after o k i d j)) = g.conversion t o k c h i d j
  converted_found e u (joined (spanned t c h) (alone_after b i)) = g.basic_type t b (basic_alone t.kind c b h i)

  converted-sound : Sound SpellsPrimary (converted_at r)
  unfolding converted_at
  converted-sound = weaker converted_found (then-sound conversion-sound (λ c. branch-sound
      (weaker (conversion_made c.0 c.1) (then-sound enclosed-sound (λ e. returned-sound (expr.Conversion c.0 c.1 e.1))))
      (unconverted-sound c.0 c.1)))

  -- what a primary begins with

  name_found : (e : Expr) (u : List Token) → Then AName (λ n. Returns (expr.Name n)) e u → SpellsPrimary e u
  name_found e u (joined (a_name t h) returns) = g.name t h

  bool_found : (e : Expr) (u : List Token) → Then (AWord word.Bool) (λ s. Returns (expr.BasicType s basic.Bool)) e u → SpellsPrimary e u
  bool_found e u (joined (a_word t h) returns) = g.basic_type t basic.Bool (ap basic_of h)

  literal_found : (e : Expr) (u : List Token) → Then (Spanned (λ t. literal_of t.kind t.text)) (λ x. Returns (expr.Literal x.0 x.1)) e u → SpellsPrimary e u
  literal_found e u (joined (spanned t a h) returns) = g.literal t a h

  start-sound : Sound SpellsPrimary (start_at r)
  unfolding start_at
  start-sound = branch-sound converted-sound (branch-sound bracketed-sound
      (branch-sound (weaker name_found (then-sound name-sound (λ n. returned-sound (expr.Name n))))
      (branch-sound (weaker bool_found (then-sound (word-sound word.Bool) (λ s. returned-sound (expr.BasicType s basic.Bool))))
      (weaker literal_found (then-sound literal-sound (λ x. returned-sound (expr.Literal x.0 x.1)))))))

  -- what continues it

  field-sound : (p : Expr) → Sound (AfterStart p) (field_at p)
  unfolding field_at
  field-sound p = weaker (fields p) (then-sound (sign-sound sign.Point) (λ o. then-sound name-sound (λ n. returned-sound (expr.Field (expr_span p) p n))))

  second-sound : Sound SpellsSecond (second_at r)
  unfolding second_at
  second-sound = branch-sound
      (weaker seconds (then-sound (sign-sound sign.Comma) (λ c. then-sound (l.operand 5) (λ e. returned-sound (Some e)))))
      (weaker no_seconds (returned-sound None))

  index-sound : (p : Expr) → Sound (AfterStart p) (index_at r p)
  unfolding index_at
  index-sound p = weaker (indices p) (then-sound (sign-sound sign.OpenBracket) (λ o. then-sound (l.operand 5) (λ e. then-sound second-sound (λ s.
      then-sound (sign-sound sign.CloseBracket) (λ c. returned-sound (expr.Index (expr_span p) p e s))))))

  call_found : (p : Expr) → is_conversion_word p ≡ false → (e : Expr) (u : List Token) → Then InBrackets (λ es. Returns (expr.Call (invocation p es))) e u → AfterStart p e u
  call_found p n e w (joined (in_brackets {es = es} {u = u} o k h d i) end) =
      into (λ y z. AfterStart p y ((o ∷ (u ++ k ∷ [])) ++ z)) (expr.Call (invocation p es)) e _ end
      (ended (AfterStart p (expr.Call (invocation p es))) (o ∷ (u ++ k ∷ [])) (after_start (λ x f. g.call o k f n h d i)))

  call-sound : (p : Expr) → is_conversion_word p ≡ false → Sound (AfterStart p) (call_at r p)
  unfolding call_at
  call-sound p n = weaker (call_found p n) (then-sound arguments-sound (λ es. returned-sound (expr.Call (invocation p es))))

  suffix-sound : (p : Expr) → Sound (AfterStart p) (suffix_at r p)
  unfolding suffix_at
  suffix-sound p = branch-sound (field-sound p) (branch-sound (index-sound p)
      (branch-where (record { at = λ s h. (call-sound p (callable_fact p s h)).at s }) (unfit-sound (AfterStart p))))

  suffixes-sound : (p : Expr) → Sound (AfterStart p) (suffixes_at r p)
  unfolding suffixes_at
  suffixes-sound p = while-sound is_suffix (suffix_at r) AfterStart AfterStart no_suffix suffixes_go_on (λ q. anywhere (is_suffix q) (suffix-sound q)) r.steps p

  primary_found : (e : Expr) (u : List Token) → Then SpellsPrimary AfterStart e u → SpellsPrimary e u
  primary_found e w (joined {u = u} d (after_start f)) = f u d

  pub primary-sound : Sound SpellsPrimary (primary_at r)
  unfolding primary_at
  primary-sound = weaker primary_found (then-sound start-sound suffixes-sound)

  -- factors

  signed_found : (e : Expr) (u : List Token) → Then (Spanned (λ t. unary_of t.kind)) (λ o. Then SpellsFactor (λ f. Returns (expr.Unary o.0 o.1 f))) e u → SpellsFactor e u
  signed_found e w (joined (spanned t o h) (joined {a = f} {u = u} d end)) =
      into (λ y z. SpellsFactor y (t ∷ (u ++ z))) (expr.Unary t.span o f) e _ end (ended (λ x. SpellsFactor (expr.Unary t.span o f) (t ∷ x)) u (g.unary t o h d))

  signed-sound : Sound SpellsFactor (signed_at r)
  unfolding signed_at
  signed-sound = weaker signed_found (then-sound unary-sound (λ o. then-sound l.factor (λ e. returned-sound (expr.Unary o.0 o.1 e))))

  pending_found : (e : Expr) (u : List Token) → Then (ASign sign.Query) (λ s. Then AName (λ n. Returns (expr.Pending s n))) e u → SpellsFactor e u
  pending_found e u (joined (a_sign t h) (joined (a_name n i) returns)) = g.pending t n h i

  pending-sound : Sound SpellsFactor pending_at
  unfolding pending_at
  pending-sound = weaker pending_found (then-sound (sign-sound sign.Query) (λ s. then-sound name-sound (λ n. returned-sound (expr.Pending s n))))

  created_found : (e : Expr) (u : List Token) → Then SpellsCreate (λ c. Returns (expr.Create c)) e u → SpellsFactor e u
  created_found e w (joined {a = c} {u = u} d end) =
      into (λ y z. SpellsFactor y (u ++ z)) (expr.Create c) e _ end (ended (SpellsFactor (expr.Create c)) u (g.creates d))

  primary_is_factor : (e : Expr) (u : List Token) → SpellsPrimary e u → SpellsFactor e u
  primary_is_factor e u d = g.primary d

  pub factor-sound : Sound SpellsFactor (factor_at r)
  unfolding factor_at
  factor-sound = branch-sound (weaker created_found (then-sound create-sound (λ c. returned-sound (expr.Create c))))
      (branch-sound signed-sound (branch-sound pending-sound (weaker primary_is_factor primary-sound)))

  -- operators

  operation_found : (limit : ℕ) (left e : Expr) (u : List Token)
      → Then (IsOneWhere (is_operator limit left) (λ t. binary_of t.kind)) (λ o. Then (SpellsExpr (right_level o)) (λ b. Returns (expr.Binary (expr_span left) left o b))) e u
      → AfterLeft limit left e u
  operation_found limit left e w (joined {a = o} (is_one_where t p m) (joined {a = b} {u = u} d end)) =
      let fits = both (nat_lt (right_level o) limit) (nat_le (level_of left) (left_level o)) (sym (ap (may_follow limit left) m) ∙ p) in
      into (λ y z. AfterLeft limit left y (t ∷ (u ++ z))) (expr.Binary (expr_span left) left o b) e _ end
      (ended (λ x. AfterLeft limit left (expr.Binary (expr_span left) left o b) (t ∷ x)) u
      (after_left (λ v f. g.binary t o m (ltb-true _ _ fits.0) (at_level limit (left_level o) left v f (leb-true _ _ fits.1)) d)))

  operators-sound : (limit : ℕ) (left : Expr) → Sound (AfterLeft limit left) (operators_at r limit left)
  unfolding operators_at operation_at binary_at
  operators-sound limit left = while-sound (is_operator limit) (operation_at r) (AfterLeft limit) (AfterLeft limit) (no_operator limit) (operators_go_on limit)
      (λ a. weaker-where (operation_found limit a) (then-where (one-where (is_operator limit a) (λ t. binary_of t.kind))
      (λ o. then-sound (l.operand (right_level o)) (λ b. returned-sound (expr.Binary (expr_span a) a o b))))) r.steps left

  operand_found : (limit : ℕ) (e : Expr) (u : List Token) → Then SpellsFactor (AfterLeft limit) e u → SpellsExpr limit e u
  operand_found limit e w (joined {u = u} d (after_left f)) = f u (g.factor d)

  pub operand-sound : (limit : ℕ) → Sound (SpellsExpr limit) (operand_at r limit)
  unfolding operand_at
  operand-sound limit = weaker (operand_found limit) (then-sound factor-sound (operators-sound limit))

-- so are the readers of every bound
pub readers-sound : (k : ℕ) → SoundReaders (readers k)
unfolding readers
readers-sound zero = record { operand = λ limit. unfit-sound (SpellsExpr limit); factor = unfit-sound SpellsFactor; primary = unfit-sound SpellsPrimary }
readers-sound (suc k) =
    record {
      operand = operand-sound (readers k) (readers-sound k);
      factor = factor-sound (readers k) (readers-sound k);
      primary = primary-sound (readers k) (readers-sound k);
    }
