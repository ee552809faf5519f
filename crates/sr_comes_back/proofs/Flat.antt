-- Tokens of one line: outside of brackets no separator stands among them and no line begins, and they close the brackets that they open.
use Rattle.std.proofs.Common.{◌≡◌, ℕ, suc, ◌+◌, ◌-◌, ◌==◌, Bool, true, false, cond, not, ◌&&◌, ◌||◌, List, [], ◌∷◌, ◌++◌, refl, ap, ◌∙◌, arith, add-one, eqb-true, Option, Some, None}
use Rattle.sr_tree.specs.declared.expr.BasicType.{BasicType}
use Rattle.sr_tree.specs.declared.expr.BinaryOperator.{BinaryOperator}
use Rattle.sr_tree.specs.declared.expr.Conversion.{Conversion}
use Rattle.sr_tree.specs.declared.expr.Literal.{Literal}
use Rattle.sr_tree.specs.declared.expr.UnaryOperator.{UnaryOperator}
use Rattle.sr_tree.specs.declared.statement.ConditionWord.{ConditionWord}
use Rattle.sr_tree.specs.declared.statement.Direction.{Direction}
use Rattle.sr_tree.specs.declared.types.InvocationKind.{InvocationKind}
use Rattle.sr_tree.specs.declared.token.Sign.{Sign}
use Rattle.sr_tree.specs.declared.token.Sign.TheVariants as sign
use Rattle.sr_tree.specs.declared.token.Token.{Token}
use Rattle.sr_tree.specs.declared.token.TokenKind.{TokenKind}
use Rattle.sr_tree.specs.declared.token.TokenKind.TheVariants as kinds
use Rattle.sr_tree.specs.declared.token.Word.{Word}
use Rattle.sr_tree.specs.declared.token.Word.TheVariants as word
use Rattle.sr_tree.specs.Statements.{direction_of, condition_word_of}
use Rattle.sr_tree.specs.Tables.{IsSign, word_literal, literal_of, word_basic, basic_of, word_conversion, conversion_of, sign_unary, word_unary, unary_of, sign_binary, word_binary, binary_of}
use Rattle.sr_tree.specs.Tokens.{is_separator}
use Rattle.sr_tree.specs.Types.{kind_of}
use Rattle.sr_lexer.specs.Roles.{continues_line, opens_bracket, closes_bracket}
use Rattle.sr_fmt.specs.Layout.{depth_after}
use Rattle.sr_fmt.specs.Roles.{always_begins_line}

-- whether a token stands on the line of those before it
abbrev pub stays : TokenKind → Bool
stays kind = not (is_separator kind || always_begins_line kind)

-- neither opens nor closes a bracket
abbrev pub in_plain : TokenKind → Bool
in_plain kind = not (opens_bracket kind) && not (closes_bracket kind)

abbrev pub plain : TokenKind → Bool
plain kind = stays kind && in_plain kind

-- how many brackets are open after the tokens, if they are of one line
abbrev pub flat_after : ℕ → List Token → Option ℕ
flat_after depth [] = Some depth
flat_after depth (t ∷ ts) = cond ((depth == 0) && not (stays t.kind)) None (flat_after (depth_after depth t.kind) ts)

pub record Flat (u : List Token) : Type 0 where
  pub at : (depth : ℕ) → flat_after depth u ≡ Some depth

-- within brackets
pub record Inner (u : List Token) : Type 0 where
  pub at : (depth : ℕ) → flat_after (suc depth) u ≡ Some (suc depth)

-- up to the end of brackets, and after it
pub record Shut (u : List Token) : Type 0 where
  pub at : (depth : ℕ) → flat_after (suc depth) u ≡ Some depth

-- a word that begins a line, and one line
abbrev pub heads_line : TokenKind → Bool
heads_line kind = always_begins_line kind && (in_plain kind && not (is_separator kind || continues_line kind))

pub record Headed (u : List Token) : Type 0 where
  pub head : Token
  pub rest : List Token
  pub splits : u ≡ head ∷ rest
  pub heads : heads_line head.kind ≡ true
  pub flat : Flat rest

-- ---- lists

suc_is_not : (n : ℕ) → (suc n == 0) ≡ false
suc_is_not n = by_test (suc n == 0) refl
  where
    by_test : (b : Bool) → (suc n == 0) ≡ b → (suc n == 0) ≡ false
    by_test true e = let same = eqb-true (suc n) 0 e in absurd (omega arith)
    by_test false e = e

pub and_false : (b : Bool) → (b && false) ≡ false
and_false true = refl
and_false false = refl

both_parts : (a b : Bool) → (a && b) ≡ true → (a ≡ true) × (b ≡ true)
both_parts true b e = (refl, e)
both_parts false b e = absurd (cc)

not_true : (b : Bool) → not b ≡ true → b ≡ false
not_true true e = absurd (cc)
not_true false e = refl

none_is_some : {A : Type 0} {x : A} → None ≡ Some x → ⊥
none_is_some e = cc

pub append_step : (b : Bool) (x y z : Option ℕ) (e : ℕ) → cond b None x ≡ Some e → (x ≡ Some e → y ≡ z) → cond b None y ≡ z
append_step true x y z e is more = absurd (none_is_some is)
append_step false x y z e is more = more is

some_depth : (d e : ℕ) → Some d ≡ Some e → d ≡ e
some_depth d e is = cc

pub flat-append : (u v : List Token) (d e : ℕ) → flat_after d u ≡ Some e → flat_after d (u ++ v) ≡ flat_after e v
flat-append [] v d e is = ap (λ n. flat_after n v) (some_depth d e is)
flat-append (t ∷ u) v d e is =
    append_step ((d == 0) && not (stays t.kind)) (flat_after (depth_after d t.kind) u) (flat_after (depth_after d t.kind) (u ++ v)) (flat_after e v) e is
    (λ more. flat-append u v (depth_after d t.kind) e more)

-- a token that stays, or that stands within brackets
one_more : (t : Token) (u : List Token) (d e : ℕ) → ((d == 0) && not (stays t.kind)) ≡ false → depth_after d t.kind ≡ e → flat_after d (t ∷ u) ≡ flat_after e u
one_more t u d e stay same =
    ap (λ b. cond b None (flat_after (depth_after d t.kind) u)) stay ∙ ap (λ n. flat_after n u) same

stay_here : (t : Token) (d : ℕ) → stays t.kind ≡ true → ((d == 0) && not (stays t.kind)) ≡ false
stay_here t d e = ap (λ b. (d == 0) && not b) e ∙ and_false (d == 0)

stay_within : (t : Token) (d : ℕ) → ((suc d == 0) && not (stays t.kind)) ≡ false
stay_within t d = ap (λ b. b && not (stays t.kind)) (suc_is_not d)

pub same_depth : (kind : TokenKind) (d : ℕ) → in_plain kind ≡ true → depth_after d kind ≡ d
same_depth kind d e =
    let both = both_parts (not (opens_bracket kind)) (not (closes_bracket kind)) e in
    ap (λ b. cond b (d + 1) (cond (closes_bracket kind) (d - 1) d)) (not_true (opens_bracket kind) both.0)
    ∙ ap (λ b. cond b (d - 1) d) (not_true (closes_bracket kind) both.1)

open_sign : (s : Sign) → opens_bracket (kinds.Sign s) ≡ true → (t : Token) (d : ℕ) → IsSign s t → depth_after d t.kind ≡ suc d
open_sign s e t d h = ap (λ k. cond (opens_bracket k) (d + 1) (cond (closes_bracket k) (d - 1) d)) h ∙ ap (λ b. cond b (d + 1) (cond (closes_bracket (kinds.Sign s)) (d - 1) d)) e ∙ add-one d

close_sign : (s : Sign) → opens_bracket (kinds.Sign s) ≡ false → closes_bracket (kinds.Sign s) ≡ true → (t : Token) (d : ℕ) → IsSign s t → depth_after (suc d) t.kind ≡ d
close_sign s o e t d h =
    ap (λ k. cond (opens_bracket k) (suc d + 1) (cond (closes_bracket k) (suc d - 1) (suc d))) h
    ∙ ap (λ b. cond b (suc d + 1) (cond (closes_bracket (kinds.Sign s)) (suc d - 1) (suc d))) o
    ∙ ap (λ b. cond b (suc d - 1) (suc d)) e
    ∙ omega arith

pub none_flat : Flat []
none_flat = record { at = λ depth. refl }

pub none_inner : Inner []
none_inner = record { at = λ depth. refl }

pub inner_of : {u : List Token} → Flat u → Inner u
inner_of f = record { at = λ depth. f.at (suc depth) }

pub flat_token : {u : List Token} (t : Token) → plain t.kind ≡ true → Flat u → Flat (t ∷ u)
flat_token {u = u} t e f =
    let both = both_parts (stays t.kind) (in_plain t.kind) e in
    record { at = λ depth. one_more t u depth depth (stay_here t depth both.0) (same_depth t.kind depth both.1) ∙ f.at depth }

pub inner_token : {u : List Token} (t : Token) → in_plain t.kind ≡ true → Inner u → Inner (t ∷ u)
inner_token {u = u} t e f = record { at = λ depth. one_more t u (suc depth) (suc depth) (stay_within t depth) (same_depth t.kind (suc depth) e) ∙ f.at depth }

pub shut_token : {u : List Token} (t : Token) → in_plain t.kind ≡ true → Shut u → Shut (t ∷ u)
shut_token {u = u} t e f = record { at = λ depth. one_more t u (suc depth) (suc depth) (stay_within t depth) (same_depth t.kind (suc depth) e) ∙ f.at depth }

-- brackets, by their sign
pub flat_open : {u : List Token} {s : Sign} (t : Token) → IsSign s t → (stays (kinds.Sign s) && opens_bracket (kinds.Sign s)) ≡ true → Shut u → Flat (t ∷ u)
flat_open {u = u} {s = s} t h e f =
    let both = both_parts (stays (kinds.Sign s)) (opens_bracket (kinds.Sign s)) e in
    record { at = λ depth. one_more t u depth (suc depth) (stay_here t depth (ap stays h ∙ both.0)) (open_sign s both.1 t depth h) ∙ f.at depth }

pub shut_flat : {u : List Token} {s : Sign} (t : Token) → IsSign s t → (not (opens_bracket (kinds.Sign s)) && closes_bracket (kinds.Sign s)) ≡ true → Flat u → Shut (t ∷ u)
shut_flat {u = u} {s = s} t h e f =
    let both = both_parts (not (opens_bracket (kinds.Sign s))) (closes_bracket (kinds.Sign s)) e in
    record { at = λ depth. one_more t u (suc depth) depth (stay_within t depth) (close_sign s (not_true (opens_bracket (kinds.Sign s)) both.0) both.1 t depth h) ∙ f.at depth }

pub flat_both : {u v : List Token} → Flat u → Flat v → Flat (u ++ v)
flat_both {u = u} {v = v} f g = record { at = λ depth. flat-append u v depth depth (f.at depth) ∙ g.at depth }

pub inner_both : {u v : List Token} → Inner u → Inner v → Inner (u ++ v)
inner_both {u = u} {v = v} f g = record { at = λ depth. flat-append u v (suc depth) (suc depth) (f.at depth) ∙ g.at depth }

pub shut_both : {u v : List Token} → Inner u → Shut v → Shut (u ++ v)
shut_both {u = u} {v = v} f g = record { at = λ depth. flat-append u v (suc depth) (suc depth) (f.at depth) ∙ g.at depth }

-- ---- tokens by their kind

pub plain_is : {kind : TokenKind} (t : Token) → t.kind ≡ kind → plain kind ≡ true → plain t.kind ≡ true
plain_is t h e = ap plain h ∙ e

pub in_plain_is : {kind : TokenKind} (t : Token) → t.kind ≡ kind → in_plain kind ≡ true → in_plain t.kind ≡ true
in_plain_is t h e = ap in_plain h ∙ e

pub in_plain_of : (t : Token) → plain t.kind ≡ true → in_plain t.kind ≡ true
in_plain_of t e = (both_parts (stays t.kind) (in_plain t.kind) e).1

pub heads_is : {kind : TokenKind} (t : Token) → t.kind ≡ kind → heads_line kind ≡ true → heads_line t.kind ≡ true
heads_is t h e = ap heads_line h ∙ e

word_literal_plain : (w : Word) (l : Literal) → word_literal w ≡ Some l → plain (kinds.Word w) ≡ true
word_literal_plain word.True l e = refl
word_literal_plain word.False l e = refl
word_literal_plain word.Null l e = refl
word_literal_plain word.Noop l e = refl
word_literal_plain _ l e = absurd (none_is_some e)

pub literal_plain : (kind : TokenKind) (text : List ℕ) (l : Literal) → literal_of kind text ≡ Some l → plain kind ≡ true
literal_plain kinds.Number text l e = refl
literal_plain kinds.Char text l e = refl
literal_plain kinds.Str text l e = refl
literal_plain (kinds.Word w) text l e = word_literal_plain w l e
literal_plain kinds.Name text l e = absurd (none_is_some e)
literal_plain kinds.Separator text l e = absurd (none_is_some e)
literal_plain (kinds.Sign s) text l e = absurd (none_is_some e)

word_basic_plain : (w : Word) (b : BasicType) → word_basic w ≡ Some b → plain (kinds.Word w) ≡ true
word_basic_plain word.Int b e = refl
word_basic_plain word.Bool b e = refl
word_basic_plain word.Char b e = refl
word_basic_plain _ b e = absurd (none_is_some e)

pub basic_plain : (kind : TokenKind) (b : BasicType) → basic_of kind ≡ Some b → plain kind ≡ true
basic_plain (kinds.Word w) b e = word_basic_plain w b e
basic_plain kinds.Number b e = absurd (none_is_some e)
basic_plain kinds.Char b e = absurd (none_is_some e)
basic_plain kinds.Str b e = absurd (none_is_some e)
basic_plain kinds.Name b e = absurd (none_is_some e)
basic_plain kinds.Separator b e = absurd (none_is_some e)
basic_plain (kinds.Sign s) b e = absurd (none_is_some e)

word_conversion_plain : (w : Word) (c : Conversion) → word_conversion w ≡ Some c → plain (kinds.Word w) ≡ true
word_conversion_plain word.Int c e = refl
word_conversion_plain word.Char c e = refl
word_conversion_plain word.String c e = refl
word_conversion_plain _ c e = absurd (none_is_some e)

pub conversion_plain : (kind : TokenKind) (c : Conversion) → conversion_of kind ≡ Some c → plain kind ≡ true
conversion_plain (kinds.Word w) c e = word_conversion_plain w c e
conversion_plain kinds.Number c e = absurd (none_is_some e)
conversion_plain kinds.Char c e = absurd (none_is_some e)
conversion_plain kinds.Str c e = absurd (none_is_some e)
conversion_plain kinds.Name c e = absurd (none_is_some e)
conversion_plain kinds.Separator c e = absurd (none_is_some e)
conversion_plain (kinds.Sign s) c e = absurd (none_is_some e)

sign_unary_plain : (s : Sign) (o : UnaryOperator) → sign_unary s ≡ Some o → plain (kinds.Sign s) ≡ true
sign_unary_plain sign.Minus o e = refl
sign_unary_plain sign.Plus o e = refl
sign_unary_plain _ o e = absurd (none_is_some e)

word_unary_plain : (w : Word) (o : UnaryOperator) → word_unary w ≡ Some o → plain (kinds.Word w) ≡ true
word_unary_plain word.Not o e = refl
word_unary_plain _ o e = absurd (none_is_some e)

pub unary_plain : (kind : TokenKind) (o : UnaryOperator) → unary_of kind ≡ Some o → plain kind ≡ true
unary_plain (kinds.Sign s) o e = sign_unary_plain s o e
unary_plain (kinds.Word w) o e = word_unary_plain w o e
unary_plain kinds.Number o e = absurd (none_is_some e)
unary_plain kinds.Char o e = absurd (none_is_some e)
unary_plain kinds.Str o e = absurd (none_is_some e)
unary_plain kinds.Name o e = absurd (none_is_some e)
unary_plain kinds.Separator o e = absurd (none_is_some e)

sign_binary_plain : (s : Sign) (o : BinaryOperator) → sign_binary s ≡ Some o → plain (kinds.Sign s) ≡ true
sign_binary_plain sign.Equal o e = refl
sign_binary_plain sign.NotEqual o e = refl
sign_binary_plain sign.Less o e = refl
sign_binary_plain sign.LessEqual o e = refl
sign_binary_plain sign.Greater o e = refl
sign_binary_plain sign.GreaterEqual o e = refl
sign_binary_plain sign.Plus o e = refl
sign_binary_plain sign.Minus o e = refl
sign_binary_plain sign.Join o e = refl
sign_binary_plain sign.Star o e = refl
sign_binary_plain sign.Slash o e = refl
sign_binary_plain sign.Percent o e = refl
sign_binary_plain _ o e = absurd (none_is_some e)

word_binary_plain : (w : Word) (o : BinaryOperator) → word_binary w ≡ Some o → plain (kinds.Word w) ≡ true
word_binary_plain word.Or o e = refl
word_binary_plain word.Xor o e = refl
word_binary_plain word.And o e = refl
word_binary_plain word.Mod o e = refl
word_binary_plain _ o e = absurd (none_is_some e)

pub binary_plain : (kind : TokenKind) (o : BinaryOperator) → binary_of kind ≡ Some o → plain kind ≡ true
binary_plain (kinds.Sign s) o e = sign_binary_plain s o e
binary_plain (kinds.Word w) o e = word_binary_plain w o e
binary_plain kinds.Number o e = absurd (none_is_some e)
binary_plain kinds.Char o e = absurd (none_is_some e)
binary_plain kinds.Str o e = absurd (none_is_some e)
binary_plain kinds.Name o e = absurd (none_is_some e)
binary_plain kinds.Separator o e = absurd (none_is_some e)

pub invocation_plain : (w : Word) (k : InvocationKind) → kind_of w ≡ Some k → plain (kinds.Word w) ≡ true
invocation_plain word.Call k e = refl
invocation_plain word.Send k e = refl
invocation_plain _ k e = absurd (none_is_some e)

pub direction_plain : (w : Word) (d : Direction) → direction_of w ≡ Some d → plain (kinds.Word w) ≡ true
direction_plain word.To d e = refl
direction_plain word.Downto d e = refl
direction_plain _ d e = absurd (none_is_some e)

pub condition_plain : (w : Word) (c : ConditionWord) → condition_word_of w ≡ Some c → plain (kinds.Word w) ≡ true
condition_plain word.And c e = refl
condition_plain word.St c e = refl
condition_plain _ c e = absurd (none_is_some e)
