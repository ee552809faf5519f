-- Tokens after which a line may end.
use Rattle.std.proofs.Common.{◌≡◌, ℕ, Bool, true, List, [], ◌∷◌, ◌++◌, refl, ap, ◌∙◌, Some, None}
use Rattle.sr_tree.specs.declared.expr.BasicType.{BasicType}
use Rattle.sr_tree.specs.declared.expr.Literal.{Literal}
use Rattle.sr_tree.specs.declared.token.Token.{Token}
use Rattle.sr_tree.specs.declared.token.TokenKind.{TokenKind}
use Rattle.sr_tree.specs.declared.token.TokenKind.TheVariants as kinds
use Rattle.sr_tree.specs.declared.token.Word.{Word}
use Rattle.sr_tree.specs.declared.token.Word.TheVariants as word
use Rattle.sr_tree.specs.Tables.{word_literal, literal_of, word_basic, basic_of}
use Rattle.sr_lexer.specs.Roles.{may_end_line}

-- whether a line may end after the tokens, where that is known of what stands before them
abbrev pub may_end : Bool → List Token → Bool
may_end before [] = before
may_end before (t ∷ ts) = may_end (may_end_line t.kind) ts

-- whatever stands before them
pub record Ends (u : List Token) : Type 0 where
  pub at : (before : Bool) → may_end before u ≡ true

-- where one may end before them
pub record KeepsEnd (u : List Token) : Type 0 where
  pub at : may_end true u ≡ true

none_is_some : {A : Type 0} {x : A} → None ≡ Some x → ⊥
none_is_some e = cc

pub may_end-append : (u v : List Token) (before : Bool) → may_end before (u ++ v) ≡ may_end (may_end before u) v
may_end-append [] v before = refl
may_end-append (t ∷ u) v before = may_end-append u v (may_end_line t.kind)

pub keeps_none : KeepsEnd []
keeps_none = record { at = refl }

pub keeps_of : {u : List Token} → Ends u → KeepsEnd u
keeps_of f = record { at = f.at true }

pub keeps_both : {u v : List Token} → KeepsEnd u → KeepsEnd v → KeepsEnd (u ++ v)
keeps_both {u = u} {v = v} f g = record { at = may_end-append u v true ∙ ap (λ b. may_end b v) f.at ∙ g.at }

pub ends_skip : {u : List Token} (t : Token) → Ends u → Ends (t ∷ u)
ends_skip t f = record { at = λ before. f.at (may_end_line t.kind) }

pub ends_with : {u : List Token} (t : Token) → may_end_line t.kind ≡ true → KeepsEnd u → Ends (t ∷ u)
ends_with {u = u} t e f = record { at = λ before. ap (λ b. may_end b u) e ∙ f.at }

pub ends_after : {v : List Token} (u : List Token) → Ends v → Ends (u ++ v)
ends_after {v = v} u f = record { at = λ before. may_end-append u v before ∙ f.at (may_end before u) }

pub ends_then : {u v : List Token} → Ends u → KeepsEnd v → Ends (u ++ v)
ends_then {u = u} {v = v} f g = record { at = λ before. may_end-append u v before ∙ ap (λ b. may_end b v) (f.at before) ∙ g.at }

pub may_end_is : {kind : TokenKind} (t : Token) → t.kind ≡ kind → may_end_line kind ≡ true → may_end_line t.kind ≡ true
may_end_is t h e = ap may_end_line h ∙ e

word_literal_ends : (w : Word) (l : Literal) → word_literal w ≡ Some l → may_end_line (kinds.Word w) ≡ true
word_literal_ends word.True l e = refl
word_literal_ends word.False l e = refl
word_literal_ends word.Null l e = refl
word_literal_ends word.Noop l e = refl
word_literal_ends _ l e = absurd (none_is_some e)

pub literal_ends : (kind : TokenKind) (text : List ℕ) (l : Literal) → literal_of kind text ≡ Some l → may_end_line kind ≡ true
literal_ends kinds.Number text l e = refl
literal_ends kinds.Char text l e = refl
literal_ends kinds.Str text l e = refl
literal_ends (kinds.Word w) text l e = word_literal_ends w l e
literal_ends kinds.Name text l e = absurd (none_is_some e)
literal_ends kinds.Separator text l e = absurd (none_is_some e)
literal_ends (kinds.Sign s) text l e = absurd (none_is_some e)

word_basic_ends : (w : Word) (b : BasicType) → word_basic w ≡ Some b → may_end_line (kinds.Word w) ≡ true
word_basic_ends word.Int b e = refl
word_basic_ends word.Bool b e = refl
word_basic_ends word.Char b e = refl
word_basic_ends _ b e = absurd (none_is_some e)

pub basic_ends : (kind : TokenKind) (b : BasicType) → basic_of kind ≡ Some b → may_end_line kind ≡ true
basic_ends (kinds.Word w) b e = word_basic_ends w b e
basic_ends kinds.Number b e = absurd (none_is_some e)
basic_ends kinds.Char b e = absurd (none_is_some e)
basic_ends kinds.Str b e = absurd (none_is_some e)
basic_ends kinds.Name b e = absurd (none_is_some e)
basic_ends kinds.Separator b e = absurd (none_is_some e)
basic_ends (kinds.Sign s) b e = absurd (none_is_some e)
