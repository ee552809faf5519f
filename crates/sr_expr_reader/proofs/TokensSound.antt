-- What the readers of single tokens read.
use Rattle.std.proofs.Common.{◌≡◌, refl, sym, ap, subst, Bool, true, false, List, [], ◌∷◌, ◌++◌, Option, Some, None}
use Rattle.std.specs.Prelude.{if◌then◌else◌, option_map}
use denote.Enum.Bare.{same_true}
use Rattle.sr_reader.proofs.Soundness.{Sound, Returns, returns, IsOne, is_one, one-sound, weaker, append-nil}
use Rattle.sr_value.specs.declared.place.Span.{Span}
use Rattle.sr_tree.specs.contracts.token.Sign as signs
use Rattle.sr_tree.specs.contracts.token.Word as words
use Rattle.sr_tree.specs.declared.name.Name.{Name}
use Rattle.sr_tree.specs.declared.token.Sign.{Sign}
use Rattle.sr_tree.specs.declared.token.Token.{Token}
use Rattle.sr_tree.specs.declared.token.TokenKind.{TokenKind}
use Rattle.sr_tree.specs.declared.token.TokenKind.TheVariants as kind
use Rattle.sr_tree.specs.declared.token.Word.{Word}
use Rattle.sr_tree.specs.Tables.{IsSign, IsWord, IsName, IsSeparator, name_of, literal_of, conversion_of, unary_of}
use Rattle.sr_tree.specs.Tests.{is_sign, is_word, is_name}
use Rattle.sr_expr_reader.specs.Readers.{unary_at, literal_at, conversion_at}
use Rattle.sr_tree.specs.Tokens.{sign_at, word_at, name_at, is_separator, separator_at}

pub kind_of_sign : (s : Sign) (k : TokenKind) → is_sign s k ≡ true → k ≡ kind.Sign s
kind_of_sign s (kind.Sign found) e = ap kind.Sign (same_true signs.the_type tt found s e)
kind_of_sign s _ e = cc

pub kind_of_word : (w : Word) (k : TokenKind) → is_word w k ≡ true → k ≡ kind.Word w
kind_of_word w (kind.Word found) e = ap kind.Word (same_true words.the_type tt found w e)
kind_of_word w _ e = cc

pub kind_of_name : (k : TokenKind) → is_name k ≡ true → k ≡ kind.Name
kind_of_name kind.Name e = refl
kind_of_name _ e = cc

pub kind_of_separator : (k : TokenKind) → is_separator k ≡ true → k ≡ kind.Separator
kind_of_separator kind.Separator e = refl
kind_of_separator _ e = cc

pub data ASign (s : Sign) : Span → List Token → Type 0 where
  a_sign : (t : Token) → IsSign s t → ASign s t.span (t ∷ [])

pub data AWord (w : Word) : Span → List Token → Type 0 where
  a_word : (t : Token) → IsWord w t → AWord w t.span (t ∷ [])

pub data AName : Name → List Token → Type 0 where
  a_name : (t : Token) → IsName t → AName (name_of t) (t ∷ [])

pub data ASeparator : Span → List Token → Type 0 where
  a_separator : (t : Token) → IsSeparator t → ASeparator t.span (t ∷ [])

pub none_some : {A : Type 0} (a : A) → None ≡ Some a → ⊥
none_some a e = cc

pub some_some : {A : Type 0} (x a : A) → Some x ≡ Some a → x ≡ a
some_some x a e = cc

-- what a test lets pass
passed : {A : Type 0} (P : A → Type 0) (b : Bool) (x a : A) → (b ≡ true → P x) → (if b then Some x else None) ≡ Some a → P a
passed P true x a h e = subst P (some_some x a e) (h refl)
passed P false x a h e = absurd (none_some a e)

pub sign-sound : (s : Sign) → Sound (ASign s) (sign_at s)
unfolding sign_at
sign-sound s = weaker found (one-sound _)
  where
    found : (a : Span) (u : List Token) → IsOne (λ t. if is_sign s t.kind then Some t.span else None) a u → ASign s a u
    found a u (is_one t e) = passed (λ x. ASign s x (t ∷ [])) (is_sign s t.kind) t.span a (λ h. a_sign t (kind_of_sign s t.kind h)) e

pub word-sound : (w : Word) → Sound (AWord w) (word_at w)
unfolding word_at
word-sound w = weaker found (one-sound _)
  where
    found : (a : Span) (u : List Token) → IsOne (λ t. if is_word w t.kind then Some t.span else None) a u → AWord w a u
    found a u (is_one t e) = passed (λ x. AWord w x (t ∷ [])) (is_word w t.kind) t.span a (λ h. a_word t (kind_of_word w t.kind h)) e

pub name-sound : Sound AName name_at
unfolding name_at
name-sound = weaker found (one-sound _)
  where
    found : (a : Name) (u : List Token) → IsOne (λ t. if is_name t.kind then Some (name_of t) else None) a u → AName a u
    found a u (is_one t e) = passed (λ x. AName x (t ∷ [])) (is_name t.kind) (name_of t) a (λ h. a_name t (kind_of_name t.kind h)) e

pub separator-sound : Sound ASeparator separator_at
unfolding separator_at
separator-sound = weaker found (one-sound _)
  where
    found : (a : Span) (u : List Token) → IsOne (λ t. if is_separator t.kind then Some t.span else None) a u → ASeparator a u
    found a u (is_one t e) = passed (λ x. ASeparator x (t ∷ [])) (is_separator t.kind) t.span a (λ h. a_separator t (kind_of_separator t.kind h)) e

-- a token with its span
pub data Spanned {A : Type 0} (meaning : Token → Option A) : Span × A → List Token → Type 0 where
  spanned : (t : Token) (a : A) → meaning t ≡ Some a → Spanned meaning (t.span, a) (t ∷ [])

pub spanned_from : {A : Type 0} (meaning : Token → Option A) (a : Span × A) (u : List Token) → IsOne (λ t. option_map (λ x. (t.span, x)) (meaning t)) a u → Spanned meaning a u
spanned_from {A = A} meaning a u (is_one t e) = go (meaning t) refl e
  where
    go : (m : Option A) → meaning t ≡ m → option_map (λ x. (t.span, x)) m ≡ Some a → Spanned meaning a (t ∷ [])
    go (Some x) h e = subst (λ y. Spanned meaning y (t ∷ [])) (some_some (t.span, x) a e) (spanned t x h)
    go None h e = absurd (none_some a e)

pub unary-sound : Sound (Spanned (λ t. unary_of t.kind)) unary_at
unfolding unary_at
unary-sound = weaker (spanned_from (λ t. unary_of t.kind)) (one-sound _)

pub literal-sound : Sound (Spanned (λ t. literal_of t.kind t.text)) literal_at
unfolding literal_at
literal-sound = weaker (spanned_from (λ t. literal_of t.kind t.text)) (one-sound _)

pub conversion-sound : Sound (Spanned (λ t. conversion_of t.kind)) conversion_at
unfolding conversion_at
conversion-sound = weaker (spanned_from (λ t. conversion_of t.kind)) (one-sound _)

-- nothing after what is read

pub ended : (P : List Token → Type 0) (u : List Token) → P u → P (u ++ [])
ended P u h = subst P (sym (append-nil u)) h

pub into : {A : Type 0} (P : A → List Token → Type 0) (x e : A) (z : List Token) → Returns x e z → P x [] → P e z
into P x e z returns h = h
