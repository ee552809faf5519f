-- Readers of single tokens.
use Rattle.std.specs.Prelude.{Bool, true, false, Some, None, if◌then◌else◌}
use Rattle.sr_reader.specs.Reader.{Reader, one}
use Rattle.sr_value.specs.declared.place.Span.{Span}
use Rattle.sr_tree.specs.declared.name.Name.{Name}
use Rattle.sr_tree.specs.declared.token.Sign.{Sign}
use Rattle.sr_tree.specs.declared.token.Token.{Token}
use Rattle.sr_tree.specs.declared.token.TokenKind.{TokenKind}
use Rattle.sr_tree.specs.declared.token.TokenKind.TheVariants as kind
use Rattle.sr_tree.specs.declared.token.Word.{Word}
use Rattle.sr_tree.specs.Tables.{name_of}
use Rattle.sr_tree.specs.Tests.{is_sign, is_word, is_name}

-- its span
unfoldable pub sign_at : Sign → Reader Token Span
sign_at s = one (λ t. if is_sign s t.kind then Some t.span else None)

unfoldable pub word_at : Word → Reader Token Span
word_at w = one (λ t. if is_word w t.kind then Some t.span else None)

unfoldable pub name_at : Reader Token Name
name_at = one (λ t. if is_name t.kind then Some (name_of t) else None)

abbrev pub is_separator : TokenKind → Bool
is_separator kind.Separator = true
is_separator _ = false

unfoldable pub separator_at : Reader Token Span
separator_at = one (λ t. if is_separator t.kind then Some t.span else None)
