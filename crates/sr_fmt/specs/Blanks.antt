-- Which two tokens of a line have a blank between them.
use Rattle.std.specs.Prelude.{Bool, true, false, ◌||◌, not}
use Rattle.sr_tree.specs.declared.token.Sign.TheVariants as signs
use Rattle.sr_tree.specs.declared.token.TokenKind.{TokenKind}
use Rattle.sr_tree.specs.declared.token.TokenKind.TheVariants as kinds
use Rattle.sr_tree.specs.declared.token.Word.TheVariants as words

-- no blank stands before `,` `;` `:` `)` `]` `}` `.` `++` `--`
abbrev pub joins_before : TokenKind → Bool
joins_before kinds.Separator = true
joins_before (kinds.Sign signs.Comma) = true
joins_before (kinds.Sign signs.Colon) = true
joins_before (kinds.Sign signs.CloseParen) = true
joins_before (kinds.Sign signs.CloseBracket) = true
joins_before (kinds.Sign signs.CloseBrace) = true
joins_before (kinds.Sign signs.Point) = true
joins_before (kinds.Sign signs.Increment) = true
joins_before (kinds.Sign signs.Decrement) = true
joins_before _ = false

-- none stands after `(` `[` `{` `.` `?`
abbrev pub joins_after : TokenKind → Bool
joins_after (kinds.Sign signs.OpenParen) = true
joins_after (kinds.Sign signs.OpenBracket) = true
joins_after (kinds.Sign signs.OpenBrace) = true
joins_after (kinds.Sign signs.Point) = true
joins_after (kinds.Sign signs.Query) = true
joins_after _ = false

-- none stands between these and a `(`
abbrev pub takes_arguments : TokenKind → Bool
takes_arguments kinds.Name = true
takes_arguments (kinds.Word words.Int) = true
takes_arguments (kinds.Word words.Bool) = true
takes_arguments (kinds.Word words.Char) = true
takes_arguments (kinds.Word words.String) = true
takes_arguments (kinds.Word words.Vm) = true
takes_arguments (kinds.Word words.Stop) = true
takes_arguments _ = false

-- none stands between these and a `[`
abbrev pub takes_index : TokenKind → Bool
takes_index kinds.Name = true
takes_index (kinds.Sign signs.CloseParen) = true
takes_index (kinds.Sign signs.CloseBracket) = true
takes_index (kinds.Word words.String) = true
takes_index _ = false

abbrev pub opens_arguments : TokenKind → TokenKind → Bool
opens_arguments first (kinds.Sign signs.OpenParen) = takes_arguments first
opens_arguments first (kinds.Sign signs.OpenBracket) = takes_index first
opens_arguments first _ = false

-- pairs that would read as other tokens if they touched: `[` `]`, `+` `++`, `-` `--` and `:=` `:`
abbrev pub reads_otherwise : TokenKind → TokenKind → Bool
reads_otherwise (kinds.Sign signs.OpenBracket) (kinds.Sign signs.CloseBracket) = true
reads_otherwise (kinds.Sign signs.Plus) (kinds.Sign signs.Increment) = true
reads_otherwise (kinds.Sign signs.Minus) (kinds.Sign signs.Decrement) = true
reads_otherwise (kinds.Sign signs.Assign) (kinds.Sign signs.Colon) = true
reads_otherwise first second = false

-- all others have one blank between them
abbrev pub is_spaced : TokenKind → TokenKind → Bool
is_spaced first second = reads_otherwise first second || not (joins_before second || joins_after first || opens_arguments first second)
