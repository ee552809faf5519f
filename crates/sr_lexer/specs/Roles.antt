-- What the tokens do: for separators, for the depth of nesting and for runs.
use Rattle.std.specs.Prelude.{Bool, true, false}
use Rattle.sr_tree.specs.declared.token.Sign.TheVariants as signs
use Rattle.sr_tree.specs.declared.token.Word.TheVariants as words
use Rattle.sr_tree.specs.declared.token.TokenKind.{TokenKind}
use Rattle.sr_tree.specs.declared.token.TokenKind.TheVariants as kinds

-- the tokens after which a line may end
abbrev pub may_end_line : TokenKind → Bool
may_end_line kinds.Name = true
may_end_line kinds.Number = true
may_end_line kinds.Char = true
may_end_line kinds.Str = true
may_end_line (kinds.Sign signs.CloseParen) = true
may_end_line (kinds.Sign signs.CloseBracket) = true
may_end_line (kinds.Sign signs.CloseBrace) = true
may_end_line (kinds.Sign signs.Increment) = true
may_end_line (kinds.Sign signs.Decrement) = true
may_end_line (kinds.Word words.True) = true
may_end_line (kinds.Word words.False) = true
may_end_line (kinds.Word words.Null) = true
may_end_line (kinds.Word words.Noop) = true
may_end_line (kinds.Word words.Vm) = true
may_end_line (kinds.Word words.Int) = true
may_end_line (kinds.Word words.Bool) = true
may_end_line (kinds.Word words.Char) = true
may_end_line (kinds.Word words.End) = true
may_end_line (kinds.Word words.Fi) = true
may_end_line (kinds.Word words.Od) = true
may_end_line (kinds.Word words.Af) = true
may_end_line (kinds.Word words.Ni) = true
may_end_line (kinds.Word words.Oc) = true
may_end_line (kinds.Word words.Skip) = true
may_end_line (kinds.Word words.Stop) = true
may_end_line (kinds.Word words.Exit) = true
may_end_line (kinds.Word words.Next) = true
may_end_line (kinds.Word words.Return) = true
may_end_line (kinds.Word words.Reply) = true
may_end_line _ = false

-- the tokens that go on with the line before them
abbrev pub continues_line : TokenKind → Bool
continues_line (kinds.Sign signs.Arrow) = true
continues_line (kinds.Sign signs.Alternative) = true
continues_line (kinds.Sign signs.Parallel) = true
continues_line (kinds.Sign signs.Comma) = true
continues_line (kinds.Sign signs.Assign) = true
continues_line (kinds.Sign signs.Exchange) = true
continues_line (kinds.Sign signs.CloseParen) = true
continues_line (kinds.Sign signs.CloseBracket) = true
continues_line (kinds.Word words.And) = true
continues_line (kinds.Word words.Or) = true
continues_line (kinds.Word words.Xor) = true
continues_line (kinds.Word words.By) = true
continues_line (kinds.Word words.Returns) = true
continues_line (kinds.Word words.St) = true
continues_line (kinds.Word words.To) = true
continues_line (kinds.Word words.Downto) = true
continues_line (kinds.Word words.Oc) = true
continues_line _ = false

-- the brackets in which no newline is a separator
abbrev pub opens_bracket : TokenKind → Bool
opens_bracket (kinds.Sign signs.OpenParen) = true
opens_bracket (kinds.Sign signs.OpenBracket) = true
opens_bracket _ = false

-- what closes these brackets
abbrev pub closes_bracket : TokenKind → Bool
closes_bracket (kinds.Sign signs.CloseParen) = true
closes_bracket (kinds.Sign signs.CloseBracket) = true
closes_bracket _ = false

-- the brackets and words that begin a level of nesting
abbrev pub opens_level : TokenKind → Bool
opens_level (kinds.Sign signs.OpenParen) = true
opens_level (kinds.Sign signs.OpenBracket) = true
opens_level (kinds.Sign signs.OpenBrace) = true
opens_level (kinds.Word words.If) = true
opens_level (kinds.Word words.Do) = true
opens_level (kinds.Word words.Fa) = true
opens_level (kinds.Word words.In) = true
opens_level (kinds.Word words.Co) = true
opens_level _ = false

-- the brackets and words that end a level of nesting
abbrev pub closes_level : TokenKind → Bool
closes_level (kinds.Sign signs.CloseParen) = true
closes_level (kinds.Sign signs.CloseBracket) = true
closes_level (kinds.Sign signs.CloseBrace) = true
closes_level (kinds.Word words.Fi) = true
closes_level (kinds.Word words.Od) = true
closes_level (kinds.Word words.Af) = true
closes_level (kinds.Word words.Ni) = true
closes_level (kinds.Word words.Oc) = true
closes_level _ = false

-- the tokens that stand between runs
abbrev pub breaks_run : TokenKind → Bool
breaks_run kinds.Separator = true
breaks_run (kinds.Sign signs.Comma) = true
breaks_run (kinds.Sign signs.Arrow) = true
breaks_run (kinds.Sign signs.Alternative) = true
breaks_run (kinds.Sign signs.Parallel) = true
breaks_run (kinds.Sign signs.Assign) = true
breaks_run _ = false

-- the operators, points and opening brackets, which count towards the limit of a run
abbrev pub counts_in_run : TokenKind → Bool
counts_in_run (kinds.Sign signs.Plus) = true
counts_in_run (kinds.Sign signs.Minus) = true
counts_in_run (kinds.Sign signs.Star) = true
counts_in_run (kinds.Sign signs.Slash) = true
counts_in_run (kinds.Sign signs.Percent) = true
counts_in_run (kinds.Sign signs.Join) = true
counts_in_run (kinds.Sign signs.Equal) = true
counts_in_run (kinds.Sign signs.NotEqual) = true
counts_in_run (kinds.Sign signs.Less) = true
counts_in_run (kinds.Sign signs.LessEqual) = true
counts_in_run (kinds.Sign signs.Greater) = true
counts_in_run (kinds.Sign signs.GreaterEqual) = true
counts_in_run (kinds.Sign signs.Point) = true
counts_in_run (kinds.Sign signs.Query) = true
counts_in_run (kinds.Sign signs.OpenParen) = true
counts_in_run (kinds.Sign signs.OpenBracket) = true
counts_in_run (kinds.Word words.And) = true
counts_in_run (kinds.Word words.Or) = true
counts_in_run (kinds.Word words.Xor) = true
counts_in_run (kinds.Word words.Not) = true
counts_in_run (kinds.Word words.Mod) = true
counts_in_run _ = false

-- the words that this profile leaves out
abbrev pub is_left_out : TokenKind → Bool
is_left_out (kinds.Word words.Real) = true
is_left_out (kinds.Word words.Ptr) = true
is_left_out (kinds.Word words.Union) = true
is_left_out (kinds.Word words.File) = true
is_left_out (kinds.Word words.Ref) = true
is_left_out (kinds.Word words.External) = true
is_left_out (kinds.Word words.Separate) = true
is_left_out (kinds.Word words.Extend) = true
is_left_out _ = false
