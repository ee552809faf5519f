-- What a token does to the lines: which tokens begin one, and which open and close a level of indentation.
use Rattle.std.specs.Prelude.{Bool, true, false, ◌||◌}
use Rattle.sr_tree.specs.declared.token.Sign.TheVariants as signs
use Rattle.sr_tree.specs.declared.token.TokenKind.{TokenKind}
use Rattle.sr_tree.specs.declared.token.TokenKind.TheVariants as kinds
use Rattle.sr_tree.specs.declared.token.Word.TheVariants as words

-- the words whose contents stand one level deeper
abbrev pub opens_level : TokenKind → Bool
opens_level (kinds.Word words.Resource) = true
opens_level (kinds.Word words.Global) = true
opens_level (kinds.Word words.Proc) = true
opens_level (kinds.Word words.Procedure) = true
opens_level (kinds.Word words.Process) = true
opens_level (kinds.Word words.Final) = true
opens_level (kinds.Word words.If) = true
opens_level (kinds.Word words.Do) = true
opens_level (kinds.Word words.Fa) = true
opens_level (kinds.Word words.In) = true
opens_level (kinds.Word words.Co) = true
opens_level _ = false

-- the words that end such contents
abbrev pub closes_level : TokenKind → Bool
closes_level (kinds.Word words.End) = true
closes_level (kinds.Word words.Fi) = true
closes_level (kinds.Word words.Od) = true
closes_level (kinds.Word words.Af) = true
closes_level (kinds.Word words.Ni) = true
closes_level (kinds.Word words.Oc) = true
closes_level _ = false

-- what begins a further part of a component or statement: `body`, `[]` and `//`
abbrev pub begins_part : TokenKind → Bool
begins_part (kinds.Word words.Body) = true
begins_part (kinds.Sign signs.Alternative) = true
begins_part (kinds.Sign signs.Parallel) = true
begins_part _ = false

-- closing words and further parts stand at the level of the head that they belong to
abbrev pub stands_out : TokenKind → Bool
stands_out kind = closes_level kind || begins_part kind

-- the words that begin a component
abbrev pub begins_component : TokenKind → Bool
begins_component (kinds.Word words.Resource) = true
begins_component (kinds.Word words.Global) = true
begins_component _ = false

-- the words that begin a declaration
abbrev pub begins_declaration : TokenKind → Bool
begins_declaration (kinds.Word words.Import) = true
begins_declaration (kinds.Word words.Const) = true
begins_declaration (kinds.Word words.«Type») = true
begins_declaration (kinds.Word words.OpType) = true
begins_declaration (kinds.Word words.Op) = true
begins_declaration (kinds.Word words.Var) = true
begins_declaration (kinds.Word words.Sem) = true
begins_declaration (kinds.Word words.Proc) = true
begins_declaration (kinds.Word words.Procedure) = true
begins_declaration (kinds.Word words.Process) = true
begins_declaration (kinds.Word words.Final) = true
begins_declaration _ = false

-- the tokens that begin a line wherever no bracket is open
abbrev pub always_begins_line : TokenKind → Bool
always_begins_line kind = begins_component kind || begins_declaration kind || stands_out kind
