-- The signs and the reserved words, and how they are written.
use Rattle.std.specs.Prelude.{ℕ, Bool, List, [], ◌∷◌, Option, Some, codes, find, nat_eq, if◌then◌else◌}
use Rattle.std.specs.List.{starts_with}
use lib.Pointwise.{pointwise}
use Rattle.sr_tree.specs.declared.token.Sign.{Sign}
use Rattle.sr_tree.specs.declared.token.Sign.TheVariants.{Exchange, Assign, Colon, Arrow, Decrement, Minus, Increment, Plus, Star, Parallel, Slash, Percent, Join, Equal, NotEqual, LessEqual, Less, GreaterEqual, Greater, OpenParen, CloseParen, Alternative, OpenBracket, CloseBracket, OpenBrace, CloseBrace, Comma, Point, Query}
use Rattle.sr_tree.specs.declared.token.Word.{Word}
use Rattle.sr_tree.specs.declared.token.Word.TheVariants as reserved

-- how each sign is written
abbrev pub sign_spelling : Sign → List ℕ
sign_spelling Exchange = codes ":=:"
sign_spelling Assign = codes ":="
sign_spelling Colon = codes ":"
sign_spelling Arrow = codes "->"
sign_spelling Decrement = codes "--"
sign_spelling Minus = codes "-"
sign_spelling Increment = codes "++"
sign_spelling Plus = codes "+"
sign_spelling Star = codes "*"
sign_spelling Parallel = codes "//"
sign_spelling Slash = codes "/"
sign_spelling Percent = codes "%"
sign_spelling Join = codes "||"
sign_spelling Equal = codes "="
sign_spelling NotEqual = codes "!="
sign_spelling LessEqual = codes "<="
sign_spelling Less = codes "<"
sign_spelling GreaterEqual = codes ">="
sign_spelling Greater = codes ">"
sign_spelling OpenParen = codes "("
sign_spelling CloseParen = codes ")"
sign_spelling Alternative = codes "[]"
sign_spelling OpenBracket = codes "["
sign_spelling CloseBracket = codes "]"
sign_spelling OpenBrace = codes "{"
sign_spelling CloseBrace = codes "}"
sign_spelling Comma = codes ","
sign_spelling Point = codes "."
sign_spelling Query = codes "?"

-- how each reserved word is written
abbrev pub word_spelling : Word → List ℕ
word_spelling reserved.Af = codes "af"
word_spelling reserved.And = codes "and"
word_spelling reserved.Body = codes "body"
word_spelling reserved.Bool = codes "bool"
word_spelling reserved.By = codes "by"
word_spelling reserved.Call = codes "call"
word_spelling reserved.Cap = codes "cap"
word_spelling reserved.Char = codes "char"
word_spelling reserved.Co = codes "co"
word_spelling reserved.Const = codes "const"
word_spelling reserved.Create = codes "create"
word_spelling reserved.Destroy = codes "destroy"
word_spelling reserved.Do = codes "do"
word_spelling reserved.Downto = codes "downto"
word_spelling reserved.Else = codes "else"
word_spelling reserved.End = codes "end"
word_spelling reserved.Enum = codes "enum"
word_spelling reserved.Exit = codes "exit"
word_spelling reserved.Fa = codes "fa"
word_spelling reserved.False = codes "false"
word_spelling reserved.Fi = codes "fi"
word_spelling reserved.Final = codes "final"
word_spelling reserved.Forward = codes "forward"
word_spelling reserved.Global = codes "global"
word_spelling reserved.If = codes "if"
word_spelling reserved.Import = codes "import"
word_spelling reserved.In = codes "in"
word_spelling reserved.Int = codes "int"
word_spelling reserved.Mod = codes "mod"
word_spelling reserved.Next = codes "next"
word_spelling reserved.Ni = codes "ni"
word_spelling reserved.Noop = codes "noop"
word_spelling reserved.Not = codes "not"
word_spelling reserved.Null = codes "null"
word_spelling reserved.Oc = codes "oc"
word_spelling reserved.Od = codes "od"
word_spelling reserved.On = codes "on"
word_spelling reserved.Op = codes "op"
word_spelling reserved.OpType = codes "optype"
word_spelling reserved.Or = codes "or"
word_spelling reserved.Proc = codes "proc"
word_spelling reserved.Procedure = codes "procedure"
word_spelling reserved.Process = codes "process"
word_spelling reserved.Rec = codes "rec"
word_spelling reserved.Receive = codes "receive"
word_spelling reserved.Reply = codes "reply"
word_spelling reserved.Res = codes "res"
word_spelling reserved.Resource = codes "resource"
word_spelling reserved.Return = codes "return"
word_spelling reserved.Returns = codes "returns"
word_spelling reserved.Sem = codes "sem"
word_spelling reserved.Send = codes "send"
word_spelling reserved.Skip = codes "skip"
word_spelling reserved.St = codes "st"
word_spelling reserved.Stop = codes "stop"
word_spelling reserved.String = codes "string"
word_spelling reserved.To = codes "to"
word_spelling reserved.True = codes "true"
word_spelling reserved.«Type» = codes "type"
word_spelling reserved.Val = codes "val"
word_spelling reserved.Var = codes "var"
word_spelling reserved.Vm = codes "vm"
word_spelling reserved.Xor = codes "xor"
word_spelling reserved.Real = codes "real"
word_spelling reserved.Ptr = codes "ptr"
word_spelling reserved.Union = codes "union"
word_spelling reserved.File = codes "file"
word_spelling reserved.Ref = codes "ref"
word_spelling reserved.External = codes "external"
word_spelling reserved.Separate = codes "separate"
word_spelling reserved.Extend = codes "extend"

-- all signs, each before those that it begins with
abbrev pub signs : List Sign
signs = Exchange ∷ Assign ∷ Colon ∷ Arrow ∷ Decrement ∷ Minus ∷ Increment ∷ Plus ∷ Star ∷ Parallel ∷ Slash ∷ Percent ∷ Join ∷ Equal ∷ NotEqual ∷ LessEqual ∷ Less ∷ GreaterEqual ∷ Greater ∷ OpenParen ∷ CloseParen ∷ Alternative ∷ OpenBracket ∷ CloseBracket ∷ OpenBrace ∷ CloseBrace ∷ Comma ∷ Point ∷ Query ∷ []

-- all reserved words
abbrev pub words : List Word
words = reserved.Af ∷ reserved.And ∷ reserved.Body ∷ reserved.Bool ∷ reserved.By ∷ reserved.Call ∷ reserved.Cap ∷ reserved.Char ∷ reserved.Co ∷ reserved.Const ∷ reserved.Create ∷ reserved.Destroy ∷ reserved.Do ∷ reserved.Downto ∷ reserved.Else ∷ reserved.End ∷ reserved.Enum ∷ reserved.Exit ∷ reserved.Fa ∷ reserved.False ∷ reserved.Fi ∷ reserved.Final ∷ reserved.Forward ∷ reserved.Global ∷ reserved.If ∷ reserved.Import ∷ reserved.In ∷ reserved.Int ∷ reserved.Mod ∷ reserved.Next ∷ reserved.Ni ∷ reserved.Noop ∷ reserved.Not ∷ reserved.Null ∷ reserved.Oc ∷ reserved.Od ∷ reserved.On ∷ reserved.Op ∷ reserved.OpType ∷ reserved.Or ∷ reserved.Proc ∷ reserved.Procedure ∷ reserved.Process ∷ reserved.Rec ∷ reserved.Receive ∷ reserved.Reply ∷ reserved.Res ∷ reserved.Resource ∷ reserved.Return ∷ reserved.Returns ∷ reserved.Sem ∷ reserved.Send ∷ reserved.Skip ∷ reserved.St ∷ reserved.Stop ∷ reserved.String ∷ reserved.To ∷ reserved.True ∷ reserved.«Type» ∷ reserved.Val ∷ reserved.Var ∷ reserved.Vm ∷ reserved.Xor ∷ reserved.Real ∷ reserved.Ptr ∷ reserved.Union ∷ reserved.File ∷ reserved.Ref ∷ reserved.External ∷ reserved.Separate ∷ reserved.Extend ∷ []

-- the reserved word that is written so
unfoldable pub word_of : List ℕ → Option Word
word_of text = find (λ word. pointwise nat_eq (word_spelling word) text) words

-- whether the sign stands at the front of the bytes
abbrev pub begins_with_sign : List ℕ → Sign → Bool
begins_with_sign bytes sign = starts_with nat_eq bytes (sign_spelling sign)

-- the first of the list that stands at the front of the bytes, which is the longest
unfoldable pub listed_sign : List ℕ → Option Sign
listed_sign bytes = find (begins_with_sign bytes) signs

-- the longest sign at the front of the bytes; `~=` is another spelling of `!=`
abbrev pub sign_at : List ℕ → Option Sign
sign_at bytes = if starts_with nat_eq bytes (codes "~=") then Some NotEqual else listed_sign bytes
