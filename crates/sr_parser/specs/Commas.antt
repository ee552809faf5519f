-- Readers of lists of items with commas between.
use Rattle.std.specs.Prelude.{ℕ, List, [], ◌∷◌, ◌++◌}
use Rattle.sr_reader.specs.Reader.{Reader, returned, ◌>>=◌, while}
use Rattle.sr_tree.specs.declared.token.Sign.TheVariants as sign
use Rattle.sr_tree.specs.declared.token.Token.{Token}
use Rattle.sr_tree.specs.Tokens.{sign_at}
use Rattle.sr_expr_reader.specs.Readers.{is_comma}

-- "," item
unfoldable pub next_at : {A : Type 0} → Reader Token A → List A → Reader Token (List A)
next_at item items = do
  comma ← sign_at sign.Comma
  i ← item
  returned (items ++ i ∷ [])

-- {"," item}
unfoldable pub more_at : {A : Type 0} → Reader Token A → ℕ → List A → Reader Token (List A)
more_at item steps items = while is_comma (next_at item) steps items
