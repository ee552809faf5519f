-- The place of a refusal among tokens.
use Rattle.std.specs.Prelude.{◌≡◌, ℕ, suc, ◌+◌, ◌-◌, ◌<◌, List, length, drop, max, slice_get, Option, Some, None}
use Rattle.sr_reader.specs.Pieces.{IsDead, IsLongest}
use Rattle.sr_text.specs.declared.refusal.FrontFail.{FrontFail}
use Rattle.sr_text.specs.declared.refusal.FrontFail.TheVariants as front
use Rattle.sr_text.specs.declared.refusal.Kind.TheVariants as refusal
use Rattle.sr_text.specs.declared.refusal.Refusal.{Refusal}
use Rattle.sr_tree.specs.declared.token.Token.{Token}
use Rattle.sr_parse_tokens.specs.declared.reading.ReadFail.{ReadFail}
use Rattle.sr_parse_tokens.specs.declared.reading.ReadFail.TheVariants as fail

-- a refusal of the grammar at a token
abbrev pub syntax_at : Token → Refusal
syntax_at t = record { kind = refusal.Syntax; place = record { file = t.span.file; line = t.span.line } }

abbrev pub refused_at : Option Token → FrontFail
refused_at (Some t) = front.Refused (syntax_at t)
refused_at None = front.NoMemory

-- where so many tokens are left the refusal stands at the first of them, or at the last token where none is
abbrev pub refusal_of : List Token → ReadFail → FrontFail
refusal_of items (fail.Unexpected left) = refused_at (slice_get items (length items - max left 1))
refusal_of items fail.NoMemory = front.NoMemory

-- a refusal stands at a token from `at` on; unless that is the last one, no list with a tree begins with the tokens
-- from `at` up to and with it
pub record IsDeadAt {A : Type 0} (Spells : A → List Token → Type 0) (items : List Token) (at : ℕ) (r : Refusal) : Type 0 where
  pub place : ℕ
  pub token : Token
  pub there : slice_get items (at + place) ≡ Some token
  pub refusal : r ≡ syntax_at token
  pub dead : suc (at + place) < length items → IsDead Spells (drop at items) (suc place)

abbrev pub IsRefusedIn : {A : Type 0} → (A → List Token → Type 0) → List Token → ℕ → FrontFail → Type 0
IsRefusedIn Spells items at (front.Refused r) = IsDeadAt Spells items at r
IsRefusedIn Spells items at front.NoMemory = Unit {0}

-- no piece is the longest that has a tree
abbrev pub HasNoTree : {A : Type 0} → (A → List Token → Type 0) → List Token → FrontFail → Type 0
HasNoTree Spells s (front.Refused r) = (tree : _) (count : ℕ) → IsLongest Spells s tree count → ⊥
HasNoTree Spells s front.NoMemory = Unit {0}
