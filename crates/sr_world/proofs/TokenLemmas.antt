-- Tokens, and items of the input that are read by them.
use Rattle.std.proofs.Common.{◌≡◌, ◌≢◌, ℕ, ◌<◌, false, List, [], ◌∷◌, None, Some, length, refl, ap, sym, ◌∙◌, arith}
use Rattle.std.specs.Prelude.{◌&&◌}
use Rattle.sr_ask.specs.declared.answer.Answer.TheVariants as answer
use Rattle.sr_ask.specs.declared.request.ReadKind.{ReadKind}
use Rattle.sr_ask.specs.declared.request.ReadKind.TheVariants as kind
use Rattle.sr_value.specs.declared.value.Value.{Value}
use Rattle.sr_world.specs.Inputs.{after_token, fitting_read, is_decided, item_read, some_are, token_in, token_read, token_value, without_blanks}

-- ---- a kind that isn't `Char`

pub item_token : (k : ReadKind) (rest : List ℕ) → k ≢ kind.Char → item_read k rest ≡ token_read k rest (token_in rest)
item_token kind.Char rest not = absurd (not refl)
item_token kind.Int rest not = refl
item_token kind.Bool rest not = refl
item_token kind.Str rest not = refl

pub decided_token : (k : ReadKind) (rest : List ℕ) → k ≢ kind.Char → is_decided k rest false ≡ (some_are (token_in rest) && some_are (after_token rest))
decided_token kind.Char rest not = absurd (not refl)
decided_token kind.Int rest not = refl
decided_token kind.Bool rest not = refl
decided_token kind.Str rest not = refl

-- ---- what is read of a token

module _ (k : ReadKind) (rest : List ℕ) where
  pub read_end : (token : List ℕ) → length token ≡ 0 → token_read k rest token ≡ record { answer = answer.End; rest = [] }
  read_end [] none = refl
  read_end (b ∷ bs) none = absurd (omega (arith, none))

  of_value : (token : List ℕ) → 0 < length token → token_read k rest token ≡ fitting_read rest (token_value k token)
  of_value [] some = absurd (omega (arith, some))
  of_value (b ∷ bs) some = refl

  pub read_fitting : (token : List ℕ) (v : Value) → 0 < length token → Some v ≡ token_value k token → token_read k rest token ≡ record { answer = answer.Got v; rest = after_token rest }
  read_fitting token v some is = of_value token some ∙ ap (fitting_read rest) (sym is)

  pub read_bad : (token : List ℕ) → 0 < length token → None ≡ token_value k token → token_read k rest token ≡ record { answer = answer.Bad; rest = without_blanks rest }
  read_bad token some is = of_value token some ∙ ap (fitting_read rest) (sym is)
