-- An item of the input, where more bytes come after those that decide it.
use Rattle.std.proofs.Common.{◌≡◌, ℕ, Bool, true, false, cond, List, [], ◌∷◌, ◌++◌, length, drop, Option, None, Some, refl, ap, sym, ◌∙◌, true≢false}
use Rattle.std.proofs.lemmas.List.Sums.{take_while-cons}
use Rattle.std.specs.Prelude.{◌&&◌, take_while}
use Rattle.std.proofs.lemmas.Bool.{and_parts as both, and_from as of-both}
use Rattle.sr_ask.specs.declared.request.ReadKind.{ReadKind}
use Rattle.sr_ask.specs.declared.request.ReadKind.TheVariants as kind
use Rattle.sr_value.specs.declared.value.Value.{Value}
use Rattle.sr_world.specs.Inputs.{after_token, fitting_read, is_blank, is_decided, is_part, item_read, some_are, token_in, token_read, token_value, without_blanks}

some-append : (xs ys : List ℕ) → some_are xs ≡ true → some_are (xs ++ ys) ≡ true
some-append [] ys some = absurd (true≢false (sym some))
some-append (x ∷ xs) ys some = refl

module _ (p : ℕ → Bool) where
  -- what stands after the longest run of bytes that pass
  abbrev past : List ℕ → List ℕ
  past xs = drop (length (take_while p xs)) xs

  run-append : (xs ys : List ℕ) → some_are (past xs) ≡ true → take_while p (xs ++ ys) ≡ take_while p xs
  run-append [] ys some = absurd (true≢false (sym some))
  run-append (x ∷ xs) ys some =
      take_while-cons p x (xs ++ ys)
      ∙ by (p x) (run-append xs ys) (sym (ap (λ t. some_are (drop (length t) (x ∷ xs))) (take_while-cons p x xs)) ∙ some)
      ∙ sym (take_while-cons p x xs)
    where
      by : (b : Bool) → (some_are (past xs) ≡ true → take_while p (xs ++ ys) ≡ take_while p xs)
          → some_are (drop (length (cond b (x ∷ take_while p xs) [])) (x ∷ xs)) ≡ true
          → cond b (x ∷ take_while p (xs ++ ys)) [] ≡ cond b (x ∷ take_while p xs) []
      by true more some = ap (λ zs. x ∷ zs) (more some)
      by false more some = refl

  past-append : (xs ys : List ℕ) → some_are (past xs) ≡ true → past (xs ++ ys) ≡ past xs ++ ys
  past-append [] ys some = absurd (true≢false (sym some))
  past-append (x ∷ xs) ys some =
      ap (λ t. drop (length t) (x ∷ (xs ++ ys))) (take_while-cons p x (xs ++ ys))
      ∙ by (p x) (past-append xs ys) (sym (ap (λ t. some_are (drop (length t) (x ∷ xs))) (take_while-cons p x xs)) ∙ some)
      ∙ sym (ap (λ t. drop (length t) (x ∷ xs) ++ ys) (take_while-cons p x xs))
    where
      by : (b : Bool) → (some_are (past xs) ≡ true → past (xs ++ ys) ≡ past xs ++ ys)
          → some_are (drop (length (cond b (x ∷ take_while p xs) [])) (x ∷ xs)) ≡ true
          → drop (length (cond b (x ∷ take_while p (xs ++ ys)) [])) (x ∷ (xs ++ ys)) ≡ drop (length (cond b (x ∷ take_while p xs) [])) (x ∷ xs) ++ ys
      by true more some = more some
      by false more some = refl

  some-before : (xs : List ℕ) → some_are (take_while p xs) ≡ true → some_are xs ≡ true
  some-before [] some = some
  some-before (x ∷ xs) some = refl

module _ (rest more : List ℕ) (token : some_are (token_in rest) ≡ true) (after : some_are (after_token rest) ≡ true) where
  same-start : without_blanks (rest ++ more) ≡ without_blanks rest ++ more
  same-start = past-append is_blank rest more (some-before is_part (without_blanks rest) token)

  same-token : token_in (rest ++ more) ≡ token_in rest
  same-token = ap (take_while is_part) same-start ∙ run-append is_part (without_blanks rest) more after

  same-after : after_token (rest ++ more) ≡ after_token rest ++ more
  same-after = ap (past is_part) same-start ∙ past-append is_part (without_blanks rest) more after

  token-decided : (some_are (token_in (rest ++ more)) && some_are (after_token (rest ++ more))) ≡ true
  token-decided = of-both (some_are (token_in (rest ++ more))) (some_are (after_token (rest ++ more))) (ap some_are same-token ∙ token) (ap some_are same-after ∙ some-append (after_token rest) more after)

  fitting-answer : (v : Option Value) → (fitting_read (rest ++ more) v).answer ≡ (fitting_read rest v).answer
  fitting-answer None = refl
  fitting-answer (Some v) = refl

  fitting-rest : (v : Option Value) → (fitting_read (rest ++ more) v).rest ≡ (fitting_read rest v).rest ++ more
  fitting-rest None = same-start
  fitting-rest (Some v) = same-after

  read-answer : (k : ReadKind) (bytes : List ℕ) → some_are bytes ≡ true → (token_read k (rest ++ more) bytes).answer ≡ (token_read k rest bytes).answer
  read-answer k [] some = absurd (true≢false (sym some))
  read-answer k (b ∷ bs) some = fitting-answer (token_value k (b ∷ bs))

  read-rest : (k : ReadKind) (bytes : List ℕ) → some_are bytes ≡ true → (token_read k (rest ++ more) bytes).rest ≡ (token_read k rest bytes).rest ++ more
  read-rest k [] some = absurd (true≢false (sym some))
  read-rest k (b ∷ bs) some = fitting-rest (token_value k (b ∷ bs))

  token-answer : (k : ReadKind) → (token_read k (rest ++ more) (token_in (rest ++ more))).answer ≡ (token_read k rest (token_in rest)).answer
  token-answer k = ap (λ t. (token_read k (rest ++ more) t).answer) same-token ∙ read-answer k (token_in rest) token

  token-rest : (k : ReadKind) → (token_read k (rest ++ more) (token_in (rest ++ more))).rest ≡ (token_read k rest (token_in rest)).rest ++ more
  token-rest k = ap (λ t. (token_read k (rest ++ more) t).rest) same-token ∙ read-rest k (token_in rest) token

module _ (rest more : List ℕ) where
  pub still-decided : (k : ReadKind) → is_decided k rest false ≡ true → is_decided k (rest ++ more) false ≡ true
  still-decided kind.Char is = some-append rest more is
  still-decided kind.Int is = let (t, a) = both _ _ is in token-decided rest more t a
  still-decided kind.Bool is = let (t, a) = both _ _ is in token-decided rest more t a
  still-decided kind.Str is = let (t, a) = both _ _ is in token-decided rest more t a

  pub same-answer : (k : ReadKind) → is_decided k rest false ≡ true → (item_read k (rest ++ more)).answer ≡ (item_read k rest).answer
  same-answer kind.Char is = char rest is
    where
      char : (xs : List ℕ) → some_are xs ≡ true → (item_read kind.Char (xs ++ more)).answer ≡ (item_read kind.Char xs).answer
      char [] is = absurd (true≢false (sym is))
      char (x ∷ xs) is = refl
  same-answer kind.Int is = let (t, a) = both _ _ is in token-answer rest more t a kind.Int
  same-answer kind.Bool is = let (t, a) = both _ _ is in token-answer rest more t a kind.Bool
  same-answer kind.Str is = let (t, a) = both _ _ is in token-answer rest more t a kind.Str

  pub same-rest : (k : ReadKind) → is_decided k rest false ≡ true → (item_read k (rest ++ more)).rest ≡ (item_read k rest).rest ++ more
  same-rest kind.Char is = char rest is
    where
      char : (xs : List ℕ) → some_are xs ≡ true → (item_read kind.Char (xs ++ more)).rest ≡ (item_read kind.Char xs).rest ++ more
      char [] is = absurd (true≢false (sym is))
      char (x ∷ xs) is = refl
  same-rest kind.Int is = let (t, a) = both _ _ is in token-rest rest more t a kind.Int
  same-rest kind.Bool is = let (t, a) = both _ _ is in token-rest rest more t a kind.Bool
  same-rest kind.Str is = let (t, a) = both _ _ is in token-rest rest more t a kind.Str
