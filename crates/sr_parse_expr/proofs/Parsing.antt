-- What the answers of a parser say of its tokens, by the laws of its readers.
use Rattle.std.proofs.Common.{◌≡◌, refl, sym, ◌∙◌, ap, subst, ℕ, suc, ◌+◌, ◌-◌, ◌<◌, ◌≤◌, max, List, [], ◌∷◌, length, take, drop, get_or, Option, Some, None, Ok, Err, ◌⊎◌, inl, inr, arith}
use Rattle.std.specs.Prelude.{slice_get}
use Rattle.std.proofs.lemmas.List.{length-drop}
use Rattle.std.proofs.lemmas.Option.{slice_get_cases}
use Rattle.sr_reader.specs.Pieces.{IsLongest, IsDead}
use Rattle.sr_reader.specs.Reader.{Reader}
use Rattle.sr_text.specs.declared.refusal.FrontFail.{FrontFail}
use Rattle.sr_tree.specs.declared.token.Token.{Token}
use Rattle.sr_tree.specs.Expressions.{SpellsExpr}
use Rattle.sr_tree.specs.Types.{SpellsType}
use Rattle.sr_expr_reader.specs.Readers.{readers, operand_at}
use Rattle.sr_expr_reader.specs.TypeReaders.{type_readers, type_at}
use Rattle.sr_expr_reader.proofs.ExpressionLaws as expressions
use Rattle.sr_expr_reader.proofs.TypeLaws as types
use Rattle.sr_parse_tokens.specs.Gives.{Fails}
use Rattle.sr_parse_expr.specs.Refused.{HasNoTree, IsDeadAt, IsRefusedIn, refusal_of, refused_at, syntax_at}
use Rattle.sr_parse_tokens.specs.declared.reading.ReadFail.{ReadFail}
use Rattle.sr_parse_tokens.specs.declared.reading.ReadFail.TheVariants as fail

-- where reading stops, nothing that has a tree goes on
pub record Stops {A : Type 0} (Spells : A → List Token → Type 0) (reading : ℕ → Reader Token A) : Type 0 where
  pub within : (s : List Token) (left : ℕ) → ((k : ℕ) → length s ≤ k → reading k s ≡ Err left) → left ≤ length s
  pub dead : (s : List Token) (left : ℕ) → ((k : ℕ) → length s ≤ k → reading k s ≡ Err left) → 0 < left → IsDead Spells s (suc (length s - left))

-- what is read is the longest piece, and where nothing is read there is none
pub record Longest {A : Type 0} (Spells : A → List Token → Type 0) (reading : ℕ → Reader Token A) : Type 0 where
  pub longest : (s : List Token) (a : A) (q : List Token) → ((k : ℕ) → length s ≤ k → reading k s ≡ Ok (a, q)) → IsLongest Spells s a (length s - length q)
  pub none : (s : List Token) (left : ℕ) → ((k : ℕ) → length s ≤ k → reading k s ≡ Err left) → (a : A) (count : ℕ) → IsLongest Spells s a count → ⊥

pub expression-stops : Stops (SpellsExpr 5) (λ k. operand_at (readers k) 5)
expression-stops = record { within = expressions.within; dead = expressions.dead }

pub expression-longest : Longest (SpellsExpr 5) (λ k. operand_at (readers k) 5)
expression-longest = record { longest = expressions.longest; none = expressions.none }

pub type-stops : Stops SpellsType (λ k. type_at (type_readers k))
type-stops = record { within = types.within-type; dead = types.dead-type }

pub type-longest : Longest SpellsType (λ k. type_at (type_readers k))
type-longest = record { longest = types.longest-type; none = types.none-type }

take_all : {A : Type 0} (s : List A) → take (length s) s ≡ s
take_all [] = refl
take_all (x ∷ s) = ap (λ w. x ∷ w) (take_all s)

-- a slice up to the end
all_after : {A : Type 0} (items : List A) (at : ℕ) → take (length items - at) (drop at items) ≡ drop at items
all_after items at = ap (λ n. take n (drop at items)) (sym (length-drop at items)) ∙ take_all (drop at items)

by_token : (x : Option Token) (t : Token) → x ≡ Some t → (P : FrontFail → Type 0) → P (refused_at (Some t)) → P (refused_at x)
by_token x t e P h = subst (λ y. P (refused_at y)) (sym e) h

-- the token that is refused
token_at : (items : List Token) (i : ℕ) → i < length items → (t : Token) × (slice_get items i ≡ Some t)
token_at items i h = go ((slice_get_cases items i).1)
  where
    go : ((x : Token) × (i < length items) × (slice_get items i ≡ Some x) × (get_or items i x ≡ x)) ⊎ ((length items ≤ i) × (slice_get items i ≡ None)) → (t : Token) × (slice_get items i ≡ Some t)
    go (inl x) = (x.0, x.2)
    go (inr y) = absurd (omega (arith, h, y.0))

-- every bound that suffices fails so on the tokens from a place on
abbrev pub Refuses : {A : Type 0} → (ℕ → Reader Token A) → List Token → ReadFail → Type 0
Refuses reading s e = (k : ℕ) → length s ≤ k → Fails e (reading k s)

module _ {A : Type 0} {Spells : A → List Token → Type 0} {reading : ℕ → Reader Token A} (items : List Token) (at : ℕ) (inside : at < length items) where
  pub dead_of : Stops Spells reading → (e : ReadFail) → Refuses reading (drop at items) e → IsRefusedIn Spells items at (refusal_of items e)
  dead_of stops (fail.Unexpected left) reads =
      let t = token_at items (length items - max left 1) (omega (arith, inside)) in
      by_token (slice_get items (length items - max left 1)) t.0 t.1 (IsRefusedIn Spells items at) (dead_at left reads t.0 t.1)
    where
      dead_at : (left : ℕ) → ((k : ℕ) → length (drop at items) ≤ k → reading k (drop at items) ≡ Err left) → (t : Token)
          → slice_get items (length items - max left 1) ≡ Some t → IsDeadAt Spells items at (syntax_at t)
      dead_at left reads t e =
          let n : length (drop at items) ≡ length items - at = length-drop at items in
          let w : left ≤ length (drop at items) = stops.within (drop at items) left reads in
          record {
            place = length items - max left 1 - at;
            token = t;
            there = ap (slice_get items) (omega (arith, n, w, inside)) ∙ e;
            refusal = refl;
            dead = λ h.
                let m : suc (length (drop at items) - left) ≡ suc (length items - max left 1 - at) = omega (arith, n, w, inside, h) in
                subst (IsDead Spells (drop at items)) m (stops.dead (drop at items) left reads (omega (arith, n, w, inside, h)));
          }
  dead_of stops fail.NoMemory reads = tt

  none_of : Longest Spells reading → (e : ReadFail) → Refuses reading (drop at items) e → HasNoTree Spells (drop at items) (refusal_of items e)
  none_of laws (fail.Unexpected left) reads =
      let t = token_at items (length items - max left 1) (omega (arith, inside)) in
      by_token (slice_get items (length items - max left 1)) t.0 t.1 (HasNoTree Spells (drop at items)) (laws.none (drop at items) left reads)
  none_of laws fail.NoMemory reads = tt

  -- the same of a slice from a place on
  pub front_after : Longest Spells reading → (a : A) (q : List Token) → length q ≤ length (take (length items - at) (drop at items))
      → ((k : ℕ) → length (take (length items - at) (drop at items)) ≤ k → reading k (take (length items - at) (drop at items)) ≡ Ok (a, q))
      → (count : ℕ) × (length items - length q ≡ at + count) × IsLongest Spells (drop at items) a count
  front_after laws a q h reads =
      let n : length (drop at items) ≡ length items - at = length-drop at items in
      let m : length (take (length items - at) (drop at items)) ≡ length (drop at items) = ap length (all_after items at) in (
        length (drop at items) - length q,
        omega (arith, n, m, h, inside),
        laws.longest (drop at items) a q (subst (λ s. (k : ℕ) → length s ≤ k → reading k s ≡ Ok (a, q)) (all_after items at) reads),
      )

  pub none_after : Longest Spells reading → (e : ReadFail) → Refuses reading (take (length items - at) (drop at items)) e → HasNoTree Spells (drop at items) (refusal_of items e)
  none_after laws e reads = none_of laws e (subst (λ s. Refuses reading s e) (all_after items at) reads)

  pub dead_after : Stops Spells reading → (e : ReadFail) → Refuses reading (take (length items - at) (drop at items)) e → IsRefusedIn Spells items at (refusal_of items e)
  dead_after stops e reads = dead_of stops e (subst (λ s. Refuses reading s e) (all_after items at) reads)
