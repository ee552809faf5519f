-- What reading a type says of the pieces of tokens that spell one.
use Rattle.std.proofs.Common.{◌≡◌, sym, ◌∙◌, ap, ℕ, ◌-◌, ◌<◌, ◌≤◌, suc, List, [], ◌∷◌, ◌++◌, length, Ok, Err, ◌⊎◌, inl, inr, arith}
use Rattle.sr_reader.specs.Pieces.{GoesOn, IsLongest, IsDead, HasOneTree}
use Rattle.sr_reader.specs.Reader.{Reader}
use Rattle.sr_reader.proofs.Laws as laws
use Rattle.sr_reader.proofs.Soundness.{Sound, append-nil}
use Rattle.sr_tree.specs.declared.token.Token.{Token}
use Rattle.sr_tree.specs.declared.types.TypeTree.{TypeTree}
use Rattle.sr_tree.specs.Types.{SpellsType}
use Rattle.sr_expr_reader.specs.TypeReaders.{type_at, type_readers}
use Rattle.sr_expr_reader.proofs.TypesExtend.{type-goes-on}
use Rattle.sr_expr_reader.proofs.TypesSound.{type-sound, type_readers-sound}
use Rattle.sr_expr_reader.proofs.TypesQuiet.{QuietType, end-stops-type, stops-quiet-type}
use Rattle.sr_expr_reader.proofs.TypesComplete.{complete-type}

reading : ℕ → Reader Token TypeTree
reading k = type_at (type_readers k)

local : (k : ℕ) → Sound SpellsType (reading k)
unfolding reading
local k = type-sound (type_readers k) (type_readers-sound k)

whole : (a : TypeTree) (u : List Token) → SpellsType a u → (k : ℕ) → length u ≤ k → reading k u ≡ Ok (a, [])
unfolding reading
whole a u d k h =
    let n : length (u ++ []) ≡ length u = ap length (append-nil u) in
    ap (type_at (type_readers k)) (sym (append-nil u)) ∙ (complete-type d [] (stops-quiet-type d [] end-stops-type)).gives k (omega (arith, h, n))

decides : (a : TypeTree) (u : List Token) → SpellsType a u → (t : Token) (q : List Token)
    → GoesOn SpellsType u t ⊎ ((k : ℕ) → length (u ++ t ∷ q) ≤ k → reading k (u ++ t ∷ q) ≡ Ok (a, t ∷ q))
unfolding reading
decides a u d t q = go (type-goes-on d t q)
  where
    go : QuietType d (t ∷ q) ⊎ GoesOn SpellsType u t
        → GoesOn SpellsType u t ⊎ ((k : ℕ) → length (u ++ t ∷ q) ≤ k → type_at (type_readers k) (u ++ t ∷ q) ≡ Ok (a, t ∷ q))
    go (inl x) = inr (λ k h. (complete-type d (t ∷ q) x).gives k h)
    go (inr x) = inl x

-- one list of tokens has at most one type
pub one-type : HasOneTree SpellsType
one-type a b u d e = laws.one-tree SpellsType reading local whole a b u d e

pub longest-type : (s : List Token) (a : TypeTree) (q : List Token) → ((k : ℕ) → length s ≤ k → type_at (type_readers k) s ≡ Ok (a, q)) → IsLongest SpellsType s a (length s - length q)
unfolding reading
longest-type s a q reads = laws.longest SpellsType reading local whole s a q reads

pub within-type : (s : List Token) (left : ℕ) → ((k : ℕ) → length s ≤ k → type_at (type_readers k) s ≡ Err left) → left ≤ length s
unfolding reading
within-type s left reads = laws.within SpellsType reading local whole s left reads

pub dead-type : (s : List Token) (left : ℕ) → ((k : ℕ) → length s ≤ k → type_at (type_readers k) s ≡ Err left) → 0 < left → IsDead SpellsType s (suc (length s - left))
unfolding reading
dead-type s left reads h = laws.dead SpellsType reading local whole s left reads h

pub none-type : (s : List Token) (left : ℕ) → ((k : ℕ) → length s ≤ k → type_at (type_readers k) s ≡ Err left) → (a : TypeTree) (count : ℕ) → IsLongest SpellsType s a count → ⊥
unfolding reading
none-type s left reads a count l = laws.none SpellsType reading local whole decides s left reads a count l
