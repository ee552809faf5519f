-- Some elements of a list are in one list, others in another.
use Rattle.std.proofs.Common.{List, [], ◌∷◌, ◌++◌}
use Rattle.sr_check.proofs.Each.{Each}
use Rattle.sr_value.specs.declared.place.Span.{Span}

-- of the elements of a list some are in one list, others in another, and others in neither
pub data Shares : List Span → List Span → List Span → Type 0 where
  none : Shares [] [] []
  left_out : {xs ys zs : List Span} (x : Span) → Shares xs ys zs → Shares (x ∷ xs) ys zs
  in_first : {xs ys zs : List Span} (x : Span) → Shares xs ys zs → Shares (x ∷ xs) (x ∷ ys) zs
  in_second : {xs ys zs : List Span} (x : Span) → Shares xs ys zs → Shares (x ∷ xs) ys (x ∷ zs)

pub both_share : {xs ys zs us vs ws : List Span} → Shares xs ys zs → Shares us vs ws → Shares (xs ++ us) (ys ++ vs) (zs ++ ws)
both_share none more = more
both_share (left_out x shares) more = left_out x (both_share shares more)
both_share (in_first x shares) more = in_first x (both_share shares more)
both_share (in_second x shares) more = in_second x (both_share shares more)

pub all_left_out : (xs : List Span) → Shares xs [] []
all_left_out [] = none
all_left_out (x ∷ xs) = left_out x (all_left_out xs)

pub all_second : (xs : List Span) → Shares xs [] xs
all_second [] = none
all_second (x ∷ xs) = in_second x (all_second xs)

pub all_first : (xs : List Span) → Shares xs xs []
all_first [] = none
all_first (x ∷ xs) = in_first x (all_first xs)

-- the same before nothing
pub all_first_only : (xs : List Span) → Shares xs (xs ++ []) []
all_first_only [] = none
all_first_only (x ∷ xs) = in_first x (all_first_only xs)

-- without those of one of the lists, or with the lists turned
pub first_only : {xs ys zs : List Span} → Shares xs ys zs → Shares xs ys []
first_only none = none
first_only (left_out x shares) = left_out x (first_only shares)
first_only (in_first x shares) = in_first x (first_only shares)
first_only (in_second x shares) = left_out x (first_only shares)

pub second_only : {xs ys zs : List Span} → Shares xs ys zs → Shares xs [] zs
second_only none = none
second_only (left_out x shares) = left_out x (second_only shares)
second_only (in_first x shares) = left_out x (second_only shares)
second_only (in_second x shares) = in_second x (second_only shares)

pub turned : {xs ys zs : List Span} → Shares xs ys zs → Shares xs zs ys
turned none = none
turned (left_out x shares) = left_out x (turned shares)
turned (in_first x shares) = in_second x (turned shares)
turned (in_second x shares) = in_first x (turned shares)

-- what holds of all holds of those in the first list
pub first_each : {xs ys zs : List Span} (P : Span → Type 0) → Shares xs ys zs → Each P xs → Each P ys
first_each P none all = tt
first_each P (left_out x shares) all = first_each P shares all.1
first_each P (in_first x shares) all = (all.0, first_each P shares all.1)
first_each P (in_second x shares) all = first_each P shares all.1
