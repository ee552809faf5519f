-- Stacks as lists, the last put first.
use Rattle.std.specs.Prelude.{List, [], ◌∷◌, Option, Some, None}

abbrev pub first : {A : Type 0} → List A → Option A
first [] = None
first (x ∷ xs) = Some x

-- the top, or what stands for it where there is none
abbrev pub first_or : {A : Type 0} → A → List A → A
first_or x [] = x
first_or x (y ∷ ys) = y

abbrev pub below : {A : Type 0} → List A → List A
below [] = []
below (x ∷ xs) = xs
