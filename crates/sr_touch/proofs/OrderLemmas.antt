-- Parts that are added one after another.
use Rattle.std.proofs.Common.{◌≡◌, ℕ, suc, ◌+◌, ◌≤◌, ◌<◌, ◌==◌, Bool, true, false, List, [], ◌∷◌, length, refl, ap, sym, ◌∙◌, cond, arith}
use Rattle.std.proofs.lemmas.Bool.{le-leb, leb-false, leb-true, lt-leb}
use Rattle.std.specs.Prelude.{Option, Some, None, fold, is_some, nat_le, nat_lt, option_map}
use Rattle.sr_touch.specs.Orders.{all_added, in_order, up_to_three, with_part}

pub none_stays : (parts : List ℕ) → all_added None parts ≡ None
none_stays [] = refl
none_stays (part ∷ parts) = none_stays parts

-- ---- how many there are

more-with : (parts : List ℕ) (part : ℕ) → length parts ≤ length (with_part parts part)
more-with [] part = omega arith
more-with (first ∷ others) part = by (part == first) (nat_lt part first) (more-with others part)
  where
    by : (b c : Bool) → length others ≤ length (with_part others part)
        → suc (length others) ≤ length (cond b (first ∷ others) (cond c (part ∷ first ∷ others) (first ∷ with_part others part)))
    by true c more = omega arith
    by false true more = omega arith
    by false false more = omega arith

one-with : (parts : List ℕ) (part : ℕ) → length (with_part parts part) ≤ length parts + 1
one-with [] part = omega arith
one-with (first ∷ others) part = by (part == first) (nat_lt part first) (one-with others part)
  where
    by : (b c : Bool) → length (with_part others part) ≤ length others + 1
        → length (cond b (first ∷ others) (cond c (part ∷ first ∷ others) (first ∷ with_part others part))) ≤ suc (length others) + 1
    by true c more = omega arith
    by false true more = omega arith
    by false false more = omega arith

more-with-all : (parts more : List ℕ) → length parts ≤ length (fold with_part parts more)
more-with-all parts [] = omega arith
more-with-all parts (part ∷ more) = let one = more-with parts part in let all = more-with-all (with_part parts part) more in omega arith

few-with-all : (parts more : List ℕ) → length (fold with_part parts more) ≤ length parts + length more
few-with-all parts [] = omega arith
few-with-all parts (part ∷ more) = let one = one-with parts part in let all = few-with-all (with_part parts part) more in omega arith

-- ---- up to three

of-few : (parts : List ℕ) → length parts ≤ 3 → Some parts ≡ up_to_three parts
of-few parts few = ap (λ b. cond b (Some parts) None) (sym (le-leb (length parts) 3 few))

of-many : (parts : List ℕ) → 3 < length parts → None ≡ up_to_three parts
of-many parts many = ap (λ b. cond b (Some parts) None) (sym (lt-leb (length parts) 3 many))

pub added_all : (parts more : List ℕ) → length parts ≤ 3 → all_added (Some parts) more ≡ up_to_three (fold with_part parts more)
added_all parts [] few = of-few parts few
added_all parts (part ∷ more) few = by (nat_le (length (with_part parts part)) 3) refl (added_all (with_part parts part) more)
  where
    by : (b : Bool) → nat_le (length (with_part parts part)) 3 ≡ b
        → (length (with_part parts part) ≤ 3 → all_added (Some (with_part parts part)) more ≡ up_to_three (fold with_part (with_part parts part) more))
        → all_added (cond b (Some (with_part parts part)) None) more ≡ up_to_three (fold with_part (with_part parts part) more)
    by true is all = all (leb-true (length (with_part parts part)) 3 is)
    by false is all =
        let many = leb-false (length (with_part parts part)) 3 is in let grows = more-with-all (with_part parts part) more in
        none_stays more ∙ of-many (fold with_part (with_part parts part) more) (omega arith)

-- at most two beside the first
pub added_few : (first : ℕ) (more : List ℕ) → length more ≤ 2 → all_added (Some (first ∷ [])) more ≡ Some (in_order (first ∷ more))
added_few first more few =
    let all = few-with-all (first ∷ []) more in
    added_all (first ∷ []) more (omega arith) ∙ sym (of-few (fold with_part (first ∷ []) more) (omega arith))

some-up : (parts : List ℕ) (b : Bool) → is_some (cond b (Some parts) None) ≡ b
some-up parts true = refl
some-up parts false = refl

pub some_added : (first : ℕ) (more : List ℕ) → is_some (all_added (Some (first ∷ [])) more) ≡ nat_le (length (in_order (first ∷ more))) 3
some_added first more =
    ap is_some (added_all (first ∷ []) more (omega arith)) ∙ some-up (in_order (first ∷ more)) (nat_le (length (in_order (first ∷ more))) 3)

pub some_mapped : {A B : Type 0} (f : A → B) (o : Option A) → is_some (option_map f o) ≡ is_some o
some_mapped f None = refl
some_mapped f (Some a) = refl
