-- The classes that joining the groups makes are the least equivalence that holds within each group.
use Rattle.std.proofs.Common.{◌≡◌, ◌≢◌, ℕ, zero, suc, ◌<◌, ◌≤◌, ◌⊎◌, inl, inr, min, List, [], ◌∷◌, fold, length, get_or, arith, refl, sym, subst, ◌∙◌}
use Rattle.std.specs.List.{Contains}
use Rattle.sr_classes.specs.Classes.{AreClasses, SameClass, together, itself, turned, through, AreLeast}
use Rattle.sr_classes.specs.Joins.{joined, group_joined, all_joined}
use Rattle.sr_classes.proofs.Parents.{joined-cases}

-- ---- membership, by the place from the front

pub data In {X : Type 0} : X → List X → Type 0 where
  here : {x : X} {xs : List X} → In x (x ∷ xs)
  there : {x y : X} {xs : List X} → In x xs → In x (y ∷ xs)

to-in : {X : Type 0} (xs : List X) (x : X) (k : ℕ) → k < length xs → get_or xs k x ≡ x → In x xs
to-in [] x k within is = absurd (omega (arith, within))
to-in (y ∷ ys) x zero within is = subst (λ z. In z (y ∷ ys)) is here
to-in (y ∷ ys) x (suc k) within is = there (to-in ys x k (omega (arith, within)) is)

from-in : {X : Type 0} (xs : List X) (x : X) → In x xs → Contains xs x
from-in [] x none = elim none [ ]
from-in (x ∷ xs) _ here = (0, omega arith, refl)
from-in (y ∷ xs) x (there more) = let c = from-in xs x more in (suc c.0, omega (arith, c.1), c.2)

split : (m n : ℕ) → (m ≤ n) ⊎ (n ≤ m)
split zero n = inl (omega arith)
split (suc m) zero = inr (omega arith)
split (suc m) (suc n) = elim (split m n) [ inl less ↦ inl (omega (arith, less)) | inr less ↦ inr (omega (arith, less)) ]

min-one : (m n : ℕ) → (min m n ≡ m) ⊎ (min m n ≡ n)
min-one m n = elim (split m n) [ inl less ↦ inl (omega (arith, less)) | inr less ↦ inr (omega (arith, less)) ]

-- ---- each class has only operations of one class of the least equivalence

abbrev pub Sound : List (List ℕ) → (ℕ → ℕ) → Type 0
Sound groups of = (op : ℕ) → SameClass groups (of op) op

sound-joined : (groups : List (List ℕ)) (of : ℕ → ℕ) (a b : ℕ) → Sound groups of → SameClass groups a b → Sound groups (joined of a b)
sound-joined groups of a b sound ab op = go (joined-cases of a b op)
  where
    to_a : (min (of a) (of b) ≡ of a) ⊎ (min (of a) (of b) ≡ of b) → SameClass groups (min (of a) (of b)) a
    to_a (inl is) = subst (λ n. SameClass groups n a) (sym is) (sound a)
    to_a (inr is) = subst (λ n. SameClass groups n a) (sym is) (through (sound b) (turned ab))

    from_a : ((of op ≡ of a) ⊎ (of op ≡ of b)) → SameClass groups a op
    from_a (inl is) = through (turned (sound a)) (subst (λ n. SameClass groups n op) is (sound op))
    from_a (inr is) = through ab (through (turned (sound b)) (subst (λ n. SameClass groups n op) is (sound op)))

    go : (((of op ≡ of a) ⊎ (of op ≡ of b)) × (joined of a b op ≡ min (of a) (of b))) ⊎ ((of op ≢ of a) × (of op ≢ of b) × (joined of a b op ≡ of op))
        → SameClass groups (joined of a b op) op
    go (inl x) = subst (λ n. SameClass groups n op) (sym x.1) (through (to_a (min-one (of a) (of b))) (from_a x.0))
    go (inr x) = subst (λ n. SameClass groups n op) (sym x.2) (sound op)

sound-others : (groups : List (List ℕ)) (first : ℕ) (others : List ℕ) (of : ℕ → ℕ) → Sound groups of
    → ((other : ℕ) → In other others → SameClass groups first other) → Sound groups (fold (λ so_far other. joined so_far first other) of others)
sound-others groups first [] of sound one = sound
sound-others groups first (other ∷ others) of sound one =
    sound-others groups first others (joined of first other) (sound-joined groups of first other sound (one other here)) (λ o inside. one o (there inside))

sound-group : (groups : List (List ℕ)) (group : List ℕ) (of : ℕ → ℕ) → Sound groups of → In group groups → Sound groups (group_joined of group)
sound-group groups [] of sound inside = sound
sound-group groups (first ∷ others) of sound inside = sound-others groups first others of sound
    (λ other among. together (from-in groups (first ∷ others) inside) (from-in (first ∷ others) first here) (from-in (first ∷ others) other (there among)))

sound-all : (groups more : List (List ℕ)) (of : ℕ → ℕ) → Sound groups of → ((group : List ℕ) → In group more → In group groups)
    → Sound groups (fold group_joined of more)
sound-all groups [] of sound among = sound
sound-all groups (group ∷ more) of sound among =
    sound-all groups more (group_joined of group) (sound-group groups group of sound (among group here)) (λ g inside. among g (there inside))

pub sound : (groups : List (List ℕ)) → Sound groups (all_joined groups)
sound groups = sound-all groups groups (λ op. op) (λ op. itself) (λ group inside. inside)

-- ---- each class has all operations of a class of the least equivalence

-- what has one class keeps one
kept-joined : (of : ℕ → ℕ) (a b x y : ℕ) → of x ≡ of y → joined of a b x ≡ joined of a b y
kept-joined of a b x y is = rw is refl

kept-others : (first : ℕ) (others : List ℕ) (of : ℕ → ℕ) (x y : ℕ) → of x ≡ of y
    → fold (λ so_far other. joined so_far first other) of others x ≡ fold (λ so_far other. joined so_far first other) of others y
kept-others first [] of x y is = is
kept-others first (other ∷ others) of x y is = kept-others first others (joined of first other) x y (kept-joined of first other x y is)

kept-group : (group : List ℕ) (of : ℕ → ℕ) (x y : ℕ) → of x ≡ of y → group_joined of group x ≡ group_joined of group y
kept-group [] of x y is = is
kept-group (first ∷ others) of x y is = kept-others first others of x y is

kept-all : (groups : List (List ℕ)) (of : ℕ → ℕ) (x y : ℕ) → of x ≡ of y → fold group_joined of groups x ≡ fold group_joined of groups y
kept-all [] of x y is = is
kept-all (group ∷ groups) of x y is = kept-all groups (group_joined of group) x y (kept-group group of x y is)

-- two that are joined have one class
one-joined : (of : ℕ → ℕ) (a b : ℕ) → joined of a b a ≡ joined of a b b
one-joined of a b = at_a (joined-cases of a b a) ∙ sym (at_b (joined-cases of a b b))
  where
    at_a : (((of a ≡ of a) ⊎ (of a ≡ of b)) × (joined of a b a ≡ min (of a) (of b))) ⊎ ((of a ≢ of a) × (of a ≢ of b) × (joined of a b a ≡ of a))
        → joined of a b a ≡ min (of a) (of b)
    at_a (inl x) = x.1
    at_a (inr x) = absurd (x.0 refl)

    at_b : (((of b ≡ of a) ⊎ (of b ≡ of b)) × (joined of a b b ≡ min (of a) (of b))) ⊎ ((of b ≢ of a) × (of b ≢ of b) × (joined of a b b ≡ of b))
        → joined of a b b ≡ min (of a) (of b)
    at_b (inl x) = x.1
    at_b (inr x) = absurd (x.1 refl)

one-others : (first : ℕ) (others : List ℕ) (of : ℕ → ℕ) (x : ℕ) → In x others
    → fold (λ so_far other. joined so_far first other) of others first ≡ fold (λ so_far other. joined so_far first other) of others x
one-others first [] of x none = elim none [ ]
one-others first (x ∷ others) of _ here = kept-others first others (joined of first x) first x (one-joined of first x)
one-others first (other ∷ others) of x (there more) = one-others first others (joined of first other) x more

one-group : (first : ℕ) (others : List ℕ) (of : ℕ → ℕ) (x : ℕ) → In x (first ∷ others)
    → group_joined of (first ∷ others) first ≡ group_joined of (first ∷ others) x
one-group first others of _ here = refl
one-group first others of x (there more) = one-others first others of x more

one-of-group : (group : List ℕ) (of : ℕ → ℕ) (x y : ℕ) → In x group → In y group → group_joined of group x ≡ group_joined of group y
one-of-group [] of x y none other = elim none [ ]
one-of-group (first ∷ others) of x y one other = sym (one-group first others of x one) ∙ one-group first others of y other

one-of-all : (groups : List (List ℕ)) (of : ℕ → ℕ) (group : List ℕ) (x y : ℕ) → In group groups → In x group → In y group
    → fold group_joined of groups x ≡ fold group_joined of groups y
one-of-all [] of group x y none one other = elim none [ ]
one-of-all (group ∷ groups) of _ x y here one other = kept-all groups (group_joined of group) x y (one-of-group group of x y one other)
one-of-all (g ∷ groups) of group x y (there more) one other = one-of-all groups (group_joined of g) group x y more one other

pub complete : (groups : List (List ℕ)) (a b : ℕ) → SameClass groups a b → all_joined groups a ≡ all_joined groups b
complete groups a b (together {group = group} among one other) = one-of-all groups (λ op. op) group a b
    (to-in groups group among.0 among.1 among.2) (to-in group a one.0 one.1 one.2) (to-in group b other.0 other.1 other.2)
complete groups a _ itself = refl
complete groups a b (turned same) = sym (complete groups b a same)
complete groups a c (through {b = b} one other) = complete groups a b one ∙ complete groups b c other

-- operations whose classes are equal are of one class
pub one-class : (groups : List (List ℕ)) (a b : ℕ) → all_joined groups a ≡ all_joined groups b → SameClass groups a b
one-class groups a b is = through (turned (sound groups a)) (subst (λ n. SameClass groups n b) (sym is) (sound groups b))

-- ---- the class of an operation isn't after it

below-joined : (of : ℕ → ℕ) (a b : ℕ) → ((op : ℕ) → of op ≤ op) → (op : ℕ) → joined of a b op ≤ op
below-joined of a b below op = go (joined-cases of a b op)
  where
    go : (((of op ≡ of a) ⊎ (of op ≡ of b)) × (joined of a b op ≡ min (of a) (of b))) ⊎ ((of op ≢ of a) × (of op ≢ of b) × (joined of a b op ≡ of op))
        → joined of a b op ≤ op
    go (inl (inl is, to)) = omega (arith, is, to, below op)
    go (inl (inr is, to)) = omega (arith, is, to, below op)
    go (inr x) = omega (arith, x.2, below op)

below-others : (first : ℕ) (others : List ℕ) (of : ℕ → ℕ) → ((op : ℕ) → of op ≤ op) → (op : ℕ)
    → fold (λ so_far other. joined so_far first other) of others op ≤ op
below-others first [] of below = below
below-others first (other ∷ others) of below = below-others first others (joined of first other) (below-joined of first other below)

below-group : (group : List ℕ) (of : ℕ → ℕ) → ((op : ℕ) → of op ≤ op) → (op : ℕ) → group_joined of group op ≤ op
below-group [] of below = below
below-group (first ∷ others) of below = below-others first others of below

below-all : (groups : List (List ℕ)) (of : ℕ → ℕ) → ((op : ℕ) → of op ≤ op) → (op : ℕ) → fold group_joined of groups op ≤ op
below-all [] of below = below
below-all (group ∷ groups) of below = below-all groups (group_joined of group) (below-group group of below)

pub not-after : (groups : List (List ℕ)) (op : ℕ) → all_joined groups op ≤ op
not-after groups = below-all groups (λ op. op) (λ op. omega arith)

-- ---- any other such equivalence holds for them too

pub least : (groups : List (List ℕ)) → AreLeast groups
least groups alike relates a b (together {group = group} among one other) = relates.groups_hold group a b among one other
least groups alike relates a _ itself = relates.reflexive a
least groups alike relates a b (turned same) = relates.symmetric b a (least groups alike relates b a same)
least groups alike relates a c (through {b = b} one other) =
    relates.transitive a b c (least groups alike relates a b one) (least groups alike relates b c other)

-- a list with the class of each operation
pub are-classes : (groups : List (List ℕ)) (count : ℕ) (classes : List ℕ) → length classes ≡ count
    → ((op : ℕ) → op < count → get_or classes op 0 ≡ all_joined groups op) → AreClasses groups count classes
are-classes groups count classes counted told = record {
  each = counted;
  same = λ a b a_within b_within. (
    (λ is. one-class groups a b (sym (told a a_within) ∙ is ∙ told b b_within)),
    (λ one. told a a_within ∙ complete groups a b one ∙ sym (told b b_within)),
  );
  one_of_them = λ a within. subst (λ n. SameClass groups n a) (sym (told a within)) (sound groups a);
  first = λ a b a_within b_within one. subst (λ n. n ≤ b) (sym (told a a_within ∙ complete groups a b one)) (not-after groups b);
}
