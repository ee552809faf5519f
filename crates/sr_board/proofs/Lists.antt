-- Lists by `get_elem?`, filters, and who sits under a number.
use Rattle.std.proofs.Common.{◌≡◌, ◌≢◌, ℕ, ◌<◌, eqb, Bool, true, false, List, [], ◌∷◌, ◌++◌, map, filter, length, set, sym, refl, ap, ◌∙◌, subst, ⊎_elim, inl, inr, ◌⊎◌, arith, eq-eqb, ne_eqb, if◌then◌else◌, zero, suc}
use mathlib.Core.List.{append-nil}
use mathlib.Core.Option as maybe
use mathlib.Core.Option.{some, some-ne-none, some-injective}
use lib.ListN.{get_elem?}

module _ {X : Type 0} where
  pub filter_end : (p : X → Bool) (xs : List X) (e : X) → filter p (xs ++ e ∷ []) ≡ filter p xs ++ (if p e then e ∷ [] else [])
  filter_end p [] e = one (p e)
    where
      one : (b : Bool) → (if b then e ∷ [] else []) ≡ (if b then e ∷ [] else [])
      one b = refl
  filter_end p (x ∷ xs) e = ap (λ l. if p x then x ∷ l else l) (filter_end p xs e) ∙ out (p x)
    where
      out : (b : Bool) → (if b then x ∷ (filter p xs ++ (if p e then e ∷ [] else [])) else (filter p xs ++ (if p e then e ∷ [] else []))) ≡ (if b then x ∷ filter p xs else filter p xs) ++ (if p e then e ∷ [] else [])
      out true = refl
      out false = refl

  pub filter_away : (p : X → Bool) (xs : List X) (e : X) → p e ≡ false → filter p (xs ++ e ∷ []) ≡ filter p xs
  filter_away p xs e misses = filter_end p xs e ∙ (ap (λ b. filter p xs ++ (if b then e ∷ [] else [])) misses ∙ append-nil (filter p xs))

  pub filter_here : (p : X → Bool) (xs : List X) (e : X) → p e ≡ true → filter p (xs ++ e ∷ []) ≡ filter p xs ++ e ∷ []
  filter_here p xs e hits = filter_end p xs e ∙ ap (λ b. filter p xs ++ (if b then e ∷ [] else [])) hits

  pub here : (l : List X) (i : ℕ) (a b : X) → get_elem? l i ≡ some a → get_elem? (set l i b) i ≡ some b
  here [] i a b e = absurd (some-ne-none a (sym e))
  here (x ∷ xs) zero a b e = refl
  here (x ∷ xs) (suc i) a b e = here xs i a b e

  pub at_end : (l : List X) (a b : X) (j : ℕ) → get_elem? (l ++ a ∷ []) j ≡ some b → (get_elem? l j ≡ some b) ⊎ ((j ≡ length l) × (a ≡ b))
  at_end [] a b zero e = inr (refl, some-injective a b e)
  at_end [] a b (suc j) e = absurd (some-ne-none b (sym e))
  at_end (x ∷ xs) a b zero e = inl e
  at_end (x ∷ xs) a b (suc j) e = ⊎_elim inl (λ t. inr (ap suc t.0, t.1)) (at_end xs a b j e)

  pub none_in : (k : ℕ) (x : X) → get_elem? {A = X} [] k ≡ some x → ⊥
  none_in k x e = some-ne-none x (sym e)

  pub there_is : (l : List X) (k : ℕ) → k < length l → (x : X) × (get_elem? l k ≡ some x)
  there_is [] k h = absurd (omega arith)
  there_is (x ∷ xs) zero h = (x, refl)
  there_is (x ∷ xs) (suc k) h = there_is xs k (omega arith)

  pub within : (l : List X) (k : ℕ) (x : X) → get_elem? l k ≡ some x → k < length l
  within [] k x e = absurd (some-ne-none x (sym e))
  within (y ∷ ys) zero x e = omega arith
  within (y ∷ ys) (suc k) x e = let w = within ys k x e in omega arith

pub mapped : {X Y : Type 0} (f : X → Y) (xs : List X) (i : ℕ) (y : Y) → get_elem? (map f xs) i ≡ some y → (x : X) × (get_elem? xs i ≡ some x) × (f x ≡ y)
mapped f [] i y at = absurd (some-ne-none y (sym at))
mapped f (x ∷ xs) zero y at = (x, refl, some-injective (f x) y at)
mapped f (x ∷ xs) (suc i) y at = mapped f xs i y at

pub by_cases_of : (b : Bool) (C : Type 0) → (b ≡ true → C) → (b ≡ false → C) → C
by_cases_of true C t f = t refl
by_cases_of false C t f = f refl

abbrev IsNot : Bool → Type 0
IsNot true = ⊥
IsNot false = Unit {0}

pub not_true : false ≡ true → ⊥
not_true e = subst IsNot e tt

-- x sits under the number from now on
abbrev pub put : (ℕ → maybe.Option ℕ) → ℕ → maybe.Option ℕ → ℕ → maybe.Option ℕ
put sits at x who = if eqb who at then x else sits who

pub put_here : (sits : ℕ → maybe.Option ℕ) (at : ℕ) (x : maybe.Option ℕ) (who : ℕ) → who ≡ at → put sits at x who ≡ x
put_here sits at x who is = ap (λ b. if b then x else sits who) (eq-eqb who at is)

pub put_else : (sits : ℕ → maybe.Option ℕ) (at : ℕ) (x : maybe.Option ℕ) (who : ℕ) → who ≢ at → put sits at x who ≡ sits who
put_else sits at x who ne = ap (λ b. if b then x else sits who) (ne_eqb who at ne)
