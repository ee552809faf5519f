-- Lists by process after one of them has changed.
use Rattle.std.proofs.Common.{◌≡◌, ℕ, ◌+◌, ◌≤◌, ◌==◌, ◌&&◌, Bool, true, false, cond, List, [], ◌∷◌, ◌++◌, Option, None, Some, unwrap_or, refl, ap, sym, ◌∙◌, subst, arith, eqb-true}
use Rattle.std.proofs.lemmas.Bool.{eqb-false}
use Rattle.std.specs.Prelude.{count_by, find}
use Rattle.std.specs.Cmp.{nat_cmp_total}
use Rattle.std.specs.FinMap as map
use Rattle.std.specs.Ordering.{nat_cmp}
use Rattle.sr_calls.specs.Calls.{ByProcess, items_of, with_item, with_items, without_first}
use Rattle.sr_buckets.proofs.NumberLemmas.{apart, itself}
use Rattle.sr_calls.proofs.ProcessCallsLemmas.{items-with_items, items-with_items_other}
use Rattle.sr_world.proofs.CountLemmas.{count-push, count-without_first, nothing-first, one}

pub and-true : (b : Bool) → one (b && true) ≡ one b
and-true true = refl
and-true false = refl

pub and-false : (b : Bool) → one (b && false) ≡ 0
and-false true = refl
and-false false = refl

module _ {A : Type 0} where
  pub items-at : (all : ByProcess (List A)) (p q : ℕ) (xs : List A) → (p == q) ≡ true → items_of (with_items all p xs) q ≡ xs
  items-at all p q xs is = subst (λ n. items_of (with_items all p xs) n ≡ xs) (eqb-true p q is) (items-with_items all p xs)

  pub items-off : (all : ByProcess (List A)) (p q : ℕ) (xs : List A) → (p == q) ≡ false → items_of (with_items all p xs) q ≡ items_of all q
  items-off all p q xs is = items-with_items_other all p q xs (λ e. eqb-false p q is (sym e))

  pub removed-at : (all : ByProcess (List A)) (p q : ℕ) → (p == q) ≡ true → items_of (map.remove all p) q ≡ []
  removed-at all p q is =
      subst (λ n. items_of (map.remove all p) n ≡ []) (eqb-true p q is)
      (ap (λ o. unwrap_or o []) (map.get-remove nat_cmp_total all p p ∙ ap (λ b. cond b None (map.get all p)) (itself p)))

  pub removed-off : (all : ByProcess (List A)) (p q : ℕ) → (p == q) ≡ false → items_of (map.remove all p) q ≡ items_of all q
  removed-off all p q is =
      ap (λ o. unwrap_or o []) (map.get-remove nat_cmp_total all p q ∙ ap (λ b. cond b None (map.get all q)) (apart q p (eqb-false p q is)))

  pub items-empty : (q : ℕ) → let none : ByProcess (List A) = map.empty in items_of none q ≡ []
  items-empty q = let none : ByProcess (List A) = map.empty in let nothing : map.get none q ≡ None = map.get-empty nat_cmp q in ap (λ o. unwrap_or o []) nothing

  -- ---- counts

  module _ (t : A → Bool) where
    pub count-with_item : (all : ByProcess (List A)) (p q : ℕ) (x : A) → count_by t (items_of (with_item all p x) q) ≤ count_by t (items_of all q) + one (t x && (p == q))
    count-with_item all p q x = by (p == q) refl
      where
        by : (b : Bool) → (p == q) ≡ b → count_by t (items_of (with_item all p x) q) ≤ count_by t (items_of all q) + one (t x && b)
        by true is =
            let grown : count_by t (items_of (with_item all p x) q) ≡ count_by t (items_of all p) + one (t x) =
            ap (count_by t) (items-at all p q (items_of all p ++ x ∷ []) is) ∙ count-push t (items_of all p) x in
            let here : count_by t (items_of all p) ≡ count_by t (items_of all q) = ap (λ n. count_by t (items_of all n)) (eqb-true p q is) in
            let one-is : one (t x && true) ≡ one (t x) = and-true (t x) in
            omega (arith, grown, here, one-is)
        by false is =
            let kept : count_by t (items_of (with_item all p x) q) ≡ count_by t (items_of all q) = ap (count_by t) (items-off all p q (items_of all p ++ x ∷ []) is) in
            omega (arith, kept)

    pub count-without : (u : A → Bool) (all : ByProcess (List A)) (p q : ℕ) → count_by t (items_of (with_items all p (without_first u (items_of all p))) q) ≤ count_by t (items_of all q)
    count-without u all p q = by (p == q) refl
      where
        fewer : (o : Option A) → find u (items_of all p) ≡ o → count_by t (without_first u (items_of all p)) ≤ count_by t (items_of all p)
        fewer None is = let same = ap (count_by t) (nothing-first u (items_of all p) is) in omega (arith, same)
        fewer (Some x) is = omega (arith, count-without_first t u (items_of all p) x is)

        by : (b : Bool) → (p == q) ≡ b → count_by t (items_of (with_items all p (without_first u (items_of all p))) q) ≤ count_by t (items_of all q)
        by true is =
            let taken = ap (count_by t) (items-at all p q (without_first u (items_of all p)) is) in
            let here = ap (λ n. count_by t (items_of all n)) (eqb-true p q is) in
            let less = fewer (find u (items_of all p)) refl in
            omega (arith, taken, here, less)
        by false is = let kept = ap (count_by t) (items-off all p q (without_first u (items_of all p)) is) in omega (arith, kept)

    -- what is found is taken out
    pub count-taken : (u : A → Bool) (all : ByProcess (List A)) (p : ℕ) (x : A) → find u (items_of all p) ≡ Some x
        → count_by t (items_of (with_items all p (without_first u (items_of all p))) p) + one (t x) ≡ count_by t (items_of all p)
    count-taken u all p x is =
        ap (λ xs. count_by t xs + one (t x)) (items-with_items all p (without_first u (items_of all p))) ∙ count-without_first t u (items_of all p) x is

    pub count-removed : (all : ByProcess (List A)) (p q : ℕ) → count_by t (items_of (map.remove all p) q) ≤ count_by t (items_of all q)
    count-removed all p q = by (p == q) refl
      where
        by : (b : Bool) → (p == q) ≡ b → count_by t (items_of (map.remove all p) q) ≤ count_by t (items_of all q)
        by true is = let none = ap (count_by t) (removed-at all p q is) in omega (arith, none)
        by false is = let kept = ap (count_by t) (removed-off all p q is) in omega (arith, kept)

  -- ---- lists that stay empty

  pub empty-with_item : (all : ByProcess (List A)) (p q : ℕ) (x : A) → (p == q) ≡ false → items_of all q ≡ [] → items_of (with_item all p x) q ≡ []
  empty-with_item all p q x off none = items-off all p q (items_of all p ++ x ∷ []) off ∙ none

  pub empty-without : (u : A → Bool) (all : ByProcess (List A)) (p q : ℕ) → items_of all q ≡ [] → items_of (with_items all p (without_first u (items_of all p))) q ≡ []
  empty-without u all p q none = by (p == q) refl
    where
      by : (b : Bool) → (p == q) ≡ b → items_of (with_items all p (without_first u (items_of all p))) q ≡ []
      by true is = items-at all p q (without_first u (items_of all p)) is ∙ ap (without_first u) (ap (items_of all) (eqb-true p q is) ∙ none)
      by false is = items-off all p q (without_first u (items_of all p)) is ∙ none

  pub empty-removed : (all : ByProcess (List A)) (p q : ℕ) → items_of all q ≡ [] → items_of (map.remove all p) q ≡ []
  empty-removed all p q none = by (p == q) refl
    where
      by : (b : Bool) → (p == q) ≡ b → items_of (map.remove all p) q ≡ []
      by true is = removed-at all p q is
      by false is = removed-off all p q is ∙ none
