-- The parts of a map from numbers.
use Rattle.std.proofs.Common.{◌≡◌, ℕ, Bool, true, false, List, [], ◌∷◌, Option, None, Some, unwrap_or, refl, ap, sym, ◌∙◌, cond, true≢false}
use Rattle.std.specs.FinMap as map
use Rattle.std.specs.Cmp.{nat_cmp_total, ranked}
use Rattle.std.specs.Ordering.{nat_cmp, eq_by_cmp, is_eq}
use Rattle.std.specs.declared.cmp.Ordering.{Ordering}
use Rattle.std.specs.declared.cmp.Ordering.TheVariants.{Less, Equal, Greater}
use Rattle.sr_calls.specs.Calls.{items_of, with_items}
use Rattle.sr_store.specs.Variables.{ByNumber}

ties : (q k : ℕ) → is_eq (nat_cmp q k) ≡ true → q ≡ k
ties q k e = by (nat_cmp q k) refl e
  where
    by : (r : Ordering) → r ≡ nat_cmp q k → is_eq r ≡ true → q ≡ k
    by Less is h = cc
    by Equal is h = ranked q k Equal is
    by Greater is h = cc

module _ (stands : ℕ → Bool) where
  -- a key that ties stands in the same part
  off : (k q : ℕ) → stands k ≡ true → stands q ≡ false → eq_by_cmp nat_cmp q k ≡ true → ⊥
  off k q at is tie = true≢false (sym at ∙ ap stands (sym (ties q k tie)) ∙ is)

  module _ {A : Type 0} where
    abbrev pub part_of : ByNumber A → ByNumber A
    part_of all = map.retain_keys all stands

    get_part : (all : ByNumber A) (q : ℕ) → map.get (part_of all) q ≡ cond (stands q) (map.get all q) None
    get_part all q = map.get-retain_keys all stands q (λ x e. ap stands (sym (ranked q x Equal (sym e))))

    same : (m n : ByNumber A) → ((q : ℕ) → map.get m q ≡ map.get n q) → m ≡ n
    same m n h = map.same_map nat_cmp_total map.nat_cmp-IsAntisymmetric m n h

    here_get : (o : Option A) (k q : ℕ) (v : Option A) (b c : Bool) → stands k ≡ true → stands q ≡ b → eq_by_cmp nat_cmp q k ≡ c
        → cond b (cond c v o) None ≡ cond c v (cond b o None)
    here_get o k q v true c at is tie = refl
    here_get o k q v false true at is tie = absurd (off k q at is tie)
    here_get o k q v false false at is tie = refl

    away_get : (o : Option A) (k q : ℕ) (v : Option A) (b c : Bool) → stands k ≡ false → stands q ≡ b → eq_by_cmp nat_cmp q k ≡ c
        → cond b (cond c v o) None ≡ cond b o None
    away_get o k q v true true at is tie = absurd (true≢false (sym is ∙ ap stands (ties q k tie) ∙ at))
    away_get o k q v true false at is tie = refl
    away_get o k q v false c at is tie = refl

    pub insert_here : (all : ByNumber A) (k : ℕ) (v : A) → stands k ≡ true → part_of (map.insert all k v) ≡ map.insert (part_of all) k v
    insert_here all k v at = same _ _ (λ q.
        get_part (map.insert all k v) q ∙ ap (λ o. cond (stands q) o None) (map.get-insert nat_cmp_total all k v q)
        ∙ here_get (map.get all q) k q (Some v) (stands q) (eq_by_cmp nat_cmp q k) at refl refl
        ∙ ap (cond (eq_by_cmp nat_cmp q k) (Some v)) (sym (get_part all q)) ∙ sym (map.get-insert nat_cmp_total (part_of all) k v q))

    pub insert_away : (all : ByNumber A) (k : ℕ) (v : A) → stands k ≡ false → part_of (map.insert all k v) ≡ part_of all
    insert_away all k v at = same _ _ (λ q.
        get_part (map.insert all k v) q ∙ ap (λ o. cond (stands q) o None) (map.get-insert nat_cmp_total all k v q)
        ∙ away_get (map.get all q) k q (Some v) (stands q) (eq_by_cmp nat_cmp q k) at refl refl ∙ sym (get_part all q))

    pub remove_here : (all : ByNumber A) (k : ℕ) → stands k ≡ true → part_of (map.remove all k) ≡ map.remove (part_of all) k
    remove_here all k at = same _ _ (λ q.
        get_part (map.remove all k) q ∙ ap (λ o. cond (stands q) o None) (map.get-remove nat_cmp_total all k q)
        ∙ here_get (map.get all q) k q None (stands q) (eq_by_cmp nat_cmp q k) at refl refl
        ∙ ap (cond (eq_by_cmp nat_cmp q k) None) (sym (get_part all q)) ∙ sym (map.get-remove nat_cmp_total (part_of all) k q))

    pub remove_away : (all : ByNumber A) (k : ℕ) → stands k ≡ false → part_of (map.remove all k) ≡ part_of all
    remove_away all k at = same _ _ (λ q.
        get_part (map.remove all k) q ∙ ap (λ o. cond (stands q) o None) (map.get-remove nat_cmp_total all k q)
        ∙ away_get (map.get all q) k q None (stands q) (eq_by_cmp nat_cmp q k) at refl refl ∙ sym (get_part all q))

    pub get_here : (all : ByNumber A) (k : ℕ) → stands k ≡ true → map.get (part_of all) k ≡ map.get all k
    get_here all k at = get_part all k ∙ ap (λ b. cond b (map.get all k) None) at

  -- ---- a list for each number

  module _ {A : Type 0} where
    pub items_here : (all : ByNumber (List A)) (p : ℕ) → stands p ≡ true → items_of (map.retain_keys all stands) p ≡ items_of all p
    items_here all p at = ap (λ o. unwrap_or o []) (get_here all p at)

    pub with_here : (all : ByNumber (List A)) (p : ℕ) (xs : List A) → stands p ≡ true → map.retain_keys (with_items all p xs) stands ≡ with_items (map.retain_keys all stands) p xs
    with_here all p [] at = remove_here all p at
    with_here all p (x ∷ xs) at = insert_here all p (x ∷ xs) at

    pub with_away : (all : ByNumber (List A)) (p : ℕ) (xs : List A) → stands p ≡ false → map.retain_keys (with_items all p xs) stands ≡ map.retain_keys all stands
    with_away all p [] at = remove_away all p at
    with_away all p (x ∷ xs) at = insert_away all p (x ∷ xs) at

    -- a list that changes by what it was
    pub changed_here : (f : List A → List A) (all : ByNumber (List A)) (p : ℕ) → stands p ≡ true
        → map.retain_keys (with_items all p (f (items_of all p))) stands ≡ with_items (map.retain_keys all stands) p (f (items_of (map.retain_keys all stands) p))
    changed_here f all p at =
        with_here all p (f (items_of all p)) at ∙ ap (λ (xs : List A). with_items (map.retain_keys all stands) p (f xs)) (sym (items_here all p at))
