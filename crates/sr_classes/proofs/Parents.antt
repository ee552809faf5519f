-- A forest of parents, and the classes that it stands for.
use Rattle.std.proofs.Common.{◌≡◌, ◌≢◌, ℕ, ◌<◌, ◌≤◌, ◌==◌, ◌⊎◌, inl, inr, min, true, false, List, length, set, get_or, arith, refl, sym, ap, subst, ◌∙◌}
use Rattle.std.proofs.lemmas.List.{get_or-set_same, get_or-set_other, length-set}
use Rattle.std.proofs.lemmas.Bool.Decides.{eqb_tells}
use Rattle.sr_classes.specs.Joins.{IsForest, Stands, joined}

-- an entry of a list where one was set: the new one there, the old one elsewhere
pub at-set : (p : List ℕ) (P : ℕ → ℕ → Type 0) (at v : ℕ) → at < length p → P at v → ((op : ℕ) → op < length p → op ≢ at → P op (get_or p op 0))
    → (op : ℕ) → op < length (set p at v) → P op (get_or (set p at v) op 0)
at-set p P at v within new old op inside = go (eqb_tells op at)
  where
    go : ((◌==◌ op at ≡ true) × (op ≡ at)) ⊎ ((◌==◌ op at ≡ false) × (op ≢ at)) → P op (get_or (set p at v) op 0)
    go (inl same) = subst (λ x. P x (get_or (set p at v) x 0)) (sym same.1) (subst (P at) (sym (get_or-set_same p at v 0 within)) new)
    go (inr other) = subst (P op) (sym (get_or-set_other p at op v 0 other.1)) (old op (subst (λ n. op < n) (length-set p at v) inside) other.1)

-- a parent that isn't after its operation keeps a forest
pub forest-set : (p : List ℕ) (at v : ℕ) → IsForest p → at < length p → v ≤ at → IsForest (set p at v)
forest-set p at v forest within less = at-set p (λ op parent. parent ≤ op) at v within less (λ op inside other. forest op inside)

-- an operation that isn't its own parent may get any parent of its class that isn't itself
pub stands-set : (of : ℕ → ℕ) (p : List ℕ) (at v : ℕ) → Stands of p → at < length p → of v ≡ of at → v ≢ at → Stands of (set p at v)
stands-set of p at v stands within same other = record {
  settled = stands.settled;
  same = at-set p (λ op parent. of parent ≡ of op) at v within same (λ op inside not_at. stands.same op inside);
  roots = at-set p (λ op parent. parent ≡ op → of op ≡ op) at v within (λ is. absurd (other is)) (λ op inside not_at. stands.roots op inside);
}

-- one turn of the way up: the operation gets its parent's parent, which is of its class and before it
pub turn : (of : ℕ → ℕ) (p : List ℕ) (at : ℕ) → Stands of p → IsForest p → at < length p → get_or p at 0 ≢ at
    → Stands (of) (set p at (get_or p (get_or p at 0) 0)) × (of (get_or p (get_or p at 0) 0) ≡ of at)
turn of p at stands forest within not_first =
    let parent_before : get_or p at 0 ≤ at = forest at within in
    let parent_within : get_or p at 0 < length p = omega (arith, within, parent_before) in
    let above_before : get_or p (get_or p at 0) 0 ≤ get_or p at 0 = forest (get_or p at 0) parent_within in
    let one_class : of (get_or p (get_or p at 0) 0) ≡ of at = stands.same (get_or p at 0) parent_within ∙ stands.same at within in (
      stands-set of p at (get_or p (get_or p at 0) 0) stands within one_class
          (λ is. not_first (omega (arith, is, parent_before, above_before))),
      one_class,
    )

-- what a turn leaves, where the list was read through a slice
pub turned : (p q new : List ℕ) (at : ℕ) → q ≡ p → IsForest p → at < length p → get_or q at 0 ≢ at → new ≡ set p at (get_or q (get_or q at 0) 0)
    → (length new ≡ length p) × IsForest new × (get_or q (get_or q at 0) 0 < at)
    × ((of : ℕ → ℕ) → Stands of p → Stands of new × (of (get_or q (get_or q at 0) 0) ≡ of at))
turned p q new at read forest within not_first written = subst Left (sym read) go not_first written
  where
    Left : List ℕ → Type 0
    Left all = get_or all at 0 ≢ at → new ≡ set p at (get_or all (get_or all at 0) 0)
        → (length new ≡ length p) × IsForest new × (get_or all (get_or all at 0) 0 < at)
        × ((of : ℕ → ℕ) → Stands of p → Stands of new × (of (get_or all (get_or all at 0) 0) ≡ of at))

    go : Left p
    go other is =
        let parent_before : get_or p at 0 ≤ at = forest at within in
        let above_before : get_or p (get_or p at 0) 0 ≤ get_or p at 0 = forest (get_or p at 0) (omega (arith, within, parent_before)) in
        let before : get_or p (get_or p at 0) 0 < at = omega (arith, parent_before, above_before, other) in
        let shown : (length (set p at (get_or p (get_or p at 0) 0)) ≡ length p) × IsForest (set p at (get_or p (get_or p at 0) 0))
        × (get_or p (get_or p at 0) 0 < at)
        × ((of : ℕ → ℕ) → Stands of p → Stands of (set p at (get_or p (get_or p at 0) 0)) × (of (get_or p (get_or p at 0) 0) ≡ of at)) = (
          length-set p at (get_or p (get_or p at 0) 0),
          forest-set p at (get_or p (get_or p at 0) 0) forest within (omega (arith, before)),
          before,
          λ of stands. turn of p at stands forest within other,
        ) in
        subst (λ list. (length list ≡ length p) × IsForest list × (get_or p (get_or p at 0) 0 < at)
        × ((of : ℕ → ℕ) → Stands of p → Stands of list × (of (get_or p (get_or p at 0) 0) ≡ of at))) (sym is) shown

min-less : (a b : ℕ) → a ≤ b → min a b ≡ a
min-less a b less = omega (arith, less)

min-other : (a b : ℕ) → b ≤ a → min a b ≡ b
min-other a b less = omega (arith, less)

-- what the join of two classes does to an operation
pub joined-cases : (of : ℕ → ℕ) (a b op : ℕ)
    → (((of op ≡ of a) ⊎ (of op ≡ of b)) × (joined of a b op ≡ min (of a) (of b))) ⊎ ((of op ≢ of a) × (of op ≢ of b) × (joined of a b op ≡ of op))
joined-cases of a b op = go (eqb_tells (of op) (of a)) (eqb_tells (of op) (of b))
  where
    go : ((◌==◌ (of op) (of a) ≡ true) × (of op ≡ of a)) ⊎ ((◌==◌ (of op) (of a) ≡ false) × (of op ≢ of a))
        → ((◌==◌ (of op) (of b) ≡ true) × (of op ≡ of b)) ⊎ ((◌==◌ (of op) (of b) ≡ false) × (of op ≢ of b))
        → (((of op ≡ of a) ⊎ (of op ≡ of b)) × (joined of a b op ≡ min (of a) (of b))) ⊎ ((of op ≢ of a) × (of op ≢ of b) × (joined of a b op ≡ of op))
    go (inl x) y = inl (inl x.1, rw x.0 refl)
    go (inr x) (inl y) = inl (inr y.1, rw (x.0, y.0) refl)
    go (inr x) (inr y) = inr (x.1, y.1, rw (x.0, y.0) refl)

-- what it is to be of two classes that become one, and what stays
abbrev pub Cases : (of so : ℕ → ℕ) (lo hi op : ℕ) → Type 0
Cases of so lo hi op = (((of op ≡ lo) ⊎ (of op ≡ hi)) × (so op ≡ lo)) ⊎ ((of op ≢ lo) × (of op ≢ hi) × (so op ≡ of op))

-- what only depends on the class of an operation
same-for : (of so : ℕ → ℕ) (lo hi x y : ℕ) → ((op : ℕ) → Cases of so lo hi op) → of x ≡ of y → so x ≡ so y
same-for of so lo hi x y cases is = go (cases x) (cases y)
  where
    go : Cases of so lo hi x → Cases of so lo hi y → so x ≡ so y
    go (inl a) (inl b) = a.1 ∙ sym b.1
    go (inl (inl a, to)) (inr b) = absurd (b.0 (sym is ∙ a))
    go (inl (inr a, to)) (inr b) = absurd (b.1 (sym is ∙ a))
    go (inr a) (inl (inl b, to)) = absurd (a.0 (is ∙ b))
    go (inr a) (inl (inr b, to)) = absurd (a.1 (is ∙ b))
    go (inr a) (inr b) = a.2 ∙ is ∙ sym b.2

low-stays : (of so : ℕ → ℕ) (lo hi op : ℕ) → Cases of so lo hi op → (of op ≡ lo) ⊎ (of op ≡ hi) → so op ≡ lo
low-stays of so lo hi op (inl a) one = a.1
low-stays of so lo hi op (inr a) (inl x) = absurd (a.0 x)
low-stays of so lo hi op (inr a) (inr x) = absurd (a.1 x)

-- the first operation of the one class becomes the parent of that of the other
merged : (of so : ℕ → ℕ) (p : List ℕ) (lo hi : ℕ) → Stands of p → ((op : ℕ) → Cases of so lo hi op) → hi < length p
    → of lo ≡ lo → of hi ≡ hi → Stands so (set p hi lo)
merged of so p lo hi stands cases within low high = record {
  settled = λ op. settled op (cases op);
  same = at-set p (λ op parent. so parent ≡ so op) hi lo within
      (low-stays of so lo hi lo (cases lo) (inl low) ∙ sym (low-stays of so lo hi hi (cases hi) (inr high)))
      (λ op inside other. same-for of so lo hi (get_or p op 0) op cases (stands.same op inside));
  roots = at-set p (λ op parent. parent ≡ op → so op ≡ op) hi lo within
      (λ is. low-stays of so lo hi hi (cases hi) (inr high) ∙ is)
      (λ op inside other own. first op other (stands.roots op inside own) (cases op));
}
  where
    settled : (op : ℕ) → Cases of so lo hi op → so (so op) ≡ so op
    settled op (inl a) = ap so a.1 ∙ low-stays of so lo hi lo (cases lo) (inl low) ∙ sym a.1
    settled op (inr a) = ap so a.2 ∙ same-for of so lo hi (of op) op cases (stands.settled op)

    first : (op : ℕ) → op ≢ hi → of op ≡ op → Cases of so lo hi op → so op ≡ op
    first op other own (inl (inl a, to)) = to ∙ sym a ∙ own
    first op other own (inl (inr a, to)) = absurd (other (sym own ∙ a))
    first op other own (inr a) = a.2 ∙ own

-- the join of two classes, by the first of each
pub joined-below : (of : ℕ → ℕ) (p new : List ℕ) (a b lo hi : ℕ) → Stands of p → lo ≡ of a → hi ≡ of b → lo ≤ hi → hi < length p
    → new ≡ set p hi lo → Stands (joined of a b) new
joined-below of p new a b lo hi stands is_low is_high less within written =
    subst (Stands (joined of a b)) (sym written)
    (merged of (joined of a b) p lo hi stands (λ op. cases op (joined-cases of a b op)) within
    (subst (λ n. of n ≡ n) (sym is_low) (stands.settled a)) (subst (λ n. of n ≡ n) (sym is_high) (stands.settled b)))
  where
    least : min (of a) (of b) ≡ lo
    least = min-less (of a) (of b) (subst (λ n. n ≤ of b) is_low (subst (λ n. lo ≤ n) is_high less)) ∙ sym is_low

    cases : (op : ℕ) → (((of op ≡ of a) ⊎ (of op ≡ of b)) × (joined of a b op ≡ min (of a) (of b))) ⊎ ((of op ≢ of a) × (of op ≢ of b) × (joined of a b op ≡ of op))
        → Cases of (joined of a b) lo hi op
    cases op (inl (inl x, to)) = inl (inl (x ∙ sym is_low), to ∙ least)
    cases op (inl (inr x, to)) = inl (inr (x ∙ sym is_high), to ∙ least)
    cases op (inr x) = inr ((λ e. x.0 (e ∙ is_low)), (λ e. x.1 (e ∙ is_high)), x.2)

pub joined-above : (of : ℕ → ℕ) (p new : List ℕ) (a b lo hi : ℕ) → Stands of p → hi ≡ of a → lo ≡ of b → lo ≤ hi → hi < length p
    → new ≡ set p hi lo → Stands (joined of a b) new
joined-above of p new a b lo hi stands is_high is_low less within written =
    subst (Stands (joined of a b)) (sym written)
    (merged of (joined of a b) p lo hi stands (λ op. cases op (joined-cases of a b op)) within
    (subst (λ n. of n ≡ n) (sym is_low) (stands.settled b)) (subst (λ n. of n ≡ n) (sym is_high) (stands.settled a)))
  where
    least : min (of a) (of b) ≡ lo
    least = min-other (of a) (of b) (subst (λ n. n ≤ of a) is_low (subst (λ n. lo ≤ n) is_high less)) ∙ sym is_low

    cases : (op : ℕ) → (((of op ≡ of a) ⊎ (of op ≡ of b)) × (joined of a b op ≡ min (of a) (of b))) ⊎ ((of op ≢ of a) × (of op ≢ of b) × (joined of a b op ≡ of op))
        → Cases of (joined of a b) lo hi op
    cases op (inl (inl x, to)) = inl (inr (x ∙ sym is_high), to ∙ least)
    cases op (inl (inr x, to)) = inl (inl (x ∙ sym is_low), to ∙ least)
    cases op (inr x) = inr ((λ e. x.1 (e ∙ is_low)), (λ e. x.0 (e ∙ is_high)), x.2)
