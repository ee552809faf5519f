-- Numbers that are told apart, by their order or by a test.
use Rattle.std.proofs.Common.{◌≡◌, ◌≢◌, ℕ, Bool, true, false, nat_eq, refl, ap, sym, ◌∙◌, eq-eqb, eqb-true, true≢false}
use Rattle.std.specs.Cmp.{nat_cmp_total, eq_by_cmp_equiv, ranked}
use Rattle.std.specs.Ordering.{nat_cmp, is_eq}
use Rattle.std.specs.declared.cmp.Ordering.{Ordering}
use Rattle.std.specs.declared.cmp.Ordering.TheVariants.{Less, Equal, Greater}

pub same_number : (p q : ℕ) → is_eq (nat_cmp p q) ≡ true → p ≡ q
same_number p q e = by (nat_cmp p q) refl e
  where
    by : (r : Ordering) → r ≡ nat_cmp p q → is_eq r ≡ true → p ≡ q
    by Less is h = cc
    by Equal is h = ranked p q Equal is
    by Greater is h = cc

pub itself : (p : ℕ) → is_eq (nat_cmp p p) ≡ true
itself p = (eq_by_cmp_equiv nat_cmp_total).refl p

pub turned : (p q : ℕ) → is_eq (nat_cmp p q) ≡ is_eq (nat_cmp q p)
turned p q = (eq_by_cmp_equiv nat_cmp_total).symm p q

-- numbers are told apart alike, whether they are compared or tested
pub same_test : (p q : ℕ) → nat_eq p q ≡ is_eq (nat_cmp p q)
same_test p q = by (nat_eq p q) refl
  where
    by : (b : Bool) → nat_eq p q ≡ b → b ≡ is_eq (nat_cmp p q)
    by true is = sym (ap (λ n. is_eq (nat_cmp p n)) (sym (eqb-true p q is)) ∙ itself p)
    by false is = other (is_eq (nat_cmp p q)) refl
      where
        other : (b : Bool) → is_eq (nat_cmp p q) ≡ b → false ≡ b
        other false at = refl
        other true at = absurd (true≢false (sym (eq-eqb p q (same_number p q at)) ∙ is))

-- a fact by whether two numbers are told apart
pub by_number : (p q : ℕ) (P : Bool → Type 0) → (p ≡ q → P true) → (is_eq (nat_cmp p q) ≡ false → P false) → P (is_eq (nat_cmp p q))
by_number p q P here there = by (is_eq (nat_cmp p q)) refl
  where
    by : (b : Bool) → is_eq (nat_cmp p q) ≡ b → P b
    by true is = here (same_number p q is)
    by false is = there is

pub apart : (p q : ℕ) → q ≢ p → is_eq (nat_cmp p q) ≡ false
apart p q ne = by_number p q (λ b. b ≡ false) (λ e. absurd (ne (sym e))) (λ is. refl)
