-- What is kept of broken rules is the first of all.
use Rattle.std.proofs.Common.{◌≡◌, ◌⊎◌, ℕ, Bool, true, false, ◌&&◌, ◌||◌, eqb, ltb, List, [], ◌∷◌, Option, None, Some, MatchOption, refl, ap, sym, ◌∙◌, subst, inl, inr, if◌then◌else◌, true≢false, arith}
use Rattle.std.proofs.lemmas.Bool.Decides.{nat_tests}
use Rattle.sr_names.specs.declared.finding.Finding.{Finding}
use Rattle.sr_names.specs.declared.finding.Finding.TheVariants.{Use, Broken}
use Rattle.sr_names.specs.declared.finding.Diagnostic.{Diagnostic}
use Rattle.sr_names.specs.declared.diagnostics.Diagnostics.{Diagnostics}
use Rattle.sr_names.specs.Firsts.{first_of_both}
use Rattle.sr_names.specs.FirstLaw.{IsBroken, IsFirst}
use Rattle.sr_names.specs.Diagnostics.{nothing, noted, all_noted}
use Rattle.sr_names.specs.Order.{goes_before, rule_number}

-- the order of three numbers, the first of them deciding
abbrev before : ℕ → ℕ → ℕ → ℕ → ℕ → ℕ → Bool
before f g n f' g' n' = (ltb f f' || (eqb f f' && ltb g g')) || ((eqb f f' && eqb g g') && ltb n n')

before-between : (f g n f' g' n' f'' g'' n'' : ℕ) → before f g n f'' g'' n'' ≡ true → before f' g' n' f'' g'' n'' ≡ false → before f g n f' g' n' ≡ true
before-between f g n f' g' n' f'' g'' n'' h k = grind (arith, nat_tests)

before-itself : (f g n : ℕ) → before f g n f g n ≡ false
before-itself f g n = grind (arith, nat_tests)

before-turned : (f g n f' g' n' : ℕ) → before f g n f' g' n' ≡ true → before f' g' n' f g n ≡ false
before-turned f g n f' g' n' h = grind (arith, nat_tests)

-- what goes before a third goes before a second that doesn't
goes_before-between : (a b c : Diagnostic) → goes_before a c ≡ true → goes_before b c ≡ false → goes_before a b ≡ true
goes_before-between a b c h k = before-between a.span.file a.span.from (rule_number a.rule) b.span.file b.span.from (rule_number b.rule) c.span.file c.span.from (rule_number c.rule) h k

goes_before-itself : (a : Diagnostic) → goes_before a a ≡ false
goes_before-itself a = before-itself a.span.file a.span.from (rule_number a.rule)

goes_before-turned : (a b : Diagnostic) → goes_before a b ≡ true → goes_before b a ≡ false
goes_before-turned a b h = before-turned a.span.file a.span.from (rule_number a.rule) b.span.file b.span.from (rule_number b.rule) h

-- what doesn't go before a second doesn't go before what the second doesn't go before
not-before : (a b c : Diagnostic) → goes_before a b ≡ false → goes_before b c ≡ false → goes_before a c ≡ false
not-before a b c h k = by (goes_before a c) refl
  where
    by : (r : Bool) → goes_before a c ≡ r → goes_before a c ≡ false
    by true e = absurd (true≢false (sym (goes_before-between a b c e k) ∙ h))
    by false e = e

-- of an earlier one and a new one the first is kept
record KeptOf (kept : Option Diagnostic) (diagnostic first : Diagnostic) : Type 0 where
  one : (kept ≡ Some first) ⊎ (diagnostic ≡ first)
  not-new : goes_before diagnostic first ≡ false
  not-old : (old : Diagnostic) → kept ≡ Some old → goes_before old first ≡ false

kept-of : (kept : Option Diagnostic) (diagnostic : Diagnostic) → KeptOf kept diagnostic (first_of_both kept diagnostic)
kept-of None diagnostic = record { one = inr refl; not-new = goes_before-itself diagnostic; not-old = λ old e. cc }
kept-of (Some old) diagnostic = by (goes_before diagnostic old) refl
  where
    by : (b : Bool) → goes_before diagnostic old ≡ b → KeptOf (Some old) diagnostic (if goes_before diagnostic old then diagnostic else old)
    by true e = subst (λ b. KeptOf (Some old) diagnostic (if b then diagnostic else old)) (sym e) (record {
      one = inr refl;
      not-new = goes_before-itself diagnostic;
      not-old = λ other same. subst (λ o. goes_before o diagnostic ≡ false) (let it : old ≡ other = cc in it) (goes_before-turned diagnostic old e);
    })
    by false e = subst (λ b. KeptOf (Some old) diagnostic (if b then diagnostic else old)) (sym e) (record {
      one = inl refl;
      not-new = e;
      not-old = λ other same. subst (λ o. goes_before o old ≡ false) (let it : old ≡ other = cc in it) (goes_before-itself old);
    })

-- what findings leave where an earlier one was kept
record KeptAll (kept : Option Diagnostic) (findings : List Finding) (first : Diagnostic) : Type 0 where
  one : (kept ≡ Some first) ⊎ IsBroken findings first
  least : (other : Diagnostic) → IsBroken findings other → goes_before other first ≡ false
  not-old : (old : Diagnostic) → kept ≡ Some old → goes_before old first ≡ false

match-map : {A : Type 0} {P P' : Type 0} {Q Q' : A → Type 0} (o : Option A) → MatchOption o P Q → (P → P') → ((x : A) → Q x → Q' x) → MatchOption o P' Q'
match-map None h f g = f h
match-map (Some x) h f g = g x h

abbrev NoneKept : Option Diagnostic → List Finding → Type 0
NoneKept kept findings = (kept ≡ None) × ((diagnostic : Diagnostic) → IsBroken findings diagnostic → ⊥)

kept-none : (kept : Option Diagnostic) → MatchOption kept (NoneKept kept []) (KeptAll kept [])
kept-none None = (refl, λ diagnostic h. h)
kept-none (Some diagnostic) = record {
  one = inl refl;
  least = λ other h. absurd h;
  not-old = λ old e. subst (λ o. goes_before o diagnostic ≡ false) (let it : diagnostic ≡ old = cc in it) (goes_before-itself diagnostic);
}

kept-all : (diagnostics : Diagnostics) (findings : List Finding) → MatchOption (all_noted diagnostics findings).first (NoneKept diagnostics.first findings) (KeptAll diagnostics.first findings)
kept-all diagnostics [] = kept-none diagnostics.first
kept-all diagnostics (Use spot meaning ∷ findings) =
    match-map (all_noted (noted diagnostics (Use spot meaning)) findings).first (kept-all (noted diagnostics (Use spot meaning)) findings) none some
  where
    not-use : (diagnostic : Diagnostic) → ((Use spot meaning ≡ Broken diagnostic) ⊎ IsBroken findings diagnostic) → IsBroken findings diagnostic
    not-use diagnostic (inl e) = absurd (let it : ⊥ = cc in it)
    not-use diagnostic (inr h) = h

    none : NoneKept diagnostics.first findings → NoneKept diagnostics.first (Use spot meaning ∷ findings)
    none h = (h.0, λ diagnostic m. h.1 diagnostic (not-use diagnostic m))

    some : (first : Diagnostic) → KeptAll diagnostics.first findings first → KeptAll diagnostics.first (Use spot meaning ∷ findings) first
    some first h = record {
      one = by h.one;
      least = λ other m. h.least other (not-use other m);
      not-old = h.not-old;
    }
      where
        by : ((diagnostics.first ≡ Some first) ⊎ IsBroken findings first) → (diagnostics.first ≡ Some first) ⊎ IsBroken (Use spot meaning ∷ findings) first
        by (inl e) = inl e
        by (inr m) = inr (inr m)
kept-all diagnostics (Broken diagnostic ∷ findings) =
    match-map (all_noted (noted diagnostics (Broken diagnostic)) findings).first (kept-all (noted diagnostics (Broken diagnostic)) findings) none some
  where
    now-is : KeptOf diagnostics.first diagnostic (first_of_both diagnostics.first diagnostic)
    now-is = kept-of diagnostics.first diagnostic

    none : NoneKept (Some (first_of_both diagnostics.first diagnostic)) findings → NoneKept diagnostics.first (Broken diagnostic ∷ findings)
    none h = absurd (let e : Some (first_of_both diagnostics.first diagnostic) ≡ None = h.0 in let it : ⊥ = cc in it)

    some : (first : Diagnostic) → KeptAll (Some (first_of_both diagnostics.first diagnostic)) findings first → KeptAll diagnostics.first (Broken diagnostic ∷ findings) first
    some first h = record {
      one = by h.one;
      least = least;
      not-old = λ old e. not-before old (first_of_both diagnostics.first diagnostic) first (now-is.not-old old e) (h.not-old _ refl);
    }
      where
        from-now : (first_of_both diagnostics.first diagnostic ≡ first) → ((diagnostics.first ≡ Some (first_of_both diagnostics.first diagnostic)) ⊎ (diagnostic ≡ first_of_both diagnostics.first diagnostic))
            → (diagnostics.first ≡ Some first) ⊎ IsBroken (Broken diagnostic ∷ findings) first
        from-now e (inl k) = inl (k ∙ ap Some e)
        from-now e (inr k) = inr (inl (ap Broken (k ∙ e)))

        by : ((Some (first_of_both diagnostics.first diagnostic) ≡ Some first) ⊎ IsBroken findings first) → (diagnostics.first ≡ Some first) ⊎ IsBroken (Broken diagnostic ∷ findings) first
        by (inl e) = from-now (let it : first_of_both diagnostics.first diagnostic ≡ first = cc in it) now-is.one
        by (inr m) = inr (inr m)

        least : (other : Diagnostic) → IsBroken (Broken diagnostic ∷ findings) other → goes_before other first ≡ false
        least other (inl e) = subst (λ o. goes_before o first ≡ false) (let it : diagnostic ≡ other = cc in it) (not-before diagnostic (first_of_both diagnostics.first diagnostic) first now-is.not-new (h.not-old _ refl))
        least other (inr m) = h.least other m

pub keeps-first : (findings : List Finding) → MatchOption (all_noted nothing findings).first ((diagnostic : Diagnostic) → IsBroken findings diagnostic → ⊥) (IsFirst findings)
keeps-first findings = match-map (all_noted nothing findings).first (kept-all nothing findings) (λ h. h.1) some
  where
    some : (first : Diagnostic) → KeptAll None findings first → IsFirst findings first
    some first h = record { found = by h.one; first = h.least }
      where
        by : ((None ≡ Some first) ⊎ IsBroken findings first) → IsBroken findings first
        by (inl e) = absurd (let it : ⊥ = cc in it)
        by (inr m) = m
