-- Who is found among the processes that live, and what a rest comes to.
use Rattle.std.proofs.Common.{◌≡◌, ◌⊎◌, inl, inr, ℕ, ◌==◌, not, Bool, true, false, cond, List, [], ◌∷◌, ◌++◌, Option, None, Some, refl, ap, sym, ◌∙◌, subst, eqb-true}
use Rattle.std.specs.Prelude.{find}
use Rattle.sr_ask.specs.declared.answer.Answer.{Answer}
use Rattle.sr_ask.specs.declared.start.Start.{Start}
use Rattle.sr_core.specs.declared.component.Core.{Core}
use Rattle.sr_instances.specs.Instances.{Instance}
use Rattle.sr_processes.specs.Living.{is_process, without_process}
use Rattle.sr_world.specs.Does.{Does, Makes, Ends}
use Rattle.sr_world.specs.Endings.{close_or, main_instance, may_close, quiesce, rest_of}
use Rattle.sr_world.specs.Worlds.{World}
use Rattle.sr_world.specs.declared.ends.End.{End}

-- the one that ended isn't
pub none-without : (live : List Start) (p q : ℕ) → p ≡ q → find (is_process q) (without_process live p) ≡ None
none-without [] p q same = refl
none-without (x ∷ xs) p q same = by (p == x.process) refl (none-without xs p q same)
  where
    by : (b : Bool) → (p == x.process) ≡ b → find (is_process q) (without_process xs p) ≡ None → find (is_process q) (cond (not b) (x ∷ without_process xs p) (without_process xs p)) ≡ None
    by true is more = more
    by false is more =
        let off : (q == x.process) ≡ false = subst (λ n. (n == x.process) ≡ false) same is in
        ap (λ d. cond d (Some x) (find (is_process q) (without_process xs p))) off ∙ more

pub found-without : (live : List Start) (p q : ℕ) (s : Start) → find (is_process q) (without_process live p) ≡ Some s → find (is_process q) live ≡ Some s
found-without [] p q s is = is
found-without (x ∷ xs) p q s is = by (p == x.process) refl (q == x.process) refl is (found-without xs p q s)
  where
    by : (b : Bool) → (p == x.process) ≡ b → (d : Bool) → (q == x.process) ≡ d → find (is_process q) (cond (not b) (x ∷ without_process xs p) (without_process xs p)) ≡ Some s
        → (find (is_process q) (without_process xs p) ≡ Some s → find (is_process q) xs ≡ Some s) → cond d (Some x) (find (is_process q) xs) ≡ Some s
    by true is true is' h more =
        let same : p ≡ q = eqb-true p x.process is ∙ sym (eqb-true q x.process is') in
        let none = none-without xs p q same in absurd (cc)
    by true is false is' h more = more h
    by false is true is' h more = sym (ap (λ d. cond d (Some x) (find (is_process q) (without_process xs p))) is') ∙ h
    by false is false is' h more = more (sym (ap (λ d. cond d (Some x) (find (is_process q) (without_process xs p))) is') ∙ h)

pub found-added : (live : List Start) (x : Start) (q : ℕ) (s : Start) → find (is_process q) (live ++ x ∷ []) ≡ Some s → (find (is_process q) live ≡ Some s) ⊎ (q ≡ x.process)
found-added [] x q s is = by (q == x.process) refl is
  where
    by : (b : Bool) → (q == x.process) ≡ b → cond b (Some x) None ≡ Some s → (None ≡ Some s) ⊎ (q ≡ x.process)
    by true same h = inr (eqb-true q x.process same)
    by false off h = inl h
found-added (y ∷ ys) x q s is = by (q == y.process) is (found-added ys x q s)
  where
    by : (b : Bool) → cond b (Some y) (find (is_process q) (ys ++ x ∷ [])) ≡ Some s
        → (find (is_process q) (ys ++ x ∷ []) ≡ Some s → (find (is_process q) ys ≡ Some s) ⊎ (q ≡ x.process)) → (cond b (Some y) (find (is_process q) ys) ≡ Some s) ⊎ (q ≡ x.process)
    by true h more = inl h
    by false h more = more h

-- nothing else comes of a rest
abbrev pub AtRest : Does → Type 0
AtRest (Makes world answer) = Unit {0}
AtRest (Ends ending) = Unit {0}
AtRest _ = ⊥

pub at-rest : (core : Core) (name : ℕ) (w : World) → AtRest (quiesce core name w)
at-rest core name w = by (main_instance core w)
  where
    closing : (m : Instance) (b : Bool) (x : World) (a : Answer) (e : End) → AtRest (cond b (Makes x a) (Ends e))
    closing m true x a e = tt
    closing m false x a e = tt

    by : (main : Option Instance) → AtRest (close_or core name None (rest_of w.fixed) w main)
    by None = tt
    by (Some m) = closing m (may_close core m) _ _ _
