-- What is serviced by statements isn't served by procs.
use Rattle.std.proofs.Common.{◌≡◌, Bool, true, false, true≢false, List, Some, None, refl, sym, ◌∙◌, ap, subst, is_some}
use Rattle.std.specs.List.{All, Contains}
use Rattle.sr_names.specs.declared.meaning.Decl.{Decl}
use Rattle.sr_names.specs.declared.spot.Spot.{Spot}
use Rattle.sr_names.specs.Noted.{Meanings}
use Rattle.sr_tree.specs.declared.component.Component.{Component}
use Rattle.sr_tree.specs.declared.component.File.{File}
use Rattle.sr_check_expr.specs.declared.facts.Facts.{Facts}
use Rattle.sr_check.specs.Owners.{Declared, component_at}
use Rattle.sr_check.specs.Procs.{proc_of}
use Rattle.sr_check.specs.Servicing.{AreWaited, IsServed, IsWaited, Served, ServesShared, ServicesOwn, Waited, component_procedures, component_served, component_waits}
use Rattle.sr_check.proofs.laws.waited_have_no_proc.Goals as goal

all_at : {X : Type 0} (P : X → Type 0) (xs : List X) (x : X) → All P xs → Contains xs x → P x
all_at P xs x h at = subst P at.2 (h at.0 x at.1)

same_decl : (a b : Decl) → Some a ≡ Some b → a ≡ b
same_decl a b e = cc

module _ (uses : Meanings) (files : List File) (known : Facts) (component : Component) (s : ServicesOwn uses files known component) where
  -- what a statement services is declared in the component, and has no proc
  waited : (decl : Decl) → IsWaited uses component decl → (is_local : Bool) × (Declared files decl.spot (component_at component) is_local × (proc_of s.procs decl.spot ≡ None))
  waited decl w =
      let together = all_at (AreWaited files known (component_at component) s.procs) (component_waits uses component) w.0 s.by_statements w.1.0 in
      let one = all_at (Waited files known (component_at component) s.procs together.0) w.0 (Some decl) together.1 w.1.1 in
      let same = sym (same_decl decl one.own.decl one.own.means) in
      (together.0, (subst (λ d. Declared files d.spot (component_at component) together.0) same one.own.declared, subst (λ d. proc_of s.procs d.spot ≡ None) same one.has_none))

  -- what a proc serves is declared in the component, and has a proc
  served : (decl : Decl) → IsServed uses component decl
      → (is_local : Bool) × (Declared files decl.spot (component_at component) is_local × (is_local ≡ false → is_some (proc_of s.procs decl.spot) ≡ true))
  served decl w =
      let one = all_at (Served files known (component_at component) s.procs) (component_served uses component) (Some decl) s.by_procs w in
      let same = sym (same_decl decl one.own.decl one.own.means) in (
        one.is_local,
        (
          subst (λ d. Declared files d.spot (component_at component) one.is_local) same one.own.declared,
          subst (λ d. one.is_local ≡ false → is_some (proc_of s.procs d.spot) ≡ true) same one.has_one,
        ),
      )

  apart : (spot : Spot) → proc_of s.procs spot ≡ None → is_some (proc_of s.procs spot) ≡ true → ⊥
  apart spot none some = true≢false (sym some ∙ ap is_some none)

  no_procedure : (decl : Decl) → IsWaited uses component decl → Contains (component_procedures component) decl.spot → ⊥
  no_procedure decl w at =
      apart decl.spot (waited decl w).1.1 (all_at (λ spot. is_some (proc_of s.procs spot) ≡ true) (component_procedures component) decl.spot s.by_procedures at)

  no_proc : ServesShared uses files component → (decl other : Decl) → IsWaited uses component decl → IsServed uses component other → decl.spot ≡ other.spot → ⊥
  no_proc shared decl other w v same = by (served other v).0 refl
    where
      by : (is_local : Bool) → (served other v).0 ≡ is_local → ⊥
      by true e = shared other v (subst (λ l. Declared files other.spot (component_at component) l) e (served other v).1.0)
      by false e = apart decl.spot (waited decl w).1.1 (subst (λ spot. is_some (proc_of s.procs spot) ≡ true) (sym same) ((served other v).1.1 e))

pub returns : goal.returns
returns c = record {
  one_component = λ uses files known a b once s t decl other w v same.
      let left = waited uses files known a s decl w in
      let right = served uses files known b t other v in
      (once decl.spot (component_at a) (component_at b) left.0 right.0 left.1.0 (subst (λ spot. Declared files spot (component_at b) right.0) (sym same) right.1.0)).0;
  no_procedure = λ uses files known component s. no_procedure uses files known component s;
  no_proc = λ uses files known component shared s. no_proc uses files known component s shared;
}
