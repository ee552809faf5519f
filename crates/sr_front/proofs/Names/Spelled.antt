-- What the grammar says of the components of a program.
use Rattle.std.proofs.Common.{◌≡◌, ◌⊎◌, ℕ, Bool, List, refl, subst, inl, inr}
use Rattle.sr_core.specs.declared.component.Kind.TheVariants as kind
use Rattle.sr_tables.specs.Parts.{components_in, kind_of}
use Rattle.sr_tree.specs.declared.component.Component.{Component}
use Rattle.sr_tree.specs.declared.component.File.{File}
use Rattle.sr_tree.specs.declared.token.Token.{Token}
use Rattle.sr_tree.specs.Components.{SpellsList, stop_here, separator, one, SpellsComponent, global, no_body, body, Spells, file, final_count}
use Rattle.sr_tree.specs.Parts.{body_of}
use Rattle.sr_scope.specs.Uses.{IsIn}
use Rattle.sr_front.specs.Phases.{AllPass, none_left, one_more}
use Rattle.sr_front.specs.Reading.{HasTree}
use Rattle.sr_scope.proofs.Findings.{in_either}
use Rattle.sr_front.proofs.CoreComponents.{NoFinalInGlobals}

spelled_in : {may_begin : Bool} {components : List Component} {tokens : List Token} → SpellsList SpellsComponent may_begin components tokens
    → (component : Component) → IsIn component components → (u : List Token) × SpellsComponent component u
spelled_in stop_here component h = absurd h
spelled_in (separator t is more) component h = spelled_in more component h
spelled_in (one {i = first} {u = u} here more) component (inl e) = (u, subst (λ c. SpellsComponent c u) e here)
spelled_in (one here more) component (inr h) = spelled_in more component h

spelled_of : {tokens : List Token} {tree : File} → Spells tokens tree → (component : Component) → IsIn component tree.components → (u : List Token) × SpellsComponent component u
spelled_of (file components) component h = spelled_in components component h

-- each component of files with these trees is spelled by some tokens
pub spelled : {number : ℕ} {tokens : List (List Token)} {trees : List File} → AllPass HasTree number tokens trees
    → (component : Component) → IsIn component (components_in trees) → (u : List Token) × SpellsComponent component u
spelled none_left component h = absurd h
spelled (one_more {made = tree} {mades = trees} here more) component h = by (in_either component tree.components (components_in trees) h) (spelled more component)
  where
    by : IsIn component tree.components ⊎ IsIn component (components_in trees) → (IsIn component (components_in trees) → (u : List Token) × SpellsComponent component u)
        → (u : List Token) × SpellsComponent component u
    by (inl k) others = spelled_of here component k
    by (inr k) others = others k

no_final : {component : Component} {tokens : List Token} → SpellsComponent component tokens → kind_of component ≡ kind.Global → final_count (body_of component) ≡ 0
no_final (global t n is_global is_name some no_body end) e = refl
no_final (global t n is_global is_name some (body b m is_body is_m same items none) end) e = none
no_final _ e = absurd cc

pub no_final_in_globals : {number : ℕ} {tokens : List (List Token)} {trees : List File} → AllPass HasTree number tokens trees → NoFinalInGlobals trees
no_final_in_globals all component h e = no_final (spelled all component h).1 e
