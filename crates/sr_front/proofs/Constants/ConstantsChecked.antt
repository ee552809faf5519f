-- The rule of constants is met of each constant of a spec by what is known where its component is checked: all that is known before code is read, and what code declares.
use Rattle.std.proofs.Common.{◌≡◌, inl, inr, true, List, [], ◌∷◌, flat_map, None, refl, sym, ap, subst}
use Rattle.std.proofs.Math.Path.{path_j, subst_refl}
use Rattle.sr_check.proofs.Each.{Each, each-left, each-right}
use Rattle.sr_check.proofs.ErrorFree.{error_free_first, error_free_second, rule_met}
use Rattle.sr_check.proofs.Kept.{none_found}
use Rattle.sr_check.specs.Checked.{checked, first_refused}
use Rattle.sr_check.specs.Components.{component_read, components_read, files_read, head_found}
use Rattle.sr_check.specs.ErrorFree.{ErrorFree}
use Rattle.sr_check_decl.specs.Constants.{const_rule, written_found, written_kind}
use Rattle.sr_check_decl.specs.Cycles.{leads_left, type_cycles_found}
use Rattle.sr_check_decl.specs.Declarations.{spec_item_found, spec_items_found}
use Rattle.sr_check_decl.specs.Declaring.{standing}
use Rattle.sr_check_decl.specs.Inferring.{program_inferred, program_known}
use Rattle.sr_check_decl.specs.Parts.{component_decl}
use Rattle.sr_check_decl.specs.Waiting.{files_waiting}
use Rattle.sr_check_expr.specs.declared.facts.Facts.{Facts}
use Rattle.sr_check_expr.specs.Exprs.{infer_expr}
use Rattle.sr_check_expr.specs.Typings.{valued}
use Rattle.sr_names.specs.declared.finding.Rule.TheVariants.{BadType}
use Rattle.sr_names.specs.declared.spot.Spot.{Spot}
use Rattle.sr_names.specs.Noted.{Meanings}
use Rattle.sr_names.specs.Specs.{Specs}
use Rattle.sr_names.specs.Spots.{spot_of}
use Rattle.sr_scope.specs.Uses.{IsIn}
use Rattle.sr_tables.specs.Parts.{components_in}
use Rattle.sr_tree.specs.declared.component.Component.{Component}
use Rattle.sr_tree.specs.declared.component.File.{File}
use Rattle.sr_tree.specs.declared.component.SpecItem.{SpecItem}
use Rattle.sr_tree.specs.declared.component.SpecItem.TheVariants as spec
use Rattle.sr_tree.specs.declared.declaration.ConstDecl.{ConstDecl}
use Rattle.sr_tree.specs.Parts.{spec_of}
use Rattle.sr_front.proofs.EffectFree.AllowedCode.{files_error_free}
use Rattle.sr_front.proofs.Known.InfosStay.{Reads}
use Rattle.sr_front.proofs.Mentioned.ReadsCode.{component_inside, reads_component}

-- where a component is checked
pub record CheckedAt (all : List Component) (first : Facts) (component : Component) : Type 1 where
  pub facts : Facts
  pub reads : Reads (flat_map component_inside all) first facts
  pub whole : ErrorFree (component_read component facts).found

pub part_free : (Free : Spot → Type 0) (all : List Component) (one : Component) → IsIn one all → Each (λ span. Free (spot_of span)) (flat_map component_inside all) → Each (λ span. Free (spot_of span)) (component_inside one)
part_free Free [] one k free = absurd k
part_free Free (first ∷ all) one (inl e) free = subst (λ it. Each (λ span. Free (spot_of span)) (component_inside it)) e (each-left (λ span. Free (spot_of span)) (component_inside first) (flat_map component_inside all) free)
part_free Free (first ∷ all) one (inr k) free = part_free Free all one k (each-right (λ span. Free (spot_of span)) (component_inside first) (flat_map component_inside all) free)

checked_in : (all : List Component) (first : Facts) (components : List Component) (facts : Facts) → ((one : Component) → IsIn one components → IsIn one all) → Reads (flat_map component_inside all) first facts
    → ErrorFree (components_read components facts).found → (component : Component) → IsIn component components → CheckedAt all first component
checked_in all first [] facts among reads whole component k = absurd k
checked_in all first (one ∷ components) facts among reads whole component (inl e) =
    subst (λ it. CheckedAt all first it) e (record { facts = facts; reads = reads; whole = error_free_first (component_read one facts).found _ whole })
checked_in all first (one ∷ components) facts among reads whole component (inr k) =
    checked_in all first components (component_read one facts).facts (λ other h. among other (inr h))
    (λ Q Free steady free h. reads_component one facts Q Free steady (part_free Free all one (among one (inl refl)) free) (reads Q Free steady free h))
    (error_free_second (component_read one facts).found _ whole) component k

-- each component of a program in which no rule is broken but for those of heads
pub checked_whole : (uses : Meanings) (specs : Specs) (files : List File) → ErrorFree (checked uses specs files).found → (component : Component) → IsIn component (components_in files)
    → CheckedAt (components_in files) (program_known uses specs files) component
checked_whole uses specs files free =
    let known = program_known uses specs files in
    let whole = error_free_second (type_cycles_found (leads_left (program_inferred uses specs files) (files_waiting files))) (files_read files known).found free in
    checked_in (components_in files) known (components_in files) known (λ one k. k) (λ Q Free steady free h. h) (files_error_free files known whole)

-- each component of an accepted program
pub checked_at : (uses : Meanings) (specs : Specs) (files : List File) → first_refused uses specs files ≡ None → (component : Component) → IsIn component (components_in files)
    → CheckedAt (components_in files) (program_known uses specs files) component
checked_at uses specs files none =
    let known = program_known uses specs files in
    let whole = error_free_second (type_cycles_found (leads_left (program_inferred uses specs files) (files_waiting files))) (files_read files known).found (none_found uses specs files none) in
    checked_in (components_in files) known (components_in files) known (λ one k. k) (λ Q Free steady free h. h) (files_error_free files known whole)

same_facts : (all : List Component) (first : Facts) (one other : Component) (same : one ≡ other) (checked : CheckedAt all first one) → (subst (λ it. CheckedAt all first it) same checked).facts ≡ checked.facts
same_facts all first one other same checked =
    path_j (λ it e. (subst (λ it. CheckedAt all first it) e checked).facts ≡ checked.facts) (ap (λ (known : CheckedAt all first one). known.facts) (subst_refl (λ it. CheckedAt all first it) checked)) same

-- what components keep, one after the other, holds where each is checked
module _ (Holds : Facts → Type 0) (Along : List Component → Facts → Type 0) (here : (one : Component) (more : List Component) (facts : Facts) → Along (one ∷ more) facts → Holds facts)
    (next : (one : Component) (more : List Component) (facts : Facts) → Along (one ∷ more) facts → ErrorFree (component_read one facts).found → Along more (component_read one facts).facts) where
  held_in : (all : List Component) (first : Facts) (components : List Component) (facts : Facts) (among : (one : Component) → IsIn one components → IsIn one all) (reads : Reads (flat_map component_inside all) first facts)
      (whole : ErrorFree (components_read components facts).found) → Along components facts → (component : Component) (k : IsIn component components) → Holds (checked_in all first components facts among reads whole component k).facts
  unfolding checked_in
  held_in all first [] facts among reads whole along component k = absurd k
  held_in all first (one ∷ components) facts among reads whole along component (inl same) =
      subst Holds (sym (same_facts all first one component same (record { facts = facts; reads = reads; whole = error_free_first (component_read one facts).found _ whole }))) (here one components facts along)
  held_in all first (one ∷ components) facts among reads whole along component (inr k) =
      held_in all first components (component_read one facts).facts (λ other h. among other (inr h)) _ (error_free_second (component_read one facts).found _ whole)
      (next one components facts along (error_free_first (component_read one facts).found _ whole)) component k

  pub held_at : (uses : Meanings) (specs : Specs) (files : List File) (none : first_refused uses specs files ≡ None) → Along (components_in files) (program_known uses specs files)
      → (component : Component) (there : IsIn component (components_in files)) → Holds (checked_at uses specs files none component there).facts
  unfolding checked_at
  held_at uses specs files none along component there = held_in (components_in files) (program_known uses specs files) (components_in files) (program_known uses specs files) _ _ _ along component there

-- ---- the constants of its spec

pub found_in : (facts : Facts) (items : List SpecItem) → ErrorFree (spec_items_found facts items) → (one : SpecItem) → IsIn one items → ErrorFree (spec_item_found true facts one)
found_in facts [] whole one k = absurd k
found_in facts (first ∷ items) whole one (inl e) = subst (λ it. ErrorFree (spec_item_found true facts it)) e (error_free_first (spec_item_found true facts first) _ whole)
found_in facts (first ∷ items) whole one (inr k) = found_in facts items (error_free_second (spec_item_found true facts first) _ whole) one k

module _ (all : List Component) (first : Facts) (component : Component) (checked : CheckedAt all first component) where
  abbrev pub checking : Facts
  checking = standing checked.facts (component_decl component)

  -- the rule is met of each constant
  pub constant_met : (constant : ConstDecl) → IsIn (spec.Const constant) (spec_of component)
      → const_rule true (written_kind checking constant.ty) (infer_expr constant.value checking).typed_expr.typed ≡ true
  constant_met constant among =
      let head = error_free_first (head_found component checking) _ checked.whole in
      let specs = error_free_first (spec_items_found checking (spec_of component)) _ head in
      let found = found_in checking (spec_of component) specs (spec.Const constant) among in
      let value = error_free_second (valued (infer_expr constant.value checking)) _ (error_free_second (written_found checking constant.ty) _ found) in
      rule_met (const_rule true (written_kind checking constant.ty) (infer_expr constant.value checking).typed_expr.typed) BadType (infer_expr constant.value checking).typed_expr.span value

  -- nothing is found in its type
  pub constant_written : (constant : ConstDecl) → IsIn (spec.Const constant) (spec_of component) → ErrorFree (written_found checking constant.ty)
  constant_written constant among =
      let head = error_free_first (head_found component checking) _ checked.whole in
      let specs = error_free_first (spec_items_found checking (spec_of component)) _ head in
      error_free_first (written_found checking constant.ty) _ (found_in checking (spec_of component) specs (spec.Const constant) among)
