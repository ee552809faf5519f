-- Each name in the value of a constant tells where the constant is declared what it tells after waves.
use Rattle.std.proofs.Common.{◌≡◌, ◌⊎◌, inl, inr, Bool, true, false, not, ◌&&◌, ◌||◌, List, [], ◌∷◌, ◌++◌, Option, Some, None, refl, sym, ap, subst, ◌∙◌}
use Rattle.std.proofs.lemmas.Bool.{and_parts, false≢true}
use Rattle.sr_check.proofs.Each.{Each, each-left, each-right}
use Rattle.sr_check.proofs.Entered.{keeps_written}
use Rattle.sr_check_expr.specs.declared.facts.Facts.{Facts}
use Rattle.sr_check_expr.specs.declared.info.Info.{Info}
use Rattle.sr_check_expr.specs.declared.info.Info.TheVariants as info
use Rattle.sr_check_expr.specs.Infos.{info_at, name_spot}
use Rattle.sr_names.specs.declared.meaning.Decl.{Decl}
use Rattle.sr_names.specs.declared.meaning.Meaning.{Meaning}
use Rattle.sr_names.specs.declared.meaning.Meaning.TheVariants.{Declared, Predefined as MeansPredefined}
use Rattle.sr_names.specs.declared.meaning.Sort.{Sort}
use Rattle.sr_names.specs.declared.spot.Spot.{Spot}
use Rattle.sr_names.specs.Readings.{declaration}
use Rattle.sr_names.specs.Scopes.{is_usable}
use Rattle.sr_names.specs.Sorts.{needs_order}
use Rattle.sr_names.specs.Spots.{same_spot, spot_before, spot_of}
use Rattle.sr_names.specs.Uses.{meaning_at}
use Rattle.sr_order.specs.Names.{const_names, expr_names, type_names, where_some}
use Rattle.sr_scope.proofs.OwnNames.{own_names}
use Rattle.sr_scope.specs.Components.{decl_of}
use Rattle.sr_scope.specs.Uses.{IsIn}
use Rattle.sr_tables.specs.Parts.{component_spot, components_in, spot_named}
use Rattle.sr_tree.specs.declared.component.Component.{Component}
use Rattle.sr_tree.specs.declared.component.File.{File}
use Rattle.sr_tree.specs.declared.declaration.ConstDecl.{ConstDecl}
use Rattle.sr_tree.specs.declared.name.Name.{Name}
use Rattle.sr_types.specs.declared.ty.Ty.{Ty, out-Ty}
use Rattle.sr_types.specs.declared.ty.Ty.TheOpen.{Ty-F}
use Rattle.sr_value.specs.declared.place.Span.{Span}
use Rattle.sr_front.proofs.Constants.ConstantsThen.{StillFound, found_then, reading}
use Rattle.sr_front.proofs.Known.DeclaredThen.{ThenAt}
use Rattle.sr_front.proofs.Known.Lasting.{Away, Other, is_operation}
use Rattle.sr_front.proofs.Lists.Rising.{BeforeAll, IsBefore, away_after, before_away, before_other}
use Rattle.sr_front.proofs.Known.SameThen.{InfoThen, LayerThen, Lasted, WavedAt, WordThen, same_then, types_then}
use Rattle.sr_front.proofs.Names.Shares.{other_way}
use Rattle.sr_front.proofs.Constants.StaticExprs.{SameUses}
use Rattle.sr_front.proofs.Constants.StaticNames.{IsIdle, IsSound, SameDecl, SameMeaning, SameTypes, component_known, idle_known, name_told}
use Rattle.sr_front.proofs.Known.TypesBefore.{InfoBefore, Inv, LayerBefore, WordBefore}
use Rattle.sr_front.proofs.Names.UsableNames.{IsOutside}

-- a component is known
abbrev pub IsComponentInfo : Option Info → Type 0
IsComponentInfo (Some (info.Component ty)) = Unit {0}
IsComponentInfo one = ⊥

component_info : (found : Option Info) → IsComponentInfo found → (ty : Ty) × (found ≡ Some (info.Component ty))
component_info (Some (info.Component ty)) h = (ty, refl)
component_info _ h = absurd h

-- `Outer spot`: a name outside of code stands there
module _ (files : List File) (components : List Span) (Fits : Spot → Info → Type 0) (Outer : Spot → Type 0) (last end : Facts) where
  -- a word of an enumeration that is declared outside of code
  abbrev pub Word : Spot → Type 0
  Word spot = Away spot components × ((is_operation (info_at last.infos spot) ≡ false) × Outer spot)

  -- what is known at the end of what is declared outside of code
  pub record Ends : Type 0 where
    pub waved : (now : Facts) (spot : Spot) → Outer spot → WavedAt now last end spot
    pub sound : (spot : Spot) → IsSound (info_at last.infos spot)
    pub outer : (component : Component) → IsIn component (components_in files) → (one : Sort × Name) → IsIn one (own_names component) → Outer (spot_named one.1)
    pub away : (component : Component) → IsIn component (components_in files) → (one : Sort × Name) → IsIn one (own_names component) → Away (spot_named one.1) components
    pub idle : (component : Component) → IsIn component (components_in files) → (one : Sort × Name) → IsIn one (own_names component) → needs_order one.0 ≡ false → IsIdle (info_at end.infos (spot_named one.1))
    pub known : (component : Component) → IsIn component (components_in files) → IsComponentInfo (info_at end.infos (component_spot component))

  module _ (ends : Ends) (in_spec : Bool) (constant : ConstDecl) (declared : ThenAt (Inv Word Fits) components last in_spec constant)
      (known : (component : Component) → IsIn component (components_in files) → IsComponentInfo (info_at declared.now.infos (component_spot component))) where
    abbrev name : Spot
    name = spot_of constant.name.span

    abbrev here : Facts
    here = reading (Inv Word Fits) components last in_spec constant declared

    same_infos : here.infos ≡ declared.now.infos
    same_infos = keeps_written (λ facts. facts.infos ≡ declared.now.infos) (λ facts signature h. h) constant.ty declared.now refl

    same_at : (spot : Spot) → info_at here.infos spot ≡ info_at declared.now.infos spot
    same_at spot = ap (λ infos. info_at infos spot) same_infos

    lasted_by : (spot : Spot) → StillFound spot (info_at declared.now.infos spot) last → Lasted here last end spot
    lasted_by spot (inl h) = inl (h ∙ sym (same_at spot))
    lasted_by spot (inr operation) = inr operation

    lasted : (spot : Spot) → Away spot components → Away spot declared.after → Other spot name → Lasted here last end spot
    lasted spot named after apart = lasted_by spot (found_then (Inv Word Fits) components last in_spec constant declared spot named after apart)

    -- ---- words

    abbrev following : List Span
    following = const_names constant ++ declared.after

    after_only : (spot : Spot) → BeforeAll spot following → BeforeAll spot declared.after
    after_only spot before = each-right (λ span. IsBefore spot (spot_of span)) (where_some type_names constant.ty ++ expr_names constant.value) declared.after before.1

    word_then : (spot : Spot) → WordBefore Word following spot → WordThen here last end spot
    word_then spot word = record {
      lasted = lasted spot word.1.0 (before_away spot declared.after (after_only spot word.0)) (before_other spot name word.0.0);
      none = word.1.1.0;
      waved = ends.waved here spot word.1.1.1;
    }

    layer_words : (layer : Ty-F Ty) → LayerBefore Word following layer → LayerThen here last end layer
    layer_words (Ty-F.Enum spot) word = word_then (name_spot spot) word
    layer_words _ word = tt

    info_words : (decl : Decl) (one : Info) → InfoBefore Word following decl.spot one → InfoThen here last end decl one
    info_words decl (info.«Type» ty) word = layer_words (out-Ty ty) word
    info_words decl (info.Enumeration number literals) word = word_then decl.spot word
    info_words decl _ word = tt

    operation_types : (decl : Decl) (one : Info) → is_operation (Some one) ≡ true → SameTypes here end decl (Some one)
    operation_types decl (info.«Type» ty) h = absurd (false≢true h)
    operation_types decl (info.Enumeration number literals) h = absurd (false≢true h)
    operation_types decl (info.Record fields) h = absurd (false≢true h)
    operation_types decl _ h = tt

    types_at : (decl : Decl) → Lasted here last end decl.spot → (one : Info) → info_at last.infos decl.spot ≡ Some one → SameTypes here end decl (Some one)
    types_at decl (inl same) one is = types_then here last end decl one (info_words decl one (declared.inv decl.spot one (sym (same_at decl.spot) ∙ sym same ∙ is)).0.1)
    types_at decl (inr operation) one is = operation_types decl one (sym (ap is_operation is) ∙ operation)

    -- ---- names

    abbrev AwayAfter : Span → Type 0
    AwayAfter used = (spot : Spot) → spot_before spot (spot_of used) ≡ true → Away spot declared.after

    away_each : Each AwayAfter (expr_names constant.value)
    away_each = each-right AwayAfter (where_some type_names constant.ty) (expr_names constant.value) (away_after [] (const_names constant) declared.after declared.rises).1

    not_true : (b : Bool) → not b ≡ true → b ≡ false
    not_true true h = absurd (false≢true h)
    not_true false h = refl

    -- what has to stand before it is usable does, and isn't the constant itself
    usable_parts : (at : Spot) (decl : Decl) → needs_order decl.sort ≡ true → is_usable (Some name) at decl ≡ true → (spot_before decl.spot at ≡ true) × (Other decl.spot name)
    usable_parts at decl needs usable =
        let both = and_parts (spot_before decl.spot at) (not (same_spot name decl.spot))
        (sym (ap (λ b. not b || (spot_before decl.spot at && not (same_spot name decl.spot))) needs) ∙ usable) in
        (both.0, other_way name decl.spot (not_true (same_spot name decl.spot) both.1))

    ordered_same : (decl : Decl) → Outer decl.spot → Away decl.spot components → Away decl.spot declared.after → Other decl.spot name → SameDecl here end decl
    ordered_same decl outer named after apart =
        let last_so = lasted decl.spot named after apart in
        same_then here last end decl last_so (ends.waved here decl.spot outer) (ends.sound decl.spot) (types_at decl last_so)

    own_same : (used : Span) → AwayAfter used → (component : Component) → IsIn component (components_in files) → (one : Sort × Name) → IsIn one (own_names component)
        → is_usable (Some name) (spot_of used) (declaration one.0 one.1.span) ≡ true → SameDecl here end (declaration one.0 one.1.span)
    own_same used after component there one among usable = by (needs_order one.0) refl
      where
        by : (b : Bool) → needs_order one.0 ≡ b → SameDecl here end (declaration one.0 one.1.span)
        by true needs =
            let parts = usable_parts (spot_of used) (declaration one.0 one.1.span) needs usable in
            ordered_same (declaration one.0 one.1.span) (ends.outer component there one among) (ends.away component there one among) (after (spot_named one.1) parts.0) parts.1
        by false none = idle_known (ends.idle component there one among none)

    component_same : (component : Component) → IsIn component (components_in files) → SameDecl here end (decl_of component)
    component_same component there =
        let first = component_info (info_at declared.now.infos (component_spot component)) (known component there) in
        let second = component_info (info_at end.infos (component_spot component)) (ends.known component there) in
        component_known first.0 second.0 (same_at (component_spot component) ∙ first.1) second.1

    decl_same : (used : Span) → AwayAfter used → (decl : Decl) → IsOutside files decl → is_usable (Some name) (spot_of used) decl ≡ true → SameDecl here end decl
    decl_same used after decl outside usable = by outside.is
      where
        by : (decl ≡ decl_of outside.component) ⊎ ((one : Sort × Name) × IsIn one (own_names outside.component) × (decl ≡ declaration one.0 one.1.span)) → SameDecl here end decl
        by (inl same) = subst (λ one. SameDecl here end one) (sym same) (component_same outside.component outside.there)
        by (inr own) =
            subst (λ one. SameDecl here end one) (sym own.2)
            (own_same used after outside.component outside.there own.0 own.1 (subst (λ one. is_usable (Some name) (spot_of used) one ≡ true) own.2 usable))

    -- what names in the value mean is outside of code and usable there
    abbrev pub AreRight : Type 0
    AreRight = (used : Span) → IsIn used (const_names constant) → (decl : Decl) → meaning_at end.uses (spot_of used) ≡ Some (Declared decl)
        → IsOutside files decl × (is_usable (Some name) (spot_of used) decl ≡ true)

    meaning_same : AreRight → (used : Span) → IsIn used (const_names constant) → AwayAfter used → SameMeaning here end (meaning_at end.uses (spot_of used))
    meaning_same right used k after = by (meaning_at end.uses (spot_of used)) refl
      where
        by : (meaning : Option Meaning) → meaning_at end.uses (spot_of used) ≡ meaning → SameMeaning here end meaning
        by None is = tt
        by (Some (MeansPredefined one)) is = tt
        by (Some (Declared decl)) is = let so = right used k decl is in decl_same used after decl so.0 so.1

    uses_same : AreRight → here.uses ≡ end.uses → (names : List Span) → ((used : Span) → IsIn used names → IsIn used (const_names constant)) → Each AwayAfter names → SameUses here end names
    uses_same right uses [] among after = tt
    uses_same right uses (used ∷ names) among after = (
      name_told here end uses used (meaning_same right used (among used (inl refl)) after.0),
      uses_same right uses names (λ other k. among other (inr k)) after.1,
    )

    in_value : (types values : List Span) (used : Span) → IsIn used values → IsIn used (types ++ values)
    in_value [] values used k = k
    in_value (span ∷ types) values used k = inr (in_value types values used k)

    in_types : (types values : List Span) (used : Span) → IsIn used types → IsIn used (types ++ values)
    in_types [] values used k = absurd k
    in_types (span ∷ types) values used (inl e) = inl e
    in_types (span ∷ types) values used (inr k) = inr (in_types types values used k)

    meanings_same : AreRight → (names : List Span) → ((used : Span) → IsIn used names → IsIn used (const_names constant)) → Each AwayAfter names → Each (λ used. SameMeaning here end (meaning_at end.uses (spot_of used))) names
    meanings_same right [] among after = tt
    meanings_same right (used ∷ names) among after = (meaning_same right used (among used (inl refl)) after.0, meanings_same right names (λ other k. among other (inr k)) after.1)

    -- the names in its type mean the same
    pub types_same : AreRight → Each (λ used. SameMeaning here end (meaning_at end.uses (spot_of used))) (where_some type_names constant.ty)
    types_same right =
        meanings_same right (where_some type_names constant.ty) (λ used k. inr (in_types (where_some type_names constant.ty) (expr_names constant.value) used k))
        (each-left AwayAfter (where_some type_names constant.ty) (expr_names constant.value) (away_after [] (const_names constant) declared.after declared.rises).1)

    -- so the names in the value tell the same
    pub value_same : AreRight → here.uses ≡ end.uses → SameUses here end (expr_names constant.value)
    value_same right uses = uses_same right uses (expr_names constant.value) (λ used k. inr (in_value (where_some type_names constant.ty) (expr_names constant.value) used k)) away_each
