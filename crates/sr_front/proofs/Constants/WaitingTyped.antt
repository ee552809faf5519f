-- What waits for its type gets one, where its value breaks no rule by all that is known before any statement is looked at: wave by wave, all that is known has a type.
use Rattle.std.proofs.Common.{◌≡◌, inl, inr, ℕ, suc, zero, Bool, true, false, not, List, [], ◌∷◌, length, Option, Some, None, is_some, refl, sym, ap, subst, ◌∙◌}
use Rattle.std.proofs.lemmas.Bool.{false≢true}
use Rattle.std.proofs.lemmas.Option.{none-some}
use Rattle.std.specs.List.{filter, list_all}
use Rattle.std.specs.Option.{option_and_then}
use Rattle.sr_check.specs.ErrorFree.{ErrorFree}
use Rattle.sr_check_decl.proofs.Tests.{and_parts, not_true}
use Rattle.sr_check_decl.specs.Constants.{type_of_value}
use Rattle.sr_check_decl.specs.Declaring.{standing}
use Rattle.sr_check_decl.specs.Inferring.{all_settled, can_settle, info_by, is_settled, settled, waiting_info, wave, waves}
use Rattle.sr_check_decl.specs.NamesIn.{is_declared, is_named_declared, is_ready, names_in}
use Rattle.sr_check_decl.specs.Variables.{declare}
use Rattle.sr_check_decl.specs.Waiting.{Waiting}
use Rattle.sr_check_expr.specs.declared.facts.Facts.{Facts}
use Rattle.sr_check_expr.specs.declared.info.Info.{Info}
use Rattle.sr_check_expr.specs.declared.info.Info.TheVariants as info
use Rattle.sr_check_expr.specs.Creating.{component_type}
use Rattle.sr_check_expr.specs.Exprs.{infer_expr}
use Rattle.sr_check_expr.specs.Infos.{info_at, name_spot}
use Rattle.sr_check_expr.specs.Naming.{decl_of, fields_of, operation_type}
use Rattle.sr_check_expr.specs.PredefinedCalls.{info_shape}
use Rattle.sr_check_expr.specs.Typings.{Typing, valued}
use Rattle.sr_names.specs.declared.meaning.Decl.{Decl}
use Rattle.sr_names.specs.declared.spot.Spot.{Spot}
use Rattle.sr_names.specs.Components.{member_named}
use Rattle.sr_names.specs.Spots.{spot_of}
use Rattle.sr_names.specs.Uses.{meaning_at}
use Rattle.sr_scope.specs.Uses.{IsIn}
use Rattle.sr_types.specs.declared.ty.Ty.{Ty}
use Rattle.sr_types.specs.declared.typed.Typed.{Typed}
use Rattle.sr_types.specs.Signatures.{signature_of}
use Rattle.sr_value.specs.declared.place.Span.{Span}
use Rattle.sr_front.proofs.Known.SameExprs.{Alike, SameNames, expr_same}
use Rattle.sr_front.proofs.Typed.Typed.{AllTyped, FoundTyped, IsTyped, typed_test}
use Rattle.sr_front.proofs.Typed.TypedCode.{AllSigned}
use Rattle.sr_front.proofs.Typed.PassingExprs.{value_passes}
use Rattle.sr_front.proofs.Lists.Put.{put_holds}
use Rattle.sr_front.proofs.Typed.TypedHalf.{Half, HalfTyped, half_put}
use Rattle.sr_front.proofs.Typed.TypedOps.{signed_is_typed}
use Rattle.sr_front.proofs.Constants.WavesSettle.{in_filter}

-- nothing, or a value
abbrev pub IsValue : Option Info → Type 0
IsValue None = Unit {0}
IsValue (Some (info.Value typed)) = Unit {0}
IsValue (Some one) = ⊥

-- what is known of the one is known of the other
abbrev pub Extends : Facts → Facts → Type 0
Extends before after = (spot : Spot) (one : Info) → info_at before.infos spot ≡ Some one → info_at after.infos spot ≡ Some one

-- besides what is known at first there are values alone
pub record Added (first facts : Facts) : Type 0 where
  pub uses : facts.uses ≡ first.uses
  pub specs : facts.specs ≡ first.specs
  pub signatures : facts.signatures ≡ first.signatures
  pub kept : Extends first facts
  pub values : (spot : Spot) → info_at first.infos spot ≡ None → IsValue (info_at facts.infos spot)

-- by what is known in the end its value breaks no rule, and isn't of nothing but `null` and `noop`
pub record IsFine (end : Facts) (waiting : Waiting) : Type 0 where
  pub whole : ErrorFree (valued (infer_expr waiting.value (standing end waiting.component)))
  pub typed : IsTyped (infer_expr waiting.value (standing end waiting.component)).typed_expr.typed.ty → IsTyped (type_of_value (infer_expr waiting.value (standing end waiting.component)).typed_expr.typed.ty)

info_is_value : (is_constant in_spec : Bool) (value : Typed) → (typed : Typed) × (info_by is_constant in_spec value ≡ info.Value typed)
info_is_value true in_spec value = (_, refl)
info_is_value false in_spec value = (_, refl)

unknown_at : (before : Facts) (waiting : Waiting) → is_settled before waiting ≡ false → info_at before.infos waiting.spot ≡ None
unknown_at before waiting = by (info_at before.infos waiting.spot)
  where
    by : (found : Option Info) → is_some found ≡ false → found ≡ None
    by None h = refl
    by (Some one) h = absurd (false≢true (sym h))

-- what can be settled isn't known
can_unknown : (before : Facts) (waiting : Waiting) → can_settle before waiting ≡ true → info_at before.infos waiting.spot ≡ None
can_unknown before waiting can = unknown_at before waiting (not_true (is_settled before waiting) (and_parts (not (is_settled before waiting)) _ can).0)

module _ (first : Facts) where
  pub added_first : Added first first
  added_first = record { uses = refl; specs = refl; signatures = refl; kept = λ spot one is. is; values = λ spot none. subst IsValue (sym none) tt }

  extends_with : (before facts : Facts) (at : Spot) (one : Info) → info_at before.infos at ≡ None → Extends before facts → Extends before (declare facts at one)
  extends_with before facts at one none extends spot known is =
      put_holds facts at one (λ other found. info_at before.infos other ≡ Some known → found ≡ Some known) (λ there. absurd (none-some known (sym none ∙ there))) spot (λ apart there. extends spot known there) is

  pub added_with : (facts : Facts) (at : Spot) (typed : Typed) → info_at first.infos at ≡ None → Added first facts → Added first (declare facts at (info.Value typed))
  added_with facts at typed none added = record {
    uses = added.uses;
    specs = added.specs;
    signatures = added.signatures;
    kept = extends_with first facts at (info.Value typed) none added.kept;
    values = λ spot nothing. put_holds facts at (info.Value typed) (λ other. IsValue) tt spot (λ apart. added.values spot nothing);
  }

  unknown_first : (before : Facts) → Added first before → (spot : Spot) → info_at before.infos spot ≡ None → info_at first.infos spot ≡ None
  unknown_first before added spot none = by (info_at first.infos spot) refl
    where
      by : (found : Option Info) → info_at first.infos spot ≡ found → info_at first.infos spot ≡ None
      by None is = is
      by (Some one) is = absurd (none-some one (sym none ∙ added.kept spot one is))

  -- what is settled is a value
  added_one : (facts : Facts) (waiting : Waiting) → info_at first.infos waiting.spot ≡ None → Added first facts → Added first (settled facts waiting)
  added_one facts waiting none added =
      let value = info_is_value waiting.is_constant waiting.in_spec (infer_expr waiting.value (standing facts waiting.component)).typed_expr.typed in
      subst (λ (it : Info). Added first (declare facts waiting.spot it)) (sym value.1) (added_with facts waiting.spot value.0 none added)

  added_all : (some : List Waiting) (before facts : Facts) → Added first before → ((waiting : Waiting) → IsIn waiting some → can_settle before waiting ≡ true) → Added first facts → Added first (all_settled some facts)
  added_all [] before facts start can added = added
  added_all (waiting ∷ some) before facts start can added =
      added_all some before (settled facts waiting) start (λ other k. can other (inr k))
      (added_one facts waiting (unknown_first before start waiting.spot (can_unknown before waiting (can waiting (inl refl)))) added)

  pub added_waves : (all : List Waiting) (n : ℕ) (facts : Facts) → Added first facts → Added first (waves n all facts)
  added_waves all zero facts added = added
  added_waves all (suc n) facts added =
      added_waves all n (wave all facts) (added_all (filter (can_settle facts) all) facts facts added (λ waiting k. (in_filter (can_settle facts) all waiting k).1) added)

  -- ---- what facts with more values tell the same

  module _ {A : Type 0} (tell : Option Info → A) (value : (typed : Typed) → tell (Some (info.Value typed)) ≡ tell None) where
    quiet : (found : Option Info) → IsValue found → tell found ≡ tell None
    quiet None h = refl
    quiet (Some (info.Value typed)) h = value typed
    quiet (Some _) h = absurd h

    told : (facts : Facts) → Added first facts → (spot : Spot) → tell (info_at facts.infos spot) ≡ tell (info_at first.infos spot)
    told facts added spot = by (info_at first.infos spot) refl
      where
        by : (found : Option Info) → info_at first.infos spot ≡ found → tell (info_at facts.infos spot) ≡ tell (info_at first.infos spot)
        by None is = quiet (info_at facts.infos spot) (added.values spot is) ∙ ap tell (sym is)
        by (Some one) is = ap tell (added.kept spot one is ∙ sym is)

    same_told : (now end : Facts) → Added first now → Added first end → (spot : Spot) → tell (info_at now.infos spot) ≡ tell (info_at end.infos spot)
    same_told now end a b spot = told now a spot ∙ sym (told end b spot)

  abbrev Any : Ty → Type 0
  Any type = Unit {0}

  member_same : (now end : Facts) → Added first now → Added first end → (found : Option Decl)
      → option_and_then (λ (decl : Decl). option_and_then operation_type (info_at now.infos decl.spot)) found ≡ option_and_then (λ (decl : Decl). option_and_then operation_type (info_at end.infos decl.spot)) found
  member_same now end a b None = refl
  member_same now end a b (Some decl) = same_told (option_and_then operation_type) (λ typed. refl) now end a b decl.spot

  pub added_alike : (now end : Facts) (component : Decl) → Added first now → Added first end → Alike Any (standing now component) (standing end component)
  added_alike now end component a b = record {
    uses = a.uses ∙ sym b.uses;
    here = refl;
    fields = λ spot. same_told fields_of (λ typed. refl) now end a b (name_spot spot);
    shapes = λ spot. same_told info_shape (λ typed. refl) now end a b (name_spot spot);
    operations = λ spot name.
        ap (λ specs. option_and_then (λ (decl : Decl). option_and_then operation_type (info_at now.infos decl.spot)) (member_named specs (name_spot spot) name)) (a.specs ∙ sym b.specs)
        ∙ member_same now end a b (member_named end.specs (name_spot spot) name);
    components = λ decl. same_told component_type (λ typed. refl) now end a b decl.spot;
    signatures = λ type numbered. ap (λ signatures. signature_of signatures type) (a.signatures ∙ sym b.signatures);
    numbered = λ tree. tt;
    made = λ resource type is. tt;
  }

  -- ---- names that are ready

  ready_at : (names : List Span) (before : Facts) → list_all (is_named_declared before) names ≡ true → (used : Span) → IsIn used names → is_named_declared before used ≡ true
  ready_at [] before ready used k = absurd k
  ready_at (name ∷ names) before ready used (inl e) = ap (is_named_declared before) (sym e) ∙ (and_parts (is_named_declared before name) _ ready).0
  ready_at (name ∷ names) before ready used (inr k) = ready_at names before (and_parts (is_named_declared before name) _ ready).1 used k

  -- what is known where a wave begins is known of both
  pub ready_same : (before now end : Facts) (component : Decl) (a : Added first now) (b : Added first end) → before.uses ≡ now.uses → Extends before now → Extends before end → (names : List Span) → list_all (is_named_declared before) names ≡ true
      → SameNames Any (standing now component) (standing end component) (added_alike now end component a b) names
  ready_same before now end component a b uses in_now in_end names ready used k decl means = by (info_at before.infos decl.spot) refl known
    where
      known : is_some (info_at before.infos decl.spot) ≡ true
      known = ap (λ meaning. is_declared before (decl_of meaning)) (sym (ap (λ meanings. meaning_at meanings (spot_of used)) uses ∙ means)) ∙ ready_at names before ready used k

      by : (found : Option Info) → info_at before.infos decl.spot ≡ found → is_some found ≡ true → info_at now.infos decl.spot ≡ info_at end.infos decl.spot
      by None is h = absurd (false≢true h)
      by (Some one) is h = in_now decl.spot one is ∙ sym (in_end decl.spot one is)

  -- ---- all that is known has a type

  module _ (all : List Waiting) (end : Facts) (added_end : Added first end) (signed : AllSigned end) where
    operation_at : (facts : Facts) → Added first facts → (spot : Spot) (type : Ty) (component : Spot) (is_local : Bool) → info_at facts.infos spot ≡ Some (info.Operation type component is_local)
        → info_at end.infos spot ≡ Some (info.Operation type component is_local)
    operation_at facts added spot type component is_local is = by (info_at first.infos spot) refl
      where
        by : (found : Option Info) → info_at first.infos spot ≡ found → info_at end.infos spot ≡ Some (info.Operation type component is_local)
        by None none = absurd (subst IsValue is (added.values spot none))
        by (Some one) at = added_end.kept spot one at ∙ (sym (added.kept spot one at) ∙ is)

    half_found : (facts : Facts) → Added first facts → (spot : Spot) (found : Option Info) → info_at facts.infos spot ≡ found → HalfTyped found → FoundTyped found
    half_found facts added spot None is h = tt
    half_found facts added spot (Some (info.Enumeration number literals)) is h = tt
    half_found facts added spot (Some (info.Operation type component is_local)) is h =
        signed_is_typed end type (signed spot type component is_local (operation_at facts added spot type component is_local is))
    half_found facts added spot (Some (info.Component type)) is h = tt
    half_found facts added spot (Some _) is h = h

    pub half_all : (facts : Facts) (component : Decl) → Added first facts → Half facts → AllTyped (standing facts component)
    half_all facts component added half = record {
      infos = λ spot. half_found facts added spot (info_at facts.infos spot) refl (half.infos spot);
      signatures = half.signatures;
    }

    info_typed : (is_constant in_spec : Bool) (value : Typed) → IsTyped (type_of_value value.ty) → HalfTyped (Some (info_by is_constant in_spec value))
    info_typed true in_spec value h = (h, λ place. absurd (false≢true place))
    info_typed false in_spec value h = (h, λ place. refl)

    waiting_typed : (before facts : Facts) (waiting : Waiting) → Added first facts → Half facts → before.uses ≡ facts.uses → Extends before facts → Extends before end → is_ready before waiting.value ≡ true → IsFine end waiting
        → HalfTyped (Some (waiting_info (standing facts waiting.component) waiting))
    waiting_typed before facts waiting added half uses in_now in_end ready fine =
        let here = standing facts waiting.component in
        let same : infer_expr waiting.value here ≡ infer_expr waiting.value (standing end waiting.component) =
        expr_same Any here (standing end waiting.component) (added_alike facts end waiting.component added added_end) waiting.value
        (ready_same before facts end waiting.component added added_end uses in_now in_end (names_in waiting.value) ready) in
        let typed = value_passes typed_test here (half_all facts waiting.component added half) waiting.value (subst (λ (typing : Typing). ErrorFree (valued typing)) (sym same) fine.whole) in
        info_typed waiting.is_constant waiting.in_spec (infer_expr waiting.value here).typed_expr.typed
        (subst (λ (typing : Typing). IsTyped (type_of_value typing.typed_expr.typed.ty)) (sym same) (fine.typed (subst (λ (typing : Typing). IsTyped typing.typed_expr.typed.ty) same typed)))

    -- what is known within a wave
    pub record Within (before facts : Facts) : Type 0 where
      pub added : Added first facts
      pub half : Half facts
      pub uses : before.uses ≡ facts.uses
      pub extends : Extends before facts

    settled_within : (before facts : Facts) (waiting : Waiting) → info_at before.infos waiting.spot ≡ None → info_at first.infos waiting.spot ≡ None → Extends before end → is_ready before waiting.value ≡ true → IsFine end waiting
        → Within before facts → Within before (settled facts waiting)
    settled_within before facts waiting none none_first in_end ready fine within =
        let one = waiting_info (standing facts waiting.component) waiting in
        record {
          added = added_one facts waiting none_first within.added;
          half = half_put facts waiting.spot one (waiting_typed before facts waiting within.added within.half within.uses within.extends in_end ready fine) within.half;
          uses = within.uses;
          extends = extends_with before facts waiting.spot one none within.extends;
        }

    module _ (fine : (waiting : Waiting) → IsIn waiting all → IsFine end waiting) where
      -- one that can be settled where the wave begins
      abbrev Can : Facts → Waiting → Type 0
      Can before waiting = IsIn waiting all × (can_settle before waiting ≡ true)

      within_all : (some : List Waiting) (before facts : Facts) → Added first before → ((waiting : Waiting) → IsIn waiting some → Can before waiting) → Extends before end → Within before facts → Within before (all_settled some facts)
      within_all [] before facts added can in_end within = within
      within_all (waiting ∷ some) before facts added can in_end within =
          let here = can waiting (inl refl) in
          let none = can_unknown before waiting here.1 in
          within_all some before (settled facts waiting) added (λ other k. can other (inr k)) in_end
          (settled_within before facts waiting none (unknown_first before added waiting.spot none) in_end (and_parts (not (is_settled before waiting)) _ here.1).1 (fine waiting here.0) within)

      extends_all : (some : List Waiting) (before facts : Facts) → ((waiting : Waiting) → IsIn waiting some → can_settle before waiting ≡ true) → Extends before facts → Extends before (all_settled some facts)
      extends_all [] before facts can extends = extends
      extends_all (waiting ∷ some) before facts can extends =
          extends_all some before (settled facts waiting) (λ other k. can other (inr k))
          (extends_with before facts waiting.spot _ (can_unknown before waiting (can waiting (inl refl))) extends)

      can_in : (before : Facts) (waiting : Waiting) → IsIn waiting (filter (can_settle before) all) → Can before waiting
      can_in before waiting k = in_filter (can_settle before) all waiting k

      extends_wave : (facts : Facts) → Extends facts (wave all facts)
      extends_wave facts = extends_all (filter (can_settle facts) all) facts facts (λ waiting k. (can_in facts waiting k).1) (λ spot one is. is)

      extends_waves : (n : ℕ) (facts : Facts) → Extends facts (waves n all facts)
      extends_waves zero facts spot one is = is
      extends_waves (suc n) facts spot one is = extends_waves n (wave all facts) spot one (extends_wave facts spot one is)

      half_waves : (n : ℕ) (facts : Facts) → waves n all facts ≡ end → Added first facts → Half facts → Half (waves n all facts)
      half_waves zero facts is added half = half
      half_waves (suc n) facts is added half =
          let in_end : Extends facts end = subst (Extends facts) is (extends_waves (suc n) facts) in
          let after = within_all (filter (can_settle facts) all) facts facts added (can_in facts) in_end (record { added = added; half = half; uses = refl; extends = λ spot one h. h }) in
          half_waves n (wave all facts) is after.added after.half

-- after all waves all that is known has a type
pub half_inferred : (all : List Waiting) (first : Facts) → AllSigned (waves (length all) all first) → ((waiting : Waiting) → IsIn waiting all → IsFine (waves (length all) all first) waiting) → Half first → Half (waves (length all) all first)
half_inferred all first signed fine half =
    half_waves first all (waves (length all) all first) (added_waves first all (length all) first (added_first first)) signed fine (length all) first refl (added_first first) half
