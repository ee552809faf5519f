-- Where a component is checked, facts tell the same of names outside of code as before any statement is looked at.
use Rattle.std.proofs.Common.{◌≡◌, ℕ, Bool, true, List, Option, Some, None, is_some, refl, sym, ap, subst, ◌∙◌}
use Rattle.std.proofs.lemmas.Bool.{false≢true}
use Rattle.std.specs.Option.{option_and_then}
use Rattle.sr_check_decl.specs.Declaring.{standing}
use Rattle.sr_check_decl.specs.Variables.{declare}
use Rattle.sr_check_expr.specs.declared.facts.Facts.{Facts}
use Rattle.sr_check_expr.specs.declared.info.Info.{Info}
use Rattle.sr_check_expr.specs.declared.info.Info.TheVariants as info
use Rattle.sr_check_expr.specs.Creating.{component_type, resource_type}
use Rattle.sr_check_expr.specs.Exprs.{infer_expr}
use Rattle.sr_check_expr.specs.Infos.{info_at, name_spot}
use Rattle.sr_check_expr.specs.Naming.{fields_of, operation_type}
use Rattle.sr_check_expr.specs.PredefinedCalls.{info_shape}
use Rattle.sr_names.specs.declared.meaning.Decl.{Decl}
use Rattle.sr_names.specs.declared.meaning.Meaning.TheVariants.{Declared}
use Rattle.sr_names.specs.declared.spot.Spot.{Spot}
use Rattle.sr_names.specs.Components.{member_named}
use Rattle.sr_names.specs.Spots.{spot_of}
use Rattle.sr_names.specs.Uses.{meaning_at}
use Rattle.sr_scope.specs.Uses.{IsIn}
use Rattle.sr_tree.specs.declared.expr.Expr.{Expr as Tree}
use Rattle.sr_types.specs.declared.signature.Signature.{Signature}
use Rattle.sr_types.specs.declared.spot.Spot as types
use Rattle.sr_types.specs.declared.ty.Ty.{Ty, out-Ty}
use Rattle.sr_types.specs.declared.ty.Ty.TheOpen.{Ty-F}
use Rattle.sr_types.specs.declared.typed.Typed.{Typed}
use Rattle.sr_types.specs.Signatures.{layer_signature, signature_at}
use Rattle.sr_value.specs.declared.place.Span.{Span}
use Rattle.sr_front.proofs.Known.InfosStay.{Fresh, Reads, Steady, same_elsewhere}
use Rattle.sr_front.proofs.Known.KeptNames.{Anywhere, all_fit}
use Rattle.sr_front.proofs.Known.Leading.{Leads, leads_on}
use Rattle.sr_front.proofs.Lists.Put.{put_holds}
use Rattle.sr_front.proofs.Known.SameExprs.{Alike, SameNames}

-- nothing, a value or an operation
abbrev IsQuiet : Option Info → Type 0
IsQuiet None = Unit {0}
IsQuiet (Some (info.Value typed)) = Unit {0}
IsQuiet (Some (info.Operation type component is_local)) = Unit {0}
IsQuiet (Some one) = ⊥

module _ (spot : Spot) where
  abbrev QuietAt : Facts → Type 0
  QuietAt facts = IsQuiet (info_at facts.infos spot)

  quiet_with : (facts : Facts) (at : Spot) (one : Info) → IsQuiet (Some one) → QuietAt facts → QuietAt (declare facts at one)
  quiet_with facts at one quiet h = put_holds facts at one (λ other. IsQuiet) quiet spot (λ apart. h)

  quiet_steady : Steady QuietAt Anywhere Anywhere
  quiet_steady = record {
    closed = record {
      entered = λ facts signature h. h;
      put = λ facts at typed free h. quiet_with facts at (info.Value typed) tt h;
      operation = λ facts at ty component is_local fit h. quiet_with facts at (info.Operation ty component is_local) tt h;
    };
    standing = λ facts component h. h;
  }

quiet : {A : Type 0} (tell : Option Info → A) → ((typed : Typed) → tell (Some (info.Value typed)) ≡ tell None)
    → ((type : Ty) (component : Spot) (is_local : Bool) → tell (Some (info.Operation type component is_local)) ≡ tell None) → (found : Option Info) → IsQuiet found → tell found ≡ tell None
quiet tell value operation None h = refl
quiet tell value operation (Some (info.Value typed)) h = value typed
quiet tell value operation (Some (info.Operation type component is_local)) h = operation type component is_local
quiet tell value operation (Some _) h = absurd h

-- a type of operations has a signature in a table
abbrev pub LayerHas : List Signature → Ty-F Ty → Type 0
LayerHas table (Ty-F.Op number) = is_some (signature_at table number) ≡ true
LayerHas table _ = Unit {0}

-- what the facts before code is read tell
pub record Telling (Numbered : Ty → Type 0) (first : Facts) : Type 0 where
  pub has : (type : Ty) → Numbered type → LayerHas first.signatures (out-Ty type)
  pub numbered : (tree : Tree) → Numbered (infer_expr tree first).typed_expr.typed.ty
  pub made : (resource : Option Decl) (type : Ty) → resource_type first.infos resource ≡ Some type → Numbered type
  pub members : (spot : types.Spot) (name : List ℕ) (decl : Decl) → member_named first.specs (name_spot spot) name ≡ Some decl → is_some (info_at first.infos decl.spot) ≡ true

module _ (names : List Span) (first facts : Facts) (reads : Reads names first facts) (fresh : Fresh names first) where
  known_kept : (spot : Spot) (one : Info) → info_at first.infos spot ≡ Some one → info_at facts.infos spot ≡ Some one
  known_kept spot one is = same_elsewhere names first facts reads spot (fresh spot one is) ∙ is

  quiet_after : (spot : Spot) → info_at first.infos spot ≡ None → IsQuiet (info_at facts.infos spot)
  quiet_after spot none = reads (QuietAt spot) Anywhere (quiet_steady spot) (all_fit (λ span. spot_of span) names) (subst IsQuiet (sym none) tt)

  told : {A : Type 0} (tell : Option Info → A) → ((found : Option Info) → IsQuiet found → tell found ≡ tell None) → (spot : Spot) → tell (info_at first.infos spot) ≡ tell (info_at facts.infos spot)
  told tell same spot = by (info_at first.infos spot) refl
    where
      by : (found : Option Info) → info_at first.infos spot ≡ found → tell (info_at first.infos spot) ≡ tell (info_at facts.infos spot)
      by None is = ap tell is ∙ sym (same (info_at facts.infos spot) (quiet_after spot is))
      by (Some one) is = ap tell (is ∙ sym (known_kept spot one is))

  -- where something is known, it is known after
  known_same : (spot : Spot) → is_some (info_at first.infos spot) ≡ true → info_at first.infos spot ≡ info_at facts.infos spot
  known_same spot known = by (info_at first.infos spot) refl known
    where
      by : (found : Option Info) → info_at first.infos spot ≡ found → is_some found ≡ true → info_at first.infos spot ≡ info_at facts.infos spot
      by None is h = absurd (false≢true h)
      by (Some one) is h = is ∙ sym (known_kept spot one is)

  leads : Leads first facts
  leads = leads_on names first facts reads

  at_number : (number : ℕ) → is_some (signature_at first.signatures number) ≡ true → signature_at first.signatures number ≡ signature_at facts.signatures number
  at_number number = by (signature_at first.signatures number) refl
    where
      by : (found : Option Signature) → signature_at first.signatures number ≡ found → is_some found ≡ true → found ≡ signature_at facts.signatures number
      by None is h = absurd (false≢true h)
      by (Some signature) is h = sym (leads.signatures number signature is)

  layer_same : (layer : Ty-F Ty) → LayerHas first.signatures layer → layer_signature first.signatures layer ≡ layer_signature facts.signatures layer
  layer_same (Ty-F.Op number) has = at_number number has
  layer_same _ has = refl

  module _ (component : Decl) (Numbered : Ty → Type 0) (telling : Telling Numbered (standing first component)) where
    member_same : (spot : types.Spot) (name : List ℕ) (found : Option Decl) → member_named first.specs (name_spot spot) name ≡ found
        → option_and_then (λ (decl : Decl). option_and_then operation_type (info_at first.infos decl.spot)) found ≡ option_and_then (λ (decl : Decl). option_and_then operation_type (info_at facts.infos decl.spot)) found
    member_same spot name None is = refl
    member_same spot name (Some decl) is = ap (option_and_then operation_type) (known_same decl.spot (telling.members spot name decl is))

    -- they tell the same
    pub inside_alike : (standing first component).here ≡ facts.here → Alike Numbered (standing first component) facts
    inside_alike here = record {
      uses = leads.uses;
      here = here;
      fields = λ spot. told fields_of (quiet fields_of (λ typed. refl) (λ type component is_local. refl)) (name_spot spot);
      shapes = λ spot. told info_shape (quiet info_shape (λ typed. refl) (λ type component is_local. refl)) (name_spot spot);
      operations = λ spot name.
          member_same spot name (member_named first.specs (name_spot spot) name) refl
          ∙ ap (λ specs. option_and_then (λ (decl : Decl). option_and_then operation_type (info_at facts.infos decl.spot)) (member_named specs (name_spot spot) name)) leads.specs;
      components = λ decl. told component_type (quiet component_type (λ typed. refl) (λ type component is_local. refl)) decl.spot;
      signatures = λ type numbered. layer_same (out-Ty type) (telling.has type numbered);
      numbered = telling.numbered;
      made = telling.made;
    }

    -- of names that mean what is known
    pub inside_names : (here : (standing first component).here ≡ facts.here) (used : List Span) → ((span : Span) → IsIn span used → (decl : Decl) → meaning_at first.uses (spot_of span) ≡ Some (Declared decl) → is_some (info_at first.infos decl.spot) ≡ true)
        → SameNames Numbered (standing first component) facts (inside_alike here) used
    inside_names here used known span k decl means = known_same decl.spot (known span k decl means)
