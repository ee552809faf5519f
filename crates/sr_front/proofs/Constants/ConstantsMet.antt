-- The constants in the specs of an accepted program are static in the end, where their values have types and their types are the same where they are declared.
use Rattle.std.proofs.Common.{◌≡◌, true, false, List, flat_map, map, Some, None, Ok, is_some, refl, sym, ap, subst, ◌∙◌}
use Rattle.std.proofs.lemmas.Bool.{false≢true}
use Rattle.std.specs.List.{IsDistinct}
use Rattle.std.specs.Option.{option_and_then}
use Rattle.sr_check.specs.Checked.{first_refused}
use Rattle.sr_check.specs.Components.{components_read}
use Rattle.sr_check_decl.specs.Constants.{const_of, has_type_of, is_static, written_kind}
use Rattle.sr_check_decl.specs.Inferring.{program_known}
use Rattle.sr_check_expr.specs.declared.facts.Facts.{Facts}
use Rattle.sr_check_expr.specs.declared.info.Info.TheVariants as info
use Rattle.sr_check_expr.specs.Exprs.{infer_expr}
use Rattle.sr_check_expr.specs.Infos.{info_at}
use Rattle.sr_check_expr.specs.Meanings.{info_constant, is_constant, known as known_value}
use Rattle.sr_names.specs.declared.meaning.Sort.TheVariants.{Resource as resource_sort}
use Rattle.sr_names.specs.declared.spot.Spot.{Spot}
use Rattle.sr_names.specs.Noted.{Meanings}
use Rattle.sr_names.specs.Specs.{Specs}
use Rattle.sr_names.specs.Spots.{same_spot, spot_of}
use Rattle.sr_order.specs.Names.{file_names}
use Rattle.sr_scope.specs.declared.program.Names.{Names}
use Rattle.sr_scope.specs.Components.{sort_of}
use Rattle.sr_scope.specs.Resolved.{resolved}
use Rattle.sr_scope.specs.Uses.{IsIn}
use Rattle.sr_tables.specs.Parts.{component_spot, components_in, spot_named}
use Rattle.sr_tree.specs.declared.component.Component.{Component}
use Rattle.sr_tree.specs.declared.component.File.{File}
use Rattle.sr_tree.specs.declared.component.SpecItem.TheVariants as spec
use Rattle.sr_tree.specs.declared.declaration.ConstDecl.{ConstDecl}
use Rattle.sr_tree.specs.Parts.{spec_of}
use Rattle.sr_types.specs.declared.typed.Static.{Static}
use Rattle.sr_types.specs.declared.typed.Static.TheVariants.{Known}
use Rattle.sr_types.specs.declared.typed.Typed.{Typed}
use Rattle.sr_types.specs.Types.{is_no_type}
use Rattle.sr_value.specs.declared.place.Span.{Span}
use Rattle.sr_front.proofs.Constants.ConstantNames.{Ends, IsComponentInfo}
use Rattle.sr_front.proofs.Constants.ConstantsChecked.{CheckedAt, checked_at, checking, constant_met}
use Rattle.sr_front.proofs.Constants.ConstantsThen.{reading, rule_is, static_then}
use Rattle.sr_front.proofs.Constants.ConstantsWait.{ReadThen, declared_static}
use Rattle.sr_front.proofs.Own.DeclaredIn.{Stands}
use Rattle.sr_front.proofs.Names.FirmNames.{component_firm, component_own, firm_outer, own_outer}
use Rattle.sr_front.proofs.Known.InfosStay.{Reads, Steady, same_elsewhere}
use Rattle.sr_front.proofs.Names.OwnApart.{each_stands}
use Rattle.sr_front.proofs.Known.ProgramReads.{Base, Fits, Whole, declared, ends_after, firm_away, known_waved, last, last_uses, read_then, spec_stands, uses_same, wholes}
use Rattle.sr_front.proofs.Own.OwnOrShared.{ConstantsStatic}
use Rattle.sr_front.proofs.Mentioned.ReadsCode.{component_inside, reads_components}
use Rattle.sr_front.proofs.Lists.Rising.{Rises}
use Rattle.sr_front.proofs.Constants.StaticNames.{IsIdle}
use Rattle.sr_front.proofs.Names.RightNames.{spec_names_right}
use Rattle.sr_front.proofs.Constants.WavedEnds.{Outer, own_stands}
use Rattle.sr_front.proofs.Constants.WavesIdle.{IsWaiting, Waved}
use Rattle.sr_front.proofs.Known.DeclaredThen.{ThenAt, names_of_components}
use Rattle.sr_front.proofs.Known.KeptNames.{Anywhere, anywhere}

pub uses_steady : (uses : Meanings) → Steady (λ facts. facts.uses ≡ uses) Anywhere Anywhere
uses_steady uses = record {
  closed = record { entered = λ facts signature h. h; put = λ facts spot typed free h. h; operation = λ facts spot ty component is_local fits h. h };
  standing = λ facts component h. h;
}

static_known : (value : Static) → is_static value ≡ true → is_some (known_value value) ≡ true
static_known (Known value) h = refl
static_known _ h = absurd (false≢true h)

constant_is : (facts : Facts) (spot : Spot) (typed : Typed) → info_at facts.infos spot ≡ Some (info.Value typed) → is_static typed.value ≡ true → is_constant facts spot ≡ true
constant_is facts spot typed is static = ap (λ found. is_some (option_and_then info_constant found)) is ∙ static_known typed.value static

module _ (files : List File) (names : Names) (named : resolved files ≡ Ok names) (distinct : IsDistinct same_spot (map spot_of (flat_map file_names files))) (rises : Rises (flat_map file_names files)) (specs : Specs)
    (none : first_refused names.uses specs files ≡ None) where
  abbrev all : List Component
  all = components_in files

  abbrev inside : List Span
  inside = flat_map component_inside all

  abbrev pub first : Facts
  first = program_known names.uses specs files

  abbrev end_of_declarations : Facts
  end_of_declarations = last files names named distinct rises specs

  abbrev Away_from_code : Spot → Type 0
  Away_from_code = Outer files distinct end_of_declarations

  pub waves : Waved end_of_declarations first
  waves = known_waved files names named distinct rises specs

  ends_first : Ends files (names_of_components files) (Fits files names named distinct rises specs) Away_from_code end_of_declarations first
  ends_first = ends_after files names named distinct rises specs first waves

  -- where a component is checked
  module _ (component : Component) (there : IsIn component all) where
    abbrev pub checked : CheckedAt all first component
    checked = checked_at names.uses specs files none component there

    abbrev pub here : Facts
    here = checking all first component checked

    same_outer : (spot : Spot) → Away_from_code spot → info_at here.infos spot ≡ info_at first.infos spot
    same_outer spot away = same_elsewhere inside first checked.facts checked.reads spot away

    own_away : (one : Component) → IsIn one all → Away_from_code (component_spot one)
    own_away one k = each_stands Away_from_code (flat_map component_own all) (own_outer files distinct) (component_spot one) (own_stands all one k)

    pub ends_here : Ends files (names_of_components files) (Fits files names named distinct rises specs) Away_from_code end_of_declarations here
    ends_here = record {
      waved = λ now spot outer. record {
        kept = λ one is. same_outer spot outer ∙ waves.kept spot one is;
        others = λ is. subst IsWaiting (sym (same_outer spot outer)) (waves.others spot is);
      };
      sound = ends_first.sound;
      outer = ends_first.outer;
      away = ends_first.away;
      idle = λ one k own among unordered. subst IsIdle (sym (same_outer (spot_named own.1) (ends_first.outer one k own among))) (ends_first.idle one k own among unordered);
      known = λ one k. subst IsComponentInfo (sym (same_outer (component_spot one) (own_away one k))) (ends_first.known one k);
    }

    pub here_uses : here.uses ≡ names.uses
    here_uses =
        checked.reads (λ facts. facts.uses ≡ names.uses) Anywhere (uses_steady names.uses) (anywhere inside) (waves.uses ∙ last_uses files names named distinct rises specs)

    module _ (constant : ConstDecl) (among : IsIn (spec.Const constant) (spec_of component)) where
      abbrev pub whole : ThenAt (Whole files names named distinct rises specs) (names_of_components files) end_of_declarations true constant
      whole = (wholes files names named distinct rises specs component there).specs constant among

      abbrev name : Spot
      name = spot_of constant.name.span

      abbrev base : List Span → Facts → Type 0
      base = Base files names named distinct rises specs

      -- where it is declared
      abbrev pub declaring : Facts
      declaring = reading base (names_of_components files) end_of_declarations true constant (declared files names named distinct rises specs component there true constant whole)

      abbrev pub value : Typed
      value = (infer_expr constant.value here).typed_expr.typed

      stands : Stands name (flat_map component_firm all)
      stands = spec_stands files names named distinct rises specs component there constant among

      abbrev read : ReadThen base (names_of_components files) end_of_declarations true constant
      read =
          read_then files names named distinct rises specs component there true constant whole (firm_away files names named distinct rises specs name stands) stands
          (spec_names_right files names named distinct component there (spec.Const constant) refl among)

      -- its value has a type, and its own type takes the value where it is declared, as where it is checked
      pub record HasTypes : Type 0 where
        pub typed : is_no_type value.ty ≡ false
        pub takes : has_type_of (written_kind here constant.ty) value ≡ true → has_type_of (written_kind declaring constant.ty) value ≡ true

      static_here : HasTypes → is_static (const_of true declaring constant).value ≡ true
      static_here types =
          let met = rule_is (written_kind here constant.ty) value types.typed (constant_met all first component checked constant among) in
          static_then declaring here constant (written_kind here constant.ty) met (types.takes met.fits)
          (uses_same files names named distinct rises specs component there true constant whole here ends_here here_uses (spec_names_right files names named distinct component there (spec.Const constant) refl among))

      -- so it is static in the end
      pub constant_static : (final : Facts) → Reads inside first final → HasTypes → is_constant final name ≡ true
      constant_static final reads types =
          let static = static_here types in
          let at_last = declared_static base (names_of_components files) end_of_declarations true constant read static in
          let at_first = waves.kept name (info.Value (const_of true declaring constant)) at_last in
          constant_is final name (const_of true declaring constant)
          (same_elsewhere inside first final reads name (each_stands Away_from_code (flat_map component_firm all) (firm_outer files distinct) name stands) ∙ at_first) static

  -- the constants in the specs of resources are static
  pub constants_static : ((component : Component) (there : IsIn component all) (constant : ConstDecl) (among : IsIn (spec.Const constant) (spec_of component)) → sort_of component ≡ resource_sort → HasTypes component there constant among)
      → ConstantsStatic files (components_read all first).facts
  constants_static types component there is constant among = constant_static component there constant among (components_read all first).facts (reads_components all first) (types component there constant among is)
