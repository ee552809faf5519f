-- Each type of operations that is declared outside of code is known in the end by the type that its head makes then, and this
-- type has a signature.
use Rattle.std.proofs.Common.{◌≡◌, Bool, false, List, [], ◌∷◌, ◌++◌, flat_map, map, Some, Ok, refl, ap, ◌∙◌}
use Rattle.std.specs.List.{IsDistinct}
use Rattle.sr_check.specs.ErrorFree.{ErrorFree}
use Rattle.sr_check.proofs.Each.{each-append, each-left, each-right}
use Rattle.sr_check_decl.specs.declared.tally.Tally.{Tally}
use Rattle.sr_check_decl.specs.Declaring.{optype_declared, spec_item_declared, written_type}
use Rattle.sr_check_decl.specs.Entering.{signature_entered}
use Rattle.sr_front.proofs.Headed.Heads.{declared_type, head_found}
use Rattle.sr_check_decl.specs.TypeTrees.{signature_read}
use Rattle.sr_check_expr.specs.declared.facts.Facts.{Facts}
use Rattle.sr_check_expr.specs.declared.info.Info.{Info}
use Rattle.sr_check_expr.specs.declared.info.Info.TheVariants as info
use Rattle.sr_check_expr.specs.Infos.{info_at}
use Rattle.sr_names.specs.declared.spot.Spot.{Spot}
use Rattle.sr_names.specs.Specs.{Specs}
use Rattle.sr_names.specs.Spots.{same_spot, spot_of}
use Rattle.sr_names.proofs.Marking.{entry-same}
use Rattle.sr_order.specs.Names.{file_names, optype_names, signature_names, spec_item_names}
use Rattle.sr_scope.specs.declared.program.Names.{Names}
use Rattle.sr_scope.specs.Resolved.{resolved}
use Rattle.sr_scope.specs.Uses.{IsIn}
use Rattle.sr_tables.specs.Parts.{components_in}
use Rattle.sr_tree.specs.declared.component.Component.{Component}
use Rattle.sr_tree.specs.declared.component.File.{File}
use Rattle.sr_tree.specs.declared.component.SpecItem.{SpecItem}
use Rattle.sr_tree.specs.declared.component.SpecItem.TheVariants as spec
use Rattle.sr_tree.specs.declared.declaration.OpTypeDecl.{OpTypeDecl}
use Rattle.sr_tree.specs.Parts.{name_of}
use Rattle.sr_value.specs.declared.place.Span.{Span}
use Rattle.sr_front.proofs.Known.DeclaredAgrees.{SignatureAgrees}
use Rattle.sr_front.proofs.Lists.EachThen.{ThenIn}
use Rattle.sr_front.proofs.Known.FilesInOrder.{Ends, SitesOf, final}
use Rattle.sr_front.proofs.Known.HalfWalk.{Met}
use Rattle.sr_front.proofs.Headed.HeadMade.{HasNumber, WrittenMade, head_free, written_made}
use Rattle.sr_front.proofs.Known.ItemsInOrder.{optype_agrees}
use Rattle.sr_front.proofs.Known.KeptAll.{LeadsAll, keeps_spec_item}
use Rattle.sr_front.proofs.Known.Lasting.{Away}
use Rattle.sr_front.proofs.Lists.Rising.{BeforeAll, IsBefore, Rises, before_away, before_other}
use Rattle.sr_front.proofs.Names.Shares.{other_way}
use Rattle.sr_front.proofs.Known.ThenKnown.{Own, known, known_stays, own_name, own_none, plain_leads, typed_now}
use Rattle.sr_front.proofs.Typed.TypedTypes.{InfosTyped, later_itself}
use Rattle.sr_front.proofs.Known.TypeSites.{reached}

module _ (files : List File) (names : Names) (named : resolved files ≡ Ok names) (distinct : IsDistinct same_spot (map spot_of (flat_map file_names files))) (rises : Rises (flat_map file_names files)) (specs : Specs)
    (typed : InfosTyped (final files names named distinct rises specs)) where
  abbrev end : Facts
  end = final files names named distinct rises specs

  abbrev pub last : Facts
  last = known files names named distinct rises specs

  abbrev pub Ending : Facts → Type 1
  Ending = Ends files names named distinct rises specs

  pub last_ends : Ending last
  last_ends Q Free steady free h = h

  -- names of components that stand before the names of a component
  pub record OwnBefore (here : Component) (own : List Span) : Type 1 where
    pub components : Own files names named distinct rises specs own
    pub apart : (spot : Spot) → IsBefore (spot_of (name_of here).span) spot → Away spot own

  pub before_none : (here : Component) → OwnBefore here []
  before_none here = record { components = own_none files names named distinct rises specs; apart = λ spot before. tt }

  pub before_name : (here : Component) → IsIn here (components_in files) → OwnBefore here ((name_of here).span ∷ [])
  before_name here there = record {
    components = own_name files names named distinct rises specs here there;
    apart = λ spot before. (other_way (spot_of (name_of here).span) spot (before_other (spot_of (name_of here).span) spot before), tt);
  }

  abbrev pub Then : Component → List Span → List Span → Facts → Facts → Type 1
  Then = ThenIn files names named distinct rises specs

  -- where what is declared at a name stays known
  pub stays_known : (here : Component) (own : List Span) (own_before : OwnBefore here own) (rest : List Span) (after : Facts) (spot : Spot) (one : Info) → LeadsAll (own ++ rest) after end
      → IsBefore (spot_of (name_of here).span) spot → BeforeAll spot rest → info_at after.infos spot ≡ Some one → info_at last.infos spot ≡ Some one
  stays_known here own own_before rest after spot one leads before rising is =
      known_stays files names named distinct rises specs (own ++ rest) after spot one leads (each-append (λ span. same_spot spot (spot_of span) ≡ false) own rest (own_before.apart spot before) (before_away spot rest rising)) is

  -- what an item of a spec leads to
  pub from_spec : (here : Component) (own : List Span) (in_spec : Bool) (one : SpecItem) (tally : Tally) (at : Then here own (spec_item_names one) tally.facts (spec_item_declared in_spec one tally).facts)
      → LeadsAll (own ++ (spec_item_names one ++ at.rest)) tally.facts end
  from_spec here own in_spec one tally at Q Free declares free h =
      let part = spec_item_names one in
      let more = each-right (λ span. Free (spot_of span)) own (part ++ at.rest) free in
      at.leads Q Free declares (each-append (λ span. Free (spot_of span)) own at.rest (each-left (λ span. Free (spot_of span)) own (part ++ at.rest) free) (each-right (λ span. Free (spot_of span)) part at.rest more))
      (keeps_spec_item Q Free declares in_spec one tally (each-left (λ span. Free (spot_of span)) part at.rest more) h)

  -- ---- types of operations

  pub record OptypeMade (declared : OpTypeDecl) : Type 0 where
    pub has : HasNumber last (written_type declared.signature last)
    pub is : info_at last.infos (spot_of declared.name.span) ≡ Some (info.OpType (written_type declared.signature last))

  pub optype_headed : (declared : OpTypeDecl) → OptypeMade declared → ErrorFree (head_found last declared.name (written_type declared.signature last))
  optype_headed declared made = head_free last declared.name (written_type declared.signature last) (written_type declared.signature last) made.has refl (ap declared_type made.is)

  module _ (here : Component) (there : IsIn here (components_in files)) (own : List Span) (own_before : OwnBefore here own) where
    pub optype_made : (in_spec : Bool) (declared : OpTypeDecl) (tally : Tally) → Then here own (optype_names declared) tally.facts (optype_declared declared tally.facts)
        → SitesOf files names named distinct rises specs here there (spec.OpType declared) → Met Ending (λ facts. (signature_read declared.signature facts).found) → OptypeMade declared
    optype_made in_spec declared tally at sites met = record { has = made.has; is = known_is ∙ ap (λ type. Some (info.OpType type)) made.same }
      where
        now : Facts
        now = tally.facts

        entered : Facts
        entered = signature_entered declared.signature now

        part : List Span
        part = optype_names declared

        agrees : SignatureAgrees Ending declared.signature now
        agrees =
            optype_agrees files names named distinct rises specs here there declared now at.rest sites (reached files names named distinct rises specs (part ++ at.rest) now at.inv.0) at.rising
            (plain_leads files names named distinct rises specs own at.rest (optype_declared declared now) own_before.components at.leads)

        made : WrittenMade declared.signature entered last
        made =
            let there_agrees = agrees met.end met.ends in
            let last_agrees = agrees last last_ends in
            written_made declared.signature now entered met.end last (typed_now files names named distinct rises specs own (part ++ at.rest) now own_before.components at.inv (from_spec here own in_spec (spec.OpType declared) tally at) typed) (later_itself entered)
            there_agrees.0 there_agrees.1 met.whole last_agrees.0 last_agrees.1

        known_is : info_at last.infos (spot_of declared.name.span) ≡ Some (info.OpType (written_type declared.signature entered))
        known_is =
            stays_known here own own_before at.rest (optype_declared declared now) (spot_of declared.name.span) (info.OpType (written_type declared.signature entered)) at.leads at.before.0
            (each-right (λ span. IsBefore (spot_of declared.name.span) (spot_of span)) (signature_names declared.signature) at.rest at.rising.0)
            (entry-same entered.infos (spot_of declared.name.span) (info.OpType (written_type declared.signature entered)))
