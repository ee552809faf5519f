-- The names in a type that is declared mean where they stand what they mean where they are checked, also where the records in
-- it and its own name are declared; and what is written in it is entered once.
use Rattle.std.proofs.Common.{◌≡◌, ◌⊎◌, ◌+◌, length, inl, inr, false, List, [], ◌∷◌, ◌++◌, flat_map, map, Option, Some, None, Ok, refl, sym, ap, subst, ◌∙◌}
use Rattle.std.specs.Prelude.{ℕ}
use Rattle.std.specs.List.{IsDistinct}
use Rattle.sr_check.proofs.Each.{Each, each-left, each-right, each-weaker}
use Rattle.sr_check.proofs.Entered.{keeps_type}
use Rattle.sr_check_decl.specs.declared.tally.Tally.{Tally}
use Rattle.sr_check_decl.specs.Declaring.{layer_declared, literal_info, literals_declared, type_declared, types_declared}
use Rattle.sr_check_decl.specs.Entering.{formals_entered, type_entered}
use Rattle.sr_check_decl.specs.Variables.{declare}
use Rattle.sr_check_expr.specs.declared.facts.Facts.{Facts}
use Rattle.sr_check_expr.specs.declared.info.Info.{Info}
use Rattle.sr_check_expr.specs.declared.info.Info.TheVariants as info
use Rattle.sr_check_expr.specs.Naming.{deciding}
use Rattle.sr_names.specs.declared.spot.Spot.{Spot}
use Rattle.sr_names.specs.Specs.{Specs}
use Rattle.sr_names.specs.Spots.{same_spot, spot_of}
use Rattle.sr_names.proofs.Marking.{entry-other, same_spot-cases}
use Rattle.sr_order.specs.Names.{file_names, names_spans, type_decl_names, type_names}
use Rattle.sr_scope.specs.declared.program.Names.{Names}
use Rattle.sr_scope.specs.Resolved.{resolved}
use Rattle.sr_scope.specs.Uses.{IsIn}
use Rattle.sr_tables.specs.Parts.{component_spot, components_in}
use Rattle.sr_tree.specs.declared.component.Component.{Component}
use Rattle.sr_tree.specs.declared.component.File.{File}
use Rattle.sr_tree.specs.declared.component.SpecItem.TheVariants as spec
use Rattle.sr_tree.specs.declared.declaration.TypeDecl.{TypeDecl}
use Rattle.sr_tree.specs.declared.name.Name.{Name}
use Rattle.sr_tree.specs.declared.name.QualifiedName.{QualifiedName}
use Rattle.sr_tree.specs.declared.types.Formal.{Formal}
use Rattle.sr_tree.specs.declared.types.Returned.{Returned}
use Rattle.sr_tree.specs.declared.types.Signature.{Signature as SignatureTree}
use Rattle.sr_tree.specs.declared.types.TypeTree.{TypeTree, out-TypeTree}
use Rattle.sr_tree.specs.declared.types.TypeTree.TheOpen.{TypeTree-F}
use Rattle.sr_tree.specs.Nested.{layer_place, maybe_place, types_within, word_places}
use Rattle.sr_types.specs.declared.typed.Typed.{Typed}
use Rattle.sr_value.specs.declared.place.Span.{Span}
use Rattle.sr_front.proofs.Known.DeclaredAgrees.{FormalsAgree, LayerAgrees, NamedAgrees, TypesAgree, entering, naming}
use Rattle.sr_front.proofs.Own.DeclaredIn.{Stands, stands_left}
use Rattle.sr_front.proofs.Known.DeclaredThen.{names_of_components}
use Rattle.sr_front.proofs.Typed.EnteredAgain.{type_entered_again}
use Rattle.sr_front.proofs.Known.ItemsInOrder.{At, Ends, Fine, LastsBy, Leads, Same, SitedBy, SitedMeant, Sites, sited_all, types_away}
use Rattle.sr_front.proofs.Known.KeptDeclared.{Declares, keeps_layer, keeps_types}
use Rattle.sr_front.proofs.Known.KeptNames.{Anywhere, anywhere}
use Rattle.sr_front.proofs.Known.Lasting.{Away}
use Rattle.sr_front.proofs.Known.OrderKept.{counts_declares, counts_last, part_lasts}
use Rattle.sr_front.proofs.Lists.Put.{put_holds}
use Rattle.sr_front.proofs.Typed.RecordsAgain.{RecordAgain, RecordsAgain, records_again}
use Rattle.sr_front.proofs.Lists.Rising.{Rises}
use Rattle.sr_front.proofs.Names.Shares.{other_way}
use Rattle.sr_front.proofs.Lists.Sharing.{first_each}
use Rattle.sr_front.proofs.Typed.TypedTypes.{Agrees, Counts, all_uses, counts_itself, counts_through, formal_uses, type_part, type_uses}
use Rattle.sr_front.proofs.Known.TypeSites.{agrees_each, end_counts, end_uses, last, part_at, sited_end}
use Rattle.sr_front.proofs.Names.UsesAmong.{uses_of_type}
use Rattle.sr_front.proofs.Names.WordShares.{layer_words, words_of, words_share}
use Rattle.sr_front.proofs.Names.WordsApart.{component_named}

-- ---- what enumerations and records declare

pub away_or_stands : (spot : Spot) (spans : List Span) → Away spot spans ⊎ Stands spot spans
away_or_stands spot [] = inl tt
away_or_stands spot (span ∷ spans) = by (same_spot-cases spot (spot_of span)) (away_or_stands spot spans)
  where
    by : (spot ≡ spot_of span) ⊎ (same_spot spot (spot_of span) ≡ false) → Away spot spans ⊎ Stands spot spans → Away spot (span ∷ spans) ⊎ Stands spot (span ∷ spans)
    by (inl same) more = inr (inl (sym same))
    by (inr apart) (inl away) = inl (apart, away)
    by (inr apart) (inr stands) = inr (inr stands)

module _ (spot : Spot) (part : Option Info) where
  abbrev IsPart : Facts → Type 0
  IsPart facts = part_at facts spot ≡ part

  other_put : (facts : Facts) (at : Spot) (one : Info) → same_spot spot at ≡ false → IsPart facts → IsPart (declare facts at one)
  other_put facts at one apart h = ap type_part (entry-other facts.infos at one spot apart) ∙ h

  value_put : (facts : Facts) (at : Spot) (typed : Typed) → part ≡ None → IsPart facts → IsPart (declare facts at (info.Value typed))
  value_put facts at typed none h = put_holds facts at (info.Value typed) (λ other found. type_part found ≡ part) (sym none) spot (λ apart. h)

  -- no value stands there, or nothing is known of a type there
  abbrev Literals : List Name → Type 0
  Literals names = Away spot (names_spans names) ⊎ (part ≡ None)

  literals_part : (at : Spot) (number index : ℕ) (names : List Name) (facts : Facts) → Literals names → IsPart facts → IsPart (literals_declared at number index names facts)
  literals_part at number index [] facts fine h = h
  literals_part at number index (name ∷ names) facts (inl away) h =
      literals_part at number (index + 1) names (declare facts (spot_of name.span) (literal_info at number index)) (inl away.1) (other_put facts (spot_of name.span) (literal_info at number index) away.0 h)
  literals_part at number index (name ∷ names) facts (inr none) h =
      literals_part at number (index + 1) names (declare facts (spot_of name.span) (literal_info at number index)) (inr none) (value_put facts (spot_of name.span) _ none h)

  abbrev LayerClear : TypeTree-F TypeTree Formal Returned SignatureTree → Type 0
  LayerClear layer = Away spot (layer_words layer) ⊎ (Away spot (maybe_place (layer_place layer)) × (part ≡ None))

  layer_part : (layer : TypeTree-F TypeTree Formal Returned SignatureTree) (tally : Tally) → LayerClear layer → IsPart tally.facts → IsPart (layer_declared layer tally).facts
  layer_part (TypeTree-F.Enum span literals) tally (inl away) h =
      literals_part (spot_of span) tally.enumerations 0 literals _ (inl away.1) (other_put tally.facts (spot_of span) (info.Enumeration tally.enumerations (length literals)) away.0 h)
  layer_part (TypeTree-F.Enum span literals) tally (inr fine) h =
      literals_part (spot_of span) tally.enumerations 0 literals _ (inr fine.1) (other_put tally.facts (spot_of span) (info.Enumeration tally.enumerations (length literals)) fine.0.0 h)
  layer_part (TypeTree-F.Rec span fields) tally (inl away) h = other_put tally.facts (spot_of span) _ away.0 h
  layer_part (TypeTree-F.Rec span fields) tally (inr fine) h = other_put tally.facts (spot_of span) _ fine.0.0 h
  layer_part _ tally fine h = h

  abbrev pub TypesClear : List TypeTree → Type 0
  TypesClear trees = Away spot (flat_map words_of trees) ⊎ (Away spot (word_places trees) × (part ≡ None))

  abbrev OtherThan : Span → Type 0
  OtherThan span = same_spot spot (spot_of span) ≡ false

  first_clear : (tree : TypeTree) (trees : List TypeTree) → TypesClear (tree ∷ trees) → LayerClear (out-TypeTree tree)
  first_clear tree trees (inl away) = inl (each-left OtherThan (words_of tree) (flat_map words_of trees) away)
  first_clear tree trees (inr fine) = inr (each-left OtherThan (maybe_place (layer_place (out-TypeTree tree))) (word_places trees) fine.0, fine.1)

  more_clear : (tree : TypeTree) (trees : List TypeTree) → TypesClear (tree ∷ trees) → TypesClear trees
  more_clear tree trees (inl away) = inl (each-right OtherThan (words_of tree) (flat_map words_of trees) away)
  more_clear tree trees (inr fine) = inr (each-right OtherThan (maybe_place (layer_place (out-TypeTree tree))) (word_places trees) fine.0, fine.1)

uses_declares : (before : Facts) → Declares (λ facts. facts.uses ≡ before.uses) Anywhere
uses_declares before = record { entered = λ facts signature h. h; put = λ facts spot one free h. h; operation = λ facts spot type component is_local h. h; standing = λ facts component h. h }

-- ---- from where the type is read to where its name is declared

module _ (now : Facts) (tree : TypeTree) where
  abbrev Clear : List TypeTree → Spot → Type 0
  Clear trees spot = TypesClear spot (part_at now spot) trees

  -- all that is clear is known of as before, and the signatures of the type have numbers
  record Near (facts : Facts) : Type 0 where
    uses : facts.uses ≡ now.uses
    same : (spot : Spot) → Clear (types_within tree) spot → part_at facts spot ≡ part_at now spot
    counts : Counts (type_entered tree now) facts

  near_first : Near (type_entered tree now)
  near_first = record {
    uses = keeps_type (λ facts. facts.uses ≡ now.uses) (λ facts signature h. h) tree now refl;
    same = λ spot clear. keeps_type (λ facts. part_at facts spot ≡ part_at now spot) (λ facts signature h. h) tree now refl;
    counts = counts_itself (type_entered tree now);
  }

  -- what is clear in all is so in these
  abbrev Suffix : List TypeTree → Type 0
  Suffix trees = (spot : Spot) → Clear (types_within tree) spot → Clear trees spot

  near_layer : (one : TypeTree) (trees : List TypeTree) (tally : Tally) → Suffix (one ∷ trees) → Near tally.facts → Near (layer_declared (out-TypeTree one) tally).facts
  near_layer one trees tally suffix near = record {
    uses = keeps_layer (λ facts. facts.uses ≡ now.uses) Anywhere (uses_declares now) (out-TypeTree one) tally (anywhere (words_of one)) near.uses;
    same = λ spot clear. layer_part spot (part_at now spot) (out-TypeTree one) tally (first_clear spot (part_at now spot) one trees (suffix spot clear)) (near.same spot clear);
    counts = keeps_layer (Counts (type_entered tree now)) Anywhere (counts_declares (type_entered tree now)) (out-TypeTree one) tally (anywhere (words_of one)) near.counts;
  }

  near_more : (one : TypeTree) (trees : List TypeTree) → Suffix (one ∷ trees) → Suffix trees
  near_more one trees suffix spot clear = more_clear spot (part_at now spot) one trees (suffix spot clear)

  near_types : (trees : List TypeTree) (tally : Tally) → Suffix trees → Near tally.facts → Near (types_declared trees tally).facts
  near_types [] tally suffix near = near
  near_types (one ∷ trees) tally suffix near = near_types trees (layer_declared (out-TypeTree one) tally) (near_more one trees suffix) (near_layer one trees tally suffix near)

-- ---- the declaration of a type

module _ (files : List File) (names : Names) (named : resolved files ≡ Ok names) (distinct : IsDistinct same_spot (map spot_of (flat_map file_names files))) (rises : Rises (flat_map file_names files)) (specs : Specs) (here : Component)
    (there : IsIn here (components_in files)) where
  abbrev final : Facts
  final = last files names named distinct rises specs

  abbrev Ending : Facts → Type 1
  Ending = Ends files names named distinct rises specs

  abbrev AtFacts : Facts → Type 0
  AtFacts = At files names named distinct rises specs

  -- no type is known yet where names stand that follow
  abbrev pub Fresh : List Span → Facts → Type 0
  Fresh after facts = (spot : Spot) → Stands spot after → Away spot (names_of_components files) → part_at facts spot ≡ None

  module _ (named_type : TypeDecl) (tally : Tally) (rest : List Span) (sites : Sites files names named distinct rises specs here there (spec.«Type» named_type)) (reached : AtFacts tally.facts)
      (fresh : Fresh (type_decl_names named_type ++ rest) tally.facts) (rising : Rises (type_decl_names named_type ++ rest)) (leads : Leads files names named distinct rises specs rest (type_declared named_type tally).facts) where
    abbrev tree : TypeTree
    tree = named_type.ty

    abbrev now : Facts
    now = tally.facts

    abbrev entered : Facts
    entered = type_entered tree now

    abbrev within : Option Spot
    within = Some (spot_of named_type.name.span)

    abbrev fine : Spot → Type 0
    fine = Fine files names named distinct rises specs rest within

    abbrev first : Tally
    first = entering Ending named_type tally

    abbrev named_at : Facts
    named_at = (naming Ending named_type tally).facts

    abbrev Meant : QualifiedName → Type 0
    Meant name = SitedMeant files names named distinct rises specs fine (deciding name).span

    all_names : Each (SitedMeant files names named distinct rises specs fine) (type_decl_names named_type)
    all_names = sited_all files names named distinct rises specs here there within rest (type_decl_names named_type) rising (sites.right refl)

    meant : Each Meant (type_uses tree)
    meant = uses_of_type (SitedMeant files names named distinct rises specs fine) tree all_names.1

    whole_suffix : Suffix now tree (types_within tree)
    whole_suffix spot clear = clear

    near_named : Near now tree named_at
    near_named = near_types now tree (types_within tree) first whole_suffix (near_first now tree)

    -- ---- what a name may mean is clear

    away_clear : (spot : Spot) → Away spot (type_names tree) → Clear now tree (types_within tree) spot
    away_clear spot away = inl (first_each (λ span. same_spot spot (spot_of span) ≡ false) (words_share tree) away)

    typing_clear : (spot : Spot) → Stands spot (flat_map component_named (components_in files)) → Clear now tree (types_within tree) spot
    typing_clear spot stands = by (away_or_stands spot (type_names tree))
      where
        by : Away spot (type_names tree) ⊎ Stands spot (type_names tree) → Clear now tree (types_within tree) spot
        by (inl away) = away_clear spot away
        by (inr inner) = inr (sites.apart_words spot stands, fresh spot (stands_left spot (type_decl_names named_type) rest (inr inner)) (types_away files names named distinct rises specs spot stands))

    sited_clear : (spot : Spot) → SitedBy files names named distinct rises specs fine spot → Clear now tree (types_within tree) spot
    sited_clear spot (inl own) = subst (Clear now tree (types_within tree)) (sym own.2) (away_clear (component_spot own.0) (sites.apart_own own.0 own.1).1)
    sited_clear spot (inr (inl stands)) = away_clear spot (sites.apart_firm spot stands).1
    sited_clear spot (inr (inr stands)) = typing_clear spot stands.0

    lasts : LastsBy files names named distinct rises specs fine now
    lasts spot stands good =
        part_lasts files names named distinct rises specs rest (type_declared named_type tally).facts spot (part_at now spot) leads stands good.0
        (inl (ap type_part (entry-other (named_at).infos (spot_of named_type.name.span) _ spot (other_way (spot_of named_type.name.span) spot good.1)) ∙ near_named.same spot (typing_clear spot stands)))

    end_same : (facts end : Facts) → Ending end → Near now tree facts → (spot : Spot) → SitedBy files names named distinct rises specs fine spot → part_at end spot ≡ part_at facts spot
    end_same facts end ends near spot sites =
        sited_end files names named distinct rises specs fine now end ends reached lasts spot sites ∙ sym (near.same spot (sited_clear spot sites))

    -- ---- numbers

    counts_named : Counts named_at final
    counts_named = counts_last files names named distinct rises specs rest named_at (type_declared named_type tally).facts leads (counts_itself named_at)

    to_end : (facts end : Facts) → Ending end → Counts facts final → Counts facts end
    to_end facts end ends counts = counts_through facts final end counts (end_counts files names named distinct rises specs end ends)

    more_counts : (trees : List TypeTree) (tally : Tally) → Counts tally.facts (types_declared trees tally).facts
    more_counts trees tally = keeps_types (Counts tally.facts) Anywhere (counts_declares tally.facts) trees tally (anywhere (flat_map words_of trees)) (counts_itself tally.facts)

    -- ---- agreeing

    agree_end : (facts end : Facts) → Ending end → Near now tree facts → (uses : List QualifiedName) → Each Meant uses → Each (Agrees facts end) uses
    agree_end facts end ends near uses each =
        agrees_each files names named distinct rises specs facts end (near.uses ∙ reached.uses) (end_uses files names named distinct rises specs end ends) uses
        (each-weaker Meant (λ name. Same files names named distinct rises specs facts end (deciding name).span)
        (λ name sites decl means. end_same facts end ends near decl.spot (sites decl means)) uses each)

    agree_near : (facts : Facts) → Near now tree facts → Each (Agrees now facts) (type_uses tree)
    agree_near facts near =
        agrees_each files names named distinct rises specs now facts reached.uses (near.uses ∙ reached.uses) (type_uses tree)
        (each-weaker Meant (λ name. Same files names named distinct rises specs now facts (deciding name).span)
        (λ name sites decl means. near.same decl.spot (sited_clear decl.spot (sites decl means))) (type_uses tree) meant)

    records : (facts : Facts) → Near now tree facts → RecordsAgain Meant facts (types_within tree)
    records facts near = records_again Meant tree now facts (agree_near facts near) meant near.counts

    -- ---- records within

    record_agrees : (span : Span) (fields : List Formal) (facts : Facts) → Near now tree facts → Counts facts final → Each Meant (all_uses (map formal_uses fields)) × (formals_entered fields facts ≡ facts)
        → FormalsAgree Ending fields facts × Counts (formals_entered fields facts) facts
    record_agrees span fields facts near counts again = (
      λ end ends. (agree_end facts end ends near (all_uses (map formal_uses fields)) again.0, subst (λ (one : Facts). Counts one end) (sym again.1) (to_end facts end ends counts)),
      subst (λ (one : Facts). Counts one facts) (sym again.1) (counts_itself facts),
    )

    layer_agrees : (layer : TypeTree-F TypeTree Formal Returned SignatureTree) (facts : Facts) → Near now tree facts → Counts facts final → RecordAgain Meant facts layer → LayerAgrees Ending layer facts
    layer_agrees (TypeTree-F.Rec span fields) facts near counts again = record_agrees span fields facts near counts again
    layer_agrees _ facts near counts again = tt

    types_agree : (trees : List TypeTree) (at : Tally) → Suffix now tree trees → Near now tree at.facts → ((facts : Facts) → Near now tree facts → RecordsAgain Meant facts trees) → Counts (types_declared trees at).facts final
        → TypesAgree Ending trees at
    types_agree [] at suffix near again counts = tt
    types_agree (one ∷ trees) at suffix near again counts = (
      layer_agrees (out-TypeTree one) at.facts near (counts_through at.facts (types_declared (one ∷ trees) at).facts final (more_counts (one ∷ trees) at) counts) (again at.facts near).0,
      types_agree trees (layer_declared (out-TypeTree one) at) (near_more now tree one trees suffix) (near_layer now tree one trees at suffix near) (λ facts h. (again facts h).1) counts,
    )

    -- ---- all of it

    entered_again : type_entered tree named_at ≡ named_at
    entered_again = type_entered_again tree now named_at (agree_near named_at near_named) near_named.counts

    pub type_in_order : NamedAgrees Ending named_type tally
    type_in_order = record {
      entered = λ end ends. (
        agrees_each files names named distinct rises specs now end reached.uses (end_uses files names named distinct rises specs end ends) (type_uses tree)
            (each-weaker Meant (λ name. Same files names named distinct rises specs now end (deciding name).span)
            (λ name sites decl means. sited_end files names named distinct rises specs fine now end ends reached lasts decl.spot (sites decl means)) (type_uses tree) meant),
        to_end entered end ends (counts_through entered named_at final (more_counts (types_within tree) first) counts_named),
      );
      within = types_agree (types_within tree) first whole_suffix (near_first now tree) records counts_named;
      name = λ end ends. (agree_end named_at end ends near_named (type_uses tree) meant, subst (λ (one : Facts). Counts one end) (sym entered_again) (to_end named_at end ends counts_named));
      numbered = subst (λ (one : Facts). Counts one named_at) (sym entered_again) (counts_itself named_at);
    }
