-- Of names that stand at different spots some are of types and components, and others stand in procs and statements.
use Rattle.std.proofs.Common.{◌≡◌, ◌⊎◌, inl, inr, false, true≢false, List, [], ◌∷◌, ◌++◌, sym, ap, subst, ◌∙◌, map, flat_map}
use Rattle.std.proofs.lemmas.List.Concat.{flat_map-append}
use Rattle.std.specs.List.{AllByRecursion, IsDistinct}
use Rattle.sr_names.specs.declared.spot.Spot.{Spot}
use Rattle.sr_names.specs.Spots.{same_spot, spot_of}
use Rattle.sr_names.proofs.LinkLemmas.{same_spot-refl}
use Rattle.sr_names.proofs.Marking.{same_spot-cases}
use Rattle.sr_order.specs.Names.{component_names, file_names, formal_names, item_names, spec_item_names}
use Rattle.sr_tables.specs.Parts.{components_in}
use Rattle.sr_tree.specs.declared.component.Component.{Component}
use Rattle.sr_tree.specs.declared.component.File.{File}
use Rattle.sr_tree.specs.declared.component.Item.{Item}
use Rattle.sr_tree.specs.declared.component.Item.TheVariants as item
use Rattle.sr_tree.specs.declared.component.SpecItem.{SpecItem}
use Rattle.sr_tree.specs.declared.component.SpecItem.TheVariants as spec
use Rattle.sr_tree.specs.Parts.{body_of, formals_of, spec_of}
use Rattle.sr_value.specs.declared.place.Span.{Span}
use Rattle.sr_check.proofs.Each.{Each}
use Rattle.sr_front.proofs.EffectFree.EffectFreeCode.{code_names, component_code}
use Rattle.sr_front.proofs.Lists.Sharing.{Shares, none, left_out, in_first, in_second, both_share, all_left_out, all_second, all_first}
use Rattle.sr_front.proofs.Names.PlainNames.{component_plain, item_plain, spec_plain}
use Rattle.sr_front.proofs.Mentioned.ReadsCode.{parts_share}
use Rattle.sr_front.proofs.Known.TypeSpots.{Elsewhere}

-- ---- names

spec_item_shares : (one : SpecItem) → Shares (spec_item_names one) (spec_plain one) []
spec_item_shares (spec.Op declared) = all_left_out _
spec_item_shares (spec.Sem declared) = all_left_out _
spec_item_shares _ = all_first _

spec_shares : (items : List SpecItem) → Shares (flat_map spec_item_names items) (flat_map spec_plain items) []
spec_shares [] = none
spec_shares (one ∷ items) = both_share (spec_item_shares one) (spec_shares items)

item_shares : (one : Item) → Shares (item_names one) (item_plain one) (code_names one)
item_shares (item.Spec declared) = spec_item_shares declared
item_shares _ = all_second _

component_shares : (component : Component) → Shares (component_names component) (component_plain component) (component_code component)
component_shares component =
    in_first _ (both_share (spec_shares (spec_of component)) (both_share (all_first (flat_map formal_names (formals_of component))) (parts_share item_names item_plain code_names item_shares (body_of component))))

-- ---- at different spots

pub other_way : (a b : Spot) → same_spot a b ≡ false → same_spot b a ≡ false
other_way a b apart = by (same_spot-cases b a)
  where
    by : (b ≡ a) ⊎ (same_spot b a ≡ false) → same_spot b a ≡ false
    by (inl same) = absurd (true≢false (sym (same_spot-refl a) ∙ ap (same_spot a) (sym same) ∙ apart))
    by (inr apart) = apart

abbrev After : Span → List Span → Type 0
After span spans = AllByRecursion (λ other. same_spot (spot_of span) other ≡ false) (map spot_of spans)

-- those of either list are among all
first_after : {xs ys zs : List Span} (span : Span) → Shares xs ys zs → After span xs → Each (Elsewhere (spot_of span)) ys
first_after span none apart = tt
first_after span (left_out x shares) apart = first_after span shares apart.1
first_after span (in_first x shares) apart = (apart.0, first_after span shares apart.1)
first_after span (in_second x shares) apart = first_after span shares apart.1

-- one more name that stands elsewhere than each
one_elsewhere : {xs ys zs : List Span} (span : Span) → Shares xs ys zs → After span xs → (types : List Span)
    → Each (λ one. Each (Elsewhere (spot_of one)) types) zs → Each (λ one. Each (Elsewhere (spot_of one)) (span ∷ types)) zs
one_elsewhere span none apart types each = tt
one_elsewhere span (left_out x shares) apart types each = one_elsewhere span shares apart.1 types each
one_elsewhere span (in_first x shares) apart types each = one_elsewhere span shares apart.1 types each
one_elsewhere span (in_second x shares) apart types each = ((other_way (spot_of span) (spot_of x) apart.0, each.0), one_elsewhere span shares apart.1 types each.1)

-- the names of the second list stand elsewhere than those of the first
pub shares_apart : {xs ys zs : List Span} → Shares xs ys zs → IsDistinct same_spot (map spot_of xs) → Each (λ one. Each (Elsewhere (spot_of one)) ys) zs
unfolding IsDistinct
shares_apart none distinct = tt
shares_apart (left_out x shares) distinct = shares_apart shares distinct.1
shares_apart (in_first x shares) distinct = one_elsewhere x shares distinct.0 _ (shares_apart shares distinct.1)
shares_apart (in_second x shares) distinct = (first_after x shares distinct.0, shares_apart shares distinct.1)

-- ---- in all files

module _ (first second : Component → List Span) (share : (component : Component) → Shares (component_names component) (first component) (second component)) where
  pub files_share : (files : List File) → Shares (flat_map file_names files) (flat_map first (components_in files)) (flat_map second (components_in files))
  files_share [] = none
  files_share (file ∷ files) =
      subst (λ names. Shares (flat_map file_names (file ∷ files)) names (flat_map second (components_in (file ∷ files)))) (sym (flat_map-append first file.components (components_in files)))
      (subst (λ more. Shares (flat_map file_names (file ∷ files)) (flat_map first file.components ++ flat_map first (components_in files)) more)
      (sym (flat_map-append second file.components (components_in files)))
      (both_share (parts_share component_names first second share file.components) (files_share files)))

  pub apart_in : (files : List File) → IsDistinct same_spot (map spot_of (flat_map file_names files)) → Each (λ span. Each (Elsewhere (spot_of span)) (flat_map first (components_in files))) (flat_map second (components_in files))
  apart_in files distinct = shares_apart (files_share files) distinct

-- the names of procs and statements stand elsewhere than those of types and components
pub code_apart : (files : List File) → IsDistinct same_spot (map spot_of (flat_map file_names files)) → Each (λ span. Each (Elsewhere (spot_of span)) (flat_map component_plain (components_in files))) (flat_map component_code (components_in files))
code_apart = apart_in component_plain component_code component_shares
