-- The facts in which the declaration of a constant is read: what is declared after it leads from there to all that is declared.
use Rattle.std.proofs.Common.{◌≡◌, ◌⊎◌, inl, inr, Bool, true, false, List, [], ◌∷◌, ◌++◌, append_assoc, flat_map, map, refl, sym, ap, subst}
use Rattle.sr_check.proofs.Each.{Each, each-append, each-left, each-right}
use Rattle.sr_check_decl.specs.Declaring.{at_facts, component_declared, components_declared, const_declared, files_declared, files_named, head_declared, item_declared, items_declared, no_facts, program_declared, spec_item_declared, spec_items_declared, standing}
use Rattle.sr_check_decl.specs.declared.tally.Tally.{Tally}
use Rattle.sr_check_decl.specs.Parts.{component_decl}
use Rattle.sr_check_expr.specs.declared.facts.Facts.{Facts}
use Rattle.sr_names.specs.declared.meaning.Decl.{Decl}
use Rattle.sr_names.specs.declared.spot.Spot.{Spot}
use Rattle.sr_names.specs.Noted.{Meanings}
use Rattle.sr_names.specs.Specs.{Specs}
use Rattle.sr_names.specs.Spots.{spot_of}
use Rattle.sr_order.specs.Names.{component_names, const_names, file_names, formal_names, item_names, spec_item_names}
use Rattle.sr_scope.proofs.Findings.{in_either, in_left, in_right}
use Rattle.sr_scope.specs.Uses.{IsIn}
use Rattle.sr_tables.specs.Parts.{components_in}
use Rattle.sr_tree.specs.declared.component.Component.{Component}
use Rattle.sr_tree.specs.declared.component.File.{File}
use Rattle.sr_tree.specs.declared.component.Item.{Item}
use Rattle.sr_tree.specs.declared.component.Item.TheVariants as item
use Rattle.sr_tree.specs.declared.component.SpecItem.{SpecItem}
use Rattle.sr_tree.specs.declared.component.SpecItem.TheVariants as spec
use Rattle.sr_tree.specs.declared.declaration.ConstDecl.{ConstDecl}
use Rattle.sr_tree.specs.Parts.{body_of, formals_of, name_of, spec_of}
use Rattle.sr_value.specs.declared.place.Span.{Span}
use Rattle.sr_front.proofs.Known.KeptDeclared.{Declares, keeps_components, keeps_files, keeps_head, keeps_items, keeps_spec}
use Rattle.sr_front.proofs.Names.PlainNames.{component_plain, item_plain, spec_plain}
use Rattle.sr_front.proofs.Lists.Rising.{Rises, rises_right}

-- ---- plain names among all names

module _ (Free : Spot → Type 0) where
  abbrev AllFree : List Span → Type 0
  AllFree = Each (λ span. Free (spot_of span))

  pub spec_plain_free : (one : SpecItem) → AllFree (spec_item_names one) → AllFree (spec_plain one)
  spec_plain_free (spec.Op declared) free = tt
  spec_plain_free (spec.Sem declared) free = tt
  spec_plain_free _ free = free

  pub item_plain_free : (one : Item) → AllFree (item_names one) → AllFree (item_plain one)
  item_plain_free (item.Spec declared) free = spec_plain_free declared free
  item_plain_free _ free = tt

  pub parts_free : {A : Type 0} (names plain : A → List Span) → ((one : A) → AllFree (names one) → AllFree (plain one)) → (all : List A) → AllFree (flat_map names all) → AllFree (flat_map plain all)
  parts_free names plain each [] free = tt
  parts_free names plain each (one ∷ all) free =
      each-append (λ span. Free (spot_of span)) (plain one) (flat_map plain all) (each one (each-left (λ span. Free (spot_of span)) (names one) (flat_map names all) free))
      (parts_free names plain each all (each-right (λ span. Free (spot_of span)) (names one) (flat_map names all) free))

  pub component_plain_free : (one : Component) → AllFree (component_names one) → AllFree (component_plain one)
  component_plain_free one free =
      let specs = flat_map spec_item_names (spec_of one) in
      let formals = flat_map formal_names (formals_of one) in
      let after = each-right (λ span. Free (spot_of span)) specs _ free.1 in (
        free.0,
        each-append (λ span. Free (spot_of span)) (flat_map spec_plain (spec_of one)) _
            (parts_free spec_item_names spec_plain spec_plain_free (spec_of one) (each-left (λ span. Free (spot_of span)) specs _ free.1))
            (each-append (λ span. Free (spot_of span)) formals _ (each-left (λ span. Free (spot_of span)) formals _ after)
            (parts_free item_names item_plain item_plain_free (body_of one) (each-right (λ span. Free (spot_of span)) formals _ after))),
      )

  pub components_free : (all : List Component) → AllFree (flat_map component_names all) → Each (λ one. AllFree (component_plain one)) all
  components_free [] free = tt
  components_free (one ∷ all) free = (
    component_plain_free one (each-left (λ span. Free (spot_of span)) (component_names one) (flat_map component_names all) free),
    components_free all (each-right (λ span. Free (spot_of span)) (component_names one) (flat_map component_names all) free),
  )

  pub files_free : (files : List File) → AllFree (flat_map file_names files) → Each (λ file. Each (λ one. AllFree (component_plain one)) file.components) files
  files_free [] free = tt
  files_free (file ∷ files) free = (
    components_free file.components (each-left (λ span. Free (spot_of span)) (file_names file) (flat_map file_names files) free),
    files_free files (each-right (λ span. Free (spot_of span)) (file_names file) (flat_map file_names files) free),
  )

  pub one_free : (names : List Span) (name : Span) → IsIn name names → AllFree names → Free (spot_of name)
  one_free [] name k free = absurd k
  one_free (first ∷ names) name (inl e) free = subst (λ (span : Span). Free (spot_of span)) e free.0
  one_free (first ∷ names) name (inr k) free = one_free names name k free.1

-- ---- from one place to the end

-- what declarations keep is kept from here to there, where these names and those of components are free
abbrev pub Leads : List Span → List Span → Facts → Facts → Type 1
Leads components names here there = (Q : Facts → Type 0) (Free : Spot → Type 0) → Declares Q Free → AllFree Free components → AllFree Free names → Q here → Q there

-- where the declaration of a constant is read: what is so there, and the names after it
pub record ThenAt (Inv : List Span → Facts → Type 0) (components : List Span) (last : Facts) (in_spec : Bool) (constant : ConstDecl) : Type 1 where
  pub now : Facts
  pub after : List Span
  pub inv : Inv (const_names constant ++ after) now
  pub rises : Rises (const_names constant ++ after)
  pub leads : Leads components after (const_declared in_spec constant now) last

-- of what is known and of the names that follow: it is kept where what is outside of code is declared
pub record KeepsInv (Inv : List Span → Facts → Type 0) (SpecFits : SpecItem → Type 0) (ItemFits : Item → Type 0) (HeadFits : Component → Type 0) : Type 0 where
  pub spec_item : (in_spec : Bool) (one : SpecItem) (tally : Tally) (after : List Span) → SpecFits one → Rises (spec_item_names one ++ after) → Inv (spec_item_names one ++ after) tally.facts
      → Inv after (spec_item_declared in_spec one tally).facts
  pub item : (one : Item) (tally : Tally) (after : List Span) → ItemFits one → Rises (item_names one ++ after) → Inv (item_names one ++ after) tally.facts → Inv after (item_declared one tally).facts
  pub head : (component : Component) (facts : Facts) (after : List Span) → HeadFits component → Rises (flat_map formal_names (formals_of component) ++ after)
      → Inv (flat_map formal_names (formals_of component) ++ after) facts → Inv after (head_declared component facts)
  pub standing : (facts : Facts) (component : Decl) (after : List Span) → Inv after facts → Inv after (standing facts component)
  pub name : (facts : Facts) (name : Span) (after : List Span) → Inv (name ∷ after) facts → Inv after facts

pub rises_assoc : (xs ys zs : List Span) → Rises ((xs ++ ys) ++ zs) → Rises (xs ++ (ys ++ zs))
rises_assoc xs ys zs rises = subst Rises (append_assoc xs ys zs) rises

module _ (Inv : List Span → Facts → Type 0) (SpecFits : SpecItem → Type 0) (ItemFits : Item → Type 0) (HeadFits : Component → Type 0) (keeps : KeepsInv Inv SpecFits ItemFits HeadFits)
    (components : List Span) (last : Facts) where
  pub inv_assoc : (xs ys zs : List Span) (facts : Facts) → Inv ((xs ++ ys) ++ zs) facts → Inv (xs ++ (ys ++ zs)) facts
  inv_assoc xs ys zs facts inv = subst (λ names. Inv names facts) (append_assoc xs ys zs) inv

  abbrev pub Then : Bool → ConstDecl → Type 1
  Then = ThenAt Inv components last

  then_spec : (items : List SpecItem) (tally : Tally) (after : List Span) → Each SpecFits items → Inv (flat_map spec_item_names items ++ after) tally.facts → Rises (flat_map spec_item_names items ++ after)
      → Leads components after (spec_items_declared items tally).facts last → (constant : ConstDecl) → IsIn (spec.Const constant) items → Then true constant
  then_spec [] tally after fit inv rises leads constant k = absurd k
  then_spec (one ∷ items) tally after fit inv rises leads constant (inl e) = record {
    now = tally.facts;
    after = flat_map spec_item_names items ++ after;
    inv = subst (λ (it : SpecItem). Inv (spec_item_names it ++ (flat_map spec_item_names items ++ after)) tally.facts) e (inv_assoc (spec_item_names one) (flat_map spec_item_names items) after tally.facts inv);
    rises = subst (λ (it : SpecItem). Rises (spec_item_names it ++ (flat_map spec_item_names items ++ after))) e (rises_assoc (spec_item_names one) (flat_map spec_item_names items) after rises);
    leads = λ Q Free declares named free h.
        leads Q Free declares named (each-right (λ span. Free (spot_of span)) (flat_map spec_item_names items) after free)
        (keeps_spec Q Free declares items (spec_item_declared true one tally)
        (parts_free Free spec_item_names spec_plain (spec_plain_free Free) items (each-left (λ span. Free (spot_of span)) (flat_map spec_item_names items) after free))
        (subst (λ (it : SpecItem). Q (spec_item_declared true it tally).facts) (sym e) h));
  }
  then_spec (one ∷ items) tally after fit inv rises leads constant (inr k) =
      let rising = rises_assoc (spec_item_names one) (flat_map spec_item_names items) after rises in
      then_spec items (spec_item_declared true one tally) after fit.1
      (keeps.spec_item true one tally (flat_map spec_item_names items ++ after) fit.0 rising (inv_assoc (spec_item_names one) (flat_map spec_item_names items) after tally.facts inv))
      (rises_right (spec_item_names one) _ rising) leads constant k

  then_items : (items : List Item) (tally : Tally) (after : List Span) → Each ItemFits items → Inv (flat_map item_names items ++ after) tally.facts → Rises (flat_map item_names items ++ after)
      → Leads components after (items_declared items tally).facts last → (constant : ConstDecl) → IsIn (item.Spec (spec.Const constant)) items → Then false constant
  then_items [] tally after fit inv rises leads constant k = absurd k
  then_items (one ∷ items) tally after fit inv rises leads constant (inl e) = record {
    now = tally.facts;
    after = flat_map item_names items ++ after;
    inv = subst (λ (it : Item). Inv (item_names it ++ (flat_map item_names items ++ after)) tally.facts) e (inv_assoc (item_names one) (flat_map item_names items) after tally.facts inv);
    rises = subst (λ (it : Item). Rises (item_names it ++ (flat_map item_names items ++ after))) e (rises_assoc (item_names one) (flat_map item_names items) after rises);
    leads = λ Q Free declares named free h.
        leads Q Free declares named (each-right (λ span. Free (spot_of span)) (flat_map item_names items) after free)
        (keeps_items Q Free declares items (item_declared one tally)
        (parts_free Free item_names item_plain (item_plain_free Free) items (each-left (λ span. Free (spot_of span)) (flat_map item_names items) after free))
        (subst (λ (it : Item). Q (item_declared it tally).facts) (sym e) h));
  }
  then_items (one ∷ items) tally after fit inv rises leads constant (inr k) =
      let rising = rises_assoc (item_names one) (flat_map item_names items) after rises in
      then_items items (item_declared one tally) after fit.1
      (keeps.item one tally (flat_map item_names items ++ after) fit.0 rising (inv_assoc (item_names one) (flat_map item_names items) after tally.facts inv))
      (rises_right (item_names one) _ rising) leads constant k

  pub inv_spec : (items : List SpecItem) (tally : Tally) (after : List Span) → Each SpecFits items → Rises (flat_map spec_item_names items ++ after) → Inv (flat_map spec_item_names items ++ after) tally.facts
      → Inv after (spec_items_declared items tally).facts
  inv_spec [] tally after fit rises inv = inv
  inv_spec (one ∷ items) tally after fit rises inv =
      let rising = rises_assoc (spec_item_names one) (flat_map spec_item_names items) after rises in
      inv_spec items (spec_item_declared true one tally) after fit.1 (rises_right (spec_item_names one) _ rising)
      (keeps.spec_item true one tally (flat_map spec_item_names items ++ after) fit.0 rising (inv_assoc (spec_item_names one) (flat_map spec_item_names items) after tally.facts inv))

  pub inv_items : (items : List Item) (tally : Tally) (after : List Span) → Each ItemFits items → Rises (flat_map item_names items ++ after) → Inv (flat_map item_names items ++ after) tally.facts
      → Inv after (items_declared items tally).facts
  inv_items [] tally after fit rises inv = inv
  inv_items (one ∷ items) tally after fit rises inv =
      let rising = rises_assoc (item_names one) (flat_map item_names items) after rises in
      inv_items items (item_declared one tally) after fit.1 (rises_right (item_names one) _ rising)
      (keeps.item one tally (flat_map item_names items ++ after) fit.0 rising (inv_assoc (item_names one) (flat_map item_names items) after tally.facts inv))

  pub record ComponentFits (component : Component) : Type 0 where
    pub specs : Each SpecFits (spec_of component)
    pub head : HeadFits component
    pub items : Each ItemFits (body_of component)

  -- where the spec, the head and the body of a component are read
  abbrev pub at_spec : Component → Tally → Tally
  at_spec component tally = at_facts tally (standing tally.facts (component_decl component))

  abbrev pub at_head : Component → Tally → Tally
  at_head component tally = spec_items_declared (spec_of component) (at_spec component tally)

  abbrev pub at_body : Component → Tally → Tally
  at_body component tally = at_facts (at_head component tally) (head_declared component (at_head component tally).facts)

  -- the names of a component, and those that follow
  module _ (component : Component) (tally : Tally) (after : List Span) (fit : ComponentFits component) (rises : Rises (component_names component ++ after)) (inv : Inv (component_names component ++ after) tally.facts) where
    abbrev specs : List Span
    specs = flat_map spec_item_names (spec_of component)

    abbrev formals : List Span
    formals = flat_map formal_names (formals_of component)

    abbrev body : List Span
    body = flat_map item_names (body_of component)

    pub from_specs : Rises (specs ++ ((formals ++ body) ++ after))
    from_specs = rises_assoc specs (formals ++ body) after rises.1

    pub from_formals : Rises (formals ++ (body ++ after))
    from_formals = rises_assoc formals body after (rises_right specs ((formals ++ body) ++ after) from_specs)

    pub from_body : Rises (body ++ after)
    from_body = rises_right formals (body ++ after) from_formals

    pub inv_at_spec : Inv (specs ++ ((formals ++ body) ++ after)) (at_spec component tally).facts
    inv_at_spec =
        keeps.standing tally.facts (component_decl component) (specs ++ ((formals ++ body) ++ after))
        (inv_assoc specs (formals ++ body) after tally.facts (keeps.name tally.facts (name_of component).span ((specs ++ (formals ++ body)) ++ after) inv))

    pub inv_at_head : Inv (formals ++ (body ++ after)) (at_head component tally).facts
    inv_at_head =
        inv_assoc formals body after (at_head component tally).facts (inv_spec (spec_of component) (at_spec component tally) ((formals ++ body) ++ after) fit.specs from_specs inv_at_spec)

    pub inv_at_body : Inv (body ++ after) (at_body component tally).facts
    inv_at_body = keeps.head component (at_head component tally).facts (body ++ after) fit.head from_formals inv_at_head

    pub inv_component : Inv after (component_declared component tally).facts
    inv_component = inv_items (body_of component) (at_body component tally) after fit.items from_body inv_at_body

  pub inv_components : (all : List Component) (tally : Tally) (after : List Span) → Each ComponentFits all → Rises (flat_map component_names all ++ after) → Inv (flat_map component_names all ++ after) tally.facts
      → Inv after (components_declared all tally).facts
  inv_components [] tally after fit rises inv = inv
  inv_components (one ∷ all) tally after fit rises inv =
      let rising = rises_assoc (component_names one) (flat_map component_names all) after rises in
      inv_components all (component_declared one tally) after fit.1 (rises_right (component_names one) _ rising)
      (inv_component one tally (flat_map component_names all ++ after) fit.0 rising (inv_assoc (component_names one) (flat_map component_names all) after tally.facts inv))

  inv_files : (files : List File) (tally : Tally) → Each ComponentFits (components_in files) → Rises (flat_map file_names files) → Inv (flat_map file_names files) tally.facts → Inv [] (files_declared files tally).facts
  inv_files [] tally fit rises inv = inv
  inv_files (file ∷ files) tally fit rises inv =
      inv_files files (components_declared file.components tally) (each-right ComponentFits file.components (components_in files) fit) (rises_right (file_names file) (flat_map file_names files) rises)
      (inv_components file.components tally (flat_map file_names files) (each-left ComponentFits file.components (components_in files) fit) rises inv)

  -- the constants of a component
  pub record ThenIn (component : Component) : Type 1 where
    pub specs : (constant : ConstDecl) → IsIn (spec.Const constant) (spec_of component) → Then true constant
    pub body : (constant : ConstDecl) → IsIn (item.Spec (spec.Const constant)) (body_of component) → Then false constant

  then_component : (component : Component) (tally : Tally) (after : List Span) → IsIn (name_of component).span components → ComponentFits component → Inv (component_names component ++ after) tally.facts
      → Rises (component_names component ++ after) → Leads components after (component_declared component tally).facts last → ThenIn component
  then_component component tally after named fit inv rises leads = record { specs = at_specs; body = at_items }
    where
      names : List Span
      names = flat_map formal_names (formals_of component)

      more : List Span
      more = flat_map item_names (body_of component)

      at_specs : (constant : ConstDecl) → IsIn (spec.Const constant) (spec_of component) → Then true constant
      at_specs =
          then_spec (spec_of component) (at_spec component tally) ((names ++ more) ++ after) fit.specs (inv_at_spec component tally after fit rises inv) (from_specs component tally after fit rises inv)
          (λ Q Free declares all free h.
          let inner = each-left (λ span. Free (spot_of span)) (names ++ more) after free in
          leads Q Free declares all (each-right (λ span. Free (spot_of span)) (names ++ more) after free)
          (keeps_items Q Free declares (body_of component) (at_body component tally)
          (parts_free Free item_names item_plain (item_plain_free Free) (body_of component) (each-right (λ span. Free (spot_of span)) names more inner))
          (keeps_head Q Free declares component (at_head component tally).facts (one_free Free components (name_of component).span named all)
          (each-left (λ span. Free (spot_of span)) names more inner) h)))

      at_items : (constant : ConstDecl) → IsIn (item.Spec (spec.Const constant)) (body_of component) → Then false constant
      at_items = then_items (body_of component) (at_body component tally) after fit.items (inv_at_body component tally after fit rises inv) (from_body component tally after fit rises inv) leads

  then_components : (all : List Component) (tally : Tally) (after : List Span) → ((one : Component) → IsIn one all → IsIn (name_of one).span components) → Each ComponentFits all
      → Inv (flat_map component_names all ++ after) tally.facts → Rises (flat_map component_names all ++ after) → Leads components after (components_declared all tally).facts last → (component : Component) → IsIn component all → ThenIn component
  then_components [] tally after named fit inv rises leads component k = absurd k
  then_components (one ∷ all) tally after named fit inv rises leads component (inl e) =
      subst (λ it. ThenIn it) e
      (then_component one tally (flat_map component_names all ++ after) (named one (inl refl)) fit.0 (inv_assoc (component_names one) (flat_map component_names all) after tally.facts inv)
      (rises_assoc (component_names one) (flat_map component_names all) after rises)
      (λ Q Free declares names free h.
      leads Q Free declares names (each-right (λ span. Free (spot_of span)) (flat_map component_names all) after free)
      (keeps_components Q Free declares all (component_declared one tally) (components_free Free all (each-left (λ span. Free (spot_of span)) (flat_map component_names all) after free)) h)))
  then_components (one ∷ all) tally after named fit inv rises leads component (inr k) =
      let rising = rises_assoc (component_names one) (flat_map component_names all) after rises in
      then_components all (component_declared one tally) after (λ other h. named other (inr h)) fit.1
      (inv_component one tally (flat_map component_names all ++ after) fit.0 rising (inv_assoc (component_names one) (flat_map component_names all) after tally.facts inv))
      (rises_right (component_names one) _ rising) leads component k

  then_files : (files : List File) (tally : Tally) → ((one : Component) → IsIn one (components_in files) → IsIn (name_of one).span components) → Each ComponentFits (components_in files)
      → Inv (flat_map file_names files) tally.facts → Rises (flat_map file_names files) → (files_declared files tally).facts ≡ last → (component : Component) → IsIn component (components_in files) → ThenIn component
  then_files [] tally named fit inv rises is component k = absurd k
  then_files (file ∷ files) tally named fit inv rises is component k =
      by (in_either component file.components (components_in files) k)
      (then_files files (components_declared file.components tally) (λ one among. named one (in_right one file.components (components_in files) among))
      (each-right ComponentFits file.components (components_in files) fit)
      (inv_components file.components tally (flat_map file_names files) (each-left ComponentFits file.components (components_in files) fit) rises inv)
      (rises_right (file_names file) (flat_map file_names files) rises) is component)
    where
      by : IsIn component file.components ⊎ IsIn component (components_in files) → (IsIn component (components_in files) → ThenIn component) → ThenIn component
      by (inl h) more =
          then_components file.components tally (flat_map file_names files) (λ one among. named one (in_left one file.components (components_in files) among))
          (each-left ComponentFits file.components (components_in files) fit) inv rises
          (λ Q Free declares names free q.
          subst Q is (keeps_files Q Free declares files (components_declared file.components tally) (files_free Free files free) q)) component h
      by (inr h) more = more h

abbrev pub names_of_components : List File → List Span
names_of_components files = map (λ (one : Component). (name_of one).span) (components_in files)

pub in_map : (all : List Component) (one : Component) → IsIn one all → IsIn (name_of one).span (map (λ (one : Component). (name_of one).span) all)
in_map [] one k = absurd k
in_map (first ∷ all) one (inl e) = inl (ap (λ (it : Component). (name_of it).span) e)
in_map (first ∷ all) one (inr k) = inr (in_map all one k)

-- where the declaration of each constant of a component is read
pub then_declared : (Inv : List Span → Facts → Type 0) (SpecFits : SpecItem → Type 0) (ItemFits : Item → Type 0) (HeadFits : Component → Type 0) (keeps : KeepsInv Inv SpecFits ItemFits HeadFits)
    (uses : Meanings) (specs : Specs) (files : List File)
    → Each (ComponentFits Inv SpecFits ItemFits HeadFits keeps (names_of_components files) (program_declared uses specs files)) (components_in files) → Inv (flat_map file_names files) (files_named files (no_facts uses specs))
    → Rises (flat_map file_names files) → (component : Component) → IsIn component (components_in files)
    → ThenIn Inv SpecFits ItemFits HeadFits keeps (names_of_components files) (program_declared uses specs files) component
then_declared Inv SpecFits ItemFits HeadFits keeps uses specs files fit inv rises component there =
    then_files Inv SpecFits ItemFits HeadFits keeps (names_of_components files) (program_declared uses specs files) files (record { facts = files_named files (no_facts uses specs); enumerations = 0 })
    (in_map (components_in files)) fit inv rises refl component there

-- it holds of all that is declared
pub inv_declared : (Inv : List Span → Facts → Type 0) (SpecFits : SpecItem → Type 0) (ItemFits : Item → Type 0) (HeadFits : Component → Type 0) (keeps : KeepsInv Inv SpecFits ItemFits HeadFits)
    (uses : Meanings) (specs : Specs) (files : List File)
    → Each (ComponentFits Inv SpecFits ItemFits HeadFits keeps (names_of_components files) (program_declared uses specs files)) (components_in files)
    → Inv (flat_map file_names files) (files_named files (no_facts uses specs)) → Rises (flat_map file_names files) → Inv [] (program_declared uses specs files)
inv_declared Inv SpecFits ItemFits HeadFits keeps uses specs files fit inv rises =
    inv_files Inv SpecFits ItemFits HeadFits keeps (names_of_components files) (program_declared uses specs files) files (record { facts = files_named files (no_facts uses specs); enumerations = 0 }) fit rises inv
