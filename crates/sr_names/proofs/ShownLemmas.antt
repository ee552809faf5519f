-- How many components show a name, one component after another.
use Rattle.std.proofs.Common.{◌≡◌, ℕ, zero, suc, ◌+◌, true, List, [], ◌∷◌, ◌++◌, Option, None, Some, take, drop, slice_get, refl, ap, sym, ◌∙◌, add-one, take-append-drop, true≢false}
use Rattle.std.proofs.lemmas.List.Elements.{filter_map-append}
use Rattle.std.specs.Option.{option_to_list, option_and_then}
use Rattle.std.specs.List.{filter_map, cons_option}
use Rattle.sr_names.specs.declared.meaning.Decl.{Decl}
use Rattle.sr_names.specs.declared.place.Shown.{Shown}
use Rattle.sr_names.specs.declared.place.Shown.TheVariants.{Nowhere, Once, Often}
use Rattle.sr_names.specs.Shown.{counted, is_often, met}

-- one component more
counted-more : (decls : List Decl) (more : Option Decl) → counted (decls ++ option_to_list more) ≡ met (counted decls) more
counted-more [] None = refl
counted-more [] (Some decl) = refl
counted-more (first ∷ []) None = refl
counted-more (first ∷ []) (Some decl) = refl
counted-more (first ∷ second ∷ decls) None = refl
counted-more (first ∷ second ∷ decls) (Some decl) = refl

cons_option-last : {Y : Type 0} (o : Option Y) → cons_option o [] ≡ option_to_list o
cons_option-last None = refl
cons_option-last (Some y) = refl

cons_option-append : {Y : Type 0} (o : Option Y) (all front back : List Y) → all ≡ front ++ back → cons_option o all ≡ cons_option o front ++ back
cons_option-append None all front back e = e
cons_option-append (Some y) all front back e = ap (λ t. y ∷ t) e

filter_map-next : {X Y : Type 0} (h : X → Option Y) (xs : List X) (i : ℕ) → filter_map h (take (suc i) xs) ≡ filter_map h (take i xs) ++ option_to_list (option_and_then h (slice_get xs i))
filter_map-next h [] zero = refl
filter_map-next h [] (suc i) = refl
filter_map-next h (x ∷ xs) zero = cons_option-last (h x)
filter_map-next h (x ∷ xs) (suc i) = cons_option-append (h x) _ _ _ (filter_map-next h xs i)

-- what is counted up to and with the item at a place
counted-next : {X : Type 0} (gives : X → Option Decl) (items : List X) (i : ℕ) (seen after : Shown) (more : Option Decl) → seen ≡ counted (filter_map gives (take i items))
    → more ≡ option_and_then gives (slice_get items i) → after ≡ met seen more → after ≡ counted (filter_map gives (take (i + 1) items))
counted-next gives items i seen after more before is e =
    e ∙ ap (λ s. met s more) before ∙ ap (met (counted (filter_map gives (take i items)))) is
    ∙ sym (ap (λ n. counted (filter_map gives (take n items))) (add-one i) ∙ ap counted (filter_map-next gives items i) ∙ counted-more _ _)

met-none : (seen : Shown) → met seen None ≡ seen
met-none Nowhere = refl
met-none (Once decl) = refl
met-none Often = refl

often-append : (decls more : List Decl) → is_often (counted decls) ≡ true → counted decls ≡ counted (decls ++ more)
often-append [] more h = absurd (true≢false (sym h))
often-append (first ∷ []) more h = absurd (true≢false (sym h))
often-append (first ∷ second ∷ decls) more h = refl

module _ {X : Type 0} (gives : X → Option Decl) (items : List X) (i : ℕ) (seen after : Shown) (before : seen ≡ counted (filter_map gives (take i items))) (at : Option X) (here : at ≡ slice_get items i) where
  pub counted-some : (item : X) (more : Option Decl) → at ≡ Some item → more ≡ gives item → after ≡ met seen more → after ≡ counted (filter_map gives (take (i + 1) items))
  counted-some item more is shows e = counted-next gives items i seen after more before (shows ∙ sym (ap (option_and_then gives) is) ∙ ap (option_and_then gives) here) e

  pub counted-none : at ≡ None → after ≡ seen → after ≡ counted (filter_map gives (take (i + 1) items))
  counted-none is e = counted-next gives items i seen after None before (sym (ap (option_and_then gives) is) ∙ ap (option_and_then gives) here) (e ∙ sym (met-none seen))

-- more than one of the first are more than one of all
pub often-all : {X : Type 0} (gives : X → Option Decl) (items : List X) (n : ℕ) (seen : Shown) → seen ≡ counted (filter_map gives (take n items)) → is_often seen ≡ true → seen ≡ counted (filter_map gives items)
often-all gives items n seen is often =
    is
    ∙ often-append (filter_map gives (take n items)) (filter_map gives (drop n items)) (sym (ap is_often is) ∙ often)
    ∙ ap counted (sym (filter_map-append gives (take n items) (drop n items)) ∙ ap (filter_map gives) (take-append-drop n items))
