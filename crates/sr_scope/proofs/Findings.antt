-- What is found of the names of a program in which no rule of names is broken.
use Rattle.std.proofs.Common.{◌≡◌, ◌⊎◌, Bool, true, false, List, [], ◌∷◌, ◌++◌, Option, None, Some, Result, Ok, Err, refl, ap, sym, ◌∙◌, subst, inl, inr, is_some, is_ok, flat_map}
use Rattle.std.specs.List.{list_all}
use Rattle.std.proofs.lemmas.Bool.{true≢false, false≢true, and_parts, and_from}
use Rattle.std.proofs.lemmas.List.Folds.{list_all-append}
use Rattle.sr_names.specs.declared.finding.Finding.{Finding}
use Rattle.sr_names.specs.declared.finding.Finding.TheVariants.{Use, Broken}
use Rattle.sr_names.specs.declared.finding.Diagnostic.{Diagnostic}
use Rattle.sr_names.specs.declared.meaning.Meaning.{Meaning}
use Rattle.sr_names.specs.declared.diagnostics.Diagnostics.{Diagnostics}
use Rattle.sr_names.specs.declared.spot.Spot.{Spot}
use Rattle.sr_names.proofs.Marking.{entry-same, entry-other, same_spot-cases}
use Rattle.sr_names.specs.Entries.{Entries}
use Rattle.sr_names.specs.Diagnostics.{nothing, noted, all_noted}
use Rattle.sr_names.specs.Noted.{Meanings}
use Rattle.sr_names.specs.Specs.{Specs}
use Rattle.sr_names.specs.Spots.{same_spot}
use Rattle.sr_names.specs.Uses.{meaning_at, with_use}
use Rattle.sr_scope.specs.declared.program.Names.{Names}
use Rattle.sr_scope.specs.Components.{component_found, components_found, files_collected_twice, files_found, files_imports, main_found}
use Rattle.sr_names.specs.Cycles.{cycles_found}
use Rattle.sr_scope.specs.Resolved.{answered, findings, no_place, program, resolved}
use Rattle.sr_scope.specs.Uses.{IsIn, OneMeaning}
use Rattle.sr_text.specs.declared.refusal.Refusal.{Refusal}
use Rattle.sr_tree.specs.declared.component.Component.{Component}
use Rattle.sr_tree.specs.declared.component.File.{File}

-- ---- one of a list

pub in_left : {A : Type 0} (a : A) (xs ys : List A) → IsIn a xs → IsIn a (xs ++ ys)
in_left a [] ys h = absurd h
in_left a (x ∷ xs) ys (inl e) = inl e
in_left a (x ∷ xs) ys (inr h) = inr (in_left a xs ys h)

pub in_right : {A : Type 0} (a : A) (xs ys : List A) → IsIn a ys → IsIn a (xs ++ ys)
in_right a [] ys h = h
in_right a (x ∷ xs) ys h = inr (in_right a xs ys h)

pub in_either : {A : Type 0} (a : A) (xs ys : List A) → IsIn a (xs ++ ys) → IsIn a xs ⊎ IsIn a ys
in_either a [] ys h = inr h
in_either a (x ∷ xs) ys (inl e) = inl (inl e)
in_either a (x ∷ xs) ys (inr h) = by (in_either a xs ys h)
  where
    by : IsIn a xs ⊎ IsIn a ys → IsIn a (x ∷ xs) ⊎ IsIn a ys
    by (inl k) = inl (inr k)
    by (inr k) = inr k

pub in_flat : {A B : Type 0} (f : A → List B) (a : A) (b : B) (xs : List A) → IsIn a xs → IsIn b (f a) → IsIn b (flat_map f xs)
in_flat f a b [] h k = absurd h
in_flat f a b (x ∷ xs) (inl e) k = in_left b (f x) (flat_map f xs) (subst (λ y. IsIn b (f y)) (sym e) k)
in_flat f a b (x ∷ xs) (inr h) k = in_right b (f x) (flat_map f xs) (in_flat f a b xs h k)

-- ---- no rule is broken

abbrev pub is_use : Finding → Bool
is_use (Use spot meaning) = true
is_use (Broken diagnostic) = false

abbrev pub ErrorFree : List Finding → Type 0
ErrorFree found = list_all is_use found ≡ true

pub error_free_both : (f g : List Finding) → ErrorFree (f ++ g) → ErrorFree f × ErrorFree g
error_free_both f g h = and_parts (list_all is_use f) (list_all is_use g) (sym (list_all-append is_use f g) ∙ h)

pub error_free_first : (f g : List Finding) → ErrorFree (f ++ g) → ErrorFree f
error_free_first f g h = (error_free_both f g h).0

pub error_free_after : (f g : List Finding) → ErrorFree (f ++ g) → ErrorFree g
error_free_after f g h = (error_free_both f g h).1

pub all_at : {A : Type 0} (test : A → Bool) (xs : List A) → list_all test xs ≡ true → (a : A) → IsIn a xs → test a ≡ true
all_at test [] h a k = absurd k
all_at test (x ∷ xs) h a (inl e) = subst (λ y. test y ≡ true) e (and_parts (test x) (list_all test xs) h).0
all_at test (x ∷ xs) h a (inr k) = all_at test xs (and_parts (test x) (list_all test xs) h).1 a k

pub all_from : {A : Type 0} (test : A → Bool) (xs : List A) → ((a : A) → IsIn a xs → test a ≡ true) → list_all test xs ≡ true
all_from test [] h = refl
all_from test (x ∷ xs) h = and_from (test x) (list_all test xs) (h x (inl refl)) (all_from test xs (λ a k. h a (inr k)))

first_stays : (diagnostics : Diagnostics) (found : List Finding) → is_some diagnostics.first ≡ true → is_some (all_noted diagnostics found).first ≡ true
first_stays diagnostics [] h = h
first_stays diagnostics (Use spot meaning ∷ found) h = first_stays (noted diagnostics (Use spot meaning)) found h
first_stays diagnostics (Broken diagnostic ∷ found) h = first_stays (noted diagnostics (Broken diagnostic)) found refl

-- where no broken rule is kept there is none
nothing_broken : (diagnostics : Diagnostics) (found : List Finding) → (all_noted diagnostics found).first ≡ None → ErrorFree found
nothing_broken diagnostics [] e = refl
nothing_broken diagnostics (Use spot meaning ∷ found) e = nothing_broken (noted diagnostics (Use spot meaning)) found e
nothing_broken diagnostics (Broken diagnostic ∷ found) e = absurd (true≢false (sym (first_stays (noted diagnostics (Broken diagnostic)) found refl) ∙ ap is_some e))

answered_none : (uses : Meanings) (first : Option Diagnostic) (specs : Specs) (names : Names)
    → answered (record { uses = uses; first = first }) specs ≡ Ok names → (first ≡ None) × (names.uses ≡ uses)
answered_none uses None specs names e = (refl, ap uses_in (sym e))
  where
    uses_in : Result Names Refusal → Meanings
    uses_in (Ok named) = named.uses
    uses_in (Err refusal) = uses
answered_none uses (Some diagnostic) specs names e = absurd (false≢true (ap is_ok e))

-- no rule of names is broken in a program that isn't refused for one
pub all_uses : (files : List File) (names : Names) → resolved files ≡ Ok names → ErrorFree (findings files)
all_uses files names e =
    nothing_broken nothing (findings files)
    (answered_none (all_noted nothing (findings files)).uses (all_noted nothing (findings files)).first (program files).specs names e).0

pub uses_noted : (files : List File) (names : Names) → resolved files ≡ Ok names → names.uses ≡ (all_noted nothing (findings files)).uses
uses_noted files names e =
    (answered_none (all_noted nothing (findings files)).uses (all_noted nothing (findings files)).first (program files).specs names e).1

-- ---- meanings

-- what is noted of a use stays, where each use at its spot has that meaning
pub meaning_stays : (found : List Finding) (diagnostics : Diagnostics) (spot : Spot) (meaning : Meaning)
    → ((other : Meaning) → IsIn (Use spot other) found → other ≡ meaning)
    → IsIn (Use spot meaning) found ⊎ (meaning_at diagnostics.uses spot ≡ Some meaning)
    → meaning_at (all_noted diagnostics found).uses spot ≡ Some meaning
meaning_stays [] diagnostics spot meaning same (inl h) = absurd h
meaning_stays [] diagnostics spot meaning same (inr h) = h
meaning_stays (Broken diagnostic ∷ found) diagnostics spot meaning same h = meaning_stays found (noted diagnostics (Broken diagnostic)) spot meaning (λ other k. same other (inr k)) (by h)
  where
    by : IsIn (Use spot meaning) (Broken diagnostic ∷ found) ⊎ (meaning_at diagnostics.uses spot ≡ Some meaning) → IsIn (Use spot meaning) found ⊎ (meaning_at diagnostics.uses spot ≡ Some meaning)
    by (inl (inl e)) = absurd (false≢true (ap is_use e))
    by (inl (inr k)) = inl k
    by (inr k) = inr k
meaning_stays (Use there other ∷ found) diagnostics spot meaning same h = meaning_stays found (noted diagnostics (Use there other)) spot meaning (λ one k. same one (inr k)) (by h)
  where
    now : spot ≡ there → other ≡ meaning → meaning_at (with_use diagnostics.uses there other) spot ≡ Some meaning
    now e f = ap (λ at. meaning_at (with_use diagnostics.uses there other) at) e ∙ entry-same diagnostics.uses there other ∙ ap Some f

    kept : (spot ≡ there) ⊎ (same_spot spot there ≡ false) → meaning_at diagnostics.uses spot ≡ Some meaning → meaning_at (with_use diagnostics.uses there other) spot ≡ Some meaning
    kept (inl e) k = now e (same other (inl (ap (λ at. Use at other) (sym e))))
    kept (inr e) k = entry-other diagnostics.uses there other spot e ∙ k

    same_place : Use there other ≡ Use spot meaning → spot ≡ there
    same_place e = cc

    same_meaning : Use there other ≡ Use spot meaning → other ≡ meaning
    same_meaning e = cc

    by : IsIn (Use spot meaning) (Use there other ∷ found) ⊎ (meaning_at diagnostics.uses spot ≡ Some meaning)
        → IsIn (Use spot meaning) found ⊎ (meaning_at (with_use diagnostics.uses there other) spot ≡ Some meaning)
    by (inl (inl e)) = inr (now (same_place e) (same_meaning e))
    by (inl (inr k)) = inl k
    by (inr k) = inr (kept (same_spot-cases spot there) k)

-- the meaning of a use that is found
pub use_means : (files : List File) (names : Names) → resolved files ≡ Ok names → OneMeaning (findings files)
    → (spot : Spot) (meaning : Meaning) → IsIn (Use spot meaning) (findings files) → meaning_at names.uses spot ≡ Some meaning
use_means files names e one spot meaning found =
    ap (λ uses. meaning_at uses spot) (uses_noted files names e)
    ∙ meaning_stays (findings files) nothing spot meaning (λ other k. one spot other meaning k found) (inl found)

-- ---- what is found in a component is found in its program

in_components : (components : Entries) (specs : Specs) (all : List Component) (component : Component) → IsIn component all
    → (finding : Finding) → IsIn finding (component_found components specs component) → IsIn finding (components_found components specs all)
in_components components specs [] component there finding h = absurd there
in_components components specs (first ∷ all) component (inl e) finding h =
    in_left finding (component_found components specs first) _ (subst (λ c. IsIn finding (component_found components specs c)) (sym e) h)
in_components components specs (first ∷ all) component (inr there) finding h =
    in_right finding (component_found components specs first) _ (in_components components specs all component there finding h)

in_files : (components : Entries) (specs : Specs) (files : List File) (component : Component) → IsIn component (flat_map (λ file. file.components) files)
    → (finding : Finding) → IsIn finding (component_found components specs component) → IsIn finding (files_found components specs files)
in_files components specs [] component there finding h = absurd there
in_files components specs (file ∷ files) component there finding h =
    by (in_either component file.components (flat_map (λ one. one.components) files) there) (λ k. in_files components specs files component k finding h)
  where
    by : IsIn component file.components ⊎ IsIn component (flat_map (λ one. one.components) files)
        → (IsIn component (flat_map (λ one. one.components) files) → IsIn finding (files_found components specs files))
        → IsIn finding (files_found components specs (file ∷ files))
    by (inl k) more = in_left finding (components_found components specs file.components) _ (in_components components specs file.components component k finding h)
    by (inr k) more = in_right finding (components_found components specs file.components) _ (more k)

pub in_program : (files : List File) (component : Component) → IsIn component (flat_map (λ file. file.components) files)
    → (finding : Finding) → IsIn finding (component_found (program files).components (program files).specs component) → IsIn finding (findings files)
in_program files component there finding h =
    in_right finding (files_collected_twice files no_place) _
    (in_right finding (main_found files) _
    (in_right finding (cycles_found (files_imports (program files).components files)) _
    (in_files (program files).components (program files).specs files component there finding h)))

-- no rule is broken in a component of the program
pub component_error_free : (files : List File) (names : Names) → resolved files ≡ Ok names
    → (component : Component) → IsIn component (flat_map (λ file. file.components) files)
    → ErrorFree (component_found (program files).components (program files).specs component)
component_error_free files names e component there =
    all_from is_use _ (λ finding k. all_at is_use (findings files) (all_uses files names e) finding (in_program files component there finding k))
