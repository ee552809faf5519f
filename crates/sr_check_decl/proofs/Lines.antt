-- The places at which declarations may have their types next, from wave to wave.
use Rattle.std.proofs.Common.{◌≡◌, ℕ, ◌<◌, suc, zero, true, List, [], ◌∷◌, map, length, get_or, Some, option_map, sym, ◌∙◌, ap, subst, arith}
use Rattle.std.specs.List.{filter, slice_get}
use Rattle.std.specs.List.Sorted.{IsStrictlySortedBy}
use Rattle.std.specs.Ordering.{nat_cmp}
use Rattle.std.proofs.lemmas.Option.{slice_get-map}
use Rattle.sr_names.specs.declared.spot.Spot.{Spot}
use Rattle.sr_check_expr.specs.declared.facts.Facts.{Facts}
use Rattle.sr_check_decl.specs.Inferring.{all_settled, can_settle, wave}
use Rattle.sr_check_decl.specs.Needers.{with_all_needs, needers_after, has_place}
use Rattle.sr_check_decl.specs.Needs.{needs_in, FirstAreKnown}
use Rattle.sr_check_decl.specs.Picked.{picked}
use Rattle.sr_check_decl.specs.Waiting.{Waiting}
use Rattle.sr_check_decl.proofs.Known.{uses_stay, first_known-stays, NamesSettled, names_settled}
use Rattle.sr_check_decl.proofs.Naming.{names-are-noted, after-has}
use Rattle.sr_check_decl.proofs.Places.{picks-all, sorted-below, has-below}
use Rattle.sr_check_decl.proofs.Tests.{none_some}

-- the places, in order, have all at which a declaration can have its type
pub record Lined (facts : Facts) (waiting : List Waiting) (rows : List (List Spot)) (counts places : List ℕ) : Type 0 where
  pub rows_are : rows ≡ map (needs_in facts.uses) waiting
  pub known : FirstAreKnown facts rows counts
  pub rising : IsStrictlySortedBy nat_cmp places
  pub covers : (i : ℕ) (w : Waiting) → slice_get waiting i ≡ Some w → can_settle facts w ≡ true → has_place places i ≡ true

slice_get-within : {A : Type 0} (xs : List A) (i : ℕ) (x : A) → slice_get xs i ≡ Some x → i < length xs
slice_get-within [] i x is = absurd (none_some x is)
slice_get-within (y ∷ ys) zero x is = omega arith
slice_get-within (y ∷ ys) (suc i) x is = let more = slice_get-within ys i x is in omega (arith, more)

-- at first all places
pub lined-first : (facts : Facts) (waiting : List Waiting) (rows : List (List Spot)) (counts places : List ℕ) → rows ≡ map (needs_in facts.uses) waiting → FirstAreKnown facts rows counts
    → length places ≡ length waiting → ((k : ℕ) → k < length waiting → get_or places k 0 ≡ k) → Lined facts waiting rows counts places
lined-first facts waiting rows counts places are known long each = record {
  rows_are = are;
  known = known;
  rising = sorted-below places (λ k low. each k (omega (arith, low, long)));
  covers = λ i w is can.
      let within = slice_get-within waiting i w is in
      has-below places (λ k low. each k (omega (arith, low, long))) i (omega (arith, within, long));
}

module _ (facts after : Facts) (waiting ws : List Waiting) (rows : List (List Spot)) (counts places : List ℕ) (lined : Lined facts waiting rows counts places) (picks : ws ≡ picked facts waiting places)
    (settles : after ≡ all_settled ws facts) where
  is-wave : ws ≡ filter (can_settle facts) waiting
  is-wave = picks ∙ picks-all facts waiting places lined.rising lined.covers

  pub after-wave : after ≡ wave waiting facts
  after-wave = settles ∙ ap (λ vs. all_settled vs facts) is-wave

  pub same-after : ws ≡ [] → wave waiting facts ≡ facts
  same-after none = ap (λ vs. all_settled vs facts) (sym is-wave ∙ none)

  pub lined-next : (new next : List ℕ) → FirstAreKnown facts rows new → IsStrictlySortedBy nat_cmp next
      → ((place : ℕ) → has_place next place ≡ has_place (needers_after (with_all_needs [] 0 rows) ws) place) → Lined after waiting rows new next
  lined-next new next known rising same = record {
    rows_are = lined.rows_are ∙ ap (λ uses. map (needs_in uses) waiting) (sym (ap (λ (f : Facts). f.uses) settles ∙ uses_stay ws facts));
    known = subst (λ (f : Facts). FirstAreKnown f rows new) (sym settles) (first_known-stays ws facts rows new known);
    rising = rising;
    covers = λ i w is can. by i w is (names_settled waiting facts i w is (sym (ap (λ f. can_settle f w) after-wave) ∙ can));
  }
    where
      by : (i : ℕ) (w : Waiting) → slice_get waiting i ≡ Some w → NamesSettled waiting facts w → has_place next i ≡ true
      by i w is named =
          let row : slice_get rows i ≡ Some (needs_in facts.uses w) =
          ap (λ rs. slice_get rs i) lined.rows_are ∙ slice_get-map (needs_in facts.uses) waiting i ∙ ap (option_map (needs_in facts.uses)) is in
          let noted = names-are-noted rows i (needs_in facts.uses w) named.spot row named.named in
          same i ∙ ap (λ vs. has_place (needers_after (with_all_needs [] 0 rows) vs) i) is-wave
          ∙ after-has (with_all_needs [] 0 rows) (filter (can_settle facts) waiting) named.spot i named.settles noted

-- the same where the values stand for one another
pub lined-on : (facts after : Facts) (waiting ws : List Waiting) (rows new_rows first : List (List Spot)) (counts new places found next : List ℕ) (needers : List (Spot × List ℕ))
    → Lined facts waiting rows counts places → rows ≡ first → needers ≡ with_all_needs [] 0 first → ws ≡ picked facts waiting places → new_rows ≡ rows → FirstAreKnown facts new_rows new
    → after ≡ all_settled ws facts → found ≡ needers_after needers ws → IsStrictlySortedBy nat_cmp next → ((place : ℕ) → has_place next place ≡ has_place found place)
    → Lined after waiting new_rows new next
lined-on facts after waiting ws rows new_rows first counts new places found next needers lined are_first are_needers picks same known settles are_found rising has =
    subst (λ rs. Lined after waiting rs new next) (sym same)
    (lined-next facts after waiting ws rows counts places lined picks settles new next (subst (λ rs. FirstAreKnown facts rs new) same known) rising
    (λ place. has place ∙ ap (λ ps. has_place ps place) (are_found ∙ ap (λ ns. needers_after ns ws) (are_needers ∙ ap (λ rs. with_all_needs [] 0 rs) (sym are_first)))))
