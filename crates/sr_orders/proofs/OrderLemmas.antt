-- The law of orders.
use Rattle.std.proofs.Common.{◌≡◌, ◌==◌, ℕ, ◌<◌, Bool, true, false, List, [], ◌∷◌, ◌++◌, refl, ap, sym, ◌∙◌, subst, cond, eqb-true, true≢false}
use Rattle.std.proofs.lemmas.Bool.{eq-eqb}
use Rattle.std.proofs.lemmas.List.Elements.{filter-append}
use Rattle.std.specs.List.{list_any}
use Rattle.std.specs.Prelude.{◌↔◌, filter, flat_map}
use Rattle.sr_orders.specs.Acts.{AllReplay, AreLocal, JournalsReplay, OrdersAgree, PartsEnd, PartsReplay, Replays, after}
use Rattle.sr_orders.proofs.ListLemmas.{filter_none, filter_twice}

module _ {W A : Type 0} (count : ℕ) (part : A → ℕ) (mask : ℕ → W → W) (fits : A → W → Type 0) (apply : A → W → W) (local : AreLocal count part mask fits apply) where
  abbrev on : ℕ → A → Bool
  on s act = part act == s

  abbrev Fit : List A → W → Type 0
  Fit acts whole = Replays count part mask fits apply acts whole

  abbrev end_of : List A → W → W
  end_of acts whole = after count part mask fits apply acts whole

  moved : (s : ℕ) (act : A) (whole : W) → (part act == s) ≡ true → mask s (apply act whole) ≡ apply act (mask s whole)
  moved s act whole is = subst (λ t. mask t (apply act whole) ≡ apply act (mask t whole)) (eqb-true (part act) s is) (local.here act whole)

  same_fit : (s : ℕ) (act : A) (whole : W) → (part act == s) ≡ true → fits act (mask s whole) ↔ fits act whole
  same_fit s act whole is = subst (λ t. fits act (mask t whole) ↔ fits act whole) (eqb-true (part act) s is) (local.here_fits act whole)

  -- ---- what parts tell of the whole

  -- a part after one more act, whether the act is on it or not
  part_step : (s : ℕ) (act : A) (acts : List A) (whole : W) (b : Bool) → (part act == s) ≡ b
      → Fit (cond b (act ∷ filter (on s) acts) (filter (on s) acts)) (mask s whole) → Fit (filter (on s) acts) (mask s (apply act whole))
  part_step s act acts whole true is h = subst (λ v. Fit (filter (on s) acts) v) (sym (moved s act whole is)) h.1
  part_step s act acts whole false is h = subst (λ v. Fit (filter (on s) acts) v) (sym (local.away s act whole is)) h

  first_fits : (act : A) (acts : List A) (whole : W) (b : Bool) → (part act == part act) ≡ b
      → Fit (cond b (act ∷ filter (on (part act)) acts) (filter (on (part act)) acts)) (mask (part act) whole) → fits act whole
  first_fits act acts whole true is h = (local.here_fits act whole).0 h.0
  first_fits act acts whole false is h = absurd (true≢false (sym (eq-eqb (part act) (part act) refl) ∙ is))

  pub all_replay : AllReplay count part mask fits apply
  all_replay [] whole parts = tt
  all_replay (act ∷ acts) whole parts = (
    first_fits act acts whole (part act == part act) refl (parts (part act) (local.below act)),
    all_replay acts (apply act whole) (λ s lt. part_step s act acts whole (part act == s) refl (parts s lt)),
  )

  -- ---- what the whole tells of parts

  kept_step : (s : ℕ) (act : A) (acts : List A) (whole : W) (b : Bool) → (part act == s) ≡ b → fits act whole
      → Fit (filter (on s) acts) (mask s (apply act whole)) → Fit (cond b (act ∷ filter (on s) acts) (filter (on s) acts)) (mask s whole)
  kept_step s act acts whole true is fit h = ((same_fit s act whole is).1 fit, subst (λ v. Fit (filter (on s) acts) v) (moved s act whole is) h)
  kept_step s act acts whole false is fit h = subst (λ v. Fit (filter (on s) acts) v) (local.away s act whole is) h

  pub parts_replay : PartsReplay count part mask fits apply
  parts_replay [] whole h s = tt
  parts_replay (act ∷ acts) whole h s = kept_step s act acts whole (part act == s) refl h.0 (parts_replay acts (apply act whole) h.1 s)

  end_step : (s : ℕ) (act : A) (acts : List A) (whole : W) (b : Bool) → (part act == s) ≡ b
      → end_of (filter (on s) acts) (mask s (apply act whole)) ≡ end_of (cond b (act ∷ filter (on s) acts) (filter (on s) acts)) (mask s whole)
  end_step s act acts whole true is = ap (end_of (filter (on s) acts)) (moved s act whole is)
  end_step s act acts whole false is = ap (end_of (filter (on s) acts)) (local.away s act whole is)

  pub parts_end : PartsEnd count part mask fits apply
  parts_end [] whole s = refl
  parts_end (act ∷ acts) whole s = parts_end acts (apply act whole) s ∙ end_step s act acts whole (part act == s) refl

  -- ---- entries

  module _ {E : Type 0} (acts_of : E → List A) where
    abbrev has : ℕ → E → Bool
    has s entry = list_any (on s) (acts_of entry)

    -- the acts on a part are those of the entries that touch it
    acts_on : (s : ℕ) (entries : List E) → filter (on s) (flat_map acts_of entries) ≡ flat_map (λ entry. filter (on s) (acts_of entry)) (filter (has s) entries)
    acts_on s [] = refl
    acts_on s (entry ∷ entries) = filter-append (on s) (acts_of entry) (flat_map acts_of entries) ∙ one (has s entry) refl (acts_on s entries)
      where
        one : (b : Bool) → has s entry ≡ b → filter (on s) (flat_map acts_of entries) ≡ flat_map (λ e. filter (on s) (acts_of e)) (filter (has s) entries)
            → filter (on s) (acts_of entry) ++ filter (on s) (flat_map acts_of entries) ≡ flat_map (λ e. filter (on s) (acts_of e)) (cond b (entry ∷ filter (has s) entries) (filter (has s) entries))
        one true is more = ap (λ (l : List A). filter (on s) (acts_of entry) ++ l) more
        one false is more = ap (λ (l : List A). l ++ filter (on s) (flat_map acts_of entries)) (filter_none (on s) (acts_of entry) is) ∙ more

    same_acts : (s : ℕ) (entries others : List E) → filter (has s) entries ≡ filter (has s) others
        → filter (on s) (flat_map acts_of entries) ≡ filter (on s) (flat_map acts_of others)
    same_acts s entries others same = acts_on s entries ∙ ap (flat_map (λ entry. filter (on s) (acts_of entry))) same ∙ sym (acts_on s others)

    pub orders_agree : OrdersAgree count part mask fits apply acts_of
    orders_agree entries others whole agree h = (
      all_replay (flat_map acts_of others) whole
          (λ s lt. subst (λ acts. Fit acts (mask s whole)) (same_acts s entries others (agree s lt)) (parts_replay (flat_map acts_of entries) whole h s)),
      λ s lt. parts_end (flat_map acts_of others) whole s ∙ ap (λ (acts : List A). end_of acts (mask s whole)) (sym (same_acts s entries others (agree s lt)))
          ∙ sym (parts_end (flat_map acts_of entries) whole s),
    )

    pub journals_replay : JournalsReplay count part mask fits apply acts_of
    journals_replay history journals whole parts fit = (
      all_replay (flat_map acts_of history) whole (λ s lt. subst (λ acts. Fit acts (mask s whole)) (journal_acts s lt) (fit s lt)),
      λ s lt. parts_end (flat_map acts_of history) whole s ∙ ap (λ (acts : List A). end_of acts (mask s whole)) (sym (journal_acts s lt)),
    )
      where
        journal_acts : (s : ℕ) → s < count → filter (on s) (flat_map acts_of (journals s)) ≡ filter (on s) (flat_map acts_of history)
        journal_acts s lt = same_acts s (journals s) history (ap (filter (has s)) (parts s lt) ∙ filter_twice (has s) history)
