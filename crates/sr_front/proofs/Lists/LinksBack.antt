-- Links without a way back: among finitely many things one leads to none of the others.
use Rattle.std.proofs.Common.{◌≡◌, ◌⊎◌, inl, inr, true, false, List, [], ◌∷◌, refl, sym, ap, subst, ◌∙◌}
use Rattle.std.proofs.lemmas.Bool.{false≢true}
use Rattle.sr_names.proofs.LinkLemmas.{connects-link, connects-trans}
use Rattle.sr_names.specs.declared.links.Link.{Link}
use Rattle.sr_names.specs.declared.spot.Spot.{Spot}
use Rattle.sr_names.specs.Links.{Among, connects}
use Rattle.sr_scope.specs.Uses.{IsIn}

module _ (links : List Link) where
  -- a link leads from a spot, and on to another
  pub record Leads (from to : Spot) : Type 0 where
    pub link : Link
    pub among : Among links link
    pub begins : link.from ≡ from
    pub leads : connects links link.to to ≡ true

  connected : (from to : Spot) → Leads from to → connects links from to ≡ true
  connected from to way =
      subst (λ spot. connects links spot to ≡ true) way.begins
      (connects-trans links way.link.from way.link.to to (connects-link links way.link way.among) way.leads)

  leads_on : (first second third : Spot) → Leads first second → Leads second third → Leads first third
  leads_on first second third a b =
      record { link = a.link; among = a.among; begins = a.begins; leads = connects-trans links a.link.to second third a.leads (connected second third b) }

  -- no link leads back to where it begins
  abbrev pub NoneBack : Type 0
  NoneBack = (link : Link) → Among links link → connects links link.to link.from ≡ false

  not_round : NoneBack → (spot : Spot) → Leads spot spot → ⊥
  not_round back spot way = false≢true (sym (back way.link way.among) ∙ (ap (connects links way.link.to) way.begins ∙ way.leads))

  module _ {A : Type 0} (spot_in : A → Spot) where
    -- one leads to another of some
    abbrev pub LeadsTo : List A → A → Type 0
    LeadsTo things one = (other : A) × IsIn other things × Leads (spot_in one) (spot_in other)

    -- where each of some things leads to one of them, there are none
    pub none_leads : NoneBack → (things : List A) → ((one : A) → IsIn one things → LeadsTo things one) → (one : A) → IsIn one things → ⊥
    none_leads back [] next one k = k
    none_leads back (first ∷ things) next one k = by (next first (inl refl)).1 (none_leads back things)
      where
        other : A
        other = (next first (inl refl)).0

        leads : Leads (spot_in first) (spot_in other)
        leads = (next first (inl refl)).2

        past : IsIn other things → (thing : A) → LeadsTo (first ∷ things) thing → LeadsTo things thing
        past there thing to = in_rest to.1
          where
            in_rest : (first ≡ to.0) ⊎ IsIn to.0 things → LeadsTo things thing
            in_rest (inl e) = (other, there, leads_on (spot_in thing) (spot_in first) (spot_in other) (subst (λ it. Leads (spot_in thing) (spot_in it)) (sym e) to.2) leads)
            in_rest (inr h) = (to.0, h, to.2)

        by : (first ≡ other) ⊎ IsIn other things → (((thing : A) → IsIn thing things → LeadsTo things thing) → (thing : A) → IsIn thing things → ⊥) → ⊥
        by (inl e) more = not_round back (spot_in first) (subst (λ it. Leads (spot_in first) (spot_in it)) (sym e) leads)
        by (inr there) more = more (λ thing h. past there thing (next thing (inr h))) other there
