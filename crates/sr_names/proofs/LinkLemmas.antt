-- Connected spots, and ways over links.
use Rattle.std.proofs.Common.{◌≡◌, ◌⊎◌, Bool, true, false, ◌&&◌, ◌||◌, eqb, List, [], ◌∷◌, refl, sym, subst, inl, inr, true≢false}
use Rattle.std.proofs.lemmas.Bool.{eqb-true, eq-eqb}
use Rattle.sr_names.specs.declared.links.Link.{Link}
use Rattle.sr_names.specs.declared.spot.Spot.{Spot}
use Rattle.sr_names.specs.Links.{connects, Among, Way, stay, go}
use Rattle.sr_names.specs.Spots.{same_spot}

and_left : (a b : Bool) → (a && b) ≡ true → a ≡ true
and_left true b e = refl
and_left false b e = e

and_right : (a b : Bool) → (a && b) ≡ true → b ≡ true
and_right true b e = e
and_right false b e = absurd (true≢false (sym e))

both : (a b : Bool) → a ≡ true → b ≡ true → (a && b) ≡ true
both true b e f = f
both false b e f = e

either : (a b : Bool) → (a || b) ≡ true → (a ≡ true) ⊎ (b ≡ true)
either true b e = inl refl
either false b e = inr e

or_left : (a b : Bool) → a ≡ true → (a || b) ≡ true
or_left true b e = refl
or_left false b e = absurd (true≢false (sym e))

or_right : (a b : Bool) → b ≡ true → (a || b) ≡ true
or_right true b e = refl
or_right false b e = e

pub same_from_iff : (a b : Bool) → (a ≡ true → b ≡ true) → (b ≡ true → a ≡ true) → a ≡ b
same_from_iff true b f g = sym (f refl)
same_from_iff false true f g = g refl
same_from_iff false false f g = refl

pub same_spot-eq : (a b : Spot) → same_spot a b ≡ true → a ≡ b
same_spot-eq a b e =
    let files : a.file ≡ b.file = eqb-true a.file b.file (and_left _ _ e) in
    let froms : a.from ≡ b.from = eqb-true a.from b.from (and_right (eqb a.file b.file) _ e) in
    (λ i. record { file = files i; from = froms i })

pub same_spot-refl : (a : Spot) → same_spot a a ≡ true
same_spot-refl a = both _ _ (eq-eqb a.file a.file refl) (eq-eqb a.from a.from refl)

pub connects-refl : (links : List Link) (a : Spot) → connects links a a ≡ true
connects-refl [] a = same_spot-refl a
connects-refl (link ∷ links) a = or_left _ _ (connects-refl links a)

pub connects-trans : (links : List Link) (a b c : Spot) → connects links a b ≡ true → connects links b c ≡ true → connects links a c ≡ true
connects-trans [] a b c h k = subst (λ x. same_spot x c ≡ true) (sym (same_spot-eq a b h)) k
connects-trans (link ∷ links) a b c h k = join (λ x y z. connects-trans links x y z) (either _ _ h) (either _ _ k)
  where
    join : ((x y z : Spot) → connects links x y ≡ true → connects links y z ≡ true → connects links x z ≡ true)
        → ((connects links a b ≡ true) ⊎ ((connects links a link.from && connects links link.to b) ≡ true))
        → ((connects links b c ≡ true) ⊎ ((connects links b link.from && connects links link.to c) ≡ true))
        → connects (link ∷ links) a c ≡ true
    join more (inl p) (inl q) = or_left _ _ (more a b c p q)
    join more (inl p) (inr q) = or_right (connects links a c) _ (both _ _ (more a b link.from p (and_left _ _ q)) (and_right (connects links b link.from) _ q))
    join more (inr p) (inl q) = or_right (connects links a c) _ (both _ _ (and_left _ _ p) (more link.to b c (and_right (connects links a link.from) _ p) q))
    join more (inr p) (inr q) = or_right (connects links a c) _ (both _ _ (and_left _ _ p) (and_right (connects links b link.from) _ q))

pub connects-link : (links : List Link) (link : Link) → Among links link → connects links link.from link.to ≡ true
connects-link [] link h = absurd h
connects-link (first ∷ links) link (inl e) =
    subst (λ (l : Link). connects (first ∷ links) l.from l.to ≡ true) e (or_right (connects links first.from first.to) _ (both _ _ (connects-refl links first.from) (connects-refl links first.to)))
connects-link (first ∷ links) link (inr h) = or_left _ _ (connects-link links link h)

-- ways
wider : (first : Link) (links : List Link) (a b : Spot) → Way links a b → Way (first ∷ links) a b
wider first links a b (stay spot) = stay spot
wider first links a b (go from end link h e w) = go from end link (inr h) e (wider first links link.to end w)

longer : (links : List Link) (a b c : Spot) → Way links a b → Way links b c → Way links a c
longer links a b c (stay spot) v = v
longer links a b c (go from end link h e w) v = go from c link h e (longer links link.to end c w v)

pub way-from_connects : (links : List Link) (a b : Spot) → connects links a b ≡ true → Way links a b
way-from_connects [] a b h = subst (λ x. Way [] a x) (same_spot-eq a b h) (stay a)
way-from_connects (link ∷ links) a b h = by (λ x y. way-from_connects links x y) (either _ _ h)
  where
    by : ((x y : Spot) → connects links x y ≡ true → Way links x y)
        → ((connects links a b ≡ true) ⊎ ((connects links a link.from && connects links link.to b) ≡ true)) → Way (link ∷ links) a b
    by more (inl p) = wider link links a b (more a b p)
    by more (inr p) =
        longer (link ∷ links) a link.from b (wider link links a link.from (more a link.from (and_left _ _ p)))
        (go link.from b link (inl refl) refl (wider link links link.to b (more link.to b (and_right (connects links a link.from) _ p))))

pub connects-from_way : (links : List Link) (a b : Spot) → Way links a b → connects links a b ≡ true
connects-from_way links a b (stay spot) = connects-refl links spot
connects-from_way links a b (go from end link h e w) =
    connects-trans links from link.to end (subst (λ x. connects links x link.to ≡ true) e (connects-link links link h)) (connects-from_way links link.to end w)
