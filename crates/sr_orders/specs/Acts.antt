-- Acts on a whole that has parts. Each act is on one part: that part alone says whether the act fits, and no other part
-- is changed.
use Rattle.std.specs.List.{list_any}
use Rattle.std.specs.Prelude.{◌≡◌, ◌↔◌, ◌==◌, ℕ, ◌<◌, Bool, false, List, [], ◌∷◌, filter, flat_map}

module _ {W A : Type 0} (count : ℕ) (part : A → ℕ) (mask : ℕ → W → W) (fits : A → W → Type 0) (apply : A → W → W) where
  -- what a part has of the whole tells whether an act on it fits, and changes as the whole does; other parts don't change
  pub record AreLocal : Type 0 where
    pub here_fits : (act : A) (whole : W) → fits act (mask (part act) whole) ↔ fits act whole
    pub here : (act : A) (whole : W) → mask (part act) (apply act whole) ≡ apply act (mask (part act) whole)
    pub away : (s : ℕ) (act : A) (whole : W) → (part act == s) ≡ false → mask s (apply act whole) ≡ mask s whole
    pub below : (act : A) → part act < count

  -- ---- one act after another

  -- each act fits what those before it have left
  abbrev pub Replays : List A → W → Type 0
  Replays [] whole = Unit {0}
  Replays (act ∷ acts) whole = fits act whole × Replays acts (apply act whole)

  abbrev pub after : List A → W → W
  after [] whole = whole
  after (act ∷ acts) whole = after acts (apply act whole)

  abbrev pub is_on : ℕ → A → Bool
  is_on s act = part act == s

  -- ---- the law of orders

  -- acts replay where those on each part replay in that part by itself
  abbrev pub AllReplay : Type 0
  AllReplay = (acts : List A) (whole : W) → ((s : ℕ) → s < count → Replays (filter (is_on s) acts) (mask s whole)) → Replays acts whole

  -- and only there
  abbrev pub PartsReplay : Type 0
  PartsReplay = (acts : List A) (whole : W) → Replays acts whole → (s : ℕ) → Replays (filter (is_on s) acts) (mask s whole)

  -- each part ends as it does by itself
  abbrev pub PartsEnd : Type 0
  PartsEnd = (acts : List A) (whole : W) (s : ℕ) → mask s (after acts whole) ≡ after (filter (is_on s) acts) (mask s whole)

  -- ---- entries, each of some acts

  module _ {E : Type 0} (acts_of : E → List A) where
    abbrev pub touches : ℕ → E → Bool
    touches s entry = list_any (is_on s) (acts_of entry)

    -- two orders of entries in which each part finds its own in the same order
    abbrev pub AgreeInParts : List E → List E → Type 0
    AgreeInParts entries others = (s : ℕ) → s < count → filter (touches s) entries ≡ filter (touches s) others

    -- Where one order replays, so does every other in which each part finds its own in the same order; and each part ends as it did.
    abbrev pub OrdersAgree : Type 0
    OrdersAgree = (entries others : List E) (whole : W) → AgreeInParts entries others → Replays (flat_map acts_of entries) whole
        → Replays (flat_map acts_of others) whole
        × ((s : ℕ) → s < count → mask s (after (flat_map acts_of others) whole) ≡ mask s (after (flat_map acts_of entries) whole))

    -- Where each part's journal has its entries of one history, and replays in that part by itself, the history replays, and each
    -- part ends as its journal says.
    abbrev pub JournalsReplay : Type 0
    JournalsReplay = (history : List E) (journals : ℕ → List E) (whole : W) → ((s : ℕ) → s < count → journals s ≡ filter (touches s) history)
        → ((s : ℕ) → s < count → Replays (filter (is_on s) (flat_map acts_of (journals s))) (mask s whole))
        → Replays (flat_map acts_of history) whole
        × ((s : ℕ) → s < count → mask s (after (flat_map acts_of history) whole) ≡ after (filter (is_on s) (flat_map acts_of (journals s))) (mask s whole))
