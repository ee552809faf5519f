-- What all living processes ask.
use Rattle.std.proofs.Common.{◌≡◌, ◌||◌, ◌&&◌, ◌+◌, ◌<◌, ℕ, suc, Bool, List, [], ◌∷◌, ◌++◌, map, Option, Some, length, get_or, take, refl, ap, ap₂, sym, ◌∙◌}
use Rattle.std.proofs.lemmas.List.{flat_map_more, take_more}
use Rattle.std.specs.List.{list_any}
use Rattle.std.specs.Prelude.{flat_map, slice_get}
use Rattle.sr_ask.specs.declared.ask.Asks.{Asks}
use Rattle.sr_ask.specs.declared.start.Start.{Start}
use Rattle.sr_core.specs.declared.component.Core.{Core}
use Rattle.sr_world.specs.Runs.{IsValid, State, asks_age, asks_in, asks_next, comes_after, heeds_time, naps}
use Rattle.sr_world.specs.Worlds.{World, started}
use Rattle.sr_replay.specs.Replaying.{asked_by}
use Rattle.sr_replay.proofs.LedLemmas.{place-started}

-- where each gives one piece, all give a list of these
pub all-single : {X Y Z : Type 0} (h : X → Y) (f : Y → List Z) (g : X → Z) (xs : List X) → ((k : ℕ) (x : X) → slice_get xs k ≡ Some x → f (h x) ≡ g x ∷ []) → flat_map f (map h xs) ≡ map g xs
all-single h f g [] each = refl
all-single h f g (x ∷ xs) each = ap (λ zs. zs ++ flat_map f (map h xs)) (each 0 x refl) ∙ ap (λ zs. g x ∷ zs) (all-single h f g xs (λ k y is. each (suc k) y is))

-- a process that lives asks this
pub asked-one : (core : Core) (limit : ℕ) (state : State) (o : Option Start) (start : Start) → o ≡ Some start → asked_by core limit state o ≡ (start.process, asks_next core limit state start) ∷ []
asked-one core limit state o start is = ap (asked_by core limit state) is

-- each living process asks once
pub asked-all : (core : Core) (limit : ℕ) (state : State) → IsValid core limit state
    → flat_map (λ process. asked_by core limit state (started state.world process)) (map (λ start. start.process) state.world.live) ≡ asks_in core limit state
asked-all core limit state valid =
    all-single (λ (s : Start). s.process) (λ process. asked_by core limit state (started state.world process)) (λ s. (s.process, asks_next core limit state s)) state.world.live
    (λ k s is. asked-one core limit state (started state.world s.process) s (place-started core limit state valid k s is))

list_any-map : {X Y : Type 0} (p : Y → Bool) (f : X → Y) (xs : List X) → list_any p (map f xs) ≡ list_any (λ x. p (f x)) xs
list_any-map p f [] = refl
list_any-map p f (x ∷ xs) = ap (λ b. p (f x) || b) (list_any-map p f xs)

-- whether some process heeds time
pub heed-is : (core : Core) (limit : ℕ) (state : State) (asks : List (ℕ × Asks)) (moment : ℕ) → asks ≡ asks_in core limit state → moment ≡ state.world.moment
    → list_any (λ one. naps moment one.1 || asks_age one.1) asks ≡ heeds_time core limit state
heed-is core limit state asks moment is same =
    ap (list_any (λ one. naps moment one.1 || asks_age one.1)) is
    ∙ ap (λ m. list_any (λ one. naps m one.1 || asks_age one.1) (asks_in core limit state)) same
    ∙ list_any-map (λ (one : ℕ × Asks). naps state.world.moment one.1 || asks_age one.1) (λ (s : Start). (s.process, asks_next core limit state s)) state.world.live

-- whether time may pass
pub may-is : (core : Core) (limit : ℕ) (state : State) (asks : List (ℕ × Asks)) (moment to : ℕ) (may : Bool) → may ≡ (comes_after moment to && list_any (λ one. naps moment one.1 || asks_age one.1) asks)
    → asks ≡ asks_in core limit state → moment ≡ state.world.moment → (comes_after state.world.moment to && heeds_time core limit state) ≡ may
may-is core limit state asks moment to may is all same =
    sym (is ∙ ap₂ (λ a b. a && b) (ap (λ m. comes_after m to) same) (heed-is core limit state asks moment all same))

-- one piece more
pub pieces-more : {X Z : Type 0} (f : X → List Z) (initial old new : List Z) (xs : List X) (place : ℕ) (d : X) → place < length xs → old ≡ initial ++ flat_map f (take place xs) → new ≡ old ++ f (get_or xs place d)
    → new ≡ initial ++ flat_map f (take (place + 1) xs)
pieces-more f initial old new xs place d within before added =
    added ∙ ap (λ zs. zs ++ f (get_or xs place d)) before ∙ flat_map_more f initial (take place xs) (get_or xs place d)
    ∙ ap (λ ys. initial ++ flat_map f ys) (sym (take_more xs place d within))

-- the asks of all that live are those of the state
pub all-asked : (core : Core) (limit : ℕ) (state : State) → IsValid core limit state → (w : World) → w ≡ state.world → (numbers : List ℕ) → numbers ≡ map (λ start. start.process) w.live
    → (old new : List (ℕ × Asks)) → old ≡ [] → new ≡ old ++ flat_map (λ process. asked_by core limit state (started state.world process)) numbers → new ≡ asks_in core limit state
all-asked core limit state valid w same numbers are old new none is =
    is ∙ ap (λ os. os ++ flat_map (λ process. asked_by core limit state (started state.world process)) numbers) none
    ∙ ap (flat_map (λ process. asked_by core limit state (started state.world process))) (are ∙ ap (λ (v : World). map (λ start. start.process) v.live) same) ∙ asked-all core limit state valid
