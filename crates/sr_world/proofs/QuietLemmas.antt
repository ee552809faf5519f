-- No process can step where each that lives is blocked.
use Rattle.std.proofs.Common.{◌≡◌, ℕ, Bool, ◌&&◌, List, [], ◌∷◌, map, refl, ap, sym, ◌∙◌}
use Rattle.std.specs.Prelude.{IfOk, Result, Ok, Err}
use Rattle.std.specs.List.{list_all}
use Rattle.sr_ask.specs.declared.ask.Asks.{Asks}
use Rattle.sr_core.specs.declared.component.Core.{Core}
use Rattle.sr_value.specs.declared.memory.NoMemory.{NoMemory}
use Rattle.sr_world.specs.Runs.{State, asks_in, asks_next, is_blocked, no_step}
use Rattle.sr_world.specs.Worlds.{World}

list_all-map : {A B : Type 0} (p : B → Bool) (f : A → B) (xs : List A) → list_all p (map f xs) ≡ list_all (λ x. p (f x)) xs
list_all-map p f [] = refl
list_all-map p f (x ∷ xs) = ap (λ b. p (f x) && b) (list_all-map p f xs)

pub quiet_is : (core : Core) (limit : ℕ) (state : State) (world : World) (asks : List (ℕ × Asks)) → state.world ≡ world → asks ≡ asks_in core limit state
    → list_all (λ one. is_blocked core world one.0 one.1) asks ≡ no_step core limit state
quiet_is core limit state world asks same is =
    ap (list_all (λ one. is_blocked core world one.0 one.1)) is
    ∙ ap (λ w. list_all (λ one. is_blocked core w one.0 one.1) (asks_in core limit state)) (sym same)
    ∙ list_all-map (λ one. is_blocked core state.world one.0 one.1) (λ start. (start.process, asks_next core limit state start)) state.world.live

pub quiet_ok : (core : Core) (world : World) (asks : List (ℕ × Asks)) (result : Result Bool NoMemory) → IfOk result (λ blocked. blocked ≡ list_all (λ one. is_blocked core world one.0 one.1) asks)
    → IfOk result (λ none. (limit : ℕ) (state : State) → state.world ≡ world → asks ≡ asks_in core limit state → none ≡ no_step core limit state)
quiet_ok core world asks (Ok blocked) h = λ limit state same is. h ∙ quiet_is core limit state world asks same is
quiet_ok core world asks (Err out_of_memory) h = tt
