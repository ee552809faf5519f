-- A phase goes over all files of a program, before the next phase begins.
use Rattle.std.specs.Prelude.{ℕ, suc, List, [], ◌∷◌}
use Rattle.sr_text.specs.declared.refusal.Refusal.{Refusal}

-- every file passes the phase, which makes this of it; the files are numbered on from `number`
pub data AllPass {A B : Type 0} (Passes : ℕ → A → B → Type 0) : ℕ → List A → List B → Type 0 where
  none_left : {number : ℕ} → AllPass Passes number [] []
  one_more : {number : ℕ} {file : A} {made : B} {files : List A} {mades : List B} → Passes number file made
      → AllPass Passes (suc number) files mades → AllPass Passes number (file ∷ files) (made ∷ mades)

-- the first file that doesn't pass the phase is refused so
pub data FirstRefused {A B : Type 0} (Passes : ℕ → A → B → Type 0) (Refuses : ℕ → A → Refusal → Type 0)
    : ℕ → List A → Refusal → Type 0 where
  here : {number : ℕ} {file : A} {files : List A} {refusal : Refusal} → Refuses number file refusal
      → FirstRefused Passes Refuses number (file ∷ files) refusal
  after : {number : ℕ} {file : A} {made : B} {files : List A} {refusal : Refusal} → Passes number file made
      → FirstRefused Passes Refuses (suc number) files refusal → FirstRefused Passes Refuses number (file ∷ files) refusal
