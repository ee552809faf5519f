-- A phase over all files, from the front on.
use Rattle.std.proofs.Common.{◌≡◌, ℕ, zero, suc, ◌+◌, ◌<◌, ◌≤◌, arith, List, [], ◌∷◌, ◌++◌, length, drop, map, get_or, refl, ap, sym, ◌∙◌, subst, append_assoc}
use Rattle.std.proofs.lemmas.List.{map-append, append-nil}
use Rattle.std.proofs.lemmas.List.Elements.{All-cons}
use Rattle.std.specs.List.{All}
use Rattle.std.proofs.Math.Numerals.{suc-eq-add-one}
use Rattle.std.proofs.Math.Seq.{drop-cons}
use Rattle.sr_text.specs.declared.refusal.Refusal.{Refusal}
use Rattle.sr_front.specs.Phases.{AllPass, FirstRefused, none_left, one_more, here, after}

-- what the other files lead to, all files lead to
pub record LeadsOn {X Y A B : Type 0} (Passes : ℕ → A → B → Type 0) (Refuses : ℕ → A → Refusal → Type 0) (f : X → A) (g : Y → B)
    (files : List X) (at : ℕ) (done : List Y) : Type 0 where
  pub passes : (more : List B) → AllPass Passes at (map f (drop at files)) more → AllPass Passes 0 (map f files) (map g done ++ more)
  pub refuses : (refusal : Refusal) → FirstRefused Passes Refuses at (map f (drop at files)) refusal → FirstRefused Passes Refuses 0 (map f files) refusal

front_of : {X A : Type 0} (f : X → A) (files : List X) (at : ℕ) (d : X) → at < length files
    → map f (drop at files) ≡ f (get_or files at d) ∷ map f (drop (suc at) files)
front_of f files at d within = ap (map f) (drop-cons files at d within)

added : {Y B : Type 0} (g : Y → B) (done : List Y) (y : Y) (more : List B) → map g done ++ g y ∷ more ≡ map g (done ++ y ∷ []) ++ more
added g done y more = sym (ap (λ ys. ys ++ more) (map-append g done (y ∷ [])) ∙ append_assoc (map g done) (g y ∷ []) more)

-- one file more passes
pub goes_on : {X Y A B : Type 0} (Passes : ℕ → A → B → Type 0) (Refuses : ℕ → A → Refusal → Type 0) (f : X → A) (g : Y → B) (files : List X)
    (at : ℕ) (done : List Y) (x : X) (y : Y) (number next : ℕ) (content : A) (extended : List Y)
    → LeadsOn Passes Refuses f g files at done → at < length files → x ≡ get_or files at x → number ≡ at → content ≡ f x
    → Passes number content (g y) → next ≡ at + 1 → extended ≡ done ++ y ∷ [] → LeadsOn Passes Refuses f g files next extended
goes_on Passes Refuses f g files at done x y number next content extended leads within is numbered told passed counted pushed =
    let here_passed : Passes at (f (get_or files at x)) (g y) =
    subst (λ n. Passes n (f (get_or files at x)) (g y)) numbered (subst (λ c. Passes number c (g y)) (told ∙ ap f is) passed) in
    let one : LeadsOn Passes Refuses f g files (suc at) (done ++ y ∷ []) = record {
      passes = λ more p. subst (AllPass Passes 0 (map f files)) (added g done y more)
          (leads.passes (g y ∷ more) (subst (λ xs. AllPass Passes at xs (g y ∷ more)) (sym (front_of f files at x within)) (one_more here_passed p)));
      refuses = λ refusal p. leads.refuses refusal
          (subst (λ xs. FirstRefused Passes Refuses at xs refusal) (sym (front_of f files at x within)) (after here_passed p));
    } in
    subst (λ n. LeadsOn Passes Refuses f g files n extended) (suc-eq-add-one at ∙ sym counted)
    (subst (LeadsOn Passes Refuses f g files (suc at)) (sym pushed) one)

-- one that is refused is the first
pub is_refused : {X Y A B : Type 0} (Passes : ℕ → A → B → Type 0) (Refuses : ℕ → A → Refusal → Type 0) (f : X → A) (g : Y → B) (files : List X)
    (at : ℕ) (done : List Y) (x : X) (number : ℕ) (content : A) (refusal : Refusal)
    → LeadsOn Passes Refuses f g files at done → at < length files → x ≡ get_or files at x → number ≡ at → content ≡ f x
    → Refuses number content refusal → FirstRefused Passes Refuses 0 (map f files) refusal
is_refused Passes Refuses f g files at done x number content refusal leads within is numbered told refused =
    leads.refuses refusal (subst (λ xs. FirstRefused Passes Refuses at xs refusal) (sym (front_of f files at x within))
    (here (subst (λ n. Refuses n (f (get_or files at x)) refusal) numbered (subst (λ c. Refuses number c refusal) (told ∙ ap f is) refused))))

drop_all : {X : Type 0} (xs : List X) (n : ℕ) → length xs ≤ n → drop n xs ≡ []
drop_all [] zero within = refl
drop_all [] (suc n) within = refl
drop_all (x ∷ xs) zero within = absurd (omega (arith, within))
drop_all (x ∷ xs) (suc n) within = drop_all xs n (omega (arith, within))

-- after the last file all have passed
pub all_passed : {X Y A B : Type 0} (Passes : ℕ → A → B → Type 0) (Refuses : ℕ → A → Refusal → Type 0) (f : X → A) (g : Y → B) (files : List X)
    (at : ℕ) (done : List Y) → LeadsOn Passes Refuses f g files at done → length files ≤ at → AllPass Passes 0 (map f files) (map g done)
all_passed Passes Refuses f g files at done leads past = subst (AllPass Passes 0 (map f files)) (append-nil (map g done))
    (leads.passes [] (subst (λ xs. AllPass Passes at (map f xs) []) (sym (drop_all files at past)) none_left))

-- files that all pass have a fact each
pub each : {X A B : Type 0} (Passes : ℕ → A → B → Type 0) (f : X → A) (Holds : X → Type 0)
    → ((number : ℕ) (x : X) (made : B) → Passes number (f x) made → Holds x)
    → (number : ℕ) (files : List X) (mades : List B) → AllPass Passes number (map f files) mades → All Holds files
each Passes f Holds tells number [] mades none_left = λ k d within. absurd (omega (arith, within))
each Passes f Holds tells number (x ∷ xs) [] none = elim none [ ]
each Passes f Holds tells number (x ∷ xs) (made ∷ mades) (one_more p more) =
    All-cons Holds x xs (tells number x made p) (each Passes f Holds tells (suc number) xs mades more)

-- a phase makes one thing of each file
pub as_many : {A B : Type 0} {Passes : ℕ → A → B → Type 0} {number : ℕ} {files : List A} {mades : List B} → AllPass Passes number files mades
    → length mades ≡ length files
as_many none_left = refl
as_many (one_more passed more) = ap suc (as_many more)
