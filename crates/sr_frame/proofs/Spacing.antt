-- Texts that are put one after another, with a space before each but the first.
use Rattle.std.proofs.Common.{◌≡◌, ℕ, ◌+◌, ◌-◌, ◌<◌, ◌≤◌, List, [], ◌∷◌, ◌++◌, append_assoc, ap, arith, drop, get_or, length, sym, take, ◌∙◌}
use Rattle.std.proofs.lemmas.List.{append-nil, at_drop_all, at_drop_more, take_all}
use Rattle.sr_core.specs.Values.{spaced}

-- texts with a space before each
abbrev pub led : List (List ℕ) → List ℕ
led [] = []
led (text ∷ texts) = 32 ∷ text ++ led texts

spaced_is : (text : List ℕ) (texts : List (List ℕ)) → spaced (text ∷ texts) ≡ text ++ led texts
spaced_is text [] = sym (append-nil text)
spaced_is text (next ∷ texts) = ap (λ (rest : List ℕ). text ++ 32 ∷ rest) (spaced_is next texts)

-- a space and a text more
pub led_step : (others : List (List ℕ)) (at : ℕ) (text b0 b1 b2 all : List ℕ) → b0 ++ led (drop at others) ≡ all → at < length others → text ≡ get_or others at text → b1 ≡ b0 ++ 32 ∷ [] → b2 ≡ b1 ++ text
    → b2 ++ led (drop (at + 1) others) ≡ all
led_step others at text b0 b1 b2 all so_far within is spaced_out put =
    let rest : List ℕ = led (drop (at + 1) others) in
    let next : led (drop at others) ≡ 32 ∷ text ++ rest = at_drop_more led others at text within ∙ ap (λ (t : List ℕ). 32 ∷ t ++ rest) (sym is) in
    ap (λ (b : List ℕ). b ++ rest) put ∙ ap (λ (b : List ℕ). (b ++ text) ++ rest) spaced_out ∙ append_assoc (b0 ++ 32 ∷ []) text rest ∙ append_assoc b0 (32 ∷ []) (text ++ rest)
    ∙ ap (λ (more : List ℕ). b0 ++ more) (sym next) ∙ so_far

others_of : (texts : List (List ℕ)) (first : List ℕ) → 1 ≤ length texts → first ≡ get_or texts 0 first → first ∷ take (length texts - 1) (drop 1 texts) ≡ texts
others_of [] first some is = absurd (omega arith)
others_of (text ∷ texts) first some is =
    let size : length (text ∷ texts) - 1 ≡ length texts = omega arith in
    ap (λ n. first ∷ take n texts) size ∙ ap (λ (t : List ℕ). t ∷ take (length texts) texts) is ∙ ap (λ (rest : List (List ℕ)). text ∷ rest) (take_all (length texts) texts (omega arith))

-- all texts
pub led_end : (texts : List (List ℕ)) (first : List ℕ) (at : ℕ) (b0 b1 b2 : List ℕ) → 1 ≤ length texts → first ≡ get_or texts 0 first → length (take (length texts - 1) (drop 1 texts)) ≤ at
    → b1 ≡ b0 ++ first → b2 ++ led (drop at (take (length texts - 1) (drop 1 texts))) ≡ b1 ++ led (take (length texts - 1) (drop 1 texts)) → b2 ≡ b0 ++ spaced texts
led_end texts first at b0 b1 b2 some is past put so_far =
    let others : List (List ℕ) = take (length texts - 1) (drop 1 texts) in
    sym (append-nil b2) ∙ ap (λ (rest : List ℕ). b2 ++ rest) (sym (at_drop_all led others at past)) ∙ so_far ∙ ap (λ (b : List ℕ). b ++ led others) put ∙ append_assoc b0 first (led others)
    ∙ ap (λ (more : List ℕ). b0 ++ more) (sym (spaced_is first others)) ∙ ap (λ (all : List (List ℕ)). b0 ++ spaced all) (others_of texts first some is)
