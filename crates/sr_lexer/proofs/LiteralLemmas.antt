-- The marks of the bytes of a literal, byte by byte.
use Rattle.std.proofs.Common.{◌≡◌, ℕ, ◌+◌, ◌<◌, ◌≤◌, Bool, true, false, cond, ◌||◌, List, length, get_or, drop, ap, ◌∙◌, filter}
use Rattle.std.specs.List.{prefix_len, list_any}
use Rattle.std.proofs.lemmas.List.{at_drop_more, at_drop_all}
use Rattle.sr_lexer.specs.Literals.{marked, escapes_next, is_inside, is_wrong_escape, begins_character}

-- what is left of the quoted bytes, from the byte `at` on
pub quoted_more : (quote : ℕ) (escaped : Bool) (xs : List ℕ) (at : ℕ) → at < length xs → is_inside quote (record { byte = get_or xs at 0; escaped = escaped }) ≡ true → prefix_len (is_inside quote) (marked escaped (drop at xs)) ≡ 1 + prefix_len (is_inside quote) (marked (escapes_next escaped (get_or xs at 0)) (drop (at + 1) xs))
quoted_more quote escaped xs at h inside =
    at_drop_more (λ ys. prefix_len (is_inside quote) (marked escaped ys)) xs at 0 h
    ∙ ap (λ b. cond b (1 + prefix_len (is_inside quote) (marked (escapes_next escaped (get_or xs at 0)) (drop (at + 1) xs))) 0) inside

pub quoted_stop : (quote : ℕ) (escaped : Bool) (xs : List ℕ) (at : ℕ) → at < length xs → is_inside quote (record { byte = get_or xs at 0; escaped = escaped }) ≡ false → prefix_len (is_inside quote) (marked escaped (drop at xs)) ≡ 0
quoted_stop quote escaped xs at h outside =
    at_drop_more (λ ys. prefix_len (is_inside quote) (marked escaped ys)) xs at 0 h
    ∙ ap (λ b. cond b (1 + prefix_len (is_inside quote) (marked (escapes_next escaped (get_or xs at 0)) (drop (at + 1) xs))) 0) outside

pub quoted_end : (quote : ℕ) (escaped : Bool) (xs : List ℕ) (at : ℕ) → length xs ≤ at → prefix_len (is_inside quote) (marked escaped (drop at xs)) ≡ 0
quoted_end quote escaped xs at h = at_drop_all (λ ys. prefix_len (is_inside quote) (marked escaped ys)) xs at h

-- a wrong escape at the byte `at` is one of what is left
pub wrong_here : (escaped : Bool) (xs : List ℕ) (at : ℕ) → at < length xs → is_wrong_escape (record { byte = get_or xs at 0; escaped = escaped }) ≡ true → list_any is_wrong_escape (marked escaped (drop at xs)) ≡ true
wrong_here escaped xs at h wrong =
    at_drop_more (λ ys. list_any is_wrong_escape (marked escaped ys)) xs at 0 h
    ∙ ap (λ b. b || list_any is_wrong_escape (marked (escapes_next escaped (get_or xs at 0)) (drop (at + 1) xs))) wrong

pub wrong_end : (escaped : Bool) (xs : List ℕ) (at : ℕ) → length xs ≤ at → list_any is_wrong_escape (marked escaped (drop at xs)) ≡ false
wrong_end escaped xs at h = at_drop_all (λ ys. list_any is_wrong_escape (marked escaped ys)) xs at h

-- after the last byte there are no characters
pub characters_end : (escaped : Bool) (xs : List ℕ) (at : ℕ) → length xs ≤ at → length (filter begins_character (marked escaped (drop at xs))) ≡ 0
characters_end escaped xs at h = at_drop_all (λ ys. length (filter begins_character (marked escaped ys))) xs at h
