-- What a source in memory has left after it gave some bytes.
use Rattle.std.proofs.Common.{◌≡◌, ℕ, ◌+◌, ◌≤◌, List, ◌++◌, length, take, drop, sym, ap, ◌∙◌, arith, take-append-drop}
use Rattle.std.proofs.lemmas.List.{drop-drop, take_all, take-append-le, length-take}

-- the bytes from `at` on are those copied to the front of the room and those that are left after them
pub taken_front : (bytes left room new : List ℕ) (at count : ℕ) → left ≡ drop at bytes → count ≤ length left
    → new ≡ take count left ++ room → drop at bytes ≡ take count new ++ drop (at + count) bytes
taken_front bytes left room new at count is_left fits copied =
    let full = length-take count left in
    let front : take count new ≡ take count left =
    ap (take count) copied ∙ take-append-le count (take count left) room (omega arith) ∙ take_all count (take count left) (omega arith) in
    sym is_left
    ∙ sym (take-append-drop count left)
    ∙ ap (λ xs. take count left ++ drop count xs) is_left
    ∙ ap (λ xs. take count left ++ xs) (drop-drop count at bytes)
    ∙ ap (λ xs. xs ++ drop (at + count) bytes) (sym front)
