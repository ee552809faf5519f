-- There is no picture of items that are too many for one.
use Rattle.std.proofs.Common.{◌≡◌, ◌||◌, ℕ, Bool, true, false, List, Option, Some, None, length, refl}
use Rattle.std.specs.Prelude.{if◌then◌else◌, nat_lt}
use Rattle.sr_core.specs.declared.component.Core.{Core}
use Rattle.sr_trace.specs.Pictures.{drawn_with, is_too_large, picture_of, picture_on, picture_within}
use Rattle.sr_trace.specs.Shown.{arrows, columns_of, shown}
use Rattle.sr_trace.specs.declared.spot.TheConstants.{MOST_COLUMNS, MOST_ROWS}
use Rattle.sr_trace.specs.declared.traced.Traced.{Traced}

too_large : (tall wide : Bool) (text : List ℕ) → (if tall then None else (if wide then None else Some text)) ≡ None → (tall || wide) ≡ true
too_large true wide text none = refl
too_large false true text none = refl
too_large false false text none = cc

no_room_within : (core : Core) (names : List (List ℕ)) (rows : List Traced) → picture_within core names rows ≡ None → is_too_large rows ≡ true
unfolding picture_within picture_on
no_room_within core names rows none =
    let columns = columns_of rows in
    too_large (nat_lt MOST_ROWS (length rows)) (nat_lt MOST_COLUMNS (length columns)) (drawn_with core names columns rows (arrows rows)) none

pub no_room : (core : Core) (names : List (List ℕ)) (rows : List Traced) → picture_of core names rows ≡ None → is_too_large (shown rows) ≡ true
no_room core names rows none = no_room_within core names (shown rows) none
