-- What joining results one after another makes of the operand on top.
use Rattle.std.proofs.Common.{◌≡◌, List, [], ◌∷◌, ◌++◌, Option, Some, None, refl, sym, ◌∙◌, ap, append_assoc, append-nil}
use Rattle.sr_value.specs.declared.capability.Cap.{Cap}
use Rattle.sr_value.specs.declared.shape.Sel.{Sel}
use Rattle.sr_value.specs.declared.value.Value.{Value}
use Rattle.sr_ask.specs.Invocations.{with_some, values_sent, places_back}
use Rattle.sr_ask.specs.declared.environment.Located.{Located}
use Rattle.sr_ask.specs.declared.environment.ReadTarget.{ReadTarget}
use Rattle.sr_ask.specs.declared.environment.Sent.{Sent}
use Rattle.sr_ask.specs.declared.environment.Spot.{Spot}
use Rattle.sr_core.specs.declared.piece.Piece.{Piece}
use Rattle.sr_code.specs.Operands.{put_list, join_value, put_pieces, join_piece, put_place, join_sel, put_call, put_reading, join_target}
use Rattle.sr_code.specs.declared.operands.Operands.{Operands}
use Rattle.sr_gen_expr.specs.Emitting.{join_all, join_sent}

pub joined_values : (values before : List Value) (on : Operands) → join_all join_value values (put_list before on) ≡ put_list (before ++ values) on
joined_values [] before on = ap (λ list. put_list list on) (sym (append-nil before))
joined_values (value ∷ values) before on =
    joined_values values (before ++ value ∷ []) on ∙ ap (λ list. put_list list on) (append_assoc before (value ∷ []) values)

pub joined_pieces : (pieces before : List Piece) (on : Operands) → join_all join_piece pieces (put_pieces before on) ≡ put_pieces (before ++ pieces) on
joined_pieces [] before on = ap (λ list. put_pieces list on) (sym (append-nil before))
joined_pieces (piece ∷ pieces) before on =
    joined_pieces pieces (before ++ piece ∷ []) on ∙ ap (λ list. put_pieces list on) (append_assoc before (piece ∷ []) pieces)

pub joined_sels : (sels : List Sel) (spot : Spot) (before : List Sel) (on : Operands)
    → join_all join_sel sels (put_place (record { spot = spot; path = before }) on) ≡ put_place (record { spot = spot; path = before ++ sels }) on
joined_sels [] spot before on = ap (λ path. put_place (record { spot = spot; path = path }) on) (sym (append-nil before))
joined_sels (sel ∷ sels) spot before on =
    joined_sels sels spot (before ++ sel ∷ []) on ∙ ap (λ path. put_place (record { spot = spot; path = path }) on) (append_assoc before (sel ∷ []) sels)

joined_some : {A : Type 0} (one : Option A) (before after : List A) → (before ++ with_some one []) ++ after ≡ before ++ with_some one after
joined_some None before after = ap (λ list. list ++ after) (append-nil before)
joined_some (Some a) before after = append_assoc before (a ∷ []) after

joined_one : (value : Option Value) (back : Option Located) (cap : Cap) (values : List Value) (places : List Located) (on : Operands)
    → join_sent (record { value = value; back = back }) (put_call (record { target = cap; values = values; places = places }) on)
    ≡ put_call (record { target = cap; values = values ++ with_some value []; places = places ++ with_some back [] }) on
joined_one None None cap values places on =
    ap (λ list. put_call (record { target = cap; values = list; places = places }) on) (sym (append-nil values))
    ∙ ap (λ list. put_call (record { target = cap; values = values ++ []; places = list }) on) (sym (append-nil places))
joined_one None (Some place) cap values places on = ap (λ list. put_call (record { target = cap; values = list; places = places ++ place ∷ [] }) on) (sym (append-nil values))
joined_one (Some value) None cap values places on = ap (λ list. put_call (record { target = cap; values = values ++ value ∷ []; places = list }) on) (sym (append-nil places))
joined_one (Some value) (Some place) cap values places on = refl

pub joined_sent : (sent : List Sent) (cap : Cap) (values : List Value) (places : List Located) (on : Operands)
    → join_all join_sent sent (put_call (record { target = cap; values = values; places = places }) on)
    ≡ put_call (record { target = cap; values = values ++ values_sent sent; places = places ++ places_back sent }) on
joined_sent [] cap values places on =
    ap (λ list. put_call (record { target = cap; values = list; places = places }) on) (sym (append-nil values))
    ∙ ap (λ list. put_call (record { target = cap; values = values ++ []; places = list }) on) (sym (append-nil places))
joined_sent (sent ∷ rest) cap values places on =
    ap (λ o. join_all join_sent rest o) (joined_one sent.value sent.back cap values places on)
    ∙ joined_sent rest cap (values ++ with_some sent.value []) (places ++ with_some sent.back []) on
    ∙ ap (λ list. put_call (record { target = cap; values = list; places = (places ++ with_some sent.back []) ++ places_back rest }) on) (joined_some sent.value values (values_sent rest))
    ∙ ap (λ list. put_call (record { target = cap; values = values ++ values_sent (sent ∷ rest); places = list }) on) (joined_some sent.back places (places_back rest))

pub joined_targets : (targets before : List ReadTarget) (on : Operands)
    → join_all join_target targets (put_reading (record { targets = before; count = 0 }) on) ≡ put_reading (record { targets = before ++ targets; count = 0 }) on
joined_targets [] before on = ap (λ list. put_reading (record { targets = list; count = 0 }) on) (sym (append-nil before))
joined_targets (target ∷ targets) before on =
    joined_targets targets (before ++ target ∷ []) on ∙ ap (λ list. put_reading (record { targets = list; count = 0 }) on) (append_assoc before (target ∷ []) targets)
