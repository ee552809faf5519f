-- Processes in the seats of a table.
use Rattle.std.proofs.Common.{◌≡◌, ◌≤◌, ◌+◌, ℕ, suc, zero, nat_lt, Bool, true, false, cond, not, List, [], ◌∷◌, ◌++◌, Option, None, Some, IfSome, IsSome, is_some, refl, ap, arith, sym, subst, ◌∙◌, true≢false, nat_eq, length, map, filter, option_to_list, slice_get, position}
use Rattle.std.proofs.lemmas.List.{map-append}
use Rattle.std.proofs.lemmas.List.Elements.{filter_map-append}
use Rattle.std.proofs.lemmas.Map.{lookup-none}
use Rattle.std.proofs.lemmas.Map.Entries.{none_past_head}
use Rattle.std.proofs.lemmas.Map.Keys.{IsDistinct-tail}
use Rattle.std.specs.Borrow.{Bor}
use Rattle.std.specs.Cmp.{nat_eq_equiv}
use Rattle.std.specs.List.{IsDistinct, cons_option, filter_map, position_or_len}
use Rattle.std.specs.Map.{keys_of, lookup, remove_entry, set_value, values_of}
use Rattle.std.specs.Option.{option_flatten, option_map, option_map_or}
use Rattle.sr_ask.specs.declared.start.Start.{Start}
use Rattle.sr_processes.specs.Living.{IsLive, is_among, is_process, numbers_in, start_of, without_process}
use Rattle.sr_processes.specs.Tables.{IsNumbered, IsTable, number_in, seated, starts_in}

abbrev pub Entry : Type 0
Entry = ℕ × Option Start

-- ---- by number

pub look-up : (n : ℕ) (es : List Entry) → IsNumbered es → IsDistinct nat_eq (keys_of es)
    → start_of (starts_in es) n ≡ option_flatten (lookup (nat_eq n) es)
look-up n [] is once = refl
look-up n (e ∷ es) is once =
    by e.1 is.0 (nat_eq n e.0) refl (look-up n es is.1 (IsDistinct-tail nat_eq e.0 (keys_of es) once))
  where
    by : (o : Option Start) → IfSome o (λ start. e.0 ≡ start.process) → (b : Bool) → nat_eq n e.0 ≡ b
        → start_of (starts_in es) n ≡ option_flatten (lookup (nat_eq n) es)
        → start_of (cons_option o (starts_in es)) n ≡ option_flatten (cond b (Some o) (lookup (nat_eq n) es))
    by None own true same more = more ∙ ap option_flatten (lookup-none (nat_eq n) es (none_past_head nat_eq_equiv n e es once same))
    by None own false same more = more
    by (Some s) own true same more = ap (λ b. cond b (Some s) (start_of (starts_in es) n)) (ap (nat_eq n) (sym own) ∙ same)
    by (Some s) own false same more = ap (λ b. cond b (Some s) (start_of (starts_in es) n)) (ap (nat_eq n) (sym own) ∙ same) ∙ more

none_from : {A : Type 0} (o : Option A) → (IsSome o → ⊥) → o ≡ None
none_from None not_some = refl
none_from (Some x) not_some = absurd (not_some refl)

-- where there is none of a number, none is left out
filtered-none : (n : ℕ) (ss : List Start) → start_of ss n ≡ None → without_process ss n ≡ ss
filtered-none n [] none = refl
filtered-none n (s ∷ ss) none = by (is_process n s) none (filtered-none n ss)
  where
    by : (b : Bool) → cond b (Some s) (start_of ss n) ≡ None → (start_of ss n ≡ None → without_process ss n ≡ ss)
        → cond (not b) (s ∷ without_process ss n) (without_process ss n) ≡ s ∷ ss
    by true some more = absurd (true≢false (ap is_some some))
    by false none more = ap (λ ts. s ∷ ts) (more none)

-- ---- a seat that becomes empty

abbrev pub emptied : ℕ → List Entry → List Entry
emptied n es = set_value (nat_eq n) es None

abbrev kept : Start → List Start → Bool → List Start
kept s ss b = cond (not b) (s ∷ ss) ss

pub starts-emptied : (n : ℕ) (es : List Entry) → IsNumbered es → IsDistinct nat_eq (keys_of es)
    → starts_in (emptied n es) ≡ without_process (starts_in es) n
starts-emptied n [] is once = refl
starts-emptied n (e ∷ es) is once =
    let rest = IsDistinct-tail nat_eq e.0 (keys_of es) once in
    by e.1 is.0 (nat_eq n e.0) refl (starts-emptied n es is.1 rest)
    (λ same. sym (filtered-none n (starts_in es) (look-up n es is.1 rest ∙ ap option_flatten (lookup-none (nat_eq n) es (none_past_head nat_eq_equiv n e es once same)))))
  where
    by : (o : Option Start) → IfSome o (λ start. e.0 ≡ start.process) → (b : Bool) → nat_eq n e.0 ≡ b
        → starts_in (emptied n es) ≡ without_process (starts_in es) n → (nat_eq n e.0 ≡ true → starts_in es ≡ without_process (starts_in es) n)
        → starts_in (cond b ((e.0, None) ∷ es) ((e.0, o) ∷ emptied n es)) ≡ without_process (cons_option o (starts_in es)) n
    by None own true same more last = last same
    by None own false same more last = more
    by (Some s) own true same more last = last same ∙ sym (ap (kept s (without_process (starts_in es) n)) (ap (nat_eq n) (sym own) ∙ same))
    by (Some s) own false same more last = ap (λ ss. s ∷ ss) more ∙ sym (ap (kept s (without_process (starts_in es) n)) (ap (nat_eq n) (sym own) ∙ same))

pub numbered-emptied : (n : ℕ) (es : List Entry) → IsNumbered es → IsNumbered (emptied n es)
numbered-emptied n [] is = is
numbered-emptied n (e ∷ es) is = by (nat_eq n e.0) (numbered-emptied n es is.1)
  where
    by : (b : Bool) → IsNumbered (emptied n es) → IsNumbered (cond b ((e.0, None) ∷ es) (e ∷ emptied n es))
    by true more = (tt, is.1)
    by false more = (is.0, more)

pub count-emptied : (n : ℕ) (es : List Entry)
    → length (starts_in es) ≡ length (starts_in (emptied n es)) + cond (is_some (option_flatten (lookup (nat_eq n) es))) 1 0
count-emptied n [] = refl
count-emptied n (e ∷ es) = by e.1 (nat_eq n e.0) (count-emptied n es)
  where
    by : (o : Option Start) (b : Bool) → length (starts_in es) ≡ length (starts_in (emptied n es)) + cond (is_some (option_flatten (lookup (nat_eq n) es))) 1 0
        → length (cons_option o (starts_in es)) ≡ length (starts_in (cond b ((e.0, None) ∷ es) ((e.0, o) ∷ emptied n es))) + cond (is_some (option_flatten (cond b (Some o) (lookup (nat_eq n) es)))) 1 0
    by None true more = omega arith
    by None false more = more
    by (Some s) true more = omega arith
    by (Some s) false more = omega (arith, more)

module _ (n : ℕ) (es fs : List Entry) (table : IsTable es) (after : fs ≡ emptied n es) where
  pub table-vacated : IsDistinct nat_eq (keys_of fs) → IsTable fs
  table-vacated once = record { numbered = subst IsNumbered (sym after) (numbered-emptied n es table.numbered); distinct = once }

  pub starts-vacated : starts_in fs ≡ without_process (starts_in es) n
  starts-vacated = ap starts_in after ∙ starts-emptied n es table.numbered table.distinct

  pub count-vacated : (seat : Option Start) (lived : Bool) → Some seat ≡ lookup (nat_eq n) es → lived ≡ is_some seat
      → length (starts_in es) ≡ length (starts_in fs) + cond lived 1 0
  count-vacated seat lived found is =
      count-emptied n es
      ∙ ap (λ o. length (starts_in (emptied n es)) + cond (is_some (option_flatten o)) 1 0) (sym found)
      ∙ ap (λ b. length (starts_in (emptied n es)) + cond b 1 0) (sym is)
      ∙ ap (λ gs. length (starts_in gs) + cond lived 1 0) (sym after)

-- where a number has no seat, nobody leaves
pub starts-absent : (n : ℕ) (es : List Entry) → IsTable es → None ≡ lookup (nat_eq n) es → starts_in es ≡ without_process (starts_in es) n
starts-absent n es table none =
    sym (filtered-none n (starts_in es) (look-up n es table.numbered table.distinct ∙ ap option_flatten (sym none)))

-- ---- a seat that is taken away

pub starts-removed : (n : ℕ) (es : List Entry) → option_flatten (lookup (nat_eq n) es) ≡ None → starts_in (remove_entry (nat_eq n) es) ≡ starts_in es
starts-removed n [] none = refl
starts-removed n (e ∷ es) none = by e.1 (nat_eq n e.0) none (starts-removed n es)
  where
    by : (o : Option Start) (b : Bool) → option_flatten (cond b (Some o) (lookup (nat_eq n) es)) ≡ None
        → (option_flatten (lookup (nat_eq n) es) ≡ None → starts_in (remove_entry (nat_eq n) es) ≡ starts_in es)
        → starts_in (cond b es ((e.0, o) ∷ remove_entry (nat_eq n) es)) ≡ cons_option o (starts_in es)
    by None true none more = refl
    by (Some s) true some more = absurd (true≢false (ap is_some some))
    by None false none more = more none
    by (Some s) false none more = ap (λ ss. s ∷ ss) (more none)

pub numbered-removed : (n : ℕ) (es : List Entry) → IsNumbered es → IsNumbered (remove_entry (nat_eq n) es)
numbered-removed n [] is = is
numbered-removed n (e ∷ es) is = by (nat_eq n e.0) (numbered-removed n es is.1)
  where
    by : (b : Bool) → IsNumbered (remove_entry (nat_eq n) es) → IsNumbered (cond b es (e ∷ remove_entry (nat_eq n) es))
    by true more = is.1
    by false more = (is.0, more)

-- ---- one more seat

pub starts-push : (es : List Entry) (s : Start) → starts_in (es ++ (s.process, Some s) ∷ []) ≡ starts_in es ++ s ∷ []
starts-push es s =
    ap seated (map-append (λ (e : Entry). e.1) es ((s.process, Some s) ∷ []))
    ∙ filter_map-append (λ seat. seat) (values_of es) (Some s ∷ [])

pub numbered-push : (es : List Entry) (s : Start) → IsNumbered es → IsNumbered (es ++ (s.process, Some s) ∷ [])
numbered-push [] s is = (refl, tt)
numbered-push (e ∷ es) s is = (is.0, numbered-push es s is.1)

-- a process that didn't live sits after all others, once the empty seat of its number is taken away
module _ (s : Start) (es rs fs : List Entry) (table : IsTable es) (removed : rs ≡ remove_entry (nat_eq s.process) es) (pushed : fs ≡ rs ++ (s.process, Some s) ∷ []) where
  pub table-put : IsDistinct nat_eq (keys_of fs) → IsTable fs
  table-put once = record {
    numbered = subst IsNumbered (sym (pushed ∙ ap (λ gs. gs ++ (s.process, Some s) ∷ []) removed)) (numbered-push (remove_entry (nat_eq s.process) es) s (numbered-removed s.process es table.numbered));
    distinct = once;
  }

  pub starts-put : ¬ IsLive (starts_in es) s.process → starts_in fs ≡ starts_in es ++ s ∷ []
  starts-put new =
      let empty = sym (look-up s.process es table.numbered table.distinct) ∙ none_from (start_of (starts_in es) s.process) new in
      ap starts_in pushed ∙ starts-push rs s ∙ ap (λ ss. ss ++ s ∷ []) (ap starts_in removed ∙ starts-removed s.process es empty)

-- ---- without the empty seats

abbrev pub is_taken : Entry → Bool
is_taken e = is_some e.1

pub starts-swept : (es : List Entry) → starts_in (filter is_taken es) ≡ starts_in es
starts-swept [] = refl
starts-swept (e ∷ es) = by e.1 (starts-swept es)
  where
    by : (o : Option Start) → starts_in (filter is_taken es) ≡ starts_in es
        → starts_in (cond (is_some o) ((e.0, o) ∷ filter is_taken es) (filter is_taken es)) ≡ cons_option o (starts_in es)
    by None more = more
    by (Some s) more = ap (λ ss. s ∷ ss) more

pub numbered-swept : (es : List Entry) → IsNumbered es → IsNumbered (filter is_taken es)
numbered-swept [] is = is
numbered-swept (e ∷ es) is = by (is_taken e) (numbered-swept es is.1)
  where
    by : (b : Bool) → IsNumbered (filter is_taken es) → IsNumbered (cond b (e ∷ filter is_taken es) (filter is_taken es))
    by true more = (is.0, more)
    by false more = more

pub table-swept : (es fs : List Entry) → IsTable es → fs ≡ filter is_taken es → IsDistinct nat_eq (keys_of fs) → IsTable fs
table-swept es fs table after once = record { numbered = subst IsNumbered (sym after) (numbered-swept es table.numbered); distinct = once }

-- ---- by place

pub few-starts : (es : List Entry) → length (starts_in es) ≤ length es
few-starts [] = omega arith
few-starts (e ∷ es) = by e.1 (few-starts es)
  where
    by : (o : Option Start) → length (starts_in es) ≤ length es → length (cons_option o (starts_in es)) ≤ length (e ∷ es)
    by None more = omega arith
    by (Some s) more = omega arith

-- where no seat is empty, a process has the place of its seat
pub at-full : (es : List Entry) (i : ℕ) → length (starts_in es) ≡ length es
    → slice_get (starts_in es) i ≡ option_flatten (option_map (λ (e : Entry). e.1) (slice_get es i))
at-full [] i full = refl
at-full (e ∷ es) i full = by e.1 i full (at-full es)
  where
    by : (o : Option Start) (i : ℕ) → length (cons_option o (starts_in es)) ≡ length (e ∷ es)
        → ((i : ℕ) → length (starts_in es) ≡ length es → slice_get (starts_in es) i ≡ option_flatten (option_map (λ (e : Entry). e.1) (slice_get es i)))
        → slice_get (cons_option o (starts_in es)) i ≡ option_flatten (option_map (λ (e : Entry). e.1) (slice_get ((e.0, o) ∷ es) i))
    by None i full more = absurd (omega (arith, few-starts es))
    by (Some s) zero full more = refl
    by (Some s) (suc i) full more = more i (omega arith)

-- ---- what the walks find

abbrev pub taken : List (Option Start) → List (Option Start)
taken seats = filter is_some seats

length-taken : (seats : List (Option Start)) → length (taken seats) ≡ length (seated seats)
length-taken [] = refl
length-taken (None ∷ seats) = length-taken seats
length-taken (Some s ∷ seats) = ap (λ n. suc n) (length-taken seats)

abbrev pub seat_is_among : List ℕ → Option Start → Bool
seat_is_among ns seat = option_map_or (is_among ns) seat false

place-taken : (ns : List ℕ) (seats : List (Option Start))
    → position_or_len (seat_is_among ns) (taken seats) ≡ position_or_len (is_among ns) (seated seats)
place-taken ns [] = refl
place-taken ns (None ∷ seats) = place-taken ns seats
place-taken ns (Some s ∷ seats) =
    ap (λ n. cond (not (is_among ns s)) (1 + n) 0) (place-taken ns seats)

pub position-taken : (ns : List ℕ) (seats : List (Option Start))
    → position (seat_is_among ns) (taken seats) ≡ position (is_among ns) (seated seats)
position-taken ns seats =
    ap (λ n. cond (nat_lt n (length (taken seats))) (Some n) None) (place-taken ns seats)
    ∙ ap (λ n. cond (nat_lt (position_or_len (is_among ns) (seated seats)) n) (Some (position_or_len (is_among ns) (seated seats))) None) (length-taken seats)

pub at-taken : (seats : List (Option Start)) (i : ℕ) → option_flatten (slice_get (taken seats) i) ≡ slice_get (seated seats) i
at-taken [] i = refl
at-taken (None ∷ seats) i = at-taken seats i
at-taken (Some s ∷ seats) zero = refl
at-taken (Some s ∷ seats) (suc i) = at-taken seats i

-- what one more seat adds to the numbers
numbers-push : (f : Option Start → Option ℕ) (seats : List (Option Start)) (seat : Option Start)
    → filter_map f (seats ++ seat ∷ []) ≡ filter_map f seats ++ option_to_list (f seat)
numbers-push f seats seat = filter_map-append f seats (seat ∷ []) ∙ ap (λ ns. filter_map f seats ++ ns) (by (f seat))
  where
    by : (o : Option ℕ) → cons_option o [] ≡ option_to_list o
    by None = refl
    by (Some n) = refl

-- a walk over the seats notes the number of one more
pub numbers-step : (f : Option Start → Option ℕ) (seats : List (Bor (Option Start))) (seat : Bor (Option Start)) (old new : List ℕ) (number : Option ℕ)
    → old ≡ filter_map f (map (λ s. s.now) seats) → number ≡ f seat.now → new ≡ old ++ option_to_list number
    → new ≡ filter_map f (map (λ s. s.now) (seats ++ seat ∷ []))
numbers-step f seats seat old new number so_far is noted =
    noted ∙ ap (λ o. old ++ option_to_list o) is ∙ ap (λ ns. ns ++ option_to_list (f seat.now)) so_far
    ∙ sym (numbers-push f (map (λ s. s.now) seats) seat.now) ∙ sym (ap (filter_map f) (map-append (λ s. s.now) seats (seat ∷ [])))

pub numbers-all : (seats : List (Option Start)) → filter_map (option_map (λ (s : Start). s.process)) seats ≡ map (λ s. s.process) (seated seats)
numbers-all [] = refl
numbers-all (None ∷ seats) = numbers-all seats
numbers-all (Some s ∷ seats) = ap (λ ns. s.process ∷ ns) (numbers-all seats)

pub numbers-instance : (instance : ℕ) (seats : List (Option Start)) → filter_map (number_in instance) seats ≡ numbers_in (seated seats) instance
numbers-instance instance [] = refl
numbers-instance instance (None ∷ seats) = numbers-instance instance seats
numbers-instance instance (Some s ∷ seats) = by (nat_eq instance s.instance) (numbers-instance instance seats)
  where
    by : (b : Bool) → filter_map (number_in instance) seats ≡ numbers_in (seated seats) instance
        → cons_option (cond b (Some s.process) None) (filter_map (number_in instance) seats)
        ≡ map (λ (t : Start). t.process) (cond b (s ∷ filter (λ t. nat_eq instance t.instance) (seated seats)) (filter (λ t. nat_eq instance t.instance) (seated seats)))
    by true more = ap (λ ns. s.process ∷ ns) more
    by false more = more
