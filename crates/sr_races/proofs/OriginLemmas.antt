-- The items from which a step's row is made are those that are linked to it, and kept.
use Rattle.std.proofs.Common.{◌≡◌, ◌≢◌, ◌<◌, ◌+◌, ⊎_elim, ℕ, Bool, true, false, List, [], ◌++◌, append_assoc, Option, Some, None, length, refl, ap, sym, ◌∙◌, subst, arith, true≢false}
use Rattle.std.proofs.lemmas.Bool.{cases_eq}
use Rattle.std.proofs.lemmas.List.Elements.{Contains-append_cases, Contains-append_left, Contains-append_right}
use Rattle.std.specs.Prelude.{Contains, slice_get, unwrap_or}
use Rattle.sr_ask.specs.declared.ask.Ask.{Ask}
use Rattle.sr_ask.specs.declared.item.Item.TheVariants.{Step}
use Rattle.sr_ask.specs.declared.request.Request.{Request}
use Rattle.sr_clock_rows.specs.Lasts.{IsLast, IsLastIf, last_in}
use Rattle.sr_clocks.proofs.GateLemmas.{IsLastGate}
use Rattle.sr_replay.specs.Naming.{named_at}
use Rattle.sr_races.specs.Items.{Run, actor_at, asked_at, asks, asks_at, stands_after}
use Rattle.sr_races.specs.Kept.{IsKept, IsLastEnding}
use Rattle.sr_races.specs.Links.{IsOfKind, ends_all, global_asked, global_at, global_by, is_take}
use Rattle.sr_world.specs.Deciding.{is_select}
use Rattle.sr_races.specs.Origins.{AreOrigins, closing_if, ending_at, listed, made_if, one_if, only_if, origins_in}
use Rattle.sr_races.specs.declared.link.LinkKind.{LinkKind}
use Rattle.sr_races.specs.declared.link.LinkKind.TheVariants as kind
use Rattle.sr_races.specs.declared.origins.Origins.{Origins}
use Rattle.sr_world.specs.Runs.{Goes, Illegal, Next, Over, State, is_legal}
use Rattle.sr_races.proofs.KeptLemmas.{begins_kept, gate_is, is_gate}
use Rattle.sr_races.proofs.KindLemmas.{answer-in, answer-of, is-listed, last-is, last-same, listed-is, making-in, making-of, next-in, next-of, readiness-in, readiness-of, service-in, service-of}

-- ---- the last that ended all

gate-of : (gate : ℕ → Bool) (count i : ℕ) → IsLast (λ k. one_if (gate k)) count 1 i → IsLastGate gate count i
gate-of gate count i last = record { earlier = last.earlier; passes = by (gate i) last.has; none = λ k more less. off (gate k) (last.none_later k more less) }
  where
    by : (b : Bool) → one_if b ≡ 1 → b ≡ true
    by true is = refl
    by false is = absurd (let no : 0 ≡ 1 = is in cc)

    off : (b : Bool) → one_if b ≢ 1 → b ≡ false
    off true not = absurd (not refl)
    off false not = refl

of-gate : (gate : ℕ → Bool) (count i : ℕ) → IsLastGate gate count i → IsLast (λ k. one_if (gate k)) count 1 i
of-gate gate count i last = record { earlier = last.earlier; has = ap one_if last.passes; none_later = λ k more less is. no (gate k) (last.none k more less) is }
  where
    no : (b : Bool) → b ≡ false → one_if b ≡ 1 → ⊥
    no true off is = true≢false off
    no false off is = let e : 0 ≡ 1 = is in omega (arith, e)

module _ (r : Run) (j : ℕ) (origins : Origins) (tables : AreOrigins r j origins) where
  pub closing-of : (i : ℕ) → origins.closing ≡ Some i → IsLastEnding r j i
  closing-of i is = is_gate r j i (gate-of (ends_all r) j i (last-is (ending_at r) j 1 i origins.closing tables.closing is))

  pub closing-in : (i : ℕ) → IsLastEnding r j i → origins.closing ≡ Some i
  closing-in i last = last-same (ending_at r) j 1 i origins.closing (of-gate (ends_all r) j i (gate_is r j i last)) tables.closing

-- ---- a step that doesn't end all

module _ (r : Run) (j : ℕ) (origins : Origins) (tables : AreOrigins r j origins) (state : State) (at : stands_after r j ≡ Goes state) (within : j < length r.items) (p name : ℕ)
    (is : slice_get r.items j ≡ Some (Step p name)) (ask : Ask) (asked : asked_at r j ≡ Some ask) (some : 0 < p) (legal : is_legal (stands_after r (j + 1)) ≡ true)
    (ordinary : ends_all r j ≡ false) (answered instance : ℕ) (answered-so : answered ≡ named_at r.core r.limit state (Step p name))
    (instance-so : instance ≡ unwrap_or (global_asked state.world ask.request) 0) where
  abbrev One : Option ℕ
  One = origins.closing

  abbrev Two : Option ℕ
  Two = last_in origins.lasts p

  abbrev Three : Option ℕ
  Three = made_if (last_in origins.lasts p) (last_in origins.makers p)

  abbrev Four : Option ℕ
  Four = only_if (is_select ask.request) (last_in origins.makers answered)

  abbrev Five : Option ℕ
  Five = only_if (is_take ask.request) (last_in origins.answerers answered)

  abbrev Six : Option ℕ
  Six = last_in origins.readiers instance

  kept : (i : ℕ) (k : LinkKind) → i < j → IsOfKind r i j k → (k ≡ kind.Begins → ⊥) → IsKept r i j
  kept i k less of other = record { link = record { kind = k; link = record { later = less; second = within; is = of } }; last = λ e. absurd (other e) }

  pub origin-kept : (i : ℕ) → Contains (origins_in origins p ask.request answered instance) i → IsKept r i j
  origin-kept i found = ⊎_elim one (λ rest. ⊎_elim two (λ rest. ⊎_elim three (λ rest. ⊎_elim four (λ rest. ⊎_elim five six
      (Contains-append_cases (listed Five) (listed Six) i rest))
      (Contains-append_cases (listed Four) (listed Five ++ listed Six) i rest))
      (Contains-append_cases (listed Three) (listed Four ++ (listed Five ++ listed Six)) i rest))
      (Contains-append_cases (listed Two) (listed Three ++ (listed Four ++ (listed Five ++ listed Six))) i rest))
      (Contains-append_cases (listed One) (listed Two ++ (listed Three ++ (listed Four ++ (listed Five ++ listed Six)))) i found)
    where
      one : Contains (listed One) i → IsKept r i j
      one here = begins_kept r i j within (closing-of r j origins tables i (listed-is One i here))

      two : Contains (listed Two) i → IsKept r i j
      two here =
          let next = next-of r j origins tables state at within p name is ask asked some legal i (listed-is Two i here) in
          kept i kind.Next next.later next (λ e. cc)

      three : Contains (listed Three) i → IsKept r i j
      three here =
          let made = making-of r j origins tables state at within p name is ask asked some legal i (listed-is Three i here) in
          kept i kind.Makes made.0 made.1 (λ e. cc)

      four : Contains (listed Four) i → IsKept r i j
      four here =
          let service = service-of r j origins tables state at within p name is ask asked some legal i
          (subst (λ m. only_if (is_select ask.request) (last_in origins.makers m) ≡ Some i) answered-so (listed-is Four i here)) in
          kept i kind.Services service.0 service.1 (λ e. cc)

      five : Contains (listed Five) i → IsKept r i j
      five here =
          let answer = answer-of r j origins tables state at within p name is ask asked some legal i
          (subst (λ m. only_if (is_take ask.request) (last_in origins.answerers m) ≡ Some i) answered-so (listed-is Five i here)) in
          kept i kind.Answers answer.0 answer.1 (λ e. cc)

      six : Contains (listed Six) i → IsKept r i j
      six here =
          let ready = readiness-of r j origins tables state at within p name is ask asked some legal i
          (subst (λ m. last_in origins.readiers m ≡ Some i) instance-so (listed-is Six i here)) in
          kept i kind.Readies ready.0 ready.1 (λ e. cc)

  pub kept-origin : (i : ℕ) → IsKept r i j → Contains (origins_in origins p ask.request answered instance) i
  kept-origin i kept = by kept.link.kind kept.link.link.later kept.link.link.is kept.last
    where
      from-two : Contains (listed Two ++ (listed Three ++ (listed Four ++ (listed Five ++ listed Six)))) i → Contains (origins_in origins p ask.request answered instance) i
      from-two found = Contains-append_right (listed One) (listed Two ++ (listed Three ++ (listed Four ++ (listed Five ++ listed Six)))) i found

      from-three : Contains (listed Three ++ (listed Four ++ (listed Five ++ listed Six))) i → Contains (origins_in origins p ask.request answered instance) i
      from-three found = from-two (Contains-append_right (listed Two) (listed Three ++ (listed Four ++ (listed Five ++ listed Six))) i found)

      from-four : Contains (listed Four ++ (listed Five ++ listed Six)) i → Contains (origins_in origins p ask.request answered instance) i
      from-four found = from-three (Contains-append_right (listed Three) (listed Four ++ (listed Five ++ listed Six)) i found)

      from-five : Contains (listed Five ++ listed Six) i → Contains (origins_in origins p ask.request answered instance) i
      from-five found = from-four (Contains-append_right (listed Four) (listed Five ++ listed Six) i found)

      by : (k : LinkKind) → i < j → IsOfKind r i j k → (k ≡ kind.Begins → IsLastEnding r j i) → Contains (origins_in origins p ask.request answered instance) i
      by kind.Next less of last =
          from-two (Contains-append_left (listed Two) (listed Three ++ (listed Four ++ (listed Five ++ listed Six))) i
          (is-listed Two i (next-in r j origins tables state at within p name is ask asked some legal i of)))
      by kind.Makes less of last =
          from-three (Contains-append_left (listed Three) (listed Four ++ (listed Five ++ listed Six)) i
          (is-listed Three i (making-in r j origins tables state at within p name is ask asked some legal i less of)))
      by kind.Services less of last =
          from-four (Contains-append_left (listed Four) (listed Five ++ listed Six) i
          (is-listed Four i (ap (λ m. only_if (is_select ask.request) (last_in origins.makers m)) answered-so ∙ service-in r j origins tables state at within p name is ask asked some legal i less of)))
      by kind.Answers less of last =
          from-five (Contains-append_left (listed Five) (listed Six) i
          (is-listed Five i (ap (λ m. only_if (is_take ask.request) (last_in origins.answerers m)) answered-so ∙ answer-in r j origins tables state at within p name is ask asked some legal i less of)))
      by kind.Readies less of last =
          from-five (Contains-append_right (listed Five) (listed Six) i
          (is-listed Six i (ap (λ m. last_in origins.readiers m) instance-so ∙ readiness-in r j origins tables state at within p name is ask asked some legal i less of)))
      by kind.Ends less of last = absurd (true≢false (sym of ∙ ordinary))
      by kind.Begins less of last =
          Contains-append_left (listed One) (listed Two ++ (listed Three ++ (listed Four ++ (listed Five ++ listed Six)))) i (is-listed One i (closing-in r j origins tables i (last refl)))

-- ---- an item of no process that doesn't end all

module _ (r : Run) (j : ℕ) (origins : Origins) (tables : AreOrigins r j origins) (within : j < length r.items) (nobody : actor_at r j ≡ 0) (asks-nothing : asked_at r j ≡ None)
    (ordinary : ends_all r j ≡ false) where
  pub closing-kept : (i : ℕ) → Contains (listed origins.closing) i → IsKept r i j
  closing-kept i here = begins_kept r i j within (closing-of r j origins tables i (listed-is origins.closing i here))

  asks-not : (test : Request → Bool) → asks_at r j test ≡ false
  asks-not test = ap (asks test) asks-nothing

  no-global : global_at r j ≡ None
  no-global = ap (global_by (stands_after r j)) asks-nothing ∙ by (stands_after r j)
    where
      by : (now : Next) → global_by now None ≡ None
      by (Goes state) = refl
      by (Over ending state) = refl
      by Illegal = refl

  pub kept-closing : (i : ℕ) → IsKept r i j → Contains (listed origins.closing) i
  kept-closing i kept = by kept.link.kind kept.link.link.is kept.last
    where
      by : (k : LinkKind) → IsOfKind r i j k → (k ≡ kind.Begins → IsLastEnding r j i) → Contains (listed origins.closing) i
      by kind.Next of last = absurd (let some : 0 < actor_at r j = of.some in omega arith)
      by kind.Makes of last = absurd (let some : 0 < actor_at r j = of.some in omega arith)
      by kind.Services of last = absurd (true≢false (sym of.services ∙ asks-not is_select))
      by kind.Answers of last = absurd (true≢false (sym of.takes ∙ asks-not is_take))
      by kind.Readies of last = absurd (let no : None ≡ Some of.instance = sym no-global ∙ of.asked in cc)
      by kind.Ends of last = absurd (true≢false (sym of ∙ ordinary))
      by kind.Begins of last = is-listed origins.closing i (closing-in r j origins tables i (last refl))

-- ---- lists of items as they are computed

pub six-same : (one two three four five six two' three' four' five' six' : Option ℕ) → two ≡ two' → three ≡ three' → four ≡ four' → five ≡ five' → six ≡ six'
    → listed one ++ (listed two ++ (listed three ++ (listed four ++ (listed five ++ listed six)))) ≡ listed one ++ (listed two' ++ (listed three' ++ (listed four' ++ (listed five' ++ listed six'))))
six-same one two three four five six two' three' four' five' six' e2 e3 e4 e5 e6 =
    ap (λ o. listed one ++ (listed o ++ (listed three ++ (listed four ++ (listed five ++ listed six))))) e2
    ∙ ap (λ o. listed one ++ (listed two' ++ (listed o ++ (listed four ++ (listed five ++ listed six))))) e3
    ∙ ap (λ o. listed one ++ (listed two' ++ (listed three' ++ (listed o ++ (listed five ++ listed six))))) e4
    ∙ ap (λ o. listed one ++ (listed two' ++ (listed three' ++ (listed four' ++ (listed o ++ listed six))))) e5
    ∙ ap (λ o. listed one ++ (listed two' ++ (listed three' ++ (listed four' ++ (listed five' ++ listed o))))) e6

pub pushed-three : (old x y z a b : List ℕ) → a ≡ old ++ x → b ≡ a ++ y → b ++ z ≡ old ++ (x ++ (y ++ z))
pushed-three old x y z a b first second = ap (λ w. w ++ z) second ∙ ap (λ w. (w ++ y) ++ z) first ∙ append_assoc (old ++ x) y z ∙ append_assoc old x (y ++ z)

pub pushed-six : (begun u v w x y z a b : List ℕ) → begun ≡ [] → a ≡ begun ++ (u ++ (v ++ w)) → b ≡ a ++ (x ++ (y ++ z)) → b ≡ u ++ (v ++ (w ++ (x ++ (y ++ z))))
pushed-six begun u v w x y z a b none first second =
    second ∙ ap (λ s. s ++ (x ++ (y ++ z))) (first ∙ ap (λ s. s ++ (u ++ (v ++ w))) none) ∙ append_assoc u (v ++ w) (x ++ (y ++ z)) ∙ ap (λ s. u ++ s) (append_assoc v w (x ++ (y ++ z)))

-- ---- one item more that ends all, or not

pub closing-more : (r : Run) (item : ℕ) (ends : Bool) (closing : Option ℕ) → IsLastIf (ending_at r) item 1 closing → ends_all r item ≡ ends → IsLastIf (ending_at r) (item + 1) 1 (closing_if ends item closing)
closing-more r item true closing last is = record { earlier = omega arith; has = ap one_if is; none_later = λ k more less. absurd (omega (arith, more, less)) }
closing-more r item false None last is = λ k less. ⊎_elim (λ e. not-this k e) (λ ne. last k (omega arith)) (cases_eq k item)
  where
    not-this : (k : ℕ) → k ≡ item → ending_at r k ≢ 1
    not-this k e one = let none : ending_at r k ≡ 0 = ap (ending_at r) e ∙ ap one_if is in omega (arith, none, one)
closing-more r item false (Some i) last is = record { earlier = let less = last.earlier in omega (arith, less); has = last.has; none_later = λ k more less. ⊎_elim (λ e. not-this k e) (λ ne. last.none_later k more (omega arith)) (cases_eq k item) }
  where
    not-this : (k : ℕ) → k ≡ item → ending_at r k ≢ 1
    not-this k e one = let none : ending_at r k ≡ 0 = ap (ending_at r) e ∙ ap one_if is in omega (arith, none, one)
