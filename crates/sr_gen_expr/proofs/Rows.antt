-- Rows that are emitted from the last item to the first.
use Rattle.std.proofs.Common.{◌≡◌, ℕ, zero, suc, ◌+◌, ◌-◌, ◌<◌, ◌≤◌, List, [], ◌∷◌, drop, length, map, refl, sym, subst, ◌∙◌, ap, get_or, arith}
use Rattle.std.proofs.lemmas.List.{drop_more}
use Rattle.sr_value.specs.declared.place.Place.{Place}
use Rattle.sr_core.specs.declared.component.Core.{Core}
use Rattle.sr_core.specs.declared.formal.Formal.{Formal}
use Rattle.sr_core.specs.declared.statement.Scope.{Scope}
use Rattle.sr_code.specs.Operands.{put_cap, put_list}
use Rattle.sr_code.specs.Stretches.{Emits}
use Rattle.sr_code.specs.declared.code.Coded.{Coded}
use Rattle.sr_code.specs.declared.instruction.Instruction.TheVariants.{DropList, EnsureGlobal, MakeFormal, StoreFormal}
use Rattle.sr_code.specs.declared.operands.Operands.{Operands}
use Rattle.sr_meaning.specs.Expressions.{Meaning, ensured, in_order}
use Rattle.sr_meaning.specs.Statements.{make_formals}
use Rattle.sr_gen_expr.specs.Emitting.{Gives, Takes, join_all, keep_top, put_nothing, put_only}
use Rattle.sr_gen_expr.proofs.Calls.{ensures_more, ensures_none}
use Rattle.sr_gen_expr.proofs.Declarations.{formals_more, formals_none}
use Rattle.sr_gen_expr.proofs.Stretching.{joins_more, joins_none}

pub drop_all : {A : Type 0} (xs : List A) → drop (length xs) xs ≡ []
drop_all [] = refl
drop_all (x ∷ xs) = drop_all xs

-- what is left from an item on is that item and the rest
pub drop_from : {A : Type 0} (xs : List A) (at : ℕ) (x : A) → 0 < at → at ≤ length xs → x ≡ get_or xs (at - 1) x → drop (at - 1) xs ≡ x ∷ drop at xs
drop_from xs at x low high is =
    let back : at - 1 + 1 ≡ at = omega arith in
    drop_more xs (at - 1) x (omega arith) ∙ ap (λ y. y ∷ drop (at - 1 + 1) xs) (sym is) ∙ ap (λ n. x ∷ drop n xs) back

pub drop_none : {A : Type 0} (xs : List A) (at : ℕ) → at ≤ 0 → drop at xs ≡ xs
drop_none xs at h = let is : at ≡ zero = omega arith in ap (λ n. drop n xs) is

-- ---- parts that join the operand on top

pub rows_none : {A X : Type 0} (join : A → Operands → Operands) (core : Core) (line : Place) (f : X → Meaning A) (xs : List X) (c0 : List Coded)
    → Gives (join_all join) core line (in_order (map f (drop (length xs) xs))) c0 c0
rows_none join core line f xs c0 =
    let P : List _ → Type 0 = λ ys. Gives (join_all join) core line (in_order (map f ys)) c0 c0 in
    subst P (sym (drop_all xs)) (joins_none join core line c0)

pub rows_more : {A X : Type 0} {join : A → Operands → Operands} {core : Core} {line : Place} (f : X → Meaning A) (xs : List X) (at : ℕ) (x : X) {c0 c1 c2 : List Coded}
    → 0 < at → at ≤ length xs → x ≡ get_or xs (at - 1) x → Gives (join_all join) core line (in_order (map f (drop at xs))) c0 c1 → Gives join core line (f x) c1 c2
    → Gives (join_all join) core line (in_order (map f (drop (at - 1) xs))) c0 c2
rows_more {join = join} {core = core} {line = line} f xs at x {c0 = c0} {c2 = c2} low high is rest first =
    let P : List _ → Type 0 = λ ys. Gives (join_all join) core line (in_order (map f ys)) c0 c2 in
    subst P (sym (drop_from xs at x low high is)) (joins_more (f x) (map f (drop at xs)) rest first)

pub rows_all : {A X : Type 0} {join : A → Operands → Operands} {core : Core} {line : Place} (f : X → Meaning A) (xs : List X) (at : ℕ) {c0 c1 : List Coded} → at ≤ 0
    → Gives (join_all join) core line (in_order (map f (drop at xs))) c0 c1 → Gives (join_all join) core line (in_order (map f xs)) c0 c1
rows_all {join = join} {core = core} {line = line} f xs at {c0 = c0} {c1 = c1} low g =
    let P : List _ → Type 0 = λ ys. Gives (join_all join) core line (in_order (map f ys)) c0 c1 in subst P (drop_none xs at low) g

-- ---- globals

pub globals_none : (core : Core) (line : Place) (globals : List ℕ) (c0 : List Coded) → Takes put_cap (keep_top put_cap) core line (λ vm. ensured (drop (length globals) globals) vm) c0 c0
globals_none core line globals c0 =
    let P : List ℕ → Type 0 = λ gs. Takes put_cap (keep_top put_cap) core line (λ vm. ensured gs vm) c0 c0 in
    subst P (sym (drop_all globals)) (ensures_none core line c0)

pub globals_more : {core : Core} {line : Place} (globals : List ℕ) (at global : ℕ) {c0 c1 c2 : List Coded} → 0 < at → at ≤ length globals → global ≡ get_or globals (at - 1) global
    → Emits line (EnsureGlobal global) c1 c2 → Takes put_cap (keep_top put_cap) core line (λ vm. ensured (drop at globals) vm) c0 c1
    → Takes put_cap (keep_top put_cap) core line (λ vm. ensured (drop (at - 1) globals) vm) c0 c2
globals_more {core = core} {line = line} globals at global {c0 = c0} {c2 = c2} low high is e t =
    let P : List ℕ → Type 0 = λ gs. Takes put_cap (keep_top put_cap) core line (λ vm. ensured gs vm) c0 c2 in
    subst P (sym (drop_from globals at global low high is)) (ensures_more global (drop at globals) e t)

pub globals_all : {core : Core} {line : Place} (globals : List ℕ) (at : ℕ) {c0 c1 : List Coded} → at ≤ 0
    → Takes put_cap (keep_top put_cap) core line (λ vm. ensured (drop at globals) vm) c0 c1 → Takes put_cap (keep_top put_cap) core line (λ vm. ensured globals vm) c0 c1
globals_all {core = core} {line = line} globals at {c0 = c0} {c1 = c1} low t =
    let P : List ℕ → Type 0 = λ gs. Takes put_cap (keep_top put_cap) core line (λ vm. ensured gs vm) c0 c1 in subst P (drop_none globals at low) t

-- ---- loops over rows

-- at the beginning nothing is emitted
pub rows_begin : {A X : Type 0} (join : A → Operands → Operands) (core : Core) (line : Place) (f : X → Meaning A) (xs : List X) (at : ℕ) (c0 : List Coded) → at ≡ length xs
    → (at ≤ length xs) × Gives (join_all join) core line (in_order (map f (drop at xs))) c0 c0
rows_begin join core line f xs at c0 is =
    let P : ℕ → Type 0 = λ n. (n ≤ length xs) × Gives (join_all join) core line (in_order (map f (drop n xs))) c0 c0 in
    let most : length xs ≤ length xs = omega arith in subst P (sym is) (most, rows_none join core line f xs c0)

-- one item more
pub rows_step : {A X : Type 0} {join : A → Operands → Operands} {core : Core} {line : Place} (f : X → Meaning A) (xs : List X) (at : ℕ) (x : X) {c0 c1 c2 : List Coded}
    → 0 < at → (at ≤ length xs) × Gives (join_all join) core line (in_order (map f (drop at xs))) c0 c1 → x ≡ get_or xs (at - 1) x → Gives join core line (f x) c1 c2
    → (at - 1 ≤ length xs) × Gives (join_all join) core line (in_order (map f (drop (at - 1) xs))) c0 c2
rows_step f xs at x low so_far is first = let high = so_far.0 in (omega arith, rows_more f xs at x low high is so_far.1 first)

pub globals_begin : (line : Place) (globals : List ℕ) (at : ℕ) (c0 : List Coded) → at ≡ length globals
    → (at ≤ length globals) × ((core : Core) → Takes put_cap (keep_top put_cap) core line (λ vm. ensured (drop at globals) vm) c0 c0)
globals_begin line globals at c0 is =
    let P : ℕ → Type 0 = λ n. (n ≤ length globals) × ((core : Core) → Takes put_cap (keep_top put_cap) core line (λ vm. ensured (drop n globals) vm) c0 c0) in
    let most : length globals ≤ length globals = omega arith in subst P (sym is) (most, λ core. globals_none core line globals c0)

same_within : (xs : List ℕ) (i : ℕ) → i < length xs → get_or xs i 0 ≡ get_or xs i (get_or xs i 0)
same_within [] i within = absurd (omega arith)
same_within (x ∷ xs) zero within = refl
same_within (x ∷ xs) (suc i) within = same_within xs i (omega arith)

pub globals_step : {line : Place} (globals : List ℕ) (at : ℕ) {c0 c1 c2 : List Coded} → 0 < at
    → (at ≤ length globals) × ((core : Core) → Takes put_cap (keep_top put_cap) core line (λ vm. ensured (drop at globals) vm) c0 c1)
    → Emits line (EnsureGlobal (get_or globals (at - 1) 0)) c1 c2 → (at - 1 ≤ length globals) × ((core : Core) → Takes put_cap (keep_top put_cap) core line (λ vm. ensured (drop (at - 1) globals) vm) c0 c2)
globals_step globals at low so_far e =
    let high = so_far.0 in
    (omega arith, λ core. globals_more globals at (get_or globals (at - 1) 0) low high (same_within globals (at - 1) (omega arith)) e (so_far.1 core))

-- ---- formals

pub formals_begin : {line : Place} (scope : Scope) (formals : List Formal) (at : ℕ) {c0 c1 : List Coded} → at ≡ length formals → Emits line DropList c0 c1
    → (at ≤ length formals) × ((core : Core) → Takes put_list (put_only put_nothing) core line (λ args. make_formals scope (drop at formals) args) c0 c1)
formals_begin {line = line} scope formals at {c0 = c0} {c1 = c1} is e =
    let P : ℕ → Type 0 = λ n. (n ≤ length formals) × ((core : Core) → Takes put_list (put_only put_nothing) core line (λ args. make_formals scope (drop n formals) args) c0 c1) in
    let Q : List Formal → Type 0 = λ fs. (core : Core) → Takes put_list (put_only put_nothing) core line (λ args. make_formals scope (fs) args) c0 c1 in
    let most : length formals ≤ length formals = omega arith in
    subst P (sym is) (most, subst Q (sym (drop_all formals)) (λ core. formals_none scope e))

pub formals_step : {line : Place} (scope : Scope) (formals : List Formal) (at : ℕ) (formal : Formal) {c0 c1 c2 c3 : List Coded} → 0 < at
    → (at ≤ length formals) × ((core : Core) → Takes put_list (put_only put_nothing) core line (λ args. make_formals scope (drop at formals) args) c0 c1) → formal ≡ get_or formals (at - 1) formal
    → Emits line (StoreFormal scope formal.var formal.mode) c1 c2 → Emits line (MakeFormal scope formal.var formal.mode formal.shape) c2 c3
    → (at - 1 ≤ length formals) × ((core : Core) → Takes put_list (put_only put_nothing) core line (λ args. make_formals scope (drop (at - 1) formals) args) c0 c3)
formals_step {line = line} scope formals at formal {c0 = c0} {c3 = c3} low so_far is store make =
    let high = so_far.0 in
    let Q : List Formal → Type 0 = λ fs. (core : Core) → Takes put_list (put_only put_nothing) core line (λ args. make_formals scope (fs) args) c0 c3 in
    (omega arith, subst Q (sym (drop_from formals at formal low high is)) (λ core. formals_more scope formal (drop at formals) (so_far.1 core) store make))

pub formals_all : {line : Place} (scope : Scope) (formals : List Formal) (at : ℕ) {c0 c1 : List Coded} → at ≤ 0
    → ((core : Core) → Takes put_list (put_only put_nothing) core line (λ args. make_formals scope (drop at formals) args) c0 c1) → (core : Core) → Takes put_list (put_only put_nothing) core line (λ args. make_formals scope (formals) args) c0 c1
formals_all {line = line} scope formals at {c0 = c0} {c1 = c1} low t =
    let Q : List Formal → Type 0 = λ fs. (core : Core) → Takes put_list (put_only put_nothing) core line (λ args. make_formals scope (fs) args) c0 c1 in subst Q (drop_none formals at low) t
