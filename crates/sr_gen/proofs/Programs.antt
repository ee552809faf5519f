-- Whole programs: their code asks what their trees ask.
use Rattle.std.proofs.Common.{◌≡◌, ℕ, ◌+◌, ◌≤◌, ◌<◌, ◌⊎◌, inl, inr, false, List, [], ◌∷◌, ◌++◌, length, replicate, Option, Some, None, option_map, refl, sym, ◌∙◌, ap, subst, get_or, slice_get, unwrap_or, arith, length-append}
use Rattle.std.proofs.lemmas.Option.{slice_get_past, slice_get_within, slice_get-get_or}
use Rattle.std.specs.Option.{option_and_then}
use Rattle.sr_value.specs.declared.place.Place.{Place}
use Rattle.sr_ask.specs.Asking.{none_takes}
use Rattle.sr_ask.specs.Behaviors.{Stage, Outcome, Came, Stops, and_then, asked, heard}
use Rattle.sr_ask.specs.declared.answer.Answer.{Answer}
use Rattle.sr_ask.specs.declared.ask.Asks.{Asks}
use Rattle.sr_ask.specs.declared.ask.Role.{Role}
use Rattle.sr_ask.specs.declared.ask.Role.TheVariants.{Boot, Initial, Proc as proc_role, Final}
use Rattle.sr_ask.specs.declared.environment.Gives.{Gives}
use Rattle.sr_ask.specs.declared.environment.Gives.TheVariants.{Values, Instance}
use Rattle.sr_ask.specs.declared.start.Start.{Start}
use Rattle.sr_core.specs.Formals.{result_vars}
use Rattle.sr_core.specs.declared.component.Body.{Body}
use Rattle.sr_core.specs.declared.component.Component.{Component}
use Rattle.sr_core.specs.declared.component.Core.{Core}
use Rattle.sr_core.specs.declared.component.Proc.{Proc}
use Rattle.sr_code.specs.Acts.{point}
use Rattle.sr_code.specs.Operands.{no_operands}
use Rattle.sr_code.specs.Runs.{Machine, code_ask, ends_at, entry_of, first_line, go, machine_at, no_line, stage_at, then_asks}
use Rattle.sr_code.specs.Stretches.{Extends, Follows, Has}
use Rattle.sr_code.specs.declared.code.Code.{Code}
use Rattle.sr_code.specs.declared.code.Coded.{Coded}
use Rattle.sr_code.specs.declared.code.Entry.{Entry}
use Rattle.sr_code.specs.declared.operands.Operands.{Operands}
use Rattle.sr_code.proofs.OneByOne.{one_by_one}
use Rattle.sr_code.proofs.Stretches.{extends_self, extends_then, follows_as, follows_give, lower_part}
use Rattle.sr_meaning.specs.declared.ending.Ending.{Ending}
use Rattle.sr_meaning.specs.Expressions.{Meaning}
use Rattle.sr_meaning.specs.Processes.{ask, body_for, boot_meaning, component_for, component_of_proc, final_meaning, finish, gives_for, here_for, initial_meaning, line_of_component, main_of, owns_of, proc_gives, proc_meaning, process_meaning, role_meaning}
use Rattle.sr_gen_expr.specs.Emitting.{tree_here}
use Rattle.sr_gen_expr.proofs.Stretching.{follows_at}
use Rattle.sr_gen.specs.Doing.{Ends}
use Rattle.sr_compiled.specs.Agreement.{AsksTheSame}
use Rattle.sr_gen.specs.Programs.{Enters, EntersEach, LaysOut, body_at, gives_at}
use Rattle.sr_gen.proofs.Services.{appended, less_or_not}

-- ---- one process

-- the end of a process is asked for good
finish_heard : {A : Type 0} (asks : Asks) (limit : ℕ) (answers : List Answer) (stage : Stage) (next : A → Stage → Asks)
    → then_asks (heard none_takes asks limit answers stage) next ≡ asked (heard {A = Ending} none_takes asks limit answers stage)
finish_heard asks limit [] stage next = refl
finish_heard asks limit (answer ∷ answers) stage next = finish_heard asks limit answers (record stage { answers = answers }) next

ends_same : (m : Machine) (on : Operands) (o : Outcome (Unit {0})) → then_asks o (λ _. go m (point 0 on)) ≡ asked (and_then o (λ _. finish (tree_here m m.line)))
ends_same m on (Came u stage) = one_by_one m (point 0 on) stage ∙ finish_heard _ m.limit stage.answers stage (go m)
ends_same m on (Stops asks) = refl

body_same : (role : Role) (core : Core) (start : Start) → role ≡ start.role → body_at role core start.code ≡ body_for role core start
body_same Boot core start is = refl
body_same Initial core start is = ap (λ r. option_map (λ component. component.initial) (slice_get core.components (component_for r core start.code))) is
body_same proc_role core start is = refl
body_same Final core start is = ap (λ r. option_and_then (λ component. component.final_code) (slice_get core.components (component_for r core start.code))) is

gives_same : (role : Role) (core : Core) (start : Start) → gives_at role core start.code ≡ gives_for role core start
gives_same Boot core start = refl
gives_same Initial core start = refl
gives_same proc_role core start = refl
gives_same Final core start = refl

-- a process at its beginning, with so many own variables, and what it gives
abbrev begun : Start → ℕ → List Answer → ℕ → Gives → Stage
begun start limit answers owns gives = record {
  ticks = limit;
  answers = answers;
  own = replicate owns None;
  service = record { held = start.process; back = start.back; answered = false; gives = gives };
  out = [];
}

pub asks_same : (core : Core) (code : Code) (start : Start) (limit : ℕ) (answers : List Answer) → Enters core start.role start.code (entry_of code start.role start.code) code.items
    → code_ask core code start limit answers ≡ ask core start limit answers
asks_same core code start limit answers enters =
    let entry : Entry = entry_of code start.role start.code in
    let m : Machine = machine_at entry core code start limit in
    let h : Has code.items 0 (length code.items) code.items = (extends_self code.items).kept in
    (enters.runs m refl refl refl h no_operands).same (stage_at entry start limit answers)
    ∙ ends_same m no_operands (role_meaning start.role (tree_here m entry.place) (stage_at entry start limit answers))
    ∙ ap (λ line. asked (process_meaning (record { core = core; start = start; limit = limit; place = line }) (begun start limit answers entry.owns entry.gives))) enters.line
    ∙ ap (λ owns. asked (process_meaning (here_for core start limit) (begun start limit answers owns entry.gives))) (enters.owns ∙ ap owns_of (body_same start.role core start refl))
    ∙ ap (λ gives. asked (process_meaning (here_for core start limit) (begun start limit answers (owns_of (body_for start.role core start)) gives))) (enters.gives ∙ gives_same start.role core start)

-- ---- entries

pub enters_more : {core : Core} {role : Role} {number : ℕ} {entry : Entry} {items more : List Coded} → Extends items more → Enters core role number entry items → Enters core role number entry more
enters_more grows enters = record {
  line = enters.line;
  owns = enters.owns;
  gives = enters.gives;
  runs = λ m same role_is code_is h on. enters.runs m same role_is code_is (lower_part grows h) on;
}

pub each_more : {core : Core} {role : Role} {entries : List Entry} {items more : List Coded} → Extends items more → EntersEach core role entries items → EntersEach core role entries more
each_more grows each = record { each = λ number entry is. enters_more grows (each.each number entry is) }

pub each_none : (core : Core) (role : Role) (items : List Coded) → EntersEach core role [] items
each_none core role items = record { each = λ number entry is. absurd (cc is) }

same_entry : (found : Option Entry) (one other : Entry) → found ≡ Some one → found ≡ Some other → one ≡ other
same_entry found one other is is' = ap (λ o. unwrap_or o one) (sym is ∙ is')

pub each_added : {core : Core} {role : Role} (entries : List Entry) (entry : Entry) {items more : List Coded} → EntersEach core role entries items → Extends items more → Enters core role (length entries) entry more
    → EntersEach core role (entries ++ entry ∷ []) more
each_added {core = core} {role = role} entries entry {more = more} each grows enters =
    record { each = λ number found is. one number found is (appended entries entry number (slice_get_within (entries ++ entry ∷ []) number found is)) } where
      one : (number : ℕ) (found : Entry) → slice_get (entries ++ entry ∷ []) number ≡ Some found
          → ((number < length entries) × (slice_get (entries ++ entry ∷ []) number ≡ slice_get entries number)) ⊎ ((number ≡ length entries) × (slice_get (entries ++ entry ∷ []) number ≡ Some entry))
          → Enters core role number found more
      one number found is (inl known) = enters_more grows (each.each number found (sym known.1 ∙ is))
      one number found is (inr last) =
          let P : ℕ → Type 0 = λ n. Enters core role n entry more in
          let Q : Entry → Type 0 = λ e. Enters core role number e more in
          subst Q (same_entry (slice_get (entries ++ entry ∷ []) number) entry found last.1 is) (subst P (sym last.0) enters)

-- the part of the code that was emitted last
newest : (old : List Coded) {new whole : List Coded} → Has new 0 (length new) whole → Has new (length old) (length new) whole
newest old h = record { same = λ at low high. h.same at (omega arith) high }

ends_from : {core : Core} {line : Place} {work : Meaning (Unit {0})} {c0 c1 : List Coded} (entry : Entry) → Ends core line work c0 c1 → entry.address ≡ length c1 → entry.place ≡ line
    → (m : Machine) → m.core ≡ core → Has c1 0 (length c1) m.code → (on : Operands) → Follows (go m (point entry.address on)) (work (tree_here m entry.place)) (λ _. go m (point 0 on))
ends_from {work = work} {c0 = c0} entry ends address_is line_is m same h on =
    follows_as (ap (λ line. work (tree_here m line)) line_is)
    (follows_at (λ stage. ap (λ n. go m (point n on) stage) address_is) (ends.runs m same (newest c0 h) on))

pub enters_proc : {core : Core} (number : ℕ) (proc : Proc) (entry : Entry) {c0 c1 : List Coded} → slice_get core.procs number ≡ Some proc → ((line : Place) → Ends core line (proc_meaning (Some proc)) c0 c1)
    → entry.address ≡ length c1 → entry.place ≡ line_of_component (slice_get core.components (component_of_proc core proc)) → entry.owns ≡ proc.body.owns
    → entry.gives ≡ Values (result_vars proc.formals proc.returned) → Enters core proc_role number entry c1
enters_proc {core = core} number proc entry is ends address_is line_is owns_is gives_is = record {
  line = line_is ∙ ap (λ found. line_of_component (slice_get core.components (unwrap_or (option_map (component_of_proc core) found) 0))) (sym is);
  owns = owns_is ∙ ap (λ found. owns_of (option_map (λ p. p.body) found)) (sym is);
  gives = gives_is ∙ ap proc_gives (sym is);
  runs = λ m same role_is code_is h on.
      follows_as (ap (λ c. proc_meaning (slice_get c.procs m.start.code) (tree_here m entry.place)) same
      ∙ ap (λ n. proc_meaning (slice_get core.procs n) (tree_here m entry.place)) code_is ∙ ap (λ found. proc_meaning found (tree_here m entry.place)) is)
      (ends_from entry (ends entry.place) address_is refl m same h on);
}

pub enters_initial : {core : Core} (number : ℕ) (component : Component) (entry : Entry) {c0 c1 : List Coded} → slice_get core.components number ≡ Some component
    → Ends core component.place (initial_meaning (Some component)) c0 c1 → entry.address ≡ length c1 → entry.place ≡ component.place → entry.owns ≡ component.initial.owns → entry.gives ≡ Instance
    → Enters core Initial number entry c1
enters_initial {core = core} number component entry is ends address_is line_is owns_is gives_is = record {
  line = line_is ∙ ap line_of_component (sym is);
  owns = owns_is ∙ ap (λ found. owns_of (option_map (λ c. c.initial) found)) (sym is);
  gives = gives_is;
  runs = λ m same role_is code_is h on.
      follows_as (ap (λ r. initial_meaning (slice_get m.core.components (component_for r m.core m.start.code)) (tree_here m entry.place)) role_is
      ∙ ap (λ c. initial_meaning (slice_get c.components m.start.code) (tree_here m entry.place)) same
      ∙ ap (λ n. initial_meaning (slice_get core.components n) (tree_here m entry.place)) code_is ∙ ap (λ found. initial_meaning found (tree_here m entry.place)) is)
      (ends_from entry ends address_is line_is m same h on);
}

-- final code, where there is some
pub enters_final : {core : Core} (number : ℕ) (component : Component) (body : Body) (entry : Entry) {c0 c1 : List Coded} → slice_get core.components number ≡ Some component → component.final_code ≡ Some body
    → Ends core component.place (final_meaning (Some body)) c0 c1 → entry.address ≡ length c1 → entry.place ≡ component.place → entry.owns ≡ body.owns → entry.gives ≡ Values [] → Enters core Final number entry c1
enters_final {core = core} number component body entry is body_is ends address_is line_is owns_is gives_is = record {
  line = line_is ∙ ap line_of_component (sym is);
  owns = owns_is ∙ ap owns_of (sym body_is) ∙ ap (λ found. owns_of (option_and_then (λ c. c.final_code) found)) (sym is);
  gives = gives_is;
  runs = λ m same role_is code_is h on.
      follows_as (ap (λ r. final_meaning (option_and_then (λ c. c.final_code) (slice_get m.core.components (component_for r m.core m.start.code))) (tree_here m entry.place)) role_is
      ∙ ap (λ c. final_meaning (option_and_then (λ c'. c'.final_code) (slice_get c.components m.start.code)) (tree_here m entry.place)) same
      ∙ ap (λ n. final_meaning (option_and_then (λ c. c.final_code) (slice_get core.components n)) (tree_here m entry.place)) code_is
      ∙ ap (λ found. final_meaning (option_and_then (λ c. c.final_code) found) (tree_here m entry.place)) is ∙ ap (λ found. final_meaning found (tree_here m entry.place)) body_is)
      (ends_from entry ends address_is line_is m same h on);
}

-- a component without final code
pub enters_no_final : {core : Core} (number : ℕ) (component : Component) (entry : Entry) (items : List Coded) → slice_get core.components number ≡ Some component → component.final_code ≡ None
    → entry.address ≡ 0 → entry.place ≡ component.place → entry.owns ≡ 0 → entry.gives ≡ Values [] → Enters core Final number entry items
enters_no_final {core = core} number component entry items is none address_is line_is owns_is gives_is = record {
  line = line_is ∙ ap line_of_component (sym is);
  owns = owns_is ∙ ap owns_of (sym none) ∙ ap (λ found. owns_of (option_and_then (λ c. c.final_code) found)) (sym is);
  gives = gives_is;
  runs = λ m same role_is code_is h on.
      follows_as (ap (λ r. final_meaning (option_and_then (λ c. c.final_code) (slice_get m.core.components (component_for r m.core m.start.code))) (tree_here m entry.place)) role_is
      ∙ ap (λ c. final_meaning (option_and_then (λ c'. c'.final_code) (slice_get c.components m.start.code)) (tree_here m entry.place)) same
      ∙ ap (λ n. final_meaning (option_and_then (λ c. c.final_code) (slice_get core.components n)) (tree_here m entry.place)) code_is
      ∙ ap (λ found. final_meaning (option_and_then (λ c. c.final_code) found) (tree_here m entry.place)) is ∙ ap (λ found. final_meaning found (tree_here m entry.place)) none)
      (follows_at (λ stage. ap (λ n. go m (point n on) stage) address_is) (follows_give (λ _. go m (point 0 on)) tt));
}

pub enters_boot : {core : Core} (number : ℕ) (entry : Entry) {line : Place} {c0 c1 : List Coded} → Ends core line boot_meaning c0 c1 → entry.address ≡ length c1 → entry.place ≡ line
    → entry.place ≡ line_of_component (slice_get core.components (main_of core)) → entry.owns ≡ 0 → entry.gives ≡ Values [] → Enters core Boot number entry c1
enters_boot number entry ends address_is place_is line_is owns_is gives_is = record {
  line = line_is;
  owns = owns_is;
  gives = gives_is;
  runs = λ m same role_is code_is h on. ends_from entry ends address_is place_is m same h on;
}

-- ---- numbers that no entry has

pub no_initial : (core : Core) (number : ℕ) (items : List Coded) → slice_get core.components number ≡ None → Enters core Initial number (ends_at no_line Initial) items
no_initial core number items none = record {
  line = ap line_of_component (sym none);
  owns = ap (λ found. owns_of (option_map (λ c. c.initial) found)) (sym none);
  gives = refl;
  runs = λ m same role_is code_is h on.
      follows_as (ap (λ r. initial_meaning (slice_get m.core.components (component_for r m.core m.start.code)) (tree_here m no_line)) role_is
      ∙ ap (λ c. initial_meaning (slice_get c.components m.start.code) (tree_here m no_line)) same
      ∙ ap (λ n. initial_meaning (slice_get core.components n) (tree_here m no_line)) code_is ∙ ap (λ found. initial_meaning found (tree_here m no_line)) none)
      (follows_give (λ _. go m (point 0 on)) tt);
}

pub no_final : (core : Core) (number : ℕ) (items : List Coded) → slice_get core.components number ≡ None → Enters core Final number (ends_at no_line Final) items
no_final core number items none = record {
  line = ap line_of_component (sym none);
  owns = ap (λ found. owns_of (option_and_then (λ c. c.final_code) found)) (sym none);
  gives = refl;
  runs = λ m same role_is code_is h on.
      follows_as (ap (λ r. final_meaning (option_and_then (λ c. c.final_code) (slice_get m.core.components (component_for r m.core m.start.code))) (tree_here m no_line)) role_is
      ∙ ap (λ c. final_meaning (option_and_then (λ c'. c'.final_code) (slice_get c.components m.start.code)) (tree_here m no_line)) same
      ∙ ap (λ n. final_meaning (option_and_then (λ c. c.final_code) (slice_get core.components n)) (tree_here m no_line)) code_is
      ∙ ap (λ found. final_meaning (option_and_then (λ c. c.final_code) found) (tree_here m no_line)) none)
      (follows_give (λ _. go m (point 0 on)) tt);
}

first_of_all : {core : Core} (initial : List Entry) {items : List Coded} → length initial ≡ length core.components → EntersEach core Initial initial items
    → first_line initial ≡ line_of_component (slice_get core.components 0)
first_of_all {core = core} [] size each = ap line_of_component (sym (slice_get_past core.components 0 (omega (arith, size))))
first_of_all (entry ∷ entries) size each = (each.each 0 entry refl).line

pub no_proc : (core : Core) (initial : List Entry) (number : ℕ) (items : List Coded) → length initial ≡ length core.components → EntersEach core Initial initial items → slice_get core.procs number ≡ None
    → Enters core proc_role number (ends_at (first_line initial) proc_role) items
no_proc core initial number items size each none = record {
  line = first_of_all initial size each ∙ ap (λ found. line_of_component (slice_get core.components (unwrap_or (option_map (component_of_proc core) found) 0))) (sym none);
  owns = ap (λ found. owns_of (option_map (λ p. p.body) found)) (sym none);
  gives = ap proc_gives (sym none);
  runs = λ m same role_is code_is h on.
      follows_as (ap (λ c. proc_meaning (slice_get c.procs m.start.code) (tree_here m (first_line initial))) same
      ∙ ap (λ n. proc_meaning (slice_get core.procs n) (tree_here m (first_line initial))) code_is ∙ ap (λ found. proc_meaning found (tree_here m (first_line initial))) none)
      (follows_give (λ _. go m (point 0 on)) tt);
}

-- ---- the whole

found_or : {core : Core} {role : Role} {number : ℕ} {items : List Coded} (entries : List Entry) (otherwise : Entry) → EntersEach core role entries items
    → (length entries ≤ number → Enters core role number otherwise items) → Enters core role number (unwrap_or (slice_get entries number) otherwise) items
found_or {core = core} {role = role} {number = number} {items = items} entries otherwise each past = by_place (less_or_not number (length entries)) where
  by_place : (number < length entries) ⊎ (length entries ≤ number) → Enters core role number (unwrap_or (slice_get entries number) otherwise) items
  by_place (inl within) =
      let is : slice_get entries number ≡ Some (get_or entries number otherwise) = slice_get-get_or entries number otherwise within in
      let P : Option Entry → Type 0 = λ found. Enters core role number (unwrap_or found otherwise) items in
      subst P (sym is) (each.each number (get_or entries number otherwise) is)
  by_place (inr over) =
      let P : Option Entry → Type 0 = λ found. Enters core role number (unwrap_or found otherwise) items in
      subst P (sym (slice_get_past entries number over)) (past over)

pub all_enter : (core : Core) (code : Code) (role : Role) (number : ℕ) → ((n : ℕ) → Enters core Boot n code.boot code.items) → EntersEach core Initial code.initial code.items → length code.initial ≡ length core.components
    → EntersEach core Final code.final_code code.items → length code.final_code ≡ length core.components → EntersEach core proc_role code.procs code.items → length code.procs ≡ length core.procs
    → Enters core role number (entry_of code role number) code.items
all_enter core code Boot number boot initial initials final finals procs all_procs = boot number
all_enter core code Initial number boot initial initials final finals procs all_procs =
    found_or code.initial (ends_at no_line Initial) initial (λ past. no_initial core number code.items (slice_get_past core.components number (omega (arith, initials))))
all_enter core code proc_role number boot initial initials final finals procs all_procs =
    found_or code.procs (ends_at (first_line code.initial) proc_role) procs (λ past. no_proc core code.initial number code.items initials initial (slice_get_past core.procs number (omega (arith, all_procs))))
all_enter core code Final number boot initial initials final finals procs all_procs =
    found_or code.final_code (ends_at no_line Final) final (λ past. no_final core number code.items (slice_get_past core.components number (omega (arith, finals))))

-- ---- as it is emitted

pub lays_none : (core : Core) (role : Role) {entries : List Entry} (items : List Coded) → entries ≡ [] → LaysOut core role 0 entries items items
lays_none core role items is =
    let P : List Entry → Type 0 = λ found. LaysOut core role 0 found items items in
    subst P (sym is) (record { grows = extends_self items; each = each_none core role items; all = refl })

pub lays_more : {core : Core} {role : Role} {count : ℕ} (entries : List Entry) (entry : Entry) {added : List Entry} {c0 c1 c2 : List Coded} → added ≡ entries ++ entry ∷ []
    → LaysOut core role count entries c0 c1 → Extends c1 c2 → Enters core role count entry c2 → LaysOut core role (count + 1) added c0 c2
lays_more {core = core} {role = role} {count = count} entries entry {c0 = c0} {c2 = c2} is lays grows enters =
    let P : List Entry → Type 0 = λ found. LaysOut core role (count + 1) found c0 c2 in
    let Q : ℕ → Type 0 = λ n. Enters core role n entry c2 in
    subst P (sym is) (record {
      grows = extends_then lays.grows grows;
      each = each_added entries entry lays.each grows (subst Q (sym lays.all) enters);
      all = omega (arith, lays.all, length-append entries (entry ∷ []));
    })

-- a table that has an entry for each item of a list
pub lays_all : {A : Type 0} {core : Core} {role : Role} {count : ℕ} {entries : List Entry} {c0 c1 : List Coded} (xs ys : List A) → xs ≡ ys → length xs ≤ count → count ≤ length xs → LaysOut core role count entries c0 c1
    → LaysOut core role (length ys) entries c0 c1
lays_all {core = core} {role = role} {count = count} {entries = entries} {c0 = c0} {c1 = c1} xs ys same low high lays =
    let P : ℕ → Type 0 = λ n. LaysOut core role n entries c0 c1 in
    let is : count ≡ length ys = omega (arith, ap length same) in
    subst P is lays

-- the row of a program, emitted from the procs on
pub generated : {core : Core} (code : Code) {c0 c1 c2 c3 : List Coded} → LaysOut core proc_role (length core.procs) code.procs c0 c1 → LaysOut core Final (length core.components) code.final_code c1 c2
    → LaysOut core Initial (length core.components) code.initial c2 c3 → Extends c3 code.items → ((n : ℕ) → Enters core Boot n code.boot code.items) → AsksTheSame core code
generated {core = core} code procs final initial grows boot start limit answers =
    asks_same core code start limit answers
    (all_enter core code start.role start.code boot (each_more grows initial.each) initial.all (each_more (extends_then initial.grows grows) final.each) final.all
    (each_more (extends_then final.grows (extends_then initial.grows grows)) procs.each) procs.all)
