-- The names of the options, and their values among what the words say.
use Rattle.std.proofs.Common.{◌≡◌, ◌⊎◌, Bool, true, false, inl, inr, List, ℕ, refl, codes, Some}
use Rattle.std.specs.Str.{bytes_eq}
use Rattle.sr_words.specs.Commands.{Taken, flag_in, value_in, with_flag, with_value}
use Rattle.sr_words.specs.Options.{flag_name, setting_name}
use Rattle.sr_words.specs.declared.options.Flag.{Flag}
use Rattle.sr_words.specs.declared.options.Flag.TheVariants.{Journal, Where, Picture}
use Rattle.sr_words.specs.declared.options.Setting.{Setting}
use Rattle.sr_words.specs.declared.options.Setting.TheVariants.{Workers, Steps, Ticks, Upto}

pub record IsOwnName (name : List ℕ) : Type 0 where
  pub same : bytes_eq name name ≡ true
  pub no_flag : (flag : Flag) → bytes_eq name (flag_name flag) ≡ false
  pub no_word : bytes_eq name (codes "word") ≡ false
  pub not_of_flag : (flag : Flag) → bytes_eq (flag_name flag) name ≡ false
  pub not_of_word : bytes_eq (codes "word") name ≡ false

no_flag_of : (s : Setting) (flag : Flag) → bytes_eq (setting_name s) (flag_name flag) ≡ false
no_flag_of Workers Journal = refl
no_flag_of Workers Where = refl
no_flag_of Workers Picture = refl
no_flag_of Steps Journal = refl
no_flag_of Steps Where = refl
no_flag_of Steps Picture = refl
no_flag_of Ticks Journal = refl
no_flag_of Ticks Where = refl
no_flag_of Ticks Picture = refl
no_flag_of Upto Journal = refl
no_flag_of Upto Where = refl
no_flag_of Upto Picture = refl

not_of_flag_of : (s : Setting) (flag : Flag) → bytes_eq (flag_name flag) (setting_name s) ≡ false
not_of_flag_of Workers Journal = refl
not_of_flag_of Workers Where = refl
not_of_flag_of Workers Picture = refl
not_of_flag_of Steps Journal = refl
not_of_flag_of Steps Where = refl
not_of_flag_of Steps Picture = refl
not_of_flag_of Ticks Journal = refl
not_of_flag_of Ticks Where = refl
not_of_flag_of Ticks Picture = refl
not_of_flag_of Upto Journal = refl
not_of_flag_of Upto Where = refl
not_of_flag_of Upto Picture = refl

pub own_name : (s : Setting) → IsOwnName (setting_name s)
own_name Workers = record { same = refl; no_flag = no_flag_of Workers; no_word = refl; not_of_flag = not_of_flag_of Workers; not_of_word = refl }
own_name Steps = record { same = refl; no_flag = no_flag_of Steps; no_word = refl; not_of_flag = not_of_flag_of Steps; not_of_word = refl }
own_name Ticks = record { same = refl; no_flag = no_flag_of Ticks; no_word = refl; not_of_flag = not_of_flag_of Ticks; not_of_word = refl }
own_name Upto = record { same = refl; no_flag = no_flag_of Upto; no_word = refl; not_of_flag = not_of_flag_of Upto; not_of_word = refl }

-- an option without a value: its name, and whether it is given
pub record IsOwnFlag (name : List ℕ) : Type 0 where
  pub same : bytes_eq name name ≡ true
  pub no_word : bytes_eq name (codes "word") ≡ false
  pub not_of_word : bytes_eq (codes "word") name ≡ false

pub own_flag : (flag : Flag) → IsOwnFlag (flag_name flag)
own_flag Journal = record { same = refl; no_word = refl; not_of_word = refl }
own_flag Where = record { same = refl; no_word = refl; not_of_word = refl }
own_flag Picture = record { same = refl; no_word = refl; not_of_word = refl }

abbrev pub AreOther : Flag → Flag → Type 0
AreOther f g = (bytes_eq (flag_name f) (flag_name g) ≡ false) × ((t : Taken) → flag_in g (with_flag f t) ≡ flag_in g t)

pub same_or_other : (f g : Flag) → (f ≡ g) ⊎ AreOther f g
same_or_other Journal Journal = inl refl
same_or_other Journal Where = inr (refl, λ t. refl)
same_or_other Journal Picture = inr (refl, λ t. refl)
same_or_other Where Journal = inr (refl, λ t. refl)
same_or_other Where Where = inl refl
same_or_other Where Picture = inr (refl, λ t. refl)
same_or_other Picture Journal = inr (refl, λ t. refl)
same_or_other Picture Where = inr (refl, λ t. refl)
same_or_other Picture Picture = inl refl

-- the name of the one isn't that of the other, and its value leaves that of the other alone
abbrev pub AreApart : Setting → Setting → Type 0
AreApart s u = (bytes_eq (setting_name s) (setting_name u) ≡ false) × ((value : List ℕ) (t : Taken) → value_in u (with_value s value t) ≡ value_in u t)

pub same_or_apart : (s u : Setting) → (s ≡ u) ⊎ AreApart s u
same_or_apart Workers Workers = inl refl
same_or_apart Workers Steps = inr (refl, λ value t. refl)
same_or_apart Workers Ticks = inr (refl, λ value t. refl)
same_or_apart Workers Upto = inr (refl, λ value t. refl)
same_or_apart Steps Workers = inr (refl, λ value t. refl)
same_or_apart Steps Steps = inl refl
same_or_apart Steps Ticks = inr (refl, λ value t. refl)
same_or_apart Steps Upto = inr (refl, λ value t. refl)
same_or_apart Ticks Workers = inr (refl, λ value t. refl)
same_or_apart Ticks Steps = inr (refl, λ value t. refl)
same_or_apart Ticks Ticks = inl refl
same_or_apart Ticks Upto = inr (refl, λ value t. refl)
same_or_apart Upto Workers = inr (refl, λ value t. refl)
same_or_apart Upto Steps = inr (refl, λ value t. refl)
same_or_apart Upto Ticks = inr (refl, λ value t. refl)
same_or_apart Upto Upto = inl refl

pub own_value : (s : Setting) (value : List ℕ) (t : Taken) → value_in s (with_value s value t) ≡ Some value
own_value Workers value t = refl
own_value Steps value t = refl
own_value Ticks value t = refl
own_value Upto value t = refl

same_flags : (s : Setting) (value : List ℕ) (t : Taken) (flag : Flag) → flag_in flag (with_value s value t) ≡ flag_in flag t
same_flags Workers value t Journal = refl
same_flags Workers value t Where = refl
same_flags Workers value t Picture = refl
same_flags Steps value t Journal = refl
same_flags Steps value t Where = refl
same_flags Steps value t Picture = refl
same_flags Ticks value t Journal = refl
same_flags Ticks value t Where = refl
same_flags Ticks value t Picture = refl
same_flags Upto value t Journal = refl
same_flags Upto value t Where = refl
same_flags Upto value t Picture = refl

-- what else the words say stays
pub others_kept : (s : Setting) (value : List ℕ) (t : Taken)
    → ((flag : Flag) → flag_in flag (with_value s value t) ≡ flag_in flag t) × ((with_value s value t).words ≡ t.words)
others_kept Workers value t = (same_flags Workers value t, refl)
others_kept Steps value t = (same_flags Steps value t, refl)
others_kept Ticks value t = (same_flags Ticks value t, refl)
others_kept Upto value t = (same_flags Upto value t, refl)

pub value_after_word : (s : Setting) (t : Taken) (words : List (List ℕ)) → value_in s (record t { words = words }) ≡ value_in s t
value_after_word Workers t words = refl
value_after_word Steps t words = refl
value_after_word Ticks t words = refl
value_after_word Upto t words = refl

pub flag_after_word : (flag : Flag) (t : Taken) (words : List (List ℕ)) → flag_in flag (record t { words = words }) ≡ flag_in flag t
flag_after_word Journal t words = refl
flag_after_word Where t words = refl
flag_after_word Picture t words = refl

pub value_after_flag : (s : Setting) (flag : Flag) (t : Taken) → value_in s (with_flag flag t) ≡ value_in s t
value_after_flag Workers Journal t = refl
value_after_flag Workers Where t = refl
value_after_flag Workers Picture t = refl
value_after_flag Steps Journal t = refl
value_after_flag Steps Where t = refl
value_after_flag Steps Picture t = refl
value_after_flag Ticks Journal t = refl
value_after_flag Ticks Where t = refl
value_after_flag Ticks Picture t = refl
value_after_flag Upto Journal t = refl
value_after_flag Upto Where t = refl
value_after_flag Upto Picture t = refl

pub own_flag_given : (flag : Flag) (t : Taken) → flag_in flag (with_flag flag t) ≡ true
own_flag_given Journal t = refl
own_flag_given Where t = refl
own_flag_given Picture t = refl

pub words_after_flag : (flag : Flag) (t : Taken) → (with_flag flag t).words ≡ t.words
words_after_flag Journal t = refl
words_after_flag Where t = refl
words_after_flag Picture t = refl
