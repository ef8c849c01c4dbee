-- The words that a program takes begin with the name of one of its commands.
use Rattle.std.proofs.Common.{◌≡◌, ◌∙◌, ℕ, suc, Bool, true, false, ◌==◌, List, [], ◌∷◌, Option, Some, None, length, codes, bytes_eq, inl, inr, map, ◌++◌, ◌≢◌, ◌⊎◌, refl, subst, sym, ap, arith, chars, slice_get}
use Rattle.std.proofs.lemmas.Slice.Eq.{bytes_eq-Decides}
use Rattle.std.specs.List.{AllByRecursion, find, fold, list_all, list_any}
use Rattle.std.specs.Option.{option_map, option_map_or}
use Rattle.std.specs.Prelude.{drop}
use Rattle.clap.specs.Words.{Kinds, Row, subcommand_of}
use Rattle.clap.specs.declared.error.kind.ErrorKind.{ErrorKind}
use Rattle.clap.specs.Kinds.{or_else}
use Rattle.clap.specs.Lexer.{long_of}
use Rattle.clap.specs.Walk.{Held, Names, Rule, Step, Text, Walk, after_step, arg_by_long, arg_by_short, bundle_met, after_flag, answers_to, bundle_step, idle, is_empty, long_or_other, nothing_held, plain, short_or_plain, subcommand_met, subcommand_or_other, walk, walk_from, walked}
use Rattle.clap.specs.Simple.{Shape, built, built_leaf, entered, filled_from, help_rule, label_of, names_of, new_shape, rows_at}
use Rattle.clap.specs.Faults.{bundle_fault, bundle_step_fault, built_fault, entered_fault, fault_of, flag_word_fault, flags_fault, long_fault, short_fault, step_fault, stray_fault, turn_fault, walk_fault}
use Rattle.clap.proofs.WalkLemmas.{both, walk_stopped}
use Rattle.std.proofs.lemmas.Bool.{eqb-true}
use Rattle.clap.proofs.OnLiterals.{clap_on_literals}
use Rattle.gptp_commands.specs.Command.{BeginsWith, IsCompare, IsNoOther}
use Rattle.gptp_commands.specs.Table.{CommandEntry, commands, gptp_sim}

-- ---- faults, of which the first that there is counts

some_fault : (kind : ErrorKind) (others : Kinds) → kind ∷ others ≡ [] → ⊥
some_fault kind others none = absurd cc

first_none : (first second : Kinds) → or_else first second ≡ [] → first ≡ []
first_none [] second none = refl
first_none (kind ∷ others) second none = none

second_none : (first second : Kinds) → or_else first second ≡ [] → second ≡ []
second_none [] second none = none
second_none (kind ∷ others) second none = absurd (some_fault kind others none)

-- ---- a level whose rules are those that building adds: `-h` and `--help`

abbrev help_rules : List Rule
help_rules = filled_from 1 (help_rule ∷ [])

abbrev with_help : Shape → Shape
with_help level = record level { rules = help_rules; args_override_self = false }

-- a value is no argument of it
stray_by : (leaf : Bool) (s : Shape) → s.is_leaf ≡ leaf → stray_fault s ≡ [] → ⊥
stray_by true s is none = some_fault _ _ (rw is at none)
stray_by false s is none = some_fault _ _ (rw is at none)

stray : (s : Shape) → stray_fault s ≡ [] → ⊥
stray s = stray_by s.is_leaf s refl

-- a short flag calls for help or isn't known
short_wrong : (is_help : Bool) (flag : ℕ) (rest : Text) (next : Held → Kinds) → (104 == flag) ≡ is_help
    → short_fault help_rules false (arg_by_short help_rules flag) rest nothing_held next ≡ [] → ⊥
short_wrong true flag rest next is none = some_fault _ _ (rw is at none)
short_wrong false flag rest next is none = some_fault _ _ (rw is at none)

-- so does a long one
long_wrong : (is_help : Bool) (name : Text) (value : Option Text) → bytes_eq (codes "help") name ≡ is_help
    → long_fault help_rules false (arg_by_long help_rules name) value nothing_held ≡ [] → ⊥
long_wrong true name None is none = some_fault _ _ (rw is at none)
long_wrong true name (Some text) is none = some_fault _ _ (rw is at none)
long_wrong false name value is none = some_fault _ _ (rw is at none)

-- ---- a word that names no command and isn't `--`: as a flag it is wrong, and so it is as a value

abbrev wrong : Shape → Kinds → Held × Step → Kinds
wrong s as_flag step = or_else as_flag (step_fault (with_help s) 1 step.0 step.1)

wrong_character : (s : Shape) (word flags : Text) (others : ℕ) (flag : Option ℕ)
    → wrong s (bundle_step_fault help_rules false flag flags 0 nothing_held (flags_fault help_rules false others))
    (after_flag help_rules idle word
    (bundle_step help_rules flag flags 0 plain nothing_held (bundle_met help_rules others)).0
    (bundle_step help_rules flag flags 0 plain nothing_held (bundle_met help_rules others)).1) ≡ [] → ⊥
wrong_character s word flags others None none = stray (with_help s) none
wrong_character s word flags others (Some flag) none = short_wrong (104 == flag) flag _ _ refl (first_none _ _ none)

wrong_bundle : (s : Shape) (word flags : Text)
    → wrong s (bundle_fault help_rules false flags nothing_held)
    (short_or_plain help_rules idle word (Some flags) nothing_held) ≡ [] → ⊥
unfolding flags_fault bundle_met
wrong_bundle s word [] none = stray (with_help s) none
wrong_bundle s word (x ∷ xs) none = wrong_character s word (x ∷ xs) (length xs) (slice_get (chars (x ∷ xs)) 0) none

wrong_short : (s : Shape) (word : Text) (short : Option Text)
    → wrong s (option_map_or (λ flags. bundle_fault help_rules false flags nothing_held) short [])
    (short_or_plain help_rules idle word short nothing_held) ≡ [] → ⊥
wrong_short s word None none = stray (with_help s) none
wrong_short s word (Some flags) none = wrong_bundle s word flags none

wrong_word : (s : Shape) (word : Text) (long : Option (Text × Option Text))
    → wrong s (flag_word_fault help_rules false long word nothing_held)
    (long_or_other help_rules idle word long nothing_held) ≡ [] → ⊥
wrong_word s word None none = wrong_short s word _ none
wrong_word s word (Some parts) none =
    long_wrong (bytes_eq (codes "help") parts.0) parts.0 parts.1 refl (first_none _ _ none)

-- where a level begins
strange : (s : Shape) (names : Names) (word : Text) → subcommand_met names idle word ≡ None
    → bytes_eq word (codes "--") ≡ false
    → turn_fault (with_help s) names (walk_from nothing_held) word ≡ [] → ⊥
strange s names word no-name no-mark none = wrong_word s word (long_of word) (rw (no-name, no-mark) at none)

-- nothing may follow the mark `--`
trailing_words : (s : Shape) (names : Names) (words : List Text)
    → walk_fault (with_help s) names (record (walk_from nothing_held) { is_trailing = true }) words ≡ [] → words ≡ []
unfolding walk_fault
trailing_words s names [] none = refl
trailing_words s names (word ∷ words) none = absurd (stray (with_help s) (first_none _ _ none))

-- ---- the words after `compare`

abbrev below : Shape
below = with_help (built_leaf (new_shape (codes "compare")))

word_below : (is_mark : Bool) (word : Text) (words : List Text) → bytes_eq word (codes "--") ≡ is_mark
    → walk_fault below [] (walk_from nothing_held) (word ∷ words) ≡ [] → word ∷ words ≡ codes "--" ∷ []
unfolding walk_fault walked
word_below true word words mark none =
    let word_is : word ≡ codes "--" = (bytes_eq-Decides word (codes "--")).0 mark in
    let rest : words ≡ [] = trailing_words below [] words (rw word_is at none) in
    rw (word_is, rest) refl
word_below false word words mark none = absurd (strange below [] word refl mark (first_none _ _ none))

words_below : (words : List Text) → walk_fault below [] (walk_from nothing_held) words ≡ []
    → (words ≡ []) ⊎ (words ≡ codes "--" ∷ [])
words_below [] none = inl refl
words_below (word ∷ words) none = inr (word_below (bytes_eq word (codes "--")) word words refl none)

-- ---- the command that a word enters

abbrev have_no_aliases : List Shape → Bool
have_no_aliases subs = list_all (λ (s : Shape). is_empty s.aliases) subs

no_alias : (word : Text) (aliases : List Text) → is_empty aliases ≡ true
    → list_any (λ alias. bytes_eq alias word) aliases ≡ false
no_alias word [] none = refl
no_alias word (x ∷ xs) none =
    let count = eqb-true (suc (length xs)) 0 none in
    absurd (omega (arith, count))

abbrev IsIn : Text → List Text → Type 0
IsIn name [] = ⊥
IsIn name (first ∷ names) = (first ≡ name) ⊎ IsIn name names

-- what is entered by a word with words after it
abbrev entered_in : List Shape → Text → List Text → Option (Text × List Row)
entered_in subs word words = option_map (λ s. rows_at s words) (find (λ s. answers_to word (label_of s)) subs)

abbrev IsEntered : List Shape → Text → List Text → Text → Type 0
IsEntered subs word words name =
    (rows : List Row) × (name ≡ word) × (entered_in subs word words ≡ Some (word, rows))
    × IsIn word (map (λ (s : Shape). s.name) subs)

-- the command that a word names has that word for its name, and is entered by it
is_entered : (subs : List Shape) (word : Text) (words : List Text) (name : Text) → have_no_aliases subs ≡ true
    → subcommand_met (map label_of subs) idle word ≡ Some name → IsEntered subs word words name
is_entered [] word words name alone met =
    let count : ◌≡◌ {A = ℕ} 0 1 = ap (λ o. option_map_or (λ x. 1) o 0) met in
    absurd (omega arith)
is_entered (s ∷ subs) word words name alone met =
    by (bytes_eq s.name word) refl (is_entered subs word words name (both _ _ alone).1)
  where
    by : (is : Bool) → bytes_eq s.name word ≡ is
        → (subcommand_met (map label_of subs) idle word ≡ Some name → IsEntered subs word words name)
        → IsEntered (s ∷ subs) word words name
    by true is others =
        let same : s.name ≡ word = (bytes_eq-Decides s.name word).0 is in
        let here : answers_to word (label_of s) ≡ true = rw is refl in
        let first : Some s.name ≡ Some name = rw here at met in
        let rows = (rows_at s words).1 in
        (rows, cc, rw here (ap (λ (n : Text). Some (n, rows)) same), inl same)
    by false is others =
        let none = no_alias word s.aliases (both _ _ alone).0 in
        let not_here : answers_to word (label_of s) ≡ false = rw (is, none) refl in
        let (rows, same, enters, among) = others (rw not_here at met) in
        (rows, same, rw not_here enters, inr among)

-- ---- the words after the program's name

abbrev top : Shape
top = with_help (built gptp_sim).top

abbrev pub names : Names
names = names_of (built gptp_sim)

abbrev pub fault : List Text → Kinds
fault = built_fault (built gptp_sim) nothing_held

walk_finds_none : (words : List Text) → fault words ≡ [] → walk_fault top names (walk_from nothing_held) words ≡ []
walk_finds_none words none = first_none (walk_fault top names (walk_from nothing_held) words) _ none

abbrev pub stop : List Text → Option (Text × List Text)
stop words = (walk help_rules names nothing_held words).stopped

-- the walk stops at the command that its first word names
pub stops : (word : Text) (words : List Text) (name : Text) → subcommand_met names idle word ≡ Some name
    → stop (word ∷ words) ≡ Some (name, words)
unfolding walked
stops word words name met =
    ap (λ (m : Option Text). (fold (walked help_rules names) (after_step help_rules word (walk_from nothing_held)
    (subcommand_or_other help_rules m idle 1 word nothing_held).0
    (subcommand_or_other help_rules m idle 1 word nothing_held).1) words).stopped) met
    ∙ ap (λ (w : Walk). w.stopped) (sym (walk_stopped help_rules names (walk_from nothing_held) name [] words))

-- the mark `--` in place of a command
mark_alone : (words : List Text) → fault (codes "--" ∷ words) ≡ [] → ⊥
unfolding clap_on_literals
mark_alone [] none = some_fault _ _ none
mark_alone (word ∷ words) none =
    let nothing = trailing_words top names (word ∷ words) (walk_finds_none (codes "--" ∷ word ∷ words) none) in
    absurd cc

-- no word at all
nothing_named : fault [] ≡ [] → ⊥
unfolding clap_on_literals
nothing_named none = some_fault _ _ none

-- the first of the words that it takes names a command of the table or `help`, and that is entered
abbrev IsFirst : List Text → Type 0
IsFirst words =
    (name : Text) × (others : List Text) × (rows : List Row) × (words ≡ name ∷ others)
    × (entered (built gptp_sim) (stop words) ≡ Some (name, rows))
    × IsIn name (map (λ (s : Shape). s.name) (built gptp_sim).subs)

first_word : (words : List Text) → fault words ≡ [] → IsFirst words
unfolding walk_fault
first_word [] none = absurd (nothing_named none)
first_word (word ∷ words) none = by (subcommand_met names idle word) refl
  where
    marked : (is : Bool) → bytes_eq word (codes "--") ≡ is → subcommand_met names idle word ≡ None → ⊥
    marked true is unnamed =
        let same : word ≡ codes "--" = (bytes_eq-Decides word (codes "--")).0 is in
        mark_alone words (rw same at none)
    marked false is unnamed =
        strange top names word unnamed is (first_none _ _ (walk_finds_none (word ∷ words) none))

    by : (met : Option Text) → subcommand_met names idle word ≡ met → IsFirst (word ∷ words)
    by None unnamed = absurd (marked (bytes_eq word (codes "--")) refl unnamed)
    by (Some name) met =
        let (rows, same, enters, among) = is_entered (built gptp_sim).subs word words name refl met in
        let there = ap (entered (built gptp_sim)) (stops word words name met)
        ∙ ap (λ n. entered_in (built gptp_sim).subs n words) same ∙ enters in
        (word, words, rows, refl, there, among)

-- they begin with the name of the command that they enter
pub begins : (words : List Text) (name : Text) (rows : List Row) → fault_of gptp_sim words ≡ []
    → subcommand_of gptp_sim words ≡ Some (name, rows) → BeginsWith name (drop 1 words)
begins words name rows follows enters =
    let (own, others, found, is, entered_is, among) = first_word (drop 1 words) follows in
    let same : own ≡ name = ap (λ o. option_map_or (λ p. p.0) o []) (sym entered_is ∙ enters) in
    (others, is ∙ ap (λ word. word ∷ others) same)

-- ---- `compare`

-- it is `help` where it has the name of none of these commands
none_but_help : (name : Text) (entries : List CommandEntry) (entered : Option Text) → entered ≡ Some name
    → AllByRecursion (λ (e : CommandEntry). entered ≢ Some e.0) entries
    → IsIn name (map (λ (e : CommandEntry). e.0) entries ++ codes "help" ∷ []) → name ≡ codes "help"
none_but_help name [] met is none (inl same) = sym same
none_but_help name [] met is none (inr nothing) = absurd nothing
none_but_help name (e ∷ entries) met is none (inl same) = absurd (none.0 (is ∙ ap Some (sym same)))
none_but_help name (e ∷ entries) met is none (inr more) = none_but_help name entries met is none.1 more

-- a call for help
help_asked : (words : List Text) → fault (codes "help" ∷ words) ≡ [] → ⊥
unfolding walk_fault
help_asked words none = some_fault _ _ (walk_finds_none (codes "help" ∷ words) none)

-- it is entered where none of the others is
pub compare_entered : (words : List Text) → fault_of gptp_sim words ≡ []
    → IsNoOther (option_map (λ p. p.0) (subcommand_of gptp_sim words))
    → (rows : List Row) × (subcommand_of gptp_sim words ≡ Some (codes "compare", rows))
compare_entered words follows none =
    let (name, others, rows, is, enters, among) = first_word (drop 1 words) follows in
    by name others rows is enters among
  where
    by : (name : Text) (others : List Text) (rows : List Row) → drop 1 words ≡ name ∷ others
        → subcommand_of gptp_sim words ≡ Some (name, rows)
        → (codes "compare" ≡ name) ⊎ IsIn name (map (λ (e : CommandEntry). e.0) (drop 1 commands) ++ codes "help" ∷ [])
        → (rows : List Row) × (subcommand_of gptp_sim words ≡ Some (codes "compare", rows))
    by name others rows is enters (inl same) = (rows, enters ∙ ap (λ (n : Text). Some (n, rows)) (sym same))
    by name others rows is enters (inr among) =
        let help = none_but_help name (drop 1 commands) _ (ap (option_map (λ p. p.0)) enters) none among in
        absurd (help_asked others (subst (λ ws. fault ws ≡ []) (is ∙ ap (λ n. n ∷ others) help) follows))

-- the words after it are left to it
words_behind : (words : List Text) → fault (codes "compare" ∷ words) ≡ [] → (words ≡ []) ⊎ (words ≡ codes "--" ∷ [])
words_behind words none =
    let later = second_none (walk_fault top names (walk_from nothing_held) (codes "compare" ∷ words)) _ none in
    let entered : entered_fault (built gptp_sim) (stop (codes "compare" ∷ words)) ≡ [] = first_none _ _ later in
    words_below words
    (first_none (walk_fault below [] (walk_from nothing_held) words) _
    (rw (stops (codes "compare") words (codes "compare") refl) at entered))

with_name : (words : List Text) → (words ≡ []) ⊎ (words ≡ codes "--" ∷ []) → IsCompare (codes "compare" ∷ words)
with_name words (inl nothing) = inl (rw nothing refl)
with_name words (inr mark) = inr (rw mark refl)

-- the words are `compare` and nothing more, or the mark after it
pub compares : (words : List Text) → fault words ≡ [] → BeginsWith (codes "compare") words → IsCompare words
compares words none (others, is) =
    subst IsCompare (sym is) (with_name others (words_behind others (subst (λ ws. fault ws ≡ []) is none)))
