-- Commands with nothing that may be left out are taken.
use Rattle.std.proofs.Common.{◌≡◌, ◌∙◌, ◌⊎◌, inl, inr, ℕ, Bool, true, false, ◌==◌, List, [], ◌∷◌, Option, Some, None, Ok, Err, codes, bytes_eq, drop, map, refl, subst, sym, ap, ap₂, arith}
use Rattle.std.specs.Option.{option_map_or}
use Rattle.std.specs.Prelude.{IfSome, cond, is_some, option_and_then, option_map}
use Rattle.clap.specs.Words.{Kinds, Row}
use Rattle.clap.specs.Kinds.{or_else}
use Rattle.clap.specs.Lexer.{long_of, long_of_rest, short_of, short_of_rest, strip_byte}
use Rattle.clap.specs.Walk.{Held, Rule, Step, Text, Walk, after_step, finished, settled, trailing, value as value_step, word_met, idle, long_or_other, nothing_held, short_or_plain, subcommand_met, walk_from, walked}
use Rattle.clap.specs.Simple.{Shape, built, built_leaf, entered}
use Rattle.clap.specs.Faults.{bundle_fault, check_fault, defaults_fault, entered_fault, flag_word_fault, level_fault, settle_fault, step_fault, walk_fault, word_fault}
use Rattle.clap.proofs.OnLiterals.{clap_on_literals}
use Rattle.gptp_network.specs.Values.{clock_of_text}
use Rattle.gptp_network.specs.declared.fault.DocumentFault.{DocumentFault}
use Rattle.gptp_network.specs.declared.fault.DocumentFault.TheVariants.{OutOfRange}
use Rattle.gptp_commands.specs.Command.{IsClock, IsNoOption, IsPlain, IsRightOrder, IsRead, LacksClock, LacksKind, LacksPart, part_of, parts_of}
use Rattle.gptp_commands.specs.Options.{place_value, word_of}
use Rattle.gptp_commands.specs.Table.{app_of_row, gptp_sim, the}
use Rattle.gptp_commands.specs.declared.table.rows.TheConstants.{CLOCK, FILE, MOMENT, ONLY, WHERE}
use Rattle.gptp_commands.proofs.NameLemmas.{fault, names, stop, stops}

-- ---- a command whose one value is a word: `check` with a file, `explain` with a clock

no_mark : (word : Text) → IsNoOption word → bytes_eq word (codes "--") ≡ false
no_mark [] no_option = refl
no_mark (x ∷ xs) no_option = no_hyphen (x == 45) refl
  where
    no_hyphen : (is_hyphen : Bool) → (x == 45) ≡ is_hyphen → bytes_eq (x ∷ xs) (codes "--") ≡ false
    no_hyphen true is = let none : Some xs ≡ None = rw is at no_option in absurd cc
    no_hyphen false is = rw is refl

no_long : (word : Text) → IsNoOption word → long_of word ≡ None
no_long word no_option = ap (λ rest. option_and_then long_of_rest (option_and_then (strip_byte 45) rest)) no_option

no_short : (word : Text) → IsNoOption word → short_of word ≡ None
no_short word no_option = ap (option_and_then short_of_rest) no_option

-- it is a value, and nothing is wrong with it as a flag
value_met : (rules : List Rule) (word : Text) → IsNoOption word
    → word_met rules [] false idle 1 word nothing_held ≡ (nothing_held, value_step)
value_met rules word no_option =
    ap (λ is_mark. cond is_mark (nothing_held, trailing 1) (long_or_other rules idle word (long_of word) nothing_held))
    (no_mark word no_option)
    ∙ ap (λ long. long_or_other rules idle word long nothing_held) (no_long word no_option)
    ∙ ap (λ short. short_or_plain rules idle word short nothing_held) (no_short word no_option)

value_passes : (s : Shape) (word : Text) → IsNoOption word → word_fault s [] false idle word nothing_held ≡ []
value_passes s word no_option =
    ap (λ is_mark. cond is_mark [] (flag_word_fault s.rules s.args_override_self (long_of word) word nothing_held))
    (no_mark word no_option)
    ∙ ap (λ long. flag_word_fault s.rules s.args_override_self long word nothing_held) (no_long word no_option)
    ∙ ap (λ short. option_map_or (λ flags. bundle_fault s.rules s.args_override_self flags nothing_held) short [])
    (no_short word no_option)

-- the walk over it
value_walked : (s : Shape) (word : Text) → IsNoOption word
    → walked s.rules [] (walk_from nothing_held) word
    ≡ after_step s.rules word (walk_from nothing_held) nothing_held value_step
unfolding walked
value_walked s word no_option =
    ap (λ (met : Held × Step). after_step s.rules word (walk_from nothing_held) met.0 met.1)
    (value_met s.rules word no_option)

-- nothing is wrong with it where the command takes a value
value_taken : (s : Shape) (word : Text) → IsNoOption word → step_fault s 1 nothing_held value_step ≡ []
    → walk_fault s [] (walk_from nothing_held) (word ∷ []) ≡ []
unfolding walk_fault
value_taken s word no_option takes =
    ap₂ (λ (as_flag : Kinds) (met : Held × Step). or_else (or_else as_flag (step_fault s 1 met.0 met.1)) [])
    (value_passes s word no_option) (value_met s.rules word no_option)
    ∙ ap (λ stray. or_else stray []) takes

-- where the walk comes after it
abbrev behind : Shape → Text → Walk
behind s word = after_step s.rules word (walk_from nothing_held) nothing_held value_step

-- what is wrong after the command, by what is wrong in the walk and by its end
abbrev wrong_behind : Shape → Kinds → Walk → Kinds
wrong_behind s in_walk end =
    or_else in_walk (or_else [] (or_else (settle_fault s.rules s.args_override_self end.held)
    (or_else (defaults_fault (settled s.rules end.held).rows s.rules)
    (check_fault s (finished s.rules end.held) false))))

value_behind : (s : Shape) (word : Text) → IsNoOption word → step_fault s 1 nothing_held value_step ≡ []
    → wrong_behind s [] (behind s word) ≡ [] → level_fault s [] nothing_held (word ∷ []) false [] ≡ []
value_behind s word no_option takes none =
    ap₂ (wrong_behind s) (value_taken s word no_option takes) (value_walked s word no_option) ∙ none

-- the command with its name, by what is wrong after that and above it
plain_value : (name word : Text) → subcommand_met names idle name ≡ Some name
    → entered_fault (built gptp_sim) (Some (name, word ∷ [])) ≡ []
    → is_some (entered (built gptp_sim) (Some (name, word ∷ []))) ≡ true
    → level_fault (built gptp_sim).top names nothing_held (name ∷ word ∷ []) true [] ≡ []
    → fault (name ∷ word ∷ []) ≡ []
plain_value name word met right has above =
    let there = stops name (word ∷ []) name met in
    ap₂ (level_fault (built gptp_sim).top names nothing_held (name ∷ word ∷ []))
    (ap (λ stopped. is_some (entered (built gptp_sim) stopped)) there ∙ has)
    (ap (entered_fault (built gptp_sim)) there ∙ right)
    ∙ above

abbrev checking : Shape
checking = built_leaf (app_of_row (codes "check", map the (FILE ∷ MOMENT ∷ WHERE ∷ []))).top

file_right : (file : Text) → wrong_behind checking [] (behind checking file) ≡ []
unfolding clap_on_literals
file_right file = refl

above_check : (file : Text) → level_fault (built gptp_sim).top names nothing_held (codes "check" ∷ file ∷ []) true []
    ≡ []
unfolding clap_on_literals
above_check file = refl

plain_file : (file : Text) → IsNoOption file → fault (codes "check" ∷ file ∷ []) ≡ []
plain_file file no_option =
    plain_value (codes "check") file refl
    (value_behind checking file no_option refl (file_right file)) refl (above_check file)

abbrev explaining : Shape
explaining = built_leaf (app_of_row (codes "explain", map the (CLOCK ∷ MOMENT ∷ []))).top

clock_right : (clock : Text) → wrong_behind explaining [] (behind explaining clock) ≡ []
unfolding clap_on_literals
clock_right clock = refl

above_explain : (clock : Text)
    → level_fault (built gptp_sim).top names nothing_held (codes "explain" ∷ clock ∷ []) true [] ≡ []
unfolding clap_on_literals
above_explain clock = refl

plain_clock : (clock : Text) → IsNoOption clock → fault (codes "explain" ∷ clock ∷ []) ≡ []
plain_clock clock no_option =
    plain_value (codes "explain") clock refl
    (value_behind explaining clock no_option refl (clock_right clock)) refl (above_explain clock)

-- ---- the clock after `explain`

-- what is found for the arguments of the command that is entered
abbrev found_in : Option (Text × List Row) → List Row
found_in entered = option_map_or (λ p. p.1) entered []

abbrev explained : Text → List Row
explained clock = found_in (entered (built gptp_sim) (Some (codes "explain", clock ∷ [])))

clock_walked : (clock : Text) → place_value (the CLOCK)
    (finished explaining.rules (behind explaining clock).held) ≡ clock
unfolding clap_on_literals
clock_walked clock = refl

-- it is the word after `explain`, where nothing else is
clock_found : (clock : Text) → IsNoOption clock → place_value (the CLOCK) (explained clock) ≡ clock
clock_found clock no_option =
    ap (λ (end : Walk). place_value (the CLOCK) (finished explaining.rules end.held))
    (value_walked explaining clock no_option) ∙ clock_walked clock

-- a text can't be both
clock_or_not : (text : Text) (clock : ℕ) (fault : DocumentFault) → clock_of_text text ≡ Ok clock
    → clock_of_text text ≡ Err fault → ⊥
clock_or_not text clock fault is isn't = absurd cc

has_clock : (clock : Text) → IsNoOption clock → IsClock clock → LacksClock (explained clock) → ⊥
has_clock clock no_option is lacks =
    clock_or_not clock is.0 OutOfRange is.1
    (subst (λ text. clock_of_text text ≡ Err OutOfRange) (clock_found clock no_option) lacks)

-- ---- the kind and the part of `faults`

-- no kind is given, and one part of one
lacks_none : (rows : List Row) → word_of (the ONLY) rows ≡ None → part_of rows ≡ 1 → parts_of rows ≡ 1
    → LacksKind rows ⊎ LacksPart rows → ⊥
lacks_none rows none one all (inl lacks) =
    let count : ◌≡◌ {A = ℕ} 0 1 = ap (λ is. cond is 1 0) (sym (ap is_some none) ∙ lacks.0) in
    absurd (omega arith)
lacks_none rows none one all (inr beyond) = absurd (omega (arith, all, one, beyond))

-- there are cases where these words are found for the command that is entered
has_cases : (at : Option (Text × List Row)) → option_map (λ p. p.0) at ≡ Some (codes "faults")
    → word_of (the ONLY) (found_in at) ≡ None → part_of (found_in at) ≡ 1 → parts_of (found_in at) ≡ 1
    → IfSome at IsRightOrder
has_cases None named none one all = tt
has_cases (Some (name, rows)) named none one all =
    let is : codes "faults" ≡ name = ap (λ o. option_map_or (λ x. x) o []) (sym named) in
    subst (λ n. IsRightOrder (n, rows)) is (lacks_none rows none one all)

-- by its name alone
abbrev failing : Option (Text × List Row)
failing = entered (built gptp_sim) (Some (codes "faults", []))

no_kind_given : word_of (the ONLY) (found_in failing) ≡ None
unfolding clap_on_literals
no_kind_given = refl

one_part_given : part_of (found_in failing) ≡ 1
unfolding clap_on_literals
one_part_given = refl

one_in_all : parts_of (found_in failing) ≡ 1
unfolding clap_on_literals
one_in_all = refl

-- ---- the words that name a command and nothing that may be left out are taken

-- by the words after the program's name
taken_by : (words behind : List Text) → drop 1 words ≡ behind → fault behind ≡ []
    → IfSome (entered (built gptp_sim) (stop behind)) IsRightOrder → IsRead words
taken_by words behind is none right = record {
  parsed = subst (λ ws. fault ws ≡ []) (sym is) none;
  right = subst (λ ws. IfSome (entered (built gptp_sim) (stop ws)) IsRightOrder) (sym is) right;
}

-- what is entered is right, by the name and the words after it
right_by : (name : Text) (words : List Text) → subcommand_met names idle name ≡ Some name
    → IfSome (entered (built gptp_sim) (Some (name, words))) IsRightOrder
    → IfSome (entered (built gptp_sim) (stop (name ∷ words))) IsRightOrder
right_by name words met = subst (λ at. IfSome (entered (built gptp_sim) at) IsRightOrder)
    (sym (stops name words name met))

faults_right : IfSome (entered (built gptp_sim) (stop (codes "faults" ∷ []))) IsRightOrder
faults_right =
    right_by (codes "faults") [] refl (has_cases failing refl no_kind_given one_part_given one_in_all)

pub plain_taken : (words : List Text) → IsPlain words → IsRead words
unfolding clap_on_literals
plain_taken words (inl (inl compare)) = taken_by words _ compare refl tt
plain_taken words (inl (inr compare)) = taken_by words _ compare refl tt
plain_taken words (inr (inl (file, check))) =
    taken_by words _ check.0 (plain_file file check.1) (right_by (codes "check") (file ∷ []) refl tt)
plain_taken words (inr (inr (inl (clock, explain)))) =
    taken_by words _ explain.0 (plain_clock clock explain.1)
    (right_by (codes "explain") (clock ∷ []) refl (has_clock clock explain.1 explain.2))
plain_taken words (inr (inr (inr (inl run)))) = taken_by words _ run refl tt
plain_taken words (inr (inr (inr (inr (inl choice))))) = taken_by words _ choice refl tt
plain_taken words (inr (inr (inr (inr (inr (inl accuracy)))))) = taken_by words _ accuracy refl tt
plain_taken words (inr (inr (inr (inr (inr (inr (inl lint))))))) = taken_by words _ lint refl tt
plain_taken words (inr (inr (inr (inr (inr (inr (inr (inl timeline)))))))) = taken_by words _ timeline refl tt
plain_taken words (inr (inr (inr (inr (inr (inr (inr (inr faults)))))))) = taken_by words _ faults refl faults_right
