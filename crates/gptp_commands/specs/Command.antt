-- Command lines that are read: what their words ask for, by what the parser finds for the arguments of a command.
use Rattle.std.specs.Prelude.{◌≡◌, ◌≢◌, ◌⊎◌, ◌<◌, ◌≤◌, ◌^◌, ⊤, IfSome, ℕ, true, List, [], ◌∷◌, Option, Some, None, Ok, Err, drop, codes, string_bytes, bytes_eq, if◌then◌else◌, is_some, option_and_then, unwrap_or}
use Rattle.std.specs.Bool.{MatchBool}
use Rattle.std.specs.List.{AllByRecursion}
use Rattle.clap.specs.Words.{IsAmong, Row, Text, fault_of, kind_of, subcommand_of}
use Rattle.clap.specs.Lexer.{strip_byte}
use Rattle.clap.specs.declared.error.Error.{Error}
use Rattle.gptp_setup.specs.Intervals.{IsMoment}
use Rattle.gptp_setup.specs.declared.limits.TheConstants.{LAST_MOMENT}
use Rattle.gptp_accuracy.specs.declared.options.AccuracyOptions.{AccuracyOptions}
use Rattle.gptp_faults.specs.Times.{AreOptions}
use Rattle.gptp_faults.specs.declared.options.FaultsOptions.{FaultsOptions}
use Rattle.gptp_faults.specs.declared.options.Only.{Only}
use Rattle.gptp_faults.specs.declared.options.Only.TheVariants.{Links, Power, Systems}
use Rattle.gptp_network.specs.Values.{clock_of_text}
use Rattle.gptp_network.specs.declared.fault.DocumentFault.TheVariants.{OutOfRange}
use Rattle.gptp_commands.specs.declared.command.CheckOptions.{CheckOptions}
use Rattle.gptp_commands.specs.declared.command.CommandLineError.{CommandLineError}
use Rattle.gptp_commands.specs.declared.command.CommandLineError.TheVariants.{Memory, NotText, NotRead, NotClock, NotKind, NotPart}
use Rattle.gptp_commands.specs.declared.command.Order.{Order}
use Rattle.gptp_commands.specs.declared.command.Order.TheVariants.{Ask, Check, Compare, Faults, Run, Timeline, Version}
use Rattle.gptp_commands.specs.declared.question.Question.{Question}
use Rattle.gptp_commands.specs.declared.question.Question.TheVariants.{Accuracy, Choice, Explain, Lint}
use Rattle.gptp_commands.specs.declared.run.RunOptions.{RunOptions}
use Rattle.gptp_commands.specs.declared.table.Form.TheVariants.{Number}
use Rattle.gptp_commands.specs.declared.table.rows.TheConstants.{ALWAYS, AT, CERTIFICATE, CLOCK, DETECT, FILE, FRAMES, HOLD, MAX_ERROR, MOMENT, MOMENTS, OFFSETS, ONLY, PART, PARTS, POWER, PROGRESS, READS, RUN_UNTIL, SEED, SEEDS, STRICT, SUMMARY, TIMELINE_UNTIL, TIMES, WHERE}
use Rattle.gptp_commands.specs.declared.timeline.TimelineOrder.{TimelineOrder}
use Rattle.gptp_commands.specs.Options.{flag_of, option_number, place_value, word_of}
use Rattle.gptp_commands.specs.Table.{Argument, CommandEntry, commands, gptp_sim, the}
use Rattle.gptp_commands.specs.Version.{AsksVersion}
use Rattle.gptp_timeline.specs.Limits.{most_of, option_name}
use Rattle.gptp_timeline.specs.declared.limits.Limit.{Limit}
use Rattle.gptp_timeline.specs.declared.limits.Limits.{Limits}

-- ---- what is found for the arguments of a command

-- the options of `run`
pub record ReadsRun (rows : List Row) (options : RunOptions) : Type 0 where
  pub until : options.until ≡ option_number (the RUN_UNTIL) rows
  pub seed : options.seed ≡ unwrap_or (option_number (the SEED) rows) 1
  pub frames : options.frames ≡ flag_of (the FRAMES) rows
  pub certificate : options.certificate ≡ flag_of (the CERTIFICATE) rows

-- the limits of `timeline` or `faults`, each by the name of its option
abbrev pub limit_argument : Limit → Argument
limit_argument limit = (option_name limit, Number 0 LAST_MOMENT, [])

abbrev pub ReadsLimits : List Row → Limits → Type 0
ReadsLimits rows limits = (limit : Limit) → most_of limits limit ≡ option_number (limit_argument limit) rows

-- the options of `timeline`
pub record ReadsTimeline (rows : List Row) (order : TimelineOrder) : Type 0 where
  pub until : order.until ≡ option_number (the TIMELINE_UNTIL) rows
  pub seed : order.seed ≡ unwrap_or (option_number (the SEED) rows) 1
  pub summary : order.options.summary ≡ flag_of (the SUMMARY) rows
  pub offsets : order.options.offsets ≡ flag_of (the OFFSETS) rows
  pub times : order.options.times ≡ flag_of (the TIMES) rows
  pub limits : ReadsLimits rows order.options.limits

-- the kind of cases that a text names
abbrev pub kind_of_text : Text → Option Only
kind_of_text text =
    if bytes_eq text (codes "links") then Some Links
    else if bytes_eq text (codes "systems") then Some Systems
    else if bytes_eq text (codes "power") then Some Power
    else None

-- the kind that is left, if the word for it names one
abbrev pub kind_in : List Row → Option Only
kind_in rows = option_and_then kind_of_text (word_of (the ONLY) rows)

abbrev pub ReadsKind : List Row → Option Only → Type 0
ReadsKind rows only = (only ≡ kind_in rows) × (is_some only ≡ is_some (word_of (the ONLY) rows))

-- the part that is tried, and how many there are
abbrev pub part_of : List Row → ℕ
part_of rows = unwrap_or (option_number (the PART) rows) 1

abbrev pub parts_of : List Row → ℕ
parts_of rows = unwrap_or (option_number (the PARTS) rows) 1

-- the options of `faults`
pub record ReadsFaults (rows : List Row) (options : FaultsOptions) : Type 0 where
  pub seeds : options.seeds ≡ unwrap_or (option_number (the SEEDS) rows) 1
  pub moments : options.moments ≡ unwrap_or (option_number (the MOMENTS) rows) 8
  pub at : options.at ≡ option_number (the AT) rows
  pub hold : options.hold ≡ option_number (the HOLD) rows
  pub only : ReadsKind rows options.only
  pub power : options.power ≡ flag_of (the POWER) rows
  pub detect : options.detect ≡ option_number (the DETECT) rows
  pub parts : options.parts ≡ parts_of rows
  pub part : options.part ≡ part_of rows
  pub there : options.part ≤ options.parts
  pub progress : options.progress ≡ flag_of (the PROGRESS) rows
  pub times : options.times ≡ flag_of (the TIMES) rows
  pub limits : ReadsLimits rows options.limits

-- the file and the options of `check`
pub record ReadsCheck (rows : List Row) (options : CheckOptions) : Type 0 where
  pub file : string_bytes options.file ≡ place_value (the FILE) rows
  pub until : options.until ≡ option_number (the MOMENT) rows
  pub located : options.located ≡ flag_of (the WHERE) rows

-- the clock of `explain`
abbrev pub ReadsClock : List Row → ℕ → Type 0
ReadsClock rows clock = clock_of_text (place_value (the CLOCK) rows) ≡ Ok clock

-- the options of `accuracy`
pub record ReadsAccuracy (rows : List Row) (options : AccuracyOptions) : Type 0 where
  pub reads : options.reads ≡ option_number (the READS) rows
  pub always : options.always ≡ flag_of (the ALWAYS) rows
  pub max_error : options.max_error ≡ option_number (the MAX_ERROR) rows

-- what a question asks
abbrev pub ReadsQuestion : List Row → Question → Type 0
ReadsQuestion rows (Choice until) = until ≡ option_number (the MOMENT) rows
ReadsQuestion rows (Accuracy until options) =
    (until ≡ option_number (the MOMENT) rows) × ReadsAccuracy rows options
ReadsQuestion rows (Explain clock until) = ReadsClock rows clock × (until ≡ option_number (the MOMENT) rows)
ReadsQuestion rows (Lint strict) = strict ≡ flag_of (the STRICT) rows

-- what is asked for
abbrev pub ReadsOrder : List Row → Order → Type 0
ReadsOrder rows Compare = ⊤
ReadsOrder rows (Run options) = ReadsRun rows options
ReadsOrder rows (Timeline order) = ReadsTimeline rows order
ReadsOrder rows (Faults options) = ReadsFaults rows options
ReadsOrder rows (Check options) = ReadsCheck rows options
ReadsOrder rows (Ask question) = ReadsQuestion rows question
ReadsOrder rows Version = ⊥

-- ---- what the parser doesn't see: a clock that is none, and a kind or a part that there isn't

abbrev pub LacksClock : List Row → Type 0
LacksClock rows = clock_of_text (place_value (the CLOCK) rows) ≡ Err OutOfRange

abbrev pub LacksKind : List Row → Type 0
LacksKind rows = (is_some (word_of (the ONLY) rows) ≡ true) × (kind_in rows ≡ None)

abbrev pub LacksPart : List Row → Type 0
LacksPart rows = parts_of rows < part_of rows

-- an error that tells of it
abbrev pub TellsClock : List Row → CommandLineError → Type 0
TellsClock rows (NotClock word) = string_bytes word ≡ place_value (the CLOCK) rows
TellsClock rows _ = ⊥

abbrev pub TellsKind : List Row → CommandLineError → Type 0
TellsKind rows (NotKind word) = Some (string_bytes word) ≡ word_of (the ONLY) rows
TellsKind rows _ = ⊥

abbrev pub TellsPart : List Row → CommandLineError → Type 0
TellsPart rows (NotPart part parts) = (part ≡ part_of rows) × (parts ≡ parts_of rows)
TellsPart rows _ = ⊥

abbrev pub WrongClock : List Row → CommandLineError → Type 0
WrongClock rows e = LacksClock rows × TellsClock rows e

abbrev pub WrongKind : List Row → CommandLineError → Type 0
WrongKind rows e = LacksKind rows × TellsKind rows e

abbrev pub WrongCases : List Row → CommandLineError → Type 0
WrongCases rows e = WrongKind rows e ⊎ (LacksPart rows × TellsPart rows e)

-- ---- the command that is entered, with what is found for its arguments

-- the name of what is asked for
abbrev pub question_name : Question → Text
question_name (Choice until) = codes "choice"
question_name (Accuracy until options) = codes "accuracy"
question_name (Explain clock until) = codes "explain"
question_name (Lint strict) = codes "lint"

abbrev pub name_of : Order → Text
name_of Compare = codes "compare"
name_of (Run options) = codes "run"
name_of (Timeline order) = codes "timeline"
name_of (Faults options) = codes "faults"
name_of (Check options) = codes "check"
name_of (Ask question) = question_name question
name_of Version = codes "--version"

-- it asks for this
abbrev pub Asks : Option (Text × List Row) → Order → Type 0
Asks entered order = (rows : List Row) × (entered ≡ Some (name_of order, rows)) × ReadsOrder rows order

-- the name, if there is one, is that of no command but `compare`, the first; such a command line asks for `compare`
abbrev pub IsNoOther : Option Text → Type 0
IsNoOther name = AllByRecursion (λ (e : CommandEntry). name ≢ Some e.0) (drop 1 commands)

abbrev pub Enters : Option Text → Option (Text × List Row) → Order → Type 0
Enters name entered Compare = IsNoOther name
Enters name entered order = Asks entered order

-- it asks for nothing that there is, and this error tells of it
abbrev pub Wrong : Option (Text × List Row) → CommandLineError → Type 0
Wrong entered e =
    ((rows : List Row) × (entered ≡ Some (codes "explain", rows)) × WrongClock rows e)
    ⊎ ((rows : List Row) × (entered ≡ Some (codes "faults", rows)) × WrongCases rows e)

-- ---- the words of a command line, the program's name first

-- words that name `compare`, and nothing after it but the mark `--`, which ends the options
abbrev pub IsCompare : List Text → Type 0
IsCompare words = (words ≡ codes "compare" ∷ []) ⊎ (words ≡ codes "compare" ∷ codes "--" ∷ [])

-- words that begin with the name of a command, whatever comes after it
abbrev pub BeginsWith : Text → List Text → Type 0
BeginsWith name words = (others : List Text) × (words ≡ name ∷ others)

-- the parser's model finds no fault in the words, and the command that they enter asks for this
abbrev pub WordsMean : List Text → Order → Type 0
WordsMean words order = (fault_of gptp_sim words ≡ []) × Asks (subcommand_of gptp_sim words) order

-- what words ask for: the command that they name, with what the parser finds after its name
abbrev pub AsksFor : List Text → Order → Type 0
AsksFor words Compare = IsCompare (drop 1 words) × WordsMean words Compare
AsksFor words Version = AsksVersion words
AsksFor words order = BeginsWith (name_of order) (drop 1 words) × WordsMean words order

-- words that ask for nothing, with this error: it is of a kind that the parser's model finds, or the model finds none
abbrev pub MeansNothing : List Text → CommandLineError → Type 0
MeansNothing words e =
    ((error : Error) × (e ≡ NotRead error) × IsAmong (kind_of error) (fault_of gptp_sim words))
    ⊎ ((fault_of gptp_sim words ≡ []) × Wrong (subcommand_of gptp_sim words) e)

-- `explain` has a clock, and `faults` no kind and no part that there isn't
abbrev pub IsRightOrder : Text × List Row → Type 0
IsRightOrder entered =
    MatchBool (bytes_eq entered.0 (codes "explain")) (LacksClock entered.1 → ⊥)
    (MatchBool (bytes_eq entered.0 (codes "faults")) (LacksKind entered.1 ⊎ LacksPart entered.1 → ⊥) ⊤)

-- a command line that is read: the parser's model finds no fault in it, and the command that it enters is right
pub record IsRead (words : List Text) : Type 0 where
  pub parsed : fault_of gptp_sim words ≡ []
  pub right : IfSome (subcommand_of gptp_sim words) IsRightOrder

-- ---- commands with nothing that may be left out

-- a text that begins with no hyphen (45)
abbrev pub IsNoOption : Text → Type 0
IsNoOption text = strip_byte 45 text ≡ None

-- `check` with a file and nothing else
abbrev pub ChecksOnly : Text → List Text → Type 0
ChecksOnly file words = (drop 1 words ≡ codes "check" ∷ file ∷ []) × IsNoOption file

-- 16 hexadecimal digits, of either case, as in documents
abbrev pub IsClock : Text → Type 0
IsClock text = (clock : ℕ) × (clock_of_text text ≡ Ok clock)

-- `explain` with a clock and nothing else
abbrev pub ExplainsOnly : Text → List Text → Type 0
ExplainsOnly clock words = (drop 1 words ≡ codes "explain" ∷ clock ∷ []) × IsNoOption clock × IsClock clock

-- a command by its name alone
abbrev pub IsBareCommand : Text → List Text → Type 0
IsBareCommand name words = drop 1 words ≡ name ∷ []

-- a command with nothing that may be left out
abbrev pub IsPlain : List Text → Type 0
IsPlain words =
    IsCompare (drop 1 words) ⊎ (((file : Text) × ChecksOnly file words) ⊎ (((clock : Text) × ExplainsOnly clock words)
    ⊎ (IsBareCommand (codes "run") words ⊎ (IsBareCommand (codes "choice") words
    ⊎ (IsBareCommand (codes "accuracy") words ⊎ (IsBareCommand (codes "lint") words
    ⊎ (IsBareCommand (codes "timeline") words ⊎ IsBareCommand (codes "faults") words)))))))

-- ---- the numbers of what is asked for are in their ranges

-- a time, an error, or how many systems
abbrev pub IsEndInRange : Option ℕ → Type 0
IsEndInRange until = IfSome until (λ until. IsMoment until)

-- the numbers of the options of `run` are in their ranges
abbrev pub RunOptionsAreInRange : RunOptions → Type 0
RunOptionsAreInRange options = IsEndInRange options.until × (options.seed < 2 ^ 32)

-- the limits of `timeline` are in their range
abbrev pub LimitsAreInRange : Limits → Type 0
LimitsAreInRange limits = (limit : Limit) → IsEndInRange (most_of limits limit)

-- the numbers of the options of `accuracy` are in their ranges
abbrev pub AccuracyOptionsAreInRange : AccuracyOptions → Type 0
AccuracyOptionsAreInRange options = IsEndInRange options.reads × IsEndInRange options.max_error

-- the numbers of a question are in their ranges
abbrev pub QuestionIsInRange : Question → Type 0
QuestionIsInRange (Choice until) = IsEndInRange until
QuestionIsInRange (Accuracy until options) = IsEndInRange until × AccuracyOptionsAreInRange options
QuestionIsInRange (Explain clock until) = IsEndInRange until
QuestionIsInRange (Lint strict) = ⊤

-- the numbers of the options of a command are in their ranges
abbrev pub OrderIsInRange : Order → Type 0
OrderIsInRange Compare = ⊤
OrderIsInRange (Run options) = RunOptionsAreInRange options
OrderIsInRange (Timeline order) =
    IsEndInRange order.until × (order.seed < 2 ^ 32) × LimitsAreInRange order.options.limits
OrderIsInRange (Faults options) = AreOptions options
OrderIsInRange (Check options) = IsEndInRange options.until
OrderIsInRange (Ask question) = QuestionIsInRange question
OrderIsInRange Version = ⊤

-- ---- where no command runs

-- why no command runs, where an error came: memory ran out, or the error as it came
abbrev pub MemoryOr : Type 0 → CommandLineError → CommandLineError → Type 0
MemoryOr ran_out other reason = (ran_out × (reason ≡ Memory)) ⊎ (¬ ran_out × (reason ≡ other))

-- the exit status of a process that runs no command
abbrev pub command_line_status : CommandLineError → ℕ
command_line_status Memory = 3
command_line_status (NotText error) = 2
command_line_status (NotRead error) = 2
command_line_status (NotClock text) = 2
command_line_status (NotKind text) = 2
command_line_status (NotPart part parts) = 2
