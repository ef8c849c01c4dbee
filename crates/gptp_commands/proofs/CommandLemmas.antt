-- A parse of the words of a command line, by the clauses of the parser, and what is in range then.
use Rattle.std.proofs.Common.{◌≡◌, ◌⊎◌, ◌<◌, ◌≤◌, ◌^◌, inl, inr, ℕ, true, List, [], ◌∷◌, Option, Some, None, arith, codes, drop, refl, subst, sym}
use Rattle.std.specs.Box.{box_value}
use Rattle.std.specs.Prelude.{Box, IfSome, option_map, unwrap_or}
use Rattle.clap.specs.Words.{App, HasKind, HasMatchesOf, IsAmong, Row, Text, kind_of, fault_of, is_simple_and_free, subcommand_name_of, subcommand_of, subcommand_rows, subcommand_rows_of}
use Rattle.clap.specs.declared.error.Error.{Error}
use Rattle.clap.specs.declared.error.kind.ErrorKind.TheVariants.{OutOfMemory}
use Rattle.clap.specs.declared.parser.matches.ArgMatches.{ArgMatches}
use Rattle.clap.specs.declared.parser.matches.ArgMatches.TheViews.{out-ArgMatches, out-SubCommand}
use Rattle.clap.specs.declared.parser.matches.SubCommand.{SubCommand}
use Rattle.gptp_setup.specs.declared.limits.TheConstants.{LAST_MOMENT}
use Rattle.gptp_timeline.specs.Limits.{most_of, option_name}
use Rattle.gptp_commands.specs.Command.{AsksFor, BeginsWith, Enters, IsCompare, IsEndInRange, IsNoOther, IsRightOrder, IsRead, LacksClock, LacksKind, LacksPart, WordsMean, MeansNothing, MemoryOr, OrderIsInRange, QuestionIsInRange, ReadsQuestion, Wrong, WrongCases, name_of}
use Rattle.gptp_commands.specs.Options.{option_number}
use Rattle.gptp_commands.specs.Table.{gptp_sim, the}
use Rattle.gptp_commands.specs.declared.command.CommandLineError.{CommandLineError}
use Rattle.gptp_commands.specs.declared.command.CommandLineError.TheVariants.{Memory, NotRead}
use Rattle.gptp_commands.specs.declared.command.Order.{Order}
use Rattle.gptp_commands.specs.declared.command.Order.TheVariants.{Ask, Check, Compare, Faults, Run, Timeline, Version}
use Rattle.gptp_commands.specs.declared.question.Question.{Question}
use Rattle.gptp_commands.specs.declared.question.Question.TheVariants.{Accuracy, Choice, Explain, Lint}
use Rattle.gptp_commands.specs.declared.table.Form.TheVariants.{Number}
use Rattle.gptp_commands.specs.declared.table.rows.TheConstants.{DETECT, SEED}
use Rattle.gptp_commands.proofs.NameLemmas.{begins, compare_entered, compares}
use Rattle.gptp_commands.proofs.OptionLemmas.{default_within, number_within}

-- ---- a parse that succeeds

-- it enters the command that the model of its words has
entered : (parsed : App) (words : List Text) (m : ArgMatches) → parsed ≡ gptp_sim → HasMatchesOf parsed words m
    → subcommand_rows_of m ≡ subcommand_of gptp_sim words
entered parsed words m is matches =
    let both : HasMatchesOf gptp_sim words m = rw is at matches in
    (both refl).1

-- the model finds no fault in them
follows : (parsed : App) (words : List Text) → parsed ≡ gptp_sim
    → (is_simple_and_free parsed ≡ true → fault_of parsed words ≡ []) → fault_of gptp_sim words ≡ []
follows parsed words is accepted = rw is at accepted refl

-- the name of the subcommand, by its name and rows
abbrev name_in : Option (Text × List Row) → Option Text
name_in = option_map (λ p. p.0)

found_name : {Z : Type 0} (found : Option (Box SubCommand Z))
    → option_map (λ b. (out-SubCommand (box_value b)).name.now) found ≡ name_in (subcommand_rows found)
found_name None = refl
found_name (Some sub) = refl

-- what the words mean begins with its name
named : (words : List Text) (order : Order) → WordsMean words order
    → BeginsWith (name_of order) (drop 1 words) × WordsMean words order
named words order means = (begins words (name_of order) means.1.0 means.0 means.1.1, means)

-- and those that enter no other command are `compare`
compared : (words : List Text) → fault_of gptp_sim words ≡ []
    → IsNoOther (name_in (subcommand_of gptp_sim words)) → IsCompare (drop 1 words) × WordsMean words Compare
compared words none others =
    let (rows, is) = compare_entered words none others in
    (compares (drop 1 words) none (begins words (codes "compare") rows none is), (none, (rows, is, tt)))

-- so the command that is entered is what they ask for
asked_of : (words : List Text) (order : Order) → fault_of gptp_sim words ≡ []
    → Enters (name_in (subcommand_of gptp_sim words)) (subcommand_of gptp_sim words) order → AsksFor words order
asked_of words Compare none enters = compared words none enters
asked_of words (Run options) none enters = named words (Run options) (none, enters)
asked_of words (Timeline order) none enters = named words (Timeline order) (none, enters)
asked_of words (Faults options) none enters = named words (Faults options) (none, enters)
asked_of words (Check options) none enters = named words (Check options) (none, enters)
asked_of words (Ask question) none enters = named words (Ask question) (none, enters)
asked_of words Version none enters = absurd enters.2

-- what the matches ask for is what the words ask for
pub asked : (parsed : App) (words : List Text) (m : ArgMatches) (order : Order) → parsed ≡ gptp_sim
    → HasMatchesOf parsed words m → (is_simple_and_free parsed ≡ true → fault_of parsed words ≡ [])
    → Enters (subcommand_name_of m) (subcommand_rows_of m) order → AsksFor words order
asked parsed words m order is matches accepted enters =
    asked_of words order (follows parsed words is accepted)
    (subst (λ found. Enters (name_in found) found order) (entered parsed words m is matches)
    (subst (λ name. Enters name (subcommand_rows_of m) order) (found_name (out-ArgMatches m).subcommand) enters))

-- ---- words that ask for nothing

-- by what the parser doesn't see
pub not_meant : (parsed : App) (words : List Text) (m : ArgMatches) (e : CommandLineError) → parsed ≡ gptp_sim
    → HasMatchesOf parsed words m → (is_simple_and_free parsed ≡ true → fault_of parsed words ≡ [])
    → (e ≡ Memory) ⊎ Wrong (subcommand_rows_of m) e → (e ≡ Memory) ⊎ MeansNothing words e
not_meant parsed words m e is matches accepted (inl memory) = inl memory
not_meant parsed words m e is matches accepted (inr wrong) =
    let wrong_words = subst (λ found. Wrong found e) (entered parsed words m is matches) wrong in
    inr (inr (follows parsed words is accepted, wrong_words))

-- by the parser
kind_meant : (words : List Text) (error : Error) (e : CommandLineError) → HasKind (fault_of gptp_sim words) error
    → MemoryOr (kind_of error ≡ OutOfMemory) (NotRead error) e → (e ≡ Memory) ⊎ MeansNothing words e
kind_meant words error e kind (inl memory) = inl memory.1
kind_meant words error e (inl memory) (inr read) = absurd (read.0 memory)
kind_meant words error e (inr among) (inr read) = inr (inl (error, read.1, among))

pub refused : (parsed : App) (words : List Text) (error : Error) (e : CommandLineError) → parsed ≡ gptp_sim
    → (is_simple_and_free parsed ≡ true → HasKind (fault_of parsed words) error)
    → MemoryOr (kind_of error ≡ OutOfMemory) (NotRead error) e → (e ≡ Memory) ⊎ MeansNothing words e
refused parsed words error e is kinds came =
    let kind : HasKind (fault_of gptp_sim words) error = rw is at kinds refl in
    kind_meant words error e kind came

-- what is wrong after `faults`
lacks : (rows : List Row) (e : CommandLineError) → WrongCases rows e → LacksKind rows ⊎ LacksPart rows
lacks rows e (inl wrong) = inl wrong.0
lacks rows e (inr wrong) = inr wrong.0

-- those that are taken aren't such
pub taken : (words : List Text) (e : CommandLineError) → (e ≡ Memory) ⊎ MeansNothing words e → IsRead words
    → e ≡ Memory
taken words e (inl memory) is = memory
taken words e (inr (inl (error, came, among))) is = absurd (subst (IsAmong (kind_of error)) is.parsed among)
taken words e (inr (inr (none, inl (rows, entered_is, wrong)))) is =
    let right : LacksClock rows → ⊥ = subst (λ found. IfSome found IsRightOrder) entered_is is.right in
    absurd (right wrong.0)
taken words e (inr (inr (none, inr (rows, entered_is, wrong)))) is =
    let right : LacksKind rows ⊎ LacksPart rows → ⊥ = subst (λ found. IfSome found IsRightOrder) entered_is is.right in
    absurd (right (lacks rows e wrong))

-- ---- the numbers of what is asked for are in their ranges: an end, a delay, a seed, a count, those of a question, and
-- all

upper : (found : Option ℕ) (least most : ℕ) → IfSome found (λ n. (least ≤ n) × (n ≤ most))
    → IfSome found (λ n. n ≤ most)
upper None least most within = tt
upper (Some n) least most within = within.1

end_in_range : (name : Text) (least : ℕ) (rows : List Row) (end : Option ℕ)
    → end ≡ option_number (name, Number least LAST_MOMENT, []) rows → IsEndInRange end
end_in_range name least rows end is =
    subst IsEndInRange (sym is)
    (upper _ least LAST_MOMENT (number_within name [] least LAST_MOMENT rows))

lower : (found : Option ℕ) (least most : ℕ) → IfSome found (λ n. (least ≤ n) × (n ≤ most))
    → IfSome found (λ n. least ≤ n)
lower None least most within = tt
lower (Some n) least most within = within.0

delay_in_range : (rows : List Row) (delay : Option ℕ) → delay ≡ option_number (the DETECT) rows
    → IfSome delay (λ n. 1 ≤ n)
delay_in_range rows delay is =
    subst (λ d. IfSome d (λ n. 1 ≤ n)) (sym is)
    (lower _ 1 LAST_MOMENT (number_within (codes "detect") [] 1 LAST_MOMENT rows))

seed_in_range : (rows : List Row) (seed : ℕ) → seed ≡ unwrap_or (option_number (the SEED) rows) 1 → seed < 2 ^ 32
seed_in_range rows seed is =
    let within = default_within (option_number (the SEED) rows) 0 4294967295 1 (omega arith) (omega arith)
    (number_within (codes "seed") (codes "1" ∷ []) 0 4294967295 rows) in
    subst (λ n. n < 2 ^ 32) (sym is) (omega (arith, within.1))

count_in_range : (name default_text : Text) (most default number : ℕ) (rows : List Row) → 1 ≤ default → default ≤ most
    → number ≡ unwrap_or (option_number (name, Number 1 most, default_text ∷ []) rows) default
    → (1 ≤ number) × (number ≤ most)
count_in_range name default_text most default number rows low high is =
    subst (λ n. (1 ≤ n) × (n ≤ most)) (sym is)
    (default_within _ 1 most default low high (number_within name (default_text ∷ []) 1 most rows))

question_in_range : (rows : List Row) (question : Question) → ReadsQuestion rows question
    → QuestionIsInRange question
question_in_range rows (Choice until) reads = end_in_range (codes "until") 0 rows until reads
question_in_range rows (Accuracy until options) (until_is, reads) = (
  end_in_range (codes "until") 0 rows until until_is,
  (
    end_in_range (codes "reads") 0 rows options.reads reads.reads,
    end_in_range (codes "max-error") 0 rows options.max_error reads.max_error,
  ),
)
question_in_range rows (Explain clock until) reads = end_in_range (codes "until") 0 rows until reads.1
question_in_range rows (Lint strict) reads = tt

pub asked_in_range : (words : List Text) (order : Order) → AsksFor words order → OrderIsInRange order
asked_in_range words Compare asks = tt
asked_in_range words (Run options) asks =
    let rows = asks.1.1.0 in let reads = asks.1.1.2 in
    (end_in_range (codes "until") 0 rows options.until reads.until, seed_in_range rows options.seed reads.seed)
asked_in_range words (Timeline order) asks =
    let rows = asks.1.1.0 in let reads = asks.1.1.2 in let limits = reads.limits in (
      end_in_range (codes "until") 0 rows order.until reads.until,
      seed_in_range rows order.seed reads.seed,
      λ limit. end_in_range (option_name limit) 0 rows (most_of order.options.limits limit) (limits limit),
    )
asked_in_range words (Faults options) asks =
    let rows = asks.1.1.0 in let reads = asks.1.1.2 in
    let seeds = count_in_range (codes "seeds") (codes "1") 1000 1 options.seeds rows (omega arith) (omega arith)
    reads.seeds in
    let moments = count_in_range (codes "moments") (codes "8") 1000 8 options.moments rows (omega arith) (omega arith)
    reads.moments in
    let parts = count_in_range (codes "parts") (codes "1") 10000 1 options.parts rows (omega arith) (omega arith)
    reads.parts in
    let part = count_in_range (codes "part") (codes "1") 10000 1 options.part rows (omega arith) (omega arith)
    reads.part in
    record {
      some_seed = seeds.0;
      seeds = seeds.1;
      some_moment = moments.0;
      moments = moments.1;
      at = end_in_range (codes "at") 0 rows options.at reads.at;
      hold = end_in_range (codes "hold") 1 rows options.hold reads.hold;
      some_detect = delay_in_range rows options.detect reads.detect;
      detect = end_in_range (codes "detect") 1 rows options.detect reads.detect;
      some_part = part.0;
      part = reads.there;
      parts = parts.1;
    }
asked_in_range words (Check options) asks =
    end_in_range (codes "until") 0 asks.1.1.0 options.until asks.1.1.2.until
asked_in_range words (Ask question) asks = question_in_range asks.1.1.0 question asks.1.1.2
asked_in_range words Version asks = tt
