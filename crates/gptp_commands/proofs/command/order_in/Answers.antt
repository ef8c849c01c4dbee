use Rattle.std.proofs.Common.{◌≢◌, Option, Some, codes, inl, inr, rules}
use Rattle.clap.specs.Words.{Text, found_of, rows_of, subcommand_name_of}
use Rattle.gptp_commands.specs.Command.{IsNoOther}
use Rattle.gptp_commands.proofs.OptionLemmas.{entered_rows}
use Rattle.gptp_commands.proofs.command.order_in.Goals as goal
use Rattle.gptp_commands.proofs.command.order_in.Goals.{in_default-via-in-Some+in_default, in_default-via-in_default}

pub returns-in-Err-clock_in-clause-refused : goal.returns-in-Err-clock_in-clause-refused
returns-in-Err-clock_in-clause-refused c =
    let it = c.in-Some-explain-default in
    let rows = rows_of (found_of it.matches.now) in
    let there = entered_rows c.args.matches.now (codes "explain") it.field-0-0.now rows it.is-explain it.ensures.name
    it.ensures.rows in
    elim c.in-Err-clock_in.ensures.refused [
      | inl memory ↦ inl memory
      | inr wrong ↦ inr (inl (rows, there, wrong))
    ]

pub returns-in-Some-lint-default-clause-asks : goal.returns-in-Some-lint-default-clause-asks
returns-in-Some-lint-default-clause-asks c =
    let it = c.in-Some-lint-default in
    let rows = rows_of (found_of it.matches.now) in
    let there = entered_rows c.args.matches.now (codes "lint") it.field-0-0.now rows it.is-lint it.ensures.name
    it.ensures.rows in
    (rows, there, c.flag.ensures)

-- it is `compare`, where it has the name of none of the others
no_other : (name : Option Text) → name ≢ Some (codes "run") → name ≢ Some (codes "timeline")
    → name ≢ Some (codes "check") → name ≢ Some (codes "choice") → name ≢ Some (codes "accuracy")
    → name ≢ Some (codes "explain") → name ≢ Some (codes "lint") → name ≢ Some (codes "faults") → IsNoOther name
no_other name run timeline check choice accuracy explain lint faults =
    (run, (timeline, (check, (choice, (accuracy, (explain, (lint, (faults, tt))))))))

pub returns-in_default-clause-asks : goal.returns-in_default-clause-asks
returns-in_default-clause-asks c =
    let name = subcommand_name_of c.args.matches.now in
    elim c.in_default.branch [
      | in_default-via-in-Some+in_default w ↦
          no_other name (search rules) (search rules) (search rules) (search rules) (search rules) (search rules)
          (search rules) (search rules)
      | in_default-via-in_default w ↦
          no_other name (search rules) (search rules) (search rules) (search rules) (search rules) (search rules)
          (search rules) (search rules)
    ]
