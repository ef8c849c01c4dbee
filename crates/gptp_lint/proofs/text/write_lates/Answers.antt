-- The lines of one time more.
use Rattle.std.proofs.Common.{◌≡◌, ◌++◌, None, get_or, rules}
use Rattle.std.specs.Prelude.{string_bytes}
use Rattle.std.proofs.lemmas.Option.{slice_get-get_or}
use Rattle.gptp_words.specs.Lines.{text_of}
use Rattle.gptp_lint.specs.LintText.{late_lines}
use Rattle.gptp_topology.specs.declared.times.CalmTime.{CalmTime}
use Rattle.gptp_lint.proofs.TextLemmas.{several_more}
use Rattle.gptp_lint.proofs.text.write_lates.Goals as goal

pub loop-time-preserved : goal.loop-time-preserved
loop-time-preserved c =
    let xs = c.args.times.now in
    let i = c.loop-time.time-index in
    let any : CalmTime = record { at = 0; bound = None; needs = None } in
    let told : string_bytes c.write_late.new.text
    ≡ string_bytes c.loop-time.text ++ text_of (late_lines c.args.limit (get_or xs i any)) = search rules in
    several_more (late_lines c.args.limit) xs i (get_or xs i any) (string_bytes c.args.text.now)
    (string_bytes c.loop-time.text) (string_bytes c.write_late.new.text)
    (slice_get-get_or xs i any c.loop-time-test.true) c.loop-time.invariant told
