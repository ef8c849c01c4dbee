-- The text spells the table that is told of, or is no TOML.
use Rattle.std.proofs.Common.{◌≡◌, ◌≤◌, ◌∙◌, true, false, length, take, arith, inl, sym}
use Rattle.std.specs.Prelude.{string_bytes}
use Rattle.std.proofs.lemmas.Result.{IfOk-weaker}
use Rattle.toml.specs.View.{table_view}
use Rattle.gptp_network.specs.Document.{IsNoToml}
use Rattle.gptp_outline.proofs.OutlineLemmas.{table_is}
use Rattle.gptp_lint.specs.Refusal.{TellsPlace, no_toml_words}
use Rattle.gptp_lint.proofs.refusal.tell_place.Goals as goal

pub tell_table-requires : goal.tell_table-requires
tell_table-requires c =
    let read = c.in-Ok.ensures.ok in table_is c.args.input.now (table_view c.in-Ok.document) read.0 read.1

pub returns-in-Some : goal.returns-in-Some
returns-in-Some c =
    let input = c.args.input.now in
    let n = c.in-Some.span.start in
    let error = c.in-Err.ensures in
    let span = c.in-Some.ensures in
    let none : IsNoToml input = λ t parses.
    let read = error.refused (λ memory. let clash : true ≡ false = span.none.1 memory in absurd cc) parses.utf8 in
    let clash = sym parses.table ∙ read in
    absurd cc in
    let within : n ≤ length input = omega (arith, error.span.0, error.span.1, span.range.0) in
    IfOk-weaker c.tell_no_toml.result (λ tail. string_bytes tail ≡ no_toml_words (take n input))
    (λ tail. TellsPlace input (string_bytes tail)) (λ tail is. inl (none, (n, within, is))) c.tell_no_toml.ensures
