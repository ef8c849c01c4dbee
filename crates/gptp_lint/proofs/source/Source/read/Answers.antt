-- A text that is TOML has a table and its outline; any other has neither keys nor headers.
use Rattle.std.proofs.Common.{◌≡◌, ◌∙◌, None, true, false, sym}
use Rattle.toml.specs.View.{table_view}
use Rattle.gptp_outline.specs.Rows.{table_of}
use Rattle.gptp_outline.proofs.OutlineLemmas.{no_table, table_is}
use Rattle.gptp_lint.proofs.OutlineLemmas.{no_outline}
use Rattle.gptp_lint.proofs.source.Source.read.Goals as goal

pub returns-in_ok-outline-in-Ok-clause-document : goal.returns-in_ok-outline-in-Ok-clause-document
returns-in_ok-outline-in-Ok-clause-document c =
    let read = c.in-Ok.ensures.ok in
    sym (table_is c.args.input.now (table_view c.in-Ok.document) read.0 read.1)

pub returns-in_ok-outline-in-Ok-clause-outline : goal.returns-in_ok-outline-in-Ok-clause-outline
returns-in_ok-outline-in-Ok-clause-outline c =
    let read = c.in-Ok.ensures.ok in
    c.in_ok-outline-in-Ok.ensures (table_view c.in-Ok.document)
    (table_is c.args.input.now (table_view c.in-Ok.document) read.0 read.1)

pub returns-else-is_memory-clause-document : goal.returns-else-is_memory-clause-document
returns-else-is_memory-clause-document c =
    sym (no_table c.args.input.now (c.in-Err.ensures.refused (λ memory.
    let clash : true ≡ false = sym (c.is_memory.ensures.1 memory) ∙ c.if-is_memory.false in
    absurd cc)))

pub returns-else-is_memory-clause-outline : goal.returns-else-is_memory-clause-outline
returns-else-is_memory-clause-outline c =
    let none : table_of c.args.input.now ≡ None =
    no_table c.args.input.now (c.in-Err.ensures.refused (λ memory.
    let clash : true ≡ false = sym (c.is_memory.ensures.1 memory) ∙ c.if-is_memory.false in
    absurd cc)) in
    c.new.ensures ∙ sym (no_outline c.args.input.now none)
