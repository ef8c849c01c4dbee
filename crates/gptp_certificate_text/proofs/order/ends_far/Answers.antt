use Rattle.std.proofs.Common.{ℕ, List, nat_eq, length, ap, sym, ◌∙◌}
use Rattle.gptp_roles.specs.declared.role.Role.{Role}
use Rattle.gptp_certificate_text.specs.Certificate.{line_of}
use Rattle.gptp_certificate_text.specs.Entries.{system_entry}
use Rattle.gptp_certificate_text.proofs.OrderLemmas.{ends_near, ends_with, lines_end}
use Rattle.gptp_certificate_text.proofs.order.ends_far.Goals as goal

pub returns-then-last : goal.returns-then-last
returns-then-last c =
    let last = c.in-Some.last.now in
    let end = lines_end c.args.lines.now c.in-Some.field-0-1.now last c.in-Some.ensures.cases.0 in
    c.is_empty.ensures ∙ ap (λ (items : List (ℕ × Role)). nat_eq (length items) 0) c.as_slice.ensures.value
    ∙ ends_with (system_entry (line_of last)) last.clock last.ports.items c.if-last.true ∙ sym end

pub returns-else-last : goal.returns-else-last
returns-else-last c =
    let last = c.in-Some.last.now in
    let end = lines_end c.args.lines.now c.in-Some.field-0-1.now last c.in-Some.ensures.cases.0 in
    c.if-last.false ∙ sym (end ∙ ends_near (system_entry (line_of last)) last.clock last.ports.items c.if-last.false)
