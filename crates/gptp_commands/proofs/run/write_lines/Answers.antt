use Rattle.std.proofs.Common.{◌≡◌, ◌+◌, suc, true, false, [], take, slice_get, refl, subst, ◌∙◌, arith, rules}
use Rattle.std.specs.Io.KnownBytes.{Appends}
use Rattle.gptp_words.specs.Lines.{text_of}
use Rattle.gptp_certificate_text.specs.CertificateText.{PrintsLine, certificate_lines}
use Rattle.gptp_sink.specs.Sink.{AppendsSome}
use Rattle.gptp_sink.proofs.SinkLemmas.{appends_none, front_of}
use Rattle.gptp_commands.proofs.LineLemmas.{lines_all, lines_more, lines_part, lines_so_far}
use Rattle.gptp_commands.proofs.run.write_lines.Goals as goal

pub loop-place-init : goal.loop-place-init
loop-place-init g c = record { written = appends_none (g.K.Sink.written c.args.sink.now); works = refl }

pub loop-place-preserved : goal.loop-place-preserved
loop-place-preserved g c =
    let lines = certificate_lines c.args.certificate.now.version c.args.certificate.now.lines in
    let place = c.loop-place.place in
    let old = g.K.Sink.written c.args.sink.now in let between = g.K.Sink.written c.loop-place.sink in
    let new = g.K.Sink.written c.write_whole.new.sink in let octets = c.print_line.new.text.items in
    let more = c.in_ok-print_line.field-0 in
    let told : more ≡ true = search rules in
    let printed = subst (λ b. PrintsLine (slice_get lines place) b [] octets) told
    (subst (λ before. PrintsLine (slice_get lines place) more before octets) c.clear.ensures.items
    c.in_ok-print_line.ensures.line) in
    let next : suc place ≡ place + 1 = omega arith in
    record {
      written = subst (λ n. Appends old new (text_of (take n lines))) next
          (lines_more lines place old between new octets c.loop-place.invariant.written printed
          (subst (Appends between new) c.deref.ensures.value c.in_ok-write_whole.ensures.whole));
      works = c.in_ok-write_whole.ensures.works ∙ c.loop-place.invariant.works;
    }

pub returns-in_err-print_line-clause-some : goal.returns-in_err-print_line-clause-some
returns-in_err-print_line-clause-some g c =
    lines_so_far (certificate_lines c.args.certificate.now.version c.args.certificate.now.lines) c.loop-place.place _ _
    c.loop-place.invariant.written

pub returns-in_err-write_whole-clause-some : goal.returns-in_err-write_whole-clause-some
returns-in_err-write_whole-clause-some g c =
    let lines = certificate_lines c.args.certificate.now.version c.args.certificate.now.lines in
    let place = c.loop-place.place in
    let old = g.K.Sink.written c.args.sink.now in let between = g.K.Sink.written c.loop-place.sink in
    let new = g.K.Sink.written c.write_whole.new.sink in let octets = c.print_line.new.text.items in
    let more = c.in_ok-print_line.field-0 in
    let told : more ≡ true = search rules in
    let printed = subst (λ b. PrintsLine (slice_get lines place) b [] octets) told
    (subst (λ before. PrintsLine (slice_get lines place) more before octets) c.clear.ensures.items
    c.in_ok-print_line.ensures.line) in
    lines_part lines place old between new octets c.loop-place.invariant.written printed
    (subst (AppendsSome between new) c.deref.ensures.value
    (front_of between new c.deref.result.now c.in_err-write_whole.ensures.front))

pub returns-then-not-branch-clause-some : goal.returns-then-not-branch-clause-some
returns-then-not-branch-clause-some g c =
    lines_so_far (certificate_lines c.args.certificate.now.version c.args.certificate.now.lines) c.loop-place.place _ _
    c.loop-place.invariant.written

pub returns-then-not-branch-clause-whole : goal.returns-then-not-branch-clause-whole
returns-then-not-branch-clause-whole g c =
    let lines = certificate_lines c.args.certificate.now.version c.args.certificate.now.lines in
    let place = c.loop-place.place in
    let octets = c.print_line.new.text.items in let more = c.in_ok-print_line.field-0 in
    let told : more ≡ false = search rules in
    let printed = subst (λ b. PrintsLine (slice_get lines place) b [] octets) told
    (subst (λ before. PrintsLine (slice_get lines place) more before octets) c.clear.ensures.items
    c.in_ok-print_line.ensures.line) in
    lines_all lines place (g.K.Sink.written c.args.sink.now) (g.K.Sink.written c.loop-place.sink) octets
    c.loop-place.invariant.written printed

pub returns-clause-some : goal.returns-clause-some
returns-clause-some g c =
    lines_so_far (certificate_lines c.args.certificate.now.version c.args.certificate.now.lines) c.loop-place.place _ _
    c.loop-place.invariant.written
