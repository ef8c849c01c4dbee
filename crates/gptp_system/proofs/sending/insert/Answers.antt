use Rattle.std.proofs.Common.{◌≤◌, ℕ, length, ap, ◌∙◌, arith, nat_le}
use Rattle.std.specs.List.{insert, prefix_len}
use Rattle.std.proofs.lemmas.List.Sums.{prefix_len-le-length}
use Rattle.gptp_system.specs.declared.sending.Sending.{Sending}
use Rattle.gptp_system.proofs.MeasuringLemmas.{up_to_is}
use Rattle.gptp_system.proofs.sending.insert.Goals as goal

pub insert-requires : goal.insert-requires
insert-requires c =
    let most = prefix_len-le-length (λ (one : Sending). nat_le one.port c.args.sending.port) c.as_slice.result.now in
    let place : c.sends_up_to-place.result ≤ length c.args.outbox.now.items =
    omega (arith, c.sends_up_to-place.ensures, most, ap length c.as_slice.ensures.value) in
    (omega arith, (place, c.requires))

pub returns : goal.returns
returns c =
    let sends = c.args.outbox.now.items in
    let place = c.sends_up_to-place.ensures
    ∙ ap (prefix_len (λ (one : Sending). nat_le one.port c.args.sending.port)) c.as_slice.ensures.value
    ∙ up_to_is c.args.sending.port sends in
    c.insert.ensures.items ∙ ap (λ (n : ℕ). insert sends n c.args.sending) place
