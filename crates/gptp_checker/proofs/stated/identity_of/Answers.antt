use Rattle.std.proofs.Common.{◌≡◌, Some, slice_get, option_map, ap, ◌∙◌}
use Rattle.gptp_graph.specs.Snapshot.{System}
use Rattle.gptp_lists.proofs.SystemSpecLemmas.{In-slice_get, slice_get-In}
use Rattle.gptp_network.specs.Snapshot.{system_of}
use Rattle.gptp_checker.proofs.stated.identity_of.Goals as goal

pub returns-in_err-place_of-clause-only : goal.returns-in_err-place_of-clause-only
returns-in_err-place_of-clause-only c = λ s at.
    let place = slice_get-In s c.args.snapshot.now.systems at.live in
    let e = c.in_err-place_of.ensures.only place.0 (record { system = s; there = place.1; is = at.has }) in absurd cc

pub returns-clause-only : goal.returns-clause-only
returns-clause-only c = λ s at.
    let place = slice_get-In s c.args.snapshot.now.systems at.live in
    let only = c.in_ok-place_of.ensures.only place.0 (record { system = s; there = place.1; is = at.has }) in
    let e : c.in_ok-place_of.field-0 ≡ place.0 = cc in
    let there : Some (system_of (c.in_ok-identity.identity, c.in_ok-identity.field-0-1)) ≡ Some s =
    c.in_ok-identity.ensures ∙ ap (slice_get c.args.snapshot.now.systems) e ∙ place.1 in
    ap (option_map (λ (t : System). t.identity)) there

pub returns-clause-some : goal.returns-clause-some
returns-clause-some c =
    let at = c.in_ok-place_of.ensures.some in
    let there : Some (system_of (c.in_ok-identity.identity, c.in_ok-identity.field-0-1)) ≡ Some at.system =
    c.in_ok-identity.ensures ∙ at.there in
    let same : at.system ≡ system_of (c.in_ok-identity.identity, c.in_ok-identity.field-0-1) = cc in (
      at.system,
      record {
        live = In-slice_get at.system c.args.snapshot.now.systems c.in_ok-place_of.field-0 at.there;
        has = at.is;
      },
      ap (λ (t : System). t.identity) same,
    )
