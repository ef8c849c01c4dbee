-- What is told of the system at a place is what it starts with.
use Rattle.std.proofs.Common.{false, Some, ap, refl, sym, ◌∙◌}
use Rattle.gptp_setup.specs.declared.setup.Setup.{Setup}
use Rattle.gptp_system.specs.Start.{started}
use Rattle.gptp_system.specs.State.{SystemState}
use Rattle.gptp_scenario.specs.Network.{member, seeded}
use Rattle.gptp_scenario.proofs.NetworkLemmas.{seeded_largest, seeded_network}
use Rattle.gptp_scenario.specs.declared.network.SystemSpec.{SystemSpec}
use Rattle.gptp_model.specs.declared.station.Station.{Station}
use Rattle.gptp_model.specs.Initial.{setup_of, station_of}
use Rattle.gptp_world.proofs.InitialLemmas.{intervals_within, member_told, set_up}
use Rattle.gptp_lists.proofs.MappedLemmas.{mapped_there}
use Rattle.gptp_world.proofs.building.station_in.Goals as goal

pub new-requires-clause-ports : goal.new-requires-clause-ports
new-requires-clause-ports c =
    let plain = c.args.network.now in
    let n = seeded c.args.seed plain in
    let here = member_told plain c.args.place _ _ _ _ c.system_at.ensures c.unwrap-identity.ensures
    c.continues_at.ensures c.unwrap-continues.ensures in
    let limits = c.well_formed-2.ensures.systems c.args.place _ here in
    let most = c.largest-largest.ensures in
    let made = set_up n _ c.copy.result _ _ _ limits.drift most.range
    (most.is ∙ sym (seeded_largest plain c.args.seed)) refl c.params.ensures c.copy.ensures in
    rw made limits.ports

pub new-requires-clause-phase : goal.new-requires-clause-phase
new-requires-clause-phase c =
    let plain = c.args.network.now in
    let n = seeded c.args.seed plain in
    let here = member_told plain c.args.place _ _ _ _ c.system_at.ensures c.unwrap-identity.ensures
    c.continues_at.ensures c.unwrap-continues.ensures in
    let limits = c.well_formed-2.ensures.systems c.args.place _ here in
    let most = c.largest-largest.ensures in
    let made = set_up n _ c.copy.result _ _ _ limits.drift most.range
    (most.is ∙ sym (seeded_largest plain c.args.seed)) refl c.params.ensures c.copy.ensures in
    rw made limits.phase

pub new-requires-clause-drift : goal.new-requires-clause-drift
new-requires-clause-drift c =
    let plain = c.args.network.now in
    let n = seeded c.args.seed plain in
    let here = member_told plain c.args.place _ _ _ _ c.system_at.ensures c.unwrap-identity.ensures
    c.continues_at.ensures c.unwrap-continues.ensures in
    let limits = c.well_formed-2.ensures.systems c.args.place _ here in
    let most = c.largest-largest.ensures in
    let made = set_up n _ c.copy.result _ _ _ limits.drift most.range
    (most.is ∙ sym (seeded_largest plain c.args.seed)) refl c.params.ensures c.copy.ensures in
    rw made limits.drift

pub new-requires-clause-intervals : goal.new-requires-clause-intervals
new-requires-clause-intervals c =
    let plain = c.args.network.now in
    let n = seeded c.args.seed plain in
    let here = member_told plain c.args.place _ _ _ _ c.system_at.ensures c.unwrap-identity.ensures
    c.continues_at.ensures c.unwrap-continues.ensures in
    let limits = c.well_formed-2.ensures.systems c.args.place _ here in
    let most = c.largest-largest.ensures in
    let made = set_up n _ c.copy.result _ _ _ limits.drift most.range
    (most.is ∙ sym (seeded_largest plain c.args.seed)) refl c.params.ensures c.copy.ensures in
    rw made (intervals_within n (seeded_network plain c.args.seed c.well_formed-2.ensures) c.args.place _ here)

pub returns : goal.returns
returns c =
    let plain = c.args.network.now in
    let n = seeded c.args.seed plain in
    let here = member_told plain c.args.place _ _ _ _ c.system_at.ensures c.unwrap-identity.ensures
    c.continues_at.ensures c.unwrap-continues.ensures in
    let limits = c.well_formed-2.ensures.systems c.args.place _ here in
    let most = c.largest-largest.ensures in
    let told = c.unwrap-identity.result in
    let member : SystemSpec = member told.0 told.1 told.2 told.3 c.unwrap-continues.result told.4 in
    let made = set_up n member c.copy.result _ _ _ limits.drift most.range
    (most.is ∙ sym (seeded_largest plain c.args.seed)) refl c.params.ensures c.copy.ensures in
    let station : Setup → SystemState → Station =
    λ setup system. record { setup = setup; system = system; live = false } in
    mapped_there (station_of n) n.systems c.args.place _ here
    ∙ sym (ap (λ s. Some (station s c.in_ok-system.system)) (sym c.copy.ensures ∙ made)
    ∙ ap (λ s. Some (station (setup_of n member) s)) (c.in_ok-system.ensures.started ∙ ap (λ s. started s 0) made))
