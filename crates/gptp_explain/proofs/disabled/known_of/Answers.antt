use Rattle.std.proofs.Common.{Some, slice_get, subst, sym, ◌≡◌}
use native.Mathlib.Decide.{dec_lt}
use Rattle.std.proofs.Common.{arith}
use Rattle.std.proofs.lemmas.Option.{slice_get_within}
use Rattle.gptp_scenario.specs.Network.{NetworkState}
use Rattle.gptp_explain.proofs.PortLemmas.{known_there, none_known}
use Rattle.gptp_explain.proofs.disabled.known_of.Goals as goal

pub returns-in-Some : goal.returns-in-Some
returns-in-Some c =
    let d = c.args.document.now in
    let (w, here, leads) = c.in-Some.ensures.some in
    let there =
    subst (λ (n : NetworkState). slice_get n.links c.loop-place.place ≡ Some w) c.network-network.ensures here in
    known_there d c.args.at c.args.port.now w c.in-Some.there c.known_at.result c.loop-place.place there leads
    c.events_by-events.result.now c.events_by-events.ensures.events (c.known_at.ensures w here)

pub returns : goal.returns
returns c =
    let end = c.links-place-end.ensures in let past = c.loop-place-test.false in
    none_known c.args.document.now c.args.at c.args.port.now (λ place w there here leads.
    let here_too =
    subst (λ (n : NetworkState). slice_get n.links place ≡ Some w) (sym c.network-network.ensures) here in
    let within = slice_get_within c.network-network.result.now.links place w here_too in
    c.loop-place.invariant place w there (omega arith) here_too leads)

pub loop-place-preserved : goal.loop-place-preserved
loop-place-preserved c = λ place w there less here leads. elim (dec_lt place c.loop-place.place) [
  | yes before ↦ c.loop-place.invariant place w there before here leads
  | no over ↦
      let same : place ≡ c.loop-place.place = omega arith in
      c.in_default.ensures.none w there
      (subst (λ k. slice_get c.network-network.result.now.links k ≡ Some w) same here) leads
]
