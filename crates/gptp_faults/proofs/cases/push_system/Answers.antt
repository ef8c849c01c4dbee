use Rattle.std.proofs.Common.{◌≡◌, ◌++◌, ◌∷◌, [], ℕ, List, None, Some, option_and_then, slice_get, sym, ap, ◌∙◌}
use Rattle.std.proofs.lemmas.Result.{on_ok_weaker}
use Rattle.gptp_scenario.specs.Change.{live_after}
use Rattle.gptp_faults.specs.Cases.{live_clock}
use Rattle.gptp_faults.proofs.CaseLemmas.{none_through, some_through}
use Rattle.gptp_faults.proofs.cases.push_system.Goals as goal

pub returns-in-Some : goal.returns-in-Some
returns-in-Some c =
    let events = c.args.document.now.events in let systems = c.args.document.now.network.systems in
    let place = c.args.place in let live = c.in-Some.live in
    let raw = sym c.live_after.ensures ∙ c.in-Some.is in
    let lives : option_and_then (live_after events) (slice_get systems place) ≡ Some live =
    rw (c.events.ensures, c.network.ensures) at raw in
    on_ok_weaker c.push_live.result (λ pushed.
    pushed ∙ ap (λ (cs : List ℕ). cs ++ live_clock live ∷ []) c.requires
    ∙ sym (some_through live_clock (live_after events) systems place live lives)) c.push_live.ensures

pub returns-in-None : goal.returns-in-None
returns-in-None c =
    let events = c.args.document.now.events in let systems = c.args.document.now.network.systems in
    let raw = sym c.live_after.ensures ∙ c.in-None.is in
    let fails : option_and_then (live_after events) (slice_get systems c.args.place) ≡ None =
    rw (c.events.ensures, c.network.ensures) at raw in
    c.requires ∙ sym (none_through live_clock (live_after events) systems c.args.place fails)
