-- What is found at the links, one after another, is what is defined of all.
use Rattle.std.proofs.Common.{◌≡◌, ◌+◌, ℕ, List, [], ◌∷◌, ◌++◌, None, append_assoc, drop, map, refl, sym, ap, subst, ◌∙◌, inl, inr, ◌↔◌}
use Rattle.std.specs.List.{AllByRecursion, flat_map}
use Rattle.std.proofs.lemmas.List.{append-nil}
use Rattle.gptp_lists.specs.Members.{In}
use Rattle.gptp_setup.specs.SettlingParams.{lapse_span}
use Rattle.gptp_scenario.specs.Network.{IsNetwork}
use Rattle.gptp_scenario.specs.declared.network.LinkSpec.{LinkSpec}
use Rattle.gptp_network.specs.Document.{DocumentState}
use Rattle.gptp_network.specs.Events.{AreEvents}
use Rattle.gptp_topology.specs.Course.{cable_of, cable_wire}
use Rattle.gptp_topology.specs.Times.{AreCalmTimes, IsCalmTime, late_at}
use Rattle.gptp_topology.specs.declared.course.Cable.{Cable}
use Rattle.gptp_topology.specs.declared.times.CalmTime.{CalmTime}
use Rattle.gptp_lint.specs.Components.{AreComponents}
use Rattle.gptp_lint.specs.Findings.{AreFound, NoneIsLate}
use Rattle.gptp_lint.specs.Trouble.{longs_of, lossies_of}
use Rattle.gptp_lint.specs.Unlinked.{AreUnlinked}
use Rattle.gptp_lint.specs.declared.findings.Findings.{Findings}
use Rattle.gptp_lint.proofs.QuietLemmas.{quiet}

-- ---- one link more

wires_back : (ws : List LinkSpec) → map cable_wire (map cable_of ws) ≡ ws
wires_back [] = refl
wires_back (w ∷ ws) = ap (λ vs. w ∷ vs) (wires_back ws)

-- those before, and those of the links that are left, are all
pub told_more : {X : Type 0} (f : LinkSpec → List X) (before after all : List X) (cable : Cable) (cables : List Cable)
    (place : ℕ) → drop place cables ≡ cable ∷ drop (place + 1) cables
    → before ++ flat_map f (map cable_wire (drop place cables)) ≡ all
    → after ≡ before ++ flat_map f (cable_wire cable ∷ [])
    → after ++ flat_map f (map cable_wire (drop (place + 1) cables)) ≡ all
told_more f before after all cable cables place here so_far is =
    let rest = map cable_wire (drop (place + 1) cables) in
    ap (λ xs. xs ++ flat_map f rest) (is ∙ ap (λ ys. before ++ ys) (append-nil (f (cable_wire cable))))
    ∙ append_assoc before (f (cable_wire cable)) (flat_map f rest)
    ∙ ap (λ cs. before ++ flat_map f (map cable_wire cs)) (sym here) ∙ so_far

-- ---- all times

-- at none of the times Sync is late exactly where it is at none of the document
none_late : (d : DocumentState) (times : List CalmTime) → AllByRecursion (IsCalmTime d) times
    → NoneIsLate times ↔ ((at : ℕ) → In at (map (λ (t : CalmTime). t.at) times) → late_at d at ≡ None)
none_late d [] each = (λ none at member. absurd member, λ none. tt)
none_late d (t ∷ times) (here, more) =
    let rest = none_late d times more in (
      λ none at member. elim member [
        | inl same ↦ ap (late_at d) same ∙ sym here.needs ∙ none.0
        | inr among ↦ rest.0 none.1 at among
      ],
      λ none. (here.needs ∙ none t.at (inl refl), rest.1 (λ at among. none at (inr among))),
    )

-- ---- all links

pub found : (d : DocumentState) (f : Findings) (cables : List Cable) → IsNetwork d.network
    → AreEvents d.network d.events → cables ≡ map cable_of d.network.links
    → f.long.items ≡ longs_of d (map cable_wire cables) → f.lossy.items ≡ lossies_of d (map cable_wire cables)
    → AreUnlinked d.network f.unlinked.items → AreComponents d f.components → AreCalmTimes d f.calm.items
    → f.limit ≡ lapse_span d.network.params → AreFound d f
found d f cables network events are long lossy unlinked components calm limit =
    let whole : map cable_wire cables ≡ d.network.links = ap (map cable_wire) are ∙ wires_back d.network.links in
    let longs : f.long.items ≡ longs_of d d.network.links = long ∙ ap (longs_of d) whole in
    let lossies : f.lossy.items ≡ lossies_of d d.network.links = lossy ∙ ap (lossies_of d) whole in
    let law = quiet d network events.in_order in
    let late = subst (λ times. NoneIsLate f.calm.items ↔ ((at : ℕ) → In at times → late_at d at ≡ None))
    calm.times_are (none_late d f.calm.items calm.each) in
    record {
      long = longs;
      lossy = lossies;
      unlinked = unlinked;
      components = components;
      calm = calm;
      limit = limit;
      quiet = (
        λ none. law.0 (sym longs ∙ none.0, sym lossies ∙ none.1, late.0 none.2),
        λ always. let none = law.1 always in (longs ∙ none.0, lossies ∙ none.1, late.1 none.2),
      );
    }
