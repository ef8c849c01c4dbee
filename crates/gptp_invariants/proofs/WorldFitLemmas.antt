-- What a system holds and follows fits its octets, and stays so.
use Rattle.std.proofs.Common.{◌≡◌, ◌⊎◌, ◌<◌, ◌≤◌, ◌^◌, ◌++◌, ℕ, suc, List, [], ◌∷◌, length, Some, refl, sym, ap, subst, ◌∙◌, inl, inr, arith}
use Rattle.std.specs.List.{AllByRecursion}
use Rattle.std.proofs.lemmas.List.{length-append}
use Rattle.std.proofs.lemmas.Nat.{mod_below}
use Rattle.std.proofs.lemmas.Option.{none-some, slice_get_within}
use Rattle.gptp_lists.specs.Members.{In}
use Rattle.gptp_lists.proofs.SystemSpecLemmas.{In-parts}
use Rattle.gptp_messages.specs.declared.announce.AnnounceView.{AnnounceView}
use Rattle.gptp_receipt.specs.declared.held.Held.{Held}
use Rattle.gptp_receipt.specs.declared.held.Reception.{Reception}
use Rattle.gptp_receipt.specs.Held.{received}
use Rattle.gptp_system.specs.declared.port.Port.{Port}
use Rattle.gptp_system.specs.declared.sending.Sending.{Sending}
use Rattle.gptp_system.specs.Facts.{AreHeld, AreShown, IsAtRest}
use Rattle.gptp_system.specs.Follows.{SystemIsRoot, SystemFollowsPort}
use Rattle.gptp_system.specs.Reacts.{PlaceReacts, PortEnds, Reacts}
use Rattle.gptp_system.specs.State.{SystemState, clock, trace}
use Rattle.gptp_system.specs.Touch.{Touch, Hear}
use Rattle.gptp_system.proofs.FollowLemmas.{follows}
use Rattle.gptp_lists.proofs.PlaceLemmas.{member_there}
use Rattle.gptp_invariants.specs.WorldEncodable.{AreClocks, ReceptionFits, SaysWhatFits, SystemFits}
use Rattle.gptp_invariants.proofs.ChoiceReactLemmas.{mid_received}

-- ---- steps

-- what is heard fits
abbrev pub HeardFits : Touch → Type 0
HeardFits touch = (p : ℕ) (a : AnnounceView) → touch ≡ Hear p a → SaysWhatFits a

module _ (s s' : SystemState) (touch : Touch) (now : ℕ) (sends : List Sending) (fits : SystemFits s)
    (heard : HeardFits touch) (k : Reacts s touch now s' sends) where
  place_fits : (i : ℕ) (h' : Held) (q' : Port) → PlaceReacts s touch now s' sends i h' q' → (r : Reception)
      → received h' ≡ Some r → ReceptionFits r
  place_fits i h' q' p r got = by p.reacts.after
    where
      mid_fits : (x : Reception) → received p.reacts.mid ≡ Some x → ReceptionFits x
      mid_fits =
          mid_received ReceptionFits (clock s) (suc i) now touch p.held p.reacts.mid (fits.held i p.held p.held_there)
          (λ a is. let said = heard (suc i) a is in record { root = said.root; path = said.path }) p.reacts.before

      by : PortEnds (clock s) (suc i) now s'.root s'.steps p.reacts.mid h' p.port q' sends → ReceptionFits r
      by (inl (same, kept)) = mid_fits r (ap received (sym same) ∙ got)
      by (inr m) = absurd (none-some r (ap received (sym m.mine) ∙ got))

  -- a system that answers fits what it heard
  pub reacts_fit : s'.identity < 2 ^ 112 → AreShown s' → SystemFits s'
  reacts_fit identity shown = record {
    identity = identity;
    held = λ i h' stands.
        let inside = slice_get_within s'.held i h' stands in
        let places = shown.places in
        let (q', there) = member_there s'.ports i (omega arith) in
        place_fits i h' q' (k.ports i h' q' stands there);
  }

-- ---- what is followed

-- a root and steps that fit, and a trace of clocks
pub record TellsWhatFits (s : SystemState) : Type 0 where
  pub root : s.root < 2 ^ 112
  pub steps : s.steps ≤ 255
  pub path : AreClocks (trace s)
  pub room : length (trace s) ≤ 256

pub clock_fits : (s : SystemState) → clock s < 2 ^ 64
clock_fits s = mod_below s.identity (2 ^ 64) (omega arith)

one_more : (path : List ℕ) (c : ℕ) → AreClocks path → c < 2 ^ 64 → AreClocks (path ++ c ∷ [])
one_more path c all fits x member = by (In-parts x path (c ∷ []) member)
  where
    by : In x path ⊎ In x (c ∷ []) → x < 2 ^ 64
    by (inl before) = all x before
    by (inr (inl same)) = subst (λ y. y < 2 ^ 64) (sym same) fits
    by (inr (inr none)) = absurd none

-- what a system at rest follows fits
pub rest_fits : (s : SystemState) → SystemFits s → AreHeld s → IsAtRest s → TellsWhatFits s
rest_fits s fits held rest = by (follows s held rest)
  where
    by : SystemIsRoot s ⊎ SystemFollowsPort s → TellsWhatFits s
    by (inl k) = record {
      root = subst (λ n. n < 2 ^ 112) (sym k.root) fits.identity;
      steps = let none = k.steps in omega arith;
      path = subst AreClocks (sym k.path) (one_more [] (clock s) (λ c member. absurd member) (clock_fits s));
      room = let long : length (trace s) ≡ 1 = ap length k.path in omega arith;
    }
    by (inr k) =
        let whole = fits.held k.place k.held k.there k.reception k.holds in
        let came = held k.place k.held k.there k.reception k.holds in
        let short = came.short in
        let near = came.near in
        let farther = k.steps in
        let size = length-append k.reception.path (clock s ∷ []) in
        let long : length (trace s) ≡ length (k.reception.path ++ clock s ∷ []) = ap length k.path in
        record {
          root = subst (λ n. n < 2 ^ 112) (sym k.root) whole.root;
          steps = omega arith;
          path = subst AreClocks (sym k.path) (one_more k.reception.path (clock s) whole.path (clock_fits s));
          room = omega arith;
        }

pub all_clocks : (path : List ℕ) → AreClocks path → AllByRecursion (λ c. c < 2 ^ 64) path
all_clocks [] all = tt
all_clocks (c ∷ path) all = (all c (inl refl), all_clocks path (λ x member. all x (inr member)))
