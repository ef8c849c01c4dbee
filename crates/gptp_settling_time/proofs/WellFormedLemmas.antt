-- The network of a document that can be played is well formed after any of its events.
use Rattle.std.proofs.Common.{◌<◌, ◌^◌, ℕ, true, List, [], ◌∷◌, refl, sym, subst, inl, inr}
use Rattle.gptp_graph.specs.Snapshot.{IsWellFormed, Snapshot, System}
use Rattle.gptp_invariants.specs.WorldEncodableLaws.{SetsAnOctet}
use Rattle.gptp_lists.specs.Members.{In}
use Rattle.gptp_lists.proofs.SystemSpecLemmas.{slice_get-In}
use Rattle.gptp_network.specs.Document.{DocumentState}
use Rattle.gptp_network.specs.Snapshot.{StandsAfter}
use Rattle.gptp_network.proofs.MeantLemmas.{SetsOctets, stands_below}
use Rattle.gptp_network.proofs.SnapshotLemmas.{member_there, stands_well}
use Rattle.gptp_roles.specs.Selection.{clock_of}
use Rattle.gptp_scenario.specs.Change.{standing, system_acted, system_stands, with_live}
use Rattle.gptp_scenario.specs.declared.change.Act.{Act}
use Rattle.gptp_scenario.specs.declared.change.Act.TheVariants as acts
use Rattle.gptp_scenario.specs.declared.change.Change.TheVariants as changes
use Rattle.gptp_scenario.specs.declared.change.Timed.{Timed}
use Rattle.gptp_theorem.specs.PlayedLaws.{IsPlayable}

-- an act that sets octets leaves an identity of fourteen of them
one_below : (act : Act) → SetsOctets act → (own : ℕ) (s : _) → (with_live true s).identity < 2 ^ 112
    → (system_acted act own s).identity < 2 ^ 112
one_below act sets own s below =
    let timed : Timed = record { at = 0; act = act } in
    stands_below (timed ∷ []) (λ t member. elim member [
      | inl same ↦ subst (λ (u : Timed). SetsOctets u.act) (sym same) sets
      | inr none ↦ absurd none
    ]) own s below

-- a frame changes none
acted_below : (act : Act) → SetsAnOctet act → (own : ℕ) (s : _) → (with_live true s).identity < 2 ^ 112
    → (system_acted act own s).identity < 2 ^ 112
acted_below (acts.Deliver link direction) sets own s below = below
acted_below (acts.Expire name timer) sets own s below = below
acted_below (acts.Change (changes.LinkDown name port)) sets own s below = below
acted_below (acts.Change (changes.LinkUp name port)) sets own s below = below
acted_below (acts.Change (changes.LinkSet name port least greatest loss)) sets own s below = below
acted_below (acts.Change (changes.Fail name)) sets own s below =
    one_below (acts.Change (changes.Fail name)) tt own s below
acted_below (acts.Change (changes.Recover name)) sets own s below =
    one_below (acts.Change (changes.Recover name)) tt own s below
acted_below (acts.Change (changes.Priority1 name value)) sets own s below =
    one_below (acts.Change (changes.Priority1 name value)) sets own s below
acted_below (acts.Change (changes.Inject name port octets)) sets own s below = below

all_below : (events : List Timed) → ((t : Timed) → In t events → SetsAnOctet t.act) → (own : ℕ) (s : _)
    → (with_live true s).identity < 2 ^ 112 → (system_stands events own s).identity < 2 ^ 112
all_below [] sets own s below = below
all_below (t ∷ ts) sets own s below =
    all_below ts (λ u member. sets u (inr member)) own (system_acted t.act own s)
    (acted_below t.act (sets t (inl refl)) own s below)

pub after_well : (d : DocumentState) → IsPlayable d → (events : List Timed)
    → ((t : Timed) → In t events → In t d.events) → (g : Snapshot) → StandsAfter d.network events g → IsWellFormed g
after_well d playable events among g stands =
    let network = playable.network in
    stands_well d.network network events g stands (λ s live.
    let (m, at, is) = member_there d.network network events g stands s live in
    let (place, there) = slice_get-In m d.network.systems at in
    subst (λ (t : System). t.identity < 2 ^ 112) is
    (all_below events (λ t member. let (number, is_event) = slice_get-In t d.events (among t member) in
    playable.octets number t is_event) (clock_of m.identity) (standing m) (network.identities place m there)))
