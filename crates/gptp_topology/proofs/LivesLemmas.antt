-- Whether the systems at the ends of a link live after events.
use Rattle.std.proofs.Common.{◌≡◌, ℕ, Bool, true, false, ◌==◌, ◌&&◌, cond, List, [], ◌∷◌, refl, sym, ap, ◌∙◌}
use Rattle.std.proofs.lemmas.Bool.{and_from, and_parts, eq-eqb, eqb-true}
use Rattle.gptp_lists.proofs.SystemSpecLemmas.{In-slice_get}
use Rattle.gptp_roles.specs.Selection.{clock_of}
use Rattle.gptp_vector.specs.declared.port.PortId.{PortId}
use Rattle.gptp_scenario.specs.Change.{standing, system_acted, system_after, system_changed, system_stands, with_live, with_priority1}
use Rattle.gptp_scenario.specs.InUse.{lives}
use Rattle.gptp_scenario.specs.Network.{IsPort}
use Rattle.gptp_scenario.specs.declared.change.Act.{Act}
use Rattle.gptp_scenario.specs.declared.change.Act.TheVariants as acts
use Rattle.gptp_scenario.specs.declared.change.Change.{Change}
use Rattle.gptp_scenario.specs.declared.change.Change.TheVariants as changes
use Rattle.gptp_scenario.specs.declared.change.Timed.{Timed}
use Rattle.gptp_scenario.specs.declared.network.SystemSpec.{SystemSpec}
use Rattle.gptp_network.proofs.PassLemmas.{passes, passes_at, same_tests}
use Rattle.gptp_topology.specs.Course.{lives_acted}

-- whether a system lives after a change stands by whether it lived before, whatever its identity
set_alike : (test live : Bool) (s : _)
    → (cond test (with_live live s) s).live
    ≡ (cond test (with_live live (record { identity = 0; live = s.live }))
    (record { identity = 0; live = s.live })).live
set_alike true live s = refl
set_alike false live s = refl

valued_alike : (test : Bool) (value : ℕ) (s : _)
    → (cond test (with_priority1 value s) s).live
    ≡ (cond test (with_priority1 value (record { identity = 0; live = s.live }))
    (record { identity = 0; live = s.live })).live
valued_alike true value s = refl
valued_alike false value s = refl

changed_alike : (change : Change) (own : ℕ) (s : _)
    → (system_changed change own s).live
    ≡ (system_changed change own (record { identity = 0; live = s.live })).live
changed_alike (changes.LinkDown clock port) own s = refl
changed_alike (changes.LinkUp clock port) own s = refl
changed_alike (changes.LinkSet clock port least greatest loss) own s = refl
changed_alike (changes.Fail clock) own s = set_alike (clock == own) false s
changed_alike (changes.Recover clock) own s = set_alike (clock == own) true s
changed_alike (changes.Priority1 clock value) own s = valued_alike (clock == own) value s
changed_alike (changes.Inject clock port octets) own s = refl

pub acted_alike : (act : Act) (own : ℕ) (s : _) → (system_acted act own s).live ≡ lives_acted act own s.live
acted_alike (acts.Deliver link direction) own s = refl
acted_alike (acts.Expire clock timer) own s = refl
acted_alike (acts.Change change) own s = changed_alike change own s

-- whether a system lives after events, by whether it did before
abbrev pub lives_after : List Timed → ℕ → Bool → Bool
lives_after [] own lives = lives
lives_after (t ∷ ts) own lives = lives_after ts own (lives_acted t.act own lives)

stands_lives : (events : List Timed) (own : ℕ) (s : _)
    → (system_stands events own s).live ≡ lives_after events own s.live
stands_lives [] own s = refl
stands_lives (t ∷ ts) own s =
    stands_lives ts own (system_acted t.act own s) ∙ ap (lives_after ts own) (acted_alike t.act own s)

pub member_lives : (events : List Timed) (m : SystemSpec)
    → lives_after events (clock_of m.identity) true ≡ (system_after events m).live
member_lives events m = sym (stands_lives events (clock_of m.identity) (standing m))

-- the system at a port of the network lives where one with its clock does
pub lives_is : (members : List SystemSpec) (events : List Timed) (p : PortId) → IsPort members p
    → lives_after events p.clock true ≡ lives members events p.clock
lives_is members events p port =
    same_tests (lives_after events p.clock true) (lives members events p.clock)
    (λ is. passes_at (λ m. clock_of m.identity == p.clock && (system_after events m).live) members port.system
    (In-slice_get port.system members port.place port.there)
    (and_from (clock_of port.system.identity == p.clock) (system_after events port.system).live
    (eq-eqb (clock_of port.system.identity) p.clock port.clock)
    (sym (member_lives events port.system) ∙ ap (λ own. lives_after events own true) port.clock ∙ is)))
    (λ is. let (m, member, both) =
    passes (λ m. clock_of m.identity == p.clock && (system_after events m).live) members is in
    let (named, live) = and_parts (clock_of m.identity == p.clock) (system_after events m).live both in
    ap (λ own. lives_after events own true) (sym (eqb-true (clock_of m.identity) p.clock named))
    ∙ member_lives events m ∙ live)
