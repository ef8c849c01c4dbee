-- A system's answer to a touch is an answer of the machine.
use Rattle.std.proofs.Common.{◌≡◌, ◌⊎◌, ℕ, suc, ℤ, Bool, List, map, Some, slice_get, refl, sym, ap, subst, ◌∙◌, inl, inr}
use Rattle.std.proofs.lemmas.Option.{none-some, same_Some}
use Rattle.gptp_lists.specs.Members.{In}
use Rattle.gptp_graph.specs.Order.{IsLower}
use Rattle.gptp_lists.proofs.SystemSpecLemmas.{In-map, from_map}
use Rattle.gptp_vector.specs.declared.port.PortId.{PortId}
use Rattle.gptp_vector.specs.Vector.{master_of}
use Rattle.gptp_messages.specs.declared.announce.AnnounceView.{AnnounceView}
use Rattle.gptp_receipt.specs.declared.held.Held.{Held}
use Rattle.gptp_receipt.specs.declared.held.Held.TheVariants as helds
use Rattle.gptp_receipt.specs.declared.held.Heard.{Heard}
use Rattle.gptp_receipt.specs.declared.held.Heard.TheVariants.{Superior, Repeated, Inferior}
use Rattle.gptp_receipt.specs.declared.held.Reception.{Reception}
use Rattle.gptp_receipt.specs.Held.{comparison, held_after, received, reception}
use Rattle.gptp_system.specs.declared.port.Port.{Port}
use Rattle.gptp_system.specs.declared.sending.Sending.{Sending}
use Rattle.gptp_system.specs.Facts.{AreHeld}
use Rattle.gptp_setup.specs.Intervals.{interval_of}
use Rattle.gptp_setup.specs.SettlingParams.{span_by}
use Rattle.gptp_system.specs.State.{SystemState, clock}
use Rattle.gptp_system.specs.Touch.{Touch, Hear, Tick, Grow, Enable, Disable, Other, HeardAs, PortHoldsInTouch}
use Rattle.gptp_system.specs.Reacts.{IsAnnounce, HoldsOrIsDisabled, PortEnds, PortReacts, Reacts, PortAnnounces}
use Rattle.gptp_bmca_machine.specs.Frame.{Announce, Send}
use Rattle.gptp_bmca_machine.specs.Station.{Reception as SeenReception, Mine, Received, Port as SeenPort}
use Rattle.gptp_bmca_machine.specs.Reacts.{BecomesMaster, KeepsHeld as SeenIsKept, IsMasterAt, IsOwn, PortStep, StationReacts as SeenReacts, AnnouncesNow as SeenTells}
use Rattle.gptp_bmca_machine.specs.Vectors.{message, master}
use Rattle.gptp_bmca_machine.proofs.PlaceLemmas.{received_injective}
use Rattle.gptp_invariants.specs.ChoiceView.{held_view, port_view, ports_view, reception_view, says_announce, send_view, span_at, system_view, touch_view}
use Rattle.gptp_invariants.proofs.ChoiceMidLemmas.{ReceivedAt, mid_seen, parts_of, seen_on}
use Rattle.gptp_invariants.proofs.WorldOrderLemmas.{lower_parts}
use Rattle.gptp_invariants.proofs.ChoicePlaceLemmas.{IsPortAt, port_from, port_there}

-- ---- what is received after a touch

-- what a property of the old reception and of what is heard says of the new one
heard_received : (P : Reception → Type 0) (c n now : ℕ) (a : AnnounceView) (h mid : Held)
    → ((r : Reception) → received h ≡ Some r → P r)
    → P (reception a (record { clock = c; port = n }) now) → HeardAs (record { clock = c; port = n }) a now h mid
    → (r : Reception) → received mid ≡ Some r → P r
heard_received P c n now a h mid old new (inl (qualified, is)) r got =
    by (comparison h own a) (ap received (sym is) ∙ got)
  where
    own : PortId
    own = record { clock = c; port = n }

    by : (verdict : Heard) → received (held_after verdict h (reception a own now)) ≡ Some r → P r
    by Superior same = subst P (same_Some (reception a own now) r same) new
    by Repeated same = subst P (same_Some (reception a own now) r same) new
    by Inferior same = old r same
heard_received P c n now a h mid old new (inr (unqualified, same)) r got = old r (ap received (sym same) ∙ got)

-- A touch leaves what was received, or drops it, or leaves what is heard.
pub mid_received : (P : Reception → Type 0) (c n now : ℕ) (touch : Touch) (h mid : Held)
    → ((r : Reception) → received h ≡ Some r → P r)
    → ((a : AnnounceView) → touch ≡ Hear n a → P (reception a (record { clock = c; port = n }) now))
    → PortHoldsInTouch c n touch now h mid → (r : Reception) → received mid ≡ Some r → P r
mid_received P c n now (Hear p a) h mid old new (inl (here, on, heard)) r got =
    heard_received P c n now a h mid old (new a (ap (λ k. Hear k a) (sym here))) heard r got
mid_received P c n now (Hear p a) h mid old new (inr (elsewhere, same)) r got = old r (ap received (sym same) ∙ got)
mid_received P c n now (Tick p) h mid old new same r got = old r (ap received (sym same) ∙ got)
mid_received P c n now (Grow p) h mid old new (inl (here, is)) r got =
    absurd (none-some r (ap received (sym is) ∙ got))
mid_received P c n now (Grow p) h mid old new (inr (elsewhere, same)) r got = old r (ap received (sym same) ∙ got)
mid_received P c n now (Enable p) h mid old new (inl (here, off, is)) r got =
    absurd (none-some r (ap received (sym is) ∙ got))
mid_received P c n now (Enable p) h mid old new (inr (elsewhere, same)) r got = old r (ap received (sym same) ∙ got)
mid_received P c n now (Disable p) h mid old new (inl (here, is)) r got =
    absurd (none-some r (ap received (sym is) ∙ got))
mid_received P c n now (Disable p) h mid old new (inr (elsewhere, same)) r got = old r (ap received (sym same) ∙ got)
mid_received P c n now Other h mid old new same r got = old r (ap received (sym same) ∙ got)

-- ---- one port

-- what is seen as received is so
pub received_back : (keep : ℤ → ℕ) (h : Held) (x : SeenReception) → held_view keep h ≡ Received x
    → (r : Reception) × (received h ≡ Some r) × (x ≡ reception_view keep r)
received_back keep helds.Disabled x e = absurd cc
received_back keep helds.Aged x e = absurd cc
received_back keep (helds.Mine root steps) x e = absurd cc
received_back keep (helds.Received r) x e = (r, refl, sym (received_injective (reception_view keep r) x e))

seen_kept : (keep : ℤ → ℕ) (h : Held) → HoldsOrIsDisabled h → SeenIsKept (held_view keep h)
seen_kept keep helds.Disabled kept = tt
seen_kept keep helds.Aged (inl off) = absurd cc
seen_kept keep helds.Aged (inr (r, is)) = none-some r is
seen_kept keep (helds.Mine root steps) (inl off) = absurd cc
seen_kept keep (helds.Mine root steps) (inr (r, is)) = none-some r is
seen_kept keep (helds.Received r) kept = tt

-- each Announce that is sent says something
abbrev pub AreRead : SystemState → List Sending → Type 0
AreRead s sends = (x : Sending) → In x sends → IsAnnounce x.body
    → (a : Announce) × says_announce (send_view s x).octets a

module _ (s' : SystemState) (sends : List Sending) (read : AreRead s' sends) where
  tells_seen : (keep : ℤ → ℕ) (n now : ℕ) (h h' : Held) (q q' : Port) → PortAnnounces n now q q' sends
      → SeenTells says_announce n now (port_view keep h q) (port_view keep h' q') (map (send_view s') sends)
  tells_seen keep n now h h' q q' k = record { sent = sent k.sent; timer = k.timer }
    where
      sent : (x : Sending) × In x sends × (x.port ≡ n) × IsAnnounce x.body
          → (y : Send) × In y (map (send_view s') sends) × (y.port ≡ n) × ((a : Announce) × says_announce y.octets a)
      sent (x, among, here, announce) =
          (send_view s' x, In-map (send_view s') x sends among, here, read x among announce)

  module _ (keep : ℤ → ℕ) (c n now root steps : ℕ) (touch : Touch) (h h' : Held) (q q' : Port)
      (at : ReceivedAt n h) (k : PortReacts c n touch now root steps h h' q q' sends) where
    mid_at : ReceivedAt n k.mid
    mid_at =
        mid_received (λ (r : Reception). r.vector.receiver ≡ n) c n now touch h k.mid at (λ a heard. refl) k.before

    ends_seen : PortEnds c n now root steps k.mid h' q q' sends
        → (((port_view keep h' q').held ≡ held_view keep k.mid) × SeenIsKept (held_view keep k.mid))
        ⊎ BecomesMaster says_announce c n now root steps (held_view keep k.mid) (port_view keep h q)
        (port_view keep h' q')
        (map (send_view s') sends)
    ends_seen (inl (same, kept)) = inl (ap (held_view keep) same, seen_kept keep k.mid kept)
    ends_seen (inr m) = inr (record {
      mine = ap (held_view keep) m.mine;
      on = seen_on keep k.mid m.on;
      is_lower = λ x holds. is_lower x (received_back keep k.mid x holds);
      timing = timing m.timing;
    })
      where
        is_lower : (x : SeenReception) → (r : Reception) × (received k.mid ≡ Some r) × (x ≡ reception_view keep r)
            → IsLower (master root steps c n) (message x.said n)
        is_lower x (r, got, is) =
            let here = parts_of n keep r (mid_at r got) in
            subst (IsLower (master root steps c n)) (here ∙ ap (λ (y : SeenReception). message y.said n) (sym is))
            (lower_parts (master_of root steps c n) r.vector (m.is_lower r got))

        timing : ((k.mid ≡ helds.Mine root steps) × (q'.announce ≡ q.announce)) ⊎ PortAnnounces n now q q' sends
            → ((held_view keep k.mid ≡ Mine root steps) × (q'.announce ≡ q.announce))
            ⊎ SeenTells says_announce n now (port_view keep h q) (port_view keep h' q') (map (send_view s') sends)
        timing (inl (mine, same)) = inl (ap (held_view keep) mine, same)
        timing (inr tells) = inr (tells_seen keep n now h h' q q' tells)

    pub port_seen : PortStep says_announce c n now (touch_view touch) root steps (port_view keep h q)
        (port_view keep h' q')
        (map (send_view s') sends)
    port_seen = record {
      interval = ap interval_of k.log;
      mid = held_view keep k.mid;
      before = mid_seen c n keep now touch h k.mid at k.before;
      after = ends_seen k.after;
    }

-- ---- all ports

-- what is sent says an Announce only where it is one, and the system's own
abbrev pub AreOwn : Bool → SystemState → List Sending → Type 0
AreOwn live s sends = (x : Sending) (a : Announce) → In x sends → says_announce (send_view s x).octets a
    → IsOwn (system_view live s) x.port a × IsMasterAt (system_view live s) x.port

module _ (live : Bool) (s s' : SystemState) (touch : Touch) (now : ℕ) (sends : List Sending) (held : AreHeld s)
    (params : s'.params ≡ s.params) (largest : s'.largest ≡ s.largest) (read : AreRead s' sends)
    (are_own : AreOwn live s' sends) (k : Reacts s touch now s' sends) where
  -- what was received stays as long
  keeps : span_at s' ≡ span_at s
  keeps = λ i log. span_by (params i).timeout (largest i) log

  place_seen : (i : ℕ) (seen : SeenPort) → slice_get (ports_view (span_at s') s'.held s'.ports) i ≡ Some seen
      → (q : SeenPort) × (slice_get (ports_view (span_at s) s.held s.ports) i ≡ Some q)
      × PortStep says_announce (clock s) (suc i) now (touch_view touch) s'.root s'.steps q seen
      (map (send_view s') sends)
  place_seen i seen there = go (port_from (span_at s') s'.held s'.ports i seen there)
    where
      go : IsPortAt (span_at s') s'.held s'.ports i seen
          → (q : SeenPort) × (slice_get (ports_view (span_at s) s.held s.ports) i ≡ Some q)
          × PortStep says_announce (clock s) (suc i) now (touch_view touch) s'.root s'.steps q seen
          (map (send_view s') sends)
      go p =
          let r = k.ports i p.held p.port p.held_there p.port_there in
          let at : ReceivedAt (suc i) r.held = λ x got. (held i r.held r.held_there x got).receiver in
          let step = port_seen s' sends read (span_at s) (clock s) (suc i) now s'.root s'.steps touch r.held p.held
          r.port p.port at r.reacts in (
            port_view (span_at s) r.held r.port,
            port_there (span_at s) s.held s.ports i r.held r.port r.held_there r.port_there,
            subst
                (λ x. PortStep says_announce (clock s) (suc i) now (touch_view touch) s'.root s'.steps
                (port_view (span_at s) r.held r.port) x (map (send_view s') sends))
                (ap (λ x. port_view x p.held p.port) (sym keeps) ∙ sym p.is) step,
          )

  tells_own : (x : Send) (a : Announce) → In x (map (send_view s') sends) → says_announce x.octets a
      → IsOwn (system_view live s') x.port a × IsMasterAt (system_view live s') x.port
  tells_own x a member says_it = go (from_map (send_view s') x sends member)
    where
      go : (y : Sending) × In y sends × (send_view s' y ≡ x)
          → IsOwn (system_view live s') x.port a × IsMasterAt (system_view live s') x.port
      go (y, among, is) =
          subst
          (λ (z : Send). IsOwn (system_view live s') z.port a × IsMasterAt (system_view live s') z.port) is
          (are_own y a among (subst (λ (z : Send). says_announce z.octets a) (sym is) says_it))

  pub reacts_seen : SeenReacts says_announce (system_view live s) (touch_view touch) now (system_view live s')
      (map (send_view s') sends)
  reacts_seen = record { clock = k.same_clock; live = refl; ports = place_seen; tells = tells_own }
