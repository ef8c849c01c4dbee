-- What is compared of a system after an act tells of all that is shown of it.
use Rattle.std.proofs.Common.{◌≡◌, ◌⊎◌, ◌+◌, ◌%◌, ◌==◌, ◌&&◌, ℕ, zero, suc, not, Bool, true, false, List, [], ◌∷◌, map, Option, Some, None, if◌then◌else◌, option_map, is_some, slice_get, slice_set, inl, inr, refl, sym, ap, subst, ◌∙◌, arith}
use Rattle.std.specs.Option.{option_map_or}
use Rattle.std.proofs.lemmas.Bool.Decides.{nat_tests}
use Rattle.std.proofs.lemmas.Option.{same_Some}
use Rattle.gptp_model.specs.Act.{in_state, Calls, Hears, TimerRunsOut}
use Rattle.gptp_model.specs.Acts.{AtSystem, Delivery}
use Rattle.gptp_model.specs.World.{Channel, WorldState, receiver}
use Rattle.gptp_model.specs.declared.done.Done.TheVariants.{Heard}
use Rattle.gptp_model.specs.declared.station.Station.{Station}
use Rattle.gptp_model.proofs.SteadyLemmas.{same_clock}
use Rattle.gptp_links.specs.Fate.{Draw}
use Rattle.gptp_links.specs.declared.link.Direction.{Direction}
use Rattle.gptp_lists.proofs.PlaceLemmas.{same_place}
use Rattle.gptp_messages.specs.declared.announce.AnnounceView.{AnnounceView}
use Rattle.gptp_messages.specs.declared.follow_up.FollowUp.{FollowUp}
use Rattle.gptp_messages.specs.declared.message.Message.{Message}
use Rattle.gptp_messages.specs.declared.message.Message.TheVariants as messages
use Rattle.gptp_pdelay.specs.Peer.{PeerState, after_interval, after_follow_up, is_capable}
use Rattle.gptp_receipt.specs.declared.held.Held.{Held}
use Rattle.gptp_receipt.specs.declared.held.Held.TheVariants as helds
use Rattle.gptp_roles.specs.Choice.{slave_port}
use Rattle.gptp_roles.specs.Role.{each_from, each_port, held_after_selection}
use Rattle.gptp_setup.specs.SettlingParams.{has_sync_timeout}
use Rattle.gptp_setup.specs.declared.timer.Timer.{Timer}
use Rattle.gptp_setup.specs.declared.timer.Timer.TheVariants as timers
use Rattle.gptp_system.specs.Announcing.{HearsOff, HearsQualified, HearsUnqualified}
use Rattle.gptp_system.specs.Facts.{IsAtRest}
use Rattle.gptp_system.specs.Input.{Input, Expires as TimerExpires, Frame as FrameHeard, Steps}
use Rattle.gptp_system.specs.Measuring.{asking, is_turned, turned, Turns, TurnsAndAsks, TurnsIf}
use Rattle.gptp_system.specs.Selection.{choosing, follows_on, fresh_ports, same_number, SelectsIf}
use Rattle.gptp_system.specs.Start.{role_at, role_by}
use Rattle.gptp_system.specs.State.{SystemState, change, change_at, clock, held_at, is_capable_at, number, on_held, with_peer}
use Rattle.gptp_system.specs.Steps.{Expires, HearsFrame, HearsMessage}
use Rattle.gptp_system.specs.Syncing.{delay_at, root_rate_at, said_on, HearsFollowUp, HearsFollowUpIf, KnowsBy, KnowsIf}
use Rattle.gptp_system.specs.declared.answer.Answer.{Answer}
use Rattle.gptp_system.specs.declared.port.Port.{Port}
use Rattle.gptp_system.specs.declared.sending.Sending.{Sending}
use Rattle.gptp_system.proofs.PortLemmas.{all_announced-map}
use Rattle.gptp_system.proofs.TypeLemmas.{type_is, type_number}
use Rattle.gptp_vector.specs.declared.vector.Vector.{Vector}
use Rattle.gptp_timeline.specs.Compared.{compared_by_expiry, compared_by_frame, compared_by_type, is_choice_as, is_known_as, left_by, left_where, same_port_at}
use Rattle.gptp_timeline.specs.Ports.{shown_port, shown_ports, shows_same_port}
use Rattle.gptp_timeline.specs.Shown.{live_among, live_system, same_slave, same_way, shown, shown_of}
use Rattle.gptp_timeline.specs.declared.compared.Compared.{Compared}
use Rattle.gptp_timeline.specs.declared.compared.Compared.TheVariants as compares
use Rattle.gptp_timeline.specs.declared.ports.ShownPort.{ShownPort}
use Rattle.gptp_timeline.specs.declared.shown.Shown.{Shown}
use Rattle.gptp_timeline.proofs.AtRestLemmas.{AllFollow}
use Rattle.gptp_timeline.proofs.LeavingLemmas.{capable, capable_number, changed_at, port_leaves, ports_leave}
use Rattle.gptp_timeline.proofs.PortLemmas.{shown_at}
use Rattle.gptp_timeline.proofs.SameLemmas.{both, number_itself, same_port_is, same_truth, way_is}

-- what is left of a live system is what it shows
abbrev pub LeftSo : Compared → SystemState → SystemState → Type 0
LeftSo compared s s' = left_by compared (Some s') (Some (shown_of s)) ≡ Some (shown_of s')

-- it is where all is as it was shown that is so by a test
tested : (same : SystemState → Shown → Bool) (s s' : SystemState)
    → (same s' (shown_of s) ≡ true → shown_of s' ≡ shown_of s)
    → left_where same (Some s') (Some (shown_of s)) ≡ Some (shown_of s')
tested same s s' tells = by (same s' (shown_of s)) refl
  where
    by : (so : Bool) → same s' (shown_of s) ≡ so
        → (if so then Some (shown_of s) else Some (shown_of s')) ≡ Some (shown_of s')
    by true so = ap Some (sym (tells so))
    by false so = refl

-- and where all is as it was shown
all_left : (compared : Compared) (s s' : SystemState) → shown_of s' ≡ shown_of s → LeftSo compared s s'
all_left compares.All s s' same = refl
all_left compares.Known s s' same = tested is_known_as s s' (λ so. same)
all_left (compares.Port port) s s' same = tested (same_port_at port) s s' (λ so. same)
all_left (compares.Choice port) s s' same = tested (is_choice_as port) s s' (λ so. same)

-- ---- whether the offset is known

-- what is shown of a system but whether its offset is known
abbrev but_known : SystemState → Shown
but_known s = record (shown_of s) { known = false }

known_left : (s s' : SystemState) → but_known s' ≡ but_known s → LeftSo compares.Known s s'
known_left s s' same = tested is_known_as s s' (λ so.
    ap (λ (x : Shown). record x { known = is_some s'.offset }) same
    ∙ ap (λ (k : Bool). record (shown_of s) { known = k }) (same_truth (is_some s'.offset) (is_some s.offset) so))

-- ---- the measuring of a port

same_shown_port : (port : ℕ) (s r : SystemState) → same_port_at port s (shown_of r) ≡ true
    → shown_port s port ≡ shown_port r port
same_shown_port zero s r same = absurd cc
same_shown_port (suc i) s r same =
    by (slice_get (shown_ports s) i) refl (slice_get (shown_ports r) i) refl same
  where
    by : (p : Option ShownPort) → slice_get (shown_ports s) i ≡ p → (q : Option ShownPort)
        → slice_get (shown_ports r) i ≡ q
        → option_map_or (λ (p : ShownPort). option_map_or (shows_same_port p) q false) p false ≡ true
        → shown_port s (suc i) ≡ shown_port r (suc i)
    by None here q there same = absurd cc
    by (Some p) here None there same = absurd cc
    by (Some p) here (Some q) there same =
        sym (shown_at s i p here) ∙ same_port_is p q same ∙ shown_at r i q there

-- whether the port with a number among ports is asCapable
abbrev capable_in : ℕ → List Port → Bool
capable_in p qs = option_map_or (λ (q : Port). is_capable q.peer) (number qs p) false

capable_both : (p : ℕ) (qs rs : List Port) → map capable qs ≡ map capable rs → capable_in p qs ≡ capable_in p rs
capable_both p qs rs same =
    capable_number qs p ∙ ap (λ cs. option_map_or (λ c. c) (number cs p) false) same ∙ sym (capable_number rs p)

-- one port is changed, and stays asCapable or not
one_changed : (p : ℕ) (f : Port → Port) (qs : List Port) → capable_in p (change f p qs) ≡ capable_in p qs
    → map capable (change f p qs) ≡ map capable qs
one_changed zero f qs same = refl
one_changed (suc i) f qs same = at i qs same
  where
    at : (i : ℕ) (qs : List Port)
        → option_map_or capable (slice_get (change_at f i qs) i) false ≡ option_map_or capable (slice_get qs i) false
        → map capable (change_at f i qs) ≡ map capable qs
    at i [] same = refl
    at zero (q ∷ qs) same = ap (λ c. c ∷ map capable qs) same
    at (suc i) (q ∷ qs) same = ap (λ cs. capable q ∷ cs) (at i qs same)

all_changed : (p : ℕ) (f : Port → Port) (qs : List Port) → ((q : Port) → capable (f q) ≡ capable q)
    → map capable (change f p qs) ≡ map capable qs
all_changed zero f qs same = refl
all_changed (suc i) f qs same = changed_at f same i qs

number_changed : {X : Type 0} (f : X → X) (p : ℕ) (xs : List X) → number (change f p xs) p ≡ option_map f (number xs p)
number_changed f zero xs = refl
number_changed {X} f (suc i) xs = at i xs
  where
    at : (i : ℕ) (xs : List X) → slice_get (change_at f i xs) i ≡ option_map f (slice_get xs i)
    at i [] = refl
    at zero (x ∷ xs) = refl
    at (suc i) (x ∷ xs) = at i xs

-- a port that becomes asCapable, or stops being so, isn't as it was
differs : (before after : Bool) → (if before then not after else after) ≡ true → after ≡ before → ⊥
differs true true turns same = absurd cc
differs true false turns same = absurd cc
differs false true turns same = absurd cc
differs false false turns same = absurd cc

turned_differs : (step : PeerState → PeerState) (q : Option Port) → is_turned step q ≡ true
    → option_map_or capable (option_map (λ (q : Port). record q { peer = step q.peer }) q) false
    ≡ option_map_or capable q false → ⊥
turned_differs step None turns same = absurd cc
turned_differs step (Some q) turns same = differs (is_capable q.peer) (is_capable (step q.peer)) turns same

module _ (p : ℕ) (step : PeerState → PeerState) (now : ℕ) (s s' : SystemState) (sends : List Sending) where
  abbrev stepped : Port → Port
  stepped q = record q { peer = step q.peer }

  turns_tell : Turns p step now s s' sends → is_capable_at s' p ≡ is_capable_at s p → shown_of s' ≡ shown_of s
  turns_tell k same = by (is_turned step (number s.ports p)) refl k
    where
      by : (turns : Bool) → is_turned step (number s.ports p) ≡ turns → TurnsIf turns p step now s s' sends
          → shown_of s' ≡ shown_of s
      by false turns k =
          let as_it_was = ap (λ (u : SystemState). is_capable_at u p) (sym k.state) ∙ same in
          ap shown_of k.state
          ∙ ports_leave s (with_peer p step s) refl refl refl refl (λ n. refl)
          (one_changed p stepped s.ports as_it_was)
      by true turns k =
          let kept = capable_both p (choosing k.vector now (turned p step s)).ports (turned p step s).ports
          (all_announced-map capable now (λ q. refl) (fresh_ports k.vector (turned p step s)) (turned p step s).ports)
          in
          let one = ap (λ q. option_map_or capable q false) (number_changed stepped p s.ports) in
          let as_it_was = ap (λ (u : SystemState). is_capable_at u p) (sym k.state) ∙ same in
          absurd (turned_differs step (number s.ports p) turns (sym one ∙ sym kept ∙ as_it_was))

asks_tell : (p : ℕ) (step : PeerState → PeerState) (now : ℕ) (s s' : SystemState) (sends : List Sending)
    → TurnsAndAsks p step now s s' sends → is_capable_at s' p ≡ is_capable_at s p → shown_of s' ≡ shown_of s
asks_tell p step now s s' sends k same =
    let ask : Port → Port = asking _ _ in
    let kept = capable_both p (change ask p k.between.ports) k.between.ports
    (all_changed p ask k.between.ports (λ q. refl)) in
    let as_it_was = ap (λ (u : SystemState). is_capable_at u p) (sym k.state) ∙ same in
    ap shown_of k.state ∙ port_leaves p ask k.between (λ q. refl)
    ∙ turns_tell p step now s k.between k.first k.turns (sym kept ∙ as_it_was)

port_left : (p : ℕ) (s s' : SystemState) → (is_capable_at s' p ≡ is_capable_at s p → shown_of s' ≡ shown_of s)
    → LeftSo (compares.Port p) s s'
port_left p s s' tells = tested (same_port_at p) s s' (λ so.
    tells (ap (λ (q : ShownPort). q.capable) (same_shown_port p s' s so)))

-- ---- what a port received

same_itself : (o : Option ℕ) → same_number o o ≡ true
same_itself None = refl
same_itself (Some p) = number_itself p

-- the Slave port tells from which port a chosen vector came
receiver_of : (a : ℕ) → option_map_or (λ p. p) (if a == 0 then None else Some a) 0 ≡ a
receiver_of a = by (a == 0) refl
  where
    by : (none : Bool) → a == 0 ≡ none → option_map_or (λ p. p) (if none then None else Some a) 0 ≡ a
    by true is = let zero_is : a ≡ 0 = grind (arith, nat_tests) in sym zero_is
    by false is = refl

same_receiver : (u v : Vector) → slave_port u ≡ slave_port v → u.receiver ≡ v.receiver
same_receiver u v same =
    sym (receiver_of u.receiver) ∙ ap (λ slave. option_map_or (λ p. p) slave 0) same ∙ receiver_of v.receiver

-- what a port holds after selection, by the root, the steps and the Slave port
same_selection : (u v : Vector) (name port : ℕ) (h : Held) → u.root ≡ v.root → u.steps ≡ v.steps
    → u.receiver ≡ v.receiver → held_after_selection u name port h ≡ held_after_selection v name port h
same_selection u v name port h root steps receiver =
    ap (λ n. held_after_selection (record u { root = n }) name port h) root
    ∙ ap (λ n. held_after_selection (record u { root = v.root; steps = n }) name port h) steps
    ∙ ap (λ n. held_after_selection (record u { root = v.root; steps = v.steps; receiver = n }) name port h) receiver

-- what stands at a port's number of what is made of all ports
number_each : {X : Type 0} (f : ℕ → Held → X) (p : ℕ) (hs : List Held)
    → number (each_port f hs) p ≡ option_map (f p) (number hs p)
number_each f zero hs = refl
number_each {X} f (suc i) hs =
    let there : 1 + i ≡ suc i = omega arith in from 1 i hs ∙ ap (λ p. option_map (f p) (slice_get hs i)) there
  where
    from : (a i : ℕ) (hs : List Held) → slice_get (each_from f a hs) i ≡ option_map (f (a + i)) (slice_get hs i)
    from a i [] = refl
    from a zero (h ∷ hs) = let here : a ≡ a + 0 = omega arith in ap (λ p. Some (f p h)) here
    from a (suc i) (h ∷ hs) =
        let there : a + 1 + i ≡ a + suc i = omega arith in
        from (a + 1) i hs ∙ ap (λ p. option_map (f p) (slice_get hs i)) there

number_other : {X : Type 0} (f : X → X) (p q : ℕ) (xs : List X) → (q ≡ p → ⊥) → number (change f p xs) q ≡ number xs q
number_other f zero q xs apart = refl
number_other f (suc i) zero xs apart = refl
number_other {X} f (suc i) (suc j) xs apart = at i j xs (λ e. apart (ap suc e))
  where
    at : (i j : ℕ) (xs : List X) → (j ≡ i → ⊥) → slice_get (change_at f i xs) j ≡ slice_get xs j
    at i j [] apart = refl
    at zero zero (x ∷ xs) apart = absurd (apart refl)
    at zero (suc j) (x ∷ xs) apart = refl
    at (suc i) zero (x ∷ xs) apart = refl
    at (suc i) (suc j) (x ∷ xs) apart = at i j xs (λ e. apart (ap suc e))

map_by : (f g : Held → Held) (o : Option Held) → ((h : Held) → f h ≡ g h) → option_map f o ≡ option_map g o
map_by f g None same = refl
map_by f g (Some h) same = ap Some (same h)

-- A system at rest, of which one port holds another thing, selects or doesn't.
module _ (p : ℕ) (f : Held → Held) (selects : Bool) (now : ℕ) (s s' : SystemState) (sends : List Sending)
    (rest : IsAtRest s) (k : SelectsIf selects now (on_held p f s) s' sends)
    (root : s'.root ≡ s.root) (steps : s'.steps ≡ s.steps) (slave : s'.slave ≡ s.slave)
    (role : role_at s' p ≡ role_at s p) where
  -- what it leaves where the choice is as it was
  record Stays : Type 0 where
    others : (q : ℕ) → (q ≡ p → ⊥) → number s'.held q ≡ number s.held q
    offset : s'.offset ≡ s.offset
    ports : map capable s'.ports ≡ map capable s.ports

  stays : Stays
  stays = by selects k
    where
      by : (selects : Bool) → SelectsIf selects now (on_held p f s) s' sends → Stays
      by false k = record {
        others = λ q apart. ap (λ (u : SystemState). number u.held q) k.state ∙ number_other f p q s.held apart;
        offset = ap (λ (u : SystemState). u.offset) k.state;
        ports = ap (λ (u : SystemState). map capable u.ports) k.state;
      }
      by true k =
          let v = k.vector in
          let same_root : v.root ≡ s.root = ap (λ (u : SystemState). u.root) (sym k.state) ∙ root in
          let same_steps : v.steps ≡ s.steps = ap (λ (u : SystemState). u.steps) (sym k.state) ∙ steps in
          let same_slave : slave_port v ≡ s.slave = ap (λ (u : SystemState). u.slave) (sym k.state) ∙ slave in
          let follows : follows_on v (on_held p f s) ≡ true =
          ap (λ r. r == s.root && same_number (slave_port v) s.slave) same_root
          ∙ ap (λ o. s.root == s.root && same_number o s.slave) same_slave
          ∙ rw (number_itself s.root, same_itself s.slave) refl in
          record {
            others = λ q apart.
                ap (λ (u : SystemState). number u.held q) k.state
                ∙ number_each (held_after_selection v (clock s)) q (change f p s.held)
                ∙ ap (option_map (held_after_selection v (clock s) q)) (number_other f p q s.held apart)
                ∙ map_by (held_after_selection v (clock s) q) (held_after_selection rest.vector (clock s) q)
                (number s.held q) (λ h. same_selection v rest.vector (clock s) q h (same_root ∙ rest.root)
                (same_steps ∙ rest.steps) (same_receiver v rest.vector (same_slave ∙ rest.slave)))
                ∙ sym (number_each (held_after_selection rest.vector (clock s)) q s.held)
                ∙ sym (ap (λ hs. number hs q) rest.stays);
            offset = ap (λ (u : SystemState). u.offset) k.state
                ∙ ap (λ same. if same then s.offset else None) follows;
            ports = ap (λ (u : SystemState). map capable u.ports) k.state
                ∙ all_announced-map capable now (λ q. refl) (fresh_ports v (on_held p f s)) s.ports;
          }

  roles : (q : ℕ) → role_at s' q ≡ role_at s q
  roles q = by (same_place q p)
    where
      by : (q ≡ p) ⊎ (q ≡ p → ⊥) → role_at s' q ≡ role_at s q
      by (inl same) = ap (role_at s') same ∙ role ∙ ap (role_at s) (sym same)
      by (inr apart) =
          ap (λ o. role_by (option_map_or (λ n. n == q) o false) (held_at s' q)) slave
          ∙ ap (λ h. role_by (option_map_or (λ n. n == q) s.slave false) (option_map_or (λ h. h) h helds.Disabled))
          (stays.others q apart)

  choice_leaves : shown_of s' ≡ shown_of s
  choice_leaves = ports_leave s s' root steps slave stays.offset roles stays.ports

choice_left : (p : ℕ) (f : Held → Held) (selects : Bool) (now : ℕ) (s s' : SystemState) (sends : List Sending)
    → IsAtRest s → SelectsIf selects now (on_held p f s) s' sends → LeftSo (compares.Choice p) s s'
choice_left p f selects now s s' sends rest k = tested (is_choice_as p) s s' (λ so.
    let (way, port) = both (same_way (shown_of s') (shown_of s)) (same_port_at p s' (shown_of s)) so in
    let (root, steps, slave) = way_is (shown_of s') (shown_of s) way in
    choice_leaves p f selects now s s' sends rest k root steps slave
    (ap (λ (q : ShownPort). q.role) (same_shown_port p s' s port)))

-- ---- a frame

module _ (p now : ℕ) (s s' : SystemState) (sends : List Sending) (answer : Answer) where
  hears_follow_up : (m : FollowUp) → HearsFollowUp p m now s s' sends answer → but_known s' ≡ but_known s
  hears_follow_up m k = by (is_capable_at s p) k
    where
      became_known : (u : SystemState) → s' ≡ u → but_known u ≡ but_known s → but_known s' ≡ but_known s
      became_known u is same = ap but_known is ∙ same

      knows : (held : Bool) (info : _) → KnowsBy held info (delay_at s p) (root_rate_at s p) now s s' sends answer
          → but_known s' ≡ but_known s
      knows true info k = became_known _ k.becomes.state refl
      knows false info (inl k) = became_known _ k.becomes.state refl
      knows false info (inr k) = became_known _ k.becomes.state refl

      said : (info : Option _) → KnowsIf info (delay_at s p) (root_rate_at s p) now s s' sends answer
          → but_known s' ≡ but_known s
      said None k = ap but_known k.becomes.state
      said (Some info) k = knows (has_sync_timeout s.params) info k

      by : (on : Bool) → HearsFollowUpIf on p m now s s' sends answer → but_known s' ≡ but_known s
      by false k = ap but_known k.becomes.state
      by true k = said (said_on p m s) k

  hears_announce : (a : AnnounceView) → IsAtRest s
      → HearsOff p s s' sends answer
      ⊎ (HearsUnqualified p a s s' sends answer ⊎ HearsQualified p a now s s' sends answer)
      → LeftSo (compares.Choice p) s s'
  hears_announce a rest (inl off) = all_left (compares.Choice p) s s' (ap shown_of off.becomes.state)
  hears_announce a rest (inr (inl unqualified)) =
      all_left (compares.Choice p) s s' (ap shown_of unqualified.becomes.state)
  hears_announce a rest (inr (inr qualified)) = choice_left p _ _ now s s' sends rest qualified.selects

  message_left : (m : Message) → IsAtRest s → HearsMessage p m now s s' sends answer
      → LeftSo (compared_by_type p (type_number m)) s s'
  message_left (messages.Sync head) rest k = refl
  message_left (messages.PdelayReq head) rest k = refl
  message_left (messages.PdelayResp m) rest k = refl
  message_left (messages.FollowUp m) rest k = known_left s s' (hears_follow_up m k)
  message_left (messages.PdelayRespFollowUp m) rest k =
      port_left p s s' (turns_tell p (after_follow_up m) now s s' sends k.turns)
  message_left (messages.Announce a) rest k = hears_announce a rest k

  frame_left : (octets : List ℕ) → IsAtRest s → HearsFrame p octets now s s' sends answer
      → LeftSo (compared_by_frame p octets) s s'
  frame_left [] rest k = refl
  frame_left (octet ∷ octets) rest (inl k) =
      subst (λ type. LeftSo (compared_by_type p type) s s') (sym (type_is (octet ∷ octets) k.message k.reads))
      (message_left k.message rest k.hears)
  frame_left (octet ∷ octets) rest (inr k) =
      all_left (compared_by_type p (octet % 16)) s s' (ap shown_of k.becomes.state)

-- ---- an expiry

timer_left : (timer : Timer) (now : ℕ) (s s' : SystemState) (sends : List Sending) → IsAtRest s
    → Expires timer now s s' sends → LeftSo (compared_by_expiry timer) s s'
timer_left (timers.Pdelay p) now s s' sends rest k = port_left p s s' (asks_tell p after_interval now s s' sends k)
timer_left (timers.Age p) now s s' sends rest k = choice_left p _ true now s s' sends rest k
timer_left (timers.Announce p) now s s' sends rest k = refl
timer_left (timers.Respond p) now s s' sends rest k = refl
timer_left timers.Sync now s s' sends rest k = refl
timer_left timers.Relay now s s' sends rest k = refl
timer_left timers.Lapse now s s' sends rest k = refl

-- ---- what is left of each system

-- nothing of one that doesn't live
pub left_none : (compared : Compared) (before : Option Shown) → left_by compared None before ≡ None
left_none compares.All before = refl
left_none compares.Known before = refl
left_none (compares.Port port) before = refl
left_none (compares.Choice port) before = refl

-- what it shows of one that didn't live
pub left_new : (compared : Compared) (s : SystemState) → left_by compared (Some s) None ≡ Some (shown_of s)
left_new compares.All s = refl
left_new compares.Known s = refl
left_new (compares.Port port) s = refl
left_new (compares.Choice port) s = refl

-- what is shown as it was is left so
pub left_itself : (compared : Compared) (live : Option SystemState)
    → left_by compared live (option_map shown_of live) ≡ option_map shown_of live
left_itself compared None = left_none compared None
left_itself compared (Some s) = all_left compared s s refl

module _ (compared : Compared) where
  -- this is left of the system with a clock among stations
  abbrev LeftAmong : ℕ → List Station → List Station → Type 0
  LeftAmong name before after =
      left_by compared (live_among name after) (option_map shown_of (live_among name before))
      ≡ option_map shown_of (live_among name after)

  -- the first of them becomes another
  module _ (name : ℕ) (old new : Station) (others : List Station) (left : LeftSo compared old.system new.system) where
    abbrev first : Bool → Bool → SystemState → Option SystemState
    first named live s = if named then (if live then Some s else None) else live_among name others

    abbrev FirstLeft : Bool → Bool → Bool → Bool → Type 0
    FirstLeft named live named' live' =
        left_by compared (first named' live' new.system) (option_map shown_of (first named live old.system))
        ≡ option_map shown_of (first named' live' new.system)

    by_name : (named live : Bool) → FirstLeft named live named live
    by_name true true = left
    by_name true false = left_none compared None
    by_name false live = left_itself compared (live_among name others)

    first_left : clock new.system ≡ clock old.system → new.live ≡ old.live
        → LeftAmong name (old ∷ others) (new ∷ others)
    first_left named live =
        subst (λ number. FirstLeft (clock old.system == name) old.live (number == name) new.live) (sym named)
        (subst (FirstLeft (clock old.system == name) old.live (clock old.system == name)) (sym live)
        (by_name (clock old.system == name) old.live))

  station_left : (name place : ℕ) (stations : List Station) (old new : Station) → slice_get stations place ≡ Some old
      → clock new.system ≡ clock old.system → new.live ≡ old.live → LeftSo compared old.system new.system
      → LeftAmong name stations (slice_set stations place new)
  station_left name place [] old new there named live left = absurd cc
  station_left name zero (s ∷ ss) old new there named live left =
      subst (λ (x : Station). LeftAmong name (x ∷ ss) (new ∷ ss)) (sym (same_Some s old there))
      (first_left name old new ss left named live)
  station_left name (suc place) (s ∷ ss) old new there named live left =
      other_left (clock s.system == name) (if s.live then Some s.system else None)
      (station_left name place ss old new there named live left)
    where
      other_left : (named : Bool) (own : Option SystemState) → LeftAmong name ss (slice_set ss place new)
          → left_by compared (if named then own else live_among name (slice_set ss place new))
          (option_map shown_of (if named then own else live_among name ss))
          ≡ option_map shown_of (if named then own else live_among name (slice_set ss place new))
      other_left true own rest = left_itself compared own
      other_left false own rest = rest

  -- a call of a system
  calls_left : (place : ℕ) (input : Input) (w : WorldState) (draws : List Draw) (answer : Answer) (w' : WorldState)
      → AllFollow w.stations
      → ((s s' : SystemState) (sends : List Sending) → IsAtRest s → Steps input w.time s s' sends answer
      → LeftSo compared s s')
      → Calls place input w draws answer w' → (name : ℕ) → LeftAmong name w.stations w'.stations
  calls_left place input w draws answer w' follow left calls name =
      subst (λ (v : WorldState). LeftAmong name w.stations v.stations) (sym calls.is)
      (station_left name place w.stations calls.station (in_state calls.after calls.station) calls.here
      (same_clock input w.time calls.station.system calls.after calls.sends answer calls.steps) refl
      (left calls.station.system calls.after calls.sends (follow place calls.station calls.here).rest calls.steps))

-- what is left after an expiry
pub expiry_left : (number : ℕ) (timer : Timer) (w : WorldState) (draws : List Draw) (w' : WorldState)
    → AllFollow w.stations → AtSystem number w (λ place station. TimerRunsOut place timer w draws w') → (name : ℕ)
    → left_by (compared_by_expiry timer) (live_system name w') (shown name w) ≡ shown name w'
expiry_left number timer w draws w' follow at name =
    calls_left (compared_by_expiry timer) at.place (TimerExpires timer) _ draws at.so.answer w' follow
    (λ s s' sends rest steps. timer_left timer w.time s s' sends rest steps) at.so.calls name

-- and after a delivery
hears_left : (place port : ℕ) (octets : List ℕ) (w : WorldState) (draws : List Draw) (answer : Option Answer)
    (w' : WorldState) → AllFollow w.stations → Hears place port octets w draws answer w' → (name : ℕ)
    → LeftAmong (compared_by_frame port octets) name w.stations w'.stations
hears_left place port octets w draws None w' follow (failed, none, is) name =
    subst (λ (v : WorldState). LeftAmong (compared_by_frame port octets) name w.stations v.stations) (sym is)
    (left_itself (compared_by_frame port octets) (live_system name w))
hears_left place port octets w draws (Some answer) w' follow calls name =
    calls_left (compared_by_frame port octets) place (FrameHeard port octets) w draws answer w' follow
    (λ s s' sends rest steps. frame_left port w.time s s' sends answer octets rest steps) calls name

pub delivery_left : (link : ℕ) (direction : Direction) (clock port : ℕ) (answer : Option Answer) (frame : _)
    (w : WorldState) (draws : List Draw) (w' : WorldState) → AllFollow w.stations
    → Delivery link direction (Heard clock port answer frame) w draws w' → (name : ℕ)
    → left_by (compared_by_frame port frame.items) (live_system name w') (shown name w) ≡ shown name w'
delivery_left link direction clock port answer frame w draws w' follow d name =
    let (clock_is, port_is, told, octets_are) = d.told in
    let heard : Channel = d.delivers.channel in
    let same : heard ≡ d.channel = same_Some heard d.channel (sym d.delivers.takes.here ∙ d.here) in
    let here : (receiver direction heard).port ≡ port =
    ap (λ (c : Channel). (receiver direction c).port) same ∙ sym port_is in
    subst (λ p. LeftAmong (compared_by_frame p frame.items) name w.stations w'.stations) here
    (subst (λ os. LeftAmong (compared_by_frame (receiver direction heard).port os) name w.stations w'.stations)
    (sym octets_are)
    (hears_left d.delivers.place (receiver direction heard).port d.octets _ draws d.answer w' follow d.delivers.hears
    name))
