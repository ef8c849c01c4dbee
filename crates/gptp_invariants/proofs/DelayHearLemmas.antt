-- What a port makes of octets that it hears, as one that asks and as one that answers.
use Rattle.std.proofs.Common.{◌≡◌, ◌≢◌, ◌⊎◌, ◌*◌, ◌<◌, ℕ, ℤ, ◌-ℤ◌, ◌+◌, pos, int_le, is_some, Bool, true, List, ◌∷◌, take, Some, None, refl, sym, ap, subst, ◌∙◌, inl, inr, eq-eqb, rules}
use Rattle.std.specs.Prelude.{if◌then◌else◌, ◌==◌}
use Rattle.std.specs.Option.{option_map_or}
use Rattle.gptp_graph.specs.Snapshot.{PortIdentity}
use Rattle.gptp_vector.specs.declared.port.PortId.{PortId}
use Rattle.gptp_messages.specs.declared.head.Head.{Head}
use Rattle.gptp_messages.specs.declared.message.Message.{Message}
use Rattle.gptp_messages.specs.declared.message.Message.TheVariants as messages
use Rattle.gptp_messages.specs.declared.peer_delay.PdelayResp.{PdelayResp}
use Rattle.gptp_messages.specs.declared.peer_delay.PdelayRespFollowUp.{PdelayRespFollowUp}
use Rattle.gptp_messages.specs.Grammar.{Reads}
use Rattle.gptp_messages.proofs.GrammarLemmas.{one_reading}
use Rattle.gptp_pdelay.specs.declared.exchange.Measurement.{Measurement}
use Rattle.gptp_pdelay.specs.declared.progress.Progress.{Progress}
use Rattle.gptp_pdelay.specs.declared.progress.Progress.TheVariants as progresses
use Rattle.gptp_pdelay.specs.declared.progress.Request.{Request}
use Rattle.gptp_pdelay.specs.declared.progress.Response.{Response}
use Rattle.gptp_pdelay.specs.Exchange.{carried_time, mean_delay, measurement_of, neighbor_rate, oldest, times_of}
use Rattle.gptp_pdelay.specs.GoodLink.{IsGoodLink, IsWithinThreshold}
use Rattle.gptp_pdelay.specs.Peer.{PeerState, after_follow_up, after_response, answered_by, completed, measured_by}
use Rattle.gptp_pdelay.specs.Progress.{is_follow_up_to, is_response_to, response_of}
use Rattle.gptp_pdelay.proofs.ExchangeLemmas.{neighbor_rate_is_within}
use Rattle.gptp_system.specs.Measures.{Part, part_heard}
use Rattle.gptp_system.specs.State.{SystemState, stamp_time}
use Rattle.gptp_pdelay_machine.specs.Asker.{Asked, Answered, TakesReply, own_request, asker_completed as completes}
use Rattle.gptp_pdelay_machine.specs.Answerer.{Notes}
use Rattle.gptp_pdelay_machine.specs.ExchangeLaws.{ReadsClocks}
use Rattle.gptp_pdelay_machine.specs.Messages.{Request as SeenRequest, Reply, Response as SaidResponse, FollowUp as SaidFollowUp}
use Rattle.gptp_pdelay_machine.specs.Meter.{Measures, TakesMeasure}
use Rattle.gptp_pdelay_machine.specs.Setting.{Setting, IsExchange}
use Rattle.gptp_pdelay_machine.proofs.ExchangeLemmas.{exchanges_are_good}
use Rattle.gptp_invariants.specs.DelayLinkView.{asked_at, asker_view, kept_view, reads_as_request, follow_up_view, link_identity, reads_as_reply, request_from, response_view, waits_view}
use Rattle.gptp_invariants.proofs.DelayLinkLaneLemmas.{same_true}
use Rattle.gptp_invariants.proofs.DelayLinkOctetLemmas.{one_request}
use Rattle.gptp_invariants.proofs.DelayPartLemmas.{AsksAsBefore, answered_is, asks_still, heard_asked, heard_asks, heard_waits, response_passes, same_identity, sent_is}

-- what a port has after octets came that it hears, where they read as a message or not
abbrev pub Hears : SystemState → ℕ → List ℕ → Part → Part → Type 0
Hears s now octets x x' =
    ((m : Message) × Reads octets m × (x' ≡ part_heard s now m x))
    ⊎ (((m : Message) → Reads octets m → ⊥) × (x' ≡ x))

-- what it has where the octets read as this message
heard_message : (s : SystemState) (now : ℕ) (octets : List ℕ) (x x' : Part) (m : Message) → Hears s now octets x x'
    → Reads octets m
    → x' ≡ part_heard s now m x
heard_message s now octets x x' m (inl (n, reads, is)) here =
    is ∙ ap (λ one. part_heard s now one x) (one_reading octets n m reads here)
heard_message s now octets x x' m (inr (none, is)) here = absurd (none m here)

-- ---- as one that answers

module _ (k : Setting) (s : SystemState) (now : ℕ) (octets : List ℕ) (x x' : Part) (hears : Hears s now octets x x')
    (clock_is : k.answering_clock now ≡ stamp_time s now) (turnaround_is : k.turnaround ≡ s.params.turnaround) where
  -- a request is noted, and anything else leaves what waited
  pub hears_notes : Notes k reads_as_request now octets (waits_view x) (waits_view x')
  hears_notes = go hears
    where
      note : (head : Head) → Reads octets (messages.PdelayReq head)
          → Notes k reads_as_request now octets (waits_view x) (waits_view x')
      note head reads =
          inr (
            request_from head.source head.sequence,
            record {
              said = (head, reads, refl);
              only = λ other said.
                  said.2
                  ∙ ap (λ (h : Head). request_from h.source h.sequence) (one_request octets said.0 head said.1 reads);
            },
            ap waits_view (heard_message s now octets x x' (messages.PdelayReq head) hears reads)
                ∙ rw (clock_is, turnaround_is) refl,
          )

      leave : (m : Message) → Reads octets m → ((head : Head) → m ≢ messages.PdelayReq head)
          → Notes k reads_as_request now octets (waits_view x) (waits_view x')
      leave m reads other =
          inl (
            λ request said. other said.0 (one_reading octets m (messages.PdelayReq said.0) reads said.1),
            ap waits_view (heard_message s now octets x x' m hears reads) ∙ heard_waits s now m x other,
          )

      by : (m : Message) → Reads octets m → Notes k reads_as_request now octets (waits_view x) (waits_view x')
      by (messages.Sync head) reads = leave (messages.Sync head) reads (λ h e. absurd cc)
      by (messages.PdelayReq head) reads = note head reads
      by (messages.PdelayResp m) reads = leave (messages.PdelayResp m) reads (λ h e. absurd cc)
      by (messages.FollowUp m) reads = leave (messages.FollowUp m) reads (λ h e. absurd cc)
      by (messages.PdelayRespFollowUp m) reads = leave (messages.PdelayRespFollowUp m) reads (λ h e. absurd cc)
      by (messages.Announce a) reads = leave (messages.Announce a) reads (λ h e. absurd cc)

      go : Hears s now octets x x' → Notes k reads_as_request now octets (waits_view x) (waits_view x')
      go (inl (m, reads, is)) = by m reads
      go (inr (none, is)) = inl (λ request said. none (messages.PdelayReq said.0) said.1, ap waits_view is)

-- ---- as one that asks

-- a delay within the threshold passes the test
is_at_most : (threshold : ℕ) (delay : ℤ) → IsWithinThreshold threshold delay
    → int_le delay (pos (65536 * threshold)) ≡ true
is_at_most threshold delay h = search rules

-- the test of a follow-up passes
follow_up_passes : (own : PortId) (request : Request) (response : Response) (m : PdelayRespFollowUp)
    → m.requester ≡ own → m.head.sequence ≡ request.sequence → m.head.source ≡ response.source
    → is_follow_up_to own request response m ≡ true
follow_up_passes own request response m requester sequence source =
    let first = same_true m.requester own requester in
    let second : (m.head.sequence == request.sequence) ≡ true = eq-eqb m.head.sequence request.sequence sequence in
    let third = same_true m.head.source response.source source in
    rw (first, second, third) refl

-- what a response says is what was said of it
response_parts : (source : PortIdentity) (request : SeenRequest) (t : ℤ) (m : PdelayResp)
    → SaidResponse source request t ≡ response_view m
    → (link_identity m.head.source ≡ source) × (link_identity m.requester ≡ request.source)
    × (m.head.sequence ≡ request.sequence) × (carried_time m.stamp m.head.correction ≡ t)
response_parts source request t m e =
    let named : request_from m.requester m.head.sequence ≡ request = cc in
    (cc, ap (λ (r : SeenRequest). r.source) named, ap (λ (r : SeenRequest). r.sequence) named, cc)

follow_up_parts : (source : PortIdentity) (request : SeenRequest) (t : ℤ) (m : PdelayRespFollowUp)
    → SaidFollowUp source request t ≡ follow_up_view m
    → (link_identity m.head.source ≡ source) × (link_identity m.requester ≡ request.source)
    × (m.head.sequence ≡ request.sequence) × (carried_time m.stamp m.head.correction ≡ t)
follow_up_parts source request t m e =
    let named : request_from m.requester m.head.sequence ≡ request = cc in
    (cc, ap (λ (r : SeenRequest). r.source) named, ap (λ (r : SeenRequest). r.sequence) named, cc)

module _ (k : Setting) (s : SystemState) (now period : ℕ) (octets : List ℕ) (x x' : Part)
    (hears : Hears s now octets x x') (own answering : PortId) (asking_is : k.asking ≡ link_identity own)
    (answering_is : k.answering ≡ link_identity answering) (clock_is : k.asking_clock now ≡ stamp_time s now)
    (named : x.peer.own ≡ own) (windowed : x.peer.window ≡ k.window) (some : 0 < k.window)
    (apart : own.clock ≢ answering.clock)
    (blur : ℕ) (good : IsGoodLink (k.most + blur) k.turnaround x.peer.threshold) (clocks : ReadsClocks blur k) where
  -- octets that are no reply leave what the port asked and measured
  nothing : ((r : Reply) → reads_as_reply octets r → ⊥) → AsksAsBefore period x x'
  nothing none = go hears
    where
      go : Hears s now octets x x' → AsksAsBefore period x x'
      go (inl (m, reads, is)) =
          subst (AsksAsBefore period x) (sym is)
          (heard_asks s now period m x
          (λ r e. none (response_view r) (inl (r, subst (Reads octets) e reads, refl)))
          (λ r e. none (follow_up_view r) (inr (r, subst (Reads octets) e reads, refl))))
      go (inr (unread, is)) = asks_still period x x' is

  -- no Pdelay timer starts
  asked : (asker_view period x').asked ≡ (asker_view period x).asked
  asked = go hears
    where
      go : Hears s now octets x x' → (asker_view period x').asked ≡ (asker_view period x).asked
      go (inl (m, reads, is)) =
          ap (λ (y : Part). asked_at period y.pdelay) is ∙ ap (asked_at period) (heard_asked s now m x)
      go (inr (unread, is)) = ap (λ (y : Part). asked_at period y.pdelay) is

  -- a response to the open request is recorded, and measures nothing
  response_heard : (sequence : ℕ) (t1 t2 : ℤ) → (asker_view period x).progress ≡ Asked sequence t1
      → reads_as_reply octets (SaidResponse k.answering (own_request k sequence) t2)
      → (asker_view period x'
      ≡ record (asker_view period x) { progress = Answered sequence k.answering t1 t2 (k.asking_clock now) })
      × (kept_view x'.peer ≡ kept_view x.peer)
  response_heard sequence t1 t2 was (inr (m, reads, e)) = absurd cc
  response_heard sequence t1 t2 was (inl (m, reads, e)) =
      let (request, sent, number, first) = sent_is x.peer.progress sequence t1 was in
      let (source, requester, numbered, time) = response_parts k.answering (own_request k sequence) t2 m e in
      let here : m.requester ≡ x.peer.own =
      same_identity m.requester x.peer.own (requester ∙ asking_is ∙ ap link_identity (sym named)) in
      let from : m.head.source ≡ answering = same_identity m.head.source answering (source ∙ answering_is) in
      let passes : is_response_to x.peer.own request m ≡ true =
      response_passes x.peer.own answering request m here (numbered ∙ sym number) from
      (λ f. apart (ap (λ (p : PortId). p.clock) (sym named) ∙ f)) in
      let recorded : Progress = progresses.Answered request (response_of m (stamp_time s now)) in
      let by : answered_by m (stamp_time s now) x.peer.own x.peer.progress ≡ Some recorded =
      ap (answered_by m (stamp_time s now) x.peer.own) sent ∙ ap (λ b. if b then Some recorded else None) passes in
      let after : after_response m (stamp_time s now) x.peer ≡ record x.peer { progress = recorded } =
      ap (λ o. option_map_or (λ progress. record x.peer { progress = progress }) o x.peer) by in
      let part : x' ≡ record x { peer = record x.peer { progress = recorded } } =
      heard_message s now octets x x' (messages.PdelayResp m) hears reads ∙ ap (λ q. record x { peer = q }) after in (
        ap (asker_view period) part
            ∙ (λ i. record (asker_view period x) {
              progress = Answered (number i) (source i) (first i) (time i) (sym clock_is i);
            }),
        ap (λ (y : Part). kept_view y.peer) part,
      )

  -- what the four times of an exchange measure, by request and response as they are recorded
  measures : (request : Request) (response : Response) (third t1 t2 t3 t4 : ℤ) → request.t1 ≡ t1 → response.t2 ≡ t2
      → third ≡ t3 → response.t4 ≡ t4
      → x'.peer ≡ completed (measurement_of (oldest x.peer.past) (is_some x.peer.last) request response third) x.peer
      → Measures k.window (kept_view x.peer) (kept_view x'.peer) t1 t2 t3 t4
  measures request response third t1 t2 t3 t4 first second time fourth is =
      let one : Measurement = measurement_of (oldest x.peer.past) (is_some x.peer.last) request response third in
      record {
        some = some;
        measured = one;
        last_is = ap (λ (q : PeerState). q.last) is;
        past_is = ap (λ (q : PeerState). q.past) is ∙ ap (λ n. take n (times_of one ∷ x.peer.past)) windowed;
        t3_is = time;
        t4_is = fourth;
        rate_is = λ i. neighbor_rate (oldest x.peer.past) (time i) (fourth i);
        delay_is = λ i. mean_delay (neighbor_rate (oldest x.peer.past) third response.t4) (fourth i -ℤ first i)
            (time i -ℤ second i);
      }

  -- a follow-up to the recorded response completes the exchange, and measures
  follow_up_heard : (sequence : ℕ) (t1 t2 t3 t4 : ℤ)
      → (asker_view period x).progress ≡ Answered sequence k.answering t1 t2 t4
      → reads_as_reply octets (SaidFollowUp k.answering (own_request k sequence) t3)
      → ((fine : Bool) × (IsExchange k t1 t2 t3 t4 → fine ≡ true)
      × (asker_view period x' ≡ completes fine (asker_view period x)))
      × Measures k.window (kept_view x.peer) (kept_view x'.peer) t1 t2 t3 t4
  follow_up_heard sequence t1 t2 t3 t4 was (inl (m, reads, e)) = absurd cc
  follow_up_heard sequence t1 t2 t3 t4 was (inr (m, reads, e)) =
      let (request, response, recorded, number, answered, first, second, fourth) =
      answered_is x.peer.progress sequence k.answering t1 t2 t4 was in
      let (source, requester, numbered, time) = follow_up_parts k.answering (own_request k sequence) t3 m e in
      let here : m.requester ≡ x.peer.own =
      same_identity m.requester x.peer.own (requester ∙ asking_is ∙ ap link_identity (sym named)) in
      let from : m.head.source ≡ response.source =
      same_identity m.head.source response.source (source ∙ sym answered) in
      let passes : is_follow_up_to x.peer.own request response m ≡ true =
      follow_up_passes x.peer.own request response m here (numbered ∙ sym number) from in
      let third : ℤ = carried_time m.stamp m.head.correction in
      let one : Measurement = measurement_of (oldest x.peer.past) (is_some x.peer.last) request response third in
      let by : measured_by m x.peer.own x.peer.last x.peer.past x.peer.progress ≡ Some one =
      ap (measured_by m x.peer.own x.peer.last x.peer.past) recorded
      ∙ ap (λ b. if b then Some one else None) passes in
      let after : after_follow_up m x.peer ≡ completed one x.peer =
      ap (λ o. option_map_or (λ q. completed q x.peer) o x.peer) by in
      let part : x' ≡ record x { peer = completed one x.peer } =
      heard_message s now octets x x' (messages.PdelayRespFollowUp m) hears reads
      ∙ ap (λ q. record x { peer = q }) after in (
        (
          int_le one.delay (pos (65536 * x.peer.threshold)),
          λ exchange. is_at_most x.peer.threshold one.delay
              (exchanges_are_good blur k x.peer.threshold (neighbor_rate (oldest x.peer.past) third response.t4)
              request.t1 response.t2 third response.t4 good clocks
              (neighbor_rate_is_within (oldest x.peer.past) third response.t4)
              (subst (λ t. IsExchange k request.t1 response.t2 t response.t4) (sym time)
              (subst (λ t. IsExchange k request.t1 response.t2 t3 t) (sym fourth)
              (subst (λ t. IsExchange k request.t1 t t3 t4) (sym second)
              (subst (λ t. IsExchange k t t2 t3 t4) (sym first) exchange))))),
          ap (asker_view period) part,
        ),
        measures request response third t1 t2 t3 t4 first second time fourth (ap (λ (y : Part). y.peer) part),
      )

  pub hears_takes : TakesReply k reads_as_reply now octets (asker_view period x) (asker_view period x')
  hears_takes = record {
    nothing = λ none. (nothing none).0;
    asked = asked;
    response = λ sequence t1 t2 was said. (response_heard sequence t1 t2 was said).0;
    follow_up = λ sequence t1 t2 t3 t4 was said. (follow_up_heard sequence t1 t2 t3 t4 was said).0;
  }

  pub hears_measure : TakesMeasure k reads_as_reply octets (asker_view period x) (kept_view x.peer) (kept_view x'.peer)
  hears_measure = record {
    nothing = λ none. (nothing none).1;
    response = λ sequence t1 t2 was said. (response_heard sequence t1 t2 was said).1;
    follow_up = λ sequence t1 t2 t3 t4 was said. (follow_up_heard sequence t1 t2 t3 t4 was said).1;
  }
