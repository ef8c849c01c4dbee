-- What a system sends says its own Announces, and nothing else.
use Rattle.std.proofs.Common.{◌≡◌, ◌≤◌, ◌<◌, ◌^◌, ℕ, suc, Bool, List, length, refl, sym, ap, subst, ◌∙◌, arith, ℤ, Some, slice_get, FitsSigned, w8}
use Rattle.std.proofs.lemmas.Option.{slice_get_within}
use Rattle.std.proofs.lemmas.Int.{ints}
use Rattle.gptp_setup.specs.declared.limits.TheConstants.{MOST_PORTS}
use Rattle.gptp_setup.specs.Intervals.{IsLog}
use Rattle.gptp_lists.specs.Members.{In}
use Rattle.gptp_graph.specs.Snapshot.{port_of}
use Rattle.gptp_messages.specs.declared.announce.AnnounceView.{AnnounceView}
use Rattle.gptp_messages.specs.declared.head.Head.{Head}
use Rattle.gptp_messages.specs.declared.message.Message.TheVariants as messages
use Rattle.gptp_messages.specs.Grammar.{Reads, Written}
use Rattle.gptp_messages.proofs.GrammarLemmas.{one_reading}
use Rattle.gptp_receipt.specs.declared.held.Held.TheVariants as helds
use Rattle.gptp_system.specs.declared.sending.Body.{Body}
use Rattle.gptp_system.specs.declared.sending.Body.TheVariants as bodies
use Rattle.gptp_system.specs.declared.sending.Sending.{Sending}
use Rattle.gptp_system.specs.Facts.{AreShown}
use Rattle.gptp_system.specs.Reacts.{IsAnnounce, IsOwnAnnounce}
use Rattle.gptp_system.specs.Sends.{announce_body, announcement, sent_message}
use Rattle.gptp_system.specs.State.{SystemState, clock, own, trace}
use Rattle.gptp_system.proofs.TypeLemmas.{type_is}
use Rattle.gptp_system.specs.declared.port.Port.{Port}
use Rattle.gptp_model.specs.Sends.{written}
use Rattle.gptp_lists.proofs.PlaceLemmas.{member_there}
use Rattle.gptp_bmca_machine.specs.Frame.{Announce}
use Rattle.gptp_bmca_machine.specs.Reacts.{IsMasterAt}
use Rattle.gptp_bmca_machine.specs.Station.{Port as SeenPort}
use Rattle.gptp_invariants.specs.WorldEncodable.{AreClocks, SayWhatFits}
use Rattle.gptp_invariants.specs.ChoiceView.{port_view, said, system_view, ports_view, span_at}
use Rattle.gptp_invariants.proofs.ChoiceAnnounceLemmas.{announce_reads}
use Rattle.gptp_invariants.proofs.WorldFitLemmas.{TellsWhatFits, all_clocks, clock_fits}
use Rattle.gptp_invariants.proofs.ChoiceSeenOctetLemmas.{same_announce}
use Rattle.gptp_invariants.proofs.ChoicePlaceLemmas.{port_there, port_from}
use Rattle.gptp_invariants.proofs.ChoiceReactLemmas.{AreOwn, AreRead}

-- what is no Announce isn't read as one
read_announce : (path : List ℕ) (head : Head) (body : Body) (a : AnnounceView)
    → Reads (Written (sent_message path head body)) (messages.Announce a) → IsAnnounce body
read_announce path head (bodies.Announce body) a reads = (body, refl)
read_announce path head bodies.Sync a reads =
    absurd (let kind = type_is _ (messages.Announce a) reads in omega arith)
read_announce path head (bodies.FollowUp origin rate) a reads =
    absurd (let kind = type_is _ (messages.Announce a) reads in omega arith)
read_announce path head bodies.PdelayReq a reads =
    absurd (let kind = type_is _ (messages.Announce a) reads in omega arith)
read_announce path head (bodies.PdelayResp stamp requester) a reads =
    absurd (let kind = type_is _ (messages.Announce a) reads in omega arith)
read_announce path head (bodies.PdelayRespFollowUp stamp requester) a reads =
    absurd (let kind = type_is _ (messages.Announce a) reads in omega arith)

-- what a system announces at a port, with this interval
abbrev pub own_announce : SystemState → ℕ → ℤ → Announce
own_announce s n log = record {
  root = s.root;
  steps = s.steps;
  source = port_of (clock s) n;
  log = log;
  path = trace s;
}

module _ (s : SystemState) (fits : TellsWhatFits s) (few : length s.ports ≤ MOST_PORTS) (shown : AreShown s)
    (logs : (i : ℕ) (q : Port) → slice_get s.ports i ≡ Some q → IsLog q.log_interval) where
  -- an own Announce is of one of the ports
  own_within : (x : Sending) (k : IsOwnAnnounce s x) → k.place < length s.ports
  own_within x k =
      let places = shown.places in
      let inside = slice_get_within s.held k.place (helds.Mine s.root s.steps) k.holds in
      omega arith

  -- and names an interval that fits its octet
  own_log : (x : Sending) (k : IsOwnAnnounce s x) → FitsSigned w8 k.port.log_interval
  own_log x k =
      let (q, there) = member_there s.ports k.place (own_within x k) in
      let log = subst IsLog (k.log q there) (logs k.place q there) in
      omega (arith, ints, log.low, log.high)

  -- it reads as itself
  own_reads : (x : Sending) (k : IsOwnAnnounce s x)
      → (m : AnnounceView) × Reads (written s x) (messages.Announce m)
      × (said m ≡ own_announce s x.port k.port.log_interval)
  own_reads x k =
      let y = announcement (own s (suc k.place)) s.root s.steps k.port in
      let within = own_within x k in
      let near = fits.steps in
      subst
      (λ (z : Sending). (m : AnnounceView) × Reads (written s z) (messages.Announce m)
      × (said m ≡ own_announce s z.port k.port.log_interval))
      (sym k.is)
      (announce_reads y.head (announce_body s.root s.steps) (trace s)
      (record { clock = clock_fits s; port = omega arith }) (own_log x k)
      (record {
        utc_offset = record { sfits = omega arith };
        root = fits.root;
        steps = omega arith;
        time_source = omega arith;
      })
      (record { clocks = all_clocks (trace s) fits.path; room = fits.room }))

  -- and as nothing else
  own_said : (x : Sending) (k : IsOwnAnnounce s x) (m : AnnounceView) → Reads (written s x) (messages.Announce m)
      → said m ≡ own_announce s x.port k.port.log_interval
  own_said x k m reads =
      let (n, also, is) = own_reads x k in
      let one = one_reading (written s x) (messages.Announce m) (messages.Announce n) reads also in
      ap said (same_announce m n one) ∙ is

  -- the interval that it names is that of the port, as the machine sees it
  own_seen : (x : Sending) (k : IsOwnAnnounce s x) (i : ℕ) (q : SeenPort) → x.port ≡ suc i
      → slice_get (ports_view (span_at s) s.held s.ports) i ≡ Some q → k.port.log_interval ≡ q.log
  own_seen x k i q number there =
      let at = port_from (span_at s) s.held s.ports i q there in
      let same : i ≡ k.place = suc_injective (sym number ∙ k.number_is) in
      sym (k.log at.port (subst (λ j. slice_get s.ports j ≡ Some at.port) same at.port_there))
      ∙ ap (λ (y : SeenPort). y.log) (sym at.is)
    where
      suc_injective : {m n : ℕ} → suc m ≡ suc n → m ≡ n
      suc_injective e = omega arith

  own_master : (live : Bool) (x : Sending) → IsOwnAnnounce s x → IsMasterAt (system_view live s) x.port
  own_master live x k =
      let (q, there) = member_there s.ports k.place (own_within x k) in
      let mine = helds.Mine s.root s.steps in (
        k.place,
        port_view (span_at s) mine q,
        k.number_is,
        port_there (span_at s) s.held s.ports k.place mine q k.holds there,
        refl,
      )

  -- ---- all that it sends, where each Announce is its own
  module _ (sends : List Sending) (tells : (x : Sending) → In x sends → IsAnnounce x.body → IsOwnAnnounce s x) where
    -- what is read as an Announce is an own one
    own_read : (x : Sending) → In x sends → (m : AnnounceView) → Reads (written s x) (messages.Announce m)
        → IsOwnAnnounce s x
    own_read x among m reads = tells x among (read_announce (trace s) x.head x.body m reads)

    pub are_read : AreRead s sends
    are_read x among announce =
        let (m, reads, is) = own_reads x (tells x among announce) in (said m, (m, reads, refl))

    pub are_own : (live : Bool) → AreOwn live s sends
    are_own live x a among (m, reads, is) =
        let k = own_read x among m reads in
        let all : a ≡ own_announce s x.port k.port.log_interval = is ∙ own_said x k m reads in (
          record {
            root = ap (λ (b : Announce). b.root) all;
            steps = ap (λ (b : Announce). b.steps) all;
            source = ap (λ (b : Announce). b.source) all;
            log = λ i q number there. ap (λ (b : Announce). b.log) all ∙ own_seen x k i q number there;
            path = ap (λ (b : Announce). b.path) all;
          },
          own_master live x k,
        )

    -- what is sent says what fits
    pub sends_fit : (x : Sending) → In x sends → SayWhatFits (written s x)
    sends_fit x among m reads =
        let all = own_said x (own_read x among m reads) m reads in
        record {
          root = subst (λ r. r < 2 ^ 112) (sym (ap (λ (b : Announce). b.root) all)) fits.root;
          path = subst AreClocks (sym (ap (λ (b : Announce). b.path) all)) fits.path;
        }
