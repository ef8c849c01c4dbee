-- What an Announce says that is written, whatever stands in its header besides the source and the interval.
use Rattle.std.proofs.Common.{◌≡◌, ◌≤◌, ℕ, pos, false, List, [], ◌++◌, length, refl, sym, ap, subst, ◌∙◌, arith, FitsSigned, w8}
use Rattle.std.proofs.lemmas.List.{append-nil}
use Rattle.std.proofs.lemmas.Option.{same_Some}
use Rattle.gptp_messages.specs.declared.announce.AnnounceBody.{AnnounceBody}
use Rattle.gptp_messages.specs.declared.announce.AnnounceView.{AnnounceView}
use Rattle.gptp_messages.specs.declared.head.Head.{Head}
use Rattle.gptp_messages.specs.declared.message.Message.TheVariants as messages
use Rattle.gptp_messages.specs.Announce.{BodyFits, PathFits, ReadsPath, announce_body_of, announce_tlvs}
use Rattle.gptp_messages.specs.Frame.{PortFits, field, port_at}
use Rattle.gptp_messages.specs.Grammar.{Reads, ReadsTlvs, StampIsRead, Written, header_fault, message_of}
use Rattle.gptp_messages.specs.Head.{head_of, message_length}
use Rattle.gptp_messages.specs.MessageType.{least_length}
use Rattle.gptp_messages.proofs.WrittenLemmas.{reads_back}
use Rattle.gptp_invariants.specs.ChoiceView.{port_identity_number, said}
use Rattle.gptp_invariants.proofs.ChoiceSeenOctetLemmas.{body_read, head_read, kind_is, same_path}

-- what carries over for one kind carries over for the kind that is the same
carried : {K : Type 0} (one kind : K) → one ≡ kind → (Before After : K → Type 0) → (Before one → After one)
    → Before kind → After kind
carried one kind same Before After carries before = subst After same (carries (subst Before (sym same) before))

module _ (head : Head) (body : AnnounceBody) (path : List ℕ) where
  -- the header with nothing but its source and its interval
  abbrev plain : Head
  plain = record {
    source = head.source;
    sequence = 0;
    correction = pos 0;
    log_interval = head.log_interval;
    two_step = false;
  }

  abbrev written : AnnounceView
  written = record { head = head; body = body; path = path }

  abbrev bare : AnnounceView
  bare = record { head = plain; body = body; path = path }

  abbrev octets : List ℕ
  octets = Written (messages.Announce written) ++ []

  abbrev bare_octets : List ℕ
  bare_octets = Written (messages.Announce bare) ++ []

  -- what is read of both is the same
  same_length : message_length bare_octets ≡ message_length octets
  unfolding field
  same_length = refl

  same_header : header_fault bare_octets ≡ header_fault octets
  unfolding field
  same_header = refl

  same_tlvs : announce_tlvs bare_octets ≡ announce_tlvs octets
  unfolding field
  same_tlvs = refl

  same_body : announce_body_of bare_octets ≡ announce_body_of octets
  unfolding field
  same_body = refl

  same_source : port_at 20 bare_octets ≡ port_at 20 octets
  unfolding field
  same_source = refl

  same_log : (head_of bare_octets).log_interval ≡ (head_of octets).log_interval
  unfolding field
  same_log = refl

  same_size : length bare_octets ≡ length octets
  same_size = refl

  module _ (fits : PortFits head.source) (log-fits : FitsSigned w8 head.log_interval) (body-fits : BodyFits body)
      (path-fits : PathFits path) where
    bare_reads : Reads bare_octets (messages.Announce bare)
    bare_reads =
        (reads_back (messages.Announce bare) []
        (record {
          head = record {
            source = fits;
            sequence = omega arith;
            correction = record { sfits = omega arith };
            log_interval = log-fits;
          };
          body = body-fits;
          path = path-fits;
        })).same

    -- what is read of the octets as they are written
    abbrev seen : AnnounceView
    seen = record { head = head_of octets; body = body; path = path }

    seen_is : seen ≡ record { head = head_of octets; body = announce_body_of octets; path = bare_reads.path }
    seen_is =
        let bodies = body_read bare_octets bare bare_reads ∙ same_body in
        let paths = same_path bare_octets bare bare_reads in
        λ i. record { head = head_of octets; body = bodies i; path = paths i }

    seen_reads : Reads octets (messages.Announce seen)
    seen_reads =
        let k = bare_reads in
        let same = same_Some _ k.kind (kind_is bare_octets bare k) in
        record {
          kind = k.kind;
          header = record {
            header = sym same_header ∙ k.header.header;
            kind_is = k.header.kind_is;
            least = subst (λ n. least_length k.kind ≤ n) same_length k.header.least;
            whole = subst (λ n. n ≤ length octets) same_length k.header.whole;
          };
          path = k.path;
          rate = k.rate;
          tlvs =
              carried _ k.kind same (λ kind. ReadsTlvs kind bare_octets k.path k.rate)
              (λ kind. ReadsTlvs kind octets k.path k.rate)
              (subst (λ tlvs. ReadsPath tlvs k.path) same_tlvs) k.tlvs;
          stamp =
              carried _ k.kind same (λ kind. StampIsRead kind bare_octets) (λ kind. StampIsRead kind octets) (λ x. x)
              k.stamp;
          is =
              subst (λ kind. messages.Announce seen ≡ message_of kind octets k.path k.rate) same
              (ap messages.Announce seen_is);
        }

    seen_source : port_identity_number (head_of octets).source ≡ port_identity_number head.source
    seen_source =
        ap port_identity_number (sym same_source
        ∙ sym (ap (λ (h : Head). h.source) (head_read bare_octets bare bare_reads)))

    seen_log : (head_of octets).log_interval ≡ head.log_interval
    seen_log = sym same_log ∙ sym (ap (λ (h : Head). h.log_interval) (head_read bare_octets bare bare_reads))

    seen_said : said seen ≡ said written
    seen_said = λ i. record {
      root = body.root;
      steps = body.steps;
      source = seen_source i;
      log = seen_log i;
      path = path;
    }

    -- an Announce that is written reads as one that says the same
    pub announce_reads : (m : AnnounceView) × Reads (Written (messages.Announce written)) (messages.Announce m)
        × (said m ≡ said written)
    announce_reads = (
      seen,
      subst (λ frame. Reads frame (messages.Announce seen)) (append-nil (Written (messages.Announce written)))
          seen_reads,
      seen_said,
    )
