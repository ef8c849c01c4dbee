-- What two systems send that are the same but for time, and what that leaves on the links of two such worlds.
use Rattle.std.proofs.Common.{◌≡◌, ◌+◌, ℕ, zero, suc, ℤ, Bool, true, false, List, [], ◌∷◌, ◌++◌, Option, Some, None, FitsSigned, w8, slice_get, slice_set, refl, sym, ap, subst, ◌∙◌, inl, inr}
use Rattle.std.specs.List.{AllZip}
use Rattle.std.proofs.lemmas.List.Elements.{AllZip-push}
use Rattle.std.specs.Prelude.{max, if◌then◌else◌}
use Rattle.gptp_lists.proofs.MappedLemmas.{same_there, some_same}
use Rattle.gptp_vector.specs.declared.port.PortId.{PortId}
use Rattle.gptp_messages.specs.declared.follow_up.FollowUp.{FollowUp}
use Rattle.gptp_messages.specs.declared.head.Head.{Head}
use Rattle.gptp_messages.specs.Grammar.{Written}
use Rattle.gptp_correction.specs.declared.correction.Relayed.{Relayed}
use Rattle.gptp_receipt.specs.declared.held.Held.{Held}
use Rattle.gptp_links.specs.declared.bounds.Bounds.{Bounds}
use Rattle.gptp_links.specs.declared.link.Direction.{Direction}
use Rattle.gptp_links.specs.declared.link.Direction.TheVariants.{FromA, FromB}
use Rattle.gptp_links.specs.Fate.{Draw, Draws}
use Rattle.gptp_links.specs.Queue.{due_after, frame, newest_due, Frame}
use Rattle.gptp_system.specs.declared.port.Port.{Port}
use Rattle.gptp_system.specs.declared.sending.Sending.{Sending}
use Rattle.gptp_system.specs.Sends.{sent_message}
use Rattle.gptp_system.specs.State.{SystemState, clock, is_mine, own as port_of, trace}
use Rattle.gptp_system.specs.Syncing.{follow_up_of, sync_of, syncs, told_by}
use Rattle.gptp_model.specs.declared.item.Item.TheVariants.{Arrival}
use Rattle.gptp_model.specs.Pending.{put}
use Rattle.gptp_model.specs.Sends.{entered, written, IsUnlinkedPort, SendsAll, SendsOne}
use Rattle.gptp_model.specs.World.{Channel, Net, receiver, sender, with_queue, world_queue}
use Rattle.gptp_model.proofs.StayLemmas.{carry_join, sends_one_carry}
use Rattle.gptp_determinism.specs.BesideTime.{KnowsStamp, SaySame, beside_time, follow_up_beside}
use Rattle.gptp_determinism.specs.BesideWorlds.{FramesBeside, LinksBeside, NetsBeside}
use Rattle.gptp_determinism.specs.Named.{AnswersOnce, HaveOwnPorts}
use Rattle.gptp_determinism.proofs.ContinuesLemmas.{IsTold, SendAlike, told_beside}
use Rattle.gptp_determinism.proofs.NameLemmas.{ports_kept}
use Rattle.gptp_determinism.proofs.SendLemmas.{AreDrawn}
use Rattle.gptp_determinism.proofs.SpelledLemmas.{wrapped, written_reads}

-- ---- lists member by member

module _ {X : Type 0} (R : X → X → Type 0) where
  -- the member at the place of one of the other list, and of one of the first
  pub each_back : (xs ys : List X) (i : ℕ) (y : X) → AllZip R xs ys → slice_get ys i ≡ Some y
      → (x : X) × (slice_get xs i ≡ Some x) × R x y
  each_back [] [] i y each there = absurd cc
  each_back [] (z ∷ ys) i y each there = absurd each
  each_back (x ∷ xs) [] i y each there = absurd each
  each_back (x ∷ xs) (z ∷ ys) zero y each there = (x, refl, subst (R x) (some_same z y there) each.0)
  each_back (x ∷ xs) (z ∷ ys) (suc i) y each there = each_back xs ys i y each.1 there

  pub each_on : (xs ys : List X) (i : ℕ) (x : X) → AllZip R xs ys → slice_get xs i ≡ Some x
      → (y : X) × (slice_get ys i ≡ Some y) × R x y
  each_on [] [] i x each there = absurd cc
  each_on [] (y ∷ ys) i x each there = absurd each
  each_on (z ∷ xs) [] i x each there = absurd each
  each_on (z ∷ xs) (y ∷ ys) zero x each there = (y, refl, subst (λ a. R a y) (some_same z x there) each.0)
  each_on (z ∷ xs) (y ∷ ys) (suc i) x each there = each_on xs ys i x each.1 there

  pub each_at : (xs ys : List X) (i : ℕ) (x y : X) → AllZip R xs ys → slice_get xs i ≡ Some x
      → slice_get ys i ≡ Some y → R x y
  each_at xs ys i x y each here there =
      let (z, z-is, r) = each_back xs ys i y each there in
      subst (λ a. R a y) (same_there xs i z x z-is here) r

  pub each_set : (xs ys : List X) (i : ℕ) (x y : X) → AllZip R xs ys → R x y
      → AllZip R (slice_set xs i x) (slice_set ys i y)
  each_set [] [] i x y each r = tt
  each_set [] (z ∷ ys) i x y each r = absurd each
  each_set (z ∷ xs) [] i x y each r = absurd each
  each_set (z ∷ xs) (v ∷ ys) zero x y each r = (r, each.1)
  each_set (z ∷ xs) (v ∷ ys) (suc i) x y each r = (each.0, each_set xs ys i x y each.1 r)

  pub each_itself : (xs : List X) → ((x : X) → R x x) → AllZip R xs xs
  each_itself [] all = tt
  each_itself (x ∷ xs) all = (all x, each_itself xs all)

-- ---- what is sent

-- from one port, as frames that say the same beside the time
abbrev pub SendsBeside : SystemState → SystemState → Sending → Sending → Type 0
SendsBeside s t x y = (x.port ≡ y.port) × SaySame (written s x) (written t y)

-- the Follow_Up of a send
abbrev follow_up : Head → Relayed → FollowUp
follow_up head told = record { head = head; origin = told.origin; rate = told.rate }

follow_ups_say : (s t : SystemState) (own : PortId) (log : ℤ) (a b : Relayed) (q : Port) → FitsSigned w8 log
    → told_beside a ≡ told_beside b → IsTold a → IsTold b
    → SendsBeside s t (follow_up_of own log a q) (follow_up_of own log b q)
follow_ups_say s t own log a b q fits same a-told b-told =
    let m = follow_up (follow_up_of own log a q).head a in
    let n = follow_up (follow_up_of own log b q).head b in (
      refl,
      inr (record {
        one = wrapped m;
        other = wrapped n;
        reads = written_reads m fits a-told;
        reads_other = written_reads n fits b-told;
        same = ap (λ (told : Relayed). follow_up_beside (wrapped (follow_up m.head told))) same;
      }),
    )

mine_say : (s t : SystemState) (mine : Bool) (own : PortId) (log : ℤ) (a b : Relayed) (q : Port)
    (xs ys : List Sending) → FitsSigned w8 log → told_beside a ≡ told_beside b → IsTold a → IsTold b
    → AllZip (SendsBeside s t) xs ys
    → AllZip (SendsBeside s t) (if mine then sync_of own log q ∷ follow_up_of own log a q ∷ xs else xs)
    (if mine then sync_of own log q ∷ follow_up_of own log b q ∷ ys else ys)
mine_say s t true own log a b q xs ys fits same a-told b-told rest =
    ((refl, inl refl), (follow_ups_say s t own log a b q fits same a-told b-told, rest))
mine_say s t false own log a b q xs ys fits same a-told b-told rest = rest

syncs_say : (s t : SystemState) (number : ℕ) (log : ℤ) (a b : Relayed) (p : ℕ) (hs : List Held) (qs : List Port)
    → FitsSigned w8 log → told_beside a ≡ told_beside b → IsTold a → IsTold b
    → AllZip (SendsBeside s t) (syncs number log a p hs qs) (syncs number log b p hs qs)
syncs_say s t number log a b p [] qs fits same a-told b-told = tt
syncs_say s t number log a b p (h ∷ hs) [] fits same a-told b-told = tt
syncs_say s t number log a b p (h ∷ hs) (q ∷ qs) fits same a-told b-told =
    mine_say s t (is_mine h) (record { clock = number; port = p }) log a b q (syncs number log a (p + 1) hs qs)
    (syncs number log b (p + 1) hs qs) fits same a-told b-told
    (syncs_say s t number log a b (p + 1) hs qs fits same a-told b-told)

-- what both send is read as the same beside the time
pub sends_say : (s t s' t' : SystemState) (sends more : List Sending) → beside_time s ≡ beside_time t
    → beside_time s' ≡ beside_time t' → KnowsStamp s → KnowsStamp t → FitsSigned w8 s.params.sync
    → SendAlike s t sends more → AllZip (SendsBeside s' t') sends more
sends_say s t s' t' sends more same after one other fits (inl is) =
    subst (AllZip (SendsBeside s' t') sends) is
    (each_itself (SendsBeside s' t') sends (λ x. (
      refl,
      inl (ap (λ (v : SystemState). Written (sent_message (trace v) x.head x.body)) after),
    )))
sends_say s t s' t' sends more same after one other fits (inr k) =
    let others : more ≡ told_by k.others s = k.more_are ∙ sym (ap (told_by k.others) same) in
    subst (λ (xs : List Sending). AllZip (SendsBeside s' t') xs more) (sym k.sends_are)
    (subst (AllZip (SendsBeside s' t') (told_by k.told s)) (sym others)
    (syncs_say s' t' (clock s) s.params.sync k.told k.others 1 s.held s.ports fits k.same (k.one one) (k.other other)))

-- ---- links

newest_same : (fs gs : List Frame) → AllZip FramesBeside fs gs → newest_due fs ≡ newest_due gs
newest_same [] [] each = refl
newest_same [] (g ∷ gs) each = absurd each
newest_same (f ∷ fs) [] each = absurd each
newest_same (f ∷ []) (g ∷ []) each = each.0.due
newest_same (f ∷ []) (g ∷ (h ∷ gs)) each = absurd each.1
newest_same (f ∷ (h ∷ fs)) (g ∷ []) each = absurd each.1
newest_same (f ∷ (h ∷ fs)) (g ∷ (k ∷ gs)) each = newest_same (h ∷ fs) (k ∷ gs) each.1

pub queues_beside : (direction : Direction) (c d : Channel) → LinksBeside c d
    → AllZip FramesBeside (world_queue direction c) (world_queue direction d)
queues_beside FromA c d is = is.from_a
queues_beside FromB c d is = is.from_b

pub with_queues_beside : (direction : Direction) (fs gs : List Frame) (c d : Channel) → AllZip FramesBeside fs gs
    → LinksBeside c d → LinksBeside (with_queue direction fs c) (with_queue direction gs d)
with_queues_beside FromA fs gs c d each is =
    record { a = is.a; b = is.b; bounds = is.bounds; up = is.up; from_a = each; from_b = is.from_b }
with_queues_beside FromB fs gs c d each is =
    record { a = is.a; b = is.b; bounds = is.bounds; up = is.up; from_a = is.from_a; from_b = each }

pub senders_same : (direction : Direction) (c d : Channel) → LinksBeside c d → sender direction c ≡ sender direction d
senders_same FromA c d is = is.a
senders_same FromB c d is = is.b

pub receivers_same : (direction : Direction) (c d : Channel) → LinksBeside c d
    → receiver direction c ≡ receiver direction d
receivers_same FromA c d is = is.b
receivers_same FromB c d is = is.a

-- both frames enter, or both are lost
entered_beside : (place : ℕ) (direction : Direction) (c d : Channel) (now : ℕ) (a b : List ℕ) (answer : Option ℕ)
    (n m : Net) → LinksBeside c d → SaySame a b → NetsBeside n m
    → NetsBeside (entered place direction c now a answer n) (entered place direction d now b answer m)
entered_beside place direction c d now a b None n m links say is = is
entered_beside place direction c d now a b (Some delay) n m links say is =
    let fs = world_queue direction c in
    let gs = world_queue direction d in
    let queues = queues_beside direction c d links in
    let due : due_after fs now delay ≡ due_after gs now delay =
    ap (λ newest. max (now + delay) newest) (newest_same fs gs queues) in
    let frames : FramesBeside (frame (due_after fs now delay) a) (frame (due_after gs now delay) b) =
    record { due = due; say = say } in
    record {
      links = each_set LinksBeside n.channels m.channels place
          (with_queue direction (fs ++ frame (due_after fs now delay) a ∷ []) c)
          (with_queue direction (gs ++ frame (due_after gs now delay) b ∷ []) d) is.links
          (with_queues_beside direction (fs ++ frame (due_after fs now delay) a ∷ [])
          (gs ++ frame (due_after gs now delay) b ∷ []) c d
          (AllZip-push FramesBeside fs gs (frame (due_after fs now delay) a) (frame (due_after gs now delay) b) queues
          frames) links);
      pending =
          ap (λ t. put t (Arrival place direction) n.pending) due
          ∙ ap (put (due_after gs now delay) (Arrival place direction)) is.pending;
    }

-- ---- sends

-- the portIdentity of a port
abbrev port_at : ℕ → ℕ → PortId
port_at number port = record { clock = number; port = port }

module _ {F : Type 0} (answers : Bounds → ℕ → F → Option ℕ → F → Type 0) (once : AnswersOnce answers) where
  draw : Bounds → ℕ → Option ℕ → Draw
  draw bounds sent answer = record { bounds = bounds; sent = sent; answer = answer }

  -- one send in two such worlds, of frames that say the same beside the time
  pub send_beside : (now : ℕ) (from : PortId) (a b : List ℕ) (net other n m : Net) (d e : Draw) (fate f g : F)
      → HaveOwnPorts net.channels → NetsBeside net other → SaySame a b → SendsOne now from a d net n
      → SendsOne now from b e other m → answers d.bounds d.sent fate d.answer f → answers e.bounds e.sent fate e.answer
      g → (d ≡ e) × (f ≡ g) × NetsBeside n m
  unfolding draw
  send_beside now from a b net other n m d e fate f g own is say k l k-drawn l-drawn =
      let (c, c-here, c-same) = each_back LinksBeside net.channels other.channels l.place l.channel is.links l.here in
      let (places, ways) = own k.place l.place k.direction l.direction k.channel c k.here c-here
      (k.begins ∙ sym (senders_same l.direction c l.channel c-same ∙ l.begins)) in
      let channels : c ≡ k.channel =
      same_there net.channels l.place c k.channel c-here
      (subst (λ (i : ℕ). slice_get net.channels i ≡ Some k.channel) places k.here) in
      let links : LinksBeside k.channel l.channel =
      subst (λ (x : Channel). LinksBeside x l.channel) channels c-same in
      let bounds : d.bounds ≡ e.bounds = k.bounds ∙ links.bounds ∙ sym l.bounds in
      let sent : d.sent ≡ e.sent = k.sent ∙ sym l.sent in
      let asked : answers e.bounds e.sent fate d.answer f =
      subst (λ (x : Bounds). answers x e.sent fate d.answer f) bounds
      (subst (λ (t : ℕ). answers d.bounds t fate d.answer f) sent k-drawn) in
      let (answer, fates) = once e.bounds e.sent fate f g d.answer e.answer asked l-drawn in
      let after : n ≡ entered l.place l.direction k.channel now a e.answer net =
      k.after ∙ ap (λ (i : ℕ). entered i k.direction k.channel now a d.answer net) places
      ∙ ap (λ (way : Direction). entered l.place way k.channel now a d.answer net) ways
      ∙ ap (λ (x : Option ℕ). entered l.place l.direction k.channel now a x net) answer in (
        ap (λ (x : Bounds). draw x d.sent d.answer) bounds ∙ ap (λ (t : ℕ). draw e.bounds t d.answer) sent
            ∙ ap (λ (x : Option ℕ). draw e.bounds e.sent x) answer,
        fates,
        subst (λ (x : Net). NetsBeside x m) (sym after)
            (subst (NetsBeside (entered l.place l.direction k.channel now a e.answer net)) (sym l.after)
            (entered_beside l.place l.direction k.channel l.channel now a b e.answer net other links say is)),
      )

  -- what is sent from a port at which a link is up isn't without a link in the other world
  linked_beside : (now : ℕ) (from : PortId) (octets : List ℕ) (d : Draw) (net other n : Net) → NetsBeside net other
      → SendsOne now from octets d net n → IsUnlinkedPort other from → ⊥
  linked_beside now from octets d net other n is k none =
      let (c, here, same) = each_on LinksBeside net.channels other.channels k.place k.channel is.links k.here in
      let down = none k.place k.direction c here (sym (senders_same k.direction k.channel c same) ∙ k.begins) in
      let e : true ≡ false = sym k.up ∙ same.up ∙ down in cc

  beside_linked : (now : ℕ) (from : PortId) (octets : List ℕ) (d : Draw) (net other m : Net) → NetsBeside net other
      → SendsOne now from octets d other m → IsUnlinkedPort net from → ⊥
  beside_linked now from octets d net other m is l none =
      let (c, here, same) = each_back LinksBeside net.channels other.channels l.place l.channel is.links l.here in
      let down = none l.place l.direction c here (senders_same l.direction c l.channel same ∙ l.begins) in
      let e : true ≡ false = sym l.up ∙ sym same.up ∙ down in cc

  -- all sends
  pub sends_beside : (now : ℕ) (s t : SystemState) (xs ys : List Sending) (net other n m : Net) (ds es : List Draw)
      → clock s ≡ clock t → HaveOwnPorts net.channels → NetsBeside net other → AllZip (SendsBeside s t) xs ys
      → AreDrawn answers once ds es → SendsAll now s xs ds net n → SendsAll now t ys es other m
      → (ds ≡ es) × NetsBeside n m
  sends_beside now s t [] [] net other n m ds es clocks own is each both k l = (
    k.0 ∙ sym l.0,
    subst (λ (x : Net). NetsBeside x m) (sym k.1) (subst (NetsBeside net) (sym l.1) is),
  )
  sends_beside now s t [] (y ∷ ys) net other n m ds es clocks own is each both k l = absurd each
  sends_beside now s t (x ∷ xs) [] net other n m ds es clocks own is each both k l = absurd each
  sends_beside now s t (x ∷ xs) (y ∷ ys) net other n m ds es clocks own is each both
      (inl (d, ks, a, d-is, k, k-rest)) (inl (e, ls, b, e-is, l, l-rest)) =
      let (f, f-drawn, f-more) = subst (λ (vs : List Draw). Draws answers both.fate vs both.one) d-is both.first in
      let (g, g-drawn, g-more) = subst (λ (vs : List Draw). Draws answers both.fate vs both.other) e-is both.second in
      let ports : port_of s x.port ≡ port_of t y.port =
      ap (λ number. port_at number x.port) clocks ∙ ap (port_at (clock t)) each.0.0 in
      let (draws, fates, nets) =
      send_beside now (port_of s x.port) (written s x) (written t y) net other a b d e both.fate f g own is each.0.1 k
      (subst (λ (from : PortId). SendsOne now from (written t y) e other b) (sym ports) l) f-drawn g-drawn in
      let joins = carry_join net.channels a.channels
      (sends_one_carry now (port_of s x.port) (written s x) d net a k) in
      let (rest, after) =
      sends_beside now s t xs ys a b n m ks ls clocks (ports_kept net.channels a.channels joins own) nets each.1
      (record {
        fate = g;
        one = both.one;
        other = both.other;
        first = subst (λ (z : F). Draws answers z ks both.one) fates f-more;
        second = g-more;
      }) k-rest l-rest in (
        d-is ∙ ap (λ (v : Draw). v ∷ ks) draws ∙ ap (λ (vs : List Draw). e ∷ vs) rest ∙ sym e-is,
        after,
      )
  sends_beside now s t (x ∷ xs) (y ∷ ys) net other n m ds es clocks own is each both
      (inl (d, ks, a, d-is, k, k-rest)) (inr (none, l)) =
      let ports : port_of s x.port ≡ port_of t y.port =
      ap (λ number. port_at number x.port) clocks ∙ ap (port_at (clock t)) each.0.0 in
      absurd (linked_beside now (port_of s x.port) (written s x) d net other a is k
      (subst (IsUnlinkedPort other) (sym ports) none))
  sends_beside now s t (x ∷ xs) (y ∷ ys) net other n m ds es clocks own is each both (inr (none, k))
      (inl (e, ls, b, e-is, l, l-rest)) =
      let ports : port_of s x.port ≡ port_of t y.port =
      ap (λ number. port_at number x.port) clocks ∙ ap (port_at (clock t)) each.0.0 in
      absurd (beside_linked now (port_of t y.port) (written t y) e net other b is l
      (subst (IsUnlinkedPort net) ports none))
  sends_beside now s t (x ∷ xs) (y ∷ ys) net other n m ds es clocks own is each both (inr (_, k)) (inr (_, l)) =
      sends_beside now s t xs ys net other n m ds es clocks own is each.1 both k l
