-- What a system sends goes onto the lanes of a link that loses nothing: the sends of the ports that it joins, each once
-- and in their order.
use Rattle.std.proofs.Common.{◌≡◌, ◌≢◌, ◌⊎◌, ◌+◌, ◌<◌, ◌≤◌, ℕ, Bool, true, false, List, [], ◌∷◌, ◌++◌, map, Option, Some, None, slice_get, refl, sym, ap, subst, ◌∙◌, append_assoc, inl, inr, arith}
use Rattle.std.specs.Prelude.{if◌then◌else◌}
use Rattle.std.proofs.lemmas.Bool.{cases_lt}
use Rattle.std.proofs.lemmas.Bool.Decides.{nat_tests}
use Rattle.std.proofs.lemmas.List.{append-nil, map-append}
use Rattle.gptp_lists.specs.Members.{In}
use Rattle.gptp_lists.proofs.SystemSpecLemmas.{In-parts}
use Rattle.gptp_vector.specs.declared.port.PortId.{PortId}
use Rattle.gptp_links.specs.declared.bounds.Bounds.{Bounds}
use Rattle.gptp_links.specs.declared.link.Direction.{Direction}
use Rattle.gptp_links.specs.declared.link.Direction.TheVariants.{FromA, FromB}
use Rattle.gptp_links.specs.Bounds.{IsLawful}
use Rattle.gptp_links.specs.Fate.{Draw}
use Rattle.gptp_links.specs.Queue.{Frame, due_after, frame, newest_due}
use Rattle.gptp_pdelay.specs.Progress.{same_identity}
use Rattle.gptp_system.specs.declared.sending.Sending.{Sending}
use Rattle.gptp_system.specs.State.{SystemState, own}
use Rattle.gptp_model.specs.Sends.{entered, written, SendsAll, SendsOne}
use Rattle.gptp_model.specs.World.{Channel, Net, world_queue, sender, with_queue}
use Rattle.gptp_invariants.specs.ChoiceSaid.{said_at, sends_at}
use Rattle.gptp_lists.proofs.MappedLemmas.{same_there}
use Rattle.gptp_lists.proofs.PlaceLemmas.{get-set_other, get-set_same, same_place}
use Rattle.gptp_model.proofs.StayLemmas.{begins_same, carry_join, sender_same, sends_one_carry}

-- ---- ports

pub same_true : (p q : PortId) → p ≡ q → same_identity p q ≡ true
same_true p q e =
    let clocks : p.clock ≡ q.clock = ap (λ (x : PortId). x.clock) e in
    let ports : p.port ≡ q.port = ap (λ (x : PortId). x.port) e in
    grind (arith, nat_tests)

pub true_same : (p q : PortId) → same_identity p q ≡ true → p ≡ q
true_same p q e =
    let clocks : p.clock ≡ q.clock = grind (arith, nat_tests) in
    let ports : p.port ≡ q.port = grind (arith, nat_tests) in
    λ i. record { clock = clocks i; port = ports i }

pub same_false : (p q : PortId) → p ≢ q → same_identity p q ≡ false
same_false p q other = go (same_identity p q) refl
  where
    go : (b : Bool) → same_identity p q ≡ b → same_identity p q ≡ false
    go true e = absurd (other (true_same p q e))
    go false e = e

-- where a send is of the port it comes first, and otherwise it isn't there
pub said_here : (s : SystemState) (port : PortId) (x : Sending) (xs : List Sending) → own s x.port ≡ port
    → said_at s port (x ∷ xs) ≡ written s x ∷ said_at s port xs
said_here s port x xs is = rw (same_true (own s x.port) port is) refl

pub said_elsewhere : (s : SystemState) (port : PortId) (x : Sending) (xs : List Sending) → own s x.port ≢ port
    → said_at s port (x ∷ xs) ≡ said_at s port xs
said_elsewhere s port x xs other = rw (same_false (own s x.port) port other) refl

-- ---- one link

-- a frame that is sent now is due within the greatest delay from now, or with one that was in flight before it
abbrev pub IsDueSoon : ℕ → ℕ → List Frame → Frame → Type 0
IsDueSoon now most old f = (now ≤ f.due) × ((f.due ≤ now + most) ⊎ ((g : Frame) × In g old × (f.due ≤ g.due)))

-- The link carries on, and after what was in flight in each direction these octets are. They are due in time, and take
-- the least delay of the link or more.
pub record Grows (now : ℕ) (old : Channel) (octets : Direction → List (List ℕ)) (new : Channel) : Type 0 where
  pub a : new.a ≡ old.a
  pub b : new.b ≡ old.b
  pub bounds : new.bounds ≡ old.bounds
  pub up : new.up ≡ old.up
  pub news : Direction → List Frame
  pub queues : (direction : Direction) → world_queue direction new ≡ world_queue direction old ++ news direction
  pub said : (direction : Direction) → map (λ (f : Frame). f.octets) (news direction) ≡ octets direction
  pub dues : (direction : Direction) (f : Frame) → In f (news direction)
      → IsDueSoon now old.bounds.max (world_queue direction old) f
  pub lates : (direction : Direction) (f : Frame) → In f (news direction) → now + old.bounds.min ≤ f.due

pub grows_begins : (now : ℕ) (old : Channel) (octets : Direction → List (List ℕ)) (new : Channel)
    → Grows now old octets new → (direction : Direction) → sender direction new ≡ sender direction old
grows_begins now old octets new g direction = sender_same direction old new g.a g.b

-- nothing new is in flight
pub still_grows : (now : ℕ) (channel : Channel) (octets : Direction → List (List ℕ))
    → ((direction : Direction) → octets direction ≡ []) → Grows now channel octets channel
still_grows now channel octets none = record {
  a = refl;
  b = refl;
  bounds = refl;
  up = refl;
  news = λ direction. [];
  queues = λ direction. sym (append-nil (world_queue direction channel));
  said = λ direction. sym (none direction);
  dues = λ direction f member. absurd member;
  lates = λ direction f member. absurd member;
}

-- it grows, and grows again
grows_on : (now : ℕ) (first second third : Channel) (one two both : Direction → List (List ℕ))
    → Grows now first one second → Grows now second two third
    → ((direction : Direction) → both direction ≡ one direction ++ two direction)
    → Grows now first both third
grows_on now first second third one two both g h is = record {
  a = h.a ∙ g.a;
  b = h.b ∙ g.b;
  bounds = h.bounds ∙ g.bounds;
  up = h.up ∙ g.up;
  news = λ direction. g.news direction ++ h.news direction;
  queues = λ direction. h.queues direction ∙ ap (λ fs. fs ++ h.news direction) (g.queues direction)
      ∙ append_assoc (world_queue direction first) (g.news direction) (h.news direction);
  said = λ direction. map-append (λ (f : Frame). f.octets) (g.news direction) (h.news direction)
      ∙ ap (λ os. os ++ map (λ (f : Frame). f.octets) (h.news direction)) (g.said direction)
      ∙ ap (λ os. one direction ++ os) (h.said direction) ∙ sym (is direction);
  dues = λ direction f member.
      elim (In-parts f (g.news direction) (h.news direction) member) [
        | inl early ↦ g.dues direction f early
        | inr late ↦ due_on direction f (h.dues direction f late)
      ];
  lates = λ direction f member.
      elim (In-parts f (g.news direction) (h.news direction) member) [
        | inl early ↦ g.lates direction f early
        | inr late ↦ subst (λ (b : Bounds). now + b.min ≤ f.due) g.bounds (h.lates direction f late)
      ];
}
  where
    -- what is due with a frame of the second is due with one of the first, or soon
    due_on : (direction : Direction) (f : Frame) → IsDueSoon now second.bounds.max (world_queue direction second) f
        → IsDueSoon now first.bounds.max (world_queue direction first) f
    due_on direction f (later, inl soon) =
        (later, inl (subst (λ (b : Bounds). f.due ≤ now + b.max) g.bounds soon))
    due_on direction f (later, inr (with_one, among, before)) = (
      later,
      go with_one before
          (In-parts with_one (world_queue direction first) (g.news direction)
          (subst (In with_one) (g.queues direction) among)),
    )
      where
        go : (one : Frame) → f.due ≤ one.due → In one (world_queue direction first) ⊎ In one (g.news direction)
            → (f.due ≤ now + first.bounds.max) ⊎ ((x : Frame) × In x (world_queue direction first) × (f.due ≤ x.due))
        go one less (inl old) = inr (one, old, less)
        go one less (inr new) = elim (g.dues direction one new).1 [
          | inl soon ↦ inl (omega arith)
          | inr (other, old, more) ↦ inr (other, old, omega arith)
        ]

-- one frame goes after the others in its direction
entered_grows : (now : ℕ) (way : Direction) (channel : Channel) (f : Frame) (octets : Direction → List (List ℕ))
    → IsDueSoon now channel.bounds.max (world_queue way channel) f → now + channel.bounds.min ≤ f.due
    → octets way ≡ f.octets ∷ []
    → ((direction : Direction) → direction ≢ way → octets direction ≡ [])
    → Grows now channel octets (with_queue way (world_queue way channel ++ f ∷ []) channel)
entered_grows now FromA channel f octets soon late here other = record {
  a = refl;
  b = refl;
  bounds = refl;
  up = refl;
  news = news;
  queues = queues;
  said = said;
  dues = dues;
  lates = lates;
}
  where
    news : Direction → List Frame
    news FromA = f ∷ []
    news FromB = []

    queues : (direction : Direction)
        → world_queue direction (with_queue FromA (world_queue FromA channel ++ f ∷ []) channel)
        ≡ world_queue direction channel ++ news direction
    queues FromA = refl
    queues FromB = sym (append-nil (world_queue FromB channel))

    said : (direction : Direction) → map (λ (x : Frame). x.octets) (news direction) ≡ octets direction
    said FromA = sym here
    said FromB = sym (other FromB (λ e. absurd cc))

    dues : (direction : Direction) (x : Frame) → In x (news direction)
        → IsDueSoon now channel.bounds.max (world_queue direction channel) x
    dues FromA x (inl e) = subst (IsDueSoon now channel.bounds.max (world_queue FromA channel)) (sym e) soon
    dues FromA x (inr none) = absurd none
    dues FromB x none = absurd none

    lates : (direction : Direction) (x : Frame) → In x (news direction) → now + channel.bounds.min ≤ x.due
    lates FromA x (inl e) = subst (λ (y : Frame). now + channel.bounds.min ≤ y.due) (sym e) late
    lates FromA x (inr none) = absurd none
    lates FromB x none = absurd none
entered_grows now FromB channel f octets soon late here other = record {
  a = refl;
  b = refl;
  bounds = refl;
  up = refl;
  news = news;
  queues = queues;
  said = said;
  dues = dues;
  lates = lates;
}
  where
    news : Direction → List Frame
    news FromA = []
    news FromB = f ∷ []

    queues : (direction : Direction)
        → world_queue direction (with_queue FromB (world_queue FromB channel ++ f ∷ []) channel)
        ≡ world_queue direction channel ++ news direction
    queues FromA = sym (append-nil (world_queue FromA channel))
    queues FromB = refl

    said : (direction : Direction) → map (λ (x : Frame). x.octets) (news direction) ≡ octets direction
    said FromA = sym (other FromA (λ e. absurd cc))
    said FromB = sym here

    dues : (direction : Direction) (x : Frame) → In x (news direction)
        → IsDueSoon now channel.bounds.max (world_queue direction channel) x
    dues FromA x none = absurd none
    dues FromB x (inl e) = subst (IsDueSoon now channel.bounds.max (world_queue FromB channel)) (sym e) soon
    dues FromB x (inr none) = absurd none

    lates : (direction : Direction) (x : Frame) → In x (news direction) → now + channel.bounds.min ≤ x.due
    lates FromA x none = absurd none
    lates FromB x (inl e) = subst (λ (y : Frame). now + channel.bounds.min ≤ y.due) (sym e) late
    lates FromB x (inr none) = absurd none

-- ---- the link among others

-- no other link begins at a port of this one, and this one has two
pub record IsAlone (link : ℕ) (channel : Channel) (net : Net) : Type 0 where
  pub here : slice_get net.channels link ≡ Some channel
  pub only : (other : ℕ) (direction way : Direction) (at : Channel) → slice_get net.channels other ≡ Some at
      → sender way at ≡ sender direction channel → other ≡ link
  pub ends : channel.a ≢ channel.b

-- this one carries all that is sent onto it
pub record Carries (channel : Channel) : Type 0 where
  pub up : channel.up ≡ true
  pub lossless : channel.bounds.loss ≡ 0

-- the two directions begin at two ports
begins_apart : (channel : Channel) → channel.a ≢ channel.b → (direction way : Direction) → direction ≢ way
    → sender direction channel ≢ sender way channel
begins_apart channel ends FromA FromA other = absurd (other refl)
begins_apart channel ends FromA FromB other = ends
begins_apart channel ends FromB FromA other = λ e. ends (sym e)
begins_apart channel ends FromB FromB other = absurd (other refl)

-- what the link becomes by what is sent
pub record GrowsIn (now link : ℕ) (old : Channel) (octets : Direction → List (List ℕ)) (net' : Net) : Type 0 where
  pub new : Channel
  pub grows : Grows now old octets new
  pub alone : IsAlone link new net'

-- ---- one send

-- the newest frame is one of the lane
newest_there : (fs : List Frame) → (newest_due fs ≡ 0) ⊎ ((g : Frame) × In g fs × (g.due ≡ newest_due fs))
newest_there [] = inl refl
newest_there (f ∷ []) = inr (f, inl refl, refl)
newest_there (f ∷ (g ∷ fs)) = elim (newest_there (g ∷ fs)) [
  | inl none ↦ inl none
  | inr (h, among, is) ↦ inr (h, inr among, is)
]

-- a frame that is sent now is due within the greatest delay, or with the newest
pub due_soon : (now delay most : ℕ) (fs : List Frame) (octets : List ℕ) → delay ≤ most
    → IsDueSoon now most fs (frame (due_after fs now delay) octets)
due_soon now delay most fs octets short = (omega arith, by (cases_lt (now + delay) (newest_due fs)) (newest_there fs))
  where
    by : (now + delay < newest_due fs) ⊎ (newest_due fs ≤ now + delay)
        → (newest_due fs ≡ 0) ⊎ ((g : Frame) × In g fs × (g.due ≡ newest_due fs))
        → (due_after fs now delay ≤ now + most) ⊎ ((g : Frame) × In g fs × (due_after fs now delay ≤ g.due))
    by (inr early) newest = inl (omega arith)
    by (inl late) (inl none) = inl (omega arith)
    by (inl late) (inr (g, among, is)) = inr (g, among, omega arith)

-- and takes the least delay or more
due_late : (now delay least : ℕ) (fs : List Frame) (octets : List ℕ) → least ≤ delay
    → now + least ≤ (frame (due_after fs now delay) octets).due
due_late now delay least fs octets long = omega arith

module _ (now : ℕ) (s : SystemState) (x : Sending) (draw : Draw) (net net' : Net)
    (one : SendsOne now (own s x.port) (written s x) draw net net') (link : ℕ) (channel : Channel)
    (alone : IsAlone link channel net) (carries : Carries channel) where
  abbrev octets : Direction → List (List ℕ)
  octets direction = said_at s (sender direction channel) (x ∷ [])

  still_alone : (new : Channel) → slice_get net'.channels link ≡ Some new → Grows now channel octets new
      → IsAlone link new net'
  still_alone new here grows = record {
    here = here;
    only = λ other direction way at there same.
        let was = carry_join net.channels net'.channels
        (sends_one_carry now (own s x.port) (written s x) draw net net' one) other at there in
        alone.only other direction way was.old was.here
        (sym (begins_same net.channels other way at was) ∙ same ∙ grows_begins now channel octets new grows direction);
    ends = λ e. alone.ends (sym grows.a ∙ e ∙ grows.b);
  }

  here_by : (answer : Option ℕ) → draw.answer ≡ answer → one.place ≡ link → GrowsIn now link channel octets net'
  here_by None is place =
      absurd (subst (IsLawful draw.bounds) is one.lawful
      (ap (λ (b : Bounds). b.loss) one.bounds
      ∙ ap (λ (c : Channel). c.bounds.loss)
      (same_there net.channels link one.channel channel (ap (slice_get net.channels) (sym place) ∙ one.here) alone.here)
      ∙ carries.lossless))
  here_by (Some delay) is place =
      let same : one.channel ≡ channel =
      same_there net.channels link one.channel channel (ap (slice_get net.channels) (sym place) ∙ one.here)
      alone.here in
      let way = one.direction in
      let f : Frame = frame (due_after (world_queue way channel) now delay) (written s x) in
      let new : Channel = with_queue way (world_queue way channel ++ f ∷ []) channel in
      let begins : own s x.port ≡ sender way channel = sym one.begins ∙ ap (sender way) same in
      let lawful = subst (IsLawful draw.bounds) is one.lawful in
      let bounds_are : draw.bounds ≡ channel.bounds = one.bounds ∙ ap (λ (c : Channel). c.bounds) same in
      let short : delay ≤ channel.bounds.max = subst (λ (b : Bounds). delay ≤ b.max) bounds_are lawful.1 in
      let long : channel.bounds.min ≤ delay = subst (λ (b : Bounds). b.min ≤ delay) bounds_are lawful.0 in
      let soon = due_soon now delay channel.bounds.max (world_queue way channel) (written s x) short in
      let late = due_late now delay channel.bounds.min (world_queue way channel) (written s x) long in
      let grows : Grows now channel octets new =
      entered_grows now way channel f octets soon late (said_here s (sender way channel) x [] begins)
      (λ direction other. said_elsewhere s (sender direction channel) x []
      (λ e. begins_apart channel alone.ends direction way other (sym e ∙ begins))) in
      let becomes : net' ≡ entered link way channel now (written s x) (Some delay) net =
      one.after ∙ ap (λ p. entered p way one.channel now (written s x) draw.answer net) place
      ∙ ap (λ c. entered link way c now (written s x) draw.answer net) same
      ∙ ap (λ o. entered link way channel now (written s x) o net) is in
      let there : slice_get net'.channels link ≡ Some new =
      ap (λ (n : Net). slice_get n.channels link) becomes ∙ get-set_same net.channels link channel new alone.here in
      record { new = new; grows = grows; alone = still_alone new there grows }

  elsewhere_stands : (answer : Option ℕ) → draw.answer ≡ answer → one.place ≢ link
      → slice_get net'.channels link ≡ Some channel
  elsewhere_stands None is place =
      ap (λ (n : Net). slice_get n.channels link)
      (one.after ∙ ap (λ o. entered one.place one.direction one.channel now (written s x) o net) is) ∙ alone.here
  elsewhere_stands (Some delay) is place =
      ap (λ (n : Net). slice_get n.channels link)
      (one.after ∙ ap (λ o. entered one.place one.direction one.channel now (written s x) o net) is)
      ∙ get-set_other net.channels one.place link _ (λ e. place (sym e)) ∙ alone.here

  elsewhere : one.place ≢ link → GrowsIn now link channel octets net'
  elsewhere place =
      let grows : Grows now channel octets channel =
      still_grows now channel octets (λ direction.
      said_elsewhere s (sender direction channel) x []
      (λ e. place (alone.only one.place direction one.direction one.channel one.here (one.begins ∙ e)))) in
      let there = elsewhere_stands draw.answer refl place in
      record { new = channel; grows = grows; alone = still_alone channel there grows }

  one_grows : GrowsIn now link channel octets net'
  one_grows = elim (same_place one.place link) [
    | inl place ↦ here_by draw.answer refl place
    | inr place ↦ elsewhere place
  ]

-- ---- all sends

-- the sends of a port are those of the first and those of the others
said_first : (s : SystemState) (port : PortId) (x : Sending) (xs : List Sending)
    → said_at s port (x ∷ xs) ≡ said_at s port (x ∷ []) ++ said_at s port xs
said_first s port x xs = go (same_identity (own s x.port) port)
  where
    go : (b : Bool)
        → map (written s) (if b then x ∷ sends_at s port xs else sends_at s port xs)
        ≡ map (written s) (if b then x ∷ [] else []) ++ map (written s) (sends_at s port xs)
    go true = refl
    go false = refl

still_carries : (now : ℕ) (old new : Channel) (octets : Direction → List (List ℕ)) → Grows now old octets new
    → Carries old → Carries new
still_carries now old new octets g carries =
    record { up = g.up ∙ carries.up; lossless = ap (λ (b : Bounds). b.loss) g.bounds ∙ carries.lossless }

pub sends_grow : (now : ℕ) (s : SystemState) (xs : List Sending) (draws : List Draw) (net net' : Net) (link : ℕ)
    (channel : Channel)
    → IsAlone link channel net → Carries channel → SendsAll now s xs draws net net'
    → GrowsIn now link channel (λ direction. said_at s (sender direction channel) xs) net'
sends_grow now s [] draws net net' link channel alone carries (none, same) = record {
  new = channel;
  grows = still_grows now channel (λ direction. []) (λ direction. refl);
  alone = subst (IsAlone link channel) (sym same) alone;
}
sends_grow now s (x ∷ xs) draws net net' link channel alone carries (inl (draw, rest, between, is, one, more)) =
    let first = one_grows now s x draw net between one link channel alone carries in
    let second = sends_grow now s xs rest between net' link first.new first.alone
    (still_carries now channel first.new _ first.grows carries) more in
    record {
      new = second.new;
      grows = grows_on now channel first.new second.new _ _ _ first.grows second.grows
          (λ direction. said_first s (sender direction channel) x xs
          ∙ ap (λ port. said_at s (sender direction channel) (x ∷ []) ++ said_at s port xs)
          (sym (grows_begins now channel _ first.new first.grows direction)));
      alone = second.alone;
    }
sends_grow now s (x ∷ xs) draws net net' link channel alone carries (inr (none, more)) =
    let later = sends_grow now s xs draws net net' link channel alone carries more in
    record {
      new = later.new;
      grows = subst (λ octets. Grows now channel octets later.new)
          (λ i direction. sym (said_elsewhere s (sender direction channel) x xs (unlinked direction)) i) later.grows;
      alone = later.alone;
    }
  where
    unlinked : (direction : Direction) → own s x.port ≢ sender direction channel
    unlinked direction e = let off = none link direction channel alone.here (sym e) in let on = carries.up in absurd cc
