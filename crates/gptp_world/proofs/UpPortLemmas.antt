-- Whether a link that is up is at a port, and that calls leave it so.
use Rattle.std.proofs.Common.{◌≡◌, ◌≢◌, ◌⊎◌, ℕ, zero, suc, Bool, true, false, ◌&&◌, ◌||◌, List, [], ◌∷◌, Option, Some, None, slice_get, slice_set, IfSome, IfNone, is_some, refl, ap, sym, ◌∙◌, inl, inr}
use Rattle.std.proofs.lemmas.Bool.Decides.{eqb_tells}
use Rattle.std.proofs.lemmas.Option.{none-some, same_Some}
use Rattle.std.proofs.Math.Dec.{eqb}
use Rattle.gptp_links.specs.declared.link.Direction.{Direction}
use Rattle.gptp_links.specs.declared.link.Direction.TheVariants.{FromA, FromB}
use Rattle.gptp_links.specs.Fate.{Draw}
use Rattle.gptp_links.specs.Queue.{Frame}
use Rattle.gptp_system.specs.declared.answer.Answer.{Answer}
use Rattle.gptp_system.specs.declared.sending.Sending.{Sending}
use Rattle.gptp_system.specs.Input.{Input}
use Rattle.gptp_system.specs.State.{SystemState}
use Rattle.gptp_vector.specs.declared.port.PortId.{PortId}
use Rattle.gptp_traffic.specs.declared.joined_link.Lane.{Lane}
use Rattle.gptp_world.specs.declared.net.Net.{Net as Between}
use Rattle.gptp_model.specs.Act.{all_timers, in_state, Calls}
use Rattle.gptp_model.specs.Changing.{is_link_end, is_up_at, CallsAll}
use Rattle.gptp_world.specs.Net.{between, IsNet, IsUpLane}
use Rattle.gptp_model.specs.World.{port_id}
use Rattle.gptp_model.specs.Sends.{entered, IsUnlinkedPort, SendsAll, SendsOne}
use Rattle.gptp_model.specs.World.{Channel, Net, WorldState, sender, with_queue}
use Rattle.gptp_world.proofs.NetLemmas.{known_channel}

-- ---- the ends of a link

end_tells : (number port : ℕ) (end : PortId)
    → ((is_link_end number port end ≡ true) × (end ≡ port_id number port))
    ⊎ ((is_link_end number port end ≡ false) × (end ≢ port_id number port))
end_tells number port end = by (eqb_tells end.clock number) (eqb_tells end.port port)
  where
    by : ((eqb end.clock number ≡ true) × (end.clock ≡ number))
        ⊎ ((eqb end.clock number ≡ false) × (end.clock ≢ number))
        → ((eqb end.port port ≡ true) × (end.port ≡ port)) ⊎ ((eqb end.port port ≡ false) × (end.port ≢ port))
        → ((is_link_end number port end ≡ true) × (end ≡ port_id number port))
        ⊎ ((is_link_end number port end ≡ false) × (end ≢ port_id number port))
    by (inl (test, clocks)) (inl (at, ports)) =
        inl (rw (test, at) refl, ap (λ c. port_id c end.port) clocks ∙ ap (λ p. port_id number p) ports)
    by (inl (test, clocks)) (inr (at, apart)) = inr (rw (test, at) refl, λ e. apart (ap (λ (p : PortId). p.port) e))
    by (inr (test, apart)) other = inr (rw test refl, λ e. apart (ap (λ (p : PortId). p.clock) e))

-- whether an end of a link is at a port
abbrev is_at : ℕ → ℕ → Channel → Bool
is_at number port channel = is_link_end number port channel.a || is_link_end number port channel.b

-- one is
record IsAt (number port : ℕ) (channel : Channel) : Type 0 where
  test : is_at number port channel ≡ true
  direction : Direction
  begins : sender direction channel ≡ port_id number port

-- none is
record IsNotAt (number port : ℕ) (channel : Channel) : Type 0 where
  test : is_at number port channel ≡ false
  apart : (direction : Direction) → sender direction channel ≢ port_id number port

at_tells : (number port : ℕ) (channel : Channel) → IsAt number port channel ⊎ IsNotAt number port channel
at_tells number port channel = by (end_tells number port channel.a) (end_tells number port channel.b)
  where
    neither : channel.a ≢ port_id number port → channel.b ≢ port_id number port → (direction : Direction)
        → sender direction channel ≢ port_id number port
    neither a b FromA = a
    neither a b FromB = b

    by : ((is_link_end number port channel.a ≡ true) × (channel.a ≡ port_id number port))
        ⊎ ((is_link_end number port channel.a ≡ false) × (channel.a ≢ port_id number port))
        → ((is_link_end number port channel.b ≡ true) × (channel.b ≡ port_id number port))
        ⊎ ((is_link_end number port channel.b ≡ false) × (channel.b ≢ port_id number port))
        → IsAt number port channel ⊎ IsNotAt number port channel
    by (inl (test, is)) other = inl (record { test = rw test refl; direction = FromA; begins = is })
    by (inr (test, apart)) (inl (at, is)) = inl (record { test = rw (test, at) refl; direction = FromB; begins = is })
    by (inr (test, apart)) (inr (at, off)) = inr (record { test = rw (test, at) refl; apart = neither apart off })

-- ---- a lane that begins at a port

later : (front rest : Bool) → rest ≡ true → (front || rest) ≡ true
later true rest is = refl
later false rest is = is

nowhere : (up : Bool) → (up && false) ≡ false
nowhere true = refl
nowhere false = refl

up_where : (channels : List Channel) (place : ℕ) (direction : Direction) (channel : Channel) (number port : ℕ)
    → slice_get channels place ≡ Some channel → sender direction channel ≡ port_id number port → channel.up ≡ true
    → is_up_at channels number port ≡ true
up_where [] place direction channel number port here begins up = absurd (none-some channel here)
up_where (c ∷ cs) zero direction channel number port here begins up = by (at_tells number port c)
  where
    by : IsAt number port c ⊎ IsNotAt number port c → is_up_at (c ∷ cs) number port ≡ true
    by (inl at) =
        let is : c.up ≡ true = ap (λ (l : Channel). l.up) (same_Some c channel here) ∙ up in
        let test = at.test in rw (is, test) refl
    by (inr off) = absurd (off.apart direction (ap (sender direction) (same_Some c channel here) ∙ begins))
up_where (c ∷ cs) (suc place) direction channel number port here begins up =
    later (c.up && is_at number port c) (is_up_at cs number port)
    (up_where cs place direction channel number port here begins up)

down_where : (channels : List Channel) (number port : ℕ)
    → ((place : ℕ) (direction : Direction) (channel : Channel) → slice_get channels place ≡ Some channel
    → sender direction channel ≡ port_id number port → channel.up ≡ false)
    → is_up_at channels number port ≡ false
down_where [] number port none = refl
down_where (c ∷ cs) number port none =
    by (at_tells number port c)
    (down_where cs number port (λ place direction channel. none (suc place) direction channel))
  where
    by : IsAt number port c ⊎ IsNotAt number port c → is_up_at cs number port ≡ false
        → is_up_at (c ∷ cs) number port ≡ false
    by (inl at) rest = let down = none 0 at.direction c refl at.begins in rw (down, rest) refl
    by (inr off) rest = let test = off.test in let up = nowhere c.up in rw (test, rest, up) refl

-- a lane of a link that is up begins there, or none does
pub up_tells : (net : Between) (number port : ℕ) (lane : Option Lane) → IsNet net
    → IfSome lane (IsUpLane net (port_id number port))
    → IfNone lane (IsUnlinkedPort (between net) (port_id number port))
    → is_up_at (between net).channels number port ≡ is_some lane
up_tells net number port None is up none = down_where (between net).channels number port none
up_tells net number port (Some lane) is up none =
    let known = known_channel net (port_id number port) lane is up.begins in
    let same : known.0 ≡ up.channel = same_Some known.0 up.channel (sym known.1 ∙ up.here) in
    up_where net.traffic.net.channels lane.link lane.direction known.0 number port known.1 known.2 (rw same up.up)

-- ---- calls

up_kept : (channels : List Channel) (place : ℕ) (old new : Channel) (number port : ℕ)
    → slice_get channels place ≡ Some old
    → new.up ≡ old.up → new.a ≡ old.a → new.b ≡ old.b
    → is_up_at (slice_set channels place new) number port ≡ is_up_at channels number port
up_kept [] place old new number port here up a b = refl
up_kept (c ∷ cs) zero old new number port here up a b =
    let is = same_Some c old here in rw (up, a, b, is) refl
up_kept (c ∷ cs) (suc place) old new number port here up a b =
    ap (λ rest. (c.up && is_at number port c) || rest) (up_kept cs place old new number port here up a b)

queued : (direction : Direction) (frames : List Frame) (channels : List Channel) (place : ℕ) (channel : Channel)
    (number port : ℕ)
    → slice_get channels place ≡ Some channel
    → is_up_at (slice_set channels place (with_queue direction frames channel)) number port ≡ is_up_at channels number
    port
queued FromA frames channels place channel number port here =
    up_kept channels place channel (with_queue FromA frames channel) number port here refl refl refl
queued FromB frames channels place channel number port here =
    up_kept channels place channel (with_queue FromB frames channel) number port here refl refl refl

entered_up : (place : ℕ) (direction : Direction) (channel : Channel) (now : ℕ) (octets : List ℕ) (answer : Option ℕ)
    (net : Net)
    (number port : ℕ) → slice_get net.channels place ≡ Some channel
    → is_up_at (entered place direction channel now octets answer net).channels number port ≡ is_up_at net.channels
    number port
entered_up place direction channel now octets None net number port here = refl
entered_up place direction channel now octets (Some delay) net number port here =
    queued direction _ net.channels place channel number port here

sends_one_up : (now : ℕ) (from : PortId) (octets : List ℕ) (draw : Draw) (net net' : Net) (number port : ℕ)
    → SendsOne now from octets draw net net' → is_up_at net'.channels number port ≡ is_up_at net.channels number port
sends_one_up now from octets draw net net' number port sent =
    ap (λ (n : Net). is_up_at n.channels number port) sent.after
    ∙ entered_up sent.place sent.direction sent.channel now octets draw.answer net number port sent.here

sends_all_up : (now : ℕ) (s : SystemState) (xs : List Sending) (draws : List Draw) (net net' : Net) (number port : ℕ)
    → SendsAll now s xs draws net net' → is_up_at net'.channels number port ≡ is_up_at net.channels number port
sends_all_up now s [] draws net net' number port sends = ap (λ (n : Net). is_up_at n.channels number port) sends.1
sends_all_up now s (x ∷ xs) draws net net' number port (inl (draw, rest, middle, is, sent, sends)) =
    sends_all_up now s xs rest middle net' number port sends ∙ sends_one_up now _ _ draw net middle number port sent
sends_all_up now s (x ∷ xs) draws net net' number port (inr (none, sends)) = sends_all_up now s xs draws net net' number
    port sends

pub calls_up : (place : ℕ) (input : Input) (w : WorldState) (draws : List Draw) (answer : Answer) (w' : WorldState)
    (number port : ℕ)
    → Calls place input w draws answer w' → is_up_at w'.net.channels number port ≡ is_up_at w.net.channels number port
calls_up place input w draws answer w' number port calls =
    ap (λ (v : WorldState). is_up_at v.net.channels number port) calls.is
    ∙ sends_all_up w.time calls.after calls.sends draws (all_timers place (in_state calls.after calls.station) w.net)
    calls.net number port
    calls.sent

pub calls_all_up : (place : ℕ) (inputs : List Input) (w : WorldState) (draws : List Draw) (w' : WorldState)
    (number port : ℕ)
    → CallsAll place inputs w draws w' → is_up_at w'.net.channels number port ≡ is_up_at w.net.channels number port
calls_all_up place [] w draws w' number port calls = ap (λ (v : WorldState). is_up_at v.net.channels number port)
    calls.1
calls_all_up place (input ∷ inputs) w draws w' number port (first, rest, middle, answer, is, one, more) =
    calls_all_up place inputs middle rest w' number port more
    ∙ calls_up place input w first answer middle number port one
