-- Which ports measure their links: after a step of a system, and as a start finds them.
use Rattle.std.proofs.Common.{◌≡◌, ◌≢◌, ◌⊎◌, ℕ, zero, suc, ◌+◌, ◌<◌, ◌≤◌, Bool, true, false, List, [], ◌∷◌, length, Some, IsSome, slice_get, refl, sym, ap, subst, ◌∙◌, inl, inr, arith, eq-eqb}
use Rattle.std.specs.Prelude.{if◌then◌else◌, cond, ◌==◌, ◌&&◌, ◌||◌}
use Rattle.std.specs.List.{filter, range_with_len}
use Rattle.std.specs.Option.{option_and_then}
use Rattle.std.proofs.lemmas.Bool.Decides.{nat_tests}
use Rattle.std.proofs.lemmas.Option.{none-some, same_Some}
use Rattle.gptp_lists.specs.Members.{In}
use Rattle.gptp_messages.specs.declared.message.Message.{Message}
use Rattle.gptp_messages.specs.declared.message.Message.TheVariants as messages
use Rattle.gptp_links.specs.declared.link.Direction.{Direction}
use Rattle.gptp_links.specs.declared.link.Direction.TheVariants.{FromA, FromB}
use Rattle.gptp_system.specs.declared.answer.Answer.{Answer}
use Rattle.gptp_system.specs.declared.port.Port.{Port}
use Rattle.gptp_system.specs.declared.sending.Sending.{Sending}
use Rattle.gptp_setup.specs.declared.timer.Timer.TheVariants as timers
use Rattle.gptp_system.specs.Input.{Input, Steps, PortUp, PortDown, Frame, Expires, Priority}
use Rattle.gptp_system.specs.Measures.{only_at, part_answered, part_asked, part_down, part_heard, measure_at, HearsPart, IsPartAfter, Part}
use Rattle.gptp_system.specs.State.{SystemState, clock}
use Rattle.gptp_system.specs.Steps.{HasPortNumber, IsUp}
use Rattle.gptp_pdelay.specs.Peer.{after_interval, reset_peer}
use Rattle.gptp_system.proofs.MeasureLemmas.{steps_measure}
use Rattle.gptp_system.proofs.SystemLemmas.{up_is_port}
use Rattle.gptp_model.specs.declared.station.Station.{Station}
use Rattle.gptp_model.specs.Changing.{is_link_end, is_up_at, up_ports}
use Rattle.gptp_model.specs.World.{Channel, Net, sender}
use Rattle.gptp_lists.proofs.PlaceLemmas.{member_there, same_place}
use Rattle.gptp_model.proofs.SteadyLemmas.{same_ports}

-- ---- one port

-- its Pdelay timer runs
abbrev Runs : Part → Type 0
Runs x = IsSome x.pdelay

-- what is done at one port alone keeps a timer running, where it does so there
at_kept : (f : Part → Part) (b : Bool) (x : Part) → (Runs x → Runs (f x)) → Runs x → Runs (if b then f x else x)
at_kept f true x keeps runs = keeps runs
at_kept f false x keeps runs = runs

only_kept : (p : ℕ) (f : Part → Part) (n : ℕ) (x x' : Part) → x' ≡ only_at p f n x → (Runs x → Runs (f x)) → Runs x
    → Runs x'
only_kept p f n x x' is keeps runs = subst Runs (sym is) (at_kept f (n == p) x keeps runs)

-- and there it is done
only_here : (p : ℕ) (f : Part → Part) (x x' : Part) → x' ≡ only_at p f p x → x' ≡ f x
only_here p f x x' is = is ∙ by (p == p) (eq-eqb p p refl)
  where
    by : (b : Bool) → b ≡ true → (if b then f x else x) ≡ f x
    by true here = refl
    by false here = absurd cc

heard_kept : (s : SystemState) (now : ℕ) (m : Message) (x : Part) → Runs x → Runs (part_heard s now m x)
heard_kept s now (messages.Announce m) x runs = runs
heard_kept s now (messages.Sync head) x runs = runs
heard_kept s now (messages.FollowUp m) x runs = runs
heard_kept s now (messages.PdelayReq head) x runs = runs
heard_kept s now (messages.PdelayResp m) x runs = runs
heard_kept s now (messages.PdelayRespFollowUp m) x runs = runs

frame_kept : (s : SystemState) (now p : ℕ) (octets : List ℕ) (n : ℕ) (x x' : Part)
    → HearsPart s now p octets n x x' → Runs x → Runs x'
frame_kept s now p octets n x x' (inl (m, reads, is)) runs =
    only_kept p (part_heard s now m) n x x' is (heard_kept s now m x) runs
frame_kept s now p octets n x x' (inr (none, is)) runs = subst Runs (sym is) runs

-- Only that its link goes down stops the Pdelay timer of a port.
part_kept : (s : SystemState) (now : ℕ) (input : Input) (n : ℕ) (x x' : Part) → input ≢ PortDown n
    → IsPartAfter s now input n x x' → Runs x → Runs x'
part_kept s now (PortUp p) n x x' not_down is runs =
    only_kept p (part_asked s now reset_peer) n x x' is (λ r. refl) runs
part_kept s now (PortDown p) n x x' not_down is runs = subst Runs (sym is) (by (n == p) refl)
  where
    by : (b : Bool) → (n == p) ≡ b → Runs (if b then part_down x else x)
    by true here = absurd (not_down (ap PortDown (grind (arith, nat_tests))))
    by false elsewhere = runs
part_kept s now (Frame p octets) n x x' not_down is runs = frame_kept s now p octets n x x' is runs
part_kept s now (Expires (timers.Pdelay p)) n x x' not_down is runs =
    only_kept p (part_asked s now after_interval) n x x' is (λ r. refl) runs
part_kept s now (Expires (timers.Respond p)) n x x' not_down is runs =
    only_kept p part_answered n x x' is (λ r. r) runs
part_kept s now (Expires (timers.Announce p)) n x x' not_down is runs = subst Runs (sym is) runs
part_kept s now (Expires (timers.Age p)) n x x' not_down is runs = subst Runs (sym is) runs
part_kept s now (Expires timers.Sync) n x x' not_down is runs = subst Runs (sym is) runs
part_kept s now (Expires timers.Relay) n x x' not_down is runs = subst Runs (sym is) runs
part_kept s now (Expires timers.Lapse) n x x' not_down is runs = subst Runs (sym is) runs
part_kept s now (Priority value) n x x' not_down is runs = subst Runs (sym is) runs

-- ---- a step

-- either the link of this port goes down, or that isn't the input
pub is_down : (input : Input) (p : ℕ) → (input ≡ PortDown p) ⊎ (input ≢ PortDown p)
is_down (PortUp q) p = inr (λ same. absurd cc)
is_down (PortDown q) p = by (same_place q p)
  where
    by : (q ≡ p) ⊎ (q ≢ p) → (PortDown q ≡ PortDown p) ⊎ (PortDown q ≢ PortDown p)
    by (inl same) = inl (ap PortDown same)
    by (inr apart) = inr (λ same. apart cc)
is_down (Frame q octets) p = inr (λ same. absurd cc)
is_down (Expires timer) p = inr (λ same. absurd cc)
is_down (Priority value) p = inr (λ same. absurd cc)

-- the timer of the port at a place
port_runs : (s : SystemState) (i : ℕ) (q : Port) → slice_get s.ports i ≡ Some q → IsUp s (suc i) → Runs (measure_at q)
port_runs s i q there up = subst (λ o. IsSome (option_and_then (λ (r : Port). r.pdelay) o)) there up

runs_port : (s : SystemState) (i : ℕ) (q : Port) → slice_get s.ports i ≡ Some q → Runs (measure_at q) → IsUp s (suc i)
runs_port s i q there runs = subst (λ o. IsSome (option_and_then (λ (r : Port). r.pdelay) o)) (sym there) runs

-- a port that measured its link still does, unless the link went down
pub stays_up : (input : Input) (now : ℕ) (s s' : SystemState) (sends : List Sending) (answer : Answer) (p : ℕ)
    → Steps input now s s' sends answer → input ≢ PortDown p → IsUp s p → IsUp s' p
stays_up input now s s' sends answer zero steps not_down up = up
stays_up input now s s' sends answer (suc i) steps not_down up =
    let port = up_is_port s (suc i) up in
    let most = port.most in
    let count = same_ports input now s s' sends answer steps in
    let now_there = member_there s'.ports i (omega (arith, count)) in
    let was = steps_measure input now s s' sends answer steps i now_there.0 now_there.1 in
    runs_port s' i now_there.0 now_there.1
    (part_kept s now input (suc i) (measure_at was.0) (measure_at now_there.0) not_down was.2
    (port_runs s i was.0 was.1 up))

-- a port whose link comes up measures it
pub comes_up : (now : ℕ) (s s' : SystemState) (sends : List Sending) (answer : Answer) (p : ℕ)
    → Steps (PortUp p) now s s' sends answer → HasPortNumber s p → IsUp s' p
comes_up now s s' sends answer zero steps port = let least = port.least in absurd (omega arith)
comes_up now s s' sends answer (suc i) steps port =
    let most = port.most in
    let count = same_ports (PortUp (suc i)) now s s' sends answer steps in
    let now_there = member_there s'.ports i (omega (arith, count)) in
    let was = steps_measure (PortUp (suc i)) now s s' sends answer steps i now_there.0 now_there.1 in
    let asked = only_here (suc i) (part_asked s now reset_peer) (measure_at was.0) (measure_at now_there.0) was.2 in
    runs_port s' i now_there.0 now_there.1 (subst Runs (sym asked) refl)

-- ---- the ports of a system that starts

in_filter : (test : ℕ → Bool) (xs : List ℕ) (x : ℕ) → test x ≡ true → In x xs → In x (filter test xs)
in_filter test [] x passes among = among
in_filter test (y ∷ ys) x passes among = by (test y) refl among (λ rest. in_filter test ys x passes rest)
  where
    by : (b : Bool) → test y ≡ b → In x (y ∷ ys) → (In x ys → In x (filter test ys)) → In x (filter test (y ∷ ys))
    by true is (inl here) ih = rw is (inl here)
    by true is (inr rest) ih = rw is (inr (ih rest))
    by false is (inl here) ih = let both : true ≡ false = sym passes ∙ ap test here ∙ is in absurd cc
    by false is (inr rest) ih = rw is (ih rest)

filter_in : (test : ℕ → Bool) (xs : List ℕ) (x : ℕ) → In x (filter test xs) → In x xs
filter_in test [] x among = among
filter_in test (y ∷ ys) x among = by (test y) among (λ rest. filter_in test ys x rest)
  where
    by : (b : Bool) → In x (cond b (y ∷ filter test ys) (filter test ys)) → (In x (filter test ys) → In x ys)
        → In x (y ∷ ys)
    by true (inl here) ih = inl here
    by true (inr rest) ih = inr (ih rest)
    by false rest ih = inr (ih rest)

in_range : (a n k : ℕ) → a ≤ k → k < a + n → In k (range_with_len a n)
in_range a zero k least most = absurd (omega arith)
in_range a (suc n) k least most = by (a == k) refl (λ above. in_range (a + 1) n k above (omega arith))
  where
    by : (b : Bool) → (a == k) ≡ b → (a + 1 ≤ k → In k (range_with_len (a + 1) n))
        → (k ≡ a) ⊎ In k (range_with_len (a + 1) n)
    by true same ih = inl (grind (arith, nat_tests))
    by false other ih = inr (ih (grind (arith, nat_tests)))

range_in : (a n k : ℕ) → In k (range_with_len a n) → (a ≤ k) × (k < a + n)
range_in a zero k among = absurd among
range_in a (suc n) k (inl here) = (omega arith, omega arith)
range_in a (suc n) k (inr rest) = let ih = range_in (a + 1) n k rest in (omega (arith, ih), omega (arith, ih))

-- a link is at the ports that it joins
ends : (direction : Direction) (channel : Channel)
    → (is_link_end (sender direction channel).clock (sender direction channel).port channel.a
    || is_link_end (sender direction channel).clock (sender direction channel).port channel.b) ≡ true
ends FromA channel = grind (arith, nat_tests)
ends FromB channel = grind (arith, nat_tests)

both_true : (a b : Bool) → a ≡ true → b ≡ true → (a && b) ≡ true
both_true a b first second = rw (first, second) refl

first_true : (a b : Bool) → a ≡ true → (a || b) ≡ true
first_true a b is = rw is refl

second_true : (a b : Bool) → b ≡ true → (a || b) ≡ true
second_true true b is = refl
second_true false b is = is

-- a link that is up begins at the port
up_at : (channels : List Channel) (link : ℕ) (direction : Direction) (channel : Channel)
    → slice_get channels link ≡ Some channel → channel.up ≡ true
    → is_up_at channels (sender direction channel).clock (sender direction channel).port ≡ true
up_at [] link direction channel here up = absurd (none-some channel here)
up_at (c ∷ cs) zero direction channel here up =
    let number = (sender direction channel).clock in
    let port = (sender direction channel).port in
    let joined : (channel.up && (is_link_end number port channel.a || is_link_end number port channel.b)) ≡ true =
    both_true channel.up _ up (ends direction channel) in
    subst (λ x. is_up_at (x ∷ cs) number port ≡ true) (sym (same_Some c channel here))
    (first_true _ (is_up_at cs number port) joined)
up_at (c ∷ cs) (suc link) direction channel here up =
    second_true _ (is_up_at cs (sender direction channel).clock (sender direction channel).port)
    (up_at cs link direction channel here up)

-- the ports that a start brings up are its own
pub brought_ports : (station : Station) (net : Net) (p : ℕ) → In p (up_ports station net)
    → HasPortNumber station.system p
brought_ports station net p among =
    let numbers = range_with_len 1 (length station.system.ports) in
    let within = range_in 1 (length station.system.ports) p
    (filter_in (λ q. is_up_at net.channels (clock station.system) q) numbers p among) in
    record { least = within.0; most = let below = within.1 in omega arith }

-- and each where a link that is up begins is among them
pub brings_port : (station : Station) (net : Net) (link : ℕ) (direction : Direction) (channel : Channel)
    → slice_get net.channels link ≡ Some channel → channel.up ≡ true
    → clock station.system ≡ (sender direction channel).clock
    → HasPortNumber station.system (sender direction channel).port
    → In (sender direction channel).port (up_ports station net)
brings_port station net link direction channel here up named port =
    let most = port.most in
    in_filter (λ q. is_up_at net.channels (clock station.system) q) (range_with_len 1 (length station.system.ports))
    (sender direction channel).port (rw named (up_at net.channels link direction channel here up))
    (in_range 1 (length station.system.ports) (sender direction channel).port port.least (omega arith))
