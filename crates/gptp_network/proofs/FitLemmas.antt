-- What fails no test of a network fits it.
use Rattle.std.proofs.Common.{◌≡◌, ◌≢◌, ◌≤◌, ◌<◌, ℕ, zero, suc, ℤ, ◌≤ℤ◌, ◌==◌, ◌&&◌, ◌||◌, Bool, true, false, nat_le, if◌then◌else◌, List, [], ◌∷◌, length, Option, Some, None, slice_get, refl, sym, subst, ◌∙◌, inl, inr, arith, eq-eqb, eqb-true}
use Rattle.std.specs.Prelude.{int_le, nat_lt, not}
use Rattle.std.specs.List.{All, list_all, list_any}
use Rattle.std.proofs.lemmas.Bool.{and_parts, leb-true}
use Rattle.std.proofs.lemmas.Bool.Decides.{nat_tests}
use Rattle.std.proofs.lemmas.Int.{ints}
use Rattle.std.proofs.lemmas.Option.{none-some, same_Some}
use Rattle.gptp_lists.proofs.SystemSpecLemmas.{slice_get-In}
use Rattle.gptp_vector.specs.declared.port.PortId.{PortId}
use Rattle.gptp_roles.specs.Selection.{clock_of}
use Rattle.gptp_setup.specs.Intervals.{interval_of, IsLog}
use Rattle.gptp_setup.specs.declared.setup.Params.{Params}
use Rattle.gptp_scenario.specs.Network.{members_have_clock, has_port, is_any_slower, is_member_in_range, is_member_timed, is_taken, is_wire_in_range, link_fault, same_port, smallest_of, system_fault, CanAddLink, CanAddSystem, IsFree, IsNewClock, IsMember, IsPort, NetworkState}
use Rattle.gptp_scenario.specs.Params.{are_counts_in_range, are_in_range, are_intervals_in_range, are_stamps_in_range, are_times_in_range, is_log, is_timed, params_fault, AreInRange, KeepParams}
use Rattle.gptp_scenario.specs.declared.change.Change.{Change}
use Rattle.gptp_scenario.specs.declared.change.Change.TheVariants as changes
use Rattle.gptp_scenario.specs.declared.fault.NetworkFault.{NetworkFault}
use Rattle.gptp_scenario.specs.declared.fault.NetworkFault.TheVariants as faults
use Rattle.gptp_scenario.specs.declared.network.SystemSpec.{SystemSpec}
use Rattle.gptp_scenario.specs.declared.network.LinkSpec.{LinkSpec}
use Rattle.gptp_scenario.proofs.LogLemmas.{all_prompt, interval_least}
use Rattle.gptp_network.specs.Events.{change_fault, IsPossibleChange, IsInRange}
use Rattle.gptp_network.specs.Links.{port_numbered}
use Rattle.gptp_network.proofs.PassLemmas.{passes}

-- ---- tests

-- a test that didn't fail, and those after it
passed : (fails : Bool) (fault : NetworkFault) (rest : Option NetworkFault)
    → (if fails then Some fault else rest) ≡ None → (fails ≡ false) × (rest ≡ None)
passed true fault rest is = absurd cc
passed false fault rest is = (refl, is)

no_fewer : (a b : ℕ) → nat_le a b ≡ false → b < a
no_fewer a b is = grind (arith, nat_tests)

no_less : (a b : ℕ) → nat_lt a b ≡ false → b ≤ a
no_less a b is = grind (arith, nat_tests)

was_true : (b : Bool) → not b ≡ false → b ≡ true
was_true true is = refl
was_true false is = absurd cc

neither : (a b : Bool) → (a || b) ≡ false → (a ≡ false) × (b ≡ false)
neither true b is = absurd cc
neither false b is = (refl, is)

none_passes : {X : Type 0} (test : X → Bool) (xs : List X) → list_any test xs ≡ false → (i : ℕ) (x : X)
    → slice_get xs i ≡ Some x → test x ≡ false
none_passes test [] none i x there = absurd (none-some x there)
none_passes test (y ∷ ys) none zero x there =
    subst (λ z. test z ≡ false) (same_Some y x there) (neither (test y) (list_any test ys) none).0
none_passes test (y ∷ ys) none (suc i) x there =
    none_passes test ys (neither (test y) (list_any test ys) none).1 i x there

each_passes : {X : Type 0} (test : X → Bool) (P : X → Type 0) → ((x : X) → test x ≡ true → P x) → (xs : List X)
    → list_all test xs ≡ true → All P xs
each_passes test P so [] is k d within = absurd (omega arith)
each_passes test P so (x ∷ xs) is zero d within = so x (and_parts (test x) (list_all test xs) is).0
each_passes test P so (x ∷ xs) is (suc k) d within =
    each_passes test P so xs (and_parts (test x) (list_all test xs) is).1 k d (omega arith)

-- ---- systems

is_fresh : (systems : List SystemSpec) (c : ℕ) → members_have_clock systems c ≡ false → IsNewClock systems c
is_fresh systems c none i m there same =
    let differ = none_passes (λ (x : SystemSpec). clock_of x.identity == c) systems none i m there in
    let e : true ≡ false = sym (eq-eqb (clock_of m.identity) c same) ∙ differ in cc

is_log_so : (log : ℤ) → is_log log ≡ true → IsLog log
is_log_so log is = record { low = grind (arith, ints, nat_tests); high = grind (arith, ints, nat_tests) }

in_limits : (m : SystemSpec) → is_member_in_range m ≡ true → IsMember m
in_limits m is = record {
  ports = grind (arith, nat_tests);
  phase = grind (arith, nat_tests);
  drift = record { low = grind (arith, ints, nat_tests); high = grind (arith, ints, nat_tests) };
  many = grind (arith, nat_tests);
  logs = each_passes is_log IsLog is_log_so m.intervals.items (and_parts _ (list_all is_log m.intervals.items) is).1;
}

not_rarer : (pdelay log : ℤ) → int_le pdelay log ≡ true → pdelay ≤ℤ log
not_rarer pdelay log is = grind (arith, ints, nat_tests)

pub system_fits : (n : NetworkState) (m : SystemSpec) → system_fault n m ≡ None → CanAddSystem n m
system_fits n m none =
    let room = passed (nat_le 512 (length n.systems)) _ _ none in
    let range = passed (not (is_member_in_range m)) _ _ room.1 in
    let timing = passed (not (is_member_timed n.params m)) _ _ range.1 in
    let clocks = passed (members_have_clock n.systems (clock_of m.identity)) _ _ timing.1 in
    let delays = passed (list_any (is_any_slower n.links) m.intervals.items) _ None clocks.1 in
    record {
      room = no_fewer 512 (length n.systems) room.0;
      limits = in_limits m (was_true (is_member_in_range m) range.0);
      timed = each_passes (λ log. int_le n.params.pdelay log) (λ log. n.params.pdelay ≤ℤ log)
          (not_rarer n.params.pdelay) m.intervals.items (was_true (is_member_timed n.params m) timing.0);
      fresh = is_fresh n.systems (clock_of m.identity) clocks.0;
      prompt = all_prompt n.links m.intervals.items delays.0;
    }

-- ---- links

same_itself : (p : PortId) → same_port p p ≡ true
same_itself p = rw (eq-eqb p.clock p.clock refl, eq-eqb p.port p.port refl) refl

is_free : (links : List LinkSpec) (p : PortId) → is_taken links p ≡ false → IsFree links p
is_free links p none i w there is =
    let differ = neither (same_port w.a p) (same_port w.b p)
    (none_passes (λ (x : LinkSpec). same_port x.a p || same_port x.b p) links none i w there) in
    elim is [
      | inl a ↦ let e : true ≡ false = sym (subst (λ (q : PortId). same_port q p ≡ true) (sym a) (same_itself p))
          ∙ differ.0 in cc
      | inr b ↦ let e : true ≡ false = sym (subst (λ (q : PortId). same_port q p ≡ true) (sym b) (same_itself p))
          ∙ differ.1 in cc
    ]

is_port : (systems : List SystemSpec) (p : PortId) → has_port systems p ≡ true → 1 ≤ p.port → IsPort systems p
is_port systems p is first =
    let (m, member, found) =
    passes (λ (x : SystemSpec). (clock_of x.identity == p.clock) && nat_le p.port x.ports) systems is in
    let (place, there) = slice_get-In m systems member in
    let parts = and_parts (clock_of m.identity == p.clock) (nat_le p.port m.ports) found in
    record {
      place = place;
      system = m;
      there = there;
      clock = eqb-true (clock_of m.identity) p.clock parts.0;
      first = first;
      last = leb-true p.port m.ports parts.1;
    }

joins_two : (w : LinkSpec) → (w.a.clock == w.b.clock) ≡ false → w.a.clock ≢ w.b.clock
joins_two w differ same = let e : true ≡ false = sym (eq-eqb w.a.clock w.b.clock same) ∙ differ in cc

-- the values of a link lie in their ranges
record IsInBounds (w : LinkSpec) : Type 0 where
  a : 1 ≤ w.a.port
  b : 1 ≤ w.b.port
  positive : 1 ≤ w.bounds.min
  ordered : w.bounds.min ≤ w.bounds.max
  short : w.bounds.max ≤ 16000000000
  share : w.bounds.loss ≤ 1000

in_bounds : (w : LinkSpec) → is_wire_in_range w ≡ true → IsInBounds w
in_bounds w is = record {
  a = grind (arith, nat_tests);
  b = grind (arith, nat_tests);
  positive = grind (arith, nat_tests);
  ordered = grind (arith, nat_tests);
  short = grind (arith, nat_tests);
  share = grind (arith, nat_tests);
}

pub link_fits : (n : NetworkState) (w : LinkSpec) → w.bounds.link ≡ length n.links → link_fault n w ≡ None
    → CanAddLink n w
link_fits n w number none =
    let ports_there = has_port n.systems w.a && has_port n.systems w.b in
    let room = passed (nat_le 2048 (length n.links)) _ _ none in
    let range = passed (not (is_wire_in_range w)) _ _ room.1 in
    let self = passed (w.a.clock == w.b.clock) _ _ range.1 in
    let ports = passed (not ports_there) _ _ self.1 in
    let free = passed (is_taken n.links w.a || is_taken n.links w.b) _ _ ports.1 in
    let delay = passed (nat_lt (interval_of (smallest_of n)) w.bounds.max) _ None free.1 in
    let bounds = in_bounds w (was_true (is_wire_in_range w) range.0) in
    let both = and_parts (has_port n.systems w.a) (has_port n.systems w.b) (was_true ports_there ports.0) in
    let taken = neither (is_taken n.links w.a) (is_taken n.links w.b) free.0 in
    let short : w.bounds.max ≤ interval_of (smallest_of n) = no_less _ w.bounds.max delay.0 in
    record {
      room = no_fewer 2048 (length n.links) room.0;
      limits = record {
        number = number;
        fit = record {
          positive = bounds.positive;
          ordered = bounds.ordered;
          short = bounds.short;
          share = bounds.share;
        };
        prompt = λ log member. let least = interval_least n log member in omega (arith, least, short);
        a = is_port n.systems w.a both.0 bounds.a;
        b = is_port n.systems w.b both.1 bounds.b;
        apart = joins_two w self.0;
      };
      free_a = is_free n.links w.a taken.0;
      free_b = is_free n.links w.b taken.1;
    }

-- ---- what is the same for all systems

in_range : (p : Params) → are_in_range p ≡ true → AreInRange p
in_range p is =
    let whole = and_parts (are_intervals_in_range p && are_counts_in_range p && are_times_in_range p)
    (are_stamps_in_range p) is in
    let counted = and_parts (are_intervals_in_range p && are_counts_in_range p) (are_times_in_range p) whole.0 in
    let intervals = and_parts (are_intervals_in_range p) (are_counts_in_range p) counted.0 in
    let front = and_parts (is_log p.announce && is_log p.sync) (is_log p.pdelay) intervals.0 in
    let first = and_parts (is_log p.announce) (is_log p.sync) front.0 in
    let counts : are_counts_in_range p ≡ true = intervals.1 in
    let times : are_times_in_range p ≡ true = counted.1 in
    let stamps : are_stamps_in_range p ≡ true = whole.1 in
    record {
      params = record {
        announce = is_log_so p.announce first.0;
        sync = is_log_so p.sync first.1;
        pdelay = is_log_so p.pdelay front.1;
        timeout-least = grind (arith, nat_tests);
        timeout = grind (arith, nat_tests);
        lost-least = grind (arith, nat_tests);
        lost = grind (arith, nat_tests);
        threshold-least = grind (arith, nat_tests);
        threshold = grind (arith, nat_tests);
        turnaround-least = grind (arith, nat_tests);
        turnaround = grind (arith, nat_tests);
        residence-least = grind (arith, nat_tests);
        residence = grind (arith, nat_tests);
        sync-timeout = grind (arith, nat_tests);
        granularity = grind (arith, nat_tests);
        noise = grind (arith, nat_tests);
        window-least = grind (arith, nat_tests);
        window = grind (arith, nat_tests);
      };
      timeout = grind (arith, nat_tests);
      lost-least = grind (arith, nat_tests);
      threshold-least = grind (arith, nat_tests);
      threshold = grind (arith, nat_tests);
    }

go_together : (p : Params) → AreInRange p → is_timed p ≡ true → KeepParams p
go_together p ranges is = record {
  ranges = ranges;
  answered = grind (arith, nat_tests);
  requests = grind (arith, nat_tests);
  relayed = grind (arith, nat_tests);
}

pub params_fit : (p : Params) → params_fault p ≡ None → KeepParams p
params_fit p none =
    let range = passed (not (are_in_range p)) _ _ none in
    let timing = passed (not (is_timed p)) _ None range.1 in
    go_together p (in_range p (was_true (are_in_range p) range.0)) (was_true (is_timed p) timing.0)

-- ---- changes

is_there : (there : Bool) → (if not there then Some faults.NoSuchPort else None) ≡ None → there ≡ true
is_there there none = was_true there (passed (not there) _ None none).0

pub change_fits : (n : NetworkState) (change : Change) → change_fault n change ≡ None → IsInRange change
    → IsPossibleChange n change
change_fits n (changes.LinkDown name port) none range = is_there (is_taken n.links (port_numbered name port)) none
change_fits n (changes.LinkUp name port) none range = is_there (is_taken n.links (port_numbered name port)) none
change_fits n (changes.LinkSet name port least greatest loss) none range =
    let there = is_taken n.links (port_numbered name port) in
    let order = passed (nat_lt greatest least) _ _ none in
    let taken = passed (not there) _ _ order.1 in
    let delay = passed (nat_lt (interval_of (smallest_of n)) greatest) _ None taken.1 in (
      was_true there taken.0,
      record {
        positive = range.0;
        ordered = no_less greatest least order.0;
        prompt = no_less (interval_of (smallest_of n)) greatest delay.0;
        share = range.1;
      },
    )
change_fits n (changes.Fail name) none range = is_there (members_have_clock n.systems name) none
change_fits n (changes.Recover name) none range = is_there (members_have_clock n.systems name) none
change_fits n (changes.Priority1 name value) none range = is_there (members_have_clock n.systems name) none
change_fits n (changes.Inject name port frame) none range = is_there (is_taken n.links (port_numbered name port)) none
