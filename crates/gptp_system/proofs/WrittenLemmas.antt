-- The places of ports, which are numbered from 1.
use Rattle.std.proofs.Common.{◌≡◌, ℕ, zero, suc, ◌+◌, ◌-◌, ◌≤◌, List, [], ◌∷◌, length, Some, None, get_or, set, sym, ap, ◌∙◌, arith}
use Rattle.std.specs.Prelude.{slice_get}
use Rattle.std.specs.Option.{option_map}
use Rattle.arrayvec.specs.ArrayVec.{ArrayVec, with_items}
use Rattle.arrayvec.proofs.ArrayVecLemmas.{items-with_items}
use Rattle.gptp_receipt.specs.declared.held.Held.{Held}
use Rattle.gptp_receipt.specs.Held.{received}
use Rattle.gptp_roles.specs.Choice.{ArePlaced}
use Rattle.gptp_system.specs.declared.port.Port.{Port}
use Rattle.gptp_system.specs.declared.state.State.{State}
use Rattle.gptp_system.specs.Ready.{IsReadyPort, IsReady, IsRecent, state_of}
use Rattle.gptp_system.specs.State.{SystemState, number, change_at, change, on_port, on_held}
use Rattle.gptp_system.proofs.ChangedLemmas.{change-length}
use Rattle.gptp_system.proofs.PlaceLemmas.{all_change, change_is, number_is}

-- ---- by the index, which counts from 0

get-change_at : {X : Type 0} (f : X → X) (i : ℕ) (xs : List X) (x : X) → slice_get xs i ≡ Some x
    → slice_get (change_at f i xs) i ≡ Some (f x)
get-change_at f i [] x here = absurd cc
get-change_at f zero (y ∷ xs) x here = ap (option_map f) here
get-change_at f (suc i) (y ∷ xs) x here = get-change_at f i xs x here

-- ---- by the number

-- what stands at a port's number after a change
pub number-change : {X : Type 0} (f : X → X) (p : ℕ) (xs : List X) (x : X) → number xs p ≡ Some x
    → number (change f p xs) p ≡ Some (f x)
number-change f zero xs x here = absurd cc
number-change f (suc i) xs x here = get-change_at f i xs x here

-- ---- what a write through a place of a vector leaves

written : {X : Type 0} (v : ArrayVec X) (f : X → X) (p i : ℕ) (xs : List X) (d y : X) → 1 ≤ p → p ≤ length v.items
    → xs ≡ v.items → i ≡ p - 1
    → y ≡ f (get_or xs i d) → (with_items v (set xs i y)).items ≡ change f p v.items
written {X = X} v f p i xs d y least most items place value =
    let new : set xs i y ≡ change f p v.items =
    ap (λ z. set xs i z) value ∙ ap (λ ys. set ys i (f (get_or ys i d))) items
    ∙ ap (λ j. set v.items j (f (get_or v.items j d))) place
    ∙ change_is f v.items p d least most in
    let kept : length (set xs i y) ≡ length v.items = ap length new ∙ change-length f p v.items in
    items-with_items v (set xs i y) kept ∙ new

-- what stood at the place before
pub number_at : {X : Type 0} (items : List X) (p i : ℕ) (xs : List X) (d : X) → 1 ≤ p → p ≤ length items → xs ≡ items
    → i ≡ p - 1 → number items p ≡ Some (get_or xs i d)
number_at {X = X} items p i xs d least most same place =
    number_is items p d least most
    ∙ sym (ap (λ (ys : List X). Some (get_or ys i d)) same ∙ ap (λ (j : ℕ). Some (get_or items j d)) place)

-- a port of a state is written
pub port_written : (s : State) (f : Port → Port) (p i : ℕ) (xs : List Port) (d y : Port) → 1 ≤ p
    → p ≤ length s.ports.items → xs ≡ s.ports.items → i ≡ p - 1
    → y ≡ f (get_or xs i d) → state_of (record s { ports = with_items s.ports (set xs i y) }) ≡ on_port p f (state_of s)
port_written s f p i xs d y least most items place value =
    ap (λ (qs : List Port). record (state_of s) { ports = qs })
    (written s.ports f p i xs d y least most items place value)

-- what a port holds is written
pub held_written : (s : State) (f : Held → Held) (p i : ℕ) (xs : List Held) (d y : Held) → 1 ≤ p
    → p ≤ length s.held.items → xs ≡ s.held.items → i ≡ p - 1
    → y ≡ f (get_or xs i d) → state_of (record s { held = with_items s.held (set xs i y) }) ≡ on_held p f (state_of s)
held_written s f p i xs d y least most items place value =
    ap (λ (hs : List Held). record (state_of s) { held = hs })
    (written s.held f p i xs d y least most items place value)

-- ---- a state that is ready stays so

-- where the port does
pub port_ready : (p : ℕ) (f : Port → Port) (s : SystemState) → ((q : Port) → IsReadyPort q → IsReadyPort (f q))
    → IsReady s
    → IsReady (on_port p f s)
port_ready p f s keeps ready =
    let kept = change-length f p s.ports in
    record {
      params = ready.params;
      largest = ready.largest;
      phase = ready.phase;
      drift = ready.drift;
      places = ready.places ∙ sym kept;
      few = omega (arith, kept, ready.few);
      placed = ready.placed;
      recent = ready.recent;
      ports = all_change IsReadyPort f p s.ports keeps ready.ports;
      lapses = ready.lapses;
      told = ready.told;
      based = ready.based;
    }

placed-change_at : (f : Held → Held) → ((h : Held) → received (f h) ≡ None) → (i n : ℕ) (hs : List Held)
    → ArePlaced n hs → ArePlaced n (change_at f i hs)
placed-change_at f empty i n [] placed = tt
placed-change_at f empty zero n (h ∷ hs) placed = (λ r is. absurd (let none = empty h in cc), placed.1)
placed-change_at f empty (suc i) n (h ∷ hs) placed = (placed.0, placed-change_at f empty i (n + 1) hs placed.1)

placed-change : (f : Held → Held) → ((h : Held) → received (f h) ≡ None) → (p : ℕ) (hs : List Held) → ArePlaced 1 hs
    → ArePlaced 1 (change f p hs)
placed-change f empty zero hs placed = placed
placed-change f empty (suc i) hs placed = placed-change_at f empty i 1 hs placed

-- and where what the port holds is nothing that it received
pub held_ready : (p : ℕ) (f : Held → Held) (s : SystemState) → ((h : Held) → received (f h) ≡ None) → IsReady s
    → IsReady (on_held p f s)
held_ready p f s empty ready =
    let kept = change-length f p s.held in
    record {
      params = ready.params;
      largest = ready.largest;
      phase = ready.phase;
      drift = ready.drift;
      places = kept ∙ ready.places;
      few = ready.few;
      placed = placed-change f empty p s.held ready.placed;
      recent = all_change IsRecent f p s.held (λ h recent r is. absurd (let none = empty h in cc)) ready.recent;
      ports = ready.ports;
      lapses = ready.lapses;
      told = ready.told;
      based = ready.based;
    }
