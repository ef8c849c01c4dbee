-- Announces of marked ports, one port after the other.
use Rattle.std.proofs.Common.{◌≡◌, ℕ, zero, suc, ◌+◌, ◌<◌, ◌≤◌, Bool, true, false, if◌then◌else◌, List, [], ◌∷◌, ◌++◌, length, take, refl, ap, arith}
use Rattle.std.specs.Prelude.{slice_set, slice_index_or}
use Rattle.std.specs.List.{AllByRecursion}
use Rattle.gptp_system.specs.declared.port.Port.{Port}
use Rattle.gptp_system.specs.declared.sending.Sending.{Sending}
use Rattle.gptp_system.specs.Ready.{IsReadyPort}
use Rattle.gptp_system.specs.Sends.{announcement}
use Rattle.gptp_system.specs.Selection.{announced_again, all_announced, announcements}

-- ports keep their places
pub length-all_announced : (now : ℕ) (fs : List Bool) (qs : List Port) → length fs ≤ length qs
    → length (all_announced now fs qs) ≡ length qs
length-all_announced now [] qs few = refl
length-all_announced now (f ∷ fs) [] few = refl
length-all_announced now (f ∷ fs) (q ∷ qs) few = let ih = length-all_announced now fs qs (omega arith) in omega arith

-- no port announces more than once
pub length-announcements : (clock root steps p : ℕ) (fs : List Bool) (qs : List Port)
    → length (announcements clock root steps p fs qs) ≤ length fs
length-announcements clock root steps p [] qs = omega arith
length-announcements clock root steps p (f ∷ fs) [] = omega arith
length-announcements clock root steps p (true ∷ fs) (q ∷ qs) =
    let ih = length-announcements clock root steps (p + 1) fs qs in omega arith
length-announcements clock root steps p (false ∷ fs) (q ∷ qs) =
    let ih = length-announcements clock root steps (p + 1) fs qs in omega arith

-- a port that isn't reached stays
pub not_reached : (now i : ℕ) (fs : List Bool) (qs : List Port) (d : Port) → length fs ≤ i
    → slice_index_or (all_announced now fs qs) i d ≡ slice_index_or qs i d
not_reached now i [] qs d past = refl
not_reached now i (f ∷ fs) [] d past = refl
not_reached now zero (f ∷ fs) (q ∷ qs) d past = absurd (omega arith)
not_reached now (suc i) (f ∷ fs) (q ∷ qs) d past = not_reached now i fs qs d (omega arith)

-- one port more
pub all_announced-more : (now i : ℕ) (fs : List Bool) (qs : List Port) (d : Port) → i < length fs
    → length fs ≤ length qs
    → slice_set (all_announced now (take i fs) qs) i
    (if slice_index_or fs i false then announced_again now (slice_index_or qs i d) else slice_index_or qs i d)
    ≡ all_announced now (take (suc i) fs) qs
all_announced-more now i [] qs d within few = absurd (omega arith)
all_announced-more now i (f ∷ fs) [] d within few = absurd (omega arith)
all_announced-more now zero (f ∷ fs) (q ∷ qs) d within few = refl
all_announced-more now (suc i) (f ∷ fs) (q ∷ qs) d within few =
    ap (λ (rest : List Port). (if f then announced_again now q else q) ∷ rest)
    (all_announced-more now i fs qs d (omega arith) (omega arith))

-- and its Announce, where it is marked
one_more : (f : Bool) (x y : Sending) (xs : List Sending) → x ≡ y
    → (if f then x ∷ xs else xs) ≡ (if f then y ∷ xs else xs)
one_more true x y xs same = ap (λ (z : Sending). z ∷ xs) same
one_more false x y xs same = refl

pub announcements-more : (clock root steps p i : ℕ) (fs : List Bool) (qs : List Port) (d : Port) → i < length fs
    → length fs ≤ length qs
    → announcements clock root steps p (take (suc i) fs) qs
    ≡ announcements clock root steps p (take i fs) qs
    ++ (if slice_index_or fs i false
    then announcement (record { clock = clock; port = p + i }) root steps (slice_index_or qs i d) ∷ []
    else [])
announcements-more clock root steps p i [] qs d within few = absurd (omega arith)
announcements-more clock root steps p i (f ∷ fs) [] d within few = absurd (omega arith)
announcements-more clock root steps p zero (f ∷ fs) (q ∷ qs) d within few =
    let here : p ≡ p + 0 = omega arith in
    one_more f _ _ [] (ap (λ (n : ℕ). announcement (record { clock = clock; port = n }) root steps q) here)
announcements-more clock root steps p (suc i) (true ∷ fs) (q ∷ qs) d within few =
    let later : p + 1 + i ≡ p + suc i = omega arith in
    ap (λ (xs : List Sending). announcement (record { clock = clock; port = p }) root steps q ∷ xs)
    (rw later at (announcements-more clock root steps (p + 1) i fs qs d (omega arith) (omega arith)))
announcements-more clock root steps p (suc i) (false ∷ fs) (q ∷ qs) d within few =
    let later : p + 1 + i ≡ p + suc i = omega arith in
    rw later at (announcements-more clock root steps (p + 1) i fs qs d (omega arith) (omega arith))

-- what holds of each port holds of the one at a place
pub port_at : (qs : List Port) (i : ℕ) (d : Port) → AllByRecursion IsReadyPort qs → i < length qs
    → IsReadyPort (slice_index_or qs i d)
port_at [] i d all within = absurd (omega arith)
port_at (q ∷ qs) zero d all within = all.0
port_at (q ∷ qs) (suc i) d all within = port_at qs i d all.1 (omega arith)
