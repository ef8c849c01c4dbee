-- What the lines of acts tell of one system, and which of them stand last (profile).
use Rattle.std.specs.Prelude.{◌≡◌, ◌≢◌, ◌==◌, ◌+◌, ℕ, if◌then◌else◌, List, [], ◌∷◌, ◌++◌, Option, Some, None, slice_get}
use Rattle.std.specs.List.{flat_map}
use Rattle.std.specs.Option.{option_or}
use Rattle.gptp_model.specs.World.{WorldState}
use Rattle.gptp_world.specs.Transitions.{ActTrace}
use Rattle.gptp_timeline.specs.Changes.{changed_failed_line, is_same, changed_port_line, same_line, changed_system_line}
use Rattle.gptp_timeline.specs.Shown.{shown}
use Rattle.gptp_timeline.specs.declared.ports.ShownPort.{ShownPort}
use Rattle.gptp_timeline.specs.declared.shown.Shown.{Shown}

-- A line tells what a system shows but its ports, or a port of it, by its place from 0, or that it failed.
pub data Telling : Type 0 where
  OfSystem : Shown → Telling
  OfPort : ℕ → ShownPort → Telling
  OfFailure : Telling

abbrev pub telling_line : ℕ → ℕ → Telling → List ℕ
telling_line at name (OfSystem s) = changed_system_line at name s
telling_line at name (OfPort place p) = changed_port_line at name (place + 1) p
telling_line at name OfFailure = changed_failed_line at name

-- ---- what is told of a system after an act

abbrev pub port_telling : ℕ → Option ShownPort → ShownPort → List Telling
port_telling place before q = if is_same before q then [] else OfPort place q ∷ []

abbrev pub port_tellings : ℕ → List ShownPort → List ShownPort → List Telling
port_tellings place before [] = []
port_tellings place [] (q ∷ qs) = port_telling place None q ++ port_tellings (place + 1) [] qs
port_tellings place (p ∷ ps) (q ∷ qs) = port_telling place (Some p) q ++ port_tellings (place + 1) ps qs

abbrev pub tellings : Option Shown → Option Shown → List Telling
tellings None None = []
tellings (Some s) None = OfFailure ∷ []
tellings None (Some t) = OfSystem t ∷ port_tellings 0 [] t.ports
tellings (Some s) (Some t) =
    (if same_line (Some s) (Some t) then [] else OfSystem t ∷ []) ++ port_tellings 0 s.ports t.ports

-- after all these acts, one after another, and after the start before them
abbrev pub all_tellings : ℕ → WorldState → List ActTrace → List Telling
all_tellings name start ts =
    tellings None (shown name start)
    ++ flat_map (λ (t : ActTrace). tellings (shown name t.before) (shown name t.after)) ts

-- ---- what stands last

-- what the last of these tells that tells any such thing
abbrev pub last_by : {X : Type 0} → (Telling → Option X) → List Telling → Option X
last_by told [] = None
last_by told (t ∷ ts) = option_or (last_by told ts) (told t)

-- of the system itself: what it shows, or nothing where it failed
abbrev pub of_system : Telling → Option (Option Shown)
of_system (OfSystem s) = Some (Some s)
of_system (OfPort place p) = None
of_system OfFailure = Some None

-- of one of its ports
abbrev pub of_port : ℕ → Telling → Option ShownPort
of_port place (OfSystem s) = None
of_port place (OfPort other p) = if other == place then Some p else None
of_port place OfFailure = None

-- two that are alike but in their ports
pub record IsAlike (s t : Shown) : Type 0 where
  pub root : s.root ≡ t.root
  pub steps : s.steps ≡ t.steps
  pub slave : s.slave ≡ t.slave
  pub known : s.known ≡ t.known

-- What is told last of a live system, and of each of its ports, is what it shows; of one that isn't live, its own line
-- tells last that it failed, or there is none.
abbrev pub TellLast : List Telling → Option Shown → Type 0
TellLast told None = (s : Shown) → last_by of_system told ≢ Some (Some s)
TellLast told (Some t) =
    ((s : Shown) × (last_by of_system told ≡ Some (Some s)) × IsAlike s t)
    × ((place : ℕ) (p : ShownPort) → slice_get t.ports place ≡ Some p → last_by (of_port place) told ≡ Some p)
