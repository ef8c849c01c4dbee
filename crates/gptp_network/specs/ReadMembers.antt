-- The members of a section that is an array, or which of them is refused (profile).
use Rattle.std.specs.Prelude.{ℕ, suc, ◌==◌, nat_lt, if◌then◌else◌, Result, Ok, Err}
use Rattle.toml.specs.Data.{Data, Items, Members, no_items, item}
use Rattle.gptp_network.specs.Faults.{◌>>=◌}
use Rattle.gptp_network.specs.Members.{count}
use Rattle.gptp_network.specs.Place.{section_limit, section_name}
use Rattle.gptp_network.specs.Reading.{array_in}
use Rattle.gptp_network.specs.Why.{at_place}
use Rattle.gptp_network.specs.declared.keys.Name.TheVariants as names
use Rattle.gptp_network.specs.declared.place.Place.TheVariants as places
use Rattle.gptp_network.specs.declared.place.Section.{Section}
use Rattle.gptp_network.specs.declared.why.Refusal.{Refusal}
use Rattle.gptp_network.specs.declared.why.Why.{Why}
use Rattle.gptp_network.specs.declared.why.Why.TheVariants as whys

-- a section of another kind is refused at the top
abbrev pub section_in : Section → Members → Result Items Refusal
section_in section t = at_place places.Top (array_in (section_name section) t)

-- the section of the systems, which must be there
unfoldable pub needed_in : Items → Result Items Refusal
needed_in ds =
    if count ds == 0 then Err (record { place = places.Top; why = whys.Missing names.System })
    else Ok ds

-- a section that has so many members at most: else the first of those too many is refused
unfoldable pub limited_in : Section → Items → Result Items Refusal
limited_in section ds =
    if nat_lt (section_limit section) (count ds)
    then Err (record {
      place = places.Member section (section_limit section);
      why = whys.TooMany (count ds) (section_limit section);
    })
    else Ok ds

-- what each of them makes, one after another, of what those before it made, where the first of them has this number
abbrev pub read_each : {X : Type 0} → Section → (Data → X → Result X Why) → ℕ → Items → X → Result X Refusal
read_each section one number no_items x = Ok x
read_each section one number (item d ds) x = do
  y ← at_place (places.Member section number) (one d x)
  read_each section one (suc number) ds y
