-- The sections of a document that are arrays (profile).
use Rattle.std.specs.Prelude.{ℕ}
use Rattle.gptp_network.specs.declared.keys.Name.{Name}
use Rattle.gptp_network.specs.declared.keys.Name.TheVariants as names
use Rattle.gptp_network.specs.declared.place.Section.{Section}
use Rattle.gptp_network.specs.declared.place.Section.TheVariants as sections

abbrev pub section_name : Section → Name
section_name sections.System = names.System
section_name sections.Link = names.Link
section_name sections.Event = names.Event

-- how many members it has at most
abbrev pub section_limit : Section → ℕ
section_limit sections.System = 512
section_limit sections.Link = 2048
section_limit sections.Event = 4096
