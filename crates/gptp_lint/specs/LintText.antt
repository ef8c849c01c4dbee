-- What `lint` writes for a document (profile).
use Rattle.std.specs.Prelude.{◌≡◌, ◌==◌, ℕ, not, Bool, codes, List, ◌++◌, length, map, Option, Some, None, option_map}
use Rattle.std.specs.Fmt.{decimal}
use Rattle.std.specs.List.{flat_map}
use Rattle.std.specs.Option.{option_to_list}
use Rattle.gptp_network.specs.Faults as documents
use Rattle.gptp_network.specs.declared.fault.DocumentFault.{DocumentFault}
use Rattle.gptp_words.specs.Digits.{clock_text, identity_text, or_none}
use Rattle.gptp_words.specs.Lines.{text_of}
use Rattle.gptp_topology.specs.declared.times.CalmTime.{CalmTime}
use Rattle.gptp_lint.specs.declared.components.Apart.{Apart}
use Rattle.gptp_lint.specs.declared.components.Nobody.{Nobody}
use Rattle.gptp_lint.specs.declared.findings.Findings.{Findings}
use Rattle.gptp_lint.specs.declared.trouble.Long.{Long}
use Rattle.gptp_lint.specs.declared.trouble.Lossy.{Lossy}
use Rattle.gptp_lint.specs.declared.place.Place.TheVariants.{Member}
use Rattle.gptp_lint.specs.declared.place.Section.TheVariants.{Link}
use Rattle.gptp_lint.specs.Outline.{header_line}
use Rattle.gptp_lint.specs.Unread.{line_words}
use Rattle.gptp_lint.specs.UnreadKeys.{unread_lines}

-- the line of a document that is refused: the fault, and after it where it is and why it is one (`TellsPlace`)
abbrev pub refused_line : DocumentFault → List ℕ → List ℕ
refused_line fault place = codes "refused " ++ documents.fault_text fault ++ place

-- the line of a link that isn't good at some time
abbrev pub long_line : ℕ → Option ℕ → Long → List ℕ
long_line threshold line l =
    codes "long link " ++ decimal l.link ++ line_words line ++ codes " max " ++ decimal l.max ++ codes " needs "
    ++ decimal l.needs ++ codes " threshold " ++ decimal threshold ++ codes " at " ++ decimal l.at

-- the line of a stretch at which a link loses frames
abbrev pub lossy_line : Option ℕ → Lossy → List ℕ
lossy_line line l =
    codes "lossy link " ++ decimal l.link ++ line_words line ++ codes " loss " ++ decimal l.loss ++ codes " from "
    ++ decimal l.from ++ codes " to " ++ or_none decimal l.to

-- the line of a time at which Sync is late, and the lines of a time
abbrev pub late_line : ℕ → ℕ → ℕ → List ℕ
late_line limit at needs =
    codes "late " ++ decimal at ++ codes " needs " ++ decimal needs ++ codes " limit " ++ decimal limit

abbrev pub late_lines : ℕ → CalmTime → List (List ℕ)
late_lines limit t = option_to_list (option_map (late_line limit t.at) t.needs)

-- what is said of a time
abbrev pub calm_words : Option ℕ → List ℕ
calm_words (Some bound) = codes " yes bound " ++ decimal bound
calm_words None = codes " no"

abbrev pub calm_time_line : CalmTime → List ℕ
calm_time_line t = codes "calm " ++ decimal t.at ++ calm_words t.bound

-- the line of a system that no link names
abbrev pub unlinked_line : ℕ → List ℕ
unlinked_line clock = codes "unlinked " ++ clock_text clock

-- the line of a time after which there are several components
abbrev pub apart_line : Apart → List ℕ
apart_line a = codes "apart " ++ decimal a.at ++ codes " components " ++ decimal a.components

-- the line of two systems between which a clock decides
abbrev pub chance_line : ℕ × ℕ → List ℕ
chance_line two = codes "chance " ++ identity_text two.0 ++ codes " " ++ identity_text two.1

-- the line of a best that can't be grandmaster
abbrev pub nobody_line : Nobody → List ℕ
nobody_line n = codes "nobody " ++ decimal n.at ++ codes " " ++ identity_text n.best

-- the lines of what isn't asked of single links or times
abbrev pub other_lines : Findings → List (List ℕ)
other_lines f =
    map unlinked_line f.unlinked.items ++ map apart_line f.components.apart.items
    ++ map chance_line f.components.chance.items ++ map nobody_line f.components.nobody.items

-- all lines but those that tell of each time whether it is calm
abbrev pub found_lines : List ℕ → ℕ → Findings → List (List ℕ)
found_lines input threshold f =
    unread_lines input
    ++ map (λ (l : Long). long_line threshold (header_line input (Member Link l.link)) l) f.long.items
    ++ map (λ (l : Lossy). lossy_line (header_line input (Member Link l.link)) l) f.lossy.items
    ++ flat_map (late_lines f.limit) f.calm.items ++ other_lines f

-- The findings of a document of this threshold, which the input spells: the keys that aren't read, the links that are
-- too long or lose frames, each with the line of its header, the times at which Sync is late, the other findings, and
-- each time; and whether there is a line but the last. There is no other line.
pub record AreLines (input : List ℕ) (threshold : ℕ) (f : Findings) (lines : List (List ℕ)) (found : Bool)
    : Type 0 where
  pub lines_are : lines ≡ found_lines input threshold f ++ map calm_time_line f.calm.items
  pub found_is : found ≡ not (length (found_lines input threshold f) == 0)

abbrev pub AppendsFindings : List ℕ → ℕ → Findings → List ℕ → List ℕ → Bool → Type 0
AppendsFindings input threshold f old new found =
    (lines : List (List ℕ)) × AreLines input threshold f lines found × (new ≡ old ++ text_of lines)
