-- How a refusal is shown: its number and its name.
use Rattle.std.specs.Prelude.{ℕ, List, codes}
use Rattle.gptp_messages.specs.declared.refused.Refused.{Refused}
use Rattle.gptp_messages.specs.declared.refused.Refused.TheVariants.{Short, NotGptp, Version, UnknownType, LengthField, Domain, Tlv, StampRange}

abbrev pub refusal_text : Refused → List ℕ
refusal_text Short = codes "1 Short"
refusal_text NotGptp = codes "2 NotGptp"
refusal_text Version = codes "3 Version"
refusal_text UnknownType = codes "4 UnknownType"
refusal_text LengthField = codes "5 LengthField"
refusal_text Domain = codes "6 Domain"
refusal_text Tlv = codes "7 Tlv"
refusal_text StampRange = codes "8 StampRange"
