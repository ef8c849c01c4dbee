-- Why an act is refused, as text.
use Rattle.std.specs.Prelude.{ℕ, codes, List}
use Rattle.gptp_model.specs.declared.done.Refused.{Refused}
use Rattle.gptp_model.specs.declared.done.Refused.TheVariants.{InThePast, Untimely, NoSuch, NotDue, OutOfMemory}

-- why an act was refused, as its number and its name
abbrev pub refused_text : Refused → List ℕ
refused_text InThePast = codes "1 InThePast"
refused_text Untimely = codes "2 Untimely"
refused_text NoSuch = codes "3 NoSuch"
refused_text NotDue = codes "4 NotDue"
refused_text OutOfMemory = codes "5 OutOfMemory"
