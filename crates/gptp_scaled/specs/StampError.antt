-- How a refusal of a timestamp is shown.
use Rattle.std.specs.Prelude.{ℕ, List, codes}
use Rattle.gptp_scaled.specs.declared.stamp.StampError.{StampError}
use Rattle.gptp_scaled.specs.declared.stamp.StampError.TheVariants.{NanosTooLarge, SecondsTooLarge}

-- what is printed of a refusal
abbrev pub stamp_error_text : StampError → List ℕ
stamp_error_text NanosTooLarge = codes "a second or more of nanoseconds"
stamp_error_text SecondsTooLarge = codes "seconds of more than 48 bits"
