use Rattle.std.proofs.Common.{◌≡◌, Some, slice_get, slice_index_or}
use Rattle.std.proofs.lemmas.Option.{slice_get-get_or}
use Rattle.gptp_vector.specs.declared.port.PortId.{PortId}
use Rattle.gptp_world.specs.Directory.{Join}
use Rattle.gptp_world.proofs.TellingLemmas.{ends_apart}
use Rattle.gptp_world.proofs.telling.ends_of.Goals as goal

nobody : PortId
nobody = record { clock = 0; port = 0 }

pub returns : goal.returns
returns c =
    let d = c.args.directory.now in let none : Join = record { a = nobody; b = nobody } in
    let join = slice_index_or d.joins c.args.link none in
    let here : slice_get d.joins c.args.link ≡ Some join = slice_get-get_or d.joins c.args.link none c.requires in
    let at_a = c.end_at-a.ensures join here in let at_b = c.end_at-b.ensures join here in
    record {
      join = join;
      here = here;
      at_a = at_a;
      at_b = at_b;
      apart = ends_apart d c.args.link join c.end_at-a.result c.end_at-b.result c.well_formed-2.ensures here at_a at_b;
    }
