use Rattle.std.proofs.Common.{◌≡◌, [], append-nil, inl, inr, refl, subst, sym, ◌∷◌, ◌++◌, string_bytes}
use Rattle.std.proofs.lemmas.Result.{on_ok_weaker}
use Rattle.std.specs.List.{range_with_len}
use Rattle.gptp_certificate_text.specs.Certificate.{line_of}
use Rattle.gptp_network.specs.Snapshot.{system_of}
use Rattle.gptp_explain.proofs.TextLemmas.{line_and_lines}
use Rattle.gptp_explain.specs.Explained.{LeadsUp, path_line}
use Rattle.gptp_explain.specs.Ports.{ArePortLines}
use Rattle.gptp_explain.proofs.explanation.write_way.Goals as goal

pub returns-then-line : goal.returns-then-line
returns-then-line c =
    let settled = c.requires.choice.settled (line_of c.args.line.now) c.requires.stated.stated in
    ([], inr (settled.far c.if-line.true, refl), sym (append-nil _))

pub write_path-requires-clause-distance : goal.write_path-requires-clause-distance
write_path-requires-clause-distance c =
    (c.requires.choice.settled (line_of c.args.line.now) c.requires.stated.stated).steps

pub write_path-requires-clause-near : goal.write_path-requires-clause-near
write_path-requires-clause-near c =
    (c.requires.choice.settled (line_of c.args.line.now) c.requires.stated.stated).near c.if-line.false

-- the path, and after it the lines of all ports
pub returns : goal.returns
returns c =
    let line = line_of c.args.line.now in let s = system_of (c.args.own, c.args.ports) in
    let g = c.args.snapshot.now in let d = c.args.document.now in
    let settled = c.requires.choice.settled line c.requires.stated.stated in
    let (above, leads, path) = c.in_ok-write_path.ensures in
    let numbers = c.requires.choice.systems.ports s line
    (record { live = c.requires.live; stated = c.requires.stated.stated; clock = c.requires.stated.has })
    c.if-line.false in
    on_ok_weaker c.write_ports.result (λ (ports, are, text). (
      path_line s.clock above ∷ ports,
      inl (
        settled.near c.if-line.false,
        record {
          above = above;
          leads = subst (λ v. LeadsUp g v above) c.requires.stated.has leads;
          ports = ports;
          are_ports = subst (λ v. ArePortLines d c.args.at g v (range_with_len 1 s.ports) ports) c.requires.stated.has
              (subst (λ ns. ArePortLines d c.args.at g line.clock ns ports) numbers are);
          are = refl;
        },
      ),
      line_and_lines (string_bytes c.args.text.now) (string_bytes c.write_path.new.text)
          (string_bytes c.write_ports.new.text) (path_line s.clock above) ports
          (subst (λ v. string_bytes c.write_path.new.text
          ≡ string_bytes c.args.text.now ++ (path_line v above ++ 10 ∷ [])) c.requires.stated.has path)
          text,
    )) c.write_ports.ensures
