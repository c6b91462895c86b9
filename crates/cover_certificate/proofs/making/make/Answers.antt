-- What a certificate is made of makes it regular, and closed where the choice is a cover.
use Rattle.std.proofs.Common.{rules, ◌≡◌, List, subst}
use Rattle.c_graph.specs.Ways.{LeadsToNodes}
use Rattle.ts_domain.specs.Derived.{AreDerived}
use Rattle.ts_domain.specs.May.{IsMay}
use Rattle.ts_domain.specs.Path.{IsPath}
use Rattle.ts_domain.specs.declared.triples.Triple.{Triple}
use Rattle.cover_certificate.specs.declared.types.Cert.{Cert}
use Rattle.cover_certificate.specs.Lines.{AreLines}
use Rattle.cover_certificate.specs.Making.{IsMade}
use Rattle.cover_certificate.proofs.CoverCloses.{closes_cover}
use Rattle.cover_certificate.proofs.MadeLaws.{is_made}
use Rattle.cover_certificate.proofs.making.make.Goals as goal

pub returns : goal.returns
returns c =
    let n = c.args.names.now in
    let g = c.args.graph.now in
    let f = c.args.facts.now in
    let d = c.args.derived.now in
    let s = c.args.choice.now in
    let cert : Cert = record { may = c.in_ok-may.may; path = c.in_ok-path.path; marks = c.in_ok-marks.marks } in
    let slice : c.as_slice.result.now ≡ d.triples = search rules in
    let listed : AreLines n s c.as_slice.result.now c.in_ok-marks.marks = search rules in
    let same_may : c.in_ok-may.may ≡ f.may = search rules in
    let same_path : c.in_ok-path.path ≡ f.path = search rules in
    let made : LeadsToNodes g → IsMay n g f.may → IsPath n g f.path → AreDerived n g f d → IsMade n g f d s cert =
    λ leads may path derived.
    is_made n g f d s c.in_ok-marks.marks leads derived (subst (λ (ts : List Triple). AreLines n s ts c.in_ok-marks.marks) slice listed) may path c.in_ok-may.may c.in_ok-path.path same_may same_path in
    record { made = made; closes = closes_cover n g f d s cert c.requires made }
