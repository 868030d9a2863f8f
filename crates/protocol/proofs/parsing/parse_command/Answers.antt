use Rattle.std.proofs.Common.{◌≢◌, refl, rules}
use Rattle.protocol.specs.declared.command.Verb.TheVariants.{Chart, Lattice, Name, Picture}
use Rattle.protocol.proofs.Parts.{command_of_plan}
use Rattle.protocol.proofs.parsing.parse_command.Goals as goal

pub returns-in_ok-parse_lattice-in-Lattice-default : goal.returns-in_ok-parse_lattice-in-Lattice-default
returns-in_ok-parse_lattice-in-Lattice-default c =
    rw c.in-Lattice-default.is-0 (_, c.in_ok-parse_lattice-in-Lattice-default.ensures, refl)

pub returns-in_default : goal.returns-in_default
returns-in_default c =
    let chart : c.args.verb ≢ Chart = search rules in
    let lattice : c.args.verb ≢ Lattice = search rules in
    let name : c.args.verb ≢ Name = search rules in
    let picture : c.args.verb ≢ Picture = search rules in
    command_of_plan c.args.verb c.args.words.now c.parse_of_plan.result chart lattice name picture c.parse_of_plan.ensures
