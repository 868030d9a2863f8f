-- The word that each command begins with.
use Rattle.std.specs.Prelude.{ℕ, List, codes}
use Rattle.protocol.specs.declared.command.Verb.{Verb}
use Rattle.protocol.specs.declared.command.Verb.TheVariants.{Chart, Lattice, Name, Draft, Ends, File, Amend, Route, Regret, Floor, Quickest}
use Rattle.protocol.specs.declared.command.Verb.TheVariants.{Level, Status, Close, Picture}

abbrev pub verb_word : Verb → List ℕ
verb_word Chart = codes "chart"
verb_word Lattice = codes "lattice"
verb_word Name = codes "name"
verb_word Draft = codes "draft"
verb_word Ends = codes "ends"
verb_word File = codes "file"
verb_word Amend = codes "amend"
verb_word Route = codes "route"
verb_word Regret = codes "regret"
verb_word Floor = codes "floor"
verb_word Quickest = codes "quickest"
verb_word Level = codes "level"
verb_word Status = codes "status"
verb_word Close = codes "close"
verb_word Picture = codes "picture"
