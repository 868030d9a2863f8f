use Rattle.std.proofs.Common.{◌≡◌}
use Rattle.std.specs.Io.Iter.{split_byte, split_known_bytes}
use Rattle.console.specs.Sessions.{session_of}
use Rattle.console.specs.Scripts.{line_end}
use Rattle.console.proofs.LinesTaken.{StandsIn}
use Rattle.console.proofs.program.run_script.Given as goal

abbrev pub invariant-loop-bytes : goal.invariant-loop-bytes
invariant-loop-bytes g l =
    (goal.iterator-loop-bytes g).can_next l.bytes-iterator ×
    (goal.iterator-loop-bytes g).is_finite l.bytes-iterator ×
    (split_byte l.bytes-iterator ≡ line_end) ×
    StandsIn (g.F.Files.fetches l.fn.files) (g.F.Files.stores l.fn.files) (session_of l.fn.session)
    (g.R.Read.remaining l.fn.input) (split_known_bytes g.R.Read.remaining l.bytes-iterator) (session_of l.session)
