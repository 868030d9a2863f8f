use Rattle.console.specs.Sessions.{session_of}
use Rattle.console.proofs.LinesTaken.{comment_taken}
use Rattle.console.proofs.replies.take_line.Goals as goal

pub returns-in-Comment-clause-taken : goal.returns-in-Comment-clause-taken
returns-in-Comment-clause-taken g c =
    comment_taken (g.F.Files.fetches c.args.files.now) (g.F.Files.stores c.args.files.now) (session_of c.args.session.now) c.args.line c.in-Comment.is
