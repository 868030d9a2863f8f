use Rattle.std.proofs.Common.{refl}
use Rattle.worked_examples.proofs.two_fix_file.Goals as goal

pub returns : goal.returns
returns c = refl
