use Rattle.std.proofs.Common.{◌≡◌, ◌+◌, take}
use Rattle.runs.specs.Histories.{all_places}
use Rattle.runs.proofs.run.check_room.Given as goal

abbrev pub invariant-loop-call : goal.invariant-loop-call
invariant-loop-call l = l.left + all_places (take l.call-index l.calls) ≡ l.fn.memory
