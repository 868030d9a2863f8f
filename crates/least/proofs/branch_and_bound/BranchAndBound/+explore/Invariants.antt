use Rattle.std.proofs.Common.{◌+◌, ◌-◌, ◌*◌, length}
use Rattle.chart.specs.Limits.{max_fixes}
use Rattle.least.proofs.ExploredLegs.{LegsExplored}
use Rattle.least.proofs.branch_and_bound.BranchAndBound.+explore.Given as goal

abbrev pub decreases-explore : goal.decreases-explore
decreases-explore l = 2 * (max_fixes - length l.self.now.chain.items) + 1

abbrev pub decreases-explore_leg : goal.decreases-explore_leg
decreases-explore_leg l = 2 * (max_fixes - length l.self.now.chain.items)

abbrev pub invariant-explore-loop-k : goal.invariant-explore-loop-k
invariant-explore-loop-k l = LegsExplored l.initial.self l.here l.self l.k-iterator
