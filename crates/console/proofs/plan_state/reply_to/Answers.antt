use Rattle.std.proofs.Common.{rules}
use Rattle.search.specs.Snapshots.{snapshot_fixes, snapshot_legs}
use Rattle.plan.specs.Plans.{ledger_of}
use Rattle.console.proofs.OneCallReplied.{one_call_replied}
use Rattle.console.proofs.plan_state.reply_to.Goals as goal

pub returns-clause-is_reply_to_call : goal.returns-clause-is_reply_to_call
returns-clause-is_reply_to_call c = one_call_replied snapshot_fixes snapshot_legs c.args.plan.now.chart (ledger_of snapshot_legs c.args.plan.now) c.args.call _ c.args.memory.now c.run.new.memory _ _ c.run.result _ _ c.run.ensures.law (search rules) c.requires.room
